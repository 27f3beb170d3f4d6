use Rattle.std.proofs.Common.{◌≤◌, ◌<◌, ℕ, List, [], ◌∷◌, ap, ◌∙◌, subst, length, arith}
use Rattle.std.proofs.lemmas.List.{length-map, map-append}
use Rattle.std.specs.Str.{str_to_ascii_lowercase}
use denote.Ref.{Bor}
use Rattle.html_tree.specs.Chain.{names_of}
use Rattle.html_tree.specs.Counts.{AreCounted}
use Rattle.html_tree.specs.declared.chain.TheConstants.{OUTER}
use Rattle.html_tree.specs.declared.spelled.SpelledName.{SpelledName}
use Rattle.html_tree.proofs.Counts.{counted_some, counted_pop, counted_pop_few}
use Rattle.html_tree.proofs.chain.OpenNames.pop.Goals as goal

pub count_less-requires : goal.count_less-requires
count_less-requires c =
    let left = c.pop.new.self.items in
    let key : SpelledName = record { spelled = c.in-Some.name } in
    let was = ap names_of c.in-Some.ensures.items ∙ map-append (λ (name : Bor (List ℕ)). str_to_ascii_lowercase name.now) left (c.in-Some.name ∷ []) in
    let many : OUTER ≤ length (names_of left) = omega (arith, c.if-len-ge-OUTER.true, c.len.ensures, length-map left (λ (name : Bor (List ℕ)). str_to_ascii_lowercase name.now)) in
    counted_some c.self.inside.counts (names_of left) key (subst (AreCounted c.self.inside.counts) was c.self.invariant) many

pub invariant_of-self : goal.invariant_of-self
invariant_of-self c =
    let left = c.pop.new.self.items in
    let name = str_to_ascii_lowercase c.in-Some.name.now in
    let was = ap names_of c.in-Some.ensures.items ∙ map-append (λ (name : Bor (List ℕ)). str_to_ascii_lowercase name.now) left (c.in-Some.name ∷ []) in
    let many : OUTER ≤ length (names_of left) = omega (arith, c.if-len-ge-OUTER.true, c.len.ensures, length-map left (λ (name : Bor (List ℕ)). str_to_ascii_lowercase name.now)) in
    counted_pop c.self.inside.counts c.count_less.new.counts (names_of left) name (subst (AreCounted c.self.inside.counts) was c.self.invariant) many c.count_less.ensures

pub invariant_of-self-else-len-ge-OUTER : goal.invariant_of-self-else-len-ge-OUTER
invariant_of-self-else-len-ge-OUTER c =
    let left = c.pop.new.self.items in
    let name = str_to_ascii_lowercase c.in-Some.name.now in
    let was = ap names_of c.in-Some.ensures.items ∙ map-append (λ (name : Bor (List ℕ)). str_to_ascii_lowercase name.now) left (c.in-Some.name ∷ []) in
    let few : length (names_of left) < OUTER = omega (arith, c.if-len-ge-OUTER.false, c.len.ensures, length-map left (λ (name : Bor (List ℕ)). str_to_ascii_lowercase name.now)) in
    counted_pop_few c.self.inside.counts (names_of left) name (subst (AreCounted c.self.inside.counts) was c.self.invariant) few
