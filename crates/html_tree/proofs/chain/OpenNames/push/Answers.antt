use Rattle.std.proofs.Common.{◌≤◌, ◌<◌, ℕ, List, [], ◌∷◌, ap, sym, ◌∙◌, subst, length, length-append, arith}
use Rattle.std.proofs.lemmas.List.{length-map, map-append}
use Rattle.std.specs.Str.{str_to_ascii_lowercase}
use denote.Ref.{Bor}
use Rattle.html_tree.specs.Chain.{names_of}
use Rattle.html_tree.specs.Counts.{AreCounted}
use Rattle.html_tree.specs.declared.chain.TheConstants.{OUTER}
use Rattle.html_tree.specs.declared.spelled.SpelledName.{SpelledName}
use Rattle.html_tree.proofs.Counts.{counted_few, counted_push, counted_push_few}
use Rattle.html_tree.proofs.chain.OpenNames.push.Goals as goal

pub count_more-requires : goal.count_more-requires
count_more-requires c =
    let items = c.self.inside.names.items in
    let key : SpelledName = record { spelled = c.args.name } in
    let few = counted_few c.self.inside.counts (names_of items) key c.self.invariant in
    let long = length-map items (λ (name : Bor (List ℕ)). str_to_ascii_lowercase name.now) in
    omega (arith, few, long, c.len-then-len-gt-OUTER.ensures, ap length c.in_ok-push.ensures.items, length-append items (c.args.name ∷ []))

pub invariant_of-self-in_default : goal.invariant_of-self-in_default
invariant_of-self-in_default c =
    let items = c.self.inside.names.items in
    let name = str_to_ascii_lowercase c.args.name.now in
    let is = ap names_of c.in_ok-push.ensures.items ∙ map-append (λ (name : Bor (List ℕ)). str_to_ascii_lowercase name.now) items (c.args.name ∷ []) in
    let long = length-map items (λ (name : Bor (List ℕ)). str_to_ascii_lowercase name.now) in
    let many : OUTER ≤ length (names_of items) = omega (arith, long, c.if-len-gt-OUTER.true, c.len.ensures, ap length c.in_ok-push.ensures.items, length-append items (c.args.name ∷ [])) in
    subst (AreCounted c.count_more.new.counts) (sym is)
    (counted_push c.self.inside.counts c.count_more.new.counts (names_of items) name c.self.invariant many c.in_default.ensures.ok)

pub invariant_of-self-else-len-gt-OUTER : goal.invariant_of-self-else-len-gt-OUTER
invariant_of-self-else-len-gt-OUTER c =
    let items = c.self.inside.names.items in
    let name = str_to_ascii_lowercase c.args.name.now in
    let is = ap names_of c.in_ok-push.ensures.items ∙ map-append (λ (name : Bor (List ℕ)). str_to_ascii_lowercase name.now) items (c.args.name ∷ []) in
    let long = length-map items (λ (name : Bor (List ℕ)). str_to_ascii_lowercase name.now) in
    let few : length (names_of items) < OUTER = omega (arith, long, c.if-len-gt-OUTER.false, c.len.ensures, ap length c.in_ok-push.ensures.items, length-append items (c.args.name ∷ [])) in
    subst (AreCounted c.self.inside.counts) (sym is) (counted_push_few c.self.inside.counts (names_of items) name c.self.invariant few)
