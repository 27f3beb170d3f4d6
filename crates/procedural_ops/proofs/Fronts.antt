-- The first steps of a chain, and what is remembered of them.
use Rattle.std.specs.Prelude.{slice_get, unwrap_or}
use Rattle.std.proofs.Common.{◌≡◌, ◌==◌, ◌&&◌, ℕ, ◌<◌, ◌≤◌, get_or, Bool, true, false, cond, List, [], ◌∷◌, ◌++◌, take, length, Option, Some, None, refl, sym, ap, ◌∙◌, length-append, arith}
use Rattle.std.proofs.lemmas.Bool.{and_parts, eqb-true}
use Rattle.std.proofs.lemmas.List.{take_min, length-take, take-take}
use Rattle.std.proofs.lemmas.Option.{slice_get_read}
use Rattle.std.proofs.Math.Seq.{take-append_seam}
use Rattle.selector_tree.specs.declared.filter.Filter.{Filter}
use Rattle.selector_tree.specs.declared.selector.Step.{Step}
use Rattle.page_tree.specs.Forest.{Tree}
use Rattle.selector_meaning.specs.Texts.{Bytes}
use Rattle.remembered.specs.Known.{known, same_front, Knows}
use Rattle.remembered.specs.declared.members.Front.{Front}
use Rattle.procedural_ops.specs.Others.{AreRight, leads_below, steps_of}
use Rattle.procedural_ops.specs.Noted.{chain_tests}
use Rattle.procedural_ops.proofs.Totals.{chain_append}

pub first_steps : (steps chain : List Step) (i : ℕ) → steps ≡ chain → take i steps ≡ take (length (take i steps)) chain
first_steps steps chain i e = sym (take_min i steps) ∙ ap (λ (n : ℕ). take n steps) (sym (length-take i steps)) ∙ ap (take (length (take i steps))) e

pub all_but_last : (steps before : List Step) (last : Step) (chain : List Step) → steps ≡ before ++ (last ∷ []) → steps ≡ take (length steps) chain →
    before ≡ take (length before) chain
all_but_last steps before last chain is at =
    let less : length before ≤ length steps = omega (arith, ap (λ (l : List Step). length l) is, length-append before (last ∷ [])) in
    sym (take-append_seam before (last ∷ [])) ∙ ap (take (length before)) (sym is ∙ at) ∙ take-take (length before) (length steps) chain less

-- what comes before the last asks no more
pub fewer_asked : (steps before : List Step) (last : Step) → steps ≡ before ++ (last ∷ []) → length (chain_tests before) ≤ length (chain_tests steps)
fewer_asked steps before last is =
    omega (arith, ap (λ (l : List Step). length (chain_tests l)) is, ap length (chain_append before (last ∷ [])), length-append (chain_tests before) (chain_tests (last ∷ [])))

abbrev made : ℕ → ℕ → ℕ → ℕ → Front
made filter chain steps parent = record { filter = filter; chain = chain; steps = steps; parent = parent }

same_made : (f g c d s r p q : ℕ) → f ≡ g → c ≡ d → s ≡ r → p ≡ q → made f c s p ≡ made g d r q
same_made f g c d s r p q a b e h =
    ap (λ (n : ℕ). made n c s p) a ∙ ap (λ (n : ℕ). made g n s p) b ∙ ap (λ (n : ℕ). made g d n p) e ∙ ap (λ (n : ℕ). made g d r n) h

same_is : (a b : Front) → same_front a b ≡ true → a ≡ b
same_is a b h =
    let one = and_parts (a.filter == b.filter) ((a.chain == b.chain) && ((a.steps == b.steps) && (a.parent == b.parent))) h in
    let two = and_parts (a.chain == b.chain) ((a.steps == b.steps) && (a.parent == b.parent)) one.1 in
    let three = and_parts (a.steps == b.steps) (a.parent == b.parent) two.1 in
    same_made a.filter b.filter a.chain b.chain a.steps b.steps a.parent b.parent
    (eqb-true a.filter b.filter one.0) (eqb-true a.chain b.chain two.0) (eqb-true a.steps b.steps three.0) (eqb-true a.parent b.parent three.1)

-- one more answer that is right
pub right_more : (t : Tree) (path : Bytes) (filters : List Filter) (old new : List (Front × Bool)) (front : Front) (answer : Bool) → AreRight t path filters old → Knows old new front answer →
    answer ≡ leads_below t path (steps_of filters front) front.parent → AreRight t path filters new
right_more t path filters old new front answer right knows is = record { right = λ other b found. by other b (same_front front other) refl (sym (knows other) ∙ found) }
  where
    by : (other : Front) (b v : Bool) → same_front front other ≡ v → cond v (Some answer) (known old other) ≡ Some b → b ≡ leads_below t path (steps_of filters other) other.parent
    by other b true e found =
        let same : answer ≡ b = cc in
        sym same ∙ is ∙ ap (λ (f : Front). leads_below t path (steps_of filters f) f.parent) (same_is front other e)
    by other b false e found = right.right other b found

-- nothing is remembered at first
pub none_right : (t : Tree) (path : Bytes) (filters : List Filter) → AreRight t path filters []
none_right t path filters = record { right = λ front b found. absurd (let no : None ≡ Some b = found in cc) }

-- the item at a place
pub chain_is : (chains : List (List Step)) (i : ℕ) (chain : List Step) → i < length chains → chain ≡ get_or chains i chain → chain ≡ unwrap_or (slice_get chains i) []
chain_is chains i chain h e = sym (ap (λ (o : Option (List Step)). unwrap_or o []) (slice_get_read chains (length chains) i chain refl h e))
