-- The rest of a chain behind some of its steps, and what is remembered of rests.
use Rattle.std.proofs.Common.{◌≡◌, ℕ, ◌+◌, ◌-◌, ◌≤◌, Bool, true, false, ◌&&◌, ◌==◌, cond, Option, Some, None, List, [], ◌∷◌, take, drop, length, refl, sym, ap, ap₂, subst, ◌∙◌, arith}
use Rattle.std.specs.Prelude.{nat_eq}
use Rattle.std.specs.Map.{lookup}
use Rattle.std.proofs.Math.ListN.{replicate}
use Rattle.std.proofs.lemmas.Bool.{and_parts, eqb-true}
use Rattle.std.proofs.lemmas.List.{drop-drop}
use Rattle.cos_patterns.specs.declared.written.Written.{Written}
use Rattle.selector_tree.specs.declared.selector.Step.{Step}
use Rattle.selector_tree.specs.declared.selector.Test.{Test}
use Rattle.page_tree.specs.Forest.{Tree}
use Rattle.selector_meaning.specs.Texts.{Bytes}
use Rattle.proper_filters.specs.Proper.{are_inner}
use Rattle.remembered.specs.Noted.{answer_at, Notes}
use Rattle.procedural_ops.specs.Noted.{IsPart, chain_cells}
use Rattle.procedural_ops.specs.Reaching.{leads_from}
use Rattle.procedural_ops.specs.Rests.{AreRight, last_of, steps_of}
use Rattle.procedural_ops.specs.declared.rest.Rest.{Rest}
use Rattle.procedural_ops.proofs.Weights as weights
use Rattle.procedural_ops.proofs.Parts as parts
use Rattle.remembered.proofs.Blank.{nothing_at}

pub behind_is : (rest next : Rest) (many : ℕ) → next.chain.now ≡ rest.chain.now → next.from ≡ rest.from + many → steps_of next ≡ drop many (steps_of rest)
behind_is rest next many chain from = ap₂ (λ (n : ℕ) (l : List Step). drop n l) from chain ∙ sym (drop-drop many rest.from rest.chain.now)

-- the rest behind some steps may be asked where the whole may
pub may_ask : (patterns : List Written) (cells : List Test) (rest next : Rest) (many : ℕ) → next.chain.now ≡ rest.chain.now → next.from ≡ rest.from + many
    → next.begin ≡ rest.begin + length (chain_cells (take many (steps_of rest))) → rest.from + many ≤ length rest.chain.now
    → are_inner patterns (steps_of rest) ≡ true → IsPart cells rest.begin (chain_cells (steps_of rest))
    → (next.from ≤ length next.chain.now) × ((are_inner patterns (steps_of next) ≡ true) × IsPart cells next.begin (chain_cells (steps_of next)))
may_ask patterns cells rest next many chain from begin fits proper at =
    let tail = behind_is rest next many chain from in (
      omega (arith, from, ap (λ (l : List Step). length l) chain, fits),
      (
        ap (are_inner patterns) tail ∙ (weights.inner_cut patterns many (steps_of rest) proper).1,
        parts.part_tail cells rest.begin (steps_of rest) (steps_of next) many next.begin at begin tail,
      ),
    )

-- what is remembered of a chain is so of the same chain
pub of_same : (t : Tree) (path : Bytes) (a b : List Step) (answers : List (List (ℕ × Bool))) → a ≡ b → AreRight t path a answers → AreRight t path b answers
of_same t path a b answers is right = subst (λ (l : List Step). AreRight t path l answers) is right

-- the rest has so many of the last steps
pub is_last : (rest : Rest) (left : ℕ) → rest.from ≤ length rest.chain.now → left ≡ length rest.chain.now - rest.from → last_of rest.chain.now left ≡ steps_of rest
is_last rest left within is =
    let n : length rest.chain.now - left ≡ rest.from = omega (arith, within, is) in
    ap (λ (k : ℕ). drop k rest.chain.now) n

-- one more answer that is right
pub right_more : (t : Tree) (path : Bytes) (chain : List Step) (old new : List (List (ℕ × Bool))) (left x : ℕ) (answer : Bool) → AreRight t path chain old
    → Notes old new left x answer → answer ≡ leads_from t path (last_of chain left) x → AreRight t path chain new
right_more t path chain old new left x answer right notes is = record { right = λ k z b found. by k z b ((left == k) && (x == z)) refl (sym (notes.answers k z) ∙ found) }
  where
    by : (k z : ℕ) (b v : Bool) → ((left == k) && (x == z)) ≡ v → cond v (Some answer) (answer_at old k z) ≡ Some b → b ≡ leads_from t path (last_of chain k) z
    by k z b true e found =
        let same : answer ≡ b = cc in
        let both = and_parts (left == k) (x == z) e in
        sym same ∙ is ∙ ap₂ (λ (n m : ℕ). leads_from t path (last_of chain n) m) (eqb-true left k both.0) (eqb-true x z both.1)
    by k z b false e found = right.right k z b found

-- nothing is remembered at first
pub none_right : (t : Tree) (path : Bytes) (chain : List Step) (many : ℕ) → AreRight t path chain (replicate many [])
none_right t path chain many = record {
  right = λ k z b found.
      let none : answer_at (replicate many []) k z ≡ None = ap (lookup (nat_eq z)) (nothing_at many k) in
      let no : None ≡ Some b = sym none ∙ found in
      cc;
}
