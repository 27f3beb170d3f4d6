-- What is remembered, and how much is still to be asked.
use Rattle.std.proofs.Common.{◌≡◌, ℕ, zero, suc, ◌+◌, ◌*◌, ◌<◌, ◌≤◌, Bool, true, false, ◌&&◌, ◌==◌, nat_eq, not, cond, List, [], ◌∷◌, ◌++◌, length, get_or, Option, Some, None, refl, sym, ap, ◌∙◌, length-append, arith}
use Rattle.std.specs.Option.{is_some}
use Rattle.std.proofs.lemmas.Bool.{both_ways, and_parts, and_from, eqb-true, eq-eqb}
use Rattle.std.specs.Map.{lookup}
use Rattle.std.proofs.Math.ListN.{replicate, length-replicate}
use Rattle.selector_tree.specs.declared.selector.Step.{Step}
use Rattle.selector_tree.specs.declared.selector.Test.{Test}
use Rattle.page_tree.specs.Forest.{Tree}
use Rattle.page_tree.specs.Standings.{all}
use Rattle.page_tree.specs.Directions.{is_in}
use Rattle.cos_patterns.specs.Found.{pattern_found}
use Rattle.selector_meaning.specs.Texts.{Bytes}
use Rattle.selector_meaning.specs.Meaning.{holds}
use Rattle.procedural_ops.specs.Noted.{chain_tests, chain_cells, many_single, IsPart, missing, unknown, IsRight}
use Rattle.remembered.specs.Noted.{answer_at, Notes}
use Rattle.remembered.proofs.Blank.{nothing_at}
use Rattle.selector_match.specs.Kinds.{is_single}
use Rattle.procedural_ops.specs.Count.{many_passing}
use Rattle.procedural_ops.proofs.Parts.{chain_single_tests}
use Rattle.procedural_ops.proofs.Counts.{passing_le, passing_less, passing_few}

-- ---- a test at its place

get_behind : (before behind : List Test) (q : Test) → q ≡ get_or (before ++ (q ∷ behind)) (length before) q
get_behind [] behind q = refl
get_behind (r ∷ before) behind q = get_behind before behind q

pub at_place : (tests : List Test) (k : ℕ) (q : Test) → IsPart tests k (q ∷ []) → (k < length tests) × (q ≡ get_or tests k q)
at_place tests k q p = (
  omega (arith, ap (λ (l : List Test). length l) p.is, length-append p.before (q ∷ p.behind), p.long),
  get_behind p.before p.behind q ∙ ap (λ (l : List Test). get_or l (length p.before) q) (sym p.is) ∙ ap (λ (n : ℕ). get_or tests n q) p.long,
)

-- ---- missing answers

part_le : (b : Bool) (m n : ℕ) → m ≤ n → cond {A = ℕ} b m 0 ≤ cond {A = ℕ} b n 0
part_le true m n h = h
part_le false m n h = omega arith

module _ (f g : ℕ → ℕ → Option Bool) (elements : List ℕ) (more : (k z : ℕ) → not (is_some (g k z)) ≡ true → not (is_some (f k z)) ≡ true) where
  missing_le : (tests : List Test) (k : ℕ) → missing g elements tests k ≤ missing f elements tests k
  missing_le [] k = omega arith
  missing_le (q ∷ tests) k =
      omega (
        arith,
        part_le (is_single q) (many_passing (λ z. not (is_some (g k z))) elements) (many_passing (λ z. not (is_some (f k z))) elements)
            (passing_le (λ z. not (is_some (g k z))) (λ z. not (is_some (f k z))) (more k) elements),
        missing_le tests (suc k),
      )

  missing_less : (tests : List Test) (first i k x : ℕ) (q : Test) → i < length tests → q ≡ get_or tests i q → is_single q ≡ true → k ≡ first + i → is_in elements x ≡ true →
      not (is_some (g k x)) ≡ false → not (is_some (f k x)) ≡ true → missing g elements tests first + 1 ≤ missing f elements tests first
  missing_less [] first i k x q h e single at there after before = absurd (omega (arith, h))
  missing_less (r ∷ tests) first zero k x q h e single at there after before =
      let here : k ≡ first = omega (arith, at) in
      let less = passing_less (λ z. not (is_some (g first z))) (λ z. not (is_some (f first z))) (more first) elements x there
      (ap (λ (m : ℕ). not (is_some (g m x))) (sym here) ∙ after) (ap (λ (m : ℕ). not (is_some (f m x))) (sym here) ∙ before) in
      let one : (n : ℕ) → cond {A = ℕ} (is_single r) n 0 ≡ n = λ n. ap (λ (b : Bool). cond {A = ℕ} b n 0) (ap is_single (sym e) ∙ single) in
      omega (
        arith,
        less,
        one (many_passing (λ z. not (is_some (g first z))) elements),
        one (many_passing (λ z. not (is_some (f first z))) elements),
        missing_le tests (suc first),
      )
  missing_less (r ∷ tests) first (suc i) k x q h e single at there after before =
      omega (
        arith,
        part_le (is_single r) (many_passing (λ z. not (is_some (g first z))) elements) (many_passing (λ z. not (is_some (f first z))) elements)
            (passing_le (λ z. not (is_some (g first z))) (λ z. not (is_some (f first z))) (more first) elements),
        missing_less tests (suc first) i k x q (omega (arith, h)) e single (omega (arith, at)) there after before,
      )

missing_few : (f : ℕ → ℕ → Option Bool) (elements : List ℕ) (tests : List Test) (k : ℕ) → missing f elements tests k ≤ many_single tests * length elements
missing_few f elements [] k = omega arith
missing_few f elements (q ∷ tests) k = by (is_single q) (missing_few f elements tests (suc k))
  where
    by : (b : Bool) → missing f elements tests (suc k) ≤ many_single tests * length elements →
        cond {A = ℕ} b (many_passing (λ z. not (is_some (f k z))) elements) 0 + missing f elements tests (suc k) ≤ (cond {A = ℕ} b 1 0 + many_single tests) * length elements
    by true h =
        let e : (1 + many_single tests) * length elements ≡ length elements + many_single tests * length elements = grind arith in
        omega (arith, e, passing_few (λ z. not (is_some (f k z))) elements, h)
    by false h = omega (arith, h)

-- ---- one answer more

any_default : (l : List Test) (i : ℕ) (d e : Test) → i < length l → get_or l i d ≡ get_or l i e
any_default [] i d e h = absurd (omega (arith, h))
any_default (x ∷ l) zero d e h = refl
any_default (x ∷ l) (suc i) d e h = any_default l i d e (omega (arith, h))

-- what is remembered at one place
both_are : (k j x z : ℕ) → ((k == j) && (x == z)) ≡ true → (k ≡ j) × (x ≡ z)
both_are k j x z h = let p = and_parts (k == j) (x == z) h in (eqb-true k j p.0, eqb-true x z p.1)

module _ (old new : List (List (ℕ × Bool))) (k x : ℕ) (b : Bool) (h : Notes old new k x b) where
  now : answer_at new k x ≡ Some b
  now = h.answers k x ∙ ap (λ (v : Bool). cond v (Some b) (answer_at old k x)) (and_from (k == k) (x == x) (eq-eqb k k refl) (eq-eqb x x refl))

  on : (j z : ℕ) → not (is_some (answer_at new j z)) ≡ true → not (is_some (answer_at old j z)) ≡ true
  on j z none = pick ((k == j) && (x == z)) (ap (λ (o : Option Bool). not (is_some o)) (sym (h.answers j z)) ∙ none)
    where
      pick : (v : Bool) → not (is_some (cond v (Some b) (answer_at old j z))) ≡ true → not (is_some (answer_at old j z)) ≡ true
      pick true e = absurd (both_ways false refl e)
      pick false e = e

  module _ (t : Tree) (steps : List Step) where
    -- it isn't missing any more
    pub fewer_unknown : (q : Test) → k < length (chain_cells steps) → q ≡ get_or (chain_cells steps) k q → is_single q ≡ true → is_in (all t) x ≡ true → answer_at old k x ≡ None →
        unknown t steps new + 1 ≤ unknown t steps old
    unfolding unknown
    fewer_unknown q within at single there none =
        missing_less (answer_at old) (answer_at new) (all t) on (chain_cells steps) 0 k k x q within at single (omega arith) there
        (ap (λ (o : Option Bool). not (is_some o)) now) (ap (λ (o : Option Bool). not (is_some o)) none)

    pub no_more_unknown : unknown t steps new ≤ unknown t steps old
    unfolding unknown
    no_more_unknown = missing_le (answer_at old) (answer_at new) (all t) on (chain_cells steps) 0

    module _ (path : Bytes) (q : Test) (at : q ≡ get_or (chain_cells steps) k q) where
      -- what was right stays so, where the answer is right
      pub right_more : IsRight t steps old path → b ≡ holds pattern_found t path q x → IsRight t steps new path
      right_more right is = record {
        long = h.long ∙ right.long;
        right = λ j z d r within place found. by j z d r ((k == j) && (x == z)) refl (sym (h.answers j z) ∙ found) within place;
      }
        where
          by : (j z : ℕ) (d : Bool) (r : Test) (v : Bool) → ((k == j) && (x == z)) ≡ v → cond v (Some b) (answer_at old j z) ≡ Some d →
              j < length new → r ≡ get_or (chain_cells steps) j r → d ≡ holds pattern_found t path r z
          by j z d r true e found within place =
              let same = both_are k j x z e in
              let there : j < length (chain_cells steps) = omega (arith, within, h.long, right.long) in
              let one : r ≡ q = place ∙ any_default (chain_cells steps) j r q there ∙ ap (λ (n : ℕ). get_or (chain_cells steps) n q) (sym same.0) ∙ sym at in
              let answer : b ≡ d = cc in
              sym answer ∙ is ∙ ap (λ (v : Test). holds pattern_found t path v x) (sym one) ∙ ap (holds pattern_found t path r) same.1
          by j z d r false e found within place = right.right j z d r (omega (arith, within, h.long)) place found

-- an answer over another
over_both : (b d : Bool) (v : Bool) (o : Option Bool) → cond v (Some d) (cond v (Some b) o) ≡ cond v (Some d) o
over_both b d true o = refl
over_both b d false o = refl

pub over : (old mid new : List (List (ℕ × Bool))) (k x : ℕ) (b d : Bool) → Notes old mid k x b → Notes mid new k x d → Notes old new k x d
over old mid new k x b d one two = record {
  long = two.long ∙ one.long;
  answers = λ j z. two.answers j z ∙ ap (cond ((k == j) && (x == z)) (Some d)) (one.answers j z) ∙ over_both b d ((k == j) && (x == z)) (answer_at old j z);
}

-- ---- no answers

pub none_right : (t : Tree) (steps : List Step) (path : Bytes) (many : ℕ) → many ≡ length (chain_cells steps) → IsRight t steps (replicate many []) path
none_right t steps path many e = record {
  long = length-replicate many [] ∙ e;
  right = λ k x b q within place found.
      let none : answer_at (replicate many []) k x ≡ None = ap (lookup (nat_eq x)) (nothing_at many k) in
      let no : None ≡ Some b = sym none ∙ found in
      cc;
}

pub few_unknown : (t : Tree) (steps : List Step) (notes : List (List (ℕ × Bool))) → unknown t steps notes ≤ length (chain_tests steps) * length (all t)
unfolding unknown
few_unknown t steps notes =
    let n : many_single (chain_cells steps) * length (all t) ≡ length (chain_tests steps) * length (all t) = ap (λ k. k * length (all t)) (chain_single_tests steps) in
    omega (arith, missing_few (answer_at notes) (all t) (chain_cells steps) 0, n)
