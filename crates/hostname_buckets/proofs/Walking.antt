-- A walk over sorted numbers meets all that a scan over all entries does.
use Rattle.std.proofs.Common.{◌≡◌, ◌∙◌, ℕ, ◌+◌, ◌-◌, ◌<◌, ◌≤◌, ◌==◌, ◌||◌, Bool, true, false, cond, List, [], ◌∷◌, ◌++◌, Option, length, drop, get_or, refl, sym, ap, ap₂, subst, zero, suc, arith}
use Rattle.std.proofs.lemmas.Bool.{eqb-true}
use Rattle.std.proofs.lemmas.Bool.Decides.{nat_tests}
use Rattle.std.proofs.Math.Seq.{drop-cons}
use Rattle.std.specs.List.{flat_map}
use Rattle.std.specs.List.Sorted.{IsNonDecreasing}
use Rattle.std.specs.Prelude.{nat_lt, option_and_then, option_to_list, slice_get}
use Rattle.hostname_buckets.specs.Held.{has}

-- ---- rising numbers

abbrev pub AreFrom : ℕ → List ℕ → Type 0
AreFrom n [] = Unit {0}
AreFrom n (m ∷ numbers) = (n ≤ m) × AreFrom n numbers

abbrev pub Rise : List ℕ → Type 0
Rise [] = Unit {0}
Rise (n ∷ numbers) = AreFrom n numbers × Rise numbers

are_from : (n : ℕ) (numbers : List ℕ) → ((k : ℕ) → k < length numbers → n ≤ get_or numbers k 0) → AreFrom n numbers
are_from n [] h = tt
are_from n (m ∷ numbers) h = (h 0 (positive (length numbers)), are_from n numbers (λ k l. h (suc k) (raised k (length numbers) l)))
  where
    positive : (k : ℕ) → 0 < suc k
    positive k = omega arith

    raised : (k l : ℕ) → k < l → suc k < suc l
    raised k l h = omega arith

pub rise : (numbers : List ℕ) → IsNonDecreasing numbers → Rise numbers
rise [] h = tt
rise (n ∷ numbers) h =
    (are_from n numbers (λ k l. h 0 (suc k) 0 (least k) (raised k (length numbers) l)), rise numbers (λ i j d le l. h (suc i) (suc j) d (raised_le i j le) (raised j (length numbers) l)))
  where
    least : (k : ℕ) → 0 ≤ suc k
    least k = omega arith

    raised : (k l : ℕ) → k < l → suc k < suc l
    raised k l h = omega arith

    raised_le : (k l : ℕ) → k ≤ l → suc k ≤ suc l
    raised_le k l h = omega arith

-- a smaller number isn't among them
not_from : (m n : ℕ) (numbers : List ℕ) → m < n → AreFrom n numbers → has numbers m ≡ false
not_from m n [] l a = refl
not_from m n (k ∷ numbers) l a = go (k == m) refl (not_from m n numbers l a.1)
  where
    none : k ≡ m → n ≤ k → m < n → ⊥
    none e h l = omega arith

    go : (t : Bool) → (k == m) ≡ t → has numbers m ≡ false → (t || has numbers m) ≡ false
    go true same more = absurd (none (eqb-true k m same) a.0 l)
    go false other more = more

-- ---- a scan and a walk

module _ {E F : Type 0} (act : E → Option F) where
  scan : List E → List F
  scan entries = flat_map (λ e. option_to_list (act e)) entries

  -- what the entry with a number gives
  abbrev pub gives : List E → ℕ → List F
  gives entries n = option_to_list (option_and_then act (slice_get entries n))

  -- what the entries with these numbers give, where each below `next` is passed over
  abbrev pub walk : List E → ℕ → List ℕ → List F
  walk entries next [] = []
  walk entries next (n ∷ numbers) = cond (nat_lt n next) (walk entries next numbers) (gives entries n ++ walk entries (n + 1) numbers)

  one : (entries : List E) (n : ℕ) → flat_map (λ e. option_to_list (act e)) (drop n entries) ≡ gives entries n ++ flat_map (λ e. option_to_list (act e)) (drop (suc n) entries)
  one [] zero = refl
  one [] (suc n) = refl
  one (e ∷ entries) zero = refl
  one (e ∷ entries) (suc n) = one entries n

  past : (entries : List E) (n : ℕ) → length entries ≤ n → flat_map (λ e. option_to_list (act e)) (drop n entries) ≡ []
  past [] zero h = refl
  past [] (suc n) h = refl
  past (e ∷ entries) zero h = absurd (none (length entries) h)
    where
      none : (k : ℕ) → suc k ≤ 0 → ⊥
      none k h = omega arith
  past (e ∷ entries) (suc n) h = past entries n (lowered (length entries) n h)
    where
      lowered : (k l : ℕ) → suc k ≤ suc l → k ≤ l
      lowered k l h = omega arith

  module _ (entries : List E) where
    from : ℕ → List F
    from n = flat_map (λ e. option_to_list (act e)) (drop n entries)

    -- entries that give nothing are passed over
    skip : (d n : ℕ) → ((m : ℕ) → n ≤ m → m < n + d → gives entries m ≡ []) →
        flat_map (λ e. option_to_list (act e)) (drop n entries) ≡ flat_map (λ e. option_to_list (act e)) (drop (n + d) entries)
    skip zero n h =
        let same : n + zero ≡ n = omega arith in
        ap (λ k. flat_map (λ e. option_to_list (act e)) (drop k entries)) (sym same)
    skip (suc d) n h =
        let more : suc n + d ≡ n + suc d = omega arith in
        one entries n
        ∙ ap (λ (l : List F). l ++ flat_map (λ e. option_to_list (act e)) (drop (suc n) entries)) (h n (first n) (second n d))
        ∙ skip d (suc n) (λ m l r. h m (third n m l) (fourth n d m r))
        ∙ ap (λ k. flat_map (λ e. option_to_list (act e)) (drop k entries)) more
      where
        first : (k : ℕ) → k ≤ k
        first k = omega arith

        second : (k l : ℕ) → k < k + suc l
        second k l = omega arith

        third : (k l : ℕ) → suc k ≤ l → k ≤ l
        third k l h = omega arith

        fourth : (k l m : ℕ) → m < suc k + l → m < k + suc l
        fourth k l m h = omega arith

    pub walked : (numbers : List ℕ) (next : ℕ) → Rise numbers → ((m : ℕ) → next ≤ m → has numbers m ≡ false → gives entries m ≡ []) →
        walk entries next numbers ≡ flat_map (λ e. option_to_list (act e)) (drop next entries)
    walked [] next r h =
        sym (skip (length entries) next (λ m l w. h m l refl) ∙ past entries (next + length entries) (far next (length entries)))
      where
        far : (k l : ℕ) → l ≤ k + l
        far k l = omega arith
    walked (n ∷ numbers) next r h = go (nat_lt n next) refl (λ k g. walked numbers k r.1 g)
      where
        go : (t : Bool) → nat_lt n next ≡ t →
            ((k : ℕ) → ((m : ℕ) → k ≤ m → has numbers m ≡ false → gives entries m ≡ []) → walk entries k numbers ≡ flat_map (λ e. option_to_list (act e)) (drop k entries)) →
            cond t (walk entries next numbers) (gives entries n ++ walk entries (n + 1) numbers) ≡ flat_map (λ e. option_to_list (act e)) (drop next entries)
        go true below more =
            let less : n < next = grind (arith, nat_tests, below) in
            more next (λ m l absent. h m l (other n m (farther n next m less l) ∙ absent))
          where
            farther : (a b c : ℕ) → a < b → b ≤ c → a < c
            farther a b c h l = omega arith

            other : (a b : ℕ) → a < b → ((a == b) || has numbers b) ≡ has numbers b
            other a b l = by (a == b) refl
              where
                by : (t : Bool) → (a == b) ≡ t → (t || has numbers b) ≡ has numbers b
                by true same = absurd (let e : a ≡ b = eqb-true a b same in omega arith)
                by false differs = refl
        go false above more =
            let reached : next ≤ n = grind (arith, nat_tests, above) in
            let d = distance next n reached in
            let gap = skip d.0 next (λ m l w. h m l (absent m (subst (λ k. m < k) d.1 w))) in
            let one_more : n + 1 ≡ suc n = omega arith in
            ap (λ (l : List F). gives entries n ++ l) (more (n + 1) (λ m l absent. h m (later next n m reached l) (other m l ∙ absent)))
            ∙ ap (λ k. gives entries n ++ flat_map (λ e. option_to_list (act e)) (drop k entries)) one_more
            ∙ sym (one entries n)
            ∙ sym (ap (λ k. flat_map (λ e. option_to_list (act e)) (drop k entries)) d.1)
            ∙ sym gap
          where
            distance : (a b : ℕ) → a ≤ b → (d : ℕ) × (a + d ≡ b)
            distance a b h = (b - a, omega arith)

            later : (a b c : ℕ) → a ≤ b → b + 1 ≤ c → a ≤ c
            later a b c h l = omega arith

            absent : (m : ℕ) → m < n → ((n == m) || has numbers m) ≡ false
            absent m l = by (n == m) refl
              where
                by : (t : Bool) → (n == m) ≡ t → (t || has numbers m) ≡ false
                by true same = absurd (let e : n ≡ m = eqb-true n m same in omega arith)
                by false differs = not_from m n numbers l r.0

            other : (m : ℕ) → n + 1 ≤ m → ((n == m) || has numbers m) ≡ has numbers m
            other m l = by (n == m) refl
              where
                by : (t : Bool) → (n == m) ≡ t → (t || has numbers m) ≡ has numbers m
                by true same = absurd (let e : n ≡ m = eqb-true n m same in omega arith)
                by false differs = refl

    -- ---- one step of the walk, by the place in the numbers

    pub step_over : (numbers : List ℕ) (i n next : ℕ) → i < length numbers → n ≡ get_or numbers i 0 → n < next →
        walk entries next (drop i numbers) ≡ walk entries next (drop (i + 1) numbers)
    step_over numbers i n next l is below =
        let more : i + 1 ≡ suc i = omega arith in
        let test : nat_lt (get_or numbers i 0) next ≡ true = grind (arith, nat_tests, is, below) in
        ap (walk entries next) (drop-cons numbers i 0 l)
        ∙ ap (λ t. cond t (walk entries next (drop (suc i) numbers)) (gives entries (get_or numbers i 0) ++ walk entries (get_or numbers i 0 + 1) (drop (suc i) numbers))) test
        ∙ ap (λ k. walk entries next (drop k numbers)) (sym more)

    pub step_on : (numbers : List ℕ) (i n next : ℕ) → i < length numbers → n ≡ get_or numbers i 0 → next ≤ n →
        walk entries next (drop i numbers) ≡ gives entries n ++ walk entries (n + 1) (drop (i + 1) numbers)
    step_on numbers i n next l is above =
        let more : i + 1 ≡ suc i = omega arith in
        let test : nat_lt (get_or numbers i 0) next ≡ false = grind (arith, nat_tests, is, above) in
        ap (walk entries next) (drop-cons numbers i 0 l)
        ∙ ap (λ t. cond t (walk entries next (drop (suc i) numbers)) (gives entries (get_or numbers i 0) ++ walk entries (get_or numbers i 0 + 1) (drop (suc i) numbers))) test
        ∙ ap₂ (λ k j. gives entries k ++ walk entries (k + 1) (drop j numbers)) (sym is) (sym more)
