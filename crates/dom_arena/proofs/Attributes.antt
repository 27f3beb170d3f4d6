-- Attributes set and dropped at their place, and what they keep.
use Rattle.std.proofs.Common.{◌≡◌, ℕ, suc, ◌<◌, ◌≤◌, Bool, true, false, List, [], ◌∷◌, ◌++◌, length, set, None, refl, sym, ◌∙◌, ap, subst, inl, inr, ◌⊎◌, arith}
use Rattle.std.specs.Prelude.{remove}
use Rattle.std.specs.Str.{bytes_eq, str_to_ascii_lowercase}
use Rattle.std.proofs.lemmas.Slice.Eq.{bytes_eq-Decides}
use Rattle.std.proofs.lemmas.Str.Ascii.{lowercase-lowercase}
use Rattle.page_tree.specs.Forest.{value_at}
use Rattle.page_tree.specs.Edits.{with_attr, without_attr}
use Rattle.page_tree.specs.Trees.{IsLowerCase, AreAttributes}
use Rattle.dom_arena.specs.Attributes.{place_of}

-- a text made lower case is in lower case
pub is_lower : (text : List ℕ) → IsLowerCase (str_to_ascii_lowercase text)
is_lower [] = refl
is_lower (c ∷ cs) = rw (lowercase-lowercase c, is_lower cs) refl

-- two texts are equal or not, with what the test says
text_cases : (a b : List ℕ) → ((a ≡ b) × (bytes_eq a b ≡ true)) ⊎ ((a ≡ b → ⊥) × (bytes_eq a b ≡ false))
text_cases a b = by_test (bytes_eq a b) refl
  where
    by_test : (t : Bool) → bytes_eq a b ≡ t → ((a ≡ b) × (bytes_eq a b ≡ true)) ⊎ ((a ≡ b → ⊥) × (bytes_eq a b ≡ false))
    by_test true e = inl ((bytes_eq-Decides a b).0 e, e)
    by_test false e = inr (λ q. let w : true ≡ false = sym ((bytes_eq-Decides a b).1 q) ∙ e in cc, e)

-- ---- the place of a name

-- an attribute of the name looked for is at place 0
pub place_of-here : (name : List ℕ) (a : List ℕ × List ℕ) (attrs : List (List ℕ × List ℕ)) → AreAttributes (a ∷ attrs) → str_to_ascii_lowercase a.0 ≡ str_to_ascii_lowercase name → place_of (str_to_ascii_lowercase name) (a ∷ attrs) ≡ 0
place_of-here name a attrs h e =
    elim (text_cases a.0 (str_to_ascii_lowercase name)) [
      | inl p ↦ rw p.1 refl
      | inr p ↦ absurd (p.0 (sym h.0 ∙ e))
    ]

-- one of another name is passed by
pub place_of-further : (name : List ℕ) (a : List ℕ × List ℕ) (attrs : List (List ℕ × List ℕ)) → AreAttributes (a ∷ attrs) → (str_to_ascii_lowercase a.0 ≡ str_to_ascii_lowercase name → ⊥) → place_of (str_to_ascii_lowercase name) (a ∷ attrs) ≡ suc (place_of (str_to_ascii_lowercase name) attrs)
place_of-further name a attrs h ne =
    elim (text_cases a.0 (str_to_ascii_lowercase name)) [
      | inl p ↦ absurd (ne (h.0 ∙ p.0))
      | inr p ↦ rw p.1 refl
    ]

module _ (name value : List ℕ) where
  -- an attribute that is there is set at its place
  pub with_attr-found : (attrs : List (List ℕ × List ℕ)) → place_of name attrs < length attrs → with_attr name value attrs ≡ set attrs (place_of name attrs) (name, value)
  with_attr-found [] h = absurd (omega arith)
  with_attr-found (a ∷ attrs) h =
      elim (text_cases a.0 name) [
        | inl p ↦ rw p.1 refl
        | inr p ↦ let h' = rw p.1 at h in rw p.1 (ap (λ (l : List (List ℕ × List ℕ)). a ∷ l) (with_attr-found attrs (omega arith)))
      ]

  -- a new one goes last
  pub with_attr-new : (attrs : List (List ℕ × List ℕ)) → length attrs ≤ place_of name attrs → with_attr name value attrs ≡ attrs ++ (name, value) ∷ []
  with_attr-new [] h = refl
  with_attr-new (a ∷ attrs) h =
      elim (text_cases a.0 name) [
        | inl p ↦ let h' = rw p.1 at h in absurd (omega arith)
        | inr p ↦ let h' = rw p.1 at h in rw p.1 (ap (λ (l : List (List ℕ × List ℕ)). a ∷ l) (with_attr-new attrs (omega arith)))
      ]

module _ (name : List ℕ) where
  -- an attribute that is there goes from its place
  pub without_attr-found : (attrs : List (List ℕ × List ℕ)) → place_of name attrs < length attrs → without_attr name attrs ≡ remove attrs (place_of name attrs)
  without_attr-found [] h = absurd (omega arith)
  without_attr-found (a ∷ attrs) h =
      elim (text_cases a.0 name) [
        | inl p ↦ rw p.1 refl
        | inr p ↦ let h' = rw p.1 at h in rw p.1 (ap (λ (l : List (List ℕ × List ℕ)). a ∷ l) (without_attr-found attrs (omega arith)))
      ]

  -- where there is none nothing goes
  pub without_attr-none : (attrs : List (List ℕ × List ℕ)) → length attrs ≤ place_of name attrs → without_attr name attrs ≡ attrs
  without_attr-none [] h = refl
  without_attr-none (a ∷ attrs) h =
      elim (text_cases a.0 name) [
        | inl p ↦ let h' = rw p.1 at h in absurd (omega arith)
        | inr p ↦ let h' = rw p.1 at h in rw p.1 (ap (λ (l : List (List ℕ × List ℕ)). a ∷ l) (without_attr-none attrs (omega arith)))
      ]

-- ---- names stay in lower case and distinct

-- an attribute of no other name
value_at-rest : (x : List ℕ) (b : List ℕ × List ℕ) (attrs : List (List ℕ × List ℕ)) → value_at x (b ∷ attrs) ≡ None → (bytes_eq b.0 x ≡ false) × (value_at x attrs ≡ None)
value_at-rest x b attrs h =
    elim (text_cases b.0 x) [
      | inl p ↦ let e = rw p.1 at h in cc
      | inr p ↦ (p.1, rw p.1 at h)
    ]

-- setting an attribute makes none of another name
value_at-with_attr : (x name value : List ℕ) (attrs : List (List ℕ × List ℕ)) → (x ≡ name → ⊥) → value_at x attrs ≡ None → value_at x (with_attr name value attrs) ≡ None
value_at-with_attr x name value [] ne h =
    elim (text_cases name x) [
      | inl p ↦ absurd (ne (sym p.0))
      | inr p ↦ rw p.1 refl
    ]
value_at-with_attr x name value (b ∷ attrs) ne h =
    let rest = value_at-rest x b attrs h in
    elim (text_cases b.0 name) [
      | inl p ↦ rw p.1 (elim (text_cases name x) [
        | inl q ↦ absurd (ne (sym q.0))
        | inr q ↦ rw q.1 rest.1
      ])
      | inr p ↦ rw (p.1, rest.0) (value_at-with_attr x name value attrs ne rest.1)
    ]

-- attributes stay so when one is set
pub AreAttributes-with_attr : (name value : List ℕ) (attrs : List (List ℕ × List ℕ)) → IsLowerCase name → AreAttributes attrs → AreAttributes (with_attr name value attrs)
AreAttributes-with_attr name value [] low h = (low, refl, tt)
AreAttributes-with_attr name value (a ∷ attrs) low h =
    elim (text_cases a.0 name) [
      | inl p ↦ rw p.1 (low, subst (λ (n : List ℕ). value_at n attrs ≡ None) p.0 h.1, h.2)
      | inr p ↦ rw p.1 (h.0, value_at-with_attr a.0 name value attrs p.0 h.1, AreAttributes-with_attr name value attrs low h.2)
    ]

-- dropping an attribute makes none of another name
value_at-without_attr : (x name : List ℕ) (attrs : List (List ℕ × List ℕ)) → value_at x attrs ≡ None → value_at x (without_attr name attrs) ≡ None
value_at-without_attr x name [] h = refl
value_at-without_attr x name (b ∷ attrs) h =
    let rest = value_at-rest x b attrs h in
    elim (text_cases b.0 name) [
      | inl p ↦ rw p.1 rest.1
      | inr p ↦ rw (p.1, rest.0) (value_at-without_attr x name attrs rest.1)
    ]

-- attributes stay so when one is dropped
pub AreAttributes-without_attr : (name : List ℕ) (attrs : List (List ℕ × List ℕ)) → AreAttributes attrs → AreAttributes (without_attr name attrs)
AreAttributes-without_attr name [] h = tt
AreAttributes-without_attr name (a ∷ attrs) h =
    elim (text_cases a.0 name) [
      | inl p ↦ rw p.1 h.2
      | inr p ↦ rw p.1 (h.0, value_at-without_attr a.0 name attrs h.1, AreAttributes-without_attr name attrs h.2)
    ]
