-- A chain cut before the first step that goes up, and the ancestors of an element one by one.
use Rattle.std.proofs.Common.{◌≡◌, ℕ, zero, suc, ◌+◌, ◌-◌, ◌<◌, ◌≤◌, ◌==◌, ◌||◌, Bool, true, false, MatchOption, List, [], ◌∷◌, drop, length, get_or, codes, not, Option, Some, None, refl, sym, ap, ◌∙◌, arith, add-one, drop-cons}
use Rattle.std.specs.Prelude.{unwrap_or}
use Rattle.std.proofs.lemmas.Bool.{ne_eqb, or_from, false_from_ne_true}
use Rattle.std.proofs.lemmas.Slice.Eq.{bytes_eq-Decides}
use Rattle.std.specs.Str.{bytes_eq}
use Rattle.std.proofs.lemmas.List.{drop_all}
use Rattle.std.proofs.lemmas.List.Folds.{list_any-append}
use Rattle.page_tree.specs.Forest.{Tree, first_in}
use Rattle.page_tree.specs.Standings.{above}
use Rattle.page_tree.specs.Directions.{is_in, holders}
use Rattle.selector_tree.specs.declared.selector.Step.{Step}
use Rattle.selector_meaning.specs.Meaning.{ancestor, is_beside}
use Rattle.procedural_ops.specs.Reaching.{goes_up, first_up_of, is_shown_name}

module _ (chain : List Step) (i : ℕ) where
  pub up_at : (s : Step) → i < length chain → s ≡ get_or chain i s → goes_up s ≡ true → first_up_of (drop i chain) ≡ 0
  unfolding first_up_of
  up_at s h is up = rw (drop-cons chain i s h, ← is, up) refl

  pub up_past : (s : Step) → i < length chain → s ≡ get_or chain i s → goes_up s ≡ false → first_up_of (drop i chain) ≡ first_up_of (drop (i + 1) chain) + 1
  unfolding first_up_of
  up_past s h is up =
      let e : first_up_of (drop i chain) ≡ first_up_of (drop (suc i) chain) + 1 = rw (drop-cons chain i s h, ← is, up) refl in
      e ∙ ap (λ k. first_up_of (drop k chain) + 1) (sym (add-one i))

  pub up_end : length chain ≤ i → first_up_of (drop i chain) ≡ 0
  unfolding first_up_of
  up_end h = ap first_up_of (drop_all i chain h)

-- one ancestor on
pub ancestor-next : (n : ℕ) (l : List ℕ) (y : ℕ) (ys : List ℕ) → 1 < n → l ≡ y ∷ ys → ancestor n l ≡ ancestor (n - 1) ys
ancestor-next zero l y ys h e = absurd (omega arith)
ancestor-next (suc zero) l y ys h e = absurd (omega arith)
ancestor-next (suc (suc n)) l y ys h e = let m : suc (suc n) - 1 ≡ suc n = omega arith in rw (e, m) refl

pub ancestor-none : (n : ℕ) (l : List ℕ) → l ≡ [] → ancestor n l ≡ None
ancestor-none zero l e = refl
ancestor-none (suc n) l e = rw e refl

pub ancestor-first : (n : ℕ) (l : List ℕ) (y : ℕ) (ys : List ℕ) → n ≡ 1 → l ≡ y ∷ ys → ancestor n l ≡ Some y
ancestor-first n l y ys h e = rw (h, e) refl

pub ancestor-last : (n : ℕ) (l : List ℕ) (o : Option ℕ) (rest : ℕ → List ℕ) → 0 < n → n ≤ 1 → MatchOption o (l ≡ []) (λ y. l ≡ y ∷ rest y) → o ≡ ancestor n l
ancestor-last n l None rest some last h = sym (ancestor-none n l h)
ancestor-last n l (Some y) rest some last h = sym (ancestor-first n l y (rest y) (omega arith) h)

off : (a : Bool) → (a || false) ≡ a
off true = refl
off false = refl

-- the parent of an element, an element itself, among what is above another
pub beside_element : (t : Tree) (y x p : ℕ) (ps : List ℕ) → (p ≡ 0 → ⊥) → above t x ≡ p ∷ ps → is_in (above t y) p ≡ is_beside t y x
beside_element t y x p ps nz e =
    sym (ap (is_in (holders t y)) (ap (λ (l : List ℕ). unwrap_or (first_in l) 0) e)
    ∙ list_any-append (λ n. n == p) (above t y) (0 ∷ [])
    ∙ ap (λ b. is_in (above t y) p || (b || false)) (ne_eqb 0 p (λ z. nz (sym z)))
    ∙ off (is_in (above t y) p))

other_text : (n own : List ℕ) → (own ≡ n → ⊥) → bytes_eq n own ≡ false
other_text n own h = false_from_ne_true (bytes_eq n own) (λ e. h (sym ((bytes_eq-Decides n own).0 e)))

pub shown_by : (own : List ℕ) → (own ≡ codes "head" → ⊥) → (own ≡ codes "link" → ⊥) → (own ≡ codes "meta" → ⊥) → (own ≡ codes "script" → ⊥) → (own ≡ codes "style" → ⊥) →
    (own ≡ codes "title" → ⊥) → (own ≡ codes "html" → ⊥) → (own ≡ codes "body" → ⊥) → true ≡ is_shown_name own
shown_by own a b c d e f g h =
    sym (ap not (or_from (bytes_eq (codes "head") own) _ (other_text (codes "head") own a)
    (or_from (bytes_eq (codes "link") own) _ (other_text (codes "link") own b)
    (or_from (bytes_eq (codes "meta") own) _ (other_text (codes "meta") own c)
    (or_from (bytes_eq (codes "script") own) _ (other_text (codes "script") own d)
    (or_from (bytes_eq (codes "style") own) _ (other_text (codes "style") own e)
    (or_from (bytes_eq (codes "title") own) _ (other_text (codes "title") own f)
    (or_from (bytes_eq (codes "html") own) _ (other_text (codes "html") own g)
    (or_from (bytes_eq (codes "body") own) false (other_text (codes "body") own h) refl)))))))))
