-- A host stands under a name by labels where it is that name, or ends with a dot and the name.
use Rattle.std.proofs.Common.{◌≡◌, ◌∙◌, ◌++◌, ◌==◌, ◌-◌, ℕ, suc, Bool, true, false, List, [], ◌∷◌, ◌⊎◌, inl, inr, slice_index, cond, length, take, refl, ap, sym, subst, arith, length-append, eqb-true, true≢false, ◌||◌}
use Rattle.std.proofs.lemmas.Bool.{ne_eqb}
use Rattle.std.proofs.lemmas.List.{append_cancel_right}
use Rattle.std.proofs.lemmas.Slice.Eq.{bytes_eq-Decides, ends_is}
use Rattle.std.specs.List.{join_with_byte, list_any}
use Rattle.std.specs.Str.{bytes_eq}
use Rattle.host_names.specs.Hosts.{end_with, is_under, labels_of, behind_dots, ends_of}
use Rattle.host_names.specs.Left.{is_front}
use Rattle.host_names.proofs.Labels.{join_append, joined, labels_cut, some_labels}

-- labels end with these where they are others before these
pub ends_are : (these labels : List (List ℕ)) → end_with labels these ≡ true → (front : List (List ℕ)) × (labels ≡ front ++ these)
ends_are these labels e = (take (length labels - length these) labels, (ends_is bytes_eq-Decides labels these _ refl).0 e)

pub ends_behind : (front these : List (List ℕ)) → end_with (front ++ these) these ≡ true
ends_behind front these = (ends_is bytes_eq-Decides (front ++ these) these _ refl).1 front refl

pub under_is : (name host : List ℕ) → is_under name host ≡ true → (host ≡ name) ⊎ ((front : List ℕ) × (host ≡ front ++ 46 ∷ name))
under_is name host e = go (ends_are (labels_of name) (labels_of host) e).0 (ends_are (labels_of name) (labels_of host) e).1
  where
    go : (front : List (List ℕ)) → labels_of host ≡ front ++ labels_of name → (host ≡ name) ⊎ ((f : List ℕ) × (host ≡ f ++ 46 ∷ name))
    go [] same = inl (sym (joined host) ∙ ap (join_with_byte 46) same ∙ joined name)
    go (label ∷ front) same = inr (
      join_with_byte 46 (label ∷ front),
      sym (joined host) ∙ ap (join_with_byte 46) same ∙ join_append (label ∷ front) (labels_of name) (λ e. cc) (some_labels name)
          ∙ ap (λ n. join_with_byte 46 (label ∷ front) ++ 46 ∷ n) (joined name),
    )

pub under_itself : (name : List ℕ) → is_under name name ≡ true
under_itself name = ends_behind [] (labels_of name)

pub under_behind : (front name : List ℕ) → is_under name (front ++ 46 ∷ name) ≡ true
under_behind front name = rw (labels_cut front name) (ends_behind (labels_of front) (labels_of name))

-- ---- by the bytes before the name

last_same : (a b : List ℕ) (x y : ℕ) → a ++ x ∷ [] ≡ b ++ y ∷ [] → x ≡ y
last_same [] [] x y e = cc
last_same [] (d ∷ b) x y e = absurd (omega (arith, ap length e, length-append b (y ∷ [])))
last_same (d ∷ a) [] x y e = absurd (omega (arith, ap length e, length-append a (x ∷ [])))
last_same (d ∷ a) (f ∷ b) x y e = last_same a b x y cc

split_end : (b : ℕ) (front : List ℕ) → (b ∷ front) ≡ take (length front) (b ∷ front) ++ slice_index (b ∷ front) (length front) ∷ []
split_end b [] = refl
split_end b (c ∷ front) = ap (λ l. b ∷ l) (split_end c front)

join_dot : (front name : List ℕ) → (front ++ 46 ∷ []) ++ name ≡ front ++ 46 ∷ name
join_dot [] name = refl
join_dot (b ∷ front) name = ap (λ l. b ∷ l) (join_dot front name)

pub under_front : (front name : List ℕ) → is_under name (front ++ name) ≡ is_front front
under_front [] name = under_itself name
under_front (b ∷ front) name = go (slice_index (b ∷ front) (length front) == 46) refl (is_under name ((b ∷ front) ++ name)) refl ∙ sym front_is
  where
    front_is : is_front (b ∷ front) ≡ (slice_index (b ∷ front) (length front) == 46)
    front_is =
        let some : (length (b ∷ front) == 0) ≡ false = ne_eqb (length (b ∷ front)) 0 (λ e. omega (arith, e)) in
        let place : length (b ∷ front) - 1 ≡ length front = omega arith in
        rw (some, place) refl

    go : (t : Bool) → (slice_index (b ∷ front) (length front) == 46) ≡ t → (u : Bool) → is_under name ((b ∷ front) ++ name) ≡ u → u ≡ t
    go true e true f = refl
    go false e false f = refl
    go true e false f =
        let dot : slice_index (b ∷ front) (length front) ≡ 46 = eqb-true _ 46 e in
        let whole : ((b ∷ front) ++ name) ≡ take (length front) (b ∷ front) ++ 46 ∷ name =
        ap (λ l. l ++ name) (split_end b front ∙ ap (λ d. take (length front) (b ∷ front) ++ d ∷ []) dot) ∙ join_dot (take (length front) (b ∷ front)) name in
        sym f ∙ ap (is_under name) whole ∙ under_behind (take (length front) (b ∷ front)) name
    go false e true f = absurd (by (under_is name ((b ∷ front) ++ name) f))
      where
        by : (((b ∷ front) ++ name) ≡ name) ⊎ ((g : List ℕ) × (((b ∷ front) ++ name) ≡ g ++ 46 ∷ name)) → ⊥
        by (inl same) = omega (arith, ap length same, length-append (b ∷ front) name)
        by (inr (g, same)) =
            let fronts : (b ∷ front) ≡ g ++ 46 ∷ [] = append_cancel_right (b ∷ front) (g ++ 46 ∷ []) name (same ∙ sym (join_dot g name)) in
            let dot : slice_index (b ∷ front) (length front) ≡ 46 = last_same (take (length front) (b ∷ front)) g _ 46 (sym (split_end b front) ∙ fronts) in
            true≢false (sym (ap (λ d. d == 46) dot) ∙ e)

pub not_under : (name host : List ℕ) → ((front : List ℕ) → host ≡ front ++ name → ⊥) → is_under name host ≡ false
not_under name host none = go (is_under name host) refl
  where
    go : (t : Bool) → is_under name host ≡ t → t ≡ false
    go false e = refl
    go true e = absurd (by (under_is name host e))
      where
        by : (host ≡ name) ⊎ ((front : List ℕ) × (host ≡ front ++ 46 ∷ name)) → ⊥
        by (inl same) = none [] same
        by (inr (front, same)) = none (front ++ 46 ∷ []) (same ∙ sym (join_dot front name))

-- a host stands under a name that is one of its ends
pub under_ends : (name host : List ℕ) → is_under name host ≡ list_any (bytes_eq name) (ends_of host)
under_ends name host = go (is_under name host) refl (list_any (bytes_eq name) (ends_of host)) refl
  where
    go : (t : Bool) → is_under name host ≡ t → (u : Bool) → list_any (bytes_eq name) (ends_of host) ≡ u → t ≡ u
    go true e true f = refl
    go false e false f = refl
    go true e false f = absurd (true≢false (sym (among (under_is name host e)) ∙ f))
      where
        among : (host ≡ name) ⊎ ((front : List ℕ) × (host ≡ front ++ 46 ∷ name)) → list_any (bytes_eq name) (ends_of host) ≡ true
        among (inl same) = rw ((bytes_eq-Decides name host).1 (sym same)) refl
        among (inr (front, same)) = subst (λ h. list_any (bytes_eq name) (ends_of h) ≡ true) (sym same) (or_true _ _ (behind_front front))
          where
            or_true : (a b : Bool) → b ≡ true → (a || b) ≡ true
            or_true true b g = refl
            or_true false b g = g

            behind_front : (l : List ℕ) → list_any (bytes_eq name) (behind_dots (l ++ 46 ∷ name)) ≡ true
            behind_front [] = rw ((bytes_eq-Decides name name).1 refl) refl
            behind_front (b ∷ l) = at (b == 46) (behind_front l)
              where
                at : (v : Bool) → list_any (bytes_eq name) (behind_dots (l ++ 46 ∷ name)) ≡ true
                    → list_any (bytes_eq name) (cond v ((l ++ 46 ∷ name) ∷ behind_dots (l ++ 46 ∷ name)) (behind_dots (l ++ 46 ∷ name))) ≡ true
                at true g = or_true _ _ g
                at false g = g
    go false e true f = absurd (true≢false (sym (of_ends host f) ∙ e))
      where
        of_dots : (l : List ℕ) → list_any (bytes_eq name) (behind_dots l) ≡ true → (front : List ℕ) × (l ≡ front ++ 46 ∷ name)
        of_dots [] g = absurd (true≢false (sym g))
        of_dots (b ∷ l) g = at (b == 46) refl (bytes_eq name l) refl g (λ h. of_dots l h)
          where
            at : (v : Bool) → (b == 46) ≡ v → (w : Bool) → bytes_eq name l ≡ w → list_any (bytes_eq name) (cond v (l ∷ behind_dots l) (behind_dots l)) ≡ true
                → (list_any (bytes_eq name) (behind_dots l) ≡ true → (front : List ℕ) × (l ≡ front ++ 46 ∷ name)) → (front : List ℕ) × ((b ∷ l) ≡ front ++ 46 ∷ name)
            at false h w i g more = let m = more g in (b ∷ m.0, ap (λ k. b ∷ k) m.1)
            at true h true i g more =
                let dot : b ≡ 46 = eqb-true b 46 h in
                let same : name ≡ l = (bytes_eq-Decides name l).0 i in
                ([], ap (λ d. d ∷ l) dot ∙ ap (λ k. 46 ∷ k) (sym same))
            at true h false i g more = let m = more (sym (ap (λ t. t || list_any (bytes_eq name) (behind_dots l)) i) ∙ g) in (b ∷ m.0, ap (λ k. b ∷ k) m.1)

        of_ends : (l : List ℕ) → list_any (bytes_eq name) (ends_of l) ≡ true → is_under name l ≡ true
        of_ends l g = by (bytes_eq name l) refl g
          where
            by : (w : Bool) → bytes_eq name l ≡ w → (w || list_any (bytes_eq name) (behind_dots l)) ≡ true → is_under name l ≡ true
            by true i g = subst (λ h. is_under name h ≡ true) ((bytes_eq-Decides name l).0 i) (under_itself name)
            by false i g = let m = of_dots l g in subst (λ h. is_under name h ≡ true) (sym m.1) (under_behind m.0 name)
