-- Parts of a condition, one after the other.
use Rattle.std.proofs.Common.{◌≡◌, ℕ, zero, suc, ◌+◌, ◌-◌, ◌==◌, ◌<◌, ◌≤◌, ◌&&◌, ◌||◌, Bool, true, false, not, List, [], ◌∷◌, ◌++◌, Option, Some, None, option_map, map, length, get_or, take, drop, refl, ap, sym, subst, ◌∙◌, arith}
use Rattle.std.specs.Prelude.{if◌then◌else◌}
use Rattle.std.proofs.lemmas.List.{append-nil, append_assoc, drop_more, drop_all, take_all, take_more}
use Rattle.cos_source.specs.Spaces.{is_space, trimmed}
use Rattle.list_lines.specs.Conditions.{all_true, any_true, base_of, both, depth_behind, either, is_cut, longer, nested_in, not_of, or_of, parts_between, parts_from}
use Rattle.list_lines.specs.FirstParts.{split_parts, turned}

-- ---- cuts

-- more bytes at the front of the first part
abbrev pub onto_front : List ℕ → List (List ℕ) → List (List ℕ)
onto_front front [] = front ∷ []
onto_front front (part ∷ parts) = (front ++ part) ∷ parts

onto_longer : (front : List ℕ) (b : ℕ) (parts : List (List ℕ)) → onto_front front (longer b parts) ≡ onto_front (front ++ b ∷ []) parts
onto_longer front b [] = refl
onto_longer front b (part ∷ parts) = ap (λ (p : List ℕ). p ∷ parts) (sym (append_assoc front (b ∷ []) part))

by_cut : (v : Bool) (b : ℕ) (others : List (List ℕ)) → onto_front [] (if v then [] ∷ others else longer b others) ≡ (if v then [] ∷ others else longer b others)
by_cut true b others = refl
by_cut false b [] = refl
by_cut false b (part ∷ parts) = refl

pub front_none : (sign : ℕ) (passes : Bool) (depth : ℕ) (text : List ℕ) → onto_front [] (parts_from sign passes depth text) ≡ parts_from sign passes depth text
front_none sign passes depth [] = refl
front_none sign true depth (b ∷ text) = front_none sign false 0 text
front_none sign false depth (b ∷ text) =
    by_cut (is_cut sign depth (b ∷ text)) b (parts_from sign (is_cut sign depth (b ∷ text)) (depth_behind b depth) text)

not_cut : (sign depth b : ℕ) (text : List ℕ) → is_cut sign depth (b ∷ text) ≡ false → parts_from sign false depth (b ∷ text) ≡ longer b (parts_from sign false (depth_behind b depth) text)
not_cut sign depth b text e =
    ap (λ (v : Bool). if v then [] ∷ parts_from sign v (depth_behind b depth) text else longer b (parts_from sign v (depth_behind b depth) text)) e

pub cut_none : (sign depth at : ℕ) (text : List ℕ) (total : List (List ℕ)) → at < length text → is_cut sign depth (drop at text) ≡ false
    → onto_front (take at text) (parts_from sign false depth (drop at text)) ≡ total
    → onto_front (take (at + 1) text) (parts_from sign false (depth_behind (get_or text at 0) depth) (drop (at + 1) text)) ≡ total
cut_none sign depth at text total lt e h =
    let b = get_or text at 0 in
    let more = drop_more text at 0 lt in
    let others = parts_from sign false (depth_behind b depth) (drop (at + 1) text) in
    ap (λ (front : List ℕ). onto_front front others) (take_more text at 0 lt)
    ∙ sym (onto_longer (take at text) b others)
    ∙ ap (λ (l : List (List ℕ)). onto_front (take at text) l) (sym (not_cut sign depth b (drop (at + 1) text) (ap (λ (t : List ℕ). is_cut sign depth t) (sym more) ∙ e)))
    ∙ ap (λ (t : List ℕ). onto_front (take at text) (parts_from sign false depth t)) (sym more) ∙ h

cut_front : (sign depth b c : ℕ) (text : List ℕ) → is_cut sign depth (b ∷ c ∷ text) ≡ true → parts_from sign false depth (b ∷ c ∷ text) ≡ [] ∷ parts_between sign text
cut_front sign depth b c text e =
    ap (λ (v : Bool). if v then [] ∷ parts_from sign v (depth_behind b depth) (c ∷ text) else longer b (parts_from sign v (depth_behind b depth) (c ∷ text))) e

cut_text : (sign depth : ℕ) (text : List ℕ) → 2 ≤ length text → is_cut sign depth text ≡ true → parts_from sign false depth text ≡ [] ∷ parts_between sign (drop 2 text)
cut_text sign depth [] room e = absurd (omega arith)
cut_text sign depth (b ∷ []) room e = absurd (omega arith)
cut_text sign depth (b ∷ c ∷ text) room e = cut_front sign depth b c text e

pub cut_here : (sign depth at : ℕ) (text front rest behind : List ℕ) (total : List (List ℕ)) → front ≡ take at text → rest ≡ drop at text → behind ≡ drop 2 rest
    → 2 ≤ length rest → true ≡ is_cut sign depth rest → onto_front (take at text) (parts_from sign false depth (drop at text)) ≡ total → total ≡ front ∷ parts_between sign behind
cut_here sign depth at text front rest behind total f r b room e h =
    sym h ∙ ap (λ (l : List ℕ). onto_front l (parts_from sign false depth (drop at text))) (sym f)
    ∙ ap (λ (l : List ℕ). onto_front front (parts_from sign false depth l)) (sym r)
    ∙ ap (λ (l : List (List ℕ)). onto_front front l) (cut_text sign depth rest room (sym e))
    ∙ ap (λ (l : List ℕ). l ∷ parts_between sign (drop 2 rest)) (append-nil front)
    ∙ ap (λ (l : List ℕ). front ∷ parts_between sign l) (sym b)

pub uncut_here : (sign depth after at : ℕ) (text rest : List ℕ) (total : List (List ℕ)) → at < length text → rest ≡ drop at text → false ≡ is_cut sign depth rest → after ≡ depth_behind (get_or text at 0) depth
    → onto_front (take at text) (parts_from sign false depth (drop at text)) ≡ total
    → onto_front (take (at + 1) text) (parts_from sign false after (drop (at + 1) text)) ≡ total
uncut_here sign depth after at text rest total lt r e a h =
    ap (λ (d : ℕ). onto_front (take (at + 1) text) (parts_from sign false d (drop (at + 1) text))) a
    ∙ cut_none sign depth at text total lt (ap (λ (l : List ℕ). is_cut sign depth l) (sym r) ∙ sym e) h

deep_by : (opens closes : Bool) (depth : ℕ) → (if opens then depth + 1 else if closes then depth - 1 else depth) ≤ depth + 1
deep_by true closes depth = omega arith
deep_by false true depth = omega arith
deep_by false false depth = omega arith

pub not_deeper : (b depth after at : ℕ) → after ≡ depth_behind b depth → depth ≤ at → after ≤ at + 1
not_deeper b depth after at e h = omega (arith, e, h, deep_by (b == 40) (b == 41) depth)

pub no_cut : (sign depth at : ℕ) (text : List ℕ) (total : List (List ℕ)) → length text ≤ at → onto_front (take at text) (parts_from sign false depth (drop at text)) ≡ total
    → total ≡ split_parts sign text None
no_cut sign depth at text total most h =
    sym h ∙ ap (λ (t : List ℕ). onto_front (take at text) (parts_from sign false depth t)) (drop_all at text most)
    ∙ ap (λ (front : List ℕ). front ∷ []) (append-nil (take at text) ∙ take_all at text most)

-- ---- values

either_next : (v r : Bool) (more : Option Bool) → either (Some v) (either (Some r) more) ≡ either (Some (r || v)) more
either_next true true (Some b) = refl
either_next true false (Some b) = refl
either_next false true (Some b) = refl
either_next false false (Some b) = refl
either_next v r None = refl

either_last : (v r : Bool) → either (Some v) (either (Some r) (Some false)) ≡ Some (r || v)
either_last true true = refl
either_last true false = refl
either_last false true = refl
either_last false false = refl

both_next : (v r : Bool) (more : Option Bool) → both (Some v) (both (Some r) more) ≡ both (Some (r && v)) more
both_next true true (Some b) = refl
both_next true false (Some b) = refl
both_next false true (Some b) = refl
both_next false false (Some b) = refl
both_next v r None = refl

both_last : (v r : Bool) → both (Some v) (both (Some r) (Some true)) ≡ Some (r && v)
both_last true true = refl
both_last true false = refl
both_last false true = refl
both_last false false = refl

module _ (read : List ℕ → Option Bool) (sign : ℕ) (text part : List ℕ) (v : Bool) (total : Option Bool) where
  pub any_unread : (behind : Option (List ℕ)) → parts_between sign text ≡ split_parts sign part behind → None ≡ read part
      → either (Some v) (any_true (map read (parts_between sign text))) ≡ total → None ≡ total
  any_unread None e r h =
      ap (λ (o : Option Bool). either (Some v) (either o (Some false))) r ∙ ap (λ (l : List (List ℕ)). either (Some v) (any_true (map read l))) (sym e) ∙ h
  any_unread (Some behind) e r h =
      ap (λ (o : Option Bool). either (Some v) (either o (any_true (map read (parts_between sign behind))))) r
      ∙ ap (λ (l : List (List ℕ)). either (Some v) (any_true (map read l))) (sym e) ∙ h

  pub any_last : (b : Bool) → parts_between sign text ≡ split_parts sign part None → Some b ≡ read part
      → either (Some v) (any_true (map read (parts_between sign text))) ≡ total → Some (b || v) ≡ total
  any_last b e r h =
      sym (either_last v b) ∙ ap (λ (o : Option Bool). either (Some v) (either o (Some false))) r
      ∙ ap (λ (l : List (List ℕ)). either (Some v) (any_true (map read l))) (sym e) ∙ h

  pub any_next : (b : Bool) (behind : List ℕ) → parts_between sign text ≡ split_parts sign part (Some behind) → Some b ≡ read part
      → either (Some v) (any_true (map read (parts_between sign text))) ≡ total → either (Some (b || v)) (any_true (map read (parts_between sign behind))) ≡ total
  any_next b behind e r h =
      let more = any_true (map read (parts_between sign behind)) in
      sym (either_next v b more) ∙ ap (λ (o : Option Bool). either (Some v) (either o more)) r
      ∙ ap (λ (l : List (List ℕ)). either (Some v) (any_true (map read l))) (sym e) ∙ h

  pub all_unread : (behind : Option (List ℕ)) → parts_between sign text ≡ split_parts sign part behind → None ≡ read part
      → both (Some v) (all_true (map read (parts_between sign text))) ≡ total → None ≡ total
  all_unread None e r h =
      ap (λ (o : Option Bool). both (Some v) (both o (Some true))) r ∙ ap (λ (l : List (List ℕ)). both (Some v) (all_true (map read l))) (sym e) ∙ h
  all_unread (Some behind) e r h =
      ap (λ (o : Option Bool). both (Some v) (both o (all_true (map read (parts_between sign behind))))) r
      ∙ ap (λ (l : List (List ℕ)). both (Some v) (all_true (map read l))) (sym e) ∙ h

  pub all_last : (b : Bool) → parts_between sign text ≡ split_parts sign part None → Some b ≡ read part
      → both (Some v) (all_true (map read (parts_between sign text))) ≡ total → Some (b && v) ≡ total
  all_last b e r h =
      sym (both_last v b) ∙ ap (λ (o : Option Bool). both (Some v) (both o (Some true))) r
      ∙ ap (λ (l : List (List ℕ)). both (Some v) (all_true (map read l))) (sym e) ∙ h

  pub all_next : (b : Bool) (behind : List ℕ) → parts_between sign text ≡ split_parts sign part (Some behind) → Some b ≡ read part
      → both (Some v) (all_true (map read (parts_between sign text))) ≡ total → both (Some (b && v)) (all_true (map read (parts_between sign behind))) ≡ total
  all_next b behind e r h =
      let more = all_true (map read (parts_between sign behind)) in
      sym (both_next v b more) ∙ ap (λ (o : Option Bool). both (Some v) (both o more)) r
      ∙ ap (λ (l : List (List ℕ)). both (Some v) (all_true (map read l))) (sym e) ∙ h

-- ---- signs before a base

pub turn_more : (negated : Bool) (value : Option Bool) → turned negated (option_map not value) ≡ turned (not negated) value
turn_more true None = refl
turn_more true (Some true) = refl
turn_more true (Some false) = refl
turn_more false value = refl

-- ---- levels

pub nested_more : (given : List (List ℕ)) (levels : ℕ) (text : List ℕ) → 0 < levels → or_of given (nested_in given (levels - 1)) text ≡ nested_in given levels text
nested_more given zero text h = absurd (omega arith)
nested_more given (suc n) text h = let e : suc n - 1 ≡ n = omega arith in ap (λ (k : ℕ). or_of given (nested_in given k) text) e
