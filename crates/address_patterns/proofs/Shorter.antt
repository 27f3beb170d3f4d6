-- What a piece leaves of a pattern is no longer than the pattern; and the places of an address, one by one.
use Rattle.std.proofs.Common.{◌≡◌, ◌∙◌, ◌==◌, ◌+◌, ◌<◌, ◌≤◌, ℕ, suc, Bool, true, false, cond, List, [], ◌∷◌, Option, Some, None, option_and_then, is_some, length, drop, get_or, refl, ap, sym, subst, arith, drop-cons}
use Rattle.std.specs.Borrow.{Bor}
use Rattle.std.specs.Option.{option_or}
use Rattle.address_patterns.specs.Patterns.{may_end}
use Rattle.address_patterns.specs.Pieces.{first_of, left_of, piece_of, starts_by, step, tails}

piece_shorter : (at_end : Bool) (pattern address : List ℕ) (left : List ℕ × List ℕ) → piece_of at_end pattern address ≡ Some left → length left.0 ≤ length pattern
piece_shorter at_end [] address left e = go (may_end at_end address) e
  where
    go : (t : Bool) → cond t (Some ([], address)) None ≡ Some left → length left.0 ≤ 0
    go true f = let same : ([], address) ≡ left = cc in subst (λ (l : List ℕ × List ℕ). length l.0 ≤ 0) same (omega arith)
    go false f = cc
piece_shorter at_end (item ∷ pattern) address left e = go (λ rest f. piece_shorter at_end pattern rest left f) (item == 42) (step item address) e
  where
    go : ((rest : List ℕ) → piece_of at_end pattern rest ≡ Some left → length left.0 ≤ length pattern) → (t : Bool) (o : Option (List ℕ))
        → cond t (Some (item ∷ pattern, address)) (option_and_then (piece_of at_end pattern) o) ≡ Some left → length left.0 ≤ length (item ∷ pattern)
    go more true o f = let same : (item ∷ pattern, address) ≡ left = cc in subst (λ (l : List ℕ × List ℕ). length l.0 ≤ length (item ∷ pattern)) same (omega arith)
    go more false None f = cc
    go more false (Some rest) f = omega (arith, more rest f)

first_shorter : (at_end : Bool) (pattern : List ℕ) (rests : List (List ℕ)) (left : List ℕ × List ℕ) → first_of at_end pattern rests ≡ Some left → length left.0 ≤ length pattern
first_shorter at_end pattern [] left e = cc
first_shorter at_end pattern (rest ∷ rests) left e = go (λ f. first_shorter at_end pattern rests left f) (piece_of at_end pattern rest) refl e
  where
    go : (first_of at_end pattern rests ≡ Some left → length left.0 ≤ length pattern) → (o : Option (List ℕ × List ℕ)) → piece_of at_end pattern rest ≡ o
        → option_or o (first_of at_end pattern rests) ≡ Some left → length left.0 ≤ length pattern
    go more None f g = more g
    go more (Some found) f g = piece_shorter at_end pattern rest left (f ∙ g)

-- how much of a pattern is left
abbrev pub size_left : Option (List ℕ × List ℕ) → ℕ
size_left None = 0
size_left (Some left) = length left.0 + 1

pub less_left : (at_end : Bool) (item : ℕ) (pattern : List ℕ) (rests : List (List ℕ)) (found : Option (List ℕ × List ℕ)) → found ≡ first_of at_end pattern rests
    → size_left found < length (item ∷ pattern) + 1
less_left at_end item pattern rests None e = omega arith
less_left at_end item pattern rests (Some left) e = omega (arith, first_shorter at_end pattern rests left (sym e))

-- ---- places

module _ (at_end : Bool) (pattern : List ℕ) (passes : ℕ → Bool) (address : List ℕ) (place : ℕ) where
  -- at a place behind which there is more
  next_place : (b : ℕ) (rest : List ℕ) → first_of at_end pattern (starts_by passes place (b ∷ rest))
      ≡ option_or (cond (passes place) (piece_of at_end pattern (b ∷ rest)) None) (first_of at_end pattern (starts_by passes (place + 1) rest))
  next_place b rest = go (passes place)
    where
      go : (t : Bool) → first_of at_end pattern (cond t ((b ∷ rest) ∷ starts_by passes (place + 1) rest) (starts_by passes (place + 1) rest))
          ≡ option_or (cond t (piece_of at_end pattern (b ∷ rest)) None) (first_of at_end pattern (starts_by passes (place + 1) rest))
      go true = refl
      go false = refl

  last_place : first_of at_end pattern (starts_by passes place []) ≡ cond (passes place) (piece_of at_end pattern []) None
  last_place = go (passes place)
    where
      keep : (o : Option (List ℕ × List ℕ)) → option_or o None ≡ o
      keep None = refl
      keep (Some x) = refl

      go : (t : Bool) → first_of at_end pattern (cond t ([] ∷ []) []) ≡ cond t (piece_of at_end pattern []) None
      go true = keep (piece_of at_end pattern [])
      go false = refl

  -- where the pattern's first piece fits at a place that passes, that is the first one
  pub found_here : (found : Option (Bor (List ℕ) × Bor (List ℕ))) → is_some found ≡ true → left_of found ≡ cond (passes place) (piece_of at_end pattern (drop place address)) None
      → left_of found ≡ first_of at_end pattern (starts_by passes place (drop place address))
  found_here None s e = let no : false ≡ true = s in cc
  found_here (Some x) s e = go (drop place address) e
    where
      go : (rest : List ℕ) → left_of (Some x) ≡ cond (passes place) (piece_of at_end pattern rest) None → left_of (Some x) ≡ first_of at_end pattern (starts_by passes place rest)
      go [] f = f ∙ sym last_place
      go (b ∷ rest) f = ap (λ o. option_or o (first_of at_end pattern (starts_by passes (place + 1) rest))) f ∙ sym (next_place b rest)

  -- else the places behind it decide
  pub not_here : cond (passes place) (piece_of at_end pattern (drop place address)) None ≡ None → place < length address
      → first_of at_end pattern (starts_by passes place (drop place address)) ≡ first_of at_end pattern (starts_by passes (place + 1) (drop (place + 1) address))
  not_here e within =
      let cut : drop place address ≡ get_or address place 0 ∷ drop (suc place) address = drop-cons address place 0 within in
      let next : suc place ≡ place + 1 = omega arith in
      let same : drop (suc place) address ≡ drop (place + 1) address = ap (λ (n : ℕ). drop n address) next in
      ap (λ (l : List ℕ). first_of at_end pattern (starts_by passes place l)) cut
      ∙ next_place (get_or address place 0) (drop (suc place) address)
      ∙ ap (λ o. option_or o (first_of at_end pattern (starts_by passes (place + 1) (drop (suc place) address))))
      (ap (λ (l : List ℕ). cond (passes place) (piece_of at_end pattern l) None) (sym cut) ∙ e)
      ∙ ap (λ (l : List ℕ). first_of at_end pattern (starts_by passes (place + 1) l)) same

  pub none_at_end : cond (passes place) (piece_of at_end pattern (drop place address)) None ≡ None → drop place address ≡ []
      → None ≡ first_of at_end pattern (starts_by passes place (drop place address))
  none_at_end e none =
      sym (ap (λ (l : List ℕ). first_of at_end pattern (starts_by passes place l)) none ∙ last_place
      ∙ ap (λ (l : List ℕ). cond (passes place) (piece_of at_end pattern l) None) (sym none) ∙ e)

pub none_left : (found : Option (Bor (List ℕ) × Bor (List ℕ))) → is_some found ≡ false → left_of found ≡ None
none_left None e = refl
none_left (Some x) e = let no : true ≡ false = e in cc

-- where a piece fits at the front of a text, that is its first place there
pub first_tail : (at_end : Bool) (pattern address : List ℕ) (found : Option (Bor (List ℕ) × Bor (List ℕ))) → is_some found ≡ true → left_of found ≡ piece_of at_end pattern address
    → left_of found ≡ first_of at_end pattern (tails address)
first_tail at_end pattern address None s e = let no : false ≡ true = s in cc
first_tail at_end pattern [] (Some x) s e = ap (λ o. option_or o None) e
first_tail at_end pattern (b ∷ address) (Some x) s e = ap (λ o. option_or o (first_of at_end pattern (tails address))) e
