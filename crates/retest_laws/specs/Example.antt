-- Two filters and three elements, computed. Filter 0 selected 1 and 2; then 3 came, and 2 was touched.
use Rattle.std.specs.Prelude.{◌≡◌, true, false, ◌==◌, ◌&&◌, ◌||◌, [], ◌∷◌, refl}
use Rattle.retest_laws.specs.Pending.{Pairs, Stage, asked_again, dirtied, marks_left, budget}

abbrev marks : Pairs
marks f x = f == 0 && (x == 1 || x == 2)

abbrev behind : Stage
behind = record {
  elements = 2 ∷ 3 ∷ [];
  answers = λ f x. f == 1 || x == 3;
  dirty = λ f x. x == 3 || (f == 0 && x == 2);
}

-- everything carries the key of filter 0, and 3 that of filter 1
abbrev carries : Pairs
carries f x = f == 0 || x == 3

-- 1 went, with its mark
gone : marks_left (behind ∷ []) marks 0 1 ≡ false
gone = refl

stays : marks_left (behind ∷ []) marks 0 2 ≡ true
stays = refl

-- filter 1 isn't pending at 2
not_pending : dirtied (behind ∷ []) 1 2 ≡ false
not_pending = refl

-- 2 lost its mark, 3 has one for each filter
lost : asked_again (2 ∷ 3 ∷ []) behind.answers carries behind.dirty marks 0 2 ≡ false
lost = refl

won : asked_again (2 ∷ 3 ∷ []) behind.answers carries behind.dirty marks 1 3 ≡ true
won = refl

-- filter 1 has no key at 2, and isn't pending there: its answer isn't asked
passed : asked_again (2 ∷ 3 ∷ []) behind.answers carries behind.dirty marks 1 2 ≡ false
passed = refl

-- one at 2, two at 3
counted : budget 2 (2 ∷ 3 ∷ []) carries behind.dirty ≡ 3
counted = refl
