-- Each definition, computed on a small case.
use Rattle.std.specs.Prelude.{ℕ, ◌≡◌, List, [], ◌∷◌, Some, None, Err, codes, refl}
use Rattle.std.proofs.Math.Nat.{le_refl, le-suc}
use Rattle.cos_outside.specs.declared.errors.ReadError.TheVariants.{TooLong}
use Rattle.cos_outside.specs.Causes.{raised, Rose}
use Rattle.cos_outside.specs.Files.{file_of, bytes_at}
use Rattle.cos_outside.specs.MemoryShelf.{rest_in}
use Rattle.cos_outside.specs.Reads.{TakesFrom}
use Rattle.cos_outside.specs.Runs.{AppendsPrefix, HasLeft}
use Rattle.cos_outside.specs.Writes.{AppendsFirst}

-- counts: 5 rises to 6, and the last value stays

six : raised 5 ≡ 6
six = refl

last_stays : raised 18446744073709551615 ≡ 18446744073709551615
last_stays = refl

rose_by_one : Rose 5 6
rose_by_one = le_refl 6

rose_at_the_last : Rose 18446744073709551615 18446744073709551615
rose_at_the_last = le_refl 18446744073709551615

-- files: two of the name "a", and the first counts

abbrev files : List (List ℕ × List ℕ)
files = (codes "b", codes "other") ∷ (codes "a", codes "first") ∷ (codes "a", codes "second") ∷ []

first_of_its_name : file_of files (codes "a") ≡ Some (codes "first")
first_of_its_name = refl

not_there : file_of files (codes "c") ≡ None
not_there = refl

at_the_last_place : bytes_at files 2 ≡ codes "second"
at_the_last_place = refl

past_the_last_place : bytes_at files 3 ≡ []
past_the_last_place = refl

-- the shelf in memory: three bytes of "first" were given

rest_in_hand : rest_in files (Some (record { file = 1; at = 3 })) ≡ codes "st"
rest_in_hand = refl

-- reads: of a file of five bytes, three were taken where the limit is two

too_long : TakesFrom {T = List ℕ} (Some (codes "first")) (codes "st") 2 (Err TooLong)
too_long = record { taken = codes "fir"; split = refl; most = le_refl 3; past = (λ _. refl, λ _. refl) }

-- runs: of "two" two bytes were appended to "one", and one is left

two_of_three : AppendsPrefix (codes "one") (codes "onetw") (codes "two")
two_of_three = record { count = 2; within = le-suc 2; front = refl }

one_left : HasLeft (codes "one") (codes "onetw") (codes "two") (codes "o")
one_left = record { done = codes "tw"; appended = refl; whole = refl }

-- writes: of three texts two were written whole

two_texts_of_three : AppendsFirst (codes "a") (codes "abcd") (codes "bc" ∷ codes "d" ∷ codes "e" ∷ [])
two_texts_of_three = record { count = 2; fewer = le_refl 3; front = refl }
