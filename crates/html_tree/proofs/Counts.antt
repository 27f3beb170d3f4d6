-- How often names stand behind the outer ones, when one is put behind them or taken away.
use Rattle.std.proofs.Common.{◌≡◌, ℕ, Option, Some, None, Result, Ok, Err, OnOk, OnErr, suc, ◌+◌, ◌-◌, ◌<◌, ◌≤◌, Bool, true, false, cond, List, [], ◌∷◌, ◌++◌, length, drop, take, refl, arith, ap, sym, ◌∙◌, min, ⊎_elim, drop_of_length-le, length-append}
use Rattle.std.proofs.lemmas.Bool.{cases_Bool, false_from_ne_true, or_from, cases_lt, cond-true, cond-false}
use Rattle.std.proofs.lemmas.List.{length-take, length-drop, take-take, take_all, drop-append-le}
use Rattle.std.proofs.lemmas.List.Sums.{sum_by-cons, sum_by_push, count_by-le-length}
use Rattle.std.proofs.lemmas.Map.Text.{is_eq-slice_cmp}
use Rattle.std.proofs.lemmas.Slice.Eq.{bytes_eq-Decides}
use Rattle.std.specs.BTreeMap.{BTreeMap, IsEmpty, Updates, UpdatesBy, get_by}
use Rattle.std.specs.Cmp.Lexicographic.{slice_cmp}
use Rattle.std.specs.List.{list_any}
use Rattle.std.specs.Option.{unwrap_or}
use Rattle.std.specs.Ordering.{nat_cmp, on}
use Rattle.std.specs.Str.{bytes_eq, str_to_ascii_lowercase}
use Rattle.html_tree.specs.declared.chain.TheConstants.{OUTER}
use Rattle.html_tree.specs.declared.spelled.SpelledName.{SpelledName}
use Rattle.html_tree.specs.Spelled.{lower_of}
use Rattle.html_tree.specs.Counts.{count_in, times, AreCounted, IsCountedAs, AreSameCounts}

pub lower-long : (name : List ℕ) → length (str_to_ascii_lowercase name) ≡ length name
lower-long [] = refl
lower-long (b ∷ name) = ap suc (lower-long name)

-- what a map counts once an entry is put into it or taken out
pub counted_by_update : (old new : BTreeMap SpelledName ℕ) (name : SpelledName) (w : Option ℕ)
    → UpdatesBy (on lower_of (slice_cmp nat_cmp)) (on lower_of (slice_cmp nat_cmp) name) old new w → IsCountedAs old new (lower_of name) (unwrap_or w 0)
counted_by_update old new name w u q =
    let before : Option ℕ = get_by (λ k. slice_cmp nat_cmp (lower_of q) (lower_of k)) old in
    ap (λ o. unwrap_or o 0) (u.0 q)
    ∙ ap (λ b. unwrap_or (cond b w before) 0) (is_eq-slice_cmp (lower_of name) (lower_of q))
    ∙ (elim (bytes_eq (lower_of name) (lower_of q)) as (λ b. unwrap_or (cond b w before) 0 ≡ cond b (unwrap_or w 0) (unwrap_or before 0)) [ true ↦ refl | false ↦ refl ])

-- the same of a name that is counted, for which there is always room
pub counted_by_insert : {E : Type 0} (old new : BTreeMap SpelledName ℕ) (name : SpelledName) (v : ℕ) (r : Result (Option ℕ) E)
    → OnOk r (Updates (on lower_of (slice_cmp nat_cmp)) old new name (Some v)) → OnErr r (get_by (λ k. slice_cmp nat_cmp (lower_of name) (lower_of k)) old ≡ None)
    → 0 < count_in old (lower_of name) → IsCountedAs old new (lower_of name) v
counted_by_insert old new name v (Ok o) u a h = counted_by_update old new name (Some v) u
counted_by_insert old new name v (Err e) u a h = absurd (let none : count_in old (lower_of name) ≡ 0 = ap (λ o. unwrap_or o 0) a in omega (arith, none, h))

-- no names
pub counted_none : (counts : BTreeMap SpelledName ℕ) → IsEmpty counts → AreCounted counts []
counted_none counts e = λ q. rw e refl

counted_last : (name other : List ℕ) (names : List (List ℕ)) → times name (names ++ other ∷ []) ≡ times name names + cond (bytes_eq other name) 1 0
counted_last name other names = sum_by_push (λ n. cond (bytes_eq n name) 1 0) names other

-- the names behind the outer ones, and one more
behind_more : (name q : List ℕ) (names : List (List ℕ)) → OUTER ≤ length names → times q (drop OUTER (names ++ name ∷ [])) ≡ times q (drop OUTER names) + cond (bytes_eq name q) 1 0
behind_more name q names h = ap (times q) (drop-append-le OUTER names (name ∷ []) h) ∙ counted_last q name (drop OUTER names)

-- none is behind the outer ones
behind_few : (names : List (List ℕ)) (name : List ℕ) → length names < OUTER → drop OUTER (names ++ name ∷ []) ≡ drop OUTER names
behind_few names name h =
    let long : length (names ++ name ∷ []) ≤ OUTER = omega (arith, h, length-append names (name ∷ [])) in
    let short : length names ≤ OUTER = omega (arith, h) in
    drop_of_length-le (names ++ name ∷ []) long ∙ sym (drop_of_length-le names short)

same_name : (a b : List ℕ) → bytes_eq a b ≡ true → a ≡ b
same_name a b e = (bytes_eq-Decides a b).0 e

pub counted_same : (counts next : BTreeMap SpelledName ℕ) (names : List (List ℕ)) → AreCounted counts names → AreSameCounts counts next → AreCounted next names
counted_same counts next names c s = λ q. s q ∙ c q

pub counted_push : (counts next : BTreeMap SpelledName ℕ) (names : List (List ℕ)) (name : List ℕ) → AreCounted counts names → OUTER ≤ length names
    → IsCountedAs counts next name (count_in counts name + 1) → AreCounted next (names ++ name ∷ [])
counted_push counts next names name c h i = λ q.
    (let n = lower_of q in
    ⊎_elim
    (λ t. i q ∙ cond-true (bytes_eq name n) (count_in counts name + 1) (count_in counts n) t ∙ ap (λ m. count_in counts m + 1) (same_name name n t) ∙ ap (λ k. k + 1) (c q)
    ∙ sym (behind_more name n names h ∙ ap (λ b. times n (drop OUTER names) + cond b 1 0) t))
    (λ f. i q ∙ cond-false (bytes_eq name n) (count_in counts name + 1) (count_in counts n) f
    ∙ (let more = behind_more name n names h ∙ ap (λ b. times n (drop OUTER names) + cond b 1 0) f in omega (arith, c q, more)))
    (cases_Bool (bytes_eq name n)))

pub counted_push_few : (counts : BTreeMap SpelledName ℕ) (names : List (List ℕ)) (name : List ℕ) → AreCounted counts names → length names < OUTER → AreCounted counts (names ++ name ∷ [])
counted_push_few counts names name c h = λ q. c q ∙ sym (ap (times (lower_of q)) (behind_few names name h))

pub counted_pop : (counts next : BTreeMap SpelledName ℕ) (names : List (List ℕ)) (name : List ℕ) → AreCounted counts (names ++ name ∷ []) → OUTER ≤ length names
    → IsCountedAs counts next name (count_in counts name - 1) → AreCounted next names
counted_pop counts next names name c h i = λ q.
    (let n = lower_of q in
    ⊎_elim
    (λ t. i q ∙ cond-true (bytes_eq name n) (count_in counts name - 1) (count_in counts n) t ∙ ap (λ m. count_in counts m - 1) (same_name name n t)
    ∙ (let more = behind_more name n names h ∙ ap (λ b. times n (drop OUTER names) + cond b 1 0) t in omega (arith, c q, more)))
    (λ f. i q ∙ cond-false (bytes_eq name n) (count_in counts name - 1) (count_in counts n) f
    ∙ (let more = behind_more name n names h ∙ ap (λ b. times n (drop OUTER names) + cond b 1 0) f in omega (arith, c q, more)))
    (cases_Bool (bytes_eq name n)))

pub counted_pop_few : (counts : BTreeMap SpelledName ℕ) (names : List (List ℕ)) (name : List ℕ) → AreCounted counts (names ++ name ∷ []) → length names < OUTER → AreCounted counts names
counted_pop_few counts names name c h = λ q. c q ∙ ap (times (lower_of q)) (behind_few names name h)

-- the last name is counted, and none more often than there are names
pub counted_some : (counts : BTreeMap SpelledName ℕ) (names : List (List ℕ)) (q : SpelledName) → AreCounted counts (names ++ lower_of q ∷ []) → OUTER ≤ length names
    → 0 < count_in counts (lower_of q)
counted_some counts names q c h =
    let n = lower_of q in
    let more = behind_more n n names h ∙ ap (λ b. times n (drop OUTER names) + cond b 1 0) ((bytes_eq-Decides n n).1 refl) in
    omega (arith, c q, more)

pub counted_few : (counts : BTreeMap SpelledName ℕ) (names : List (List ℕ)) (q : SpelledName) → AreCounted counts names → count_in counts (lower_of q) ≤ length names
counted_few counts names q c = omega (arith, c q, count_by-le-length (λ n. bytes_eq n (lower_of q)) (drop OUTER names), length-drop OUTER names)

bit_set : (b : Bool) → b ≡ true → 1 ≤ cond b 1 0
bit_set true e = omega arith
bit_set false e = cc

-- a name that isn't counted isn't there
pub times-none : (name : List ℕ) (names : List (List ℕ)) → times name names ≡ 0 → list_any (λ n. bytes_eq n name) names ≡ false
times-none name [] e = refl
times-none name (n ∷ names) e =
    let whole : cond (bytes_eq n name) 1 0 + times name names ≡ 0 = sym (sum_by-cons (λ n. cond (bytes_eq n name) 1 0) n names) ∙ e in
    or_from (bytes_eq n name) (list_any (λ n. bytes_eq n name) names)
    (false_from_ne_true (bytes_eq n name) (λ t. (let one = bit_set (bytes_eq n name) t in omega (arith, whole, one))))
    (times-none name names (omega (arith, whole)))

-- the first names, when names are taken away one by one
pub pop_take : (left : ℕ) (names old after : List (List ℕ)) → left ≤ length old → names ≡ take left old → after ≡ take (length names - 1) names → after ≡ take (left - 1) old
pop_take left names old after h e p =
    let long : length names ≡ left = omega (arith, ap length e, length-take left old) in
    p ∙ ap (λ n. take (n - 1) names) long ∙ ap (take (left - 1)) e ∙ take-take (left - 1) left old (omega arith)

pub take_enough : (count left : ℕ) (names : List (List ℕ)) → left ≤ count → min count (length names) ≤ left → take left names ≡ take count names
take_enough count left names h k =
    ⊎_elim
    (λ few. ap (λ n. take n names) (let same : left ≡ count = omega arith in same))
    (λ all. (let most : length names ≤ left = omega arith in take_all left names most ∙ sym (take_all count names all))) (cases_lt count (length names))
