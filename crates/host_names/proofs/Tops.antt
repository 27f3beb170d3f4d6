-- The longest rule that matches, as a greatest number over the rules.
use Rattle.std.proofs.Common.{◌≡◌, ◌∙◌, ◌++◌, ◌==◌, ◌&&◌, ◌||◌, ◌+◌, ◌-◌, ◌≤◌, ◌<◌, ℕ, suc, Bool, true, false, cond, nat_le, List, [], ◌∷◌, length, drop, filter, refl, ap, sym, arith, max}
use Rattle.std.proofs.lemmas.Bool.Decides.{nat_tests}
use Rattle.std.specs.Cmp.Lexicographic.{pointwise}
use Rattle.std.specs.List.{list_any}
use Rattle.std.specs.Str.{bytes_eq}
use Rattle.host_names.specs.Hosts.{end_with}
use Rattle.host_names.specs.Suffixes.{Rule, is_exception, longest, matches, most_labels, rule_length}
use Rattle.host_names.specs.Held.{is_whole}

abbrev pub top : (Rule → ℕ) → List Rule → ℕ
top f [] = 0
top f (r ∷ rules) = max (f r) (top f rules)

-- the labels of a rule that matches, else 0
abbrev pub weight : Bool → List (List ℕ) → Rule → ℕ
weight exceptions labels r = cond (is_exception exceptions r && matches labels r) (rule_length r) 0

pub longest_top : (exceptions : Bool) (rules : List Rule) (labels : List (List ℕ)) → longest exceptions rules labels ≡ top (weight exceptions labels) rules
longest_top exceptions [] labels = refl
longest_top exceptions (r ∷ rules) labels = go (is_exception exceptions r && matches labels r) (longest_top exceptions rules labels)
  where
    rest : List Rule
    rest = filter (λ rule. is_exception exceptions rule && matches labels rule) rules

    go : (t : Bool) → most_labels (filter (λ rule. is_exception exceptions rule && matches labels rule) rules) ≡ top (weight exceptions labels) rules
        → most_labels (cond t (r ∷ filter (λ rule. is_exception exceptions rule && matches labels rule) rules) (filter (λ rule. is_exception exceptions rule && matches labels rule) rules))
        ≡ max (cond t (rule_length r) 0) (top (weight exceptions labels) rules)
    go true e = ap (max (rule_length r)) e
    go false e = omega (arith, e)

pub top_append : (f : Rule → ℕ) (xs ys : List Rule) → top f (xs ++ ys) ≡ max (top f xs) (top f ys)
top_append f [] ys = omega arith
top_append f (x ∷ xs) ys = omega (arith, top_append f xs ys)

top_within : (g : Rule → ℕ) (n : ℕ) → ((r : Rule) → g r ≤ n) → (rules : List Rule) → top g rules ≤ n
top_within g n within [] = omega arith
top_within g n within (r ∷ rules) = omega (arith, within r, top_within g n within rules)

pub top_none : (f : Rule → ℕ) → ((r : Rule) → f r ≡ 0) → (rules : List Rule) → top f rules ≡ 0
top_none f none [] = refl
top_none f none (r ∷ rules) = omega (arith, none r, top_none f none rules)

-- where some rules have the greatest weight there is, and the others one by g
top_step : (f g : Rule → ℕ) (n : ℕ) (q : Rule → Bool) → ((r : Rule) → f r ≡ cond (q r) n (g r)) → ((r : Rule) → g r ≤ n)
    → (rules : List Rule) → top f rules ≡ cond (list_any q rules) n (top g rules)
top_step f g n q by within [] = refl
top_step f g n q by within (r ∷ rules) = go (q r) (list_any q rules) (by r) (top_step f g n q by within rules)
  where
    go : (t u : Bool) → f r ≡ cond t n (g r) → top f rules ≡ cond u n (top g rules) → max (f r) (top f rules) ≡ cond (t || u) n (max (g r) (top g rules))
    go true true e more = omega (arith, e, more)
    go true false e more = omega (arith, e, more, top_within g n within rules)
    go false true e more = omega (arith, e, more, within r)
    go false false e more = omega (arith, e, more)

-- ---- one more label

-- the last labels are of the shorter list, where it has as many
pub end_shorter : (label : List ℕ) (labels these : List (List ℕ)) → length these ≤ length labels → end_with (label ∷ labels) these ≡ end_with labels these
end_shorter label labels these fits =
    let e : length (label ∷ labels) - length these ≡ suc (length labels - length these) = omega arith in
    rw e refl

labels_within : (r : Rule) → length r.labels ≤ rule_length r
labels_within r = go r.star
  where
    go : (t : Bool) → length r.labels ≤ cond t (length r.labels + 1) (length r.labels)
    go true = omega arith
    go false = omega arith

-- a rule that matches all labels weighs the most, another weighs as much as before
weight_more : (exceptions : Bool) (label : List ℕ) (labels : List (List ℕ)) (r : Rule)
    → weight exceptions (label ∷ labels) r ≡ cond (is_whole exceptions (label ∷ labels) r) (length (label ∷ labels)) (weight exceptions labels r)
weight_more exceptions label labels r = go (is_exception exceptions r) (rule_length r) (labels_within r)
  where
    go : (t : Bool) (n : ℕ) → length r.labels ≤ n
        → cond (t && (nat_le n (length (label ∷ labels)) && end_with (label ∷ labels) r.labels)) n 0
        ≡ cond (t && (n == length (label ∷ labels) && end_with (label ∷ labels) r.labels)) (length (label ∷ labels)) (cond (t && (nat_le n (length labels) && end_with labels r.labels)) n 0)
    go false n within = refl
    go true n within = by_case (n == length (label ∷ labels)) refl (nat_le n (length labels)) refl
      where
        by_case : (a : Bool) → (n == length (label ∷ labels)) ≡ a → (b : Bool) → nat_le n (length labels) ≡ b
            → cond (nat_le n (length (label ∷ labels)) && end_with (label ∷ labels) r.labels) n 0
            ≡ cond (n == length (label ∷ labels) && end_with (label ∷ labels) r.labels) (length (label ∷ labels)) (cond (nat_le n (length labels) && end_with labels r.labels) n 0)
        by_case true e b f =
            let same : n ≡ length (label ∷ labels) = grind (arith, nat_tests, e) in
            let small : nat_le n (length labels) ≡ false = grind (arith, nat_tests, same) in
            let large : nat_le n (length (label ∷ labels)) ≡ true = grind (arith, nat_tests, same) in
            rw (e, small, large) (ap (λ m. cond (end_with (label ∷ labels) r.labels) m 0) same)
        by_case false e true f =
            let fits : n ≤ length labels = grind (arith, nat_tests, f) in
            let large : nat_le n (length (label ∷ labels)) ≡ true = grind (arith, nat_tests, fits) in
            let shorter = end_shorter label labels r.labels (omega arith) in
            rw (e, f, large, shorter) refl
        by_case false e false f =
            let past : length labels < n = grind (arith, nat_tests, f) in
            let other : (n ≡ length (label ∷ labels)) → ⊥ = λ same. absurd (grind (arith, nat_tests, e, same)) in
            let small : nat_le n (length (label ∷ labels)) ≡ false = grind (arith, nat_tests, past, other) in
            rw (e, f, small) refl

weight_within : (exceptions : Bool) (labels : List (List ℕ)) (r : Rule) → weight exceptions labels r ≤ length labels
weight_within exceptions labels r = go (is_exception exceptions r) (rule_length r) (end_with labels r.labels)
  where
    go : (t : Bool) (n : ℕ) (u : Bool) → cond (t && (nat_le n (length labels) && u)) n 0 ≤ length labels
    go false n u = omega arith
    go true n u = by_case (nat_le n (length labels)) refl u
      where
        by_case : (b : Bool) → nat_le n (length labels) ≡ b → (v : Bool) → cond (nat_le n (length labels) && v) n 0 ≤ length labels
        by_case true f true = let fits : n ≤ length labels = grind (arith, nat_tests, f) in rw f fits
        by_case true f false = rw f (omega arith)
        by_case false f v = rw f (omega arith)

-- the longest rule that matches one more label has them all, or is the longest one that matches the others
pub longest_more : (exceptions : Bool) (label : List ℕ) (labels : List (List ℕ)) (rules : List Rule)
    → longest exceptions rules (label ∷ labels) ≡ cond (list_any (is_whole exceptions (label ∷ labels)) rules) (length (label ∷ labels)) (longest exceptions rules labels)
longest_more exceptions label labels rules =
    longest_top exceptions rules (label ∷ labels)
    ∙ top_step (weight exceptions (label ∷ labels)) (weight exceptions labels) (length (label ∷ labels)) (is_whole exceptions (label ∷ labels))
    (weight_more exceptions label labels) (λ r. omega (arith, weight_within exceptions labels r)) rules
    ∙ ap (cond (list_any (is_whole exceptions (label ∷ labels)) rules) (length (label ∷ labels))) (sym (longest_top exceptions rules labels))

pub longest_none : (exceptions : Bool) (rules : List Rule) → longest exceptions rules [] ≡ 0
longest_none exceptions rules = longest_top exceptions rules [] ∙ top_none (weight exceptions []) (λ r. omega (arith, weight_within exceptions [] r)) rules
