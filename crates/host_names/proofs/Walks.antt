-- The walk over the ends of a host, and over the lines of a file.
use Rattle.std.proofs.Common.{◌≡◌, ◌∙◌, ◌++◌, ◌==◌, ◌&&◌, ◌+◌, ◌-◌, ◌<◌, ◌≤◌, ℕ, suc, Bool, true, false, cond, nat_le, nat_lt, List, [], ◌∷◌, Option, Some, None, length, refl, ap, ap₂, sym, arith, max}
use Rattle.std.specs.List.{list_any}
use Rattle.host_names.specs.Hosts.{behind_dots, end_with, ends_of, labels_of}
use Rattle.host_names.specs.Held.{is_whole, line_meaning, rule_by}
use Rattle.host_names.specs.Left.{ends_left, labels_left}
use Rattle.host_names.specs.Suffixes.{Rule, before, has_no_name, is_exception, longest, matches, rest, suffix_count}
use Rattle.host_names.specs.SuffixLines.{SuffixLine, nothing, rule, bad, any_label, bad_lines, rules_of, suffix_line, with_bad, with_rule}
use Rattle.cos_source.specs.Parts.{before as before_dot, behind}
use Rattle.host_names.proofs.Labels.{behind_dots_left, labels_at_first}
use Rattle.host_names.proofs.Tops.{longest_more, longest_none, longest_top, top, top_append, weight}

-- what is left of a walk: these ends of a name, as many labels, and among them the longest rule that matches
pub record LeftOf (exceptions : Bool) (rules : List Rule) (total count : ℕ) (ends : List (List ℕ)) : Type 0 where
  pub name : Option (List ℕ)
  pub ends_are : ends ≡ ends_left name
  pub count_is : count ≡ length (labels_left name)
  pub longest_is : total ≡ longest exceptions rules (labels_left name)

pub begun : (exceptions : Bool) (rules : List Rule) (host : List ℕ) (count : ℕ) (ends : List (List ℕ)) → count ≡ length (labels_of host) → ends ≡ ends_of host
    → LeftOf exceptions rules (longest exceptions rules (labels_of host)) count ends
begun exceptions rules host count ends e f = record { name = Some host; ends_are = f; count_is = e; longest_is = refl }

module _ (exceptions : Bool) (rules : List Rule) (total count : ℕ) (ends : List (List ℕ)) (end : List ℕ) (more : List (List ℕ)) where
  pub some_left : LeftOf exceptions rules total count ends → ends ≡ end ∷ more → 0 < count
  some_left left e = go left.name left.ends_are left.count_is
    where
      go : (o : Option (List ℕ)) → ends ≡ ends_left o → count ≡ length (labels_left o) → 0 < count
      go None f n = absurd (omega (arith, ap length (sym e ∙ f)))
      go (Some name) f n = omega (arith, n ∙ ap length (labels_at_first name))

  pub goes_on : LeftOf exceptions rules total count ends → ends ≡ end ∷ more → list_any (is_whole exceptions (labels_of end)) rules ≡ false
      → LeftOf exceptions rules total (count - 1) more
  goes_on left e none = go left.name left.ends_are left.count_is left.longest_is
    where
      go : (o : Option (List ℕ)) → ends ≡ ends_left o → count ≡ length (labels_left o) → total ≡ longest exceptions rules (labels_left o) → LeftOf exceptions rules total (count - 1) more
      go None f n l = absurd (omega (arith, ap length (sym e ∙ f)))
      go (Some name) f n l =
          let same : end ≡ name = let h : end ∷ more ≡ name ∷ behind_dots name = sym e ∙ f in cc in
          let rest : more ≡ behind_dots name = let h : end ∷ more ≡ name ∷ behind_dots name = sym e ∙ f in cc in
          let first : labels_of name ≡ before_dot 46 name ∷ labels_left (behind 46 name) = labels_at_first name in
          let none_here : list_any (is_whole exceptions (before_dot 46 name ∷ labels_left (behind 46 name))) rules ≡ false =
          ap (λ labels. list_any (is_whole exceptions labels) rules) (sym first ∙ ap labels_of (sym same)) ∙ none in
          record {
            name = behind 46 name;
            ends_are = rest ∙ behind_dots_left name;
            count_is = omega (arith, n ∙ ap length first);
            longest_is = l ∙ ap (longest exceptions rules) first ∙ longest_more exceptions (before_dot 46 name) (labels_left (behind 46 name)) rules
                ∙ ap (λ t. cond t (length (before_dot 46 name ∷ labels_left (behind 46 name))) (longest exceptions rules (labels_left (behind 46 name)))) none_here;
          }

  pub stops : LeftOf exceptions rules total count ends → ends ≡ end ∷ more → list_any (is_whole exceptions (labels_of end)) rules ≡ true → count ≡ total
  stops left e some = go left.name left.ends_are left.count_is left.longest_is
    where
      go : (o : Option (List ℕ)) → ends ≡ ends_left o → count ≡ length (labels_left o) → total ≡ longest exceptions rules (labels_left o) → count ≡ total
      go None f n l = absurd (omega (arith, ap length (sym e ∙ f)))
      go (Some name) f n l =
          let same : end ≡ name = let h : end ∷ more ≡ name ∷ behind_dots name = sym e ∙ f in cc in
          let first : labels_of name ≡ before_dot 46 name ∷ labels_left (behind 46 name) = labels_at_first name in
          let here : list_any (is_whole exceptions (before_dot 46 name ∷ labels_left (behind 46 name))) rules ≡ true =
          ap (λ labels. list_any (is_whole exceptions labels) rules) (sym first ∙ ap labels_of (sym same)) ∙ some in
          n ∙ ap length first
          ∙ sym (l ∙ ap (longest exceptions rules) first ∙ longest_more exceptions (before_dot 46 name) (labels_left (behind 46 name)) rules
          ∙ ap (λ t. cond t (length (before_dot 46 name ∷ labels_left (behind 46 name))) (longest exceptions rules (labels_left (behind 46 name)))) here)

pub none_left : (exceptions : Bool) (rules : List Rule) (total count : ℕ) (ends : List (List ℕ)) → LeftOf exceptions rules total count ends → ends ≡ [] → 0 ≡ total
none_left exceptions rules total count ends left e = go left.name left.ends_are left.longest_is
  where
    go : (o : Option (List ℕ)) → ends ≡ ends_left o → total ≡ longest exceptions rules (labels_left o) → 0 ≡ total
    go None f l = sym (l ∙ longest_none exceptions rules)
    go (Some name) f l = absurd (omega (arith, ap length (sym e ∙ f)))

-- ---- rules that give each host the same suffix

pub record AreAlike (xs ys : List Rule) : Type 0 where
  pub exception : (labels : List (List ℕ)) → longest true xs labels ≡ longest true ys labels
  pub other : (labels : List (List ℕ)) → max 1 (longest false xs labels) ≡ max 1 (longest false ys labels)

pub same_alike : (xs ys : List Rule) → xs ≡ ys → AreAlike xs ys
same_alike xs ys e = record { exception = λ labels. ap (λ rules. longest true rules labels) e; other = λ labels. ap (λ rules. max 1 (longest false rules labels)) e }

pub through : (xs ys zs : List Rule) → AreAlike xs ys → AreAlike ys zs → AreAlike xs zs
through xs ys zs a b = record { exception = λ labels. a.exception labels ∙ b.exception labels; other = λ labels. a.other labels ∙ b.other labels }

pub same_rest : (xs ys : List Rule) → AreAlike xs ys → (host : List ℕ) → rest xs host ≡ rest ys host
same_rest xs ys alike host =
    ap (λ n. cond (has_no_name host) None (before n (labels_of host))) (counts (labels_of host))
  where
    counts : (labels : List (List ℕ)) → suffix_count xs labels ≡ suffix_count ys labels
    counts labels = ap₂ (λ a b. cond (nat_lt 0 a) (a - 1) b) (alike.exception labels) (alike.other labels)

longest_append : (exceptions : Bool) (xs ys : List Rule) (labels : List (List ℕ)) → longest exceptions (xs ++ ys) labels ≡ max (longest exceptions xs labels) (longest exceptions ys labels)
longest_append exceptions xs ys labels =
    longest_top exceptions (xs ++ ys) labels ∙ top_append (weight exceptions labels) xs ys
    ∙ ap₂ max (sym (longest_top exceptions xs labels)) (sym (longest_top exceptions ys labels))

longest_cons : (exceptions : Bool) (r : Rule) (ys : List Rule) (labels : List (List ℕ)) → longest exceptions (r ∷ ys) labels ≡ max (weight exceptions labels r) (longest exceptions ys labels)
longest_cons exceptions r ys labels = longest_top exceptions (r ∷ ys) labels ∙ ap (max (weight exceptions labels r)) (sym (longest_top exceptions ys labels))

-- one more rule, put among those that were read
pub put_alike : (r : Rule) (old new more : List Rule)
    → ((exceptions : Bool) (labels : List (List ℕ)) → longest exceptions new labels ≡ longest exceptions (r ∷ old) labels)
    → AreAlike (new ++ more) (old ++ r ∷ more)
put_alike r old new more e = record { exception = at true; other = λ labels. ap (max 1) (at false labels) }
  where
    at : (exceptions : Bool) (labels : List (List ℕ)) → longest exceptions (new ++ more) labels ≡ longest exceptions (old ++ r ∷ more) labels
    at exceptions labels = omega (arith, longest_append exceptions new more labels, longest_append exceptions old (r ∷ more) labels, e exceptions labels, longest_cons exceptions r old labels, longest_cons exceptions r more labels)

-- the rule `*` changes nothing
pub any_alike : (old more : List Rule) → AreAlike (old ++ more) (old ++ any_label ∷ more)
any_alike old more = record { exception = exception; other = other }
  where
    exception : (labels : List (List ℕ)) → longest true (old ++ more) labels ≡ longest true (old ++ any_label ∷ more) labels
    exception labels = omega (arith, longest_append true old more labels, longest_append true old (any_label ∷ more) labels, longest_cons true any_label more labels)

    one : (labels : List (List ℕ)) → weight false labels any_label ≤ 1
    one labels = go (nat_le 1 (length labels) && end_with labels [])
      where
        go : (t : Bool) → cond t 1 0 ≤ 1
        go true = omega arith
        go false = omega arith

    other : (labels : List (List ℕ)) → max 1 (longest false (old ++ more) labels) ≡ max 1 (longest false (old ++ any_label ∷ more) labels)
    other labels = omega (arith, longest_append false old more labels, longest_append false old (any_label ∷ more) labels, longest_cons false any_label more labels, one labels)

-- ---- one more line

-- what a line adds, where its meaning is known
pub opened : (line : ℕ × List ℕ) (lines more : List (ℕ × List ℕ)) (meaning : SuffixLine) → lines ≡ line ∷ more → meaning ≡ suffix_line line.1 → rules_of lines ≡ with_rule meaning (rules_of more)
opened line lines more meaning e f = ap rules_of e ∙ ap (λ m. with_rule m (rules_of more)) (sym f)

pub opened_bad : (line : ℕ × List ℕ) (lines more : List (ℕ × List ℕ)) (meaning : SuffixLine) → lines ≡ line ∷ more → meaning ≡ suffix_line line.1 → bad_lines lines ≡ with_bad line.0 meaning (bad_lines more)
opened_bad line lines more meaning e f = ap bad_lines e ∙ ap (λ m. with_bad line.0 m (bad_lines more)) (sym f)

module _ (read total : List Rule) (line : ℕ × List ℕ) (lines more : List (ℕ × List ℕ)) where
  after_line : (meaning : SuffixLine) → lines ≡ line ∷ more → meaning ≡ suffix_line line.1 → AreAlike (read ++ rules_of lines) total
      → AreAlike (read ++ with_rule meaning (rules_of more)) total
  after_line meaning e f h =
      through (read ++ with_rule meaning (rules_of more)) (read ++ rules_of lines) total
      (same_alike _ _ (ap (λ (rules : List Rule). read ++ rules) (sym (opened line lines more meaning e f)))) h

  pub after_nothing : lines ≡ line ∷ more → nothing ≡ suffix_line line.1 → AreAlike (read ++ rules_of lines) total → AreAlike (read ++ rules_of more) total
  after_nothing e f h = after_line nothing e f h

  pub after_bad : lines ≡ line ∷ more → bad ≡ suffix_line line.1 → AreAlike (read ++ rules_of lines) total → AreAlike (read ++ rules_of more) total
  after_bad e f h = after_line bad e f h

  pub after_any : lines ≡ line ∷ more → rule any_label ≡ suffix_line line.1 → AreAlike (read ++ rules_of lines) total → AreAlike (read ++ rules_of more) total
  after_any e f h = through (read ++ rules_of more) (read ++ any_label ∷ rules_of more) total (any_alike read (rules_of more)) (after_line (rule any_label) e f h)

  pub after_rule : (r : Rule) (new : List Rule) → lines ≡ line ∷ more → rule r ≡ suffix_line line.1
      → ((exceptions : Bool) (labels : List (List ℕ)) → longest exceptions new labels ≡ longest exceptions (r ∷ read) labels)
      → AreAlike (read ++ rules_of lines) total → AreAlike (new ++ rules_of more) total
  after_rule r new e f g h = through (new ++ rules_of more) (read ++ r ∷ rules_of more) total (put_alike r read new (rules_of more) g) (after_line (rule r) e f h)

-- the numbers of the malformed lines, with those of the lines that are left
pub after_bad_line : (numbers total : List ℕ) (line : ℕ × List ℕ) (lines more : List (ℕ × List ℕ)) (meaning : SuffixLine) → lines ≡ line ∷ more → meaning ≡ suffix_line line.1
    → numbers ++ bad_lines lines ≡ total → numbers ++ with_bad line.0 meaning (bad_lines more) ≡ total
after_bad_line numbers total line lines more meaning e f h = ap (λ (ns : List ℕ). numbers ++ ns) (sym (opened_bad line lines more meaning e f)) ∙ h

pub one_more : (numbers : List ℕ) (n : ℕ) (others : List ℕ) → (numbers ++ n ∷ []) ++ others ≡ numbers ++ n ∷ others
one_more [] n others = refl
one_more (m ∷ numbers) n others = ap (λ l. m ∷ l) (one_more numbers n others)
