-- What a selector selects. A step takes a list of elements to a list of elements in document order, and a selector's
-- steps begin with all elements. Elements go by their numbers; 0 is the document, which is no element.
use Rattle.std.specs.Prelude.{ℕ, zero, suc, ◌+◌, ℤ, pos, ◌+ℤ◌, ◌*ℤ◌, nat_abs, int_le, Bool, true, false, not, ◌&&◌, ◌==◌, nat_le, List, [], ◌∷◌, ◌++◌, map, filter, find, length, codes, Option, Some, None, slice_get, unwrap_or, if◌then◌else◌}
use Rattle.std.specs.List.{list_any, list_all, range_with_len}
use Rattle.std.specs.Str.{bytes_eq}
use Rattle.selector_tree.specs.declared.selector.Place.{Place}
use Rattle.selector_tree.specs.declared.selector.Place.TheVariants.{Child, Descendant, Next, After}
use Rattle.selector_tree.specs.declared.selector.Arg.{Arg}
use Rattle.selector_tree.specs.declared.selector.Arg.TheVariants.{Literal, Pattern}
use Rattle.selector_tree.specs.declared.selector.Step.{Step, fold-Step}
use Rattle.selector_tree.specs.declared.selector.Test.{Test, fold-Test}
use Rattle.selector_tree.specs.declared.selector.Step.TheOpen.{Step-F, Test-F}
use Rattle.page_tree.specs.Forest.{Tree, first_in}
use Rattle.page_tree.specs.Standings.{Sibling, all, above, before, after, name, attrs, inner}
use Rattle.page_tree.specs.Facts.{attr, id, class_list, text_content, text_length, is_blank}
use Rattle.page_tree.specs.Directions.{is_in, head_is, numbers_of, holders}
use Rattle.selector_meaning.specs.Texts.{Bytes, is_empty, has_part, spelled, fits, some_fits}

abbrev pub option_is : Option ℕ → ℕ → Bool
option_is None x = false
option_is (Some y) x = y == x

-- the n-th of some ancestors, nearest first and from 1
abbrev pub ancestor : ℕ → List ℕ → Option ℕ
ancestor zero ancestors = None
ancestor (suc n) ancestors = slice_get ancestors n

-- what a test says of an element
abbrev pub TestMeaning : Type 0
TestMeaning = ℕ → Bool

-- what a step makes of a list of elements, and whether it goes up by `:upward()`
pub record StepMeaning : Type 0 where
  pub goes_up : Bool
  pub push : List ℕ → List ℕ

abbrev pub ChainMeaning : Type 0
ChainMeaning = List StepMeaning

abbrev pub SelectorMeaning : Type 0
SelectorMeaning = List ChainMeaning

-- the steps one after another
abbrev pub run : ChainMeaning → List ℕ → List ℕ
run [] s = s
run (step ∷ steps) s = run steps (step.push s)

-- the steps before the first that goes up
abbrev pub front : ChainMeaning → ChainMeaning
front [] = []
front (step ∷ steps) = if step.goes_up then [] else step ∷ front steps

-- the steps from the first on that goes up
abbrev pub rest : ChainMeaning → ChainMeaning
rest [] = []
rest (step ∷ steps) = if step.goes_up then step ∷ steps else rest steps

-- p is `a*k+b` for some k of 0 or more (Selectors Level 4, ":nth-child() pseudo-class"); k is never above p + |b|
abbrev pub is_nth : ℤ → ℤ → ℕ → Bool
is_nth a b p =
    list_any (λ k. int_le (a *ℤ pos k +ℤ b) (pos p) && int_le (pos p) (a *ℤ pos k +ℤ b)) (range_with_len 0 (p + nat_abs b + 1))

-- all siblings, or those of the element's own name
abbrev pub of_same_name : Bool → Bytes → List Sibling → List Sibling
of_same_name false own siblings = siblings
of_same_name true own siblings = filter (λ s. bytes_eq s.name own) siblings

-- names of which `:others()` takes none
abbrev pub unshown : List Bytes
unshown =
    codes "head" ∷ codes "link" ∷ codes "meta" ∷ codes "script" ∷ codes "style" ∷ codes "title" ∷ codes "html" ∷ codes "body" ∷ []

-- a chain leads from x to something
abbrev pub leads : ChainMeaning → ℕ → Bool
leads chain x = not (is_empty (run chain (x ∷ [])))

module _ (t : Tree) where
  -- x is there from y (Selectors Level 4, "Combinators")
  abbrev pub is_there : Place → ℕ → ℕ → Bool
  -- y > x: the parent of x is y
  is_there Child y x = head_is (above t x) y
  -- y x: an ancestor of x is y
  is_there Descendant y x = is_in (above t x) y
  -- y + x: the element sibling before x is y
  is_there Next y x = head_is (numbers_of (before t x)) y
  -- y ~ x: an element sibling before x is y
  is_there After y x = is_in (numbers_of (before t x)) y

  -- the elements for which the relation holds from some member
  abbrev pub from_some : (ℕ → ℕ → Bool) → List ℕ → List ℕ
  from_some relation s = filter (λ x. list_any (λ y. relation y x) s) (all t)

  -- a chain gives something for x: its front leads to x from all elements, and its rest leads from x to something
  abbrev pub gives : ChainMeaning → ℕ → Bool
  gives chain x = is_in (run (front chain) (all t)) x && leads (rest chain) x

  -- some chain leads to x from all elements
  abbrev pub selected_by : SelectorMeaning → ℕ → Bool
  selected_by selector x = list_any (λ chain. is_in (run chain (all t)) x) selector

  -- x is the n-th ancestor of y
  abbrev pub is_ancestor : ℕ → ℕ → ℕ → Bool
  is_ancestor n y x = option_is (ancestor n (above t y)) x

  -- x is the nearest ancestor of y that is chosen
  abbrev pub is_nearest : (ℕ → Bool) → ℕ → ℕ → Bool
  is_nearest chosen y x = option_is (find chosen (above t y)) x

  -- the parent, which may be the document
  abbrev pub parent : ℕ → ℕ
  parent x = unwrap_or (first_in (above t x)) 0

  -- neither x nor anything above or below it is y
  abbrev pub is_apart : ℕ → ℕ → Bool
  is_apart y x = not (y == x) && not (is_in (above t y) x) && not (is_in (above t x) y)

  -- the parent of x is above y
  abbrev pub is_beside : ℕ → ℕ → Bool
  is_beside y x = is_in (holders t y) (parent x)

  -- the name is none of those
  abbrev pub is_shown : ℕ → Bool
  is_shown x = not (list_any (λ n. bytes_eq n (name t x)) unshown)

  -- x is apart from all members, beside some, and shown (this project's profile)
  abbrev pub is_other : List ℕ → ℕ → Bool
  is_other s x = list_all (λ y. is_apart y x) s && list_any (λ y. is_beside y x) s && is_shown x

-- `found body flags text` says whether the pattern of this body under these flags is found in a text
module _ (found : Bytes → ℕ → Bytes → Bool) where
  -- a text holds the literal, or the pattern is found in it
  abbrev pub is_found : Arg → Bytes → Bool
  is_found (Literal l) s = has_part l s
  is_found (Pattern body flags number) s = found body flags s

  -- a name or a value is the literal, or the pattern is found in it
  abbrev pub is_named : Arg → Bytes → Bool
  is_named (Literal l) s = bytes_eq s l
  is_named (Pattern body flags number) s = found body flags s

  -- the same where something is asked for
  abbrev pub is_named_by : Option Arg → Bytes → Bool
  is_named_by None s = true
  is_named_by (Some arg) s = is_named arg s

-- `path` is the path of the page's address
module _ (found : Bytes → ℕ → Bytes → Bool) (t : Tree) (path : Bytes) where
  -- one step, with the meaning of each test and selector in its place
  abbrev pub step_meaning : Step-F StepMeaning TestMeaning → StepMeaning
  -- to the members for which the test holds
  step_meaning (Step-F.Keep test) = record { goes_up = false; push = filter test }
  -- to what is there from some member (Selectors Level 4, "Combinators")
  step_meaning (Step-F.Move place) = record { goes_up = false; push = from_some t (is_there t place) }
  -- to the n-th ancestor of some member (wiki, "subject:upward(arg)")
  step_meaning (Step-F.Upward n) = record { goes_up = true; push = from_some t (is_ancestor t n) }
  -- to the nearest proper ancestor of some member that the selector selects (wiki, "subject:upward(arg)")
  step_meaning (Step-F.UpwardTo selector) =
      record { goes_up = true; push = from_some t (is_nearest t (selected_by t selector)) }
  -- to what is outside of all members, but beside them or what is above them (wiki, "subject:others()")
  step_meaning Step-F.Others = record { goes_up = false; push = λ s. filter (is_other t s) (all t) }

  -- one test, with the meaning of each selector in its place
  abbrev pub test_meaning : Test-F StepMeaning TestMeaning → TestMeaning
  -- always (Selectors Level 4, "Universal selector")
  test_meaning Test-F.Any x = true
  -- its name (Selectors Level 4, "Type (tag name) selector")
  test_meaning (Test-F.Tag n) x = bytes_eq (name t x) n
  -- its id, letter for letter (Selectors Level 4, "ID selectors")
  test_meaning (Test-F.Id v) x = some_fits (id t x) (bytes_eq v)
  -- a member of its class list, letter for letter (Selectors Level 4, "Class selectors")
  test_meaning (Test-F.Class v) x = list_any (bytes_eq v) (class_list t x)
  -- the attribute is there and its value fits (Selectors Level 4, "Attribute selectors")
  test_meaning (Test-F.Attr key op v ignore_case) x =
      some_fits (attr t key x) (λ own. fits op (spelled ignore_case v) (spelled ignore_case own))
  -- its parent is the document (Selectors Level 4, ":root pseudo-class"; for each such element: this project's profile)
  test_meaning Test-F.Root x = is_empty (above t x)
  -- no element in it, and no text that isn't empty (Selectors Level 3, ":empty pseudo-class")
  test_meaning Test-F.Empty x = is_blank (inner t x)
  -- its place among its siblings, or among those of its name (Selectors Level 4, "Child-indexed pseudo-classes")
  test_meaning (Test-F.Nth a b from_end of_name) x =
      is_nth a b (length (of_same_name of_name (name t x) (if from_end then after t x else before t x)) + 1)
  -- no other sibling, or none of its name (Selectors Level 4, ":only-child pseudo-class")
  test_meaning (Test-F.Only of_name) x = is_empty (of_same_name of_name (name t x) (before t x ++ after t x))
  -- some chain gives something for it (Selectors Level 4, "Matches-Any Pseudo-class"; with what goes up: this project's profile)
  test_meaning (Test-F.Is selector) x = list_any (λ chain. gives t chain x) selector
  -- no chain gives something for it (Selectors Level 4, "Negation (Matches-None) Pseudo-class"; the same)
  test_meaning (Test-F.Not selector) x = not (list_any (λ chain. gives t chain x) selector)
  -- some chain leads from it to something (Selectors Level 4, "Relational Pseudo-class")
  test_meaning (Test-F.Has selector) x = list_any (λ chain. leads chain x) selector
  -- its text content holds it (wiki, "subject:has-text(arg)")
  test_meaning (Test-F.HasText arg) x = is_found found arg (text_content t x)
  -- the length of its text content (wiki, "subject:min-text-length(n)"; in UTF-16 units, as scripts count)
  test_meaning (Test-F.MinText n) x = nat_le n (text_length t x)
  -- the page's path holds it (wiki, "subject:matches-path(arg)")
  test_meaning (Test-F.MatchesPath arg) x = is_found found arg path
  -- some attribute of that name and that value (wiki, "subject:matches-attr(arg)")
  test_meaning (Test-F.MatchesAttr key value) x = list_any (λ a. is_named found key a.0 && is_named_by found value a.1) (attrs t x)
  -- always (wiki, "subject:watch-attr([attributes])": here each change is looked at)
  test_meaning (Test-F.WatchAttr names) x = true

  -- what a step means
  abbrev pub step_of : Step → StepMeaning
  step_of = fold-Step StepMeaning TestMeaning step_meaning test_meaning

  -- whether a test holds for an element
  abbrev pub holds : Test → ℕ → Bool
  holds = fold-Test StepMeaning TestMeaning step_meaning test_meaning

  -- whether a selector selects an element
  abbrev pub selects : List (List Step) → ℕ → Bool
  selects selector = selected_by t (map (map step_of) selector)

-- no pattern is found, for selectors without patterns
abbrev pub never : Bytes → ℕ → Bytes → Bool
never body flags s = false
