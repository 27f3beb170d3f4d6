-- Loops over elements, each found from the one before it.
use Rattle.std.proofs.Common.{◌≡◌, ℕ, ◌+◌, ◌<◌, Bool, false, ◌||◌, List, [], ◌∷◌, ◌++◌, take, length, get_or, Option, Some, None, MatchOption, IfSome, subst, refl, sym, ap, ◌∙◌}
use Rattle.std.proofs.lemmas.Bool.{or_from}
use Rattle.std.proofs.lemmas.List.{take_more}
use Rattle.std.proofs.lemmas.List.Folds.{list_any-append}
use Rattle.std.specs.List.{list_any}
use Rattle.page_tree.specs.Forest.{Tree, rooted, numbers}
use Rattle.page_tree.specs.Standings.{all}
use Rattle.page_tree.specs.Directions.{is_in}
use Rattle.page_tree.specs.Trees.{IsTree}
use Rattle.page_tree.proofs.Members.{filter-alike}
use Rattle.page_tree.proofs.Elements.{stands_as_element, is_in-all-rooted, all-rooted}
use Rattle.selector_match.specs.Walks.{elements_behind, order}

-- the members from one on, where `behind` has those behind it
abbrev pub from_one : (ℕ → List ℕ) → Option ℕ → List ℕ
from_one behind None = []
from_one behind (Some m) = m ∷ behind m

-- a list whose first member was looked for
pub from_found : (behind : ℕ → List ℕ) (l : List ℕ) (o : Option ℕ) → MatchOption o (l ≡ []) (λ y. l ≡ y ∷ behind y) → l ≡ from_one behind o
from_found behind l None h = h
from_found behind l (Some y) h = h

-- one more item that fails
pub any_more : {X : Type 0} (p : X → Bool) (xs : List X) (i : ℕ) (x : X) → i < length xs → x ≡ get_or xs i x → list_any p (take i xs) ≡ false → p x ≡ false →
    list_any p (take (i + 1) xs) ≡ false
any_more p xs i x h is none fails =
    ap (list_any p) (take_more xs i x h) ∙ list_any-append p (take i xs) (get_or xs i x ∷ [])
    ∙ or_from (list_any p (take i xs)) (p (get_or xs i x) || false) none (or_from (p (get_or xs i x)) false (ap p (sym is) ∙ fails) refl)

-- all elements stand behind the document
pub all_behind : (t : Tree) → IsTree t → elements_behind t (order t) 0 ≡ all t
all_behind t tree =
    filter-alike (is_in (all t)) (stands_as_element (rooted t.nodes)) (numbers t.nodes ++ []) (λ k _. is_in-all-rooted t tree k)
    ∙ sym (all-rooted t tree)

-- what holds of a value that is there
pub some_of : (P : ℕ → Type 0) (o : Option ℕ) (m : ℕ) → IfSome o P → o ≡ Some m → P m
some_of P None m h e = absurd (let no : None ≡ Some m = e in cc)
some_of P (Some n) m h e = let same : n ≡ m = (let both : Some n ≡ Some m = e in cc) in subst P same h
