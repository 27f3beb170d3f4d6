-- What a token leaves of the open elements, by their names.
use Rattle.std.specs.Prelude.{◌≡◌, ℕ, List, [], ◌∷◌, map, take, codes}
use Rattle.std.specs.Str.{str_to_ascii_lowercase}
use denote.Ref.{Bor}
use Rattle.html_meaning.specs.Page.{OpenElement, Role, left_by}
use Rattle.html_tree.specs.Rising.{Rises}

-- the names of open elements in lower case, from the outermost to the innermost
abbrev pub names_of : List (Bor (List ℕ)) → List (List ℕ)
names_of chain = map (λ (name : Bor (List ℕ)). str_to_ascii_lowercase name.now) chain

-- the names of open elements
abbrev pub element_names : List OpenElement → List (List ℕ)
element_names elements = map (λ (o : OpenElement). o.name) elements

-- the numbers of open elements
abbrev pub element_numbers : List OpenElement → List ℕ
element_numbers elements = map (λ (o : OpenElement). o.number) elements

-- open elements with these names, whose numbers rise
pub record AreOpen (names : List (List ℕ)) (elements : List OpenElement) : Type 0 where
  pub named : element_names elements ≡ names
  pub rises : Rises 0 elements

-- of open elements with these names, a token that does this leaves the first `count`
abbrev pub Leaves : Role → List (List ℕ) → ℕ → Type 0
Leaves role names count = (elements : List OpenElement) → AreOpen names elements → left_by role elements ≡ take count elements

-- the elements that some start tag closes where they stand innermost
abbrev pub closed_elements : List (List ℕ)
closed_elements =
    codes "p" ∷ codes "li" ∷ codes "dt" ∷ codes "dd" ∷ codes "option" ∷ codes "optgroup" ∷ codes "td" ∷ codes "th"
    ∷ codes "tr" ∷ codes "thead" ∷ codes "tbody" ∷ codes "tfoot" ∷ []
