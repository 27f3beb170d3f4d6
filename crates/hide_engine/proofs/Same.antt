-- When the hidden elements of a page are those of before.
use Rattle.std.proofs.Common.{◌≡◌, ℕ, Bool, true, false, not, ◌&&◌, ◌||◌, ◌==◌, List, [], ◌∷◌, filter, refl, sym, ap, ap₂, subst, ◌∙◌}
use Rattle.std.specs.Prelude.{is_ok}
use Rattle.std.specs.Str.{str_to_ascii_lowercase}
use Rattle.std.proofs.lemmas.Bool.{eq-eqb, false≢true}
use Rattle.page_tree.specs.Forest.{element, text, Tree, numbers}
use Rattle.page_tree.specs.Standings.{all}
use Rattle.page_tree.specs.Directions.{is_in}
use Rattle.page_tree.specs.Trees.{IsTree}
use Rattle.page_tree.proofs.Elements.{all-filter, is_in-all, once-tree, room-tree, stands_as_element}
use Rattle.page_tree.proofs.Members.{filter-alike}
use Rattle.page_tree.proofs.Found.{numbers-with_content}
use Rattle.cos_patterns.specs.Found.{pattern_found}
use Rattle.kept_marks.specs.Kept.{is_marked, IsSame}
use Rattle.mutation_script.specs.declared.mutation.Mutation.{Mutation}
use Rattle.mutation_script.specs.declared.mutation.Mutation.TheVariants.{SetAttr, DropAttr, SetText, Insert, Delete, Relink, Path}
use Rattle.mutation_script.specs.declared.page.PageState.{PageState}
use Rattle.mutation_script.specs.Changes.{change, changed}
use Rattle.selector_tree.specs.declared.filter.Action.TheVariants.{Hide}
use Rattle.selector_tree.specs.declared.filter.Filter.{Filter}
use Rattle.selector_meaning.specs.Texts.{Bytes}
use Rattle.selector_meaning.specs.Hidden.{places_from, with_row, rows_of}
use Rattle.sensor_meaning.specs.Changes.{SetsAttr, SetsText}
use Rattle.sensor_laws.proofs.Completeness.{attr_frame, chars_frame}
use Rattle.change_laws.proofs.Made.{well_formed}
use Rattle.engine_meaning.specs.Hidden.{acts_on}
use Rattle.engine_meaning.specs.States.{State, hidden_of}
use Rattle.hide_engine.specs.declared.filter_set.FilterSet.{FilterSet}
use Rattle.hide_engine.specs.Changes.{keeps_elements}
use Rattle.hide_engine.specs.Chosen.{HidesSame}
use Rattle.hide_engine.specs.Exact.{is_selected, AreExact}
use Rattle.hide_engine.specs.Ready.{state_of, goes_by}
use Rattle.hide_engine.proofs.Mutations.{becomes}
use Rattle.hide_engine.proofs.Places.{places_alike}

-- ---- the elements

module _ (t u : Tree) (before : IsTree t) (after : IsTree u) where
  -- the same numbers in the same order, of which the same are elements
  same_elements : numbers u.nodes ≡ numbers t.nodes → ((x : ℕ) → is_in (all t) x ≡ is_in (all u) x) → all t ≡ all u
  same_elements order stays =
      all-filter t (once-tree t before) (room-tree t before)
      ∙ filter-alike (stands_as_element t.nodes) (stands_as_element u.nodes) (numbers t.nodes)
      (λ x there. sym (is_in-all t (once-tree t before) (room-tree t before) x) ∙ stays x ∙ is_in-all u (once-tree u after) (room-tree u after) x)
      ∙ sym (all-filter u (once-tree u after) (room-tree u after) ∙ ap (filter (stands_as_element u.nodes)) order)

  by_attr : (n : ℕ) (name path : Bytes) → SetsAttr n name t u → all t ≡ all u
  by_attr n name path sets =
      same_elements
      (ap numbers sets.becomes ∙ numbers-with_content n (element sets.called sets.after) t.nodes)
      (λ x. (attr_frame n name t u path (well_formed t before) sets).stays x refl)

  by_text : (n : ℕ) (path : Bytes) → SetsText n t u → all t ≡ all u
  by_text n path sets =
      same_elements
      (ap numbers sets.becomes ∙ numbers-with_content n (text sets.after) t.nodes)
      (λ x. (chars_frame n t u path (well_formed t before) sets).stays x refl)

elements_kept : (page : PageState) (mutation : Mutation) → IsTree page.tree → IsTree (changed mutation page).tree → is_ok (change mutation page) ≡ true → keeps_elements mutation ≡ true →
    all page.tree ≡ all (changed mutation page).tree
elements_kept page (SetAttr n name value) tree after made keeps =
    by_attr page.tree (changed (SetAttr n name value) page).tree tree after n (str_to_ascii_lowercase name) page.path (becomes page tree (SetAttr n name value) made).1
elements_kept page (DropAttr n name) tree after made keeps =
    by_attr page.tree (changed (DropAttr n name) page).tree tree after n (str_to_ascii_lowercase name) page.path (becomes page tree (DropAttr n name) made).1
elements_kept page (SetText n written) tree after made keeps =
    by_text page.tree (changed (SetText n written) page).tree tree after n page.path (becomes page tree (SetText n written) made).1
elements_kept page (Insert parent place html) tree after made keeps = absurd (false≢true keeps)
elements_kept page (Delete n) tree after made keeps = absurd (false≢true keeps)
elements_kept page (Relink n parent place) tree after made keeps = absurd (false≢true keeps)
elements_kept page (Path path) tree after made keeps = refl

-- no element goes then
pub none_goes : (mutation : Mutation) (t : Tree) (x : ℕ) → keeps_elements mutation ≡ true → goes_by mutation t x ≡ false
none_goes (SetAttr n name value) t x keeps = refl
none_goes (DropAttr n name) t x keeps = refl
none_goes (SetText n written) t x keeps = refl
none_goes (Insert parent place html) t x keeps = refl
none_goes (Delete n) t x keeps = absurd (false≢true keeps)
none_goes (Relink n parent place) t x keeps = refl
none_goes (Path path) t x keeps = refl

-- and no mark
pub none_dropped : (mutation : Mutation) (t : Tree) (gone : List ℕ) (old new : List (ℕ × List ℕ)) → keeps_elements mutation ≡ true →
    ((x : ℕ) → is_in gone x ≡ (is_in (all t) x && goes_by mutation t x)) → ((f x : ℕ) → is_marked new f x ≡ (is_marked old f x && not (is_in gone x))) → IsSame old new
none_dropped mutation t gone old new keeps leaving marks f x =
    marks f x ∙ ap (λ b. is_marked old f x && not b) (leaving x ∙ ap (λ b. is_in (all t) x && b) (none_goes mutation t x keeps) ∙ never (is_in (all t) x)) ∙ always (is_marked old f x)
  where
    never : (b : Bool) → (b && false) ≡ false
    never true = refl
    never false = refl

    always : (b : Bool) → (b && true) ≡ b
    always true = refl
    always false = refl

-- ---- the rows

rows_alike : (c d : Filter → ℕ → Bool) (filters others : List Filter) (xs : List ℕ) →
    ((x : ℕ) → is_in xs x ≡ true → places_from 0 (λ item. c item x) filters ≡ places_from 0 (λ item. d item x) others) →
    rows_of c filters xs ≡ rows_of d others xs
rows_alike c d filters others [] h = refl
rows_alike c d filters others (x ∷ xs) h =
    ap₂ (λ (places : List ℕ) (rows : List (ℕ × List ℕ)). with_row x places rows)
    (h x (ap (λ b. b || is_in xs x) (eq-eqb x x refl)))
    (rows_alike c d filters others xs (λ y there. h y (ap (λ b. (x == y) || b) there ∙ either (x == y))))
  where
    either : (b : Bool) → (b || true) ≡ true
    either true = refl
    either false = refl

-- exact marks that are the same say the same of the same elements
marks_alike : (s u : State) (old new : List (ℕ × List ℕ)) → s.filters ≡ u.filters → all s.page.tree ≡ all u.page.tree → AreExact s old → AreExact u new → IsSame old new → HidesSame s u
marks_alike s u old new filters elements before after same =
    ap (rows_of (acts_on pattern_found u.filters u.page.path u.page.tree Hide) u.filters) (sym elements)
    ∙ sym (rows_alike (acts_on pattern_found s.filters s.page.path s.page.tree Hide) (acts_on pattern_found u.filters u.page.path u.page.tree Hide) s.filters u.filters (all s.page.tree)
    (λ x there. places_alike s u Hide x filters (λ f.
    sym (before f x ∙ ap (λ b. b && is_selected s f x) there) ∙ sym (same f x)
    ∙ after f x ∙ ap (λ b. b && is_selected u f x) (ap (λ l. is_in l x) (sym elements) ∙ there))))

module _ (page new : PageState) (filters : FilterSet) (mutation : Mutation) where
  -- behind a mutation that keeps the elements and after which no mark is another one
  pub same_hidden : (old mid last : List (ℕ × List ℕ)) → IsTree page.tree → IsTree new.tree → new ≡ changed mutation page → is_ok (change mutation page) ≡ true →
      keeps_elements mutation ≡ true → AreExact (state_of page filters) old → AreExact (state_of new filters) last → IsSame old mid → IsSame mid last →
      HidesSame (state_of page filters) (state_of new filters)
  same_hidden old mid last tree after at made keeps before now kept again =
      marks_alike (state_of page filters) (state_of new filters) old last refl
      (elements_kept page mutation tree (subst (λ (p : PageState). IsTree p.tree) at after) made keeps ∙ ap (λ (p : PageState). all p.tree) (sym at))
      before now (λ f x. again f x ∙ kept f x)

-- behind one that is refused
pub none_hidden : (page new : PageState) (filters : FilterSet) → new ≡ page → HidesSame (state_of page filters) (state_of new filters)
none_hidden page new filters at = ap (λ (p : PageState). hidden_of pattern_found (state_of p filters)) at
