-- The events of changes: which numbers moved, what sees a change, and its places.
use Rattle.std.specs.Prelude.{◌≡◌, ℕ, Bool, true, false, ◌⊎◌, [], ◌∷◌}
use Rattle.page_tree.specs.Forest.{Forest, empty, node, Tree}
use Rattle.page_tree.specs.Edits.{pruned}
use Rattle.page_tree.specs.Standings.{all}
use Rattle.page_tree.specs.Trees.{IsOrdinary}
use Rattle.page_tree.specs.Directions.{is_in}
use Rattle.selector_meaning.specs.Texts.{Bytes}
use Rattle.sensor_meaning.specs.declared.change.Change.{Change}
use Rattle.sensor_meaning.specs.Changes.{observes, places_of}
use Rattle.sensor_laws.specs.Frame.{Event, IsDistinct}

abbrev pub event_of : Change → (ℕ → Bool) → Tree → Bytes → Tree → Bytes → Event
event_of change moved t path u route = record {
  old = t;
  new = u;
  old_path = path;
  new_path = route;
  moved = moved;
  seen = λ o. observes o change;
  places = places_of change u;
}

-- the same at one place
abbrev pub part_event : Change → (ℕ → Bool) → ℕ → Tree → Tree → Bytes → Event
part_event change gone p t u path = record {
  old = t;
  new = u;
  old_path = path;
  new_path = path;
  moved = gone;
  seen = λ o. observes o change;
  places = p ∷ [];
}

-- a tree of elements with different numbers, none of them 0
pub record IsNumbered (t : Tree) : Type 0 where
  pub distinct : IsDistinct (all t)
  pub lone : is_in (all t) 0 ≡ false

-- under h: each of these nodes is a child of p and one of the tops, or stands below one of them; what stands below one of
-- them is one; and no node is a document
abbrev pub Hung : (ℕ → Bool) → (ℕ → Bool) → ℕ → ℕ → Forest → Type 0
Hung top gone p h empty = Unit {0}
Hung top gone p h (node n c kids rest) =
    (gone n ≡ true → ((h ≡ p) × (top n ≡ true)) ⊎ (gone h ≡ true)) × (gone h ≡ true → gone n ≡ true) × Hung top gone p n kids
    × Hung top gone p h rest × IsOrdinary c

-- children of p, with what is below them
pub record IsPart (top gone : ℕ → Bool) (p : ℕ) (t : Tree) : Type 0 where
  pub hung : Hung top gone p 0 t.nodes
  pub place_stays : gone p ≡ false
  pub document_stays : gone 0 ≡ false

-- a tree without them, with the number that the next node gets
abbrev pub cut : ℕ → (ℕ → Bool) → Tree → Tree
cut next gone t = record { nodes = pruned gone t.nodes; next = next }
