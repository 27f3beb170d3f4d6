-- The ends and the labels that are left of a name, if anything is, and what may stand before a name.
use Rattle.std.specs.Prelude.{ℕ, ◌==◌, ◌-◌, ◌||◌, Bool, List, [], length, slice_index, Option, Some, None}
use Rattle.host_names.specs.Hosts.{ends_of, labels_of}

abbrev pub ends_left : Option (List ℕ) → List (List ℕ)
ends_left None = []
ends_left (Some name) = ends_of name

abbrev pub labels_left : Option (List ℕ) → List (List ℕ)
labels_left None = []
labels_left (Some name) = labels_of name

-- bytes before a name that stands in a host by labels: none, or they end with a dot
abbrev pub is_front : List ℕ → Bool
is_front bytes = length bytes == 0 || slice_index bytes (length bytes - 1) == 46
