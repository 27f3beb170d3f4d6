-- Which texts name a host, and when a host stands under a name.
use Rattle.std.specs.Prelude.{ℕ, ◌==◌, ◌-◌, ◌||◌, Bool, not, List, [], ◌∷◌, length, drop, Option, None, option_and_then, if◌then◌else◌}
use Rattle.std.specs.List.{ends_with, list_all, list_any}
use Rattle.std.specs.Str.{bytes_eq}
use Rattle.cos_source.specs.Parts.{parts}
use Rattle.idna.specs.Uts46.{domain_to_ascii, if_passes}
use Rattle.idna.specs.declared.deny_list.TheConstants.AsciiDenyList.{URL}

-- the labels of a name: what stands between its dots
abbrev pub labels_of : List ℕ → List (List ℕ)
labels_of name = parts 46 name

abbrev pub is_filled : List ℕ → Bool
is_filled label = not (length label == 0)

-- no label of a name is empty; an empty name has one empty label
abbrev pub is_host_name : List ℕ → Bool
is_host_name name = list_all is_filled (labels_of name)

-- `*` or `~`
abbrev pub is_sign : ℕ → Bool
is_sign b = b == 42 || b == 126

-- the name by ToASCII, as the URL Standard asks for it (UTS 46)
unfoldable pub ascii_name : List ℕ → Option (List ℕ)
ascii_name text = domain_to_ascii URL text

-- the host that a text names: it has no `*` and no `~`, ToASCII gives a name, and the name has no empty label
abbrev pub host_of : List ℕ → Option (List ℕ)
host_of text = if list_any is_sign text then None else option_and_then (if_passes is_host_name) (ascii_name text)

-- the last labels of a list, as many as that
abbrev pub last : {A : Type 0} → ℕ → List A → List A
last n labels = drop (length labels - n) labels

-- the last labels are these
abbrev pub end_with : List (List ℕ) → List (List ℕ) → Bool
end_with labels these = ends_with bytes_eq labels these

-- the host is that name, or stands under it: its last labels are those of the name
abbrev pub is_under : List ℕ → List ℕ → Bool
is_under name host = end_with (labels_of host) (labels_of name)

-- what stands behind each dot of a name
abbrev pub behind_dots : List ℕ → List (List ℕ)
behind_dots [] = []
behind_dots (b ∷ name) = if b == 46 then name ∷ behind_dots name else behind_dots name

-- the ends of a name by labels: all of it, and what stands behind each of its dots
abbrev pub ends_of : List ℕ → List (List ℕ)
ends_of name = name ∷ behind_dots name
