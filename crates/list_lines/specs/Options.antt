-- The options of a page option's line: those that switch filters off, and a list of hosts.
use Rattle.std.specs.Prelude.{ℕ, ◌+◌, ◌||◌, Bool, List, [], ◌∷◌, codes, drop, if◌then◌else◌}
use Rattle.std.specs.List.{list_any}
use Rattle.std.specs.Str.{bytes_eq}
use Rattle.address_patterns.specs.declared.options.HideOptions.{HideOptions}
use Rattle.list_lines.specs.Separators.{begins_with}

abbrev pub is_elem : List ℕ → Bool
is_elem option = bytes_eq option (codes "elemhide") || bytes_eq option (codes "ehide")

abbrev pub is_generic : List ℕ → Bool
is_generic option = bytes_eq option (codes "generichide") || bytes_eq option (codes "ghide")

abbrev pub is_specific : List ℕ → Bool
is_specific option = bytes_eq option (codes "specifichide") || bytes_eq option (codes "shide")

-- which filters the options switch off
abbrev pub hide_options : List (ℕ × List ℕ) → HideOptions
hide_options options = record {
  elem = list_any (λ o. is_elem o.1) options;
  generic = list_any (λ o. is_generic o.1) options;
  specific = list_any (λ o. is_specific o.1) options;
}

abbrev pub hides_some : HideOptions → Bool
hides_some options = options.elem || options.generic || options.specific

-- what options say besides: nothing, one list of hosts with its place, or what isn't read
pub data Besides : Type 0 where
  silent : Besides
  hosts : ℕ → List ℕ → Besides
  unread : Besides

-- one option with its place
abbrev pub option_besides : ℕ → List ℕ → Besides
option_besides at option =
    if is_elem option || is_generic option || is_specific option then silent
    else if begins_with (codes "domain=") option then hosts (at + 7) (drop 7 option)
    else if begins_with (codes "from=") option then hosts (at + 5) (drop 5 option)
    else unread

-- at most one of two may have a list of hosts
abbrev pub both : Besides → Besides → Besides
both silent more = more
both (hosts at text) silent = hosts at text
both (hosts at text) (hosts at' text') = unread
both (hosts at text) unread = unread
both unread more = unread

abbrev pub besides : List (ℕ × List ℕ) → Besides
besides [] = silent
besides (o ∷ options) = both (option_besides o.0 o.1) (besides options)
