-- The files of each command, in the order in which they are read, and what is refused.
use Rattle.std.specs.Prelude.{ℕ, ◌+◌, ◌-◌, List, [], ◌∷◌, Option, Some, None, Result, Ok, Err, if◌then◌else◌, nat_lt, length}
use Rattle.std.specs.Str.{is_utf8}
use Rattle.std.specs.Str.Lossy.{utf8_valid_len}
use Rattle.url.specs.Parser.{parse_url}
use Rattle.url.specs.Parts.{Parts}
use Rattle.url.specs.declared.error.ParseError.{ParseError}
use Rattle.address_patterns.specs.Pages.{page_of}
use Rattle.address_patterns.specs.declared.page.Page.{Page}
use Rattle.command_words.specs.declared.command.Apply.{Apply}
use Rattle.command_words.specs.declared.command.Lists.{Lists}
use Rattle.cos_source.specs.Mark.{without_mark}
use Rattle.page_tree.specs.Forest.{Tree}
use Rattle.page_tree.specs.Fragments.{Limit, TooDeep, TooManyNodes, limit_passed}
use Rattle.html_meaning.specs.Page.{fragment, page}
use Rattle.command_inputs.specs.declared.TheConstants.{FILE_LIMIT, ADDRESS_LIMIT, LIST_LIMIT}
use Rattle.command_inputs.specs.declared.inputs.ApplyInputs.{ApplyInputs}
use Rattle.command_inputs.specs.declared.inputs.Sources.{Sources}
use Rattle.command_inputs.specs.declared.status.File.{File}
use Rattle.command_inputs.specs.declared.status.File.TheVariants as file
use Rattle.command_inputs.specs.declared.status.Status.{Status}
use Rattle.command_inputs.specs.declared.status.Status.TheVariants.{Refused}
use Rattle.command_inputs.specs.declared.status.InputRefusal.TheVariants.{TooManyLists, AddressTooLong, BadAddress, PageNotUtf8, PageTooDeep, PageTooManyNodes}
use Rattle.command_inputs.specs.Due.{Due, Files, at_once, file_due, ◌>>=◌}

-- ---- single files

-- a file that the words may leave out, which then has no bytes
abbrev pub optional_due : File → Option (List ℕ) → Files → Due (List ℕ)
optional_due file None files = at_once (Ok [])
optional_due file (Some name) files = file_due file FILE_LIMIT name files

-- lists from this number on, which together have so much room
abbrev pub lists_due : ℕ → ℕ → List (List ℕ) → Files → Due (List (List ℕ))
lists_due number room [] files = at_once (Ok [])
lists_due number room (name ∷ names) files = do
  bytes ← file_due (file.List number) room name files
  more ← lists_due (number + 1) (room - length bytes) names files
  at_once (Ok (bytes ∷ more))

-- ---- the page

-- the refusal of a page that passes a limit
abbrev pub refusal_of : Limit → Status
refusal_of TooDeep = Refused PageTooDeep
refusal_of TooManyNodes = Refused PageTooManyNodes

-- the tree of a page, unless a node of it passes a limit
abbrev pub within : Option Limit → Tree → Result Tree Status
within None t = Ok t
within (Some limit) t = Err (refusal_of limit)

-- the tree of a page from its source, unless it passes a limit
abbrev pub tree_of_source : List ℕ → Result Tree Status
tree_of_source source = within (limit_passed 0 0 (fragment source)) (page source)

-- the tree of a page from the bytes of its file: they are UTF-8, and a byte order mark at their start is skipped. Where they
-- aren't UTF-8, the length of the longest UTF-8 text that they begin with is told.
abbrev pub tree_of_bytes : List ℕ → Result Tree Status
tree_of_bytes bytes =
    if is_utf8 bytes then tree_of_source (without_mark bytes) else Err (Refused (PageNotUtf8 (utf8_valid_len bytes)))

abbrev pub page_due : List ℕ → Files → Due Tree
page_due name files = do
  bytes ← file_due file.Page FILE_LIMIT name files
  at_once (tree_of_bytes bytes)

-- ---- commands

-- the rules of public suffixes, and the lists
abbrev pub sources_due : Option (List ℕ) → List (List ℕ) → Files → Due Sources
sources_due suffixes names files = do
  rules ← optional_due file.Suffixes suffixes files
  lists ← lists_due 1 FILE_LIMIT names files
  at_once (Ok (record { suffixes = rules; lists = lists }))

-- there aren't too many lists
abbrev pub few_lists : {A : Type 0} → List (List ℕ) → Due A → Due A
few_lists names rest = if nat_lt LIST_LIMIT (length names) then at_once (Err (Refused TooManyLists)) else rest

abbrev pub page_by : Result Parts ParseError → Result Page Status
page_by (Ok parts) = Ok (page_of parts)
page_by (Err error) = Err (Refused BadAddress)

-- the page of an address, by the URL Standard's parser
abbrev pub address_by : List ℕ → Result Page Status
address_by address =
    if nat_lt ADDRESS_LIMIT (length address) then Err (Refused AddressTooLong) else page_by (parse_url None address)

-- what `lists` reads
abbrev pub lists_inputs : Lists → Files → Due Sources
lists_inputs words files = few_lists words.lists (sources_due words.suffixes words.lists files)

-- what `apply` reads behind the address
abbrev pub page_inputs : Apply → Page → Files → Due ApplyInputs
page_inputs words at files = do
  sources ← sources_due words.suffixes words.lists files
  tree ← page_due words.page files
  script ← optional_due file.Script words.script files
  at_once (Ok (record { page = at; sources = sources; tree = tree; script = script }))

-- what `apply` reads
abbrev pub apply_inputs : Apply → Files → Due ApplyInputs
apply_inputs words files = few_lists words.lists (at_once (address_by words.url) >>= λ at. page_inputs words at files)
