-- What is written of what was read.
use Rattle.std.specs.Prelude.{ℕ, ◌≡◌, Bool, List, [], ◌∷◌, ◌++◌, length, map}
use Rattle.page_tree.specs.Forest.{Tree, size}
use Rattle.address_patterns.specs.declared.page.Page.{Page}
use Rattle.cos_source.specs.Lines.{lines_of, numbered}
use Rattle.cos_source.specs.Mark.{without_mark}
use Rattle.cos_patterns.specs.declared.written.Asked.{Asked}
use Rattle.cos_patterns.specs.declared.written.Written.{Written}
use Rattle.cos_patterns.specs.Found.{pattern_found}
use Rattle.hostname_buckets.specs.Active.{active_among, entries_of}
use Rattle.list_entries.specs.declared.entry.ListRead.{ListRead}
use Rattle.engine_meaning.specs.States.{State, hidden_of}
use Rattle.hide_report.specs.declared.counts.DrillCounts.{DrillCounts}
use Rattle.hide_report.specs.Texts.{head_text, notices_text}
use Rattle.command_inputs.specs.declared.inputs.ApplyInputs.{ApplyInputs}
use Rattle.command_meaning.specs.Generator.{drill_list, drill_script}
use Rattle.command_meaning.specs.Numbers.{unnumbered_list}
use Rattle.command_meaning.specs.Report.{Drilled, drill_address, drilled_by, lists_from, lists_texts, settling, steps_texts}
use Rattle.list_files.specs.declared.reading.SourcesRead.{SourcesRead}

-- a page at its address, with the filters of what was read that are active there
abbrev pub state_of : Page → Tree → SourcesRead → State
state_of page tree read = record {
  page = record { tree = tree; path = page.path };
  filters = active_among (entries_of read.lists) page read.rules;
}

-- the notices, the head, and the steps of a page and its script
abbrev pub report_of : Bool → ApplyInputs → SourcesRead → List (List ℕ)
report_of brief inputs read =
    let s = state_of inputs.page inputs.tree read in
    (notices_text 0 read.bad ∷ lists_texts 1 read.lists)
    ++ (head_text inputs.page.address s.filters brief ∷ steps_texts brief s (without_mark inputs.script))

-- the page of a drill with its active filters, of the lists that were read under what a maker refused; there are no rules of
-- public suffixes
pub record IsDrillState (large : List Asked) (unread : List Written) (tree : Tree) (s : State) : Type 0 where
  pub lists : List ListRead
  pub read : map unnumbered_list lists ≡ lists_from [] large unread 1 (drill_list ∷ [])
  pub state : s ≡ record {
    page = record { tree = tree; path = drill_address.path };
    filters = active_among (entries_of lists) drill_address [];
  }

-- the page of a drill behind its whole script
unfoldable pub drilled : ℕ → State → Drilled
drilled number s =
    let opened = settling s in
    drilled_by (record { state = opened.state; taken = length opened.taken }) (numbered 1 (lines_of (drill_script number)))

-- what a drill of this size comes to
unfoldable pub counts_of : ℕ → Drilled → DrillCounts
counts_of number end = record {
  number = number;
  nodes = size end.state.page.tree.nodes;
  steps = length (numbered 1 (lines_of (drill_script number)));
  hidden = length (hidden_of pattern_found end.state);
  taken = end.taken;
}
