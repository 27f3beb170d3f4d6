-- Lists, filters and pages without the numbers of patterns, which are those of a table.
use Rattle.std.specs.Prelude.{map}
use Rattle.list_entries.specs.declared.entry.ListRead.{ListRead}
use Rattle.list_reader.specs.Entries.{unnumbered_entry}
use Rattle.selector_tree.specs.Unnumbered.{unnumbered}
use Rattle.selector_tree.specs.declared.filter.Filter.{Filter}
use Rattle.engine_meaning.specs.States.{State}

abbrev pub unnumbered_list : ListRead → ListRead
unnumbered_list list = record { entries = map unnumbered_entry list.entries; notices = list.notices }

abbrev pub unnumbered_filter : Filter → Filter
unnumbered_filter f = record f { selector = unnumbered f.selector }

abbrev pub unnumbered_state : State → State
unnumbered_state s = record s { filters = map unnumbered_filter s.filters }
