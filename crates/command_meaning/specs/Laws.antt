-- The numbers of patterns have no part in what is written.
use Rattle.std.specs.Prelude.{ℕ, ◌≡◌, Bool, List, map}
use Rattle.address_patterns.specs.declared.page.Page.{Page}
use Rattle.host_names.specs.Suffixes.{Rule}
use Rattle.page_tree.specs.Forest.{Tree}
use Rattle.hostname_buckets.specs.Active.{active_of}
use Rattle.list_entries.specs.declared.entry.ListRead.{ListRead}
use Rattle.command_inputs.specs.declared.inputs.ApplyInputs.{ApplyInputs}
use Rattle.command_inputs.specs.declared.inputs.Sources.{Sources}
use Rattle.command_meaning.specs.Numbers.{unnumbered_filter, unnumbered_list}
use Rattle.command_meaning.specs.Report.{apply_report, drill_report, lists_report}

-- the same filters are active
abbrev pub ActiveUnnumbered : Type 0
ActiveUnnumbered = (lists : List ListRead) (page : Page) (rules : List Rule) →
    active_of (map unnumbered_list lists) page rules ≡ map unnumbered_filter (active_of lists page rules)

-- `lists` writes the same
abbrev pub ListsUnnumbered : Type 0
ListsUnnumbered = (sources : Sources) (lists : List ListRead) → lists_report sources (map unnumbered_list lists) ≡ lists_report sources lists

-- so does `apply`
abbrev pub ApplyUnnumbered : Type 0
ApplyUnnumbered = (brief : Bool) (inputs : ApplyInputs) (lists : List ListRead) →
    apply_report brief inputs (map unnumbered_list lists) ≡ apply_report brief inputs lists

-- and `drill`
abbrev pub DrillUnnumbered : Type 0
DrillUnnumbered = (number : ℕ) (brief : Bool) (tree : Tree) (lists : List ListRead) →
    drill_report number brief tree (map unnumbered_list lists) ≡ drill_report number brief tree lists
