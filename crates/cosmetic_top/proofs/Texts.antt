-- What is written of what was read is what is due of the files.
use Rattle.std.proofs.Common.{◌≡◌, ◌∙◌, ◌+◌, ℕ, Bool, List, [], ◌∷◌, ◌++◌, suc, length, map, refl, sym, ap, ap₂}
use Rattle.std.proofs.lemmas.List.{length-map}
use Rattle.page_tree.specs.Forest.{Tree}
use Rattle.cos_source.specs.Lines.{lines_of, numbered}
use Rattle.cos_source.specs.Mark.{without_mark}
use Rattle.cos_patterns.specs.declared.written.Asked.{Asked}
use Rattle.cos_patterns.specs.declared.written.Written.{Written}
use Rattle.address_patterns.specs.declared.page.Page.{Page}
use Rattle.host_names.specs.Suffixes.{Rule, rest}
use Rattle.host_names.specs.SuffixLines.{bad_lines, rules_of}
use Rattle.hostname_buckets.specs.Active.{active_among, active_with, entries_of}
use Rattle.list_entries.specs.declared.entry.ListRead.{ListRead}
use Rattle.list_entries.specs.declared.notice.Notice.{Notice}
use Rattle.engine_meaning.specs.States.{State}
use Rattle.hide_report.specs.Texts.{counts_text, drill_text, head_text, notices_text}
use Rattle.command_inputs.specs.declared.inputs.ApplyInputs.{ApplyInputs}
use Rattle.command_inputs.specs.declared.inputs.Sources.{Sources}
use Rattle.command_meaning.specs.Generator.{drill_list}
use Rattle.command_meaning.specs.Numbers.{unnumbered_list}
use Rattle.command_meaning.specs.Report.{apply_report, bad_suffix, drill_report, lists_from, lists_report, lists_texts, steps_texts}
use Rattle.command_meaning.proofs.Reports.{apply_unnumbered, drill_unnumbered, lists_unnumbered}
use Rattle.list_files.specs.declared.reading.SourcesRead.{SourcesRead}
use Rattle.cosmetic_top.specs.Reports.{IsDrillState, counts_of, drilled, report_of, state_of}

-- what is said of the rules of public suffixes
abbrev pub bad_of : List ℕ → List Notice
bad_of suffixes = map bad_suffix (bad_lines (numbered 1 (lines_of (without_mark suffixes))))

-- the rules
abbrev pub rules_in : List ℕ → List Rule
rules_in suffixes = rules_of (numbered 1 (lines_of (without_mark suffixes)))

-- as many lists are read as there are
pub count_read : (env : List (List ℕ)) (large : List Asked) (unread : List Written) (number : ℕ) (files : List (List ℕ)) →
    length (lists_from env large unread number files) ≡ length files
count_read env large unread number [] = refl
count_read env large unread number (bytes ∷ files) = ap suc (count_read env large unread (number + 1) files)

pub same_count : (env : List (List ℕ)) (large : List Asked) (unread : List Written) (files : List (List ℕ)) (lists : List ListRead) →
    map unnumbered_list lists ≡ lists_from env large unread 1 files → length lists ≡ length files
same_count env large unread files lists e = sym (length-map lists unnumbered_list) ∙ ap length e ∙ count_read env large unread 1 files

-- the active filters hang on the rest of the page's host alone
pub same_active : (lists : List ListRead) (page : Page) (rules others : List Rule) → ((host : List ℕ) → rest rules host ≡ rest others host) →
    active_among (entries_of lists) page rules ≡ active_among (entries_of lists) page others
same_active lists page rules others e = ap (λ r. active_with (entries_of lists) page r) (e page.host)

module _ (env : List (List ℕ)) (large : List Asked) (unread : List Written) (sources : Sources) (read : SourcesRead)
    (bad : read.bad ≡ bad_of sources.suffixes) (rules : (host : List ℕ) → rest read.rules host ≡ rest (rules_in sources.suffixes) host)
    (lists : map unnumbered_list read.lists ≡ lists_from env large unread 1 sources.lists) where
  notices_are : (notices_text 0 read.bad ∷ lists_texts 1 read.lists) ≡ (notices_text 0 (bad_of sources.suffixes) ∷ lists_texts 1 read.lists)
  notices_are = ap (λ notices. notices_text 0 notices ∷ lists_texts 1 read.lists) bad

  pub lists_are : (notices_text 0 read.bad ∷ lists_texts 1 read.lists ++ counts_text read.lists ∷ []) ≡ lists_report sources (lists_from env large unread 1 sources.lists)
  lists_are =
      ap (λ texts. texts ++ counts_text read.lists ∷ []) notices_are ∙ sym (lists_unnumbered sources read.lists)
      ∙ ap (λ all. lists_report sources all) lists

  state_is : (page : Page) (tree : Tree) → state_of page tree read
      ≡ record { page = record { tree = tree; path = page.path }; filters = active_among (entries_of read.lists) page (rules_in sources.suffixes) }
  state_is page tree = ap (λ filters. record { page = record { tree = tree; path = page.path }; filters = filters }) (same_active read.lists page read.rules (rules_in sources.suffixes) rules)

  pub report_is : (brief : Bool) (inputs : ApplyInputs) → inputs.sources ≡ sources → report_of brief inputs read ≡ apply_report brief inputs (lists_from env large unread 1 sources.lists)
  report_is brief inputs e =
      ap₂ (λ (texts : List (List ℕ)) (s : State). texts ++ (head_text inputs.page.address s.filters brief ∷ steps_texts brief s (without_mark inputs.script)))
      notices_are (state_is inputs.page inputs.tree)
      ∙ ap (λ (from : Sources). (notices_text 0 (bad_of from.suffixes) ∷ lists_texts 1 read.lists)
      ++ (head_text inputs.page.address (active_among (entries_of read.lists) inputs.page (rules_in from.suffixes)) brief
      ∷ steps_texts brief (record { page = record { tree = inputs.tree; path = inputs.page.path }; filters = active_among (entries_of read.lists) inputs.page (rules_in from.suffixes) }) (without_mark inputs.script))) (sym e)
      ∙ sym (apply_unnumbered brief inputs read.lists) ∙ ap (λ all. apply_report brief inputs all) lists

-- the line of a drill, of the page with its active filters
pub drill_is : (large : List Asked) (unread : List Written) (tree : Tree) (s : State) → IsDrillState large unread tree s → (number : ℕ) (brief : Bool) →
    (let counts = counts_of number (drilled number s) in drill_text counts.number counts.nodes counts.steps counts.hidden counts.taken brief ∷ [])
    ≡ drill_report number brief tree (lists_from [] large unread 1 (drill_list ∷ []))
unfolding counts_of drilled
drill_is large unread tree s h number brief =
    ap (λ (from : State). let counts = counts_of number (drilled number from) in drill_text counts.number counts.nodes counts.steps counts.hidden counts.taken brief ∷ []) h.state
    ∙ sym (drill_unnumbered number brief tree h.lists) ∙ ap (λ all. drill_report number brief tree all) h.read
