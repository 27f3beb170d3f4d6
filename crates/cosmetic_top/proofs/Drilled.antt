-- What a drill comes to.
use Rattle.std.proofs.Common.{◌≡◌, ℕ, zero, suc, Bool, true, List, [], ◌∷◌, ◌++◌, None, Result, Ok, IfErr, ◌∙◌, length, ap, ap₂, refl, subst, sym}
use Rattle.page_tree.specs.Forest.{Tree, size}
use Rattle.cos_source.specs.Lines.{lines_of, numbered}
use Rattle.cos_source.specs.Mark.{without_mark}
use Rattle.cos_patterns.specs.Found.{pattern_found}
use Rattle.command_words.specs.declared.command.Drill.{Drill}
use Rattle.command_words.specs.declared.command.Command.TheVariants.{Drill as DrillCommand}
use Rattle.command_inputs.specs.declared.status.Status.{Status}
use Rattle.command_inputs.specs.Due.{Due, Files, at_once}
use Rattle.command_inputs.specs.Inputs.{tree_of_source}
use Rattle.command_inputs.specs.Reads.{IsDue, IsPageError, ReadsAs}
use Rattle.command_inputs.proofs.Reading.{no_page_fault, none_at_ok, reads_none, reads_then}
use Rattle.command_meaning.specs.Generator.{block, drill_list, drill_page, drill_script}
use Rattle.command_meaning.specs.Output.{Texts, texts_due}
use Rattle.command_meaning.specs.Report.{Drilled, drill_report, drilled_by, lists_from, settling}
use Rattle.engine_meaning.specs.States.{State, hidden_of}
use Rattle.cosmetic_top.specs.Reports.{counts_of, drilled}

-- ---- the page has no byte order mark

-- the text begins with `<`
record Opens (text : List ℕ) : Type 0 where
  rest : List ℕ
  begins : text ≡ 60 ∷ rest

page_opens : (n : ℕ) → Opens (drill_page (suc n))
page_opens zero = record { rest = _; begins = refl }
page_opens (suc n) = let h = page_opens n in record { rest = h.rest ++ block (suc (suc n)); begins = ap (λ text. text ++ block (suc (suc n))) h.begins }

opened_unmarked : (rest : List ℕ) → without_mark (60 ∷ rest) ≡ 60 ∷ rest
opened_unmarked rest = refl

pub page_unmarked : (n : ℕ) → without_mark (drill_page n) ≡ drill_page n
page_unmarked zero = refl
page_unmarked (suc n) = let h = page_opens n in subst (λ (text : List ℕ). without_mark text ≡ text) (sym h.begins) (opened_unmarked h.rest)

-- ---- what is due

-- the line that is due of a tree
abbrev pub drill_texts : Drill → Tree → Texts
drill_texts words tree = λ large unread. drill_report words.number words.brief tree (lists_from [] large unread 1 (drill_list ∷ []))

abbrev pub behind_page : Drill → Tree → Files → Due Texts
behind_page words tree files = at_once (Ok (drill_texts words tree))

-- no file is begun for the page
abbrev pub PageReads : ℕ → Result Tree Status → Type 0
PageReads number result = ReadsAs {S = Bool} (λ s. true) (λ s name. None) (λ s. []) (λ s. 0) true true (λ fs. at_once (tree_of_source (drill_page number))) result

pub page_reads : (number : ℕ) (result : Result Tree Status) → IsDue result (tree_of_source (drill_page number)) → IfErr result IsPageError → PageReads number result
page_reads number result due kinds = reads_none true (tree_of_source (drill_page number)) result due (no_page_fault result kinds)

pub accepted : (words : Drill) (tree : Tree) → PageReads words.number (Ok tree) →
    ReadsAs {S = Bool} (λ s. true) (λ s name. None) (λ s. []) (λ s. 0) true true (texts_due (DrillCommand words)) (Ok (drill_texts words tree))
accepted words tree page =
    let texts = drill_texts words tree in
    reads_then (behind_page words) page (reads_none true (Ok texts) (Ok texts) refl (none_at_ok texts))

-- ---- the page behind the script

pub end_is : (number : ℕ) (s : State) (script : List ℕ) (end : Drilled) → script ≡ drill_script number →
    end ≡ drilled_by (record { state = (settling s).state; taken = length (settling s).taken }) (numbered 1 (lines_of script)) → end ≡ drilled number s
unfolding drilled
end_is number s script end same h =
    h ∙ ap (λ text. drilled_by (record { state = (settling s).state; taken = length (settling s).taken }) (numbered 1 (lines_of text))) same

pub counts_are : (number nodes steps count taken : ℕ) (s : State) → nodes ≡ size s.page.tree.nodes →
    steps ≡ length (numbered 1 (lines_of (drill_script number))) → count ≡ length (hidden_of pattern_found s) →
    record { number = number; nodes = nodes; steps = steps; hidden = count; taken = taken } ≡ counts_of number (record { state = s; taken = taken })
unfolding counts_of
counts_are number nodes steps count taken s one two three =
    ap (λ (n : ℕ). record { number = number; nodes = n; steps = steps; hidden = count; taken = taken }) one
    ∙ ap₂ (λ (lines hidden : ℕ). record { number = number; nodes = size s.page.tree.nodes; steps = lines; hidden = hidden; taken = taken }) two three
