use Rattle.std.proofs.Common.{◌≡◌, ◌∙◌, ℕ}
use Rattle.page_tree.specs.Standings.{all}
use Rattle.kept_marks.specs.Kept.{is_marked}
use Rattle.retest_laws.specs.Pending.{asked_again}
use Rattle.retest_laws.proofs.Notes.{retested}
use Rattle.generic_tables.proofs.Written.{on_ok}
use Rattle.retest.specs.Asked.{answers, carried, pends}
use Rattle.retest.proofs.Keys.{has_keys}
use Rattle.retest.proofs.Members.{none_wrong}
use Rattle.retest.proofs.asking.retest.Goals as goal

pub ask_pending-requires-clause-right : goal.ask_pending-requires-clause-right
ask_pending-requires-clause-right g c = none_wrong c.args.asking.now c.new-members.result c.new-members.ensures

pub returns-clause-exact : goal.returns-clause-exact
returns-clause-exact g c = λ right.
    let asking = c.args.asking.now in
    let pending = pends asking c.args.pending.now in
    on_ok c.ask_pending.result
    (λ (marks : (f x : ℕ) → is_marked c.ask_pending.new.marks f x ≡ asked_again (all asking.context.dom.now) (answers asking) (carried asking) pending (is_marked c.args.marks.now) f x) f x.
    marks f x ∙ retested (all asking.context.dom.now) (answers asking) (carried asking) (is_marked c.args.marks.now) pending (has_keys asking) right f x)
    c.ask_pending.ensures.marks
