use Rattle.std.proofs.Common.{◌≡◌, ◌≤◌, List, ℕ, Bool, Ok, Err, length, refl, sym, subst, ◌∙◌, ap, arith, cond}
use Rattle.std.proofs.lemmas.Bool.{le-ltb}
use Rattle.command_inputs.specs.declared.TheConstants.{LIST_LIMIT}
use Rattle.command_inputs.specs.declared.status.Status.TheVariants.{Refused}
use Rattle.command_inputs.specs.declared.status.InputRefusal.TheVariants.{TooManyLists}
use Rattle.command_inputs.specs.Due.{at_once, ◌>>=◌}
use Rattle.command_inputs.specs.Inputs.{address_by, page_inputs}
use Rattle.command_inputs.specs.Reads.{ReadsAs}
use Rattle.command_inputs.proofs.Reading.{none_at_ok, reads_none, reads_then}
use Rattle.command_inputs.proofs.inputs.read_apply.Goals as goal

pub returns-clause-reads : goal.returns-clause-reads
returns-clause-reads g c =
    let s = g.S.Shelf in
    let words = c.args.words.now in
    let few : length words.lists ≤ LIST_LIMIT = subst (λ (n : ℕ). n ≤ LIST_LIMIT) c.len.ensures c.if-len-gt-LIST_LIMIT.false in
    subst (λ (many : Bool). ReadsAs s.tells s.files s.begun s.faults c.args.shelf.now c.read_files.new.shelf
    (λ fs. cond many (at_once (Err (Refused TooManyLists))) (at_once (address_by words.url) >>= λ at. page_inputs words at fs)) c.read_files.result)
    (sym (le-ltb LIST_LIMIT (length words.lists) few))
    (reads_then (page_inputs words)
    (reads_none c.args.shelf.now (address_by words.url) (Ok c.in_ok-page.page) c.in_ok-page.ensures.due (none_at_ok c.in_ok-page.page))
    c.read_files.ensures.reads)
