use Rattle.std.proofs.Common.{◌||◌, ◌==◌, ◌∙◌, ◌≤◌, ℕ, List, Bool, length, sym, ap, arith}
use Rattle.std.specs.Result.{is_ok}
use Rattle.page_tree.specs.Directions.{is_in}
use Rattle.kept_marks.proofs.Rising.{eq-turned}
use Rattle.kept_marks.proofs.Rising.{put_in, put_searched, found, present}
use Rattle.kept_marks.proofs.rows.Row.put_in.Goals as goal

pub invariant_of-self-in-Err : goal.invariant_of-self-in-Err
invariant_of-self-in-Err c =
    put_searched c.self.inside.filters.items c.deref.result.now c.insert.new.self.items c.in-Err.place c.args.f (is_ok c.insert.result)
    c.deref.ensures.value c.insert.ensures.items c.self.invariant c.in-Err.ensures.position

pub returns-in-Ok-clause-ok : goal.returns-in-Ok-clause-ok
returns-in-Ok-clause-ok c = λ g.
    present c.args.self.now c.args.f g
    (ap (λ (l : List ℕ). is_in l c.args.f) (sym c.self.view_is) ∙ found c.self.inside.filters.items c.deref.result.now c.in-Ok.field-0 c.args.f c.deref.ensures.value c.self.invariant c.in-Ok.ensures.position)

pub returns-in_ok-insert-in-Err-clause-ok : goal.returns-in_ok-insert-in-Err-clause-ok
returns-in_ok-insert-in-Err-clause-ok c = λ g.
    let xs = c.self.inside.filters.items in
    let within : c.in-Err.place ≤ length xs = omega (arith, c.in-Err.ensures.bound, c.deref.ensures.len) in
    ap (λ (l : List ℕ). is_in l g) c.in_ok-insert-in-Err.ensures.items ∙ put_in xs c.in-Err.place c.args.f g within
    ∙ ap (λ (b : Bool). is_in xs g || b) (eq-turned c.args.f g) ∙ ap (λ (l : List ℕ). is_in l g || (g == c.args.f)) c.self.view_is
