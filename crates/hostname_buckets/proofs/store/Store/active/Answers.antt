use Rattle.std.proofs.Common.{◌≡◌, ◌∙◌, ◌++◌, ◌≤◌, ℕ, List, [], length, drop, ap, sym, subst}
use Rattle.std.proofs.Math.ListN.{drop_of_length-le}
use Rattle.std.proofs.lemmas.List.{append-nil}
use Rattle.std.specs.List.{list_all}
use Rattle.std.specs.Option.{option_copied}
use Rattle.selector_tree.specs.declared.filter.Filter.{Filter}
use Rattle.hostname_buckets.specs.Active.{active_among, active_by}
use Rattle.hostname_buckets.proofs.Laws.{active_each, active_few}
use Rattle.hostname_buckets.proofs.Walking.{walk}
use Rattle.hostname_buckets.proofs.Whole.{all_active}
use Rattle.hostname_buckets.proofs.store.Store.active.Goals as goal
use Rattle.hostname_buckets.proofs.store.Store.active.Goals.{After-drop-branch-2}

-- behind the last number the walk is done
walked : (c : After-drop-branch-2) → c.numbers.active ≡ active_among c.args.self.now c.args.page.now c.args.rules.now
walked c =
    let act = active_by c.switched_off-off.result c.args.self.now c.args.page.now.host (option_copied c.rest-rest.result) in
    let items : List ℕ = c.deref-number-items.result.now in
    let none : drop c.numbers.number-index items ≡ [] = drop_of_length-le items c.numbers-test.false in
    sym (append-nil c.numbers.active)
    ∙ ap (λ (l : List ℕ). c.numbers.active ++ walk act c.args.self.now c.numbers.next l) (sym none)
    ∙ c.numbers.invariant
    ∙ all_active c.self.inside.tables c.self.inside.entries c.args.self.now c.args.page.now c.args.rules.now c.switched_off-off.result c.as_str.result.now (option_copied c.rest-rest.result)
    c.in_ok-candidates.field-0.items items c.self.invariant c.self.view_is c.in_ok-candidates.ensures.same c.in_ok-candidates.ensures.sorted c.deref-number-items.ensures.value
    c.as_str.ensures c.switched_off-off.ensures c.rest-rest.ensures

pub returns-clause-active : goal.returns-clause-active
returns-clause-active c = walked c

pub returns-clause-each : goal.returns-clause-each
returns-clause-each c = λ holds all. ap (list_all holds) (walked c) ∙ active_each holds c.args.self.now c.args.page.now c.args.rules.now all

pub returns-clause-few : goal.returns-clause-few
returns-clause-few c =
    let P : List Filter → Type 0 = λ l. length l ≤ length c.args.self.now in
    subst P (sym (walked c)) (active_few c.args.self.now c.args.page.now c.args.rules.now)
