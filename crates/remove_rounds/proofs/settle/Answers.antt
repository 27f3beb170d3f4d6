use Rattle.std.proofs.Common.{◌++◌, ◌+◌, ◌<◌, List, length, ap, sym, subst, refl, ◌∙◌, arith}
use Rattle.page_tree.specs.Trees.{IsTree}
use Rattle.page_tree.specs.Standings.{all}
use Rattle.cos_patterns.specs.Found.{pattern_found}
use Rattle.selector_tree.specs.declared.filter.Taken.{Taken}
use Rattle.engine_meaning.specs.Rounds.{removed, taken_from}
use Rattle.engine_meaning.specs.States.{State, settled_state, taken_of}
use Rattle.engine_meaning.proofs.Settling.{settled-quiet}
use Rattle.remove_rounds.proofs.Rounds.{few_elements, no_rows, some_rows, some_taken, ended, rested, ended_taken, fewer, settled_later, taken_later}
use Rattle.remove_rounds.specs.Costs.{questions, single_tests}
use Rattle.remove_rounds.proofs.Spending.{goes_on, questions_within, round_questions, round_singles, singles_within}
use Rattle.remove_rounds.proofs.settle.Goals as goal

pub rounds-init : goal.rounds-init
rounds-init g c =
    record {
      settled = refl;
      taken = ap (λ (rows : List Taken). rows ++ taken_of pattern_found c.args.engine) c.new-taken.ensures;
      rested = λ none. refl;
      few = omega (arith, few_elements c.args.engine.page.tree (subst IsTree c.dom.ensures c.is_tree.ensures));
      checks = omega arith;
      parts = omega arith;
    }

pub returns-then-len-eq0-clause-engine : goal.returns-then-len-eq0-clause-engine
returns-then-len-eq0-clause-engine g c =
    c.in_ok-next.ensures.engine
    ∙ ended c.rounds.engine (subst IsTree c.dom-in-rounds.ensures c.is_tree-in-rounds.ensures)
    (no_rows c.in_ok-next.rows (sym c.len.ensures ∙ c.if-len-eq0.true) c.in_ok-next.ensures.taken)
    ∙ c.rounds.invariant.settled

pub returns-then-len-eq0-clause-taken : goal.returns-then-len-eq0-clause-taken
returns-then-len-eq0-clause-taken g c =
    ended_taken c.rounds.engine (subst IsTree c.dom-in-rounds.ensures c.is_tree-in-rounds.ensures)
    (no_rows c.in_ok-next.rows (sym c.len.ensures ∙ c.if-len-eq0.true) c.in_ok-next.ensures.taken)
    c.rounds.number c.rounds.taken _ c.rounds.invariant.taken

pub returns-then-len-eq0-clause-quiet : goal.returns-then-len-eq0-clause-quiet
returns-then-len-eq0-clause-quiet g c =
    ap (λ (s : State). removed pattern_found c.args.engine.filters c.args.engine.page.path s.page.tree)
    (returns-then-len-eq0-clause-engine g c)
    ∙ settled-quiet pattern_found c.args.engine.filters c.args.engine.page.path c.args.engine.page.tree

pub returns-then-len-eq0-clause-same : goal.returns-then-len-eq0-clause-same
returns-then-len-eq0-clause-same g c = λ none.
    c.in_ok-next.ensures.engine
    ∙ rested c.rounds.engine (subst IsTree c.dom-in-rounds.ensures c.is_tree-in-rounds.ensures)
    (no_rows c.in_ok-next.rows (sym c.len.ensures ∙ c.if-len-eq0.true) c.in_ok-next.ensures.taken)
    ∙ c.rounds.invariant.rested none

pub rounds-smaller : goal.rounds-smaller
rounds-smaller g c =
    subst (λ (s : State). length (all s.page.tree) < length (all c.rounds.engine.page.tree)) (sym c.in_ok-next.ensures.engine)
    (fewer c.rounds.engine (some_rows c.in_ok-next.rows c.len.result c.len.ensures c.if-len-eq0.false c.in_ok-next.ensures.taken))

pub rounds-preserved : goal.rounds-preserved
rounds-preserved g c =
    let some = some_rows c.in_ok-next.rows c.len.result c.len.ensures c.if-len-eq0.false c.in_ok-next.ensures.taken in
    let less : length (all c.in_ok-next.next.page.tree) < length (all c.rounds.engine.page.tree) = rounds-smaller g c in
    record {
      settled = ap (settled_state pattern_found) c.in_ok-next.ensures.engine ∙ settled_later c.rounds.engine some ∙ c.rounds.invariant.settled;
      taken =
          ap (λ (s : State). c.add_round.new.taken ++ taken_from pattern_found s.filters s.page.path (c.rounds.number + 1) (length (all s.page.tree)) s.page.tree)
          c.in_ok-next.ensures.engine
          ∙ taken_later c.rounds.engine some c.rounds.number c.rounds.taken c.add_round.new.taken _ c.in_ok-next.rows c.in_ok-next.ensures.taken
          c.in_ok-add_round.ensures c.rounds.invariant.taken;
      rested = λ none. absurd (some_taken c.rounds.number c.rounds.taken c.add_round.new.taken c.in_ok-next.rows c.len.result c.len.ensures c.if-len-eq0.false c.in_ok-add_round.ensures none);
      few = omega (arith, less, c.rounds.invariant.few);
      checks = omega (arith, goes_on questions c.rounds.engine c.in_ok-next.next c.in_ok-next.ensures.engine some, round_questions c.rounds.engine, c.in_ok-next.ensures.checks, c.rounds.invariant.checks);
      parts = omega (arith, goes_on single_tests c.rounds.engine c.in_ok-next.next c.in_ok-next.ensures.engine some, round_singles c.rounds.engine, c.in_ok-next.ensures.parts, c.rounds.invariant.parts);
    }

pub returns-then-len-eq0-clause-checks : goal.returns-then-len-eq0-clause-checks
returns-then-len-eq0-clause-checks g c = omega (arith, questions_within c.rounds.engine, c.in_ok-next.ensures.checks, c.rounds.invariant.checks)

pub returns-then-len-eq0-clause-parts : goal.returns-then-len-eq0-clause-parts
returns-then-len-eq0-clause-parts g c = omega (arith, singles_within c.rounds.engine, c.in_ok-next.ensures.parts, c.rounds.invariant.parts)

pub returns-in_err-next-clause-checks : goal.returns-in_err-next-clause-checks
returns-in_err-next-clause-checks g c = omega (arith, questions_within c.rounds.engine, c.in_err-next.ensures.checks, c.rounds.invariant.checks)

pub returns-in_err-next-clause-parts : goal.returns-in_err-next-clause-parts
returns-in_err-next-clause-parts g c = omega (arith, singles_within c.rounds.engine, c.in_err-next.ensures.parts, c.rounds.invariant.parts)

pub returns-in_err-add_round-clause-checks : goal.returns-in_err-add_round-clause-checks
returns-in_err-add_round-clause-checks g c = omega (arith, questions_within c.rounds.engine, c.in_ok-next.ensures.checks, c.rounds.invariant.checks)

pub returns-in_err-add_round-clause-parts : goal.returns-in_err-add_round-clause-parts
returns-in_err-add_round-clause-parts g c = omega (arith, singles_within c.rounds.engine, c.in_ok-next.ensures.parts, c.rounds.invariant.parts)
