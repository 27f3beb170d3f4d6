use Rattle.std.proofs.Common.{◌≡◌, ◌+◌, ◌-◌, ◌≤◌, ◌∷◌, ◌++◌, List, ℕ, Ok, Err, [], drop, length, ap, sym, subst, arith, refl}
use Rattle.std.specs.Prelude.{sum_by}
use Rattle.std.proofs.lemmas.Grind.{common_steps}
use Rattle.std.proofs.lemmas.Result.{err_from_is_err_and}
use Rattle.command_inputs.specs.declared.status.Status.TheVariants.{NoMemory}
use Rattle.command_inputs.specs.Inputs.{lists_due}
use Rattle.command_inputs.specs.Reads.{ReadsAs}
use Rattle.command_inputs.proofs.Reading.{behind_lists, behind_no_lists, decides_after, decides_last, exits, list_error, names_left, reads_none, reads_no_memory}
use Rattle.command_inputs.proofs.files.read_lists.Goals as goal

pub names-init : goal.names-init
names-init g c = record {
  decides = λ new rest h.
      let s = g.S.Shelf in
      subst (λ (lists : List (List ℕ)). ReadsAs s.tells s.files s.begun s.faults c.args.shelf.now new (lists_due 1 16777216 c.args.names.now) (behind_lists lists rest)) (sym c.new-lists.ensures)
      (rw behind_no_lists h);
  room = ap (λ (lists : List (List ℕ)). 16777216 + sum_by length lists) c.new-lists.ensures;
  number = refl;
  count = ap length c.new-lists.ensures;
  few = omega arith;
}

pub returns-in_err-bytes-clause-reads : goal.returns-in_err-bytes-clause-reads
returns-in_err-bytes-clause-reads g c =
    let s = g.S.Shelf in
    let left = names_left c.args.names.now c.as_slice-name-items.result.now c.names.name-index c.name-item.result c.as_str.result.now c.as_slice-name-items.ensures c.names-test.true c.name-item.is c.as_str.ensures in
    exits (err_from_is_err_and c.from_residual.result c.from_residual.ensures.1)
    (c.names.invariant.decides c.read_within.new.shelf (Err c.in_err-bytes.field-0.0)
    (subst (λ (ns : List (List ℕ)). ReadsAs s.tells s.files s.begun s.faults c.names.shelf c.read_within.new.shelf (lists_due c.names.number c.names.room ns) (Err c.in_err-bytes.field-0.0)) (sym left)
    (list_error c.names.number c.names.room c.as_str.result.now (drop (c.names.name-index + 1) c.args.names.now) c.in_err-bytes.ensures.reads)))

pub overflow_add-number : goal.overflow_add-number
overflow_add-number g c =
    let few = subst (λ (ns : List (List ℕ)). length ns ≤ 32) (sym c.as_slice-name-items.ensures) c.requires in
    omega (arith, few, c.names.invariant.number, c.names-test.true)

pub returns-in_err-push-clause-reads : goal.returns-in_err-push-clause-reads
returns-in_err-push-clause-reads g c =
    let left = names_left c.args.names.now c.as_slice-name-items.result.now c.names.name-index c.name-item.result c.as_str.result.now c.as_slice-name-items.ensures c.names-test.true c.name-item.is c.as_str.ensures in
    exits (err_from_is_err_and c.from_residual-in_err-push.result c.from_residual-in_err-push.ensures.1)
    (decides_after c.args.shelf.now c.names.shelf c.read_within.new.shelf c.args.names.now c.names.lists (c.names.lists ++ c.in_ok-bytes.bytes ∷ []) (drop c.names.name-index c.args.names.now) c.names.number c.names.room c.as_str.result.now c.in_ok-bytes.bytes (drop (c.names.name-index + 1) c.args.names.now) left refl c.in_ok-bytes.ensures.reads c.names.invariant.decides
    c.read_within.new.shelf (Err NoMemory) (reads_no_memory c.read_within.new.shelf (lists_due (c.names.number + 1) (c.names.room - length c.in_ok-bytes.bytes) (drop (c.names.name-index + 1) c.args.names.now))))

pub names-preserved : goal.names-preserved
names-preserved g c =
    let s = g.S.Shelf in
    let left = names_left c.args.names.now c.as_slice-name-items.result.now c.names.name-index c.name-item.result c.as_str.result.now c.as_slice-name-items.ensures c.names-test.true c.name-item.is c.as_str.ensures in
    record {
      decides = rw c.len-room.ensures
          (decides_after c.args.shelf.now c.names.shelf c.read_within.new.shelf c.args.names.now c.names.lists c.push.new.self (drop c.names.name-index c.args.names.now) c.names.number c.names.room c.as_str.result.now c.in_ok-bytes.bytes (drop (c.names.name-index + 1) c.args.names.now) left c.in_ok-push.ensures.ok c.in_ok-bytes.ensures.reads c.names.invariant.decides);
      room = grind (arith, common_steps, c.names.invariant.room, c.len-room.ensures, c.in_ok-push.ensures.ok, c.in_ok-bytes.ensures.within);
      number = omega (arith, c.names.invariant.number);
      count = grind (arith, common_steps, c.names.invariant.count, c.in_ok-push.ensures.ok);
      few = omega (arith, c.names-test.true, ap length c.as_slice-name-items.ensures);
    }

pub returns-clause-reads : goal.returns-clause-reads
returns-clause-reads g c =
    decides_last c.args.shelf.now c.names.shelf c.args.names.now c.as_slice-name-items.result.now c.names.lists c.names.number c.names.room c.names.name-index c.as_slice-name-items.ensures c.names-test.false c.names.invariant.decides

pub returns-clause-within : goal.returns-clause-within
returns-clause-within g c = omega (arith, c.names.invariant.room)

pub returns-clause-few : goal.returns-clause-few
returns-clause-few g c = omega (arith, c.names.invariant.count, c.names.invariant.few)
