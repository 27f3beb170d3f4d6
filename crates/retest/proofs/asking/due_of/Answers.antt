use Rattle.std.proofs.Common.{◌∙◌, ◌||◌, ◌&&◌, ℕ, List, Bool, nat_eq, ap, sym}
use Rattle.std.specs.List.{list_any}
use Rattle.std.proofs.lemmas.Bool.{and_parts}
use Rattle.generic_tables.specs.KeysLeft.{keys_left}
use Rattle.generic_tables.specs.FilterTables.{has_key}
use Rattle.retest.specs.Asked.{answers, group_in}
use Rattle.retest.proofs.Keys.{filed_at, keyed}
use Rattle.retest.proofs.asking.due_of.Goals as goal

pub keys-init : goal.keys-init
keys-init g c =
    let asking = c.args.asking.now in
    let x = c.args.x in
    let pend = λ (f : ℕ). g.W.Pends.pends c.args.pending.now (group_in asking.groups.now f) x in
    let left = λ (f : ℕ). list_any (λ k. has_key asking.active.now k f) (keys_left c.keys_at-keys.result) in
    let first = λ (f : ℕ). ap (list_any (λ k. has_key asking.active.now k f)) c.keys_at-keys.ensures ∙ filed_at asking f x in
    let none = λ (f : ℕ) (b : Bool). ap (λ (ks : List ℕ). list_any (nat_eq f) ks || (left f && b)) c.new-due.ensures.empty ∙ ap (λ a. a && b) (first f) in
    record {
      within = λ f h. sym (none f (pend f)) ∙ h;
      enough = λ f h.
          none f (pend f && answers asking f x)
          ∙ ap (λ a. a && (pend f && answers asking f x)) (keyed asking f x (and_parts (pend f) (answers asking f x) h).1) ∙ h;
    }
