use Rattle.std.proofs.Common.{◌≡◌, max, ◌∙◌, ◌-◌, ◌≤◌, List, ℕ, suc, length, ap, sym, arith}
use Rattle.selector_meaning.specs.Texts.{has_part}
use Rattle.selector_match.proofs.Border.{in_text, in_window, not_yet}
use Rattle.selector_match.proofs.literals.found_by_now.Goals as goal
use Rattle.selector_match.proofs.literals.found_by_now.Goals.{then-stands_in-via-then-stands_in, then-stands_in-via-else-stands_in+then-stands_in-2}

nearly : (reach : ℕ) (needle finder : List ℕ) → reach ≡ length needle - 1 → needle ≡ finder → length finder ≤ suc reach
nearly reach needle finder e same = omega (arith, e, ap length same)

wider : (finder : List ℕ) (reach window : ℕ) → length finder ≤ suc reach → window ≡ max reach 256 → length finder ≤ suc window
wider finder reach window h e = omega (arith, h, e)

pub returns-then-stands_in : goal.returns-then-stands_in
returns-then-stands_in c later =
    elim c.then-stands_in.branch [
      | then-stands_in-via-then-stands_in w ↦
          in_text c.args.finder.now c.args.pending.now.items c.args.text.now later (sym c.stands_in.ensures ∙ w.if-stands_in.true)
      | then-stands_in-via-else-stands_in+then-stands_in-2 w ↦
          in_window c.args.finder.now c.args.pending.now.items c.args.text.now _ _ later c.extend_from_slice.new.self.items c.saturating_sub-reach.result c.max-window.result c.min.result
          (nearly c.saturating_sub-reach.result c.needle.result.now c.args.finder.now c.saturating_sub-reach.ensures c.needle.ensures)
          (wider c.args.finder.now c.saturating_sub-reach.result c.max-window.result (nearly c.saturating_sub-reach.result c.needle.result.now c.args.finder.now c.saturating_sub-reach.ensures c.needle.ensures) c.max-window.ensures) c.split_at.ensures.front c.split_at.ensures.back
          c.in_ok-extend_from_slice.ensures.items c.min.ensures (sym c.stands_in.ensures ∙ w.if-stands_in.false)
          (ap (has_part c.args.finder.now) (sym w.as_slice.ensures.value) ∙ sym w.stands_in-else-stands_in.ensures ∙ w.if-stands_in-2.true)
    ]

pub returns : goal.returns
returns c later =
    not_yet c.args.finder.now c.args.pending.now.items c.args.text.now _ _ later c.extend_from_slice.new.self.items c.saturating_sub-reach.result c.max-window.result c.min.result
    (nearly c.saturating_sub-reach.result c.needle.result.now c.args.finder.now c.saturating_sub-reach.ensures c.needle.ensures)
    (wider c.args.finder.now c.saturating_sub-reach.result c.max-window.result (nearly c.saturating_sub-reach.result c.needle.result.now c.args.finder.now c.saturating_sub-reach.ensures c.needle.ensures) c.max-window.ensures) c.split_at.ensures.front c.split_at.ensures.back
    c.in_ok-extend_from_slice.ensures.items c.min.ensures (sym c.stands_in.ensures ∙ c.if-stands_in.false)
    (ap (has_part c.args.finder.now) (sym c.as_slice.ensures.value) ∙ sym c.stands_in-else-stands_in.ensures ∙ c.if-stands_in-2.false)
    c.push_end.new.bytes.items c.in_ok-push_end.ensures
