use Rattle.std.proofs.Common.{◌≡◌, ◌<◌, ℕ, sym, ◌∙◌, ap, subst, inl, inr, arith}
use Rattle.std.proofs.lemmas.Bool.{cases_eq}
use Rattle.page_tree.specs.Forest.{rooted, count, depth_in}
use Rattle.page_tree.specs.Edits.{subtree}
use Rattle.dom_arena.specs.Linked.{tree_of}
use Rattle.dom_arena.specs.Slots.{slot_at, IsUsed}
use Rattle.dom_arena.proofs.Depths.{up_facts, falls}
use Rattle.dom_arena.proofs.Moved.{within_up, within_down, within_self, document_apart}
use Rattle.dom_arena.proofs.walks.is_within.Goals as goal

pub loop-at-init : goal.loop-at-init
loop-at-init c = record { used = c.requires.used; up = λ h. h; down = λ h. h }

pub returns-then-at-eq0-clause-apart : goal.returns-then-at-eq0-clause-apart
returns-then-at-eq0-clause-apart c _ =
    elim (cases_eq (count c.args.k (subtree c.args.n (tree_of c.args.table.now.0).nodes)) 0) [
      | inl z ↦ z
      | inr ne ↦
          let apart : count c.loop-at.at (subtree c.args.n (tree_of c.args.table.now.0).nodes) ≡ 0 =
          document_apart c.args.table.now.0 _ c.requires.stands c.args.n c.requires.node c.requires.below c.loop-at.at c.if-at-eq0.true in
          let there : 0 < count c.loop-at.at (subtree c.args.n (tree_of c.args.table.now.0).nodes) = c.loop-at.invariant.down (omega arith) in
          absurd (omega arith)
    ]

pub loop-at-smaller : goal.loop-at-smaller
loop-at-smaller c =
    let up = up_facts c.args.table.now.0 _ c.requires.stands c.loop-at.at c.loop-at.invariant.used c.if-at-eq0.false in
    falls _ _ up.0 (ap (λ (j : ℕ). depth_in j 0 (rooted (tree_of c.args.table.now.0).nodes)) c.parent-at.ensures ∙ up.2) up.3

pub loop-at-preserved : goal.loop-at-preserved
loop-at-preserved c =
    let up = up_facts c.args.table.now.0 _ c.requires.stands c.loop-at.at c.loop-at.invariant.used c.if-at-eq0.false in
    let part = subtree c.args.n (tree_of c.args.table.now.0).nodes in
    let same_count : count c.parent-at.result part ≡ count (slot_at c.args.table.now.0 c.loop-at.at).parent part = ap (λ (j : ℕ). count j part) c.parent-at.ensures in
    record {
      used = subst (λ (j : ℕ). IsUsed c.args.table.now.0 j) (sym c.parent-at.ensures) up.1;
      up = λ h. c.loop-at.invariant.up
          (within_up c.args.table.now.0 _ c.requires.stands c.args.n c.requires.node c.requires.below c.loop-at.at c.loop-at.invariant.used c.loop-at-test.true c.if-at-eq0.false (omega arith));
      down = λ h.
          let w = within_down c.args.table.now.0 _ c.requires.stands c.args.n c.requires.node c.requires.below c.loop-at.at c.loop-at.invariant.used c.loop-at-test.true c.if-at-eq0.false (c.loop-at.invariant.down h) in
          omega arith;
    }

pub returns-clause-within : goal.returns-clause-within
returns-clause-within c _ =
    c.loop-at.invariant.up (within_self c.args.table.now.0 _ c.requires.stands c.args.n c.requires.node c.requires.below c.loop-at.at c.loop-at-test.false)
