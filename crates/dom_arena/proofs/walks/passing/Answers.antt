use Rattle.std.proofs.Common.{ℕ, None, Some, sym, ◌∙◌, ap, subst}
use Rattle.page_tree.specs.Forest.{rooted, depth_in}
use Rattle.dom_arena.specs.Linked.{tree_of}
use Rattle.dom_arena.specs.Slots.{IsUsed}
use Rattle.dom_arena.proofs.Depths.{up_facts, falls}
use Rattle.page_tree.proofs.Below.{beyond}
use Rattle.dom_arena.proofs.Order.{behind_whole, behind_end, next_beyond, up_beyond}
use Rattle.dom_arena.proofs.walks.passing.Goals as goal

pub loop-at-init : goal.loop-at-init
loop-at-init c = record {
  used = c.requires.used;
  climbed = behind_whole c.args.table.now.0 _ c.requires.stands c.args.n c.requires.used;
}

pub returns-then-next-ne0 : goal.returns-then-next-ne0
returns-then-next-ne0 c =
    let e = c.next-next.ensures in
    ap Some e ∙ sym (c.loop-at.invariant.climbed ∙ next_beyond c.args.table.now.0 _ c.requires.stands c.loop-at.at c.loop-at.invariant.used (λ z. c.if-next-ne0.true (e ∙ z)))

pub loop-at-smaller : goal.loop-at-smaller
loop-at-smaller c =
    let up = up_facts c.args.table.now.0 _ c.requires.stands c.loop-at.at c.loop-at.invariant.used c.loop-at-test.true in
    falls _ _ up.0 (ap (λ (j : ℕ). depth_in j 0 (rooted (tree_of c.args.table.now.0).nodes)) c.parent-at.ensures ∙ up.2) up.3

pub loop-at-preserved : goal.loop-at-preserved
loop-at-preserved c =
    let up = up_beyond c.args.table.now.0 _ c.requires.stands c.loop-at.at c.loop-at.invariant.used c.loop-at-test.true (sym c.next-next.ensures ∙ c.if-next-ne0.false) in
    record {
      used = subst (λ (j : ℕ). IsUsed c.args.table.now.0 j) (sym c.parent-at.ensures) up.0;
      climbed = c.loop-at.invariant.climbed ∙ up.1 ∙ ap (λ (j : ℕ). beyond j (rooted (tree_of c.args.table.now.0).nodes) None) (sym c.parent-at.ensures);
    }

pub returns : goal.returns
returns c =
    sym (c.loop-at.invariant.climbed ∙ behind_end c.args.table.now.0 _ c.requires.stands c.loop-at.at c.loop-at-test.false)
