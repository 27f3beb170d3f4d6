use Rattle.std.proofs.Common.{◌≡◌, None, length}
use Rattle.page_tree.specs.Fragments.{limit_passed}
use Rattle.dom_arena.specs.Contents.{new_nodes}
use Rattle.html_meaning.specs.Page.{fragment}
use Rattle.html_tree.proofs.Kept.{Kept}
use Rattle.html_tree.proofs.reader.read_fragment.Given as goal

abbrev pub invariant-loop-token : goal.invariant-loop-token
invariant-loop-token l =
    record {
      kept : Kept l.chain l.tokens (new_nodes l.part) (fragment l.source);
      within : limit_passed l.parent_depth l.live (new_nodes l.part) ≡ None;
    }

abbrev pub decreases-loop-token : goal.decreases-loop-token
decreases-loop-token l = length l.tokens
