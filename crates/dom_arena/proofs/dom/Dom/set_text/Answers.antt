use Rattle.std.proofs.Common.{◌∙◌, ℕ, List, ap}
use Rattle.page_tree.specs.Edits.{with_text}
use Rattle.dom_arena.specs.Linked.{tree_of}
use Rattle.dom_arena.proofs.Rewrites.{text_arena}
use Rattle.dom_arena.proofs.dom.Dom.set_text.Goals as goal

pub invariant_of-self : goal.invariant_of-self
invariant_of-self c =
    (text_arena c.self.inside.table.0 c.self.inside.nodes c.args.n c.in_ok-text.text c.set_text.new.self.0 c.self.invariant c.in_ok-check_text.ensures.used c.in_ok-check_text.ensures.below
    c.in_ok-check_text.ensures.accepted c.set_text.ensures).0

pub returns-clause-tree : goal.returns-clause-tree
returns-clause-tree c =
    (text_arena c.self.inside.table.0 c.self.inside.nodes c.args.n c.in_ok-text.text c.set_text.new.self.0 c.self.invariant c.in_ok-check_text.ensures.used c.in_ok-check_text.ensures.below
    c.in_ok-check_text.ensures.accepted c.set_text.ensures).1
    ∙ ap (λ (bytes : List ℕ). with_text c.args.n bytes (tree_of c.self.inside.table.0)) c.in_ok-text.ensures ∙ ap (with_text c.args.n c.args.text.now) c.self.view_is
