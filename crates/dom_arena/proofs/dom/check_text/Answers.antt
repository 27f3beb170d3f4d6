use Rattle.std.proofs.Common.{◌∙◌, sym, ap}
use Rattle.std.specs.Prelude.{option_map}
use Rattle.dom_arena.specs.Contents.{holds_text}
use Rattle.dom_arena.specs.Refusals.{error_of}
use Rattle.dom_arena.proofs.Refused.{text_no_node, text_not_text, text_accepted}
use Rattle.dom_arena.proofs.dom.check_text.Goals as goal

pub returns-in-None-clause-refused : goal.returns-in-None-clause-refused
returns-in-None-clause-refused c = ap (option_map error_of) (text_no_node c.args.table.now.0 _ c.requires c.args.n c.if-n-eq0.false c.in-None.ensures.none)

pub returns-else-is_text-clause-refused : goal.returns-else-is_text-clause-refused
returns-else-is_text-clause-refused c =
    ap (option_map error_of)
    (text_not_text c.args.table.now.0 _ c.requires c.args.n c.if-n-eq0.false c.in-Some.ensures.used
    (ap holds_text (sym c.in-Some.ensures.found) ∙ sym c.if-is_text.ensures))

pub returns-then-is_text-clause-accepted : goal.returns-then-is_text-clause-accepted
returns-then-is_text-clause-accepted c =
    text_accepted c.args.table.now.0 _ c.requires c.args.n c.if-n-eq0.false c.in-Some.ensures.used
    (ap holds_text (sym c.in-Some.ensures.found) ∙ sym c.if-is_text.ensures)
