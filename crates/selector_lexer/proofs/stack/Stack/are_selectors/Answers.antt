use Rattle.std.proofs.Common.{◌∙◌, sym, ap}
use Rattle.std.specs.List.{list_all}
use Rattle.selector_spelling.specs.Scan.{is_selector}
use Rattle.selector_lexer.proofs.Lists.{list_all-reverse}
use Rattle.selector_lexer.proofs.stack.Stack.are_selectors.Goals as goal

pub returns : goal.returns
returns c =
    c.all_selectors.ensures ∙ ap (list_all is_selector) c.as_slice.ensures.value
    ∙ sym (list_all-reverse is_selector c.self.inside.items.items) ∙ ap (list_all is_selector) c.self.view_is
