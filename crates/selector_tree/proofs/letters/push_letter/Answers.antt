use Rattle.std.proofs.Common.{◌++◌, ◌∷◌, List, ℕ, Bool, ap, sym, ◌∙◌, if◌then◌else◌}
use Rattle.std.specs.Prelude.{encode_utf8}
use Rattle.std.proofs.lemmas.Result.{on_ok_weaker}
use Rattle.selector_tree.proofs.Spelled.{letters-other}
use Rattle.selector_tree.proofs.letters.push_letter.Goals as goal

pub returns : goal.returns
returns c =
    let m = c.is_marked.ensures in
    on_ok_weaker c.push_marked.result (λ is. is ∙ ap (λ (b : Bool). c.args.out.now ++ (if b then 92 ∷ encode_utf8 c.args.c else encode_utf8 c.args.c)) m
    ∙ ap (λ (v : List ℕ). c.args.out.now ++ v) (sym (letters-other c.args.spelling c.args.c (sym c.is_numbered.ensures ∙ c.if-is_numbered.false)))) c.push_marked.ensures
