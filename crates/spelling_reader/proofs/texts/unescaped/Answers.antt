use Rattle.std.proofs.Common.{rules, sym, ap, ◌∙◌, ◌++◌, Bool}
use Rattle.selector_spelling.specs.Arguments.{unescaped}
use Rattle.spelling_reader.specs.Texts.{marked, pushed}
use Rattle.selector_lexer.proofs.Characters.{shorter}
use Rattle.spelling_reader.proofs.Unescaped.{unescaped-character, unescaped_more}
use Rattle.spelling_reader.proofs.texts.unescaped.Goals as goal

pub loop-c-smaller : goal.loop-c-smaller
loop-c-smaller c = shorter c.in-Some.c c.loop-c.rest.now c.in-Some.behind.now c.in-Some.ensures

pub loop-c-preserved : goal.loop-c-preserved
loop-c-preserved c =
    let l = c.loop-c in
    let p = marked c.args.marks in (
      search rules,
      unescaped_more l.out (pushed p l.paired c.in-Some.c) c.push_unescaped.new.out (unescaped p l.paired l.rest.now) (unescaped p c.begins_pair-paired.result c.in-Some.behind.now) _
          (unescaped-character c.args.marks l.paired c.in-Some.c l.rest.now c.in-Some.behind.now c.in-Some.ensures ∙ ap (λ (q : Bool). pushed p l.paired c.in-Some.c ++ unescaped p q c.in-Some.behind.now) (sym c.begins_pair-paired.ensures))
          c.in_ok-push_unescaped.ensures l.invariant.1,
    )
