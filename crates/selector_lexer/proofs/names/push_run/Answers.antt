use Rattle.std.proofs.Common.{rules}
use Rattle.std.specs.Prelude.{encode_utf8}
use Rattle.selector_tree.specs.Letters.{is_name_byte}
use Rattle.selector_lexer.proofs.LetterLaws.{letter-shorter, run-letter, run-end, run_more, run_done}
use Rattle.selector_lexer.proofs.names.push_run.Goals as goal

pub loop-c-smaller : goal.loop-c-smaller
loop-c-smaller c = letter-shorter is_name_byte c.loop-c.rest.now c.in-Some.behind.now c.in-Some.c c.in-Some.ensures

pub loop-c-preserved : goal.loop-c-preserved
loop-c-preserved c = (
  search rules,
  run_more c.loop-c.value (encode_utf8 c.in-Some.c) c.push.new.self c.loop-c.rest.now c.in-Some.behind.now _ (run-letter c.loop-c.rest.now c.in-Some.behind.now c.in-Some.c c.in-Some.ensures)
      c.in_ok-push.ensures.ok c.loop-c.invariant.1,
)

pub returns : goal.returns
returns c = run_done c.loop-c.value c.loop-c.rest.now _ (run-end c.loop-c.rest.now c.in_default.ensures) c.loop-c.invariant.1
