use Rattle.std.proofs.Common.{rules, sym, ap, ◌∙◌, ◌≡◌, false, zero}
use Rattle.std.specs.Prelude.{encode_utf8}
use Rattle.selector_spelling.specs.Bytes.{begins_with}
use Rattle.selector_spelling.specs.Names.{string, is_plain}
use Rattle.selector_lexer.proofs.LetterLaws.{letter-shorter, string-letter, string_more}
use Rattle.selector_lexer.proofs.names.push_string.Goals as goal

pub loop-rest-smaller : goal.loop-rest-smaller
loop-rest-smaller c = letter-shorter is_plain c.loop-rest.rest.now c.in-Some.behind.now c.in-Some.c c.in-Some.ensures

pub loop-rest-preserved : goal.loop-rest-preserved
loop-rest-preserved c =
    let l = c.loop-rest in
    let other : begins_with c.args.quote l.rest.now ≡ false = ap (begins_with c.args.quote) (sym c.as_bytes.ensures.value) ∙ sym c.begins_with.ensures ∙ c.loop-rest-test.true in (
      search rules,
      string_more l.value (encode_utf8 c.in-Some.c) c.push.new.self (string c.args.quote zero c.in-Some.behind.now) (string c.args.quote zero l.rest.now) _
          (string-letter c.args.quote l.rest.now c.in-Some.behind.now c.in-Some.c c.requires.ascii other c.in-Some.ensures)
          c.in_ok-push.ensures.ok l.invariant.1,
    )
