use Rattle.std.proofs.Common.{◌≡◌, true, false, codes, subst, sym}
use Rattle.html_meaning.specs.Bytes.{begins, begins_like}
use Rattle.html_meaning.specs.Tokens as meant
use Rattle.html_tokens.specs.Views.{Reads}
use Rattle.html_tokens.proofs.First as rule
use Rattle.html_tokens.proofs.rules.first.Goals as goal

pub returns-then-begins_raw_text : goal.returns-then-begins_raw_text
returns-then-begins_raw_text c =
    let raw = c.args.raw.now in
    let bytes = c.args.source.now in
    let same = c.as_bytes-bytes.ensures.value in
    let t0 : meant.begins_raw_text raw bytes ≡ true = rule.tested_both meant.begins_raw_text true _ _ raw bytes c.as_bytes.ensures.value same c.if-begins_raw_text.ensures in
    subst (λ f. Reads c.raw_text.result f bytes) (sym (rule.first_raw_text raw bytes t0)) c.raw_text.ensures

pub returns-then-begins : goal.returns-then-begins
returns-then-begins c =
    let raw = c.args.raw.now in
    let bytes = c.args.source.now in
    let same = c.as_bytes-bytes.ensures.value in
    let t0 : meant.begins_raw_text raw bytes ≡ false = rule.tested_both meant.begins_raw_text false _ _ raw bytes c.as_bytes.ensures.value same c.if-begins_raw_text.ensures in
    let t1 : begins (codes "<!--") bytes ≡ true = rule.tested (begins (codes "<!--")) true _ bytes same c.if-begins.ensures in
    subst (λ f. Reads c.comment.result f bytes) (sym (rule.first_comment raw bytes t0 t1)) c.comment.ensures

pub returns-then-begins_like : goal.returns-then-begins_like
returns-then-begins_like c =
    let raw = c.args.raw.now in
    let bytes = c.args.source.now in
    let same = c.as_bytes-bytes.ensures.value in
    let t0 : meant.begins_raw_text raw bytes ≡ false = rule.tested_both meant.begins_raw_text false _ _ raw bytes c.as_bytes.ensures.value same c.if-begins_raw_text.ensures in
    let t1 : begins (codes "<!--") bytes ≡ false = rule.tested (begins (codes "<!--")) false _ bytes same c.if-begins.ensures in
    let t2 : begins_like (codes "<!doctype") bytes ≡ true = rule.tested (begins_like (codes "<!doctype")) true _ bytes same c.if-begins_like.ensures in
    subst (λ f. Reads c.doctype.result f bytes) (sym (rule.first_doctype raw bytes t0 t1 t2)) c.doctype.ensures

pub returns-then-is_bogus_comment : goal.returns-then-is_bogus_comment
returns-then-is_bogus_comment c =
    let raw = c.args.raw.now in
    let bytes = c.args.source.now in
    let same = c.as_bytes-bytes.ensures.value in
    let t0 : meant.begins_raw_text raw bytes ≡ false = rule.tested_both meant.begins_raw_text false _ _ raw bytes c.as_bytes.ensures.value same c.if-begins_raw_text.ensures in
    let t1 : begins (codes "<!--") bytes ≡ false = rule.tested (begins (codes "<!--")) false _ bytes same c.if-begins.ensures in
    let t2 : begins_like (codes "<!doctype") bytes ≡ false = rule.tested (begins_like (codes "<!doctype")) false _ bytes same c.if-begins_like.ensures in
    let t3 : meant.is_bogus_comment bytes ≡ true = rule.tested meant.is_bogus_comment true _ bytes same c.if-is_bogus_comment.ensures in
    subst (λ f. Reads c.bogus_comment.result f bytes) (sym (rule.first_bogus_comment raw bytes t0 t1 t2 t3)) c.bogus_comment.ensures

pub returns-then-is_start : goal.returns-then-is_start
returns-then-is_start c =
    let raw = c.args.raw.now in
    let bytes = c.args.source.now in
    let same = c.as_bytes-bytes.ensures.value in
    let t0 : meant.begins_raw_text raw bytes ≡ false = rule.tested_both meant.begins_raw_text false _ _ raw bytes c.as_bytes.ensures.value same c.if-begins_raw_text.ensures in
    let t1 : begins (codes "<!--") bytes ≡ false = rule.tested (begins (codes "<!--")) false _ bytes same c.if-begins.ensures in
    let t2 : begins_like (codes "<!doctype") bytes ≡ false = rule.tested (begins_like (codes "<!doctype")) false _ bytes same c.if-begins_like.ensures in
    let t3 : meant.is_bogus_comment bytes ≡ false = rule.tested meant.is_bogus_comment false _ bytes same c.if-is_bogus_comment.ensures in
    let t4 : meant.is_start bytes ≡ true = rule.tested meant.is_start true _ bytes same c.if-is_start.ensures in
    subst (λ f. Reads c.start_tag.result f bytes) (sym (rule.first_start_tag raw bytes t0 t1 t2 t3 t4)) c.start_tag.ensures

pub returns-then-is_end : goal.returns-then-is_end
returns-then-is_end c =
    let raw = c.args.raw.now in
    let bytes = c.args.source.now in
    let same = c.as_bytes-bytes.ensures.value in
    let t0 : meant.begins_raw_text raw bytes ≡ false = rule.tested_both meant.begins_raw_text false _ _ raw bytes c.as_bytes.ensures.value same c.if-begins_raw_text.ensures in
    let t1 : begins (codes "<!--") bytes ≡ false = rule.tested (begins (codes "<!--")) false _ bytes same c.if-begins.ensures in
    let t2 : begins_like (codes "<!doctype") bytes ≡ false = rule.tested (begins_like (codes "<!doctype")) false _ bytes same c.if-begins_like.ensures in
    let t3 : meant.is_bogus_comment bytes ≡ false = rule.tested meant.is_bogus_comment false _ bytes same c.if-is_bogus_comment.ensures in
    let t4 : meant.is_start bytes ≡ false = rule.tested meant.is_start false _ bytes same c.if-is_start.ensures in
    let t5 : meant.is_end bytes ≡ true = rule.tested meant.is_end true _ bytes same c.if-is_end.ensures in
    subst (λ f. Reads c.end_tag.result f bytes) (sym (rule.first_end_tag raw bytes t0 t1 t2 t3 t4 t5)) c.end_tag.ensures

pub returns-else-is_end : goal.returns-else-is_end
returns-else-is_end c =
    let raw = c.args.raw.now in
    let bytes = c.args.source.now in
    let same = c.as_bytes-bytes.ensures.value in
    let t0 : meant.begins_raw_text raw bytes ≡ false = rule.tested_both meant.begins_raw_text false _ _ raw bytes c.as_bytes.ensures.value same c.if-begins_raw_text.ensures in
    let t1 : begins (codes "<!--") bytes ≡ false = rule.tested (begins (codes "<!--")) false _ bytes same c.if-begins.ensures in
    let t2 : begins_like (codes "<!doctype") bytes ≡ false = rule.tested (begins_like (codes "<!doctype")) false _ bytes same c.if-begins_like.ensures in
    let t3 : meant.is_bogus_comment bytes ≡ false = rule.tested meant.is_bogus_comment false _ bytes same c.if-is_bogus_comment.ensures in
    let t4 : meant.is_start bytes ≡ false = rule.tested meant.is_start false _ bytes same c.if-is_start.ensures in
    let t5 : meant.is_end bytes ≡ false = rule.tested meant.is_end false _ bytes same c.if-is_end.ensures in
    subst (λ f. Reads c.text.result f bytes) (sym (rule.first_text raw bytes t0 t1 t2 t3 t4 t5)) c.text.ensures
