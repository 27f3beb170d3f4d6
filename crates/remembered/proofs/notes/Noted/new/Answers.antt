use Rattle.std.proofs.Common.{◌≡◌, ℕ, Bool, suc, List, [], ◌∷◌, ◌++◌, vec_len, arith, ap, ◌∙◌}
use Rattle.remembered.proofs.Blank.{blanks, one_blank}
use Rattle.remembered.proofs.notes.Noted.new.Goals as goal

pub columns-preserved : goal.columns-preserved
columns-preserved c = record {
  blank =
      let e : suc (vec_len c.columns.columns) ≡ vec_len c.push.new.self = omega (arith, c.in_ok-push.ensures.len) in
      c.in_ok-push.ensures.items ∙ ap (λ (l : List (List (ℕ × Bool))). l ++ (c.new.result ∷ [])) c.columns.invariant.blank
      ∙ ap (λ (v : List (ℕ × Bool)). blanks (vec_len c.columns.columns) ++ (v ∷ [])) c.new.ensures ∙ one_blank (vec_len c.columns.columns) ∙ ap blanks e;
  few = omega (arith, c.columns-test.true, c.len.ensures, c.in_ok-push.ensures.len);
}

pub returns : goal.returns
returns c =
    let e : vec_len c.columns.columns ≡ c.args.many = omega (arith, c.columns-test.false, c.len.ensures, c.columns.invariant.few) in
    c.columns.invariant.blank ∙ ap blanks e
