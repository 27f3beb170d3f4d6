use Rattle.std.proofs.Common.{◌≡◌, ◌++◌, ℕ, List, OnOk, codes, decimal, string_bytes, subst, append_assoc}
use Rattle.drill_files.proofs.push_block.Goals as goal

-- the parts of a block in a row, with its class
in_a_row : (a b c d n class : List ℕ) {other : List ℕ} (e : List ℕ) → class ≡ other →
    a ++ (n ++ (b ++ (class ++ (c ++ (n ++ (d ++ (n ++ e))))))) ≡ a ++ n ++ b ++ other ++ c ++ n ++ d ++ n ++ e
in_a_row a b c d n class e same = rw same (simp append_assoc)

pub returns : goal.returns
returns c =
    subst (λ (text : List ℕ). OnOk c.write.result (string_bytes c.write.new.self ≡ string_bytes c.args.page.now ++ text))
    (in_a_row (codes "<div class=\"row\" id=\"r") (codes "\"><a class=\"") (codes "\">t") (codes "</a><p>text ") (decimal c.args.i)
    c.class_of-class.result.now (codes "</p></div>") c.class_of-class.ensures) c.write.ensures.bytes
