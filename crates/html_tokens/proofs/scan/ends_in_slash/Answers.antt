use Rattle.std.proofs.Common.{◌-◌, length, sym}
use Rattle.std.proofs.lemmas.Bool.{eqb-true}
use Rattle.html_tokens.proofs.Walks.{closes_empty, closes_last, some}
use Rattle.html_tokens.proofs.scan.ends_in_slash.Goals as goal

pub returns-then-is_empty : goal.returns-then-is_empty
returns-then-is_empty c = λ _. closes_empty c.args.bytes.now (eqb-true (length c.args.bytes.now) 0 (sym c.if-is_empty.ensures))

pub returns : goal.returns
returns c = λ e. closes_last 0 (length c.args.bytes.now - 1) c.args.bytes.now (some (length c.args.bytes.now) (sym c.if-is_empty.ensures)) e
