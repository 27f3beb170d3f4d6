use Rattle.std.proofs.Common.{◌≡◌, ◌<◌, length, rules, arith}
use Rattle.cos_patterns.proofs.NotesLaws.{set_at}
use Rattle.cos_patterns.proofs.notes.set_among.Goals as goal

pub returns : goal.returns
returns c = λ those.
    let eight : length c.args.notes.now ≡ 8 = search rules in
    let within : c.args.flags < length c.args.notes.now = omega arith in
    set_at c.args.notes.now c.args.flags those c.args.note within
