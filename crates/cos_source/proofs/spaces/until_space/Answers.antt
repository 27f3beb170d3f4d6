use Rattle.std.proofs.Common.{rules, ◌≡◌, ◌<◌, length, get_or, subst, true, List, ℕ}
use Rattle.cos_source.specs.Spaces.{is_space}
use Rattle.cos_source.proofs.Fronts.{before_space}
use Rattle.cos_source.proofs.spaces.until_space.Goals as goal

pub split_at-requires : goal.split_at-requires
split_at-requires c =
    let n = c.length_until_space.result in
    before_space c.args.text.now n (search rules)
    (subst (λ (v : List ℕ). n < length v → is_space (get_or v n 0) ≡ true) c.as_bytes.ensures.value c.length_until_space.ensures.space)
