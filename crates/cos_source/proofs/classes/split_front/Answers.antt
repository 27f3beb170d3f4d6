use Rattle.std.proofs.Common.{rules, ℕ, ◌≡◌, ◌<◌, get_or, subst, true, List}
use Rattle.cos_source.specs.Classes.{is_in}
use Rattle.cos_source.proofs.Fronts.{behind_class}
use Rattle.cos_source.proofs.classes.split_front.Goals as goal

pub split_at-requires : goal.split_at-requires
split_at-requires c =
    let same = c.as_bytes.ensures.value in
    behind_class c.args.class c.args.text.now c.front_length.result c.utf8.text (search rules)
    (subst (λ (v : List ℕ). (k : ℕ) → k < c.front_length.result → is_in c.args.class (get_or v k 0) ≡ true) same c.front_length.ensures.passing)
