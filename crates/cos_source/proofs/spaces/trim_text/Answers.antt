use Rattle.std.proofs.Common.{◌≡◌, ◌∙◌, ◌+◌, ◌≤◌, ap, List, ℕ, length, drop, subst, sym}
use Rattle.cos_source.specs.Spaces.{trimmed, space_count, without_first_spaces}
use Rattle.cos_source.proofs.Trims.{front_boundary, back_boundary, trimmed_is, trimmed_within}
use Rattle.cos_source.proofs.spaces.trim_text.Goals as goal

pub split_at-requires : goal.split_at-requires
split_at-requires c =
    let same = c.as_bytes.ensures.value in
    let n = c.space_count.result in
    front_boundary c.args.text.now n c.utf8.text (subst (λ (v : List ℕ). n ≤ length v) same c.space_count.ensures.within)
    (subst (λ (v : List ℕ). drop n v ≡ without_first_spaces v) same c.space_count.ensures.behind)

pub split_at-requires-2 : goal.split_at-requires-2
split_at-requires-2 c =
    let behind = subst (λ (v : List ℕ). drop c.space_count.result v ≡ without_first_spaces v) c.as_bytes.ensures.value c.space_count.ensures.behind in
    back_boundary c.args.text.now c.split_at.result.1.now c.trim.result.now (c.split_at.ensures.back ∙ behind) (c.trim.ensures ∙ ap trimmed c.as_bytes-2.ensures.value)

pub returns-clause-text : goal.returns-clause-text
returns-clause-text c =
    let behind = subst (λ (v : List ℕ). drop c.space_count.result v ≡ without_first_spaces v) c.as_bytes.ensures.value c.space_count.ensures.behind in
    c.split_at-2.ensures.front
    ∙ trimmed_is c.args.text.now c.split_at.result.1.now c.trim.result.now (c.split_at.ensures.back ∙ behind) (c.trim.ensures ∙ ap trimmed c.as_bytes-2.ensures.value)

pub returns-clause-within : goal.returns-clause-within
returns-clause-within c =
    let behind = subst (λ (v : List ℕ). drop c.space_count.result v ≡ without_first_spaces v) c.as_bytes.ensures.value c.space_count.ensures.behind in
    let kept = c.split_at-2.ensures.front
    ∙ trimmed_is c.args.text.now c.split_at.result.1.now c.trim.result.now (c.split_at.ensures.back ∙ behind) (c.trim.ensures ∙ ap trimmed c.as_bytes-2.ensures.value) in
    subst (λ (v : List ℕ). space_count c.args.text.now + length v ≤ length c.args.text.now) (sym kept) (trimmed_within c.args.text.now)
