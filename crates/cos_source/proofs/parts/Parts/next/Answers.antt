use Rattle.std.proofs.Common.{◌≡◌, ◌∙◌, ◌+◌, ◌∷◌, sym, ap, ap₂, arith, rules, length, Option, Some, List, ℕ}
use Rattle.std.specs.Prelude.{option_copied}
use Rattle.cos_source.specs.Parts.{parts_left}
use Rattle.cos_source.proofs.Cuts.{placed-first, length-cut, length-before, behind_utf8}
use Rattle.cos_source.proofs.parts.Parts.next.Goals as goal

pub overflow_add-self-2 : goal.overflow_add-self-2
overflow_add-self-2 c =
    let left : option_copied c.self.inside.rest ≡ Some c.in_ok-text.text.now = search rules in
    let kept = c.self.invariant.1 c.in_ok-text.text.now left in
    let part = ap length c.split_once.ensures.before in
    omega (arith, part, kept.1, length-before c.self.inside.separator c.in_ok-text.text.now)

pub invariant_of-self : goal.invariant_of-self
invariant_of-self c =
    let separator = c.self.inside.separator in
    let text = c.in_ok-text.text.now in
    let left : option_copied c.self.inside.rest ≡ Some text = search rules in
    let kept = c.self.invariant.1 text left in
    let part = ap length c.split_once.ensures.before in (
      c.self.invariant.0,
      λ rest is.
          let found = sym c.split_once.ensures.behind ∙ is in
          (behind_utf8 separator text rest found c.self.invariant.0 kept.0, omega (arith, part, kept.1, length-cut separator text rest found)),
    )

pub returns : goal.returns
returns c =
    let separator = c.self.inside.separator in
    let place = c.self.inside.place in
    let text = c.in_ok-text.text.now in
    let left : option_copied c.self.inside.rest ≡ Some text = search rules in
    sym c.self.view_is
    ∙ ap (parts_left separator place) left
    ∙ placed-first separator place text
    ∙ ap₂ (λ (part : List ℕ) (rest : Option (List ℕ)). (place, part) ∷ parts_left separator (place + (length part + 1)) rest)
    (sym c.split_once.ensures.before) (sym c.split_once.ensures.behind)
