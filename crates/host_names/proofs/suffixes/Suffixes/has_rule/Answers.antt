use Rattle.std.proofs.Common.{◌∙◌, Bool, List, ℕ, Option, Some, None, ap, ap₂, sym}
use Rattle.std.specs.Borrow.{Bor}
use Rattle.std.specs.List.{list_any}
use Rattle.std.specs.Option.{option_copied}
use Rattle.host_names.specs.declared.suffixes.RuleKinds.{RuleKinds}
use Rattle.host_names.specs.Held.{is_whole}
use Rattle.host_names.specs.Hosts.{labels_of}
use Rattle.host_names.specs.Suffixes.{Rule}
use Rattle.host_names.proofs.Holding.{holds_exception, holds_plain, holds_star}
use Rattle.host_names.proofs.suffixes.Suffixes.has_rule.Goals as goal

pub returns-then-exceptions : goal.returns-then-exceptions
returns-then-exceptions c =
    ap (λ (k : RuleKinds). k.exception) c.kinds_at-kinds.ensures
    ∙ sym (holds_exception c.args.end.now c.self.inside.by_name.entries c.self.invariant)
    ∙ ap₂ (λ (e : Bool) (rules : List Rule). list_any (is_whole e (labels_of c.args.end.now)) rules) (sym c.if-exceptions.true) c.self.view_is

pub returns-then-kinds : goal.returns-then-kinds
returns-then-kinds c =
    sym (holds_plain c.args.end.now c.self.inside.by_name.entries c.self.invariant (sym (ap (λ (k : RuleKinds). k.plain) c.kinds_at-kinds.ensures) ∙ c.if-kinds.true))
    ∙ ap₂ (λ (e : Bool) (rules : List Rule). list_any (is_whole e (labels_of c.args.end.now)) rules) (sym c.if-exceptions.false) c.self.view_is

pub returns-in-Some : goal.returns-in-Some
returns-in-Some c =
    ap (λ (k : RuleKinds). k.star) c.kinds_at.ensures
    ∙ sym (holds_star c.args.end.now c.self.inside.by_name.entries c.self.invariant (Some c.in-Some.behind.now)
    (sym c.split_once.ensures.behind ∙ ap (λ (o : Option (Bor (List ℕ))). option_copied o) c.in-Some.is)
    (sym (ap (λ (k : RuleKinds). k.plain) c.kinds_at-kinds.ensures) ∙ c.if-kinds.false))
    ∙ ap₂ (λ (e : Bool) (rules : List Rule). list_any (is_whole e (labels_of c.args.end.now)) rules) (sym c.if-exceptions.false) c.self.view_is

pub returns-in-None : goal.returns-in-None
returns-in-None c =
    sym (holds_star c.args.end.now c.self.inside.by_name.entries c.self.invariant None
    (sym c.split_once.ensures.behind ∙ ap (λ (o : Option (Bor (List ℕ))). option_copied o) c.in-None.is)
    (sym (ap (λ (k : RuleKinds). k.plain) c.kinds_at-kinds.ensures) ∙ c.if-kinds.false))
    ∙ ap₂ (λ (e : Bool) (rules : List Rule). list_any (is_whole e (labels_of c.args.end.now)) rules) (sym c.if-exceptions.false) c.self.view_is
