use Rattle.std.proofs.Common.{◌≡◌, ℕ, List, ap, sym, subst, ◌∙◌, not, ◌==◌, ◌&&◌, filter, rules}
use Rattle.std.proofs.lemmas.Fn.{filter_same}
use Rattle.page_tree.specs.Directions.{is_in}
use Rattle.page_tree.proofs.Members.{is_in-filter}
use Rattle.kept_marks.specs.Rising.{IsRising}
use Rattle.kept_marks.proofs.Rising.{filtered}
use Rattle.kept_marks.proofs.rows.Row.take_out.Goals as goal

pub invariant_of-self : goal.invariant_of-self
invariant_of-self c =
    let e : c.retain.new.self.items ≡ filter (λ (x : ℕ). not (x == c.args.f)) c.self.inside.filters.items =
    filter_same _ _ _ (λ x b f' k. search rules) _ _ c.retain.ensures.filtered in
    subst IsRising (sym e) (filtered (λ x. not (x == c.args.f)) c.self.inside.filters.items c.self.invariant)

pub returns : goal.returns
returns c = λ g.
    let e : c.retain.new.self.items ≡ filter (λ (x : ℕ). not (x == c.args.f)) c.self.inside.filters.items =
    filter_same _ _ _ (λ x b f' k. search rules) _ _ c.retain.ensures.filtered in
    ap (λ (xs : List ℕ). is_in xs g) e ∙ is_in-filter (λ x. not (x == c.args.f)) c.self.inside.filters.items g ∙ ap (λ (xs : List ℕ). is_in xs g && not (g == c.args.f)) c.self.view_is
