use Rattle.std.proofs.Common.{◌∙◌, ℕ, List, None, sym, ap, refl}
use Rattle.std.proofs.lemmas.Map.Text.{hash_map_updates_text}
use Rattle.page_tree.specs.Directions.{is_in}
use Rattle.indexmap.specs.IndexMap.{get_by_text}
use Rattle.generic_tables.proofs.Written.{written}
use Rattle.generic_tables.proofs.filed.take_from.Goals as goal

pub returns-then-take_out : goal.returns-then-take_out
returns-then-take_out c = λ v x.
    written (λ b e. b) (λ b. refl) (get_by_text c.take_out.new.named) (get_by_text c.swap_remove.new.self) c.args.name.now c.args.n None
    (λ u. hash_map_updates_text c.args.name.now c.take_out.new.named c.swap_remove.new.self None c.swap_remove.ensures.updates u)
    (λ y. sym (ap (λ (ns : List ℕ). is_in ns y) c.if-take_out.ensures.last)) v x
    ∙ c.take_out.ensures.taken v x
