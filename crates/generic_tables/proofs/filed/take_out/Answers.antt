use Rattle.std.proofs.Common.{◌∙◌, ◌&&◌, ◌==◌, not, ℕ, List, [], Option, Some, rules, ap}
use Rattle.std.specs.Prelude.{unwrap_or}
use Rattle.std.proofs.lemmas.Map.Text.{hash_map_updates_text}
use Rattle.page_tree.specs.Directions.{is_in}
use Rattle.indexmap.specs.IndexMap.{get_by_text}
use Rattle.generic_tables.proofs.Written.{written, and_true}
use Rattle.generic_tables.proofs.filed.take_out.Goals as goal

pub returns-in-Some-clause-taken : goal.returns-in-Some-clause-taken
returns-in-Some-clause-taken c =
    let w = c.take_out.new.self in
    written (λ b e. b && not e) and_true (get_by_text c.args.named.now) (get_by_text (c.get_mut.follows.lender w)) c.args.name.now c.args.n (Some w)
    (λ v. hash_map_updates_text c.args.name.now c.args.named.now (c.get_mut.follows.lender w) (Some w) ((c.get_mut.follows.holds w).3 (search rules)) v)
    (λ x. c.take_out.ensures x ∙ ap (λ (o : Option (List ℕ)). is_in (unwrap_or o []) x && not (x == c.args.n)) c.in-Some.ensures.value)
