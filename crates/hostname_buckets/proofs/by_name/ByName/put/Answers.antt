use Rattle.std.proofs.Common.{◌≡◌, ◌∙◌, List, ℕ, [], ◌∷◌, ◌++◌, ap, ap₂, sym, rules, string_bytes, cond}
use Rattle.std.proofs.lemmas.Map.Text.{hash_map_updates_text}
use Rattle.std.proofs.lemmas.Result.{on_ok_weaker}
use Rattle.std.specs.Prelude.{unwrap_or}
use Rattle.std.specs.Str.{bytes_eq}
use Rattle.indexmap.specs.IndexMap.{get_by_text}
use Rattle.hostname_buckets.proofs.Entering.{at_put}
use Rattle.hostname_buckets.proofs.by_name.ByName.put.Goals as goal

pub returns-in-Some : goal.returns-in-Some
returns-in-Some c =
    on_ok_weaker c.push.result
    (λ pushed other.
    let w = c.push.new.self in
    let old = c.args.self.now.by_name in
    let updated = hash_map_updates_text c.args.name.now old (c.get_mut.follows.lender w) _ ((c.get_mut.follows.holds w).3 (search rules)) other in
    ap (λ found. unwrap_or found []) updated
    ∙ at_put (get_by_text old) c.args.name.now other c.in-Some.numbers.now w c.args.number (ap (λ found. unwrap_or found []) (sym c.in-Some.ensures.value)) pushed)
    c.push.ensures.ok

pub returns-in_ok-insert-in-None : goal.returns-in_ok-insert-in-None
returns-in_ok-insert-in-None c = λ other.
    let old = c.get_mut.follows.lender-at-none in
    let kept : old ≡ c.args.self.now.by_name = c.get_mut.follows.holds-at-none in
    let key = string_bytes c.in_ok-key-in-None.key in
    let name : key ≡ c.args.name.now = c.in_ok-key-in-None.ensures.ok in
    let none = ap (λ found. unwrap_or found []) (ap₂ get_by_text kept name ∙ sym c.in-None.ensures.value) in
    let updated = hash_map_updates_text key old c.insert.new.self _ c.in_ok-insert-in-None.ensures.updates other in
    ap (λ found. unwrap_or found []) updated
    ∙ at_put (get_by_text old) key other [] _ c.args.number none
    (c.in_ok-push-in-None.ensures.ok ∙ ap (λ (l : List ℕ). l ++ c.args.number ∷ []) c.new-numbers.ensures)
    ∙ ap₂ (λ (n found : List ℕ). cond (bytes_eq n other) (found ++ c.args.number ∷ []) found) name (ap (λ m. unwrap_or (get_by_text m other) []) kept)
