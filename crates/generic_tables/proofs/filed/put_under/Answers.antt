use Rattle.std.proofs.Common.{◌≡◌, ◌∙◌, ◌||◌, ◌==◌, ℕ, List, [], Option, Some, ◌&&◌, rules, sym, ap, refl, subst}
use Rattle.std.specs.Prelude.{unwrap_or, string_bytes}
use Rattle.std.proofs.lemmas.Map.Text.{hash_map_updates_text}
use Rattle.page_tree.specs.Directions.{is_in}
use Rattle.std.specs.Str.{bytes_eq}
use Rattle.std.specs.Map.{update}
use Rattle.indexmap.specs.IndexMap.{get_by_text}
use Rattle.generic_tables.specs.Filed.{numbers_at}
use Rattle.generic_tables.proofs.Written.{written, on_ok, on_err, or_false}
use Rattle.generic_tables.proofs.filed.put_under.Goals as goal

pub returns-in-Some-clause-ok : goal.returns-in-Some-clause-ok
returns-in-Some-clause-ok c =
    let w = c.put_in.new.self in
    on_ok c.put_in.result
    (λ (h : (x : ℕ) → is_in w x ≡ (is_in c.in-Some.numbers.now x || (x == c.args.n))).
    written (λ b e. b || e) or_false (get_by_text c.args.named.now) (get_by_text (c.get_mut.follows.lender w)) c.args.name.now c.args.n (Some w)
    (λ v. hash_map_updates_text c.args.name.now c.args.named.now (c.get_mut.follows.lender w) (Some w) ((c.get_mut.follows.holds w).3 (search rules)) v)
    (λ x. h x ∙ ap (λ (o : Option (List ℕ)). is_in (unwrap_or o []) x || (x == c.args.n)) c.in-Some.ensures.value))
    c.put_in.ensures.ok

pub returns-in-Some-clause-err : goal.returns-in-Some-clause-err
returns-in-Some-clause-err c =
    let w = c.put_in.new.self in
    on_err c.put_in.result
    (λ (h : w ≡ c.in-Some.numbers.now).
    written (λ b e. b) (λ b. refl) (get_by_text c.args.named.now) (get_by_text (c.get_mut.follows.lender w)) c.args.name.now c.args.n (Some w)
    (λ v. hash_map_updates_text c.args.name.now c.args.named.now (c.get_mut.follows.lender w) (Some w) ((c.get_mut.follows.holds w).3 (search rules)) v)
    (λ x. ap (λ (xs : List ℕ). is_in xs x) h ∙ ap (λ (o : Option (List ℕ)). is_in (unwrap_or o []) x) c.in-Some.ensures.value))
    c.put_in.ensures.err

pub returns-in_ok-insert-in-None-clause-ok : goal.returns-in_ok-insert-in-None-clause-ok
returns-in_ok-insert-in-None-clause-ok c = λ v x.
    let key = c.in_ok-from_str-in-None.field-0 in
    let w = c.put_in-in-None.new.self in
    let bytes : string_bytes key ≡ c.args.name.now = c.in_ok-from_str-in-None.ensures.ok in
    subst
    (λ (name : List ℕ). is_in (numbers_at c.insert.new.self v) x ≡ (is_in (numbers_at c.args.named.now v) x || (bytes_eq v name && (x == c.args.n))))
    bytes
    (written (λ b e. b || e) or_false (get_by_text c.args.named.now) (get_by_text c.insert.new.self) (string_bytes key) c.args.n (Some w)
    (λ u.
    hash_map_updates_text (string_bytes key) c.get_mut.follows.lender-at-none c.insert.new.self (Some w) c.in_ok-insert-in-None.ensures.updates u
    ∙ ap (λ m. update bytes_eq (get_by_text m) (string_bytes key) (Some w) u) c.get_mut.follows.holds-at-none)
    (λ y.
    c.in_ok-put_in-in-None.ensures.ok y
    ∙ ap (λ (ns : List ℕ). is_in ns y || (y == c.args.n)) c.new-numbers.ensures
    ∙ ap (λ (o : Option (List ℕ)). is_in (unwrap_or o []) y || (y == c.args.n)) (c.in-None.ensures.value ∙ ap (get_by_text c.args.named.now) (sym bytes)))
    v x)
