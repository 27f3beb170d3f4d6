-- The items of a text, read part by part.
use Rattle.std.proofs.Common.{◌≡◌, ◌∙◌, ◌++◌, ◌==◌, ◌+◌, ◌-◌, ◌≤◌, ◌≢◌, ℕ, suc, Bool, true, false, cond, List, [], ◌∷◌, Option, Some, None, option_map, length, take, drop, slice_index, codes, refl, ap, sym, subst, arith, length-append, eqb-true}
use Rattle.std.proofs.lemmas.List.{append-nil, take-append-drop}
use Rattle.std.proofs.lemmas.Slice.Eq.{bytes_eq-Decides}
use Rattle.std.proofs.lemmas.List.Splits.{join_with_byte-slice_split}
use Rattle.std.specs.List.{join_with_byte, slice_split}
use Rattle.std.specs.Str.{bytes_eq}
use Rattle.cos_source.specs.Parts.{parts, placed}
use Rattle.cos_source.specs.Spaces.{space_count, trimmed}
use Rattle.host_names.specs.Hosts.{host_of}
use Rattle.filter_scope.specs.declared.scope.Item.{Item}
use Rattle.filter_scope.specs.declared.scope.Scope.{Scope}
use Rattle.filter_scope.specs.declared.scope.ScopeRead.{ScopeRead}
use Rattle.filter_scope.specs.declared.scope.ScopeRead.TheVariants as read
use Rattle.filter_scope.specs.declared.scope.Target.TheVariants.{Host}
use Rattle.filter_scope.specs.Scopes.{by_item, ends_with_star, item, item_of, read_parts, scope_of, target_of, with_item}

-- ---- the items that were read, before what is read of the others

abbrev pub with_items : List Item → ScopeRead → ScopeRead
with_items items (read.Scope scope) = read.Scope (record { items = items ++ scope.items })
with_items items (read.BadHost at) = read.BadHost at

pub one_more : (items : List Item) (i : Item) (more : ScopeRead) → with_items (items ++ i ∷ []) more ≡ with_items items (with_item i more)
one_more items i (read.Scope scope) = ap (λ l. read.Scope (record { items = l })) (joined items)
  where
    joined : (l : List Item) → (l ++ i ∷ []) ++ scope.items ≡ l ++ i ∷ scope.items
    joined [] = refl
    joined (x ∷ l) = ap (λ r. x ∷ r) (joined l)
one_more items i (read.BadHost at) = refl

-- what is read of a part that is an item, and of one that isn't
pub item_next : (items after : List Item) (i : Item) (part : ℕ × List ℕ) (left more : List (ℕ × List ℕ)) (total : ScopeRead)
    → left ≡ part ∷ more → Some i ≡ item_of (trimmed part.1) → after ≡ items ++ i ∷ [] → with_items items (read_parts left) ≡ total → with_items after (read_parts more) ≡ total
item_next items after i part left more total e f a h =
    ap (λ (l : List Item). with_items l (read_parts more)) a ∙ one_more items i (read_parts more)
    ∙ ap (λ (o : Option Item). with_items items (by_item part o (read_parts more))) f
    ∙ ap (λ (l : List (ℕ × List ℕ)). with_items items (read_parts l)) (sym e) ∙ h

pub bad_next : (items : List Item) (part : ℕ × List ℕ) (left more : List (ℕ × List ℕ)) (total : ScopeRead)
    → left ≡ part ∷ more → None ≡ item_of (trimmed part.1) → with_items items (read_parts left) ≡ total → read.BadHost (part.0 + space_count part.1) ≡ total
bad_next items part left more total e f h =
    ap (λ (o : Option Item). with_items items (by_item part o (read_parts more))) f
    ∙ ap (λ (l : List (ℕ × List ℕ)). with_items items (read_parts l)) (sym e) ∙ h

pub all_read : (items : List Item) (left : List (ℕ × List ℕ)) (total : ScopeRead) → left ≡ [] → with_items items (read_parts left) ≡ total → read.Scope (record { items = items }) ≡ total
all_read items left total e h =
    ap (λ l. read.Scope (record { items = l })) (sym (append-nil items)) ∙ ap (λ (l : List (ℕ × List ℕ)). with_items items (read_parts l)) (sym e) ∙ h

-- ---- the places of parts

-- each part ends by this place
abbrev pub EndBy : ℕ → List (ℕ × List ℕ) → Type 0
EndBy n [] = Unit {0}
EndBy n (part ∷ more) = (part.0 + length part.1 ≤ n) × EndBy n more

placed_end : (n at separator : ℕ) (texts : List (List ℕ)) → at + length (join_with_byte separator texts) ≤ n → EndBy n (placed at texts)
placed_end n at separator [] h = tt
placed_end n at separator (text ∷ []) h = (h, tt)
placed_end n at separator (text ∷ next ∷ texts) h =
    let whole = length-append text (separator ∷ join_with_byte separator (next ∷ texts)) in
    (omega (arith, h, whole), placed_end n (at + (length text + 1)) separator (next ∷ texts) (omega (arith, h, whole)))

pub parts_end : (separator : ℕ) (text : List ℕ) → EndBy (length text) (placed 0 (parts separator text))
parts_end separator text =
    placed_end (length text) 0 separator (parts separator text) (omega (arith, ap length (join_with_byte-slice_split separator text)))

pub first_ends : (n : ℕ) (part : ℕ × List ℕ) (left more : List (ℕ × List ℕ)) → left ≡ part ∷ more → EndBy n left → part.0 + length part.1 ≤ n
first_ends n part left more e h = let both : EndBy n (part ∷ more) = subst (EndBy n) e h in both.0

pub others_end : (n : ℕ) (part : ℕ × List ℕ) (left more : List (ℕ × List ℕ)) → left ≡ part ∷ more → EndBy n left → EndBy n more
others_end n part left more e h = let both : EndBy n (part ∷ more) = subst (EndBy n) e h in both.1

-- ---- an item of a text

-- a text of some bytes
pub some_text : (separator : ℕ) (text : List ℕ) → (length text == 0) ≡ false → scope_of separator text ≡ read_parts (placed 0 (parts separator text))
some_text separator [] e = let no : true ≡ false = e in cc
some_text separator (b ∷ text) e = refl

pub no_text : (separator : ℕ) (text : List ℕ) → (length text == 0) ≡ true → read.Scope (record { items = [] }) ≡ scope_of separator text
no_text separator [] e = refl
no_text separator (b ∷ text) e = absurd (omega (arith, eqb-true (length (b ∷ text)) 0 e))

-- behind `~`, and without it; the text isn't `*`
pub negated_item : (text name : List ℕ) → text ≡ 126 ∷ name → option_map (item true) (target_of name) ≡ item_of text
negated_item text name e = ap (λ (l : List ℕ). item_of l) (sym e)

pub plain_item : (text : List ℕ) → bytes_eq text (codes "*") ≡ false → ((name : List ℕ) → text ≢ 126 ∷ name) → option_map (item false) (target_of text) ≡ item_of text
plain_item [] star none = refl
plain_item (b ∷ text) star none = go (b == 126) refl
  where
    go : (t : Bool) → (b == 126) ≡ t → option_map (item false) (target_of (b ∷ text)) ≡ item_of (b ∷ text)
    go true e = absurd (none text (ap (λ c. c ∷ text) (eqb-true b 126 e)))
    go false e = rw (star, e) refl

-- before `.*`, and without it
pub entity_text : (text name : List ℕ) → text ≡ name ++ codes ".*" → (ends_with_star text ≡ true) × (take (length text - 2) text ≡ name)
entity_text text name e =
    subst (λ (l : List ℕ). (ends_with_star l ≡ true) × (take (length l - 2) l ≡ name)) (sym e) (star, front)
  where
    len : length (name ++ codes ".*") - 2 ≡ length name
    len = omega (arith, length-append name (codes ".*"))

    star : ends_with_star (name ++ codes ".*") ≡ true
    star = rw (len, drop_front name) refl
      where
        drop_front : (l : List ℕ) → drop (length l) (l ++ codes ".*") ≡ codes ".*"
        drop_front [] = refl
        drop_front (x ∷ l) = drop_front l

    front : take (length (name ++ codes ".*") - 2) (name ++ codes ".*") ≡ name
    front = rw len (take_front name)
      where
        take_front : (l : List ℕ) → take (length l) (l ++ codes ".*") ≡ l
        take_front [] = refl
        take_front (x ∷ l) = ap (λ r. x ∷ r) (take_front l)

pub no_entity : (text : List ℕ) → ((front : List ℕ) → text ≢ front ++ codes ".*") → ends_with_star text ≡ false
no_entity text none = go (ends_with_star text) refl
  where
    go : (t : Bool) → ends_with_star text ≡ t → t ≡ false
    go false e = refl
    go true e =
        absurd (none (take (length text - 2) text) (sym (take-append-drop (length text - 2) text)
        ∙ ap (λ (l : List ℕ). take (length text - 2) text ++ l) ((bytes_eq-Decides (drop (length text - 2) text) (codes ".*")).0 e)))

-- a text without `.*` at its end names a host
pub host_text : (text : List ℕ) → ((front : List ℕ) → text ≢ front ++ codes ".*") → option_map Host (host_of text) ≡ target_of text
host_text text none = rw (no_entity text none) refl

pub none_before : (more : ScopeRead) → with_items [] more ≡ more
none_before (read.Scope scope) = refl
none_before (read.BadHost at) = refl
