-- What a map by names holds: the rules that a name has, and one more rule.
use Rattle.std.proofs.Common.{◌≡◌, ◌∙◌, ◌++◌, ◌==◌, ◌&&◌, ◌||◌, ◌+◌, ◌<◌, ◌⊎◌, inl, inr, ℕ, suc, Bool, true, false, cond, List, [], ◌∷◌, Option, Some, None, String, string_bytes, length, length-append, refl, ap, sym, subst, arith, max, true≢false}
use Rattle.std.proofs.lemmas.Bool.Decides.{nat_tests}
use Rattle.std.proofs.lemmas.List.Folds.{list_any-append}
use Rattle.std.proofs.lemmas.Map.Keys.{IsDistinct-head, IsDistinct-tail}
use Rattle.std.proofs.lemmas.Slice.Eq.{bytes_eq-Decides}
use Rattle.std.specs.List.{AllByRecursion, IsDistinct, list_any}
use Rattle.std.specs.Map.{keys_of, lookup}
use Rattle.std.specs.Str.{bytes_eq}
use Rattle.std.specs.String.{string_eq}
use Rattle.indexmap.specs.IndexMap.{insert_entry}
use Rattle.cos_source.specs.Parts.{before, behind}
use Rattle.host_names.specs.declared.line.RuleSort.{RuleSort}
use Rattle.host_names.specs.declared.line.RuleSort.TheVariants.{Plain, Star, Exception}
use Rattle.host_names.specs.declared.suffixes.RuleKinds.{RuleKinds}
use Rattle.host_names.specs.Hosts.{end_with, labels_of}
use Rattle.host_names.specs.Left.{labels_left}
use Rattle.host_names.specs.Suffixes.{Rule, is_exception, longest, rule_length}
use Rattle.host_names.specs.SuffixLines.{exception_of, named_rule, star_rule}
use Rattle.host_names.specs.Held.{is_whole, kinds_or_none, no_kinds, only_if, rule_by, rules_at, rules_in, with_kind}
use Rattle.host_names.proofs.Labels.{labels_at_first, labels_cut, some_labels}
use Rattle.host_names.proofs.Tops.{end_shorter, longest_top, top, top_append, weight}
use Rattle.host_names.proofs.Under.{ends_behind, under_is}

-- ---- one more rule

kinds_with : (f : Rule → ℕ) (sort : RuleSort) (name : List ℕ) (kinds : RuleKinds)
    → top f (rules_at name (with_kind sort kinds)) ≡ max (f (rule_by sort name)) (top f (rules_at name kinds))
kinds_with f sort name kinds = go sort kinds.plain kinds.star kinds.exception
  where
    go : (s : RuleSort) (a b c : Bool)
        → top f (rules_at name (with_kind s (record { plain = a; star = b; exception = c }))) ≡ max (f (rule_by s name)) (top f (rules_at name (record { plain = a; star = b; exception = c })))
    go Plain true true true = omega arith
    go Plain true true false = omega arith
    go Plain true false true = omega arith
    go Plain true false false = omega arith
    go Plain false true true = omega arith
    go Plain false true false = omega arith
    go Plain false false true = omega arith
    go Plain false false false = omega arith
    go Star true true true = omega arith
    go Star true true false = omega arith
    go Star true false true = omega arith
    go Star true false false = omega arith
    go Star false true true = omega arith
    go Star false true false = omega arith
    go Star false false true = omega arith
    go Star false false false = omega arith
    go Exception true true true = omega arith
    go Exception true true false = omega arith
    go Exception true false true = omega arith
    go Exception true false false = omega arith
    go Exception false true true = omega arith
    go Exception false true false = omega arith
    go Exception false false true = omega arith
    go Exception false false false = omega arith

module _ {A : Type 0} where
  top_put : (f : Rule → ℕ) (sort : RuleSort) (key : String A) (es : List (String A × RuleKinds))
      → top f (rules_in (insert_entry string_eq es key (with_kind sort (kinds_or_none (lookup (λ k. bytes_eq (string_bytes key) (string_bytes k)) es)))))
      ≡ max (f (rule_by sort (string_bytes key))) (top f (rules_in es))
  top_put f sort key [] = top_append f (rules_at (string_bytes key) (with_kind sort no_kinds)) [] ∙ omega (arith, kinds_with f sort (string_bytes key) no_kinds)
  top_put f sort key (e ∷ es) = go (bytes_eq (string_bytes key) (string_bytes e.0)) refl (top_put f sort key es)
    where
      go : (t : Bool) → bytes_eq (string_bytes key) (string_bytes e.0) ≡ t
          → top f (rules_in (insert_entry string_eq es key (with_kind sort (kinds_or_none (lookup (λ k. bytes_eq (string_bytes key) (string_bytes k)) es))))) ≡ max (f (rule_by sort (string_bytes key))) (top f (rules_in es))
          → top f (rules_in (cond t ((e.0, with_kind sort (kinds_or_none (cond t (Some e.1) (lookup (λ k. bytes_eq (string_bytes key) (string_bytes k)) es)))) ∷ es)
          (e ∷ insert_entry string_eq es key (with_kind sort (kinds_or_none (cond t (Some e.1) (lookup (λ k. bytes_eq (string_bytes key) (string_bytes k)) es)))))))
          ≡ max (f (rule_by sort (string_bytes key))) (top f (rules_at (string_bytes e.0) e.1 ++ rules_in es))
      go true same more =
          let names : string_bytes key ≡ string_bytes e.0 = (bytes_eq-Decides (string_bytes key) (string_bytes e.0)).0 same in
          rw names (omega (arith, top_append f (rules_at (string_bytes e.0) (with_kind sort e.1)) (rules_in es), top_append f (rules_at (string_bytes e.0) e.1) (rules_in es), kinds_with f sort (string_bytes e.0) e.1))
      go false other more =
          omega (
            arith,
            more,
            top_append f (rules_at (string_bytes e.0) e.1) (rules_in es),
            top_append f (rules_at (string_bytes e.0) e.1) (rules_in (insert_entry string_eq es key (with_kind sort (kinds_or_none (lookup (λ k. bytes_eq (string_bytes key) (string_bytes k)) es))))),
          )

  -- after the rule of a name is put in, the longest one that matches is that of the rules with it
  pub longest_put : (sort : RuleSort) (key : String A) (es : List (String A × RuleKinds)) (exceptions : Bool) (labels : List (List ℕ))
      → longest exceptions (rules_in (insert_entry string_eq es key (with_kind sort (kinds_or_none (lookup (λ k. bytes_eq (string_bytes key) (string_bytes k)) es))))) labels
      ≡ longest exceptions (rule_by sort (string_bytes key) ∷ rules_in es) labels
  longest_put sort key es exceptions labels =
      longest_top exceptions _ labels ∙ top_put (weight exceptions labels) sort key es ∙ sym (longest_top exceptions (rule_by sort (string_bytes key) ∷ rules_in es) labels)

-- ---- the rules that a name has

and_parts : (a b : Bool) → (a && b) ≡ true → (a ≡ true) × (b ≡ true)
and_parts true true e = (refl, refl)
and_parts true false e = (refl, e)
and_parts false b e = absurd (true≢false (sym e))

or_false : (b : Bool) → (b || false) ≡ b
or_false true = refl
or_false false = refl

or_both : (a b c d : Bool) → a ≡ c → b ≡ d → (a || (b || false)) ≡ (c || d)
or_both a b c d e f = ap (λ x. x || (b || false)) e ∙ ap (λ x. c || x) (or_false b ∙ f)

or_mixed : (a b c d : Bool) → ((a || b) || (c || d)) ≡ ((a || c) || (b || d))
or_mixed true b c d = refl
or_mixed false true true d = refl
or_mixed false true false d = refl
or_mixed false false c d = refl

all_same : (labels : List (List ℕ)) → (length labels == length labels && end_with labels labels) ≡ true
all_same labels =
    let same : (length labels == length labels) ≡ true = grind (arith, nat_tests) in
    rw same (ends_behind [] labels)

some_length : (name : List ℕ) → 0 < length (labels_of name)
some_length name = go (labels_of name) (some_labels name)
  where
    go : (labels : List (List ℕ)) → (labels ≡ [] → ⊥) → 0 < length labels
    go [] some = absurd (some refl)
    go (label ∷ labels) some = omega arith

-- the same labels are those of the same name
same_labels : (key name : List ℕ) → (length (labels_of key) == length (labels_of name) && end_with (labels_of name) (labels_of key)) ≡ bytes_eq name key
same_labels key name = go (bytes_eq name key) refl (length (labels_of key) == length (labels_of name) && end_with (labels_of name) (labels_of key)) refl
  where
    by_under : (length (labels_of key) ≡ length (labels_of name)) → (name ≡ key) ⊎ ((front : List ℕ) × (name ≡ front ++ 46 ∷ key)) → name ≡ key
    by_under e (inl same) = same
    by_under e (inr (front, cut)) =
        absurd (omega (arith, e, ap length (ap labels_of cut ∙ labels_cut front key), length-append (labels_of front) (labels_of key), some_length front))

    go : (t : Bool) → bytes_eq name key ≡ t → (u : Bool) → (length (labels_of key) == length (labels_of name) && end_with (labels_of name) (labels_of key)) ≡ u → u ≡ t
    go true e true f = refl
    go false e false f = refl
    go true e false f =
        let same : name ≡ key = (bytes_eq-Decides name key).0 e in
        sym f ∙ ap (λ n. length (labels_of key) == length (labels_of n) && end_with (labels_of n) (labels_of key)) same ∙ all_same (labels_of key)
    go false e true f =
        let parts = and_parts (length (labels_of key) == length (labels_of name)) (end_with (labels_of name) (labels_of key)) f in
        let lengths : length (labels_of key) ≡ length (labels_of name) = grind (arith, nat_tests, parts.0) in
        sym ((bytes_eq-Decides name key).1 (by_under lengths (under_is key name parts.1))) ∙ e

-- that name stands behind the first dot
abbrev pub is_behind : Option (List ℕ) → List ℕ → Bool
is_behind None key = false
is_behind (Some name) key = bytes_eq name key

-- one label and the same labels are those of the name behind the first dot
star_labels : (key name : List ℕ) → (length (labels_of key) + 1 == length (labels_of name) && end_with (labels_of name) (labels_of key)) ≡ is_behind (behind 46 name) key
star_labels key name = ap (λ labels. length (labels_of key) + 1 == length labels && end_with labels (labels_of key)) (labels_at_first name) ∙ go (before 46 name) (behind 46 name)
  where
    go : (label : List ℕ) (o : Option (List ℕ)) → (length (labels_of key) + 1 == length (label ∷ labels_left o) && end_with (label ∷ labels_left o) (labels_of key)) ≡ is_behind o key
    go label None =
        let none : (length (labels_of key) + 1 == length (label ∷ [])) ≡ false = grind (arith, nat_tests, some_length key) in
        rw none refl
    go label (Some m) = by_case (length (labels_of key) == length (labels_of m)) refl
      where
        by_case : (t : Bool) → (length (labels_of key) == length (labels_of m)) ≡ t
            → (length (labels_of key) + 1 == length (label ∷ labels_of m) && end_with (label ∷ labels_of m) (labels_of key)) ≡ bytes_eq m key
        by_case true e =
            let lengths : length (labels_of key) ≡ length (labels_of m) = grind (arith, nat_tests, e) in
            let one : (length (labels_of key) + 1 == length (label ∷ labels_of m)) ≡ true = grind (arith, nat_tests, lengths) in
            let shorter = end_shorter label (labels_of m) (labels_of key) (omega arith) in
            rw (one, shorter) (ap (λ t. t && end_with (labels_of m) (labels_of key)) (sym e) ∙ same_labels key m)
        by_case false e =
            let none : (length (labels_of key) + 1 == length (label ∷ labels_of m)) ≡ false = grind (arith, nat_tests, e) in
            rw none (ap (λ t. t && end_with (labels_of m) (labels_of key)) (sym e) ∙ same_labels key m)

exception_at : (name key : List ℕ) (kinds : RuleKinds) → list_any (is_whole true (labels_of name)) (rules_at key kinds) ≡ (kinds.exception && bytes_eq name key)
exception_at name key kinds = go kinds.plain kinds.star kinds.exception
  where
    go : (a b c : Bool) → list_any (is_whole true (labels_of name)) (rules_at key (record { plain = a; star = b; exception = c })) ≡ (c && bytes_eq name key)
    go true true true = or_false _ ∙ same_labels key name
    go true false true = or_false _ ∙ same_labels key name
    go false true true = or_false _ ∙ same_labels key name
    go false false true = or_false _ ∙ same_labels key name
    go true true false = refl
    go true false false = refl
    go false true false = refl
    go false false false = refl

other_at : (name key : List ℕ) (kinds : RuleKinds)
    → list_any (is_whole false (labels_of name)) (rules_at key kinds) ≡ ((kinds.plain && bytes_eq name key) || (kinds.star && is_behind (behind 46 name) key))
other_at name key kinds = go kinds.plain kinds.star kinds.exception
  where
    go : (a b c : Bool) → list_any (is_whole false (labels_of name)) (rules_at key (record { plain = a; star = b; exception = c })) ≡ ((a && bytes_eq name key) || (b && is_behind (behind 46 name) key))
    go true true true = or_both _ _ _ _ (same_labels key name) (star_labels key name)
    go true true false = or_both _ _ _ _ (same_labels key name) (star_labels key name)
    go true false true = ap (λ t. t || false) (same_labels key name)
    go true false false = ap (λ t. t || false) (same_labels key name)
    go false true true = or_false _ ∙ star_labels key name
    go false true false = or_false _ ∙ star_labels key name
    go false false true = refl
    go false false false = refl

module _ {A : Type 0} where
  -- no later key has the name
  none_later : (g : RuleKinds → Bool) (name : List ℕ) (key : String A) (es : List (String A × RuleKinds)) → name ≡ string_bytes key
      → AllByRecursion (λ k. string_eq key k ≡ false) (keys_of es) → list_any (λ e. g e.1 && bytes_eq name (string_bytes e.0)) es ≡ false
  none_later g name key [] same apart = refl
  none_later g name key (e ∷ es) same apart =
      let other : bytes_eq name (string_bytes e.0) ≡ false = ap (λ n. bytes_eq n (string_bytes e.0)) same ∙ apart.0 in
      rw (other, none_later g name key es same apart.1) (go (g e.1))
    where
      go : (t : Bool) → ((t && false) || false) ≡ false
      go true = refl
      go false = refl

  -- where no two keys are equal, what some entry of the name has is what its look-up gives
  by_lookup : (g : RuleKinds → Bool) → g no_kinds ≡ false → (name : List ℕ) (es : List (String A × RuleKinds)) → IsDistinct string_eq (keys_of es)
      → list_any (λ e. g e.1 && bytes_eq name (string_bytes e.0)) es ≡ g (kinds_or_none (lookup (λ k. bytes_eq name (string_bytes k)) es))
  by_lookup g none name [] unique = sym none
  by_lookup g none name (e ∷ es) unique = go (bytes_eq name (string_bytes e.0)) refl (by_lookup g none name es (IsDistinct-tail string_eq e.0 (keys_of es) unique))
    where
      go : (t : Bool) → bytes_eq name (string_bytes e.0) ≡ t
          → list_any (λ x. g x.1 && bytes_eq name (string_bytes x.0)) es ≡ g (kinds_or_none (lookup (λ k. bytes_eq name (string_bytes k)) es))
          → ((g e.1 && t) || list_any (λ x. g x.1 && bytes_eq name (string_bytes x.0)) es) ≡ g (kinds_or_none (cond t (Some e.1) (lookup (λ k. bytes_eq name (string_bytes k)) es)))
      go true same more =
          let names : name ≡ string_bytes e.0 = (bytes_eq-Decides name (string_bytes e.0)).0 same in
          rw (none_later g name e.0 es names (IsDistinct-head string_eq e.0 (keys_of es) unique)) (last_true (g e.1))
        where
          last_true : (b : Bool) → ((b && true) || false) ≡ b
          last_true true = refl
          last_true false = refl
      go false other more = none_true (g e.1) ∙ more
        where
          none_true : (b : Bool) → ((b && false) || list_any (λ x. g x.1 && bytes_eq name (string_bytes x.0)) es) ≡ list_any (λ x. g x.1 && bytes_eq name (string_bytes x.0)) es
          none_true true = refl
          none_true false = refl

  any_in : (exceptions : Bool) (name : List ℕ) (p : String A × RuleKinds → Bool)
      → ((e : String A × RuleKinds) → list_any (is_whole exceptions (labels_of name)) (rules_at (string_bytes e.0) e.1) ≡ p e)
      → (es : List (String A × RuleKinds)) → list_any (is_whole exceptions (labels_of name)) (rules_in es) ≡ list_any p es
  any_in exceptions name p at [] = refl
  any_in exceptions name p at (e ∷ es) =
      list_any-append (is_whole exceptions (labels_of name)) (rules_at (string_bytes e.0) e.1) (rules_in es)
      ∙ ap (λ t. t || list_any (is_whole exceptions (labels_of name)) (rules_in es)) (at e) ∙ ap (λ t. p e || t) (any_in exceptions name p at es)

  any_or : (p q : String A × RuleKinds → Bool) (es : List (String A × RuleKinds)) → list_any (λ e. p e || q e) es ≡ (list_any p es || list_any q es)
  any_or p q [] = refl
  any_or p q (e ∷ es) = ap (λ t. (p e || q e) || t) (any_or p q es) ∙ or_mixed (p e) (q e) (list_any p es) (list_any q es)

  none_behind : (es : List (String A × RuleKinds)) → list_any (λ e. e.1.star && false) es ≡ false
  none_behind [] = refl
  none_behind (e ∷ es) = go e.1.star (none_behind es)
    where
      go : (t : Bool) → list_any (λ x. x.1.star && false) es ≡ false → ((t && false) || list_any (λ x. x.1.star && false) es) ≡ false
      go true more = more
      go false more = more

  -- the exception of a name is among the rules where its look-up says so
  pub holds_exception : (name : List ℕ) (es : List (String A × RuleKinds)) → IsDistinct string_eq (keys_of es)
      → list_any (is_whole true (labels_of name)) (rules_in es) ≡ (kinds_or_none (lookup (λ k. bytes_eq name (string_bytes k)) es)).exception
  holds_exception name es unique =
      any_in true name (λ e. e.1.exception && bytes_eq name (string_bytes e.0)) (λ e. exception_at name (string_bytes e.0) e.1) es
      ∙ by_lookup (λ kinds. kinds.exception) refl name es unique

  -- what the look-up of the name behind the first dot says of `*`
  abbrev pub star_behind : List (String A × RuleKinds) → Option (List ℕ) → Bool
  star_behind es None = false
  star_behind es (Some name) = (kinds_or_none (lookup (λ k. bytes_eq name (string_bytes k)) es)).star

  stars : (o : Option (List ℕ)) (es : List (String A × RuleKinds)) → IsDistinct string_eq (keys_of es) → list_any (λ e. e.1.star && is_behind o (string_bytes e.0)) es ≡ star_behind es o
  stars None es unique = none_behind es
  stars (Some name) es unique = by_lookup (λ kinds. kinds.star) refl name es unique

  -- and so another rule, by the name or by the one behind its first dot
  pub holds_other : (name : List ℕ) (es : List (String A × RuleKinds)) → IsDistinct string_eq (keys_of es)
      → list_any (is_whole false (labels_of name)) (rules_in es) ≡ ((kinds_or_none (lookup (λ k. bytes_eq name (string_bytes k)) es)).plain || star_behind es (behind 46 name))
  holds_other name es unique =
      any_in false name (λ e. (e.1.plain && bytes_eq name (string_bytes e.0)) || (e.1.star && is_behind (behind 46 name) (string_bytes e.0))) (λ e. other_at name (string_bytes e.0) e.1) es
      ∙ any_or (λ e. e.1.plain && bytes_eq name (string_bytes e.0)) (λ e. e.1.star && is_behind (behind 46 name) (string_bytes e.0)) es
      ∙ ap (λ t. t || list_any (λ e. e.1.star && is_behind (behind 46 name) (string_bytes e.0)) es) (by_lookup (λ kinds. kinds.plain) refl name es unique)
      ∙ ap (λ t. (kinds_or_none (lookup (λ k. bytes_eq name (string_bytes k)) es)).plain || t) (stars (behind 46 name) es unique)

  -- whether another rule has just these labels, by what the look-ups say
  pub holds_plain : (name : List ℕ) (es : List (String A × RuleKinds)) → IsDistinct string_eq (keys_of es)
      → (kinds_or_none (lookup (λ k. bytes_eq name (string_bytes k)) es)).plain ≡ true → list_any (is_whole false (labels_of name)) (rules_in es) ≡ true
  holds_plain name es unique e = holds_other name es unique ∙ ap (λ t. t || star_behind es (behind 46 name)) e

  pub holds_star : (name : List ℕ) (es : List (String A × RuleKinds)) → IsDistinct string_eq (keys_of es) → (o : Option (List ℕ)) → behind 46 name ≡ o
      → (kinds_or_none (lookup (λ k. bytes_eq name (string_bytes k)) es)).plain ≡ false → list_any (is_whole false (labels_of name)) (rules_in es) ≡ star_behind es o
  holds_star name es unique o f e =
      holds_other name es unique ∙ ap (λ t. t || star_behind es (behind 46 name)) e ∙ ap (star_behind es) f
