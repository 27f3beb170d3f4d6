-- The keys of an element are those that it carries.
use Rattle.std.proofs.Common.{◌≡◌, ◌∙◌, ◌||◌, ℕ, Bool, true, false, List, [], ◌∷◌, ◌++◌, map, Option, Some, None, refl, sym, ap, ap₂, MatchOption, Bor}
use Rattle.std.specs.Prelude.{codes, unwrap_or}
use Rattle.std.specs.Option.{option_copied}
use Rattle.std.specs.List.{list_any}
use Rattle.std.specs.Str.{bytes_eq}
use Rattle.std.proofs.lemmas.List.Folds.{list_any-append}
use Rattle.selector_tree.specs.declared.selector.Step.{Step}
use Rattle.page_tree.specs.Forest.{Tree, Content, rooted, find, content, name_of, attrs_of, value_at}
use Rattle.page_tree.specs.Trees.{IsTree}
use Rattle.page_tree.specs.Words.{words}
use Rattle.page_tree.specs.Standings.{name}
use Rattle.page_tree.specs.Facts.{attr, id, class_list, words_in}
use Rattle.selector_match.proofs.Shown.{name_none, name_some, attr_none, attr_some}
use Rattle.selector_meaning.specs.Texts.{Bytes, some_fits}
use Rattle.generic_tables.specs.declared.keys.Key.{Key}
use Rattle.generic_tables.specs.declared.keys.Key.TheVariants as key
use Rattle.generic_tables.specs.Keys.{carries, key_of_chain, is_keyed}
use Rattle.generic_tables.specs.Carried.{same_key, key_if_any, keys_at}
use Rattle.generic_tables.proofs.Written.{bytes_eq-turned, or_false}

no_class : (k : Key) (vs : List Bytes) → ((v : Bytes) → same_key k (key.Class v) ≡ false) → list_any (same_key k) (map key.Class vs) ≡ false
no_class k [] h = refl
no_class k (v ∷ vs) h = ap₂ (λ a b. a || b) (h v) (no_class k vs h)

classes : (v : Bytes) (vs : List Bytes) → list_any (same_key (key.Class v)) (map key.Class vs) ≡ list_any (bytes_eq v) vs
classes v [] = refl
classes v (w ∷ vs) = ap (λ b. bytes_eq v w || b) (classes v vs)

module _ (t : Tree) (x : ℕ) where
  -- a key is among the keys of an element where it carries it
  pub carried : (k : Key) → list_any (same_key k) (keys_at t x) ≡ carries t k x
  carried (key.Class v) = list_any-append (same_key (key.Class v)) (key_if_any key.Id (id t x)) (map key.Class (class_list t x)) ∙ none (id t x) ∙ classes v (class_list t x)
    where
      none : (o : Option Bytes) → (list_any (same_key (key.Class v)) (key_if_any key.Id o) || list_any (same_key (key.Class v)) (map key.Class (class_list t x))) ≡ list_any (same_key (key.Class v)) (map key.Class (class_list t x))
      none None = refl
      none (Some w) = refl
  carried (key.Id v) = list_any-append (same_key (key.Id v)) (key_if_any key.Id (id t x)) (map key.Class (class_list t x)) ∙ ap (λ b. list_any (same_key (key.Id v)) (key_if_any key.Id (id t x)) || b) (no_class (key.Id v) (class_list t x) (λ w. refl)) ∙ or_false (list_any (same_key (key.Id v)) (key_if_any key.Id (id t x))) ∙ one (id t x)
    where
      one : (o : Option Bytes) → list_any (same_key (key.Id v)) (key_if_any key.Id o) ≡ some_fits o (bytes_eq v)
      one None = refl
      one (Some w) = or_false (bytes_eq v w)
  carried (key.Name v) =
      ap (λ b. bytes_eq v (name t x) || b) (list_any-append (same_key (key.Name v)) (key_if_any key.Id (id t x)) (map key.Class (class_list t x)) ∙ ap₂ (λ a b. a || b) (none (id t x)) (no_class (key.Name v) (class_list t x) (λ w. refl)))
      ∙ or_false (bytes_eq v (name t x)) ∙ bytes_eq-turned v (name t x)
    where
      none : (o : Option Bytes) → list_any (same_key (key.Name v)) (key_if_any key.Id o) ≡ false
      none None = refl
      none (Some w) = refl
  carried key.None = refl

any_or : {A : Type 0} (f g : A → Bool) (xs : List A) → list_any (λ x. f x || g x) xs ≡ (list_any f xs || list_any g xs)
any_or f g [] = refl
any_or f g (x ∷ xs) = ap (λ b. (f x || g x) || b) (any_or f g xs) ∙ mixed (f x) (g x) (list_any f xs) (list_any g xs)
  where
    mixed : (a b c d : Bool) → ((a || b) || (c || d)) ≡ ((a || c) || (b || d))
    mixed true b c d = refl
    mixed false true true d = refl
    mixed false true false d = refl
    mixed false false c d = refl

any_alike : {A : Type 0} (f g : A → Bool) (xs : List A) → ((x : A) → f x ≡ g x) → list_any f xs ≡ list_any g xs
any_alike f g [] h = refl
any_alike f g (x ∷ xs) h = ap₂ (λ a b. a || b) (h x) (any_alike f g xs h)

same_key-turned : (k l : Key) → same_key k l ≡ same_key l k
same_key-turned (key.Class v) (key.Class w) = bytes_eq-turned v w
same_key-turned (key.Class v) (key.Id w) = refl
same_key-turned (key.Class v) (key.Name w) = refl
same_key-turned (key.Class v) key.None = refl
same_key-turned (key.Id v) (key.Class w) = refl
same_key-turned (key.Id v) (key.Id w) = bytes_eq-turned v w
same_key-turned (key.Id v) (key.Name w) = refl
same_key-turned (key.Id v) key.None = refl
same_key-turned (key.Name v) (key.Class w) = refl
same_key-turned (key.Name v) (key.Id w) = refl
same_key-turned (key.Name v) (key.Name w) = bytes_eq-turned v w
same_key-turned (key.Name v) key.None = refl
same_key-turned key.None (key.Class w) = refl
same_key-turned key.None (key.Id w) = refl
same_key-turned key.None (key.Name w) = refl
same_key-turned key.None key.None = refl

-- an element carries the key of some chain where some key of it is that of a chain
pub keyed_at : (t : Tree) (selector : List (List Step)) (x : ℕ) → list_any (λ k. list_any (same_key k) (map key_of_chain selector)) (keys_at t x) ≡ is_keyed t selector x
keyed_at t [] x = none (keys_at t x)
  where
    none : (ks : List Key) → list_any (λ k. false) ks ≡ false
    none [] = refl
    none (k ∷ ks) = none ks
keyed_at t (chain ∷ selector) x =
    any_or (λ k. same_key k (key_of_chain chain)) (λ k. list_any (same_key k) (map key_of_chain selector)) (keys_at t x)
    ∙ ap₂ (λ a b. a || b)
    (any_alike (λ k. same_key k (key_of_chain chain)) (same_key (key_of_chain chain)) (keys_at t x) (λ k. same_key-turned k (key_of_chain chain)) ∙ carried t x (key_of_chain chain))
    (keyed_at t selector x)

-- ---- as a node shows them
copied : (o : Option (Bor Bytes)) (v : Option Bytes) → MatchOption o (v ≡ None) (λ w. v ≡ Some w.now) → option_copied o ≡ v
copied None v h = sym h
copied (Some w) v h = sym h

module _ (t : Tree) (tree : IsTree t) (x : ℕ) where
  pub keys_none : None ≡ content (find x (rooted t.nodes)) → key.None ∷ key.Name [] ∷ [] ≡ keys_at t x
  keys_none h =
      ap₂ (λ (n : Bytes) (more : List Key). key.None ∷ key.Name n ∷ more) (name_none t tree x h)
      (ap₂ (λ (i c : Option Bytes). key_if_any key.Id i ++ map key.Class (words_in c)) (sym (attr_none t tree x h (codes "id"))) (sym (attr_none t tree x h (codes "class"))))

  pub keys_some : (c : Content) (called : Bytes) (given classes : Option (Bor Bytes)) (text : Bytes) → Some c ≡ content (find x (rooted t.nodes)) → called ≡ name_of c →
      MatchOption given (value_at (codes "id") (attrs_of c) ≡ None) (λ w. value_at (codes "id") (attrs_of c) ≡ Some w.now) →
      MatchOption classes (value_at (codes "class") (attrs_of c) ≡ None) (λ w. value_at (codes "class") (attrs_of c) ≡ Some w.now) →
      text ≡ unwrap_or (option_copied classes) [] →
      key.None ∷ key.Name called ∷ (key_if_any key.Id (option_copied given) ++ map key.Class (words text)) ≡ keys_at t x
  keys_some c called given classes text h n i l e =
      ap₂ (λ (n : Bytes) (more : List Key). key.None ∷ key.Name n ∷ more) (name_some t tree x c called h n)
      (ap₂ (λ (i : Option Bytes) (ws : List Bytes). key_if_any key.Id i ++ map key.Class ws) (copied given _ i ∙ attr_some t tree x c h (codes "id"))
      (ap words (e ∙ ap (λ (o : Option Bytes). unwrap_or o []) (copied classes _ l ∙ attr_some t tree x c h (codes "class"))) ∙ of_text (attr t (codes "class") x)))
    where
      of_text : (o : Option Bytes) → words (unwrap_or o []) ≡ words_in o
      of_text None = refl
      of_text (Some v) = refl
