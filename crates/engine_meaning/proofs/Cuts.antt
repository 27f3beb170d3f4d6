-- What is left of a forest without some nodes, and without several one after another.
use Rattle.std.proofs.Common.{◌≡◌, ℕ, suc, Bool, true, false, cond, ◌||◌, ◌==◌, ◌≤◌, ◌<◌, ◌+◌, ◌++◌, List, [], ◌∷◌, length, refl, sym, ap, ap₂, ◌∙◌, arith}
use Rattle.std.proofs.lemmas.List.{length-append}
use Rattle.std.specs.List.{list_any}
use Rattle.page_tree.specs.Forest.{document, element, text, comment, Forest, empty, node}
use Rattle.page_tree.specs.Standings.{Sibling, Standing, standings, siblings_of}
use Rattle.page_tree.specs.Edits.{pruned}

-- nodes that are named alike
pub pruned-alike : (p q : ℕ → Bool) → ((x : ℕ) → p x ≡ q x) → (f : Forest) → pruned p f ≡ pruned q f
pruned-alike p q h empty = refl
pruned-alike p q h (node n c kids later) = pick (p n) (q n) (h n) (pruned-alike p q h kids) (pruned-alike p q h later)
  where
    pick : (b d : Bool) → b ≡ d → pruned p kids ≡ pruned q kids → pruned p later ≡ pruned q later →
        cond b (pruned p later) (node n c (pruned p kids) (pruned p later)) ≡ cond d (pruned q later) (node n c (pruned q kids) (pruned q later))
    pick true true e k l = l
    pick true false e k l = absurd (cc)
    pick false true e k l = absurd (cc)
    pick false false e k l = ap₂ (node n c) k l

-- no node is named
pub pruned-nothing : (f : Forest) → pruned (λ x. false) f ≡ f
pruned-nothing empty = refl
pruned-nothing (node n c kids later) = ap₂ (node n c) (pruned-nothing kids) (pruned-nothing later)

-- some nodes, and then others
pub pruned-twice : (p q : ℕ → Bool) (f : Forest) → pruned q (pruned p f) ≡ pruned (λ x. p x || q x) f
pruned-twice p q empty = refl
pruned-twice p q (node n c kids later) = pick (p n) (pruned-twice p q kids) (pruned-twice p q later)
  where
    pick_inner : (d : Bool) → pruned q (pruned p kids) ≡ pruned (λ x. p x || q x) kids → pruned q (pruned p later) ≡ pruned (λ x. p x || q x) later →
        cond d (pruned q (pruned p later)) (node n c (pruned q (pruned p kids)) (pruned q (pruned p later)))
        ≡ cond d (pruned (λ x. p x || q x) later) (node n c (pruned (λ x. p x || q x) kids) (pruned (λ x. p x || q x) later))
    pick_inner true k l = l
    pick_inner false k l = ap₂ (node n c) k l

    pick : (b : Bool) → pruned q (pruned p kids) ≡ pruned (λ x. p x || q x) kids → pruned q (pruned p later) ≡ pruned (λ x. p x || q x) later →
        pruned q (cond b (pruned p later) (node n c (pruned p kids) (pruned p later)))
        ≡ cond (b || q n) (pruned (λ x. p x || q x) later) (node n c (pruned (λ x. p x || q x) kids) (pruned (λ x. p x || q x) later))
    pick true k l = l
    pick false k l = pick_inner (q n) k l
