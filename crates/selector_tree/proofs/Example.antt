-- The canonical texts of some selectors, by computing.
use Rattle.std.proofs.Common.{◌≡◌, [], ◌∷◌, codes, true, false}
use Rattle.selector_tree.specs.declared.selector.Place.TheVariants.{Child, Descendant, Next}
use Rattle.selector_tree.specs.declared.selector.AttrOp.TheVariants.{Exists, Prefix}
use Rattle.selector_tree.specs.declared.selector.Arg.TheVariants.{Pattern}
use Rattle.selector_tree.specs.declared.filter.Action.TheVariants.{Hide, Remove}
use Rattle.selector_tree.specs.declared.selector.Step.TheVariants.{Keep, Move}
use Rattle.selector_tree.specs.declared.selector.Test.TheVariants.{Tag, Class, Attr, Has, HasText}
use Rattle.selector_tree.specs.Canonical.{canonical_text}
use Rattle.selector_tree.proofs.TextLaws.{text_of_step-Keep, text_of_step-Move, text_of_test-Tag, text_of_test-Class, text_of_test-Attr, text_of_test-Has, text_of_test-HasText}

-- a combinator between compounds, and a list of chains
list : canonical_text ((Keep (Class (codes "ad")) ∷ Move Child ∷ Keep (Tag (codes "p")) ∷ []) ∷ (Keep (Tag (codes "a")) ∷ []) ∷ []) Hide ≡ codes ".ad > p, a"
list = rw (text_of_step-Keep, text_of_test-Class, text_of_step-Move, text_of_step-Keep, text_of_test-Tag, text_of_step-Keep, text_of_test-Tag)

-- a chain of `:has` that begins with a sign, and the action
leading : canonical_text ((Keep (Tag (codes "p")) ∷ Keep (Has ((Move Next ∷ Keep (Tag (codes "a")) ∷ []) ∷ [])) ∷ []) ∷ []) Remove ≡ codes "p:has(+ a):remove()"
leading = rw (text_of_step-Keep, text_of_test-Tag, text_of_step-Keep, text_of_test-Has, text_of_step-Move, text_of_step-Keep, text_of_test-Tag)

-- a chain of `:has` that begins with white space, and a pattern
pattern : canonical_text ((Keep (Has ((Move Descendant ∷ Keep (HasText (Pattern (codes "a/b") 1 7)) ∷ []) ∷ [])) ∷ []) ∷ []) Hide ≡ codes ":has(:has-text(/a\\/b/i))"
pattern = rw (text_of_step-Keep, text_of_test-Has, text_of_step-Move, text_of_step-Keep, text_of_test-HasText)

-- an attribute without a value, and one whose letter case is ignored
attributes : canonical_text ((Keep (Attr (codes "a") Exists [] false) ∷ Keep (Attr (codes "b") Prefix (codes "x\"") true) ∷ []) ∷ []) Hide ≡ codes "[a][b^=\"x\\\"\" i]"
attributes = rw (text_of_step-Keep, text_of_test-Attr, text_of_step-Keep, text_of_test-Attr)
