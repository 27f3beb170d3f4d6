-- Texts with `, ` between them, one more at a time.
use Rattle.std.proofs.Common.{ℕ, Bool, true, false, List}
use Rattle.selector_tree.specs.Canonical.{behind_comma, joined}

-- what is left of a list of texts, behind others or not
abbrev pub left : Bool → List (List ℕ) → List ℕ
left false texts = joined texts
left true texts = behind_comma texts
