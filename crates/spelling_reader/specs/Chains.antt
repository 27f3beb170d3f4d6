-- Chains of which only a front is read.
use Rattle.std.specs.Prelude.{ℕ, Bool, ◌&&◌, List, [], ◌∷◌, Option, Result, Ok, if◌then◌else◌}
use Rattle.selector_tree.specs.declared.selector.Place.TheVariants.{Descendant}
use Rattle.selector_tree.specs.declared.selector.Step.{Step}
use Rattle.selector_tree.specs.declared.selector.Step.TheVariants as step
use Rattle.selector_spelling.specs.declared.finding.Finding.{Finding}
use Rattle.selector_spelling.specs.declared.reading.Reading.{Reading}
use Rattle.selector_spelling.specs.declared.reading.Setting.{Setting}
use Rattle.selector_spelling.specs.Bytes.{Bytes, is_empty}
use Rattle.selector_spelling.specs.Cuts.{Part, Item, is_sign, compounds_of, behind_signs, items_of}
use Rattle.selector_spelling.specs.Pieces.{◌>>=◌, nothing, both}
use Rattle.selector_spelling.specs.Texts.{item, chain}
use Rattle.selector_lexer.specs.declared.cuts.Behind.{Behind}
use Rattle.selector_lexer.specs.Splits.{parts_behind}
use Rattle.spelling_reader.specs.Readings.{Inner}

abbrev pub part_at : ℕ → Bytes → Part
part_at at text = record { sign = 0; at = at; text = text }

module _ (inner : Inner) (setting : Setting) where
  -- some items of a chain, behind which others follow unless the setting is the last
  abbrev pub items_read : List Item → Result Reading Finding
  items_read [] = Ok nothing
  items_read (i ∷ items) = item inner setting.nested setting.several (is_empty items && setting.last) i >>= λ r. items_read items >>= λ others. Ok (both r others)

  -- the compounds between two signs
  abbrev pub compounds_read : ℕ → Bytes → Result Reading Finding
  compounds_read at text = items_read (compounds_of (part_at at text))

  -- what stands behind the first sign of a chain, with that sign
  abbrev pub signed_read : ℕ → Option Behind → Result Reading Finding
  signed_read at behind = chain inner setting.nested setting.several (behind_signs (parts_behind is_sign at behind))

  -- a chain
  abbrev pub chain_read : Bool → ℕ → Bytes → Result Reading Finding
  chain_read in_has at text = chain inner setting.nested setting.several (items_of in_has (part_at at text))

-- the step that a chain of `:has` begins with where no sign does
abbrev pub lead : Bool → List Step
lead in_has = if in_has then step.Move Descendant ∷ [] else []
