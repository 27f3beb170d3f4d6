-- What a line says, by whether it is UTF-8.
use Rattle.std.proofs.Common.{◌≡◌, ℕ, false, List, Result, refl, ap, sym, ◌∙◌}
use Rattle.std.specs.List.{list_all}
use Rattle.std.specs.Str.{IsUtf8, is_utf8}
use Rattle.std.proofs.lemmas.Bool.{false_from_ne_true}
use Rattle.std.proofs.lemmas.Str.{IsUtf8-from_is_utf8, is_utf8-from_IsUtf8}
use Rattle.cos_source.specs.Spaces.{is_space}
use Rattle.mutation_script.specs.declared.mutation.BadLine.{BadLine}
use Rattle.mutation_script.specs.declared.mutation.BadLine.TheVariants.{NotUtf8}
use Rattle.mutation_script.specs.declared.mutation.Mutation.{Mutation}
use Rattle.mutation_script.specs.declared.mutation.ScriptLine.TheVariants.{Bad}
use Rattle.mutation_script.specs.Lines.{said, mutation_of, script_line}

-- a line that isn't blank, and isn't UTF-8
pub no_text : (bytes : List ℕ) → list_all is_space bytes ≡ false → (IsUtf8 bytes → ⊥) → Bad NotUtf8 ≡ script_line bytes
no_text bytes full wrong = rw (full, false_from_ne_true (is_utf8 bytes) (λ e. wrong (IsUtf8-from_is_utf8 bytes e))) refl

-- a line that isn't blank, and is UTF-8
pub line_says : (bytes line : List ℕ) (read : Result Mutation BadLine) → list_all is_space bytes ≡ false → line ≡ bytes → IsUtf8 bytes
    → mutation_of line ≡ read → said read ≡ script_line bytes
line_says bytes line read full same utf8 e = rw (full, is_utf8-from_IsUtf8 bytes utf8) (ap said (sym e ∙ ap mutation_of same))
