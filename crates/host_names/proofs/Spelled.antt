-- Which line of a file of rules a text is.
use Rattle.std.proofs.Common.{◌≡◌, ◌∙◌, ◌==◌, ◌≢◌, ℕ, Bool, true, false, cond, List, [], ◌∷◌, slice_index, ap, sym, refl, eqb-true}
use Rattle.std.specs.Str.{IsUtf8, is_utf8}
use Rattle.std.proofs.lemmas.Str.{IsUtf8-from_is_utf8, is_utf8-from_IsUtf8}
use Rattle.cos_source.specs.Spaces.{trimmed}
use Rattle.host_names.specs.SuffixLines.{SuffixLine, bad, plain_rule, rule_of, suffix_line, text_line}

-- a text that doesn't begin with `!`
pub no_exception : (text : List ℕ) → ((rest : List ℕ) → text ≢ 33 ∷ rest) → rule_of text ≡ plain_rule text
no_exception [] none = refl
no_exception (b ∷ text) none = go (b == 33) refl
  where
    go : (t : Bool) → (b == 33) ≡ t → rule_of (b ∷ text) ≡ plain_rule (b ∷ text)
    go true e = absurd (none text (ap (λ c. c ∷ text) (eqb-true b 33 e)))
    go false e = rw e refl

pub is_text : (line : List ℕ) → IsUtf8 line → text_line (trimmed line) ≡ suffix_line line
is_text line u = sym (ap (λ v. cond v (text_line (trimmed line)) bad) (is_utf8-from_IsUtf8 line u))

pub no_text : (line : List ℕ) → (IsUtf8 line → ⊥) → bad ≡ suffix_line line
no_text line none = go (is_utf8 line) refl
  where
    go : (v : Bool) → is_utf8 line ≡ v → bad ≡ cond v (text_line (trimmed line)) bad
    go true e = absurd (none (IsUtf8-from_is_utf8 line e))
    go false e = refl
