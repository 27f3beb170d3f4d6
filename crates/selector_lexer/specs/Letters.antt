-- What stands at the front of a text as a letter of a name or a string.
use Rattle.std.specs.Prelude.{◌≡◌, ℕ, ◌≤◌, Bool, ◌∷◌, ◌++◌, drop, encode_utf8, Some, None}
use Rattle.std.specs.List.{AllByRecursion}
use Rattle.selector_tree.specs.Letters.{is_name_byte}
use Rattle.selector_spelling.specs.Bytes.{Bytes}
use Rattle.selector_spelling.specs.Names.{Letter, escape, letter, is_plain}
use Rattle.selector_lexer.specs.declared.names.Plain.{Plain}
use Rattle.selector_lexer.specs.declared.names.Plain.TheVariants.{InName, InString}

-- which bytes stand for themselves
abbrev pub stands : Plain → ℕ → Bool
stands InName = is_name_byte
stands InString = is_plain

-- A character is what an escape stands for, from behind its `\` on. Of a character past ASCII, `escape` gives the first
-- byte, and its tail stands for itself.
pub record IsEscape (text rest : Bytes) (c : ℕ) : Type 0 where
  pub first : Letter
  pub tail : Bytes
  pub is : escape text ≡ Some first
  pub value : first.value ++ tail ≡ encode_utf8 c
  pub rest_is : drop first.length text ≡ tail ++ rest
  pub high : AllByRecursion (λ b. 128 ≤ b) tail

-- a character is what the letter at the front of a text stands for
pub record IsLetter (p : ℕ → Bool) (text rest : Bytes) (c : ℕ) : Type 0 where
  pub byte : ℕ
  pub more : Bytes
  pub from : text ≡ byte ∷ more
  pub first : Letter
  pub tail : Bytes
  pub is : letter p byte more ≡ Some first
  pub value : first.value ++ tail ≡ encode_utf8 c
  pub some : 1 ≤ first.length
  pub rest_is : drop first.length text ≡ tail ++ rest
  pub high : AllByRecursion (λ b. 128 ≤ b) tail

-- no letter stands at the front of a text
abbrev pub HasNoLetter : (ℕ → Bool) → Bytes → Type 0
HasNoLetter p text = (b : ℕ) (more : Bytes) → text ≡ b ∷ more → letter p b more ≡ None
