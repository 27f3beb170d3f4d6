-- White space at the end of a text.
use Rattle.std.proofs.Common.{◌≡◌, ◌++◌, ℕ, true, false, List, [], ◌∷◌, refl, ap, sym, ◌∙◌}
use Rattle.cos_source.specs.Spaces.{is_space, before_text, without_last_spaces}

-- white space at the end goes
pub without_last_spaces-space : (text : List ℕ) (b : ℕ) → is_space b ≡ true → without_last_spaces (text ++ b ∷ []) ≡ without_last_spaces text
without_last_spaces-space [] b e = rw e refl
without_last_spaces-space (c ∷ text) b e = ap (before_text c) (without_last_spaces-space text b e)

before_text-append : (c : ℕ) (text : List ℕ) (b : ℕ) → before_text c (text ++ b ∷ []) ≡ c ∷ (text ++ b ∷ [])
before_text-append c [] b = refl
before_text-append c (d ∷ text) b = refl

-- a text that ends otherwise stays
pub without_last_spaces-other : (text : List ℕ) (b : ℕ) → is_space b ≡ false → without_last_spaces (text ++ b ∷ []) ≡ text ++ b ∷ []
without_last_spaces-other [] b e = rw e refl
without_last_spaces-other (c ∷ text) b e = ap (before_text c) (without_last_spaces-other text b e) ∙ before_text-append c text b

pub last_space_goes : (rest more text : List ℕ) (b : ℕ) → rest ≡ more ++ b ∷ [] → is_space b ≡ true → without_last_spaces rest ≡ text → without_last_spaces more ≡ text
last_space_goes rest more text b e space h = sym (without_last_spaces-space more b space) ∙ ap without_last_spaces (sym e) ∙ h

pub other_end_stays : (rest more text : List ℕ) (b : ℕ) → rest ≡ more ++ b ∷ [] → is_space b ≡ false → without_last_spaces rest ≡ text → rest ≡ text
other_end_stays rest more text b e other h = e ∙ sym (without_last_spaces-other more b other) ∙ ap without_last_spaces (sym e) ∙ h
