-- Which rule is the first that fits.
use Rattle.std.proofs.Common.{◌≡◌, ℕ, Bool, true, false, List, codes, refl, ap, sym, ◌∙◌}
use Rattle.html_meaning.specs.Bytes.{begins, begins_like}
use Rattle.html_meaning.specs.Tokens as meant

-- a test of other names for the same bytes
pub tested : (test : List ℕ → Bool) (found : Bool) (a x : List ℕ) → a ≡ x → found ≡ test a → test x ≡ found
tested test found a x e t = ap test (sym e) ∙ sym t

pub tested_both : (test : List ℕ → List ℕ → Bool) (found : Bool) (a b x y : List ℕ) → a ≡ x → b ≡ y → found ≡ test a b → test x y ≡ found
tested_both test found a b x y e f t = ap (test x) (sym f) ∙ ap (λ name. test name b) (sym e) ∙ sym t

pub first_raw_text : (raw bytes : List ℕ) → meant.begins_raw_text raw bytes ≡ true
    → meant.first raw bytes ≡ meant.raw_text raw bytes
first_raw_text raw bytes e0 = rw e0 refl

pub first_comment : (raw bytes : List ℕ) → meant.begins_raw_text raw bytes ≡ false → begins (codes "<!--") bytes ≡ true
    → meant.first raw bytes ≡ meant.comment bytes
first_comment raw bytes e0 e1 = rw (e0, e1) refl

pub first_doctype : (raw bytes : List ℕ) → meant.begins_raw_text raw bytes ≡ false → begins (codes "<!--") bytes ≡ false → begins_like (codes "<!doctype") bytes ≡ true
    → meant.first raw bytes ≡ meant.doctype bytes
first_doctype raw bytes e0 e1 e2 = rw (e0, e1, e2) refl

pub first_bogus_comment : (raw bytes : List ℕ) → meant.begins_raw_text raw bytes ≡ false → begins (codes "<!--") bytes ≡ false → begins_like (codes "<!doctype") bytes ≡ false → meant.is_bogus_comment bytes ≡ true
    → meant.first raw bytes ≡ meant.bogus_comment bytes
first_bogus_comment raw bytes e0 e1 e2 e3 = rw (e0, e1, e2, e3) refl

pub first_start_tag : (raw bytes : List ℕ) → meant.begins_raw_text raw bytes ≡ false → begins (codes "<!--") bytes ≡ false → begins_like (codes "<!doctype") bytes ≡ false → meant.is_bogus_comment bytes ≡ false → meant.is_start bytes ≡ true
    → meant.first raw bytes ≡ meant.tag meant.Start 1 bytes
first_start_tag raw bytes e0 e1 e2 e3 e4 = rw (e0, e1, e2, e3, e4) refl

pub first_end_tag : (raw bytes : List ℕ) → meant.begins_raw_text raw bytes ≡ false → begins (codes "<!--") bytes ≡ false → begins_like (codes "<!doctype") bytes ≡ false → meant.is_bogus_comment bytes ≡ false → meant.is_start bytes ≡ false → meant.is_end bytes ≡ true
    → meant.first raw bytes ≡ meant.tag (λ name attrs closing. meant.End name) 2 bytes
first_end_tag raw bytes e0 e1 e2 e3 e4 e5 = rw (e0, e1, e2, e3, e4, e5) refl

pub first_text : (raw bytes : List ℕ) → meant.begins_raw_text raw bytes ≡ false → begins (codes "<!--") bytes ≡ false → begins_like (codes "<!doctype") bytes ≡ false → meant.is_bogus_comment bytes ≡ false → meant.is_start bytes ≡ false → meant.is_end bytes ≡ false
    → meant.first raw bytes ≡ meant.text bytes
first_text raw bytes e0 e1 e2 e3 e4 e5 = rw (e0, e1, e2, e3, e4, e5) refl
