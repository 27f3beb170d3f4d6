-- Character references of each kind, computed, and what isn't one.
use Rattle.std.specs.Prelude.{◌≡◌, [], ◌∷◌, ◌++◌, codes, refl}
use lib.Utf8.{encode}
use Rattle.html_meaning.specs.References.{resolved}

each_named : resolved 0 (codes "&amp;&lt;&gt;&quot;&apos;") ≡ codes "&<>\"'"
unfolding encode
each_named = refl

no_break_space : resolved 0 (codes "a&nbsp;b") ≡ codes "a" ++ 194 ∷ 160 ∷ codes "b"
unfolding encode
no_break_space = refl

decimal : resolved 0 (codes "&#65;&#0233;") ≡ codes "A" ++ 195 ∷ 169 ∷ []
unfolding encode
decimal = refl

hexadecimal : resolved 0 (codes "&#x4a;&#X4A;&#x20aC;") ≡ codes "JJ" ++ 226 ∷ 130 ∷ 172 ∷ []
unfolding encode
hexadecimal = refl

last_character : resolved 0 (codes "&#x10FFFF;") ≡ 244 ∷ 143 ∷ 191 ∷ 191 ∷ []
unfolding encode
last_character = refl

-- what stands for U+FFFD

zero_number : resolved 0 (codes "&#0;") ≡ 239 ∷ 191 ∷ 189 ∷ []
unfolding encode
zero_number = refl

surrogates : resolved 0 (codes "&#xD800;&#57343;") ≡ 239 ∷ 191 ∷ 189 ∷ 239 ∷ 191 ∷ 189 ∷ []
unfolding encode
surrogates = refl

past_the_last_character : resolved 0 (codes "&#x110000;&#99999999999;") ≡ 239 ∷ 191 ∷ 189 ∷ 239 ∷ 191 ∷ 189 ∷ []
unfolding encode
past_the_last_character = refl

-- what stays as it is

no_semicolon : resolved 0 (codes "&amp &lt<&#65 &#x41") ≡ codes "&amp &lt<&#65 &#x41"
no_semicolon = refl

another_case : resolved 0 (codes "&AMP;&Lt;") ≡ codes "&AMP;&Lt;"
another_case = refl

unknown_name : resolved 0 (codes "&copy;&;&") ≡ codes "&copy;&;&"
unknown_name = refl

no_digits : resolved 0 (codes "&#;&#x;&#g;&#xg;&#1a;") ≡ codes "&#;&#x;&#g;&#xg;&#1a;"
no_digits = refl

-- a reference isn't read twice
resolved_once : resolved 0 (codes "&amp;lt;&&gt;") ≡ codes "&lt;&>"
unfolding encode
resolved_once = refl
