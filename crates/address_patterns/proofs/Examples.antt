-- Patterns of addresses, computed.
use Rattle.std.proofs.Common.{◌≡◌, refl, true, false, codes}
use Rattle.address_patterns.specs.Patterns.{matches, pattern_of}
use Rattle.address_patterns.specs.declared.page.Page.{Page}

-- `https://a.b/c`
abbrev page : Page
page = record { address = codes "https://a.b/c"; host = codes "a.b"; host_from = 8; host_to = 11; path = codes "/c" }

behind_a_dot : matches (pattern_of (codes "||b^")) page ≡ true
behind_a_dot = refl

in_the_path : matches (pattern_of (codes "||c")) page ≡ false
in_the_path = refl

at_the_end : matches (pattern_of (codes "/C^|")) page ≡ true
at_the_end = refl

a_run : matches (pattern_of (codes "|h*c|")) page ≡ true
a_run = refl

no_match : matches (pattern_of (codes "a^b")) page ≡ false
no_match = refl

everything : matches (pattern_of (codes "")) page ≡ true
everything = refl
