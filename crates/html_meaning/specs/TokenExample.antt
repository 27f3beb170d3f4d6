-- Tokens of each kind, and the attributes of tags, computed.
use Rattle.std.specs.Prelude.{◌≡◌, ℕ, List, [], ◌∷◌, codes, refl, true, false, map}
use Rattle.html_meaning.specs.Tokens.{Piece, Start, End, Chars, Comment, Doctype, Cut, Token, tokens, attribute_pairs}

-- the pieces of a source, without their places
abbrev pieces : List ℕ → List Piece
pieces source = map (λ (t : Token). t.piece) (tokens source)

-- each token with its places
some_tokens : tokens (codes "<p a=1 A=\"2\">x&lt;<br/><!-->y</P z>") ≡
    record { piece = Start (codes "p") (codes " a=1 A=\"2\"") false; from = 0; to = 13 }
    ∷ record { piece = Chars (codes "x&lt;") false; from = 13; to = 18 }
    ∷ record { piece = Start (codes "br") (codes "/") true; from = 18; to = 23 }
    ∷ record { piece = Comment []; from = 23; to = 28 }
    ∷ record { piece = Chars (codes "y") false; from = 28; to = 29 }
    ∷ record { piece = End (codes "P"); from = 29; to = 35 } ∷ []
some_tokens = refl

no_tokens : tokens [] ≡ []
no_tokens = refl

-- raw text

raw_text : pieces (codes "<script>a</b><!--</scripts></SCRIPT >b") ≡
    Start (codes "script") [] false ∷ Chars (codes "a</b><!--</scripts>") true ∷ End (codes "SCRIPT")
    ∷ Chars (codes "b") false ∷ []
raw_text = refl

raw_text_to_the_end : pieces (codes "<style>a<b></style") ≡ Start (codes "style") [] false ∷ Chars (codes "a<b></style") true ∷ []
raw_text_to_the_end = refl

escapable_raw_text : pieces (codes "<TITLE/>a<b></title><textarea>&lt;</textarea/>") ≡
    Start (codes "TITLE") (codes "/") true ∷ Chars (codes "a<b>") false ∷ End (codes "title")
    ∷ Start (codes "textarea") [] false ∷ Chars (codes "&lt;") false ∷ End (codes "textarea") ∷ []
escapable_raw_text = refl

empty_raw_text : pieces (codes "<script></script><b>") ≡
    Start (codes "script") [] false ∷ End (codes "script") ∷ Start (codes "b") [] false ∷ []
empty_raw_text = refl

-- only directly behind the start tag
raw_text_ends : pieces (codes "<script>a</script><b></script>") ≡
    Start (codes "script") [] false ∷ Chars (codes "a") true ∷ End (codes "script") ∷ Start (codes "b") [] false
    ∷ End (codes "script") ∷ []
raw_text_ends = refl

-- comments

comment_with_dashes : pieces (codes "<!--a-->b") ≡ Comment (codes "a") ∷ Chars (codes "b") false ∷ []
comment_with_dashes = refl

comment_of_three_dashes : pieces (codes "<!--->b") ≡ Comment [] ∷ Chars (codes "b") false ∷ []
comment_of_three_dashes = refl

comment_of_dashes : pieces (codes "<!----><!----->") ≡ Comment [] ∷ Comment (codes "-") ∷ []
comment_of_dashes = refl

comment_to_the_end : pieces (codes "<!--a>--") ≡ Comment (codes "a>--") ∷ []
comment_to_the_end = refl

comment_of_nothing : pieces (codes "<!--") ≡ Comment [] ∷ []
comment_of_nothing = refl

bogus_comments : pieces (codes "<!><!x><!-a-><?b?></><//a></ p>") ≡
    Comment [] ∷ Comment (codes "x") ∷ Comment (codes "-a-") ∷ Comment (codes "b?") ∷ Comment [] ∷ Comment (codes "/a")
    ∷ Comment (codes " p") ∷ []
bogus_comments = refl

bogus_comment_to_the_end : pieces (codes "a<?b") ≡ Chars (codes "a") false ∷ Comment (codes "b") ∷ []
bogus_comment_to_the_end = refl

-- doctypes

doctypes : pieces (codes "<!DOCTYPE html><!doctypea><!doctyp>") ≡ Doctype ∷ Doctype ∷ Comment (codes "doctyp") ∷ []
doctypes = refl

doctype_to_the_end : tokens (codes "<!doctype a") ≡ record { piece = Doctype; from = 0; to = 11 } ∷ []
doctype_to_the_end = refl

-- text

text_with_signs : pieces (codes "a<1 < <> & b") ≡ Chars (codes "a<1 < <> & b") false ∷ []
text_with_signs = refl

end_sign_at_the_end : pieces (codes "a</") ≡ Chars (codes "a</") false ∷ []
end_sign_at_the_end = refl

-- tags

tag_cut_off : tokens (codes "a<b c='>") ≡
    record { piece = Chars (codes "a") false; from = 0; to = 1 } ∷ record { piece = Cut; from = 1; to = 8 } ∷ []
tag_cut_off = refl

end_tag_cut_off : pieces (codes "</b") ≡ Cut ∷ []
end_tag_cut_off = refl

tag_with_a_sign_in_a_value : pieces (codes "<a b=\"x>y\">z") ≡ Start (codes "a") (codes " b=\"x>y\"") false ∷ Chars (codes "z") false ∷ []
tag_with_a_sign_in_a_value = refl

end_tag_with_attributes : pieces (codes "</a b='>'/>c") ≡ End (codes "a") ∷ Chars (codes "c") false ∷ []
end_tag_with_attributes = refl

tag_name : pieces (codes "<a<b:1\n><a/b>") ≡ Start (codes "a<b:1") (10 ∷ []) false ∷ Start (codes "a") (codes "/b") false ∷ []
tag_name = refl

-- self-closing tags

self_closing : pieces (codes "<a/><a b/><a b='c'/><a =/>") ≡
    Start (codes "a") (codes "/") true ∷ Start (codes "a") (codes " b/") true ∷ Start (codes "a") (codes " b='c'/") true
    ∷ Start (codes "a") (codes " =/") true ∷ []
self_closing = refl

not_self_closing : pieces (codes "<a b=c/><a/ ><a b=/>") ≡
    Start (codes "a") (codes " b=c/") false ∷ Start (codes "a") (codes "/ ") false ∷ Start (codes "a") (codes " b=/") false ∷ []
not_self_closing = refl

-- attributes

plain_attributes : attribute_pairs (codes " a b=c\td = e/f/g") ≡
    (codes "a", []) ∷ (codes "b", codes "c") ∷ (codes "d", codes "e/f/g") ∷ []
plain_attributes = refl

quoted_attributes : attribute_pairs (codes " a='x \"' b = \"/\"c=''") ≡
    (codes "a", codes "x \"") ∷ (codes "b", codes "/") ∷ (codes "c", []) ∷ []
quoted_attributes = refl

equals_sign_in_a_name : attribute_pairs (codes " ==a =b=c = =d") ≡ (codes "=", codes "a") ∷ (codes "=b", codes "c") ∷ (codes "=", codes "d") ∷ []
equals_sign_in_a_name = refl

value_of_nothing : attribute_pairs (codes " a=") ≡ (codes "a", []) ∷ []
value_of_nothing = refl

slash_between_attributes : attribute_pairs (codes "a/b//c =d") ≡ (codes "a", []) ∷ (codes "b", []) ∷ (codes "c", codes "d") ∷ []
slash_between_attributes = refl

quote_in_a_value : attribute_pairs (codes " a=b'c d\"=e") ≡ (codes "a", codes "b'c") ∷ (codes "d\"", codes "e") ∷ []
quote_in_a_value = refl
