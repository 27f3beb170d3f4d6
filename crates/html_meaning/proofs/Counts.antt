-- A source has no more nodes than bytes.
use Rattle.std.proofs.Common.{◌≡◌, ℕ, suc, ◌+◌, ◌≤◌, List, [], ◌∷◌, ◌++◌, length, map, arith}
use Rattle.std.proofs.lemmas.List.{length-map}
use Rattle.html_meaning.specs.Tokens.{Piece, Start, End, Chars, Comment, Doctype, Cut, Token, tokens}
use Rattle.html_meaning.specs.Page.{OpenElement, left_by, opened, role_of, by_depth, nodes_from, nodes_of, fragment}
use Rattle.html_meaning.specs.Cover.{Cover}
use Rattle.html_meaning.proofs.Covers.{covers}

-- tokens that cover so many bytes are no more than these
cover_few : (from to : ℕ) (ts : List Token) → Cover from ts to → from + length ts ≤ to
cover_few from to [] c = omega (arith, c)
cover_few from to (t ∷ ts) c = omega (arith, c.0, c.1, cover_few t.to to ts c.2)

-- each piece makes at most one node
nodes_few : (ps : List Piece) (number : ℕ) (elements : List OpenElement) → length (nodes_from number elements ps) ≤ length ps
nodes_few [] number elements = omega arith
nodes_few (Start name attrs self_closing ∷ ps) number elements =
    let role = role_of (Start name attrs self_closing) in omega (arith, nodes_few ps (suc number) (left_by role elements ++ opened number role))
nodes_few (End name ∷ ps) number elements = omega (arith, nodes_few ps number (left_by (role_of (End name)) elements ++ []))
nodes_few (Chars bytes raw ∷ ps) number elements = omega (arith, nodes_few ps (suc number) (left_by (role_of (Chars bytes raw)) elements ++ []))
nodes_few (Comment bytes ∷ ps) number elements = omega (arith, nodes_few ps (suc number) (left_by (role_of (Comment bytes)) elements ++ []))
nodes_few (Doctype ∷ ps) number elements = omega (arith, nodes_few ps number (left_by (role_of Doctype) elements ++ []))
nodes_few (Cut ∷ ps) number elements = omega (arith, nodes_few ps number (left_by (role_of Cut) elements ++ []))

pub fragment_few : (source : List ℕ) → length (fragment source) ≤ length source
fragment_few source =
    let pieces = map (λ (t : Token). t.piece) (tokens source) in
    omega (
      arith,
      length-map (nodes_of source) by_depth,
      nodes_few pieces 1 [],
      length-map (tokens source) (λ (t : Token). t.piece),
      cover_few 0 (length source) (tokens source) (covers source),
    )
