use Rattle.std.proofs.Common.{◌≡◌, ◌+◌, ◌-◌, ◌*◌, ◌<◌, ◌≤◌, ◌^◌, zero, true, length}
use denote.Text.{Utf8}
use denote.Shadow.{shadow}
use Rattle.selector_spelling.specs.Pieces.{pieces}
use Rattle.selector_spelling.specs.Texts.{argument, selector}
use Rattle.selector_lexer.specs.Splits.{length_behind}
use Rattle.spelling_reader.specs.Chains.{compounds_read, signed_read}
use Rattle.spelling_reader.proofs.SoFar.{SoFar}
use Rattle.spelling_reader.proofs.SelectorLaws.{ChainsSoFar}
use Rattle.spelling_reader.proofs.LoopLaws.{chains_left, WordsLeft}
use Rattle.spelling_reader.proofs.reading.+reading.Given as goal

-- the levels that are left, and then how far down a function is
abbrev pub decreases-read_argument : goal.decreases-read_argument
decreases-read_argument l = 16 * l.levels

abbrev pub decreases-read_upward : goal.decreases-read_upward
decreases-read_upward l = 16 * l.levels + 1

abbrev pub decreases-read_operator : goal.decreases-read_operator
decreases-read_operator l = 16 * l.levels + 2

abbrev pub decreases-read_pseudo : goal.decreases-read_pseudo
decreases-read_pseudo l = 16 * l.levels + 3

abbrev pub decreases-read_piece : goal.decreases-read_piece
decreases-read_piece l = 16 * l.levels + 4

abbrev pub decreases-read_compound : goal.decreases-read_compound
decreases-read_compound l = 16 * l.levels + 5

abbrev pub decreases-read_compounds : goal.decreases-read_compounds
decreases-read_compounds l = 16 * l.levels + 6

abbrev pub decreases-read_signed : goal.decreases-read_signed
decreases-read_signed l = 16 * l.levels + 7

abbrev pub decreases-read_chain : goal.decreases-read_chain
decreases-read_chain l = 16 * l.levels + 8

abbrev pub decreases-read_chains : goal.decreases-read_chains
decreases-read_chains l = 16 * l.levels + 9

abbrev pub invariant-read_chains-chains : goal.invariant-read_chains-chains
invariant-read_chains-chains l = record {
  room : l.place + length l.part.text.now + length_behind l.part.behind < 2 ^ 64;
  so_far : ChainsSoFar l.chains l.fn.notes l.notes (chains_left (argument l.levels) l.setting l.in_has l.place l.part) (selector (argument l.levels) l.nested l.in_has l.at l.text);
}

abbrev pub decreases-read_chains-chains : goal.decreases-read_chains-chains
decreases-read_chains-chains l = length_behind l.part.behind

abbrev pub invariant-read_signed-signs : goal.invariant-read_signed-signs
invariant-read_signed-signs l = record {
  room : l.place + length_behind l.next < 2 ^ 64;
  so_far : SoFar l.fn.steps l.steps l.fn.notes l.notes (signed_read (argument l.levels) l.setting l.place l.next) (signed_read (argument l.levels) l.setting l.fn.at l.fn.behind);
}

abbrev pub decreases-read_signed-signs : goal.decreases-read_signed-signs
decreases-read_signed-signs l = length_behind l.next

abbrev pub invariant-read_compounds-words : goal.invariant-read_compounds-words
invariant-read_compounds-words l =
    shadow (Utf8 l.rest) × (l.end ≡ l.at + length l.text) × (length l.rest ≤ length l.text)
    × WordsLeft (argument l.levels) l.setting l.fn.steps l.steps l.fn.notes l.notes (l.end - length l.rest) l.rest (compounds_read (argument l.levels) l.setting l.at l.text)

abbrev pub decreases-read_compounds-words : goal.decreases-read_compounds-words
decreases-read_compounds-words l = length l.rest

abbrev pub invariant-read_compound-pieces : goal.invariant-read_compound-pieces
invariant-read_compound-pieces l =
    shadow (Utf8 l.rest) × (l.end ≡ l.at + length l.text) × (length l.rest ≤ length l.text)
    × SoFar l.fn.steps l.steps l.fn.notes l.notes (pieces (argument l.levels) l.setting l.first (l.end - length l.rest) zero l.rest) (pieces (argument l.levels) l.setting true l.at zero l.text)

abbrev pub decreases-read_compound-pieces : goal.decreases-read_compound-pieces
decreases-read_compound-pieces l = length l.rest
