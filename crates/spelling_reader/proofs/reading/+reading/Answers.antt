use Rattle.std.specs.Prelude.{is_none}
use Rattle.std.proofs.Common.{◌≡◌, ◌+◌, ◌-◌, ◌<◌, ◌≤◌, Bool, true, false, eqb, ◌&&◌, List, [], ◌∷◌, ◌++◌, length, Option, Some, None, Result, refl, sym, ap, subst, ◌∙◌, arith, rules}
use Rattle.std.specs.Str.{str_to_ascii_lowercase}
use Rattle.std.proofs.lemmas.Result.{err_from_is_err_and}
use Rattle.selector_tree.specs.declared.selector.Place.{Place}
use Rattle.selector_tree.specs.declared.selector.Step.{Step}
use Rattle.selector_tree.specs.declared.selector.Step.TheVariants as step
use Rattle.selector_spelling.specs.declared.finding.Finding.{Finding}
use Rattle.selector_spelling.specs.declared.open.Open.{Open}
use Rattle.selector_spelling.specs.declared.reading.Setting.{Setting}
use Rattle.selector_spelling.specs.Bytes.{Bytes, begins_with, is_empty, colon, round_open}
use Rattle.selector_spelling.specs.Names.{begins_name}
use Rattle.selector_spelling.specs.Operators.{operator_of}
use Rattle.selector_spelling.specs.Scan.{opens}
use Rattle.selector_spelling.specs.Pieces.{Piece, where_closed, pseudo, without_argument_reading}
use Rattle.selector_spelling.specs.Texts.{place_of, argument, selector}
use Rattle.cos_source.specs.Spaces.{without_first_spaces}
use Rattle.selector_lexer.specs.declared.cuts.Behind.{Behind}
use Rattle.selector_lexer.specs.declared.stop.Stop.{Stop}
use Rattle.selector_lexer.specs.Splits.{length_behind, text_after, IsArgument}
use Rattle.selector_lexer.specs.Stops.{Fails}
use Rattle.spelling_reader.specs.Readings.{Reads, piece_at}
use Rattle.spelling_reader.specs.Chains.{compounds_read, signed_read, chain_read}
use Rattle.spelling_reader.proofs.Watched.{some_left}
use Rattle.spelling_reader.proofs.SoFar.{SoFar, so_far_start}
use Rattle.spelling_reader.proofs.SelectorLaws.{ChainsSoFar}
use Rattle.spelling_reader.proofs.LoopLaws.{chains_left, chains_first, chains_next, chains_done, signs_next, signs_stop, chain_by_sign, chain_stop, chain_rest, words_start, words_missing, word_stop, word_done, word_next, piece_turn, piece_shorter, pieces_begin, trimmed_shorter, word_shorter, starts_some, reads_setting, fails_setting, reads_pieces, fails_pieces, none_from, empty-length}
use Rattle.spelling_reader.proofs.PseudoLaws.{argument_result, test_result, pseudo_result, plain_stop, plain_read, open_stop, unknown_stop, operator_stop, operator_read}
use Rattle.spelling_reader.proofs.reading.+reading.Goals as goal

pub read_argument-returns : goal.read_argument-returns
read_argument-returns t c = argument_result c.args.levels c.args.in_has c.args.at c.args.text.now c.args.notes.now c.read_chains.new.notes c.read_chains.result c.if-levels-eq0.false c.read_chains.ensures

-- ---- chains

pub read_chain-returns-then-begins_with_sign : goal.read_chain-returns-then-begins_with_sign
read_chain-returns-then-begins_with_sign t c =
    let f = c.in_ok-first in
    chain_by_sign (argument c.args.levels) c.args.setting c.args.in_has c.args.at (c.args.at + length f.first.text.now) c.args.text.now f.first c.read_signed.result
    c.args.steps.now c.read_signed.new.steps c.args.notes.now c.read_signed.new.notes f.ensures (sym c.begins_with_sign.ensures ∙ c.if-begins_with_sign.true) refl c.read_signed.ensures

pub read_chain-returns-in_err-read_compounds : goal.read_chain-returns-in_err-read_compounds
read_chain-returns-in_err-read_compounds t c =
    let f = c.in_ok-first in
    let s = c.args.setting in
    let inner = argument c.args.levels in
    let e = c.in_err-read_compounds in
    let last : Bool → Setting = λ b. record { nested = s.nested; several = s.several; last = b } in
    let same : c.setting_with-last.result ≡ last (is_none f.first.behind) = c.setting_with-last.ensures ∙ ap last (none_from f.first.behind c.is_none.result c.is_none.ensures) in
    let p = err_from_is_err_and c.from_residual-in_err-read_compounds.result c.from_residual-in_err-read_compounds.ensures.1 in
    rw (p.1, p.2) (chain_stop inner s c.args.in_has c.args.at c.args.text.now f.first c.args.steps.now c.push_lead.new.steps c.args.notes.now f.ensures
    (sym c.begins_with_sign.ensures ∙ c.if-begins_with_sign.false) c.in_ok-push_lead.ensures e.field-0.0
    (fails_setting inner c.setting_with-last.result (last (is_none f.first.behind)) c.args.at f.first.text.now e.field-0.0 same e.ensures))

pub read_chain-returns : goal.read_chain-returns
read_chain-returns t c =
    let f = c.in_ok-first in
    let s = c.args.setting in
    let inner = argument c.args.levels in
    let r = c.read_compounds in
    let last : Bool → Setting = λ b. record { nested = s.nested; several = s.several; last = b } in
    let same : c.setting_with-last.result ≡ last (is_none f.first.behind) = c.setting_with-last.ensures ∙ ap last (none_from f.first.behind c.is_none.result c.is_none.ensures) in
    chain_rest inner s c.args.in_has c.args.at c.args.text.now f.first c.args.steps.now c.push_lead.new.steps c.args.notes.now f.ensures
    (sym c.begins_with_sign.ensures ∙ c.if-begins_with_sign.false) c.in_ok-push_lead.ensures (c.args.at + length f.first.text.now) c.read_signed-2.result r.new.steps c.read_signed-2.new.steps r.new.notes c.read_signed-2.new.notes
    (reads_setting inner c.setting_with-last.result (last (is_none f.first.behind)) c.args.at f.first.text.now c.push_lead.new.steps r.new.steps c.args.notes.now r.new.notes same c.in_ok-read_compounds.ensures)
    refl c.read_signed-2.ensures

pub read_chains-chains-init : goal.read_chains-chains-init
read_chains-chains-init t c =
    let p = c.in_ok-part in
    let inner = argument c.args.levels in
    let setting : Setting = record { nested = c.args.nested; several = c.is_some.result; last = true } in
    record {
      room = let l = p.ensures.lengths in omega arith;
      so_far = subst (λ (v : List (List Step)). ChainsSoFar v c.args.notes.now c.args.notes.now (chains_left inner setting c.args.in_has c.args.at p.part) (selector inner c.args.nested c.args.in_has c.args.at c.args.text.now))
          (sym c.new-chains.ensures) (chains_first inner setting c.args.in_has c.args.at c.args.text.now p.part c.args.notes.now c.is_some.ensures p.ensures);
    }

pub read_chains-returns-in_default : goal.read_chains-returns-in_default
read_chains-returns-in_default t c =
    let l = c.chains in
    let inner = argument c.args.levels in
    let setting : Setting = record { nested = c.args.nested; several = c.is_some.result; last = true } in
    let r = subst (λ (v : List Step). Reads v c.read_chain.new.steps l.notes c.read_chain.new.notes (chain_read inner setting c.args.in_has l.place l.part.text.now)) c.new-steps.ensures c.in_ok-read_chain.ensures in
    chains_done inner setting c.args.in_has l.place l.part l.chains c.push.new.self c.read_chain.new.steps c.args.notes.now l.notes c.read_chain.new.notes _ l.invariant.so_far r c.in_ok-push.ensures.ok c.in_default.is

pub read_chains-chains-preserved : goal.read_chains-chains-preserved
read_chains-chains-preserved t c =
    let l = c.chains in
    let inner = argument c.args.levels in
    let setting : Setting = record { nested = c.args.nested; several = c.is_some.result; last = true } in
    let r = subst (λ (v : List Step). Reads v c.read_chain.new.steps l.notes c.read_chain.new.notes (chain_read inner setting c.args.in_has l.place l.part.text.now)) c.new-steps.ensures c.in_ok-read_chain.ensures in
    let p = c.in_ok-part-2 in
    let b = c.in-Some in
    record {
      room = let n = p.ensures.lengths in let m = ap length_behind b.is in let k = l.invariant.room in omega arith;
      so_far = chains_next inner setting c.args.in_has l.place (l.place + (length l.part.text.now + 1)) l.part p.part b.behind l.chains c.push.new.self c.read_chain.new.steps c.args.notes.now l.notes c.read_chain.new.notes _
          l.invariant.so_far r c.in_ok-push.ensures.ok b.is p.ensures (omega arith);
    }

-- ---- pieces of a compound

pub read_compound-pieces-init : goal.read_compound-pieces-init
read_compound-pieces-init t c =
    (search rules, refl, omega arith, pieces_begin (argument c.args.levels) c.args.setting c.args.at (c.args.at + length c.args.text.now - length c.args.text.now) c.args.text.now c.args.steps.now c.args.notes.now (omega arith))

pub read_compound-pieces-preserved : goal.read_compound-pieces-preserved
read_compound-pieces-preserved t c =
    let l = c.pieces in
    let rest = l.rest.now in
    let rest' = c.in_ok-rest.rest.now in
    let end = c.args.at + length c.args.text.now in
    let some : 0 < length rest = some_left (length rest) (sym c.is_empty.ensures ∙ c.pieces-test.true) in
    let most : length rest ≤ length c.args.text.now = l.invariant.2 in
    let shorter = piece_shorter l.steps c.read_piece.new.steps l.notes c.read_piece.new.notes rest rest' _ some c.in_ok-rest.ensures in (
      search rules,
      refl,
      omega arith,
      piece_turn (argument c.args.levels) c.args.setting l.first (end - length rest) (end - length rest') rest rest' c.args.steps.now l.steps c.read_piece.new.steps c.args.notes.now l.notes c.read_piece.new.notes _ l.invariant.3
          some (omega arith) c.in_ok-rest.ensures,
    )

-- ---- compounds

pub read_compounds-returns-then-is_empty : goal.read_compounds-returns-then-is_empty
read_compounds-returns-then-is_empty t c =
    let given = compounds_read (argument c.args.levels) c.args.setting c.args.at c.args.text.now in
    subst (λ (e : Stop). Fails e given) (sym c.bad.ensures)
    (words_missing (argument c.args.levels) c.args.setting c.args.at c.args.text.now c.trim_start-rest.result.now c.trim_start-rest.ensures (sym c.is_empty.ensures ∙ c.if-is_empty.true))

pub read_compounds-words-init : goal.read_compounds-words-init
read_compounds-words-init t c =
    let rest = c.trim_start-rest.result.now in
    let text = c.args.text.now in
    let most : length rest ≤ length text = omega (arith, ap length c.trim_start-rest.ensures, trimmed_shorter text) in
    let place = c.args.at + length text - length rest in
    (search rules, refl, most, words_start (argument c.args.levels) c.args.setting c.args.at place text rest c.args.steps.now c.args.notes.now c.trim_start-rest.ensures (sym c.is_empty.ensures ∙ c.if-is_empty.false) (omega arith))

pub read_compounds-returns-in_err-read_compound : goal.read_compounds-returns-in_err-read_compound
read_compounds-returns-in_err-read_compound t c =
    let s = c.args.setting in
    let inner = argument c.args.levels in
    let l = c.words in
    let rest = l.rest.now in
    let behind = c.trim_start-behind.result.now in
    let f = c.in_ok-first in
    let e = c.in_err-read_compound in
    let place = c.args.at + length c.args.text.now - length rest in
    let last : Bool → Setting = λ b. record { nested = s.nested; several = s.several; last = b } in
    let same : c.setting_with-last.result ≡ last (eqb (length behind) 0 && s.last) = c.setting_with-last.ensures ∙ ap last c.is_last.ensures in
    let behind-is : behind ≡ without_first_spaces (text_after f.first.behind) = c.trim_start-behind.ensures ∙ ap without_first_spaces c.text_behind.ensures in
    let p = err_from_is_err_and c.from_residual-in_err-read_compound.result c.from_residual-in_err-read_compound.ensures.1 in
    rw (p.1, p.2) (word_stop inner s c.args.steps.now l.steps c.args.notes.now l.notes place rest behind f.first _ l.invariant.3 f.ensures behind-is e.field-0.0
    (fails_pieces inner c.setting_with-last.result (last (eqb (length behind) 0 && s.last)) place f.first.text.now e.field-0.0 same e.ensures))

pub read_compounds-returns-then-is_empty-2 : goal.read_compounds-returns-then-is_empty-2
read_compounds-returns-then-is_empty-2 t c =
    let s = c.args.setting in
    let inner = argument c.args.levels in
    let l = c.words in
    let rest = l.rest.now in
    let behind = c.trim_start-behind.result.now in
    let f = c.in_ok-first in
    let r = c.read_compound in
    let place = c.args.at + length c.args.text.now - length rest in
    let last : Bool → Setting = λ b. record { nested = s.nested; several = s.several; last = b } in
    let same : c.setting_with-last.result ≡ last (eqb (length behind) 0 && s.last) = c.setting_with-last.ensures ∙ ap last c.is_last.ensures in
    let behind-is : behind ≡ without_first_spaces (text_after f.first.behind) = c.trim_start-behind.ensures ∙ ap without_first_spaces c.text_behind.ensures in
    word_done inner s c.args.steps.now l.steps c.args.notes.now l.notes place rest behind f.first _ l.invariant.3 f.ensures behind-is r.new.steps r.new.notes
    (reads_pieces inner c.setting_with-last.result (last (eqb (length behind) 0 && s.last)) place f.first.text.now l.steps r.new.steps l.notes r.new.notes same c.in_ok-read_compound.ensures)
    (sym c.if-is_empty-2.ensures)

pub read_compounds-words-smaller : goal.read_compounds-words-smaller
read_compounds-words-smaller t c =
    let f = c.in_ok-first in
    let behind-is : c.trim_start-behind.result.now ≡ without_first_spaces (text_after f.first.behind) = c.trim_start-behind.ensures ∙ ap without_first_spaces c.text_behind.ensures in
    word_shorter c.words.rest.now c.trim_start-behind.result.now f.first (starts_some c.words.rest.now c.words.invariant.3.starts) f.ensures behind-is

pub read_compounds-words-preserved : goal.read_compounds-words-preserved
read_compounds-words-preserved t c =
    let s = c.args.setting in
    let inner = argument c.args.levels in
    let l = c.words in
    let rest = l.rest.now in
    let behind = c.trim_start-behind.result.now in
    let f = c.in_ok-first in
    let r = c.read_compound in
    let end = c.args.at + length c.args.text.now in
    let place = end - length rest in
    let last : Bool → Setting = λ b. record { nested = s.nested; several = s.several; last = b } in
    let same : c.setting_with-last.result ≡ last (eqb (length behind) 0 && s.last) = c.setting_with-last.ensures ∙ ap last c.is_last.ensures in
    let behind-is : behind ≡ without_first_spaces (text_after f.first.behind) = c.trim_start-behind.ensures ∙ ap without_first_spaces c.text_behind.ensures in
    let shorter = word_shorter rest behind f.first (starts_some rest l.invariant.3.starts) f.ensures behind-is in
    let most : length rest ≤ length c.args.text.now = l.invariant.2 in (
      search rules,
      refl,
      omega arith,
      word_next inner s c.args.steps.now l.steps c.args.notes.now l.notes place rest behind f.first _ l.invariant.3 f.ensures behind-is r.new.steps c.push.new.self r.new.notes (end - length behind)
          (reads_pieces inner c.setting_with-last.result (last (eqb (length behind) 0 && s.last)) place f.first.text.now l.steps r.new.steps l.notes r.new.notes same c.in_ok-read_compound.ensures)
          (sym c.if-is_empty-2.ensures) c.in_ok-push.ensures.ok (omega arith),
    )

-- ---- pieces

pub read_piece-returns-then-not-begins_with : goal.read_piece-returns-then-not-begins_with
read_piece-returns-then-not-begins_with t c =
    test_result c.args.steps.now c.read_test.new.steps c.args.notes.now c.args.text.now (piece_at (argument c.args.levels) c.args.setting c.args.first c.args.at c.args.text.now) c.read_test.result
    (c.read_test.ensures (argument c.args.levels) c.args.setting)

pub read_piece-returns : goal.read_piece-returns
read_piece-returns t c =
    let more = c.split_behind.result.1.now in
    let h : begins_with colon c.args.text.now ≡ true = ap (begins_with colon) (sym c.as_bytes.ensures.value) ∙ sym c.begins_with.ensures ∙ c.if-not-begins_with.false in
    pseudo_result (argument c.args.levels) c.args.setting c.args.first c.args.at c.args.text.now more c.args.steps.now c.read_pseudo.new.steps c.args.notes.now c.read_pseudo.new.notes c.read_pseudo.result
    h c.split_behind.ensures.back c.read_pseudo.ensures

pub read_pseudo-returns-in_err-push_plain : goal.read_pseudo-returns-in_err-push_plain
read_pseudo-returns-in_err-push_plain t c =
    let text = c.args.text.now in
    let s = c.split_front in
    let name = s.result.0.now in
    let rest = s.result.1.now in
    let e = c.in_err-push_plain in
    let other : begins_with colon text ≡ false = ap (begins_with colon) (sym c.as_bytes.ensures.value) ∙ sym c.begins_with.ensures ∙ c.if-begins_with.false in
    let named : begins_name name ≡ true = sym c.begins_name.ensures ∙ c.if-not-begins_name.false in
    let bracket : begins_with round_open rest ≡ false = ap (begins_with round_open) (sym c.as_bytes-2.ensures.value) ∙ sym c.begins_with-2.ensures ∙ c.if-not-begins_with.true in
    let fails = subst (λ (v : Bytes). Fails e.field-0.0 (without_argument_reading c.args.at (str_to_ascii_lowercase v))) c.as_bytes-then-not-begins_with.ensures.value e.ensures in
    let p = err_from_is_err_and c.from_residual.result c.from_residual.ensures.1 in
    rw (p.1, p.2) (plain_stop (argument c.args.levels) c.args.setting c.args.first c.args.at text name rest other s.ensures.front s.ensures.back e.field-0.0 named bracket fails)

pub read_pseudo-returns-then-not-begins_with : goal.read_pseudo-returns-then-not-begins_with
read_pseudo-returns-then-not-begins_with t c =
    let text = c.args.text.now in
    let s = c.split_front in
    let name = s.result.0.now in
    let rest = s.result.1.now in
    let other : begins_with colon text ≡ false = ap (begins_with colon) (sym c.as_bytes.ensures.value) ∙ sym c.begins_with.ensures ∙ c.if-begins_with.false in
    let named : begins_name name ≡ true = sym c.begins_name.ensures ∙ c.if-not-begins_name.false in
    let bracket : begins_with round_open rest ≡ false = ap (begins_with round_open) (sym c.as_bytes-2.ensures.value) ∙ sym c.begins_with-2.ensures ∙ c.if-not-begins_with.true in
    let r = subst (λ (v : Bytes). Reads c.args.steps.now c.push_plain.new.steps c.args.notes.now c.push_plain.new.notes (without_argument_reading c.args.at (str_to_ascii_lowercase v))) c.as_bytes-then-not-begins_with.ensures.value c.in_ok-push_plain.ensures in
    plain_read (argument c.args.levels) c.args.setting c.args.first c.args.at text name rest other s.ensures.front s.ensures.back c.args.steps.now c.push_plain.new.steps c.args.notes.now c.push_plain.new.notes named bracket r

pub read_pseudo-returns-in_err-argument : goal.read_pseudo-returns-in_err-argument
read_pseudo-returns-in_err-argument t c =
    let text = c.args.text.now in
    let s = c.split_front in
    let name = s.result.0.now in
    let rest = s.result.1.now in
    let inside = c.split_behind-2.result.1.now in
    let e = c.in_err-argument in
    let other : begins_with colon text ≡ false = ap (begins_with colon) (sym c.as_bytes.ensures.value) ∙ sym c.begins_with.ensures ∙ c.if-begins_with.false in
    let named : begins_name name ≡ true = sym c.begins_name.ensures ∙ c.if-not-begins_name.false in
    let bracket : begins_with round_open rest ≡ true = ap (begins_with round_open) (sym c.as_bytes-2.ensures.value) ∙ sym c.begins_with-2.ensures ∙ c.if-not-begins_with.false in
    let lower = str_to_ascii_lowercase name in
    let opened : c.opens-opened.result ≡ opens lower inside = c.opens-opened.ensures ∙ ap (λ (v : Bytes). opens (str_to_ascii_lowercase v) c.as_bytes-4.result.now) c.as_bytes-3.ensures.value ∙ ap (opens lower) c.as_bytes-4.ensures.value in
    let fails = subst (λ (o : Open). (read : Result Piece Finding) → Fails e.field-0.0 (where_closed c.args.at o inside read)) opened e.ensures in
    let p = err_from_is_err_and c.from_residual-in_err-argument.result c.from_residual-in_err-argument.ensures.1 in
    rw (p.1, p.2) (open_stop (argument c.args.levels) c.args.setting c.args.first c.args.at text name rest other s.ensures.front s.ensures.back inside named bracket c.split_behind-2.ensures.back e.field-0.0 fails)

pub read_pseudo-returns-in_default : goal.read_pseudo-returns-in_default
read_pseudo-returns-in_default t c =
    let text = c.args.text.now in
    let s = c.split_front in
    let name = s.result.0.now in
    let rest = s.result.1.now in
    let inside = c.split_behind-2.result.1.now in
    let a = c.in_ok-argument in
    let inner = argument c.args.levels in
    let other : begins_with colon text ≡ false = ap (begins_with colon) (sym c.as_bytes.ensures.value) ∙ sym c.begins_with.ensures ∙ c.if-begins_with.false in
    let named : begins_name name ≡ true = sym c.begins_name.ensures ∙ c.if-not-begins_name.false in
    let bracket : begins_with round_open rest ≡ true = ap (begins_with round_open) (sym c.as_bytes-2.ensures.value) ∙ sym c.begins_with-2.ensures ∙ c.if-not-begins_with.false in
    let lower = str_to_ascii_lowercase name in
    let opened : c.opens-opened.result ≡ opens lower inside = c.opens-opened.ensures ∙ ap (λ (v : Bytes). opens (str_to_ascii_lowercase v) c.as_bytes-4.result.now) c.as_bytes-3.ensures.value ∙ ap (opens lower) c.as_bytes-4.ensures.value in
    let is = subst (λ (o : Open). IsArgument o inside a.argument.now a.rest.now) opened a.ensures in
    let none : operator_of lower ≡ None = ap (λ (v : Bytes). operator_of (str_to_ascii_lowercase v)) (sym c.as_bytes-5.ensures.value) ∙ sym c.in_default.ensures in
    let given = pseudo inner c.args.setting c.args.first c.args.at text in
    subst (λ (e : Stop). Fails e given) (sym c.bad-in_default.ensures)
    (unknown_stop inner c.args.setting c.args.first c.args.at text name rest other s.ensures.front s.ensures.back inside a.argument.now a.rest.now named bracket c.split_behind-2.ensures.back is none)

pub read_pseudo-returns-in_err-read_operator : goal.read_pseudo-returns-in_err-read_operator
read_pseudo-returns-in_err-read_operator t c =
    let text = c.args.text.now in
    let s = c.split_front in
    let name = s.result.0.now in
    let rest = s.result.1.now in
    let inside = c.split_behind-2.result.1.now in
    let a = c.in_ok-argument in
    let e = c.in_err-read_operator in
    let inner = argument c.args.levels in
    let other : begins_with colon text ≡ false = ap (begins_with colon) (sym c.as_bytes.ensures.value) ∙ sym c.begins_with.ensures ∙ c.if-begins_with.false in
    let named : begins_name name ≡ true = sym c.begins_name.ensures ∙ c.if-not-begins_name.false in
    let bracket : begins_with round_open rest ≡ true = ap (begins_with round_open) (sym c.as_bytes-2.ensures.value) ∙ sym c.begins_with-2.ensures ∙ c.if-not-begins_with.false in
    let lower = str_to_ascii_lowercase name in
    let opened : c.opens-opened.result ≡ opens lower inside = c.opens-opened.ensures ∙ ap (λ (v : Bytes). opens (str_to_ascii_lowercase v) c.as_bytes-4.result.now) c.as_bytes-3.ensures.value ∙ ap (opens lower) c.as_bytes-4.ensures.value in
    let is = subst (λ (o : Open). IsArgument o inside a.argument.now a.rest.now) opened a.ensures in
    let found : operator_of lower ≡ Some c.in-Some.operator = ap (λ (v : Bytes). operator_of (str_to_ascii_lowercase v)) (sym c.as_bytes-5.ensures.value) ∙ sym c.in-Some.ensures in
    let ends : c.is_empty.result ≡ is_empty a.rest.now = c.is_empty.ensures ∙ empty-length a.rest.now in
    let p = err_from_is_err_and c.from_residual-in_err-read_operator.result c.from_residual-in_err-read_operator.ensures.1 in
    rw (p.1, p.2) (operator_stop inner c.args.setting c.args.first c.args.at text name rest other s.ensures.front s.ensures.back inside a.argument.now a.rest.now named bracket c.split_behind-2.ensures.back is
    e.field-0.0 c.in-Some.operator (c.args.at + 2 + length name) c.is_empty.result found refl ends e.ensures)

pub read_pseudo-returns : goal.read_pseudo-returns
read_pseudo-returns t c =
    let text = c.args.text.now in
    let s = c.split_front in
    let name = s.result.0.now in
    let rest = s.result.1.now in
    let inside = c.split_behind-2.result.1.now in
    let a = c.in_ok-argument in
    let r = c.read_operator in
    let inner = argument c.args.levels in
    let other : begins_with colon text ≡ false = ap (begins_with colon) (sym c.as_bytes.ensures.value) ∙ sym c.begins_with.ensures ∙ c.if-begins_with.false in
    let named : begins_name name ≡ true = sym c.begins_name.ensures ∙ c.if-not-begins_name.false in
    let bracket : begins_with round_open rest ≡ true = ap (begins_with round_open) (sym c.as_bytes-2.ensures.value) ∙ sym c.begins_with-2.ensures ∙ c.if-not-begins_with.false in
    let lower = str_to_ascii_lowercase name in
    let opened : c.opens-opened.result ≡ opens lower inside = c.opens-opened.ensures ∙ ap (λ (v : Bytes). opens (str_to_ascii_lowercase v) c.as_bytes-4.result.now) c.as_bytes-3.ensures.value ∙ ap (opens lower) c.as_bytes-4.ensures.value in
    let is = subst (λ (o : Open). IsArgument o inside a.argument.now a.rest.now) opened a.ensures in
    let found : operator_of lower ≡ Some c.in-Some.operator = ap (λ (v : Bytes). operator_of (str_to_ascii_lowercase v)) (sym c.as_bytes-5.ensures.value) ∙ sym c.in-Some.ensures in
    let ends : c.is_empty.result ≡ is_empty a.rest.now = c.is_empty.ensures ∙ empty-length a.rest.now in
    operator_read inner c.args.setting c.args.first c.args.at text name rest other s.ensures.front s.ensures.back inside a.argument.now a.rest.now named bracket c.split_behind-2.ensures.back is
    c.in-Some.operator (c.args.at + 2 + length name) c.is_empty.result c.args.steps.now r.new.steps c.args.notes.now r.new.notes found refl ends c.in_ok-read_operator.ensures

-- ---- signs

pub read_signed-signs-init : goal.read_signed-signs-init
read_signed-signs-init t c = record { room = c.requires; so_far = so_far_start c.args.steps.now c.args.notes.now _ }

pub read_signed-returns-in_err-read_compounds : goal.read_signed-returns-in_err-read_compounds
read_signed-returns-in_err-read_compounds t c =
    let l = c.signs in
    let b = c.in-Some in
    let f = c.in_ok-first in
    let s = c.args.setting in
    let inner = argument c.args.levels in
    let e = c.in_err-read_compounds in
    let whole = signed_read inner s c.args.at c.args.behind in
    let last : Bool → Setting = λ x. record { nested = s.nested; several = s.several; last = x } in
    let same : c.setting_with-last.result ≡ last (is_none f.first.behind) = c.setting_with-last.ensures ∙ ap last (none_from f.first.behind c.is_none.result c.is_none.ensures) in
    let so_far = subst (λ (v : Option Behind). SoFar c.args.steps.now l.steps c.args.notes.now l.notes (signed_read inner s l.place v) whole) b.is l.invariant.so_far in
    let moved : c.push.new.self ≡ l.steps ++ step.Move (place_of b.behind.sign) ∷ [] = c.in_ok-push.ensures.ok ∙ ap (λ (p : Place). l.steps ++ step.Move p ∷ []) c.place_of.ensures in
    let p = err_from_is_err_and c.from_residual-in_err-read_compounds.result c.from_residual-in_err-read_compounds.ensures.1 in
    rw (p.1, p.2) (signs_stop inner s l.place b.behind f.first c.args.steps.now l.steps c.push.new.self c.args.notes.now l.notes whole so_far moved f.ensures e.field-0.0
    (fails_setting inner c.setting_with-last.result (last (is_none f.first.behind)) (l.place + 1) f.first.text.now e.field-0.0 same e.ensures))

pub read_signed-signs-preserved : goal.read_signed-signs-preserved
read_signed-signs-preserved t c =
    let l = c.signs in
    let b = c.in-Some in
    let f = c.in_ok-first in
    let s = c.args.setting in
    let inner = argument c.args.levels in
    let r = c.read_compounds in
    let whole = signed_read inner s c.args.at c.args.behind in
    let last : Bool → Setting = λ x. record { nested = s.nested; several = s.several; last = x } in
    let same : c.setting_with-last.result ≡ last (is_none f.first.behind) = c.setting_with-last.ensures ∙ ap last (none_from f.first.behind c.is_none.result c.is_none.ensures) in
    let so_far = subst (λ (v : Option Behind). SoFar c.args.steps.now l.steps c.args.notes.now l.notes (signed_read inner s l.place v) whole) b.is l.invariant.so_far in
    let moved : c.push.new.self ≡ l.steps ++ step.Move (place_of b.behind.sign) ∷ [] = c.in_ok-push.ensures.ok ∙ ap (λ (p : Place). l.steps ++ step.Move p ∷ []) c.place_of.ensures in
    record {
      room = let n = f.ensures.lengths in let m = ap length_behind b.is in let k = l.invariant.room in omega arith;
      so_far = signs_next inner s l.place b.behind f.first c.args.steps.now l.steps c.push.new.self c.args.notes.now l.notes whole so_far moved f.ensures (l.place + (1 + length f.first.text.now)) r.new.steps r.new.notes
          (reads_setting inner c.setting_with-last.result (last (is_none f.first.behind)) (l.place + 1) f.first.text.now c.push.new.self r.new.steps l.notes r.new.notes same c.in_ok-read_compounds.ensures) (omega arith);
    }
