use Rattle.std.proofs.Common.{rules, false, ◌≡◌, length, refl, ap, ◌∙◌}
use Rattle.cos_patterns.specs.Written.{written}
use Rattle.cos_patterns.specs.Tables.{is_noted, patterns_in}
use Rattle.cos_patterns.proofs.Agreement.{not_noted, put_new, is_not_large, is_not_unread, patterns_in_more, no_error, an_error, agrees_on_large, said_behind_patterns}
use Rattle.cos_patterns.proofs.Places.{added_is_in, place_at_end}
use Rattle.cos_patterns.proofs.Index.{held_index, large_index, unread_index}
use Rattle.cos_patterns.specs.contracts.table.PatternTable.{the_view}
use Rattle.cos_patterns.proofs.Readings.{pattern_reads}
use Rattle.cos_patterns.proofs.table.PatternTable.ask.Goals as goal

-- the index fits the table again, where it has one pattern more
pub invariant_of-self-in-Ok : goal.invariant_of-self-in-Ok
invariant_of-self-in-Ok g c =
    let key = written c.args.text.now c.args.flags in
    let ok = rw c.in-Ok.is at c.pattern.ensures.ok in
    let count : c.len-number.result ≡ length c.reserve.new.self.items = search rules in
    let new : is_noted key (the_view c.self.inside) ≡ false = ap (is_noted key) c.self.view_is ∙ c.requires.new in
    held_index c.self.inside.notes c.reserve-4.new.self c.set.new.self (the_view c.self.inside) key _ _ _ new c.reserve-4.ensures.same c.self.invariant
    c.len-number.result c.set.ensures (pattern_reads c.args.text.now c.args.flags c.in-Ok.regex ok)
    (count ∙ ap length c.reserve.ensures.items)
    (rw (c.push_in_room.ensures, c.reserve.ensures.items, c.new.ensures, c.in_ok-written.ensures) refl)
    c.reserve-2.ensures.items c.reserve-3.ensures.items

pub invariant_of-self-in-Err-Unreadable : goal.invariant_of-self-in-Err-Unreadable
invariant_of-self-in-Err-Unreadable g c =
    let key = written c.args.text.now c.args.flags in
    let new : is_noted key (the_view c.self.inside) ≡ false = ap (is_noted key) c.self.view_is ∙ c.requires.new in
    unread_index c.self.inside.notes c.reserve-4.new.self c.set-in-Err-Unreadable.new.self (the_view c.self.inside) key _ _ _ new c.reserve-4.ensures.same c.self.invariant
    c.set-in-Err-Unreadable.ensures c.reserve.ensures.items c.reserve-2.ensures.items
    (rw (c.push_in_room-in-Err-Unreadable.ensures, c.reserve-3.ensures.items, c.in_ok-written.ensures) refl)

pub invariant_of-self-in-Err-TooLarge : goal.invariant_of-self-in-Err-TooLarge
invariant_of-self-in-Err-TooLarge g c =
    let key = written c.args.text.now c.args.flags in
    let new : is_noted key (the_view c.self.inside) ≡ false = ap (is_noted key) c.self.view_is ∙ c.requires.new in
    large_index c.self.inside.notes c.reserve-4.new.self c.set-in-Err-TooLarge.new.self (the_view c.self.inside) key _ _ _ new c.reserve-4.ensures.same c.self.invariant
    c.set-in-Err-TooLarge.ensures c.reserve.ensures.items
    (rw (c.push_in_room-in-Err-TooLarge.ensures, c.reserve-2.ensures.items, c.in_ok-written.ensures) refl)
    c.reserve-3.ensures.items

-- the maker refused the pattern in no way
pub returns-in-Ok-clause-bad : goal.returns-in-Ok-clause-bad
returns-in-Ok-clause-bad g c =
    no_error _ _ _ (rw (c.in-Ok.ensures.unread) (is_not_unread _ _ _ _ c.requires.agrees c.requires.new))

pub returns-in-Ok-clause-too_large : goal.returns-in-Ok-clause-too_large
returns-in-Ok-clause-too_large g c =
    no_error _ _ _ (rw (c.in-Ok.ensures.large) (is_not_large _ _ _ _ c.requires.agrees c.requires.new))

-- the maker couldn't read the pattern
pub returns-in-Err-Unreadable-clause-bad : goal.returns-in-Err-Unreadable-clause-bad
returns-in-Err-Unreadable-clause-bad g c =
    let unread = rw c.in-Err-Unreadable.field-0-is at c.in-Err-Unreadable.ensures.unread in
    an_error _ _ (rw unread (added_is_in (written c.args.text.now c.args.flags) (g.M.Maker.unread c.args.maker.now)))

-- the maker refused the pattern for size
pub returns-in-Err-TooLarge-clause-agrees : goal.returns-in-Err-TooLarge-clause-agrees
returns-in-Err-TooLarge-clause-agrees g c =
    let large = rw c.in-Err-TooLarge.field-0-is at c.in-Err-TooLarge.ensures.large in
    let unread = rw c.in-Err-TooLarge.field-0-is at c.in-Err-TooLarge.ensures.unread in
    let large_was = ap (λ table. table.large) c.self.view_is in
    let unread_was = ap (λ table. table.unread) c.self.view_is in
    agrees_on_large c.args.self.now _ _ _ _ _ (written c.args.text.now c.args.flags) c.requires.agrees
    (rw (c.push_in_room-in-Err-TooLarge.ensures, c.reserve-2.ensures.items, c.in_ok-written.ensures, large_was) refl)
    (c.reserve-3.ensures.items ∙ unread_was) large unread

pub returns-in-Err-TooLarge-clause-too_large : goal.returns-in-Err-TooLarge-clause-too_large
returns-in-Err-TooLarge-clause-too_large g c =
    let large = rw c.in-Err-TooLarge.field-0-is at c.in-Err-TooLarge.ensures.large in
    let key = written c.args.text.now c.args.flags in
    an_error _ _ (rw (large, patterns_in_more (g.M.Maker.large c.args.maker.now) key) (added_is_in key (patterns_in (g.M.Maker.large c.args.maker.now))))

-- a pattern that was made stands behind the others
pub returns-in-Ok-clause-number : goal.returns-in-Ok-clause-number
returns-in-Ok-clause-number g c =
    let was = ap (λ table. table.patterns) c.self.view_is in
    let count : c.len-number.result ≡ length c.reserve.new.self.items = search rules in
    rw (count, c.push_in_room.ensures, c.reserve.ensures.items, c.new.ensures, c.in_ok-written.ensures, was)
    (place_at_end (written c.args.text.now c.args.flags) c.args.self.now.patterns (not_noted (written c.args.text.now c.args.flags) c.args.self.now c.requires.new).0)

pub returns-in-Ok-clause-patterns : goal.returns-in-Ok-clause-patterns
returns-in-Ok-clause-patterns g c =
    let was = ap (λ table. table.patterns) c.self.view_is in
    rw (c.push_in_room.ensures, c.reserve.ensures.items, c.new.ensures, c.in_ok-written.ensures, was)
    (put_new (written c.args.text.now c.args.flags) c.args.self.now c.requires.new)

-- what was made was read
pub returns-in-Ok-clause-read : goal.returns-in-Ok-clause-read
returns-in-Ok-clause-read g c =
    let ok = rw c.in-Ok.is at c.pattern.ensures.ok in
    pattern_reads c.args.text.now c.args.flags c.in-Ok.regex ok

-- what is said of other patterns stays
pub returns-in-Ok-clause-others : goal.returns-in-Ok-clause-others
returns-in-Ok-clause-others g c = λ other differs.
    said_behind_patterns c.args.self.now _ _ _ (written c.args.text.now c.args.flags) other differs
    (rw (c.push_in_room.ensures, c.reserve.ensures.items, c.new.ensures, c.in_ok-written.ensures, ap (λ table. table.patterns) c.self.view_is) refl)
    (c.reserve-2.ensures.items ∙ ap (λ table. table.large) c.self.view_is)
    (c.reserve-3.ensures.items ∙ ap (λ table. table.unread) c.self.view_is)
