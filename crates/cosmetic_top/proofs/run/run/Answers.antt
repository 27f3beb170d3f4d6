use Rattle.std.proofs.Common.{◌≡◌, ◌∙◌, ◌+◌, ◌≤◌, ◌++◌, List, ℕ, Err, ap, map, string_bytes, subst, sym}
use Rattle.std.specs.List.{concat}
use Rattle.cos_outside.specs.Runs.{AppendsPrefix}
use Rattle.command_words.specs.Commands.{command_of}
use Rattle.cosmetic_top.specs.Runs.{AppendsWhole}
use Rattle.cosmetic_top.proofs.Ends.{texts_are}
use Rattle.remove_rounds.specs.Costs.{questions, single_tests}
use Rattle.cosmetic_top.proofs.Spending.{words_costs}
use Rattle.cosmetic_top.proofs.run.run.Goals as goal

pub returns-in-Ok-clause-output : goal.returns-in-Ok-clause-output
returns-in-Ok-clause-output g c = λ t s e.
    let written = g.O.Sink.written in
    let said = sym c.in-Ok-Some.ensures ∙ c.in-Ok-Some.field-0-is in
    subst (λ (texts : List (List ℕ)). written c.obey.new.out ≡ written c.args.out.now ++ concat texts)
    (texts_are (command_of (map string_bytes c.args.words.now)) c.in-Ok-Some.command (g.S.Shelf.files c.args.shelf.now) (g.M.Maker.large c.obey.new.maker) (g.M.Maker.unread c.obey.new.maker) said)
    (c.in-Ok.ensures.runs.output t s)

pub returns-in-Ok-clause-front : goal.returns-in-Ok-clause-front
returns-in-Ok-clause-front g c = λ t s.
    let written = g.O.Sink.written in
    let said = sym c.in-Ok-Some.ensures ∙ c.in-Ok-Some.field-0-is in
    subst (λ (texts : List (List ℕ)). AppendsPrefix (written c.args.out.now) (written c.obey.new.out) (concat texts))
    (texts_are (command_of (map string_bytes c.args.words.now)) c.in-Ok-Some.command (g.S.Shelf.files c.args.shelf.now) (g.M.Maker.large c.obey.new.maker) (g.M.Maker.unread c.obey.new.maker) said)
    (c.in-Ok.ensures.runs.front t s)

pub returns-in-Ok-Some-clause-front : goal.returns-in-Ok-Some-clause-front
returns-in-Ok-Some-clause-front g c = λ t s.
    let written = g.O.Sink.written in
    let said = sym c.in-Ok-Some.ensures ∙ c.in-Ok-Some.field-0-is in
    subst (λ (texts : List (List ℕ)). AppendsPrefix (written c.args.out.now) (written c.obey.new.out) (concat texts))
    (texts_are (command_of (map string_bytes c.args.words.now)) c.in-Ok-Some.command (g.S.Shelf.files c.args.shelf.now) (g.M.Maker.large c.obey.new.maker) (g.M.Maker.unread c.obey.new.maker) said)
    (c.in-Err-obey.ensures.runs.front t s)

pub returns-in-Ok-Some-clause-whole : goal.returns-in-Ok-Some-clause-whole
returns-in-Ok-Some-clause-whole g c = λ t s e.
    let written = g.O.Sink.written in
    let said = sym c.in-Ok-Some.ensures ∙ c.in-Ok-Some.field-0-is in
    subst (λ (texts : List (List ℕ)). AppendsWhole (written c.args.out.now) (written c.obey.new.out) texts)
    (texts_are (command_of (map string_bytes c.args.words.now)) c.in-Ok-Some.command (g.S.Shelf.files c.args.shelf.now) (g.M.Maker.large c.obey.new.maker) (g.M.Maker.unread c.obey.new.maker) said)
    (c.in-Err-obey.ensures.runs.whole t s (ap Err e))

pub returns-in-Ok-clause-checks : goal.returns-in-Ok-clause-checks
returns-in-Ok-clause-checks g c t =
    let said = sym c.in-Ok-Some.ensures ∙ c.in-Ok-Some.field-0-is in
    subst (λ n. c.obey.new.checks ≤ c.args.checks.now + n)
    (words_costs questions (command_of (map string_bytes c.args.words.now)) c.in-Ok-Some.command (g.S.Shelf.files c.args.shelf.now) (g.M.Maker.large c.obey.new.maker) (g.M.Maker.unread c.obey.new.maker) said)
    (c.in-Ok.ensures.checks t)

pub returns-in-Ok-Some-clause-checks : goal.returns-in-Ok-Some-clause-checks
returns-in-Ok-Some-clause-checks g c t =
    let said = sym c.in-Ok-Some.ensures ∙ c.in-Ok-Some.field-0-is in
    subst (λ n. c.obey.new.checks ≤ c.args.checks.now + n)
    (words_costs questions (command_of (map string_bytes c.args.words.now)) c.in-Ok-Some.command (g.S.Shelf.files c.args.shelf.now) (g.M.Maker.large c.obey.new.maker) (g.M.Maker.unread c.obey.new.maker) said)
    (c.in-Err-obey.ensures.checks t)

pub returns-in-Ok-clause-parts : goal.returns-in-Ok-clause-parts
returns-in-Ok-clause-parts g c t =
    let said = sym c.in-Ok-Some.ensures ∙ c.in-Ok-Some.field-0-is in
    subst (λ n. c.obey.new.parts ≤ c.args.parts.now + n)
    (words_costs single_tests (command_of (map string_bytes c.args.words.now)) c.in-Ok-Some.command (g.S.Shelf.files c.args.shelf.now) (g.M.Maker.large c.obey.new.maker) (g.M.Maker.unread c.obey.new.maker) said)
    (c.in-Ok.ensures.parts t)

pub returns-in-Ok-Some-clause-parts : goal.returns-in-Ok-Some-clause-parts
returns-in-Ok-Some-clause-parts g c t =
    let said = sym c.in-Ok-Some.ensures ∙ c.in-Ok-Some.field-0-is in
    subst (λ n. c.obey.new.parts ≤ c.args.parts.now + n)
    (words_costs single_tests (command_of (map string_bytes c.args.words.now)) c.in-Ok-Some.command (g.S.Shelf.files c.args.shelf.now) (g.M.Maker.large c.obey.new.maker) (g.M.Maker.unread c.obey.new.maker) said)
    (c.in-Err-obey.ensures.parts t)
