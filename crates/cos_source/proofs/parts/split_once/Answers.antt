use Rattle.std.proofs.lemmas.Str.Pattern.{split_parts}
use Rattle.cos_source.proofs.Cuts.{before_found, behind_found, before-whole, behind-whole}
use Rattle.cos_source.proofs.parts.split_once.Goals as goal

pub returns-in-Some-clause-before : goal.returns-in-Some-clause-before
returns-in-Some-clause-before c =
    let found = rw c.in-Some.is at (split_parts c.args.separator c.args.text.now c.split_once.result c.split_once.ensures.cases c.requires) in
    before_found c.args.separator c.args.text.now c.in-Some.before.now c.in-Some.behind.now found.0 found.1

pub returns-in-Some-clause-behind : goal.returns-in-Some-clause-behind
returns-in-Some-clause-behind c =
    let found = rw c.in-Some.is at (split_parts c.args.separator c.args.text.now c.split_once.result c.split_once.ensures.cases c.requires) in
    behind_found c.args.separator c.args.text.now c.in-Some.before.now c.in-Some.behind.now found.0 found.1

pub returns-in-None-clause-before : goal.returns-in-None-clause-before
returns-in-None-clause-before c =
    let none = rw c.in-None.is at (split_parts c.args.separator c.args.text.now c.split_once.result c.split_once.ensures.cases c.requires) in
    before-whole c.args.separator c.args.text.now none

pub returns-in-None-clause-behind : goal.returns-in-None-clause-behind
returns-in-None-clause-behind c =
    let none = rw c.in-None.is at (split_parts c.args.separator c.args.text.now c.split_once.result c.split_once.ensures.cases c.requires) in
    behind-whole c.args.separator c.args.text.now none
