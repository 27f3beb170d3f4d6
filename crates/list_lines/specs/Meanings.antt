-- What the reader's answers for a line stand for.
use Rattle.std.specs.Prelude.{ℕ, ◌≤◌, ◌+◌, List, length, Option, Some, None}
use Rattle.cos_source.specs.declared.parts.Part.{Part}
use Rattle.list_lines.specs.declared.line.Directive.{Directive}
use Rattle.list_lines.specs.declared.line.Directive.TheVariants.{If, Else, Endif, Include}
use Rattle.list_lines.specs.declared.line.LineForm.{LineForm}
use Rattle.list_lines.specs.declared.line.LineForm.TheVariants as form
use Rattle.list_lines.specs.declared.options.Domain.{Domain}
use Rattle.list_lines.specs.declared.options.Domain.TheVariants.{Silent, Hosts, Unread}
use Rattle.list_lines.specs.Lines.{DirectiveMeaning, opens, divides, closes, includes, LineMeaning, nothing, directive, hides, switches, noted}
use Rattle.list_lines.specs.Options.{Besides, silent, hosts, unread}

abbrev pub part_of : Part → ℕ × List ℕ
part_of part = (part.place, part.text.now)

abbrev pub domain_of : Option Part → Option (ℕ × List ℕ)
domain_of None = None
domain_of (Some part) = Some (part_of part)

abbrev pub besides_of : Domain → Besides
besides_of Silent = silent
besides_of (Hosts part) = hosts part.place part.text.now
besides_of Unread = unread

abbrev pub directive_meaning : Directive → DirectiveMeaning
directive_meaning (If condition) = opens condition.now
directive_meaning Else = divides
directive_meaning Endif = closes
directive_meaning Include = includes

abbrev pub meaning_of : LineForm → LineMeaning
meaning_of form.Nothing = nothing
meaning_of (form.Directive at d) = directive at (directive_meaning d)
meaning_of (form.Hide line) = hides line.exception (part_of line.hosts) (part_of line.selector)
meaning_of (form.Page line) = switches line.pattern.now line.options (domain_of line.domain)
meaning_of (form.Noted finding) = noted finding

-- a part that isn't past this place
abbrev pub PartBy : ℕ → Part → Type 0
PartBy limit part = part.place + length part.text.now ≤ limit

abbrev pub DomainBy : ℕ → Option Part → Type 0
DomainBy limit None = Unit {0}
DomainBy limit (Some part) = PartBy limit part

-- no part of a line is past this place
abbrev pub EndsBy : ℕ → LineForm → Type 0
EndsBy limit form.Nothing = Unit {0}
EndsBy limit (form.Directive at d) = Unit {0}
EndsBy limit (form.Hide line) = PartBy limit line.hosts × PartBy limit line.selector
EndsBy limit (form.Page line) = DomainBy limit line.domain
EndsBy limit (form.Noted finding) = Unit {0}

abbrev pub HostsBy : ℕ → Domain → Type 0
HostsBy limit Silent = Unit {0}
HostsBy limit (Hosts part) = PartBy limit part
HostsBy limit Unread = Unit {0}
