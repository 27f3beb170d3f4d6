use Rattle.std.proofs.Common.{◌∙◌, sym, subst, arith}
use Rattle.list_lines.specs.Meanings.{DomainBy}
use Rattle.list_reader.specs.declared.TheConstants.{LINE_LIMIT}
use Rattle.list_reader.proofs.BadHosts.{bad_by}
use Rattle.list_reader.proofs.entries.read_page.Goals as goal

pub bad_host-requires : goal.bad_host-requires
bad_host-requires c =
    let ends = subst (DomainBy LINE_LIMIT) c.in-Some.is c.requires in
    omega (arith, ends, bad_by 124 c.in-BadHost.at c.in-Some.hosts.text.now (sym c.in-BadHost.is ∙ c.in_ok-at.ensures))
