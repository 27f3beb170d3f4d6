use Rattle.std.proofs.Common.{◌∙◌, sym, arith}
use Rattle.list_reader.proofs.BadHosts.{bad_by}
use Rattle.list_reader.proofs.entries.read_hide.Goals as goal

pub bad_host-requires : goal.bad_host-requires
bad_host-requires g c =
    omega (arith, c.requires.hosts, bad_by 44 c.in-BadHost.at c.args.line.hosts.text.now (sym c.in-BadHost.is ∙ c.in_ok-at.ensures))
