use Rattle.std.proofs.Common.{sym}
use Rattle.cos_source.proofs.LastSpaces.{last_space_goes, other_end_stays}
use Rattle.cos_source.proofs.spaces.trim_end.Goals as goal

pub spaces-preserved : goal.spaces-preserved
spaces-preserved c =
    last_space_goes c.spaces.rest.now c.in-Some.more.now _ c.in-Some.last.now c.in-Some.ensures.cases.0 (sym c.if-not-is_space.ensures) c.spaces.invariant

pub returns-then-not-is_space : goal.returns-then-not-is_space
returns-then-not-is_space c =
    other_end_stays c.spaces.rest.now c.in-Some.more.now _ c.in-Some.last.now c.in-Some.ensures.cases.0 (sym c.if-not-is_space.ensures) c.spaces.invariant
