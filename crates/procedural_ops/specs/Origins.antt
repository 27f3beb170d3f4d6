-- The chain of a filter that is asked about.
use Rattle.std.specs.Prelude.{List}
use Rattle.selector_tree.specs.declared.selector.Step.{Step}
use Rattle.procedural_ops.specs.Others.{chain_at}
use Rattle.procedural_ops.specs.declared.own_others.Origin.{Origin}

abbrev pub chain_of : Origin → List Step
chain_of origin = chain_at origin.active.now origin.filter origin.chain
