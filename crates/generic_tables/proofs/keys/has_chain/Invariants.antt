use Rattle.std.proofs.Common.{◌≡◌, false, map, take}
use Rattle.std.specs.List.{list_any}
use Rattle.generic_tables.specs.Keys.{key_of_chain}
use Rattle.generic_tables.specs.Carried.{key_in, same_key}
use Rattle.generic_tables.proofs.keys.has_chain.Given as goal

-- no chain so far has the key
abbrev pub invariant-loop-chain : goal.invariant-loop-chain
invariant-loop-chain l = list_any (same_key (key_in l.key)) (map key_of_chain (take l.chain-index l.selector)) ≡ false
