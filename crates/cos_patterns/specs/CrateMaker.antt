-- What a maker of the crates shows.
use Rattle.std.specs.Prelude.{List}
use Rattle.cos_patterns.specs.declared.crate_maker.CrateMaker.{CrateMaker}
use Rattle.cos_patterns.specs.declared.written.Asked.{Asked}
use Rattle.cos_patterns.specs.declared.written.Written.{Written}

-- what it refused for size
abbrev pub large_of : CrateMaker → List Asked
large_of maker = maker.large

-- the patterns that it couldn't read
abbrev pub unread_of : CrateMaker → List Written
unread_of maker = maker.unread
