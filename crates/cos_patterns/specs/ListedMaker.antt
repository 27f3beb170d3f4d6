-- What a maker for tests shows.
use Rattle.std.specs.Prelude.{List}
use Rattle.cos_patterns.specs.declared.listed_maker.ListedMaker.{ListedMaker}
use Rattle.cos_patterns.specs.declared.listed_maker.Plan.{Plan}
use Rattle.cos_patterns.specs.declared.written.Asked.{Asked}
use Rattle.cos_patterns.specs.declared.written.Written.{Written}

-- what it refused for size
abbrev pub large_of : ListedMaker → List Asked
large_of maker = maker.maker.large

-- the patterns that it couldn't read
abbrev pub unread_of : ListedMaker → List Written
unread_of maker = maker.maker.unread

-- which calls are answered `TooLarge`
abbrev pub plan_of : ListedMaker → Plan
plan_of maker = maker.plan
