-- What is owed by a reader that stops.
use Rattle.std.specs.Prelude.{◌≡◌, Result, Err}
use Rattle.selector_spelling.specs.declared.finding.Finding.{Finding}
use Rattle.selector_lexer.specs.declared.stop.Stop.{Stop}
use Rattle.selector_lexer.specs.declared.stop.Stop.TheVariants.{NoMemory, Found}

-- a stop that is owed: it has the finding of the definition
abbrev pub Fails : {A : Type 0} → Stop → Result A Finding → Type 0
Fails NoMemory given = Unit {0}
Fails (Found finding) given = given ≡ Err finding
