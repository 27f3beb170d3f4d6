-- What came of a call on a tree, or that there was no memory for it.
use Rattle.std.specs.Prelude.{Result, Ok, Err, alloc_error}
use Rattle.std.specs.declared.alloc.AllocError.{AllocError}
use Rattle.dom_arena.specs.declared.refusals.DomError.{DomError}
use Rattle.dom_arena.specs.declared.refusals.DomError.TheVariants as errors
use Rattle.mutation_script.specs.declared.answer.Outcome.{Outcome}
use Rattle.mutation_script.specs.declared.answer.Outcome.TheVariants.{Done, Refused}

abbrev pub refused : DomError → Result Outcome AllocError
refused (errors.NoSuchNode n) = Ok (Refused (errors.NoSuchNode n))
refused (errors.NotElement n) = Ok (Refused (errors.NotElement n))
refused (errors.NotText n) = Ok (Refused (errors.NotText n))
refused (errors.BadPlace place) = Ok (Refused (errors.BadPlace place))
refused (errors.IntoItself n) = Ok (Refused (errors.IntoItself n))
refused errors.IsDocument = Ok (Refused errors.IsDocument)
refused errors.TooDeep = Ok (Refused errors.TooDeep)
refused errors.TooManyNodes = Ok (Refused errors.TooManyNodes)
refused errors.NoMemory = Err alloc_error

abbrev pub told : {T : Type 0} → Result T DomError → Result Outcome AllocError
told (Ok value) = Ok Done
told (Err error) = refused error
