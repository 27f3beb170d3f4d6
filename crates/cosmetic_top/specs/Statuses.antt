-- How a run ends.
use Rattle.std.specs.Prelude.{ℕ, Bool, true, false, List, [], ◌∷◌, Option, Some, None}
use Rattle.cos_patterns.specs.declared.written.Asked.{Asked}
use Rattle.cos_patterns.specs.declared.written.Asked.TheVariants.{Address}
use Rattle.command_words.specs.declared.command.Command.{Command}
use Rattle.command_words.specs.declared.command.Command.TheVariants as command
use Rattle.command_inputs.specs.declared.status.Status.{Status}
use Rattle.command_inputs.specs.declared.status.Status.TheVariants.{Done, Usage, ReadFault, WriteFault, Refused, NoMemory}
use Rattle.hide_report.specs.declared.writing.ReportError.{ReportError}
use Rattle.hide_report.specs.declared.writing.ReportError.TheVariants.{WriteFault as OutputFault, NoMemory as OutputMemory}

-- an answer that says that nothing was written
abbrev pub is_refusal : Status → Bool
is_refusal Usage = true
is_refusal ReadFault = true
is_refusal (Refused refusal) = true
is_refusal _ = false

-- an answer that a command which was read may end with, unless all is well
abbrev pub IsFailed : Status → Type 0
IsFailed Done = ⊥
IsFailed Usage = ⊥
IsFailed _ = Unit {0}

-- the address that a command asks for
abbrev pub address_of : Command → List Asked
address_of (command.Apply words) = Address words.url ∷ []
address_of (command.Lists words) = []
address_of (command.Drill words) = []

abbrev pub addresses_of : Option Command → List Asked
addresses_of None = []
addresses_of (Some words) = address_of words

-- how a run ends whose report wasn't written whole
abbrev pub status_of : ReportError → Status
status_of OutputFault = WriteFault
status_of OutputMemory = NoMemory

-- the exit status of the program
abbrev pub exit_status : Status → ℕ
exit_status Done = 0
exit_status Usage = 2
exit_status ReadFault = 3
exit_status WriteFault = 4
exit_status (Refused refusal) = 5
exit_status NoMemory = 6
