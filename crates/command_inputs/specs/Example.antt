-- What is due of the files of commands, computed.
use Rattle.std.specs.Prelude.{ℕ, ◌≡◌, List, [], ◌∷◌, Some, None, Ok, Err, codes, refl, if◌then◌else◌}
use Rattle.std.specs.Str.{bytes_eq}
use Rattle.command_words.specs.declared.command.Lists.{Lists}
use Rattle.command_inputs.specs.declared.TheConstants.{FILE_LIMIT, ADDRESS_LIMIT, LIST_LIMIT}
use Rattle.command_inputs.specs.declared.status.File.TheVariants as file
use Rattle.command_inputs.specs.declared.status.Status.TheVariants.{ReadFault, Refused}
use Rattle.command_inputs.specs.declared.status.InputRefusal.TheVariants.{TooManyLists, TooLong}
use Rattle.command_inputs.specs.Due.{Files, file_due}
use Rattle.command_inputs.specs.Inputs.{lists_due, lists_inputs, few_lists}

-- the limits

sixteen_mebibytes : FILE_LIMIT ≡ 16777216
sixteen_mebibytes = refl

address_bytes : ADDRESS_LIMIT ≡ 65536
address_bytes = refl

most_lists : LIST_LIMIT ≡ 32
most_lists = refl

-- two lists, of three bytes and of two
abbrev files : Files
files name = if bytes_eq name (codes "a") then Some (codes "##p") else if bytes_eq name (codes "b") then Some (codes "! ") else None

both_read : lists_due 1 5 (codes "a" ∷ codes "b" ∷ []) files ≡ record { begun = codes "a" ∷ codes "b" ∷ []; answer = Ok (codes "##p" ∷ codes "! " ∷ []) }
both_read = refl

-- the limit is for both together, and the one that passes it is named
second_too_long : lists_due 1 4 (codes "a" ∷ codes "b" ∷ codes "c" ∷ []) files ≡ record { begun = codes "a" ∷ codes "b" ∷ []; answer = Err (Refused (TooLong (file.List 2))) }
second_too_long = refl

-- behind a missing file none is begun
missing_first : lists_due 1 5 (codes "c" ∷ codes "a" ∷ []) files ≡ record { begun = codes "c" ∷ []; answer = Err ReadFault }
missing_first = refl
