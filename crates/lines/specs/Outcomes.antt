-- What a list answers to a line, by its key.
use Rattle.std.specs.Prelude.{ℕ, List, length, is_some, if◌then◌else◌, Ok, Err, Result, nat_lt}
use Rattle.lines.specs.declared.fault.ListFault.{ListFault}
use Rattle.lines.specs.declared.fault.ListFault.TheVariants.{Full, KeyPresent, KeyAbsent}
use Rattle.lines.specs.Lookups.{lookup}

module _ {L : Type 0} (key : L → ℕ) where
  -- to add the line to the lines xs, in a memory of n places
  abbrev pub to_add : ℕ → List L → L → Result (Unit {0}) ListFault
  to_add n xs line = if is_some (lookup key (key line) xs) then Err KeyPresent else (if nat_lt (length xs) n then Ok tt else Err Full)

  -- to replace the line of xs that has the line's key
  abbrev pub to_replace : List L → L → Result (Unit {0}) ListFault
  to_replace xs line = if is_some (lookup key (key line) xs) then Ok tt else Err KeyAbsent
