-- Parts of a table's bytes.
use Rattle.std.specs.Prelude.{ℕ, ◌+◌, cond, ◌||◌, Ok, Err, Result, ◌==◌, nat_lt}
use Rattle.refusals.specs.declared.fault.ServiceFault.{ServiceFault}
use Rattle.refusals.specs.declared.fault.ServiceFault.TheVariants.{BadPart}
use Rattle.request.specs.declared.part.Part.{Part}

abbrev pub whole_part : ℕ → Part
whole_part length = record { from = 0; count = length }

-- A part has at least one byte, and none past the table's end.
abbrev pub part_verdict : ℕ → ℕ → ℕ → Result Part ServiceFault
part_verdict from count length = cond (count == 0 || nat_lt length (from + count)) (Err BadPart) (Ok (record { from = from; count = count }))
