-- The byte of a status.
use Rattle.std.specs.Prelude.{◌≡◌, ℕ, ◌+◌, ◌/◌, ◌%◌, cond, Some, None, Option, Result, ok_or, ◌==◌, nat_lt}
use Rattle.std.specs.Result.{result_ok}
use Rattle.records.specs.declared.status.Status.{Status}
use Rattle.records.specs.declared.status.NoStatus.{NoStatus}
use Rattle.records.specs.Codes.{Reads}

-- Bit 0: a start. Bit 1: a clock setting. The other bits are 0.
abbrev pub status_byte : Status → ℕ
status_byte s = cond s.started 1 0 + cond s.clock_set 2 0

abbrev pub status_of : ℕ → Option Status
status_of byte =
    cond (nat_lt byte 4) (Some (record { started = (byte % 2 == 1); clock_set = (byte / 2 == 1) })) None

-- A byte that was tried as a status: the status that is written so, and if there is none, the byte.
pub record IsStatusOf (byte : ℕ) (r : Result Status NoStatus) : Type 0 where
  pub equation : r ≡ ok_or (status_of byte) (record { 0 = byte })
  pub reads : Reads status_byte byte (result_ok r)
