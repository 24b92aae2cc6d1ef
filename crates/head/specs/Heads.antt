-- The whole of block 0 as bytes, and back.
use Rattle.std.specs.Prelude.{ℕ, ◌+◌, List, [], ◌∷◌, ◌++◌, replicate, slice_index, slice_set}
use Rattle.std.specs.List.{flat_map}
use Rattle.fields.specs.Words.{part, le_bytes}
use Rattle.pending.specs.declared.row.Row.{Row}
use Rattle.head.specs.declared.head.Activation.{Activation}
use Rattle.head.specs.declared.head.Head.{Head}
use Rattle.logs.specs.declared.head.LogHead.{LogHead}
use Rattle.records.specs.declared.registers.Registers.{Registers}
use Rattle.records.specs.declared.status.Status.{Status}
use Rattle.head.specs.Layout.{layout_number, row_length, log_length, activation_length, registers_length, rows_place, logs_place, activation_place, registers_place, status_place, rest_length}
use Rattle.records.specs.Statuses.{status_byte}
use Rattle.records.specs.Layouts.{register_bytes, registers_at}
use Rattle.head.specs.Pieces.{row_bytes, row_of, log_bytes, log_of, activation_bytes, activation_of, status_of}

-- Three pieces of one length from a place on.
abbrev pub three_from : {P : Type 0} → (List ℕ → P) → ℕ → ℕ → List ℕ → List P
three_from said n at c = said (part n at c) ∷ said (part n (at + n) c) ∷ said (part n (at + n + n) c) ∷ []

-- What stands from a place on.
unfoldable pub rows_from : ℕ → List ℕ → List Row
rows_from at c = three_from row_of row_length at c

unfoldable pub logs_from : ℕ → List ℕ → List LogHead
logs_from at c = three_from log_of log_length at c

unfoldable pub activation_from : ℕ → List ℕ → Activation
activation_from at c = activation_of (part activation_length at c)

unfoldable pub registers_from : ℕ → List ℕ → Registers
registers_from at c = registers_at 0 (part registers_length at c)

unfoldable pub status_from : ℕ → List ℕ → Status
status_from at c = status_of (slice_index c at)

-- What block 0 says.
abbrev pub decode_head : List ℕ → Head
decode_head c = record {
  rows = rows_from rows_place c;
  logs = logs_from logs_place c;
  activation = activation_from activation_place c;
  registers = registers_from registers_place c;
  status = status_from status_place c;
}

-- The bytes under a layout number.
unfoldable pub encode_as : ℕ → Head → List ℕ
encode_as layout h =
    le_bytes 2 layout ++ (flat_map row_bytes h.rows ++ (flat_map log_bytes h.logs ++ (activation_bytes h.activation ++ (register_bytes h.registers ++ (status_byte h.status ∷ [] ++ replicate rest_length 0)))))

-- Block 0 that says so.
abbrev pub encode_head : Head → List ℕ
encode_head h = encode_as layout_number h

-- A head with one thing changed.
abbrev pub with_row : ℕ → Row → Head → Head
with_row k r h = record { rows = slice_set h.rows k r; logs = h.logs; activation = h.activation; registers = h.registers; status = h.status }

abbrev pub with_log : ℕ → LogHead → Head → Head
with_log k l h = record { rows = h.rows; logs = slice_set h.logs k l; activation = h.activation; registers = h.registers; status = h.status }

abbrev pub with_activation : Activation → Head → Head
with_activation a h = record { rows = h.rows; logs = h.logs; activation = a; registers = h.registers; status = h.status }

abbrev pub with_registers : Registers → Head → Head
with_registers g h = record { rows = h.rows; logs = h.logs; activation = h.activation; registers = g; status = h.status }

abbrev pub with_status : Status → Head → Head
with_status s h = record { rows = h.rows; logs = h.logs; activation = h.activation; registers = h.registers; status = s }
