-- What stands of block 0, with no program in between.
use Rattle.std.specs.Prelude.{◌≡◌, ℕ, ◌<◌, true, List, [], ◌∷◌, length, slice_index}
use Rattle.fields.specs.Patches.{patch}
use Rattle.pending.specs.declared.row.Row.{Row}
use Rattle.pending.specs.Rows.{is_row_formed}
use Rattle.head.specs.declared.head.Activation.{Activation}
use Rattle.head.specs.declared.head.Head.{Head}
use Rattle.logs.specs.declared.head.LogHead.{LogHead}
use Rattle.records.specs.declared.registers.Registers.{Registers}
use Rattle.records.specs.declared.status.Status.{Status}
use Rattle.head.specs.Layout.{block_length, row_count, log_count, log_sizes, row_place, log_place, activation_place, registers_place, status_place}
use Rattle.records.specs.Statuses.{status_byte}
use Rattle.records.specs.Layouts.{register_bytes}
use Rattle.head.specs.Pieces.{row_bytes, log_bytes, activation_bytes}
use Rattle.head.specs.Heads.{decode_head, encode_head, with_row, with_log, with_activation, with_registers, with_status}
use Rattle.head.specs.Order.{in_order, LogFormed, WellFormed}

-- Block 0 in order is 510 bytes that say a well-formed head, and its encoding. A well-formed head is what its encoding says, which is in order.
pub record Laws : Type 0 where
  pub long : (h : Head) → WellFormed h → length (encode_head h) ≡ block_length
  pub reads : (h : Head) → WellFormed h → decode_head (encode_head h) ≡ h
  pub in_order_lem : (h : Head) → WellFormed h → in_order (encode_head h) ≡ true
  pub writes : (c : List ℕ) → length c ≡ block_length → ((i : ℕ) → slice_index c i < 256) → in_order c ≡ true → encode_head (decode_head c) ≡ c
  pub formed : (c : List ℕ) → length c ≡ block_length → ((i : ℕ) → slice_index c i < 256) → in_order c ≡ true → WellFormed (decode_head c)

-- A head of three rows and three log heads with one thing changed: in block 0 the bytes of that are others, and no byte beside them. It stays well formed.
pub record Frames : Type 0 where
  pub row : (h : Head) (k : ℕ) (r : Row) → length h.rows ≡ row_count → length h.logs ≡ log_count → k < row_count → encode_head (with_row k r h) ≡ patch (row_place k) (row_bytes r) (encode_head h)
  pub log : (h : Head) (k : ℕ) (l : LogHead) → length h.rows ≡ row_count → length h.logs ≡ log_count → k < log_count → encode_head (with_log k l h) ≡ patch (log_place k) (log_bytes l) (encode_head h)
  pub activation : (h : Head) (a : Activation) → length h.rows ≡ row_count → length h.logs ≡ log_count → encode_head (with_activation a h) ≡ patch activation_place (activation_bytes a) (encode_head h)
  pub registers : (h : Head) (g : Registers) → length h.rows ≡ row_count → length h.logs ≡ log_count → encode_head (with_registers g h) ≡ patch registers_place (register_bytes g) (encode_head h)
  pub status : (h : Head) (s : Status) → length h.rows ≡ row_count → length h.logs ≡ log_count → encode_head (with_status s h) ≡ patch status_place (status_byte s ∷ []) (encode_head h)
  pub row_kept : (h : Head) (k : ℕ) (r : Row) → WellFormed h → is_row_formed r ≡ true → WellFormed (with_row k r h)
  pub log_kept : (h : Head) (k : ℕ) (l : LogHead) → WellFormed h → LogFormed (slice_index log_sizes k) l → WellFormed (with_log k l h)
