-- When block 0 is in order.
use Rattle.std.specs.Prelude.{◌≡◌, ℕ, ◌+◌, ◌<◌, Bool, true, false, ◌&&◌, ◌||◌, List, [], ◌∷◌, length, Some, None, Option, ◌==◌, nat_le, nat_lt, slice_index}
use Rattle.std.specs.List.{list_all}
use Rattle.fields.specs.Words.{part, word}
use Rattle.calendar.specs.Calendar.{seconds_in_all}
use Rattle.pending.specs.declared.plan.Plan.{Plan}
use Rattle.pending.specs.declared.row.Row.{Row}
use Rattle.pending.specs.Triggers.{second_agrees, plan_of}
use Rattle.pending.specs.Rows.{is_row_formed}
use Rattle.head.specs.declared.head.Head.{Head}
use Rattle.logs.specs.declared.head.LogHead.{LogHead}
use Rattle.records.specs.Layouts.{RegistersFit}
use Rattle.head.specs.Layout.{layout_number, row_count, row_length, log_length, log_sizes, activation_length, rows_place, logs_place, activation_place, status_place, rest_place, rest_length}
use Rattle.head.specs.Pieces.{plan_part, log_of}

abbrev pub all_zero : List ℕ → Bool
all_zero bs = list_all (λ b. b == 0) bs

-- The second agrees with the trigger bytes, which are well formed.
abbrev pub plan_agrees : Option Plan → ℕ → Bool
plan_agrees None second = false
plan_agrees (Some plan) second = second_agrees plan.trigger second

-- A row that does not wait is all zeros. One that waits has 1, well-formed trigger bytes, a second that agrees with them, and a zero.
abbrev pub waiting_in_order : List ℕ → Bool
waiting_in_order b = slice_index b 0 == 1 && (slice_index b 11 == 0 && plan_agrees (plan_of (plan_part b)) (word 4 7 b))

abbrev pub row_in_order : List ℕ → Bool
row_in_order b = all_zero b || waiting_in_order b

-- No more is unread than held, no more is held than the log has room for and than was ever recorded.
abbrev pub log_in_order : ℕ → LogHead → Bool
log_in_order size l = nat_le l.unread l.held && (nat_le l.held size && nat_le l.held l.total)

-- A byte that is 0 or 1, and a second of the calendar.
abbrev pub activation_in_order : List ℕ → Bool
activation_in_order b = nat_lt (slice_index b 0) 2 && nat_lt (word 4 1 b) seconds_in_all

unfoldable pub rows_in_order : ℕ → List ℕ → Bool
rows_in_order at c =
    row_in_order (part row_length at c) && (row_in_order (part row_length (at + row_length) c) && row_in_order (part row_length (at + row_length + row_length) c))

unfoldable pub logs_in_order : ℕ → List ℕ → Bool
logs_in_order at c =
    log_in_order (slice_index log_sizes 0) (log_of (part log_length at c))
    && (log_in_order (slice_index log_sizes 1) (log_of (part log_length (at + log_length) c)) && log_in_order (slice_index log_sizes 2) (log_of (part log_length (at + log_length + log_length) c)))

-- The last activation; a status with no bit but 0 and 1; zeros.
unfoldable pub rest_in_order : List ℕ → Bool
rest_in_order c =
    activation_in_order (part activation_length activation_place c) && (nat_lt (slice_index c status_place) 4 && all_zero (part rest_length rest_place c))

-- In order under a layout number: it has that, and every piece is in order.
unfoldable pub in_order_as : ℕ → List ℕ → Bool
in_order_as layout c = word 2 0 c == layout && (rows_in_order rows_place c && (logs_in_order logs_place c && rest_in_order c))

abbrev pub in_order : List ℕ → Bool
in_order c = in_order_as layout_number c

-- A head whose numbers fit, with rows that are well formed and counts in order.
pub record LogFormed (size : ℕ) (l : LogHead) : Type 0 where
  pub counts : log_in_order size l ≡ true
  pub fits : l.total < 4294967296

abbrev pub LogsFormed : List ℕ → List LogHead → Type 0
LogsFormed [] [] = Unit {0}
LogsFormed [] (l ∷ ls) = ⊥
LogsFormed (size ∷ sizes) [] = ⊥
LogsFormed (size ∷ sizes) (l ∷ ls) = LogFormed size l × LogsFormed sizes ls

abbrev pub RowsFormed : List Row → Type 0
RowsFormed [] = Unit {0}
RowsFormed (r ∷ rs) = (is_row_formed r ≡ true) × RowsFormed rs

pub record WellFormed (h : Head) : Type 0 where
  pub three : length h.rows ≡ row_count
  pub rows : RowsFormed h.rows
  pub logs : LogsFormed log_sizes h.logs
  pub activation : h.activation.second < seconds_in_all
  pub registers : RegistersFit h.registers
