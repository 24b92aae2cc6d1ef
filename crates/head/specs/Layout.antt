-- Where the pieces of block 0 stand: the layout number, the rows, the log heads, the last activation, the registers, the status, and zeros.
use Rattle.std.specs.Prelude.{ℕ, ◌+◌, ◌-◌, ◌*◌, List, [], ◌∷◌}
use Rattle.logs.specs.Places.{history_log, self_read_log, load_profile_log}

abbrev pub block_length : ℕ
block_length = 510

abbrev pub layout_number : ℕ
layout_number = 1

-- Rows and logs: how many, and the bytes of each.
abbrev pub row_count : ℕ
row_count = 3

abbrev pub row_length : ℕ
row_length = 12

abbrev pub log_count : ℕ
log_count = 3

abbrev pub log_length : ℕ
log_length = 8

-- How many records a log can hold: the history, the self-reads, the load profile.
abbrev pub log_sizes : List ℕ
log_sizes = history_log.size ∷ self_read_log.size ∷ load_profile_log.size ∷ []

abbrev pub activation_length : ℕ
activation_length = 5

abbrev pub registers_length : ℕ
registers_length = 20

abbrev pub rows_place : ℕ
rows_place = 2

abbrev pub logs_place : ℕ
logs_place = rows_place + row_count * row_length

abbrev pub activation_place : ℕ
activation_place = logs_place + log_count * log_length

abbrev pub registers_place : ℕ
registers_place = activation_place + activation_length

abbrev pub status_place : ℕ
status_place = registers_place + registers_length

-- The place of a row and of a log head, counted from 0.
abbrev pub row_place : ℕ → ℕ
row_place k = rows_place + k * row_length

abbrev pub log_place : ℕ → ℕ
log_place k = logs_place + k * log_length

abbrev pub rest_place : ℕ
rest_place = status_place + 1

abbrev pub rest_length : ℕ
rest_length = block_length - rest_place
