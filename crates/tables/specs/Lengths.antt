-- How many bytes a table shows.
use Rattle.std.specs.Prelude.{ℕ, ◌+◌, ◌≤◌}
use Rattle.logs.specs.Tables.{table_length}
use Rattle.directory.specs.declared.entry.View.{View}
use Rattle.directory.specs.declared.entry.View.TheVariants.{PendingStatus, Response, Registers, Clock}
use Rattle.directory.specs.declared.entry.Source.{Source}
use Rattle.directory.specs.declared.entry.Source.TheVariants.{Computed, Initiate, Utility, Staged, Pending, Log}
use Rattle.directory.specs.declared.entry.TableEntry.{TableEntry}
use Rattle.directory.specs.Geometry.{staged_length, log_place}
use Rattle.model.specs.Requests.{Deed, reading, writing, staging, calling}

abbrev pub view_length : View → ℕ
view_length PendingStatus = 31
view_length Response = 4
view_length Registers = 20
view_length Clock = 6

-- By where the bytes come from. What starts a procedure shows none.
abbrev pub shown_length : Source → ℕ
shown_length (Computed view) = view_length view
shown_length Initiate = 0
shown_length Utility = 40
shown_length (Staged t) = staged_length t
shown_length (Pending t) = 6 + staged_length t
shown_length (Log name) = table_length (log_place name)

-- Every byte that a table is said to have is shown.
abbrev pub Shown : TableEntry → Type 0
Shown t = t.length ≤ shown_length t.source

-- A read that can be answered: its part lies in what the table shows, and has room in an answer. Other deeds read no table.
abbrev pub Answerable : Deed → Type 0
Answerable (reading t p) = (p.from + p.count ≤ shown_length t.source) × (p.count ≤ 1024)
Answerable (writing t from bytes) = Unit {0}
Answerable (staging t table bytes) = Unit {0}
Answerable (calling bytes) = Unit {0}
