-- When each cause of a refusal is possible, and what is its place, whatever else may be wrong.
use Rattle.std.specs.Prelude.{◌≡◌, ℕ, ◌+◌, ◌%◌, ◌<◌, ◌≤◌, true, false, ◌⊎◌, List, length, take, drop, Some, None, Ok, sum, slice_index, slice_index_or}
use Rattle.access.specs.Ready.{needed, content_of}
use Rattle.calendar.specs.Calendar.{seconds_in_all}
use Rattle.fields.specs.Words.{big_word}
use Rattle.fields.specs.Patches.{patch}
use Rattle.memory.specs.Blocks.{Block, corrupt}
use Rattle.numbers.specs.declared.log.LogName.{LogName}
use Rattle.numbers.specs.declared.service.Key.TheVariants.{Reader, Master}
use Rattle.numbers.specs.declared.service.Service.{Service}
use Rattle.numbers.specs.declared.service.Service.TheVariants.{FullRead, PartialRead, FullWrite, PartialWrite}
use Rattle.numbers.specs.Names.{log_number, service_number, key_number}
use Rattle.request.specs.Asks.{Ask, full_read, partial_read, full_write, partial_write, ask_in, table_of, service_of}
use Rattle.pending.specs.declared.row.Row.TheVariants.{Empty}
use Rattle.pending.specs.Triggers.{plan_of}
use Rattle.directory.specs.declared.entry.View.{View}
use Rattle.directory.specs.declared.entry.View.TheVariants.{PendingStatus, Response, Registers, Clock}
use Rattle.directory.specs.declared.entry.Source.{Source}
use Rattle.directory.specs.declared.entry.Source.TheVariants as source
use Rattle.directory.specs.declared.entry.TableEntry.{TableEntry}
use Rattle.directory.specs.Tables.{numbered}
use Rattle.directory.specs.Uses.{allows, least}
use Rattle.head.specs.Heads.{decode_head}
use Rattle.head.specs.Order.{in_order}
use Rattle.model.specs.States.{Meter, log_of, row_of}
use Rattle.model.specs.Calls.{log_limit}
use Rattle.model.specs.Tables.{current_table}
use Rattle.model.specs.Tariffs.{is_right}
use Rattle.model.specs.Requests.{Deed, reading, writing, staging, calling, staged_due, decided}
use Rattle.model.specs.Serving.{head_of}
use Rattle.causes.specs.Leaving.{answer_room, scratch_room}

-- 1: there are too few blocks; the place is how many there are.
abbrev pub TooSmall : List Block → ℕ → Type 0
TooSmall bs place = (length bs < needed) × (place ≡ length bs)

-- 2: a block that is needed and exists is corrupt; the place is the lowest such.
abbrev pub IsCorrupt : List Block → ℕ → Type 0
IsCorrupt bs n = (n < needed) × (n < length bs) × (slice_index_or bs n corrupt ≡ corrupt)

abbrev pub LowestCorrupt : List Block → ℕ → Type 0
LowestCorrupt bs place = IsCorrupt bs place × ((lower : ℕ) → lower < place → IsCorrupt bs lower → ⊥)

-- 3: block 0 is not in order.
abbrev pub OutOfOrder : List Block → ℕ → Type 0
OutOfOrder bs place = (in_order (content_of bs 0) ≡ false) × (place ≡ 0)

-- 4: a second is not in the calendar.
abbrev pub BadSecond : ℕ → ℕ → Type 0
BadSecond s place = (seconds_in_all ≤ s) × (place ≡ 0)

-- 5: a log has recorded more than the limit; the place is the number of the first such log.
abbrev pub IsOver : List Block → LogName → Type 0
IsOver bs name = log_limit < (log_of name (decode_head (content_of bs 0))).total

abbrev pub FirstOver : List Block → ℕ → Type 0
FirstOver bs place = (name : LogName) × (place ≡ log_number name) × IsOver bs name × ((other : LogName) → log_number other < log_number name → IsOver bs other → ⊥)

-- 6: a buffer is too short; the place is its length.
abbrev pub ShortAnswer : List ℕ → ℕ → Type 0
ShortAnswer answer place = (length answer < answer_room) × (place ≡ length answer)

abbrev pub ShortScratch : List ℕ → ℕ → Type 0
ShortScratch scratch place = (length scratch < scratch_room) × (place ≡ length scratch)

-- 7: a request is empty; or it has the first byte of a service, and not its length or not its check.
abbrev pub EmptyRequest : List ℕ → ℕ → Type 0
EmptyRequest bytes place = (length bytes ≡ 0) × (place ≡ 0)

abbrev pub Calls : List ℕ → Service → Type 0
Calls bytes s = service_number s ≡ slice_index bytes 0

abbrev pub Shaped : Service → List ℕ → Type 0
Shaped FullRead bytes = length bytes ≡ 3
Shaped PartialRead bytes = length bytes ≡ 8
Shaped FullWrite bytes = (length bytes ≡ 5 + big_word 2 3 bytes + 1) × (sum (drop 5 bytes) % 256 ≡ 0)
Shaped PartialWrite bytes = (length bytes ≡ 8 + big_word 2 6 bytes + 1) × (sum (drop 8 bytes) % 256 ≡ 0)

abbrev pub Misshapen : List ℕ → ℕ → Type 0
Misshapen bytes place = (s : Service) × Calls bytes s × (Shaped s bytes → ⊥) × (place ≡ 0)

-- 8: the first byte of a request is no service's.
abbrev pub UnknownService : List ℕ → ℕ → Type 0
UnknownService bytes place = (0 < length bytes) × ((s : Service) → Calls bytes s → ⊥) × (place ≡ 0)

-- 9: a request was read, and the key is not one that may ask so: to read either, to write the master's.
abbrev pub Cleared : ℕ → Service → Type 0
Cleared key FullRead = (key ≡ key_number Reader) ⊎ (key ≡ key_number Master)
Cleared key PartialRead = (key ≡ key_number Reader) ⊎ (key ≡ key_number Master)
Cleared key FullWrite = key ≡ key_number Master
Cleared key PartialWrite = key ≡ key_number Master

abbrev pub Uncleared : ℕ → List ℕ → ℕ → Type 0
Uncleared key bytes place = (ask : Ask) × (ask_in bytes ≡ Ok ask) × (Cleared key (service_of ask) → ⊥) × (place ≡ 0)

-- 10: it asks for a table that there is not; the place is the number asked for.
abbrev pub UnknownTable : List ℕ → ℕ → Type 0
UnknownTable bytes place = (ask : Ask) × (ask_in bytes ≡ Ok ask) × (numbered (table_of ask) ≡ None) × (place ≡ table_of ask)

-- 11: the table is not for that service.
abbrev pub NoSuchUse : List ℕ → ℕ → Type 0
NoSuchUse bytes place =
    (ask : Ask) × (ask_in bytes ≡ Ok ask) × (t : TableEntry) × (numbered (table_of ask) ≡ Some t) × (allows t.access (service_of ask) ≡ false) × (place ≡ 0)

-- 12: the table is, and the count or the part does not fit it. A part has a byte at least and ends with the table, an answer has room for 1,024 bytes.
abbrev pub Fits : TableEntry → Ask → Type 0
Fits t (full_read table) = t.length ≤ 1024
Fits t (partial_read table offset count) = (0 < count) × (offset + count ≤ t.length) × (count ≤ 1024)
Fits t (full_write table bytes) = (least t.length t.source ≤ length bytes) × (length bytes ≤ t.length)
Fits t (partial_write table offset bytes) = (0 < length bytes) × (offset + length bytes ≤ t.length)

abbrev pub BadPart : List ℕ → ℕ → Type 0
BadPart bytes place =
    (ask : Ask) × (ask_in bytes ≡ Ok ask) × (t : TableEntry) × (numbered (table_of ask) ≡ Some t) × (allows t.access (service_of ask) ≡ true) × (Fits t ask → ⊥) × (place ≡ 0)

-- 13: a deed was decided, and its content is against the rules: of a calendar or an override as the write would leave or stage it, or of trigger bytes.
abbrev pub WrongTable : Source → ℕ → List ℕ → List Block → Type 0
WrongTable (source.Computed view) from bytes bs = ⊥
WrongTable source.Initiate from bytes bs = ⊥
WrongTable source.Utility from bytes bs = ⊥
WrongTable (source.Staged t) from bytes bs = is_right t (patch from bytes (current_table t bs)) ≡ false
WrongTable (source.Pending t) from bytes bs = ⊥
WrongTable (source.Log name) from bytes bs = ⊥

abbrev pub Wrong : Deed → Meter → Type 0
Wrong (reading t p) m = ⊥
Wrong (writing t from bytes) m = WrongTable t.source from bytes m.blocks
Wrong (staging t table bytes) m = (staged_due (plan_of (take 6 bytes)) m.clock ≡ None) ⊎ (is_right table (drop 6 bytes) ≡ false)
Wrong (calling bytes) m = ⊥

abbrev pub BadContent : ℕ → List ℕ → Meter → ℕ → Type 0
BadContent key bytes m place = (deed : Deed) × (decided key bytes ≡ Ok deed) × Wrong deed m × (place ≡ 0)

-- 14: what is to be read is not there yet: a response since start, a staging that waits.
abbrev pub NoView : View → Meter → Type 0
NoView PendingStatus m = ⊥
NoView Response m = m.response ≡ None
NoView Registers m = ⊥
NoView Clock m = ⊥

abbrev pub NothingIn : Source → Meter → Type 0
NothingIn (source.Computed view) m = NoView view m
NothingIn source.Initiate m = ⊥
NothingIn source.Utility m = ⊥
NothingIn (source.Staged t) m = ⊥
NothingIn (source.Pending t) m = row_of t (head_of m) ≡ Empty
NothingIn (source.Log name) m = ⊥

abbrev pub Lacking : Deed → Meter → Type 0
Lacking (reading t p) m = NothingIn t.source m
Lacking (writing t from bytes) m = ⊥
Lacking (staging t table bytes) m = ⊥
Lacking (calling bytes) m = ⊥

abbrev pub NotReady : ℕ → List ℕ → Meter → ℕ → Type 0
NotReady key bytes m place = (deed : Deed) × (decided key bytes ≡ Ok deed) × Lacking deed m × (place ≡ 0)

-- 5 of a service: the deed is a write, and a log has recorded more than the limit.
abbrev pub IsWrite : Deed → Type 0
IsWrite (reading t p) = ⊥
IsWrite (writing t from bytes) = Unit {0}
IsWrite (staging t table bytes) = Unit {0}
IsWrite (calling bytes) = Unit {0}

abbrev pub WriteOver : ℕ → List ℕ → List Block → ℕ → Type 0
WriteOver key bytes bs place = (deed : Deed) × (decided key bytes ≡ Ok deed) × IsWrite deed × FirstOver bs place
