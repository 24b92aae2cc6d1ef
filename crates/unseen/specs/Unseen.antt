-- What no answer depends on: the bytes of slots that hold no entry, of staging blocks whose row does not wait, and behind a table.
use Rattle.std.specs.Prelude.{◌≡◌, ℕ, ◌+◌, ◌-◌, ◌*◌, ◌<◌, ◌≤◌, min, true, false, List, ◌++◌, length, take, drop, Ok, Err, Result, ◌≢◌}
use Rattle.access.specs.Ready.{needed, content_of, stored}
use Rattle.calendar.specs.Calendar.{seconds_in_all}
use Rattle.fields.specs.Patches.{patch}
use Rattle.memory.specs.Blocks.{Block, Whole}
use Rattle.numbers.specs.declared.log.LogName.{LogName}
use Rattle.logs.specs.Slots.{per_block, slot_bytes, put_slot}
use Rattle.logs.specs.Tables.{is_held}
use Rattle.pending.specs.declared.table.PendingTable.{PendingTable}
use Rattle.pending.specs.Rows.{is_waiting}
use Rattle.refusals.specs.declared.fault.MeterFault.{MeterFault}
use Rattle.directory.specs.declared.entry.TableEntry.{TableEntry}
use Rattle.directory.specs.Geometry.{log_place, log_blocks, staged_length, current_block, pending_block}
use Rattle.head.specs.declared.head.Head.{Head}
use Rattle.head.specs.Heads.{decode_head}
use Rattle.model.specs.States.{Meter, row_of, log_of}
use Rattle.model.specs.Tables.{utility_table, current_table, staged_table}
use Rattle.model.specs.Calls.{Started, Done, started, tick, energy, stopped}
use Rattle.model.specs.Requests.{staging}
use Rattle.model.specs.Serving.{Served, admitted, served}
use Rattle.model.specs.Soundness.{SoundImage, SoundMeter}

-- What can be seen of two memories under one head is the same: the utility table, the tables in force, the staged tables that wait, and the slots of held entries.
pub record SameSeen (h : Head) (a b : List Block) : Type 0 where
  pub utility : utility_table a ≡ utility_table b
  pub current : (t : PendingTable) → current_table t a ≡ current_table t b
  pub staged : (t : PendingTable) → is_waiting (row_of t h) ≡ true → staged_table t a ≡ staged_table t b
  pub slots : (name : LogName) (slot : ℕ) → slot < (log_place name).size → is_held (log_place name) (log_of name h) slot ≡ true → slot_bytes (log_place name) slot a ≡ slot_bytes (log_place name) slot b

-- What block 0 says.
abbrev pub said_by : List Block → Head
said_by bs = decode_head (content_of bs 0)

-- Two memories that differ only in what cannot be seen.
pub record Alike (a b : List Block) : Type 0 where
  pub left : SoundImage a
  pub right : SoundImage b
  pub zero : content_of a 0 ≡ content_of b 0
  pub seen : SameSeen (said_by a) a b

pub record AlikeMeters (m n : Meter) : Type 0 where
  pub blocks : Alike m.blocks n.blocks
  pub real : m.clock < seconds_in_all
  pub clock : m.clock ≡ n.clock
  pub response : m.response ≡ n.response

-- Two starts that go alike: both give a meter or both refuse, for the same reason.
abbrev pub AlikeAnswers : Result Meter MeterFault → Result Meter MeterFault → Type 0
AlikeAnswers (Ok m) (Ok n) = AlikeMeters m n
AlikeAnswers (Ok m) (Err f) = ⊥
AlikeAnswers (Err e) (Ok n) = ⊥
AlikeAnswers (Err e) (Err f) = e ≡ f

pub record AlikeStarts (x y : Started) : Type 0 where
  pub answer : AlikeAnswers x.answer y.answer
  pub blocks : Alike x.blocks y.blocks
  pub entries : x.entries ≡ y.entries

pub record AlikeDone (x y : Done) : Type 0 where
  pub answer : x.answer ≡ y.answer
  pub meter : AlikeMeters x.meter y.meter
  pub entries : x.entries ≡ y.entries

pub record AlikeServed (x y : Served) : Type 0 where
  pub result : x.result ≡ y.result
  pub meter : AlikeMeters x.meter y.meter
  pub answer : x.answer ≡ y.answer
  pub scratch : x.scratch ≡ y.scratch
  pub entries : x.entries ≡ y.entries
  pub procedure : x.procedure ≡ y.procedure

-- Memories that are alike answer alike, and are alike after every call, refused or not.
pub record AnswersAlike : Type 0 where
  pub start : (a b : List Block) (s : ℕ) → Alike a b → AlikeStarts (started a s) (started b s)
  pub tick : (m n : Meter) → AlikeMeters m n → AlikeDone (tick m) (tick n)
  pub energy : (wh : ℕ) (m n : Meter) → AlikeMeters m n → AlikeDone (energy wh m) (energy wh n)
  pub serve : (key : ℕ) (bytes : List ℕ) (m n : Meter) (answer scratch : List ℕ) → AlikeMeters m n → AlikeServed (served key bytes m answer scratch) (served key bytes n answer scratch)
  pub stop : (m n : Meter) → AlikeMeters m n → Alike (stopped m) (stopped n)

-- How many bytes the slots of a log take in the block that is so far from its first: the last block may have fewer slots.
abbrev pub slot_span : LogName → ℕ → ℕ
slot_span name k = min (per_block (log_place name)) ((log_place name).size - k * per_block (log_place name)) * (log_place name).width

-- What stays of a memory that nobody sees: the bytes behind each table and behind the slots of each block of a log, the slots that hold no entry when the call is over, and the blocks that a meter does not need.
pub record OwnKept (before after : List Block) : Type 0 where
  pub utility : drop 40 (content_of after 1) ≡ drop 40 (content_of before 1)
  pub current : (t : PendingTable) → drop (staged_length t) (content_of after (current_block t)) ≡ drop (staged_length t) (content_of before (current_block t))
  pub staging : (t : PendingTable) → drop (staged_length t) (content_of after (pending_block t)) ≡ drop (staged_length t) (content_of before (pending_block t))
  pub slots : (name : LogName) (slot : ℕ) → slot < (log_place name).size → is_held (log_place name) (log_of name (said_by after)) slot ≡ false → slot_bytes (log_place name) slot after ≡ slot_bytes (log_place name) slot before
  pub logs : (name : LogName) (k : ℕ) → k < log_blocks name → drop (slot_span name k) (content_of after ((log_place name).first + k)) ≡ drop (slot_span name k) (content_of before ((log_place name).first + k))
  pub beyond : drop needed after ≡ drop needed before

-- A staging block is as it was.
abbrev pub StagingKept : List Block → List Block → PendingTable → Type 0
StagingKept before after t = content_of after (pending_block t) ≡ content_of before (pending_block t)

-- Every call leaves a memory its own. Only a staging that is admitted alters a staging block, and only that of its table.
pub record KeepsItsOwn : Type 0 where
  pub start : (bs : List Block) (s : ℕ) → SoundImage bs → OwnKept bs (started bs s).blocks × ((t : PendingTable) → StagingKept bs (started bs s).blocks t)
  pub tick : (m : Meter) → SoundMeter m → OwnKept m.blocks (tick m).meter.blocks × ((t : PendingTable) → StagingKept m.blocks (tick m).meter.blocks t)
  pub energy : (wh : ℕ) (m : Meter) → SoundMeter m → OwnKept m.blocks (energy wh m).meter.blocks × ((t : PendingTable) → StagingKept m.blocks (energy wh m).meter.blocks t)
  pub serve : (key : ℕ) (bytes : List ℕ) (m : Meter) (answer scratch : List ℕ) → SoundMeter m →
      OwnKept m.blocks (served key bytes m answer scratch).meter.blocks
      × ((t : PendingTable) → ((e : TableEntry) (content : List ℕ) → admitted key bytes m ≢ Ok (staging e t content)) → StagingKept m.blocks (served key bytes m answer scratch).meter.blocks t)

-- What is not seen may be anything. A sound memory is like itself with other bytes in a slot that holds no entry, in the staging block of a row that does not wait,
-- behind a table or the slots of a log's block, and in the blocks that a meter does not need; and what is alike is so all round.
pub record UnseenIsFree : Type 0 where
  pub slot : (bs : List Block) (name : LogName) (slot : ℕ) (bytes : List ℕ) → SoundImage bs → slot < (log_place name).size → length bytes ≡ (log_place name).width →
      is_held (log_place name) (log_of name (said_by bs)) slot ≡ false → Alike bs (put_slot (log_place name) slot bytes bs)
  pub staging : (bs : List Block) (t : PendingTable) (content : List ℕ) → SoundImage bs → length content ≡ 510 → is_waiting (row_of t (said_by bs)) ≡ false → Alike bs (stored bs (pending_block t) content)
  pub utility : (bs : List Block) (from : ℕ) (bytes : List ℕ) → SoundImage bs → 40 ≤ from → from + length bytes ≤ 510 → Alike bs (stored bs 1 (patch from bytes (content_of bs 1)))
  pub current : (bs : List Block) (t : PendingTable) (from : ℕ) (bytes : List ℕ) → SoundImage bs → staged_length t ≤ from → from + length bytes ≤ 510 →
      Alike bs (stored bs (current_block t) (patch from bytes (content_of bs (current_block t))))
  pub staged : (bs : List Block) (t : PendingTable) (from : ℕ) (bytes : List ℕ) → SoundImage bs → staged_length t ≤ from → from + length bytes ≤ 510 →
      Alike bs (stored bs (pending_block t) (patch from bytes (content_of bs (pending_block t))))
  pub logs : (bs : List Block) (name : LogName) (k from : ℕ) (bytes : List ℕ) → SoundImage bs → k < log_blocks name → slot_span name k ≤ from → from + length bytes ≤ 510 →
      Alike bs (stored bs ((log_place name).first + k) (patch from bytes (content_of bs ((log_place name).first + k))))
  pub beyond : (bs rest : List Block) → SoundImage bs → Whole rest → Alike bs (take needed bs ++ rest)
  pub same : (a b c : List Block) → Alike a b → Alike a c → Alike b c
