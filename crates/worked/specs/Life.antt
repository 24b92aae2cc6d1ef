-- A life that is worked out: four stagings with their fates, and the account of the history.
use Rattle.std.specs.Prelude.{◌≡◌, ℕ, List, [], ◌∷◌, ◌++◌, map, replicate, slice_index_or}
use Rattle.memory.specs.Blocks.{Block, corrupt}
use Rattle.numbers.specs.declared.log.LogName.TheVariants.{History}
use Rattle.calendar.specs.Calendar.{dated}
use Rattle.records.specs.declared.event.Event.TheVariants.{PowerUp, TimeChanged, TableWritten, ProcedureInvoked, PendingActivated, SelfReadTaken}
use Rattle.records.specs.Layouts.{event_record_bytes}
use Rattle.pending.specs.declared.table.PendingTable.TheVariants.{Override}
use Rattle.fates.specs.Stagings.{Fate, waits, took_force, replaced, withdrawn, Staging}
use Rattle.ledger.specs.Meanings.{Call, start, tick, serve}
use Rattle.ledger.specs.Ledger.{history_book}
use Rattle.ledger.specs.Statement.{ledger_after, memory_after, table_in, table_of, total_shown, unread_shown}

-- Any memory of 27 blocks, here one that is all corrupt before its format; and a request with the master's key.
abbrev pub memory : List Block
memory = replicate 27 corrupt

abbrev pub ask : List ℕ → Call
ask request = serve 2 request (replicate 1028 0) (replicate 510 0)

-- The override with tier 2 that waits for a procedure; the override with tier 3 in ten seconds; the outputs, and their withdrawal; the calendar, waiting for a procedure.
abbrev pub on_command : Call
on_command = ask (0x40 ∷ 0x18 ∷ 0x2F ∷ 0x00 ∷ 0x16 ∷ (0x02 ∷ replicate 5 0 ++ (0x02 ∷ replicate 15 0 ++ (0xFC ∷ []))))

abbrev pub in_ten_seconds : Call
in_ten_seconds = ask (0x40 ∷ 0x18 ∷ 0x2F ∷ 0x00 ∷ 0x16 ∷ (0x01 ∷ 0x00 ∷ 0x00 ∷ 0x00 ∷ 0x00 ∷ 0x0A ∷ (0x03 ∷ replicate 15 0 ++ (0xF2 ∷ []))))

abbrev pub outputs : Call
outputs = ask (0x40 ∷ 0x18 ∷ 0x05 ∷ 0x00 ∷ 0x42 ∷ (0x02 ∷ replicate 65 0 ++ (0xFE ∷ [])))

abbrev pub withdraw_outputs : Call
withdraw_outputs = ask (0x40 ∷ 0x00 ∷ 0x07 ∷ 0x00 ∷ 0x05 ∷ (0x0F ∷ 0x00 ∷ 0x01 ∷ 0x05 ∷ 0x08 ∷ (0xE3 ∷ [])))

abbrev pub calendar : Call
calendar = ask (0x40 ∷ 0x10 ∷ 0x36 ∷ 0x00 ∷ 0x7E ∷ (0x02 ∷ replicate 9 0 ++ (replicate 24 1 ++ (replicate 92 0 ++ (0xE6 ∷ [])))))

-- Three entries of the history are acknowledged; the history is cleared.
abbrev pub acknowledge_three : Call
acknowledge_three = ask (0x40 ∷ 0x00 ∷ 0x07 ∷ 0x00 ∷ 0x06 ∷ (0x05 ∷ 0x00 ∷ 0x02 ∷ 0x01 ∷ 0x03 ∷ 0x00 ∷ (0xF5 ∷ [])))

abbrev pub clear_history : Call
clear_history = ask (0x40 ∷ 0x00 ∷ 0x07 ∷ 0x00 ∷ 0x04 ∷ (0x04 ∷ 0x00 ∷ 0x03 ∷ 0x01 ∷ (0xF8 ∷ [])))

-- The life up to the ninth tick, the tenth, and the end.
abbrev pub nine : List Call
nine = start 100 ∷ on_command ∷ in_ten_seconds ∷ outputs ∷ withdraw_outputs ∷ replicate 9 tick

abbrev pub ten : List Call
ten = nine ++ (tick ∷ [])

abbrev pub whole : List Call
whole = ten ++ (calendar ∷ acknowledge_three ∷ clear_history ∷ [])

abbrev pub fate_of : Staging → Fate
fate_of s = s.fate

pub record WorkedLife : Type 0 where
  -- the tier comes with the tenth tick, and not with the ninth
  pub not_yet : slice_index_or (table_in Override (memory_after memory nine)) 0 0 ≡ 0
  pub then : slice_index_or (table_in Override (memory_after memory ten)) 0 0 ≡ 3
  -- one staging was replaced, one took force, one was withdrawn and one waits
  pub fates : map fate_of (ledger_after memory whole).account.stagings ≡ replaced ∷ took_force ∷ withdrawn ∷ waits ∷ []
  -- nine entries were recorded: three acknowledged, five cleared unread, one unread, none overwritten
  pub recorded : (history_book (ledger_after memory whole)).recorded ≡ 9
  pub acknowledged : (history_book (ledger_after memory whole)).acknowledged ≡ 3
  pub cleared : (history_book (ledger_after memory whole)).cleared ≡ 5
  pub overwritten : (history_book (ledger_after memory whole)).overwritten ≡ 0
  pub total : total_shown (table_of History (memory_after memory whole)) ≡ 9
  pub unread : unread_shown (table_of History (memory_after memory whole)) ≡ 1
  -- the bytes of the six events, on 2024-02-29 at 12:30:05
  pub power_up : event_record_bytes (record { at = dated 24 2 29 12 30 5; event = PowerUp }) ≡ 24 ∷ 2 ∷ 29 ∷ 12 ∷ 30 ∷ 5 ∷ 1 ∷ 0 ∷ 0 ∷ 0 ∷ []
  pub time_changed : event_record_bytes (record { at = dated 24 2 29 12 30 5; event = TimeChanged }) ≡ 24 ∷ 2 ∷ 29 ∷ 12 ∷ 30 ∷ 5 ∷ 2 ∷ 0 ∷ 0 ∷ 0 ∷ []
  pub table_written : event_record_bytes (record { at = dated 24 2 29 12 30 5; event = TableWritten 6191 }) ≡ 24 ∷ 2 ∷ 29 ∷ 12 ∷ 30 ∷ 5 ∷ 3 ∷ 0 ∷ 0x2F ∷ 0x18 ∷ []
  pub procedure_invoked : event_record_bytes (record { at = dated 24 2 29 12 30 5; event = ProcedureInvoked 15 }) ≡ 24 ∷ 2 ∷ 29 ∷ 12 ∷ 30 ∷ 5 ∷ 4 ∷ 0 ∷ 15 ∷ 0 ∷ []
  pub activated : event_record_bytes (record { at = dated 24 2 29 12 30 5; event = PendingActivated 2095 }) ≡ 24 ∷ 2 ∷ 29 ∷ 12 ∷ 30 ∷ 5 ∷ 5 ∷ 0 ∷ 0x2F ∷ 0x08 ∷ []
  pub self_read_taken : event_record_bytes (record { at = dated 24 2 29 12 30 5; event = SelfReadTaken }) ≡ 24 ∷ 2 ∷ 29 ∷ 12 ∷ 30 ∷ 5 ∷ 6 ∷ 0 ∷ 0 ∷ 0 ∷ []
