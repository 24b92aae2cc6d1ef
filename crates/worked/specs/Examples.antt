-- The worked examples, as one statement over the definitions that the contracts of the code cite.
use Rattle.std.specs.Prelude.{◌≡◌, ℕ, ◌/◌, List, [], ◌∷◌, length, take, replicate, Some, None, Ok, Err, slice_set}
use Rattle.calendar.specs.Calendar.{second_if_real, date_if_in_range, weekday_of, dated}
use Rattle.logs.specs.Deeds.{appending, book_of}
use Rattle.logs.specs.Places.{history_log}
use Rattle.memory.specs.Blocks.{corrupt}
use Rattle.memory.specs.Checksum.{checksum_of}
use Rattle.model.specs.States.{Meter}
use Rattle.model.specs.Calls.{formatted, meter_of}
use Rattle.model.specs.Serving.{Served, served}
use Rattle.records.specs.declared.history.EventRecord.{EventRecord}
use Rattle.refusals.specs.declared.fault.ServiceFault.TheVariants.{BadPart}

-- A meter that was formatted new, whatever the memory was, at clock 100; and what it answers to the reader's key.
abbrev pub fresh : Meter
fresh = meter_of (formatted (replicate 27 corrupt)) 100

abbrev pub served100 : List ℕ → Served
served100 request = served 1 request fresh (replicate 1028 0xAA) (replicate 510 0xAA)

pub record Worked : Type 0 where
  -- 2000-03-01 is second 5,184,000
  pub march : second_if_real (dated 0 3 1 0 0 0) ≡ Some 5184000
  -- 2024-02-29 12:30:00 is second 762,525,000, and a Thursday
  pub leap_day : second_if_real (dated 24 2 29 12 30 0) ≡ Some 762525000
  pub thursday : weekday_of (762525000 / 86400) ≡ 4
  pub leap_day_back : date_if_in_range 762525000 ≡ Some (dated 24 2 29 12 30 0)
  -- 2001-02-29 is no date
  pub no_leap_day : second_if_real (dated 1 2 29 0 0 0) ≡ None
  -- the zero block 0 has checksum 1, and with byte 509 = 255 it has 64,530
  pub zero_block : checksum_of 0 (replicate 510 0) ≡ 1
  pub last_byte : checksum_of 0 (slice_set (replicate 510 0) 509 255) ≡ 64530
  -- at clock 100, 30 00 34 gives 00 00 06 00 01 01 00 01 28 D5
  pub clock_read : (served100 (0x30 ∷ 0x00 ∷ 0x34 ∷ [])).result ≡ Ok 10
  pub clock_answer : take 10 (served100 (0x30 ∷ 0x00 ∷ 0x34 ∷ [])).answer ≡ 0x00 ∷ 0x00 ∷ 0x06 ∷ 0x00 ∷ 0x01 ∷ 0x01 ∷ 0x00 ∷ 0x01 ∷ 0x28 ∷ 0xD5 ∷ []
  -- the history is too long to be read whole
  pub history_whole : (served100 (0x30 ∷ 0x00 ∷ 0x4A ∷ [])).result ≡ Err BadPart
  -- the load profile has one byte at 7,401, and not two
  pub last_byte_of_profile : (served100 (0x3F ∷ 0x00 ∷ 0x40 ∷ 0x00 ∷ 0x1C ∷ 0xE9 ∷ 0x00 ∷ 0x01 ∷ [])).result ≡ Ok 5
  pub past_the_profile : (served100 (0x3F ∷ 0x00 ∷ 0x40 ∷ 0x00 ∷ 0x1C ∷ 0xE9 ∷ 0x00 ∷ 0x02 ∷ [])).result ≡ Err BadPart
  -- 102 unread history entries and one more: 102 unread, one overwritten
  pub one_too_many : (r : EventRecord) → length (book_of history_log.size (replicate 103 (appending r))).fresh ≡ 102
  pub one_overwritten : (r : EventRecord) → (book_of history_log.size (replicate 103 (appending r))).overwritten ≡ 1
