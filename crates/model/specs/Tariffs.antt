-- The tariff: which tier counts, what is a right table, and when the calendar asks for a self-read.
use Rattle.std.specs.Prelude.{ℕ, ◌+◌, ◌/◌, ◌%◌, ◌^◌, Bool, true, cond, ◌&&◌, ◌||◌, List, [], ◌∷◌, ◌==◌, nat_le, nat_lt, slice_index}
use Rattle.calendar.specs.Calendar.{weekday_of}
use Rattle.fields.specs.Words.{part}
use Rattle.pending.specs.declared.table.PendingTable.{PendingTable}
use Rattle.pending.specs.declared.table.PendingTable.TheVariants.{Calendar, Outputs, Override}
use Rattle.records.specs.declared.registers.Registers.{Registers}

-- The tiers are 1 to 4.
abbrev pub is_tier : ℕ → Bool
is_tier n = nat_le 1 n && nat_le n 4

-- The hour of a second, its minute, and its second of the minute.
abbrev pub hour_of : ℕ → ℕ
hour_of s = s % 86400 / 3600

abbrev pub minute_of : ℕ → ℕ
minute_of s = s % 86400 / 60 % 60

-- The tier of each hour stands from byte 4 of the calendar on.
abbrev pub hour_tier : List ℕ → ℕ → ℕ
hour_tier calendar s = slice_index calendar (4 + hour_of s)

-- The override's tier if it has one, else the hour's if that is one, else 1.
abbrev pub active_tier : List ℕ → List ℕ → ℕ → ℕ
active_tier override calendar s = cond (is_tier (slice_index override 0)) (slice_index override 0) (cond (is_tier (hour_tier calendar s)) (hour_tier calendar s) 1)

-- Bits 0 and 1 of the calendar's byte 0 choose a daily and a weekly self-read.
abbrev pub is_daily : List ℕ → Bool
is_daily calendar = slice_index calendar 0 % 2 == 1

abbrev pub is_weekly : List ℕ → Bool
is_weekly calendar = slice_index calendar 0 / 2 % 2 == 1

-- The calendar asks for a self-read at second 0 of its hour and minute, on every day if daily, and on its weekday if weekly.
unfoldable pub is_scheduled : List ℕ → ℕ → Bool
is_scheduled calendar s =
    (s % 60 == 0) && (minute_of s == slice_index calendar 3 && (hour_of s == slice_index calendar 2 && (is_daily calendar || (is_weekly calendar && weekday_of (s / 86400) == slice_index calendar 1))))

-- A right calendar: no other bit of byte 0, a weekday, an hour, a minute, and a tier for each hour.
abbrev pub all_tiers : List ℕ → Bool
all_tiers [] = true
all_tiers (b ∷ bs) = is_tier b && all_tiers bs

abbrev pub is_right : PendingTable → List ℕ → Bool
is_right Calendar c = nat_lt (slice_index c 0) 4 && (nat_lt (slice_index c 1) 7 && (nat_lt (slice_index c 2) 24 && (nat_lt (slice_index c 3) 60 && all_tiers (part 24 4 c))))
is_right Outputs c = true
is_right Override c = nat_le (slice_index c 0) 4

-- Registers wrap at 32 bits.
abbrev pub added : ℕ → ℕ → ℕ
added n wh = (n + wh) % 2 ^ 32

abbrev pub added_if : ℕ → ℕ → ℕ → ℕ → ℕ
added_if tier active n wh = cond (tier == active) (added n wh) n

-- Energy is added to the total and to the active tier.
abbrev pub fed : ℕ → ℕ → Registers → Registers
fed active wh r = record {
  total = added r.total wh;
  tier1 = added_if 1 active r.tier1 wh;
  tier2 = added_if 2 active r.tier2 wh;
  tier3 = added_if 3 active r.tier3 wh;
  tier4 = added_if 4 active r.tier4 wh;
}
