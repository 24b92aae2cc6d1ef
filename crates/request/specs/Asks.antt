-- What the bytes of a request ask for.
use Rattle.std.specs.Prelude.{ℕ, ◌+◌, ◌%◌, Bool, cond, ◌&&◌, List, length, drop, Some, None, Ok, Err, sum, Option, Result, ◌==◌, slice_index}
use Rattle.fields.specs.Words.{part, big_word}
use Rattle.numbers.specs.declared.service.Service.{Service}
use Rattle.numbers.specs.declared.service.Service.TheVariants.{FullRead, PartialRead, FullWrite, PartialWrite}
use Rattle.numbers.specs.Names.{service_numbered}
use Rattle.refusals.specs.declared.fault.ServiceFault.{ServiceFault}
use Rattle.refusals.specs.declared.fault.ServiceFault.TheVariants.{Malformed, UnknownService}
use Rattle.request.specs.declared.request.Request.{Request}
use Rattle.request.specs.declared.request.Request.TheVariants as request

-- A table whole, a part of it by offset and count, its new bytes, new bytes of it from an offset on.
pub data Ask : Type 0 where
  full_read : ℕ → Ask
  partial_read : ℕ → ℕ → ℕ → Ask
  full_write : ℕ → List ℕ → Ask
  partial_write : ℕ → ℕ → List ℕ → Ask

abbrev pub ask_of : Request → Ask
ask_of (request.FullRead table) = full_read table
ask_of (request.PartialRead table offset count) = partial_read table offset count
ask_of (request.FullWrite table content) = full_write table content.now
ask_of (request.PartialWrite table offset content) = partial_write table offset content.now

abbrev pub asked : Result Request ServiceFault → Result Ask ServiceFault
asked (Ok q) = Ok (ask_of q)
asked (Err e) = Err e

abbrev pub table_of : Ask → ℕ
table_of (full_read table) = table
table_of (partial_read table offset count) = table
table_of (full_write table content) = table
table_of (partial_write table offset content) = table

abbrev pub service_of : Ask → Service
service_of (full_read table) = FullRead
service_of (partial_read table offset count) = PartialRead
service_of (full_write table content) = FullWrite
service_of (partial_write table offset content) = PartialWrite

-- After a head so many bytes and a check, which sum to 0 modulo 256.
abbrev pub whole : ℕ → ℕ → List ℕ → Bool
whole head count bs = length bs == head + count + 1 && sum (drop head bs) % 256 == 0

-- The requests, by service. Numbers are most significant byte first.
abbrev pub full_read_ask : List ℕ → Result Ask ServiceFault
full_read_ask bs = cond (length bs == 3) (Ok (full_read (big_word 2 1 bs))) (Err Malformed)

abbrev pub partial_read_ask : List ℕ → Result Ask ServiceFault
partial_read_ask bs = cond (length bs == 8) (Ok (partial_read (big_word 2 1 bs) (big_word 3 3 bs) (big_word 2 6 bs))) (Err Malformed)

abbrev pub full_write_ask : List ℕ → Result Ask ServiceFault
full_write_ask bs = cond (whole 5 (big_word 2 3 bs) bs) (Ok (full_write (big_word 2 1 bs) (part (big_word 2 3 bs) 5 bs))) (Err Malformed)

abbrev pub partial_write_ask : List ℕ → Result Ask ServiceFault
partial_write_ask bs = cond (whole 8 (big_word 2 6 bs) bs) (Ok (partial_write (big_word 2 1 bs) (big_word 3 3 bs) (part (big_word 2 6 bs) 8 bs))) (Err Malformed)

abbrev pub by_service : Option Service → List ℕ → Result Ask ServiceFault
by_service (Some FullRead) bs = full_read_ask bs
by_service (Some PartialRead) bs = partial_read_ask bs
by_service (Some FullWrite) bs = full_write_ask bs
by_service (Some PartialWrite) bs = partial_write_ask bs
by_service None bs = Err UnknownService

abbrev pub ask_in : List ℕ → Result Ask ServiceFault
ask_in bs = cond (length bs == 0) (Err Malformed) (by_service (service_numbered (slice_index bs 0)) bs)
