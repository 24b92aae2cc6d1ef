-- The cause and the place of each fault.
use Rattle.std.specs.Prelude.{ℕ}
use Rattle.memory.specs.declared.fault.MemoryFault.{MemoryFault}
use Rattle.memory.specs.declared.fault.MemoryFault.TheVariants as memory
use Rattle.numbers.specs.Names.{log_number}
use Rattle.refusals.specs.declared.cause.Cause.{Cause}
use Rattle.refusals.specs.declared.cause.Cause.TheVariants as cause
use Rattle.refusals.specs.declared.fault.MeterFault.{MeterFault}
use Rattle.refusals.specs.declared.fault.MeterFault.TheVariants as meter
use Rattle.refusals.specs.declared.fault.ServiceFault.{ServiceFault}
use Rattle.refusals.specs.declared.fault.ServiceFault.TheVariants as service

abbrev pub memory_cause : MemoryFault → Cause
memory_cause (memory.TooSmall size) = cause.TooSmall
memory_cause (memory.Corrupt block) = cause.Corrupt

abbrev pub meter_cause : MeterFault → Cause
meter_cause (meter.Memory e) = memory_cause e
meter_cause meter.OutOfOrder = cause.OutOfOrder
meter_cause meter.BadSecond = cause.BadSecond
meter_cause (meter.LogLimit log) = cause.LogLimit

abbrev pub service_cause : ServiceFault → Cause
service_cause (service.Meter e) = meter_cause e
service_cause (service.ShortBuffer long) = cause.ShortBuffer
service_cause service.Malformed = cause.Malformed
service_cause service.UnknownService = cause.UnknownService
service_cause service.Clearance = cause.Clearance
service_cause (service.UnknownTable number) = cause.UnknownTable
service_cause service.NoSuchUse = cause.NoSuchUse
service_cause service.BadPart = cause.BadPart
service_cause service.BadContent = cause.BadContent
service_cause service.NotReady = cause.NotReady

-- A size, a block, a log's number, a length, a table's number as asked for; otherwise 0.
abbrev pub memory_place : MemoryFault → ℕ
memory_place (memory.TooSmall size) = size
memory_place (memory.Corrupt block) = block

abbrev pub meter_place : MeterFault → ℕ
meter_place (meter.Memory e) = memory_place e
meter_place meter.OutOfOrder = 0
meter_place meter.BadSecond = 0
meter_place (meter.LogLimit log) = log_number log

abbrev pub service_place : ServiceFault → ℕ
service_place (service.Meter e) = meter_place e
service_place (service.ShortBuffer long) = long
service_place service.Malformed = 0
service_place service.UnknownService = 0
service_place service.Clearance = 0
service_place (service.UnknownTable number) = number
service_place service.NoSuchUse = 0
service_place service.BadPart = 0
service_place service.BadContent = 0
service_place service.NotReady = 0
