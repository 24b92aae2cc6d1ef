-- The number, the layer and the answer code of each cause.
use Rattle.std.specs.Prelude.{ℕ, Some, None, Option}
use Rattle.numbers.specs.declared.service.AnswerCode.{AnswerCode}
use Rattle.numbers.specs.declared.service.AnswerCode.TheVariants as code
use Rattle.refusals.specs.declared.cause.Layer.{Layer}
use Rattle.refusals.specs.declared.cause.Layer.TheVariants as layer
use Rattle.refusals.specs.declared.cause.Cause.{Cause}
use Rattle.refusals.specs.declared.cause.Cause.TheVariants.{TooSmall, Corrupt, OutOfOrder, BadSecond, LogLimit, ShortBuffer, Malformed, UnknownService, Clearance, UnknownTable, NoSuchUse, BadPart, BadContent, NotReady}

abbrev pub cause_number : Cause → ℕ
cause_number TooSmall = 1
cause_number Corrupt = 2
cause_number OutOfOrder = 3
cause_number BadSecond = 4
cause_number LogLimit = 5
cause_number ShortBuffer = 6
cause_number Malformed = 7
cause_number UnknownService = 8
cause_number Clearance = 9
cause_number UnknownTable = 10
cause_number NoSuchUse = 11
cause_number BadPart = 12
cause_number BadContent = 13
cause_number NotReady = 14

-- The layer is the cause's, whatever was called.
abbrev pub layer_of : Cause → Layer
layer_of TooSmall = layer.Memory
layer_of Corrupt = layer.Memory
layer_of OutOfOrder = layer.Meter
layer_of BadSecond = layer.Meter
layer_of LogLimit = layer.Meter
layer_of ShortBuffer = layer.Service
layer_of Malformed = layer.Service
layer_of UnknownService = layer.Service
layer_of Clearance = layer.Service
layer_of UnknownTable = layer.Service
layer_of NoSuchUse = layer.Service
layer_of BadPart = layer.Service
layer_of BadContent = layer.Service
layer_of NotReady = layer.Service

-- The code that an answer begins with; a buffer that is too short gets none.
abbrev pub code_of : Cause → Option AnswerCode
code_of TooSmall = Some code.Error
code_of Corrupt = Some code.Error
code_of OutOfOrder = Some code.Error
code_of BadSecond = Some code.Error
code_of LogLimit = Some code.OperationNotPossible
code_of ShortBuffer = None
code_of Malformed = Some code.Error
code_of UnknownService = Some code.ServiceNotSupported
code_of Clearance = Some code.InsufficientClearance
code_of UnknownTable = Some code.InappropriateAction
code_of NoSuchUse = Some code.OperationNotPossible
code_of BadPart = Some code.InappropriateAction
code_of BadContent = Some code.InappropriateAction
code_of NotReady = Some code.DataNotReady
