-- The plain meter's response that the program's stands for.
use Rattle.std.specs.Prelude.{Some, None, Option}
use Rattle.model.specs.States as state
use Rattle.tables.specs.declared.response.Response.{Response}

abbrev pub response_of : Response → state.Response
response_of r = record { procedure = r.procedure; sequence = r.sequence; result = r.result }

abbrev pub response_if : Option Response → Option state.Response
response_if None = None
response_if (Some r) = Some (response_of r)
