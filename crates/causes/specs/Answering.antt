-- What a procedure leaves besides what it was called for.
use Rattle.std.specs.Prelude.{◌≡◌, ℕ, ◌≢◌, List, [], Some, Ok, slice_index}
use Rattle.fields.specs.Words.{word}
use Rattle.numbers.specs.declared.procedure.ProcedureResult.{ProcedureResult}
use Rattle.numbers.specs.declared.procedure.ProcedureResult.TheVariants.{Completed}
use Rattle.request.specs.Asks.{full_write, ask_in}
use Rattle.model.specs.States.{Meter}
use Rattle.model.specs.Serving.{served}

-- A procedure that was called leaves its number, its sequence byte and its result as the response. One with a result that is not 0 leaves nothing else: memory and clock are as before, and nothing is recorded.
pub record ProceduresAnswer : Type 0 where
  pub response : (key : ℕ) (bytes : List ℕ) (m : Meter) (answer scratch sent : List ℕ) (r : ProcedureResult) → ask_in bytes ≡ Ok (full_write 7 sent) → (served key bytes m answer scratch).procedure ≡ Some r →
      (served key bytes m answer scratch).meter.response ≡ Some (record { procedure = word 2 0 sent; sequence = slice_index sent 2; result = r })
  pub nothing_else : (key : ℕ) (bytes : List ℕ) (m : Meter) (answer scratch : List ℕ) (r : ProcedureResult) → (served key bytes m answer scratch).procedure ≡ Some r → r ≢ Completed →
      ((served key bytes m answer scratch).meter.blocks ≡ m.blocks) × ((served key bytes m answer scratch).meter.clock ≡ m.clock) × ((served key bytes m answer scratch).entries ≡ [])
