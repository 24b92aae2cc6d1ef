-- What memory shows after a call, and of a new meter.
use Rattle.std.proofs.Common.{◌≡◌, ℕ, List, sym, refl, ap, arith}
use Rattle.access.specs.Ready.{Ready}
use Rattle.fields.specs.Patches.{patch}
use Rattle.memory.specs.Blocks.{Block}
use Rattle.logs.proofs.SlotWrites.{content_other}
use Rattle.pending.specs.declared.row.Row.TheVariants.{Empty}
use Rattle.pending.specs.declared.table.PendingTable.{PendingTable}
use Rattle.pending.specs.declared.table.PendingTable.TheVariants.{Calendar, Outputs, Override}
use Rattle.head.specs.Heads.{encode_head, rows_from}
use Rattle.head.specs.Order.{WellFormed}
use Rattle.fates.specs.Stagings.{Agrees, listed}
use Rattle.model.specs.States.{Going, ended, row_of}
use Rattle.model.specs.Calls.{formatted, feeding}
use Rattle.model.proofs.Keeping.{Kept}
use Rattle.model.proofs.StayingSound.{ended_head}
use Rattle.ledger.specs.Ledger.{opened, first_tables}
use Rattle.ledger.specs.Statement.{head_in}
use Rattle.ledger.proofs.Seen.{seen_row, said_of}
use Rattle.ledger.proofs.Views.{seen_of, seen_same}

-- block 0 is written as a call ends, and says the head that it ended with
pub ended_shows : (g : Going) → WellFormed g.head → Ready g.blocks → said_of (ended g) ≡ seen_of g
unfolding ended
ended_shows g formed ready =
    seen_same g.head (head_in (ended g)) g.blocks (ended g) (λ t. ap (row_of t) (ended_head g formed ready)) (λ k high _. content_other g.blocks 0 k (encode_head g.head) (λ e. omega arith))

pub ended_seen : {c : List ℕ} {n : ℕ} (g : Going) → Kept c n g → said_of (ended g) ≡ seen_of g
ended_seen g kept = ended_shows g kept.formed kept.ready

-- energy is not seen
pub feeding_unseen : (s wh : ℕ) (g : Going) → seen_of (feeding s wh g) ≡ seen_of g
unfolding feeding
feeding_unseen s wh g = refl

-- a new meter
first_rows : (bs : List Block) (t : PendingTable) → row_of t (head_in (formatted bs)) ≡ Empty
unfolding formatted patch rows_from
first_rows bs Calendar = refl
first_rows bs Outputs = refl
first_rows bs Override = refl

first_tables_lem : (bs : List Block) (t : PendingTable) → (said_of (formatted bs)).tables t ≡ first_tables t
unfolding formatted patch
first_tables_lem bs Calendar = refl
first_tables_lem bs Outputs = refl
first_tables_lem bs Override = refl

pub first_agrees : (bs : List Block) → Agrees (said_of (formatted bs)) opened.account
first_agrees bs = record { rows = λ t. ap (λ r. listed (seen_row t r (formatted bs))) (sym (first_rows bs t)); tables = first_tables_lem bs }
