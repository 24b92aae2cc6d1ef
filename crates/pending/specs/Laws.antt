-- What stands of triggers, plans and rows, with no program in between.
use Rattle.std.specs.Prelude.{◌≡◌, ℕ, true, List, length, Some, Result, ok_or, Decides}
use Rattle.pending.specs.declared.trigger.Due.{Due}
use Rattle.pending.specs.declared.plan.Plan.{Plan}
use Rattle.pending.specs.declared.plan.NoPlan.{NoPlan}
use Rattle.pending.specs.declared.row.Row.TheVariants.{Waiting}
use Rattle.pending.specs.Triggers.{is_well_formed, due_when, plan_bytes, plan_of}
use Rattle.pending.specs.Rows.{Reaches, is_due, is_row_formed}

-- Six bytes are well formed exactly if they are those of a plan with a well-formed trigger, and then of one only.
pub record PlanLaws : Type 0 where
  pub reads : (p : Plan) → is_well_formed p.trigger ≡ true → plan_of (plan_bytes p) ≡ Some p
  pub writes : (b : List ℕ) (p : Plan) → length b ≡ 6 → plan_of b ≡ Some p → plan_bytes p ≡ b
  pub formed : (b : List ℕ) (p : Plan) → plan_of b ≡ Some p → is_well_formed p.trigger ≡ true

-- Six bytes that were tried as a plan: it is theirs, and if they are of none they are refused.
pub record IsReadAs (b : List ℕ) (r : Result Plan NoPlan) : Type 0 where
  pub equation : r ≡ ok_or (plan_of b) (record {})
  pub laws : PlanLaws

-- The six bytes of a plan.
pub record IsWrittenAs (p : Plan) (b : List ℕ) : Type 0 where
  pub bytes : b ≡ plan_bytes p
  pub laws : PlanLaws

-- A row that was staged at a clock is due at another exactly if that reaches what its trigger names: never, if it waits for a procedure. It is well formed.
pub record RowLaws : Type 0 where
  pub due : (p : Plan) (d : Due) (staged clock : ℕ) → due_when p.trigger staged ≡ Some d → Decides (is_due (Waiting p d) clock) (Reaches p.trigger staged clock)
  pub formed : (p : Plan) (d : Due) (staged : ℕ) → due_when p.trigger staged ≡ Some d → is_row_formed (Waiting p d) ≡ true
