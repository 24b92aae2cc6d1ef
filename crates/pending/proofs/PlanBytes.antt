-- Plans by their six bytes, and back.
use Rattle.std.proofs.Common.{◌≡◌, ℕ, ◌/◌, ◌%◌, ◌<◌, Bool, true, false, eqb, List, [], ◌∷◌, length, get_or, Some, None, Option, sym, refl, ap, subst, arith}
use Rattle.std.proofs.lemmas.List.FromFn.{fill_by_all}
use Rattle.std.proofs.lemmas.Bool.{cond-true}
use Rattle.std.proofs.lemmas.Bool.Decides.{nat_tests}
use Rattle.pending.specs.declared.trigger.Trigger.{Trigger}
use Rattle.pending.specs.declared.trigger.Trigger.TheVariants.{Absolute, Relative, OnCommand}
use Rattle.pending.specs.declared.plan.Plan.{Plan}
use Rattle.pending.specs.Triggers.{kind_of, is_well_formed, parts_of, plan_bytes, trigger_of, with_self_read, plan_of}
use Rattle.pending.specs.Laws.{PlanLaws}

abbrev plan : Trigger → Bool → Plan
plan t s = record { trigger = t; self_read = s }

-- a plan is read back
read_back : (t : Trigger) (s : Bool) → is_well_formed t ≡ true → plan_of (plan_bytes (plan t s)) ≡ Some (plan t s)
read_back (Absolute y m d h n) true w = ap (with_self_read true) (cond-true _ _ _ w)
read_back (Absolute y m d h n) false w = ap (with_self_read false) (cond-true _ _ _ w)
read_back (Relative a b c d e) true w = refl
read_back (Relative a b c d e) false w = refl
read_back OnCommand true w = refl
read_back OnCommand false w = refl

-- what is read from bytes is written as them, and is well formed
abbrev TriggerOfBytes : ℕ → List ℕ → Option Trigger → Type 0
TriggerOfBytes kind parts None = Unit {0}
TriggerOfBytes kind parts (Some t) = (kind_of t ≡ kind) × (parts_of t ≡ parts) × (is_well_formed t ≡ true)

trigger_of_bytes : (kind a b c d e : ℕ) → TriggerOfBytes kind (a ∷ b ∷ c ∷ d ∷ e ∷ []) (trigger_of kind a b c d e)
trigger_of_bytes kind a b c d e = grind (arith, nat_tests)

abbrev PlanOfBytes : List ℕ → Option Plan → Type 0
PlanOfBytes bytes None = Unit {0}
PlanOfBytes bytes (Some p) = (plan_bytes p ≡ bytes) × (is_well_formed p.trigger ≡ true)

with_self_read_lem : (z : ℕ) (parts : List ℕ) (o : Option Trigger) → z < 32 → TriggerOfBytes (z % 16) parts o → PlanOfBytes (z ∷ parts) (with_self_read (eqb (z / 16) 1) o)
with_self_read_lem z parts None small g = tt
with_self_read_lem z parts (Some t) small g = grind (arith, nat_tests)

plan_of_six : (z a b c d e : ℕ) → PlanOfBytes (z ∷ a ∷ b ∷ c ∷ d ∷ e ∷ []) (plan_of (z ∷ a ∷ b ∷ c ∷ d ∷ e ∷ []))
plan_of_six z a b c d e = let t = trigger_of_bytes (z % 16) a b c d e in grind (arith, nat_tests, with_self_read_lem)

six : (b : List ℕ) → length b ≡ 6 → b ≡ get_or b 0 0 ∷ get_or b 1 0 ∷ get_or b 2 0 ∷ get_or b 3 0 ∷ get_or b 4 0 ∷ get_or b 5 0 ∷ []
six b long = fill_by_all (λ i. get_or b i 0) b 6 0 long (λ k l. refl)

plan_of_bytes : (b : List ℕ) → length b ≡ 6 → PlanOfBytes b (plan_of b)
plan_of_bytes b long = subst (λ l. PlanOfBytes l (plan_of b)) (sym (six b long)) (plan_of_six (get_or b 0 0) (get_or b 1 0) (get_or b 2 0) (get_or b 3 0) (get_or b 4 0) (get_or b 5 0))

pub written_back : (b : List ℕ) (p : Plan) → length b ≡ 6 → plan_of b ≡ Some p → plan_bytes p ≡ b
written_back b p long e = (subst (λ o. PlanOfBytes b o) e (plan_of_bytes b long)).0

pub well_formed : (b : List ℕ) (p : Plan) → plan_of b ≡ Some p → is_well_formed p.trigger ≡ true
well_formed b p e =
    (subst (λ o. PlanOfBytes (get_or b 0 0 ∷ get_or b 1 0 ∷ get_or b 2 0 ∷ get_or b 3 0 ∷ get_or b 4 0 ∷ get_or b 5 0 ∷ []) o) e (plan_of_six (get_or b 0 0) (get_or b 1 0) (get_or b 2 0) (get_or b 3 0) (get_or b 4 0) (get_or b 5 0))).1

pub plan_laws : PlanLaws
plan_laws = record { reads = λ p w. read_back p.trigger p.self_read w; writes = written_back; formed = well_formed }
