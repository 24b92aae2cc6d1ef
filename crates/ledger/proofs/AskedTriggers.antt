-- When a staging takes force, as its trigger bytes name it.
use Rattle.std.proofs.Common.{◌≡◌, ℕ, ◌+◌, ◌*◌, ◌/◌, ◌%◌, ◌<◌, Bool, true, false, cond, ◌&&◌, eqb, ltb, List, get_or, Some, None, Option, sym, refl, ap, ◌∙◌, arith}
use Rattle.std.proofs.lemmas.Bool.{ltb-true}
use Rattle.calendar.specs.Calendar.{seconds_in_all, second_of, is_real, dated}
use Rattle.pending.specs.declared.trigger.Trigger.{Trigger}
use Rattle.pending.specs.declared.trigger.Trigger.TheVariants.{Absolute, Relative, OnCommand}
use Rattle.pending.specs.declared.trigger.Due.{Due}
use Rattle.pending.specs.declared.trigger.Due.TheVariants.{At, ByCommand}
use Rattle.pending.specs.declared.plan.Plan.{Plan}
use Rattle.pending.specs.Triggers.{span_of, at_second, due_when, is_well_formed, if_well_formed, on_command_if_zeros, trigger_of, with_self_read, plan_of}
use Rattle.model.specs.Requests.{due_with, staged_due}
use Rattle.model.proofs.Outcomes.{missing}
use Rattle.ledger.specs.Meanings.{due_named}

some_same : {X : Type 0} {x y : X} → ◌≡◌ {A = Option X} (Some x) (Some y) → x ≡ y
some_same h = cc

-- where something is given on a condition, the condition holds and it is that
given_if : {X : Type 0} (b : Bool) (x y : X) → cond b (Some x) None ≡ Some y → x ≡ y
given_if true x y h = some_same h
given_if false x y h = absurd (missing (sym h))

at_second_lem : (b : Bool) (s : ℕ) (due : Due) → at_second (cond b (Some s) None) ≡ Some due → At s ≡ due
at_second_lem true s due h = some_same h
at_second_lem false s due h = absurd (missing (sym h))

absolute_due : (clock a b c d e : ℕ) (t : Trigger) (due : Due) → if_well_formed (Absolute a b c d e) ≡ Some t → due_when t clock ≡ Some due → At (second_of (dated a b c d e 0)) ≡ due
absolute_due clock a b c d e t due h k =
    let same : Absolute a b c d e ≡ t = given_if (is_well_formed (Absolute a b c d e)) _ t h in
    let k' : due_when (Absolute a b c d e) clock ≡ Some due = ap (λ u. due_when u clock) same ∙ k in
    at_second_lem (is_real (dated a b c d e 0)) (second_of (dated a b c d e 0)) due k'

relative_due : (clock a b c d e : ℕ) (t : Trigger) (due : Due) → ◌≡◌ {A = Option Trigger} (Some (Relative a b c d e)) (Some t) → due_when t clock ≡ Some due →
    At (clock + a * 604800 + b * 86400 + c * 3600 + d * 60 + e) ≡ due
relative_due clock a b c d e t due h k =
    let same : Relative a b c d e ≡ t = some_same h in
    let k' : due_when (Relative a b c d e) clock ≡ Some due = ap (λ u. due_when u clock) same ∙ k in
    let n : clock + a * 604800 + b * 86400 + c * 3600 + d * 60 + e ≡ clock + span_of a b c d e = omega arith in
    ap (λ s. At s) n ∙ at_second_lem (ltb (clock + span_of a b c d e) seconds_in_all) (clock + span_of a b c d e) due k'

command_due : (clock : ℕ) (z : Bool) (t : Trigger) (due : Due) → cond z (Some OnCommand) None ≡ Some t → due_when t clock ≡ Some due → ByCommand ≡ due
command_due clock z t due h k =
    let same : OnCommand ≡ t = given_if z OnCommand t h in
    let k' : due_when OnCommand clock ≡ Some due = ap (λ u. due_when u clock) same ∙ k in
    some_same k'

trigger_due : (clock kind a b c d e : ℕ) (t : Trigger) (due : Due) → trigger_of kind a b c d e ≡ Some t → due_when t clock ≡ Some due →
    cond (eqb kind 0) (At (second_of (dated a b c d e 0))) (cond (eqb kind 1) (At (clock + a * 604800 + b * 86400 + c * 3600 + d * 60 + e)) ByCommand) ≡ due
trigger_due clock kind a b c d e t due h k = go (eqb kind 0) (eqb kind 1) (eqb kind 2) h
  where
    go : (absolute relative command : Bool) →
        cond absolute (if_well_formed (Absolute a b c d e)) (cond relative (Some (Relative a b c d e)) (cond command (on_command_if_zeros a b c d e) None)) ≡ Some t →
        cond absolute (At (second_of (dated a b c d e 0))) (cond relative (At (clock + a * 604800 + b * 86400 + c * 3600 + d * 60 + e)) ByCommand) ≡ due
    go true relative command g = absolute_due clock a b c d e t due g k
    go false true command g = relative_due clock a b c d e t due g k
    go false false true g = command_due clock (eqb a 0 && (eqb b 0 && (eqb c 0 && (eqb d 0 && eqb e 0)))) t due g k
    go false false false g = absurd (missing (sym g))

-- a plan that was read: its trigger, and its flag, which is bit 4
with_self_read_lem : (s : Bool) (o : Option Trigger) (plan : Plan) → with_self_read s o ≡ Some plan → (o ≡ Some plan.trigger) × (s ≡ plan.self_read)
with_self_read_lem s None plan h = absurd (missing (sym h))
with_self_read_lem s (Some t) plan h =
    let same : ◌≡◌ {A = Plan} (record { trigger = t; self_read = s }) plan = some_same h in
    (ap (λ (q : Plan). Some q.trigger) same, ap (λ (q : Plan). q.self_read) same)

plan_read : (b : List ℕ) (plan : Plan) → plan_of b ≡ Some plan →
    (get_or b 0 0 < 32) × (trigger_of (get_or b 0 0 % 16) (get_or b 1 0) (get_or b 2 0) (get_or b 3 0) (get_or b 4 0) (get_or b 5 0) ≡ Some plan.trigger) × (eqb (get_or b 0 0 / 16) 1 ≡ plan.self_read)
plan_read b plan h = go (ltb (get_or b 0 0) 32) refl h
  where
    go : (small : Bool) → ltb (get_or b 0 0) 32 ≡ small →
        cond small (with_self_read (eqb (get_or b 0 0 / 16) 1) (trigger_of (get_or b 0 0 % 16) (get_or b 1 0) (get_or b 2 0) (get_or b 3 0) (get_or b 4 0) (get_or b 5 0))) None ≡ Some plan →
        (get_or b 0 0 < 32) × (trigger_of (get_or b 0 0 % 16) (get_or b 1 0) (get_or b 2 0) (get_or b 3 0) (get_or b 4 0) (get_or b 5 0) ≡ Some plan.trigger) × (eqb (get_or b 0 0 / 16) 1 ≡ plan.self_read)
    go true e k = let x = with_self_read_lem _ _ plan k in (ltb-true (get_or b 0 0) 32 e, x.0, x.1)
    go false e k = absurd (missing (sym k))

pub flag_read : (b : List ℕ) (plan : Plan) → plan_of b ≡ Some plan → eqb (get_or b 0 0 / 16 % 2) 1 ≡ plan.self_read
flag_read b plan h =
    let x = plan_read b plan h in
    let n : get_or b 0 0 / 16 % 2 ≡ get_or b 0 0 / 16 = omega (arith, x.0) in
    ap (λ k. eqb k 1) n ∙ x.2

pub due_read : (clock : ℕ) (b : List ℕ) (plan : Plan) (due : Due) → plan_of b ≡ Some plan → due_when plan.trigger clock ≡ Some due → due_named clock b ≡ due
due_read clock b plan due h k = trigger_due clock (get_or b 0 0 % 16) (get_or b 1 0) (get_or b 2 0) (get_or b 3 0) (get_or b 4 0) (get_or b 5 0) plan.trigger due (plan_read b plan h).1 k

-- right trigger bytes have a plan, and it says when
pub staged_due_lem : (b : List ℕ) (clock : ℕ) (p : Plan × Due) → staged_due (plan_of b) clock ≡ Some p → (plan_of b ≡ Some p.0) × (due_when p.0.trigger clock ≡ Some p.1)
staged_due_lem b clock p h = of_plan (plan_of b) h
  where
    of_due : (plan : Plan) (o : Option Due) → due_with plan o ≡ Some p → (plan ≡ p.0) × (o ≡ Some p.1)
    of_due plan None k = absurd (missing (sym k))
    of_due plan (Some due) k = let same : (plan, due) ≡ p = some_same k in (ap (λ (q : Plan × Due). q.0) same, ap (λ (q : Plan × Due). Some q.1) same)

    of_plan : (o : Option Plan) → staged_due o clock ≡ Some p → (o ≡ Some p.0) × (due_when p.0.trigger clock ≡ Some p.1)
    of_plan None k = absurd (missing (sym k))
    of_plan (Some plan) k = let x = of_due plan (due_when plan.trigger clock) k in (ap (λ q. Some q) x.0, rw (← x.0) x.1)
