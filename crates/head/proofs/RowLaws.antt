-- Rows by their twelve bytes, and back.
use Rattle.std.proofs.Common.{◌≡◌, ℕ, ◌<◌, Bool, true, eqb, ◌⊎◌, List, [], ◌∷◌, ◌++◌, length, get_or, replicate, Some, None, Option, sym, refl, ap, ◌∙◌, inl, inr, arith}
use Rattle.std.proofs.lemmas.List.FromFn.{fill_by_all}
use Rattle.std.proofs.lemmas.Bool.{eqb-true, and_parts, and_from, or_cases, or_right, cond-true, false≢true}
use Rattle.fields.specs.Words.{le_value, le_bytes, word}
use Rattle.fields.proofs.Numbers.{le_value_bytes}
use Rattle.calendar.specs.Calendar.{seconds_in_all}
use Rattle.pending.specs.declared.trigger.Trigger.{Trigger}
use Rattle.pending.specs.declared.trigger.Trigger.TheVariants.{Absolute, Relative, OnCommand}
use Rattle.pending.specs.declared.trigger.Due.{Due}
use Rattle.pending.specs.declared.plan.Plan.{Plan}
use Rattle.pending.specs.declared.row.Row.{Row}
use Rattle.pending.specs.declared.row.Row.TheVariants.{Empty, Waiting}
use Rattle.pending.specs.Triggers.{is_well_formed, second_agrees, due_of, second_of_due, plan_of, plan_bytes}
use Rattle.pending.specs.Rows.{due_agrees, is_row_formed}
use Rattle.pending.proofs.PlanBytes.{plan_laws}
use Rattle.pending.proofs.RowSeconds.{agreed_second, due_back, due_second, second_back, due_agrees_lem}
use Rattle.head.specs.Pieces.{row_bytes, plan_part, row_with, row_of}
use Rattle.head.specs.Order.{all_zero, plan_agrees, waiting_in_order, row_in_order}
use Rattle.head.proofs.Writing.{plan}
use Rattle.head.proofs.Bytes.{Small, word_4_back, all_zero_lem}

-- what stands in the bytes of a row that waits
plan_there : (t : Trigger) (s : Bool) (d : Due) → plan_part (row_bytes (Waiting (plan t s) d)) ≡ plan_bytes (plan t s)
unfolding row_bytes
plan_there (Absolute year month day hour minute) s d = refl
plan_there (Relative weeks days hours minutes seconds) s d = refl
plan_there OnCommand s d = refl

second_there : (t : Trigger) (s : Bool) (d : Due) → word 4 7 (row_bytes (Waiting (plan t s) d)) ≡ le_value (le_bytes 4 (second_of_due d))
unfolding row_bytes word
second_there (Absolute year month day hour minute) s d = refl
second_there (Relative weeks days hours minutes seconds) s d = refl
second_there OnCommand s d = refl

end_there : (t : Trigger) (s : Bool) (d : Due) → get_or (row_bytes (Waiting (plan t s) d)) 11 0 ≡ 0
unfolding row_bytes
end_there (Absolute year month day hour minute) s d = refl
end_there (Relative weeks days hours minutes seconds) s d = refl
end_there OnCommand s d = refl

first_there : (p : Plan) (d : Due) → get_or (row_bytes (Waiting p d)) 0 0 ≡ 1
unfolding row_bytes
first_there p d = refl

plan_read : (p : Plan) (d : Due) → is_well_formed p.trigger ≡ true → plan_of (plan_part (row_bytes (Waiting p d))) ≡ Some p
plan_read p d w = ap plan_of (plan_there p.trigger p.self_read d) ∙ plan_laws.reads p w

second_read : (p : Plan) (d : Due) → is_well_formed p.trigger ≡ true → due_agrees p.trigger d ≡ true → word 4 7 (row_bytes (Waiting p d)) ≡ second_of_due d
second_read p d w a =
    let small : second_of_due d < seconds_in_all = agreed_second p.trigger (second_of_due d) w (due_second p.trigger d a) in
    second_there p.trigger p.self_read d ∙ le_value_bytes 4 (second_of_due d) (omega arith)

zero_read : row_of (replicate 12 0) ≡ Empty
zero_read = refl

zero_written : row_bytes Empty ≡ replicate 12 0
unfolding row_bytes
zero_written = refl

-- a well-formed row is read back
pub row_reads : (r : Row) → is_row_formed r ≡ true → row_of (row_bytes r) ≡ r
row_reads Empty f = ap row_of zero_written ∙ zero_read
row_reads (Waiting p d) f =
    let parts = and_parts (is_well_formed p.trigger) (due_agrees p.trigger d) f in
    let b : List ℕ = row_bytes (Waiting p d) in
    let waits : row_of b ≡ row_with (plan_of (plan_part b)) (word 4 7 b) = cond-true _ _ _ (ap (λ n. eqb n 1) (first_there p d)) in
    waits ∙ ap (λ o. row_with o (word 4 7 b)) (plan_read p d parts.0)
    ∙ ap (λ n. Waiting p (due_of p.trigger n)) (second_read p d parts.0 parts.1)
    ∙ ap (λ e. Waiting p e) (due_back p.trigger d parts.1)

-- its bytes are in order
pub row_in_order_lem : (r : Row) → is_row_formed r ≡ true → row_in_order (row_bytes r) ≡ true
row_in_order_lem Empty f = ap row_in_order zero_written
row_in_order_lem (Waiting p d) f =
    let parts = and_parts (is_well_formed p.trigger) (due_agrees p.trigger d) f in
    let b : List ℕ = row_bytes (Waiting p d) in
    let agrees : plan_agrees (plan_of (plan_part b)) (word 4 7 b) ≡ true =
    ap (λ o. plan_agrees o (word 4 7 b)) (plan_read p d parts.0) ∙ ap (λ n. second_agrees p.trigger n) (second_read p d parts.0 parts.1) ∙ due_second p.trigger d parts.1 in
    or_right (all_zero b) (waiting_in_order b)
    (and_from _ _ (ap (λ n. eqb n 1) (first_there p d)) (and_from _ _ (ap (λ n. eqb n 0) (end_there p.trigger p.self_read d)) agrees))

-- bytes in order: zeros, or what stands in a row that waits
pub record Waits (b : List ℕ) : Type 0 where
  pub first : get_or b 0 0 ≡ 1
  pub end : get_or b 11 0 ≡ 0
  pub agrees : plan_agrees (plan_of (plan_part b)) (word 4 7 b) ≡ true

cases : (b : List ℕ) → row_in_order b ≡ true → (all_zero b ≡ true) ⊎ Waits b
cases b h =
    elim (or_cases (all_zero b) (waiting_in_order b) h) [
      | inl z ↦ inl z
      | inr w ↦
          let one = and_parts (eqb (get_or b 0 0) 1) _ w in
          let two = and_parts (eqb (get_or b 11 0) 0) _ one.1 in
          inr (record { first = eqb-true _ _ one.0; end = eqb-true _ _ two.0; agrees = two.1 })
    ]

waits_read : (b : List ℕ) → Waits b → row_of b ≡ row_with (plan_of (plan_part b)) (word 4 7 b)
waits_read b w = cond-true _ _ _ (ap (λ n. eqb n 1) w.first)

twelve : (b : List ℕ) → length b ≡ 12 → b ≡ get_or b 0 0 ∷ get_or b 1 0 ∷ get_or b 2 0 ∷ get_or b 3 0 ∷ get_or b 4 0 ∷ get_or b 5 0 ∷ get_or b 6 0 ∷ get_or b 7 0 ∷ get_or b 8 0 ∷ get_or b 9 0 ∷ get_or b 10 0 ∷ get_or b 11 0 ∷ []
twelve b long = fill_by_all (λ i. get_or b i 0) b 12 0 long (λ k l. refl)

-- such a row is written as the bytes that it was read from
abbrev layed : ℕ → List ℕ → List ℕ → ℕ → List ℕ
layed first six four end = first ∷ (six ++ (four ++ (end ∷ [])))

waits_written : (b : List ℕ) (o : Option Plan) → length b ≡ 12 → Small b → Waits b → plan_of (plan_part b) ≡ o → plan_agrees o (word 4 7 b) ≡ true → row_bytes (row_with o (word 4 7 b)) ≡ b
unfolding row_bytes
waits_written b None long small w e a = absurd (false≢true a)
waits_written b (Some p) long small w e a =
    let six : plan_bytes p ≡ plan_part b = plan_laws.writes (plan_part b) p refl e in
    let second : le_bytes 4 (second_of_due (due_of p.trigger (word 4 7 b))) ≡ get_or b 7 0 ∷ get_or b 8 0 ∷ get_or b 9 0 ∷ get_or b 10 0 ∷ [] =
    ap (le_bytes 4) (second_back p.trigger (word 4 7 b) a) ∙ word_4_back 7 b (omega arith) small in
    ap (λ l. layed 1 l (le_bytes 4 (second_of_due (due_of p.trigger (word 4 7 b)))) 0) six
    ∙ ap (λ l. layed 1 (plan_part b) l 0) second
    ∙ ap (λ n. layed n (plan_part b) (get_or b 7 0 ∷ get_or b 8 0 ∷ get_or b 9 0 ∷ get_or b 10 0 ∷ []) 0) (sym w.first)
    ∙ ap (λ n. layed (get_or b 0 0) (plan_part b) (get_or b 7 0 ∷ get_or b 8 0 ∷ get_or b 9 0 ∷ get_or b 10 0 ∷ []) n) (sym w.end)
    ∙ sym (twelve b long)

pub row_writes : (b : List ℕ) → length b ≡ 12 → Small b → row_in_order b ≡ true → row_bytes (row_of b) ≡ b
row_writes b long small h =
    elim (cases b h) [
      | inl z ↦
          let zeros : b ≡ replicate 12 0 = all_zero_lem b 12 long z in
          ap (λ l. row_bytes (row_of l)) zeros ∙ ap row_bytes zero_read ∙ zero_written ∙ sym zeros
      | inr w ↦ ap row_bytes (waits_read b w) ∙ waits_written b (plan_of (plan_part b)) long small w refl w.agrees
    ]

waits_formed : (b : List ℕ) (o : Option Plan) (s : ℕ) → plan_of (plan_part b) ≡ o → plan_agrees o s ≡ true → is_row_formed (row_with o s) ≡ true
waits_formed b None s e a = absurd (false≢true a)
waits_formed b (Some p) s e a = and_from _ _ (plan_laws.formed (plan_part b) p e) (due_agrees_lem p.trigger s a)

pub row_formed : (b : List ℕ) → length b ≡ 12 → row_in_order b ≡ true → is_row_formed (row_of b) ≡ true
row_formed b long h =
    elim (cases b h) [
      | inl z ↦ ap (λ l. is_row_formed (row_of l)) (all_zero_lem b 12 long z)
      | inr w ↦ ap is_row_formed (waits_read b w) ∙ waits_formed b (plan_of (plan_part b)) (word 4 7 b) refl w.agrees
    ]
