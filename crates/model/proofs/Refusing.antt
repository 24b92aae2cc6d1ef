-- The laws of refusals and buffers, by the verdict of each call.
use Rattle.std.proofs.Common.{◌≡◌, ℕ, ◌+◌, ◌<◌, ◌≤◌, ◌⊎◌, List, length, drop, Ok, Err, Result, sym, refl, ap, ◌∙◌, inl, inr}
use Rattle.std.proofs.lemmas.List.{drop_at}
use Rattle.std.proofs.lemmas.Bool.{cases_lt, cond-true, cond-false, lt-ltb, le-ltb}
use Rattle.fields.specs.Patches.{overlay}
use Rattle.memory.specs.declared.fault.MemoryFault.{MemoryFault}
use Rattle.memory.specs.Blocks.{Block}
use Rattle.refusals.specs.declared.fault.MeterFault.{MeterFault}
use Rattle.refusals.specs.declared.fault.ServiceFault.{ServiceFault}
use Rattle.refusals.specs.declared.fault.ServiceFault.TheVariants.{ShortBuffer}
use Rattle.request.specs.Answers.{wiped, refused, buffer_verdict}
use Rattle.access.specs.Ready.{size_verdict, ready_verdict}
use Rattle.model.specs.States.{Meter, Going, begun}
use Rattle.model.specs.Calls.{format_if, start_verdict, started_if, tick_verdict, tick_if, ticked, energy_if, feeding, of_memory}
use Rattle.model.specs.Requests.{Deed}
use Rattle.model.specs.Serving.{answered, admitted, served_if, performed}
use Rattle.model.specs.Laws.{RefusalsLeave, BuffersLeft}
use Rattle.model.proofs.Outcomes.{never}

format_if_lem : (v : Result (Unit {0}) MemoryFault) (bs : List Block) (e : MemoryFault) → (format_if v bs).answer ≡ Err e → (format_if v bs).blocks ≡ bs
format_if_lem (Ok x) bs e h = absurd (never h)
format_if_lem (Err f) bs e h = refl

started_if_lem : (v : Result (Unit {0}) MeterFault) (s : ℕ) (g : Going) (e : MeterFault) → (started_if v s g).answer ≡ Err e → (started_if v s g).blocks ≡ g.blocks
started_if_lem (Ok x) s g e h = absurd (never h)
started_if_lem (Err f) s g e h = refl

tick_if_lem : (v : Result (Unit {0}) MeterFault) (m : Meter) (g : Going) (e : MeterFault) → (tick_if v m g).answer ≡ Err e → (tick_if v m g).meter ≡ m
tick_if_lem (Ok x) m g e h = absurd (never h)
tick_if_lem (Err f) m g e h = refl

energy_if_lem : (v : Result (Unit {0}) MeterFault) (m : Meter) (g : Going) (e : MeterFault) → (energy_if v m g).answer ≡ Err e → (energy_if v m g).meter ≡ m
energy_if_lem (Ok x) m g e h = absurd (never h)
energy_if_lem (Err f) m g e h = refl

-- the parts of serving
answered_leaves : (v : Result Deed ServiceFault) (m : Meter) (a s : List ℕ) (e : ServiceFault) → (answered v m a s).result ≡ Err e → (answered v m a s).meter ≡ m
answered_leaves (Ok d) m a s e h = absurd (never h)
answered_leaves (Err f) m a s e h = refl

answered_wipes : (v : Result Deed ServiceFault) (m : Meter) (a s : List ℕ) → (answered v m a s).scratch ≡ wiped s
answered_wipes (Ok d) m a s = refl
answered_wipes (Err f) m a s = refl

answered_codes : (v : Result Deed ServiceFault) (m : Meter) (a s : List ℕ) (e : ServiceFault) → (answered v m a s).result ≡ Err e → (answered v m a s).answer ≡ refused e a
answered_codes (Ok d) m a s e h = absurd (never h)
answered_codes (Err f) m a s e h = let same : f ≡ e = cc in ap (λ (x : ServiceFault). refused x a) same

overlay_behind : (new old : List ℕ) (n : ℕ) → length new ≡ n → drop n (overlay new old) ≡ drop n old
unfolding overlay
overlay_behind new old n long = drop_at new (drop (length new) old) n long ∙ ap (λ k. drop k old) long

answered_behind : (v : Result Deed ServiceFault) (m : Meter) (a s : List ℕ) (n : ℕ) → (answered v m a s).result ≡ Ok n → drop n (answered v m a s).answer ≡ drop n a
answered_behind (Ok d) m a s n h = let long : length (performed d m).bytes ≡ n = cc in overlay_behind (performed d m).bytes a n long
answered_behind (Err f) m a s n h = absurd (never (sym h))

module _ (key : ℕ) (bytes : List ℕ) (m : Meter) (a s : List ℕ) where
  served_leaves : (v : Result (Unit {0}) ServiceFault) (e : ServiceFault) → (served_if v key bytes m a s).result ≡ Err e → (served_if v key bytes m a s).meter ≡ m
  served_leaves (Ok x) e h = answered_leaves (admitted key bytes m) m a s e h
  served_leaves (Err f) e h = refl

  served_behind : (v : Result (Unit {0}) ServiceFault) (n : ℕ) → (served_if v key bytes m a s).result ≡ Ok n → drop n (served_if v key bytes m a s).answer ≡ drop n a
  served_behind (Ok x) n h = answered_behind (admitted key bytes m) m a s n h
  served_behind (Err f) n h = absurd (never (sym h))

  room : 1028 ≤ length a → 510 ≤ length s → buffer_verdict (length a) (length s) ≡ Ok tt
  room p q = cond-false _ _ _ (le-ltb (length a) 1028 p) ∙ cond-false _ _ _ (le-ltb (length s) 510 q)

  served_wiped : 1028 ≤ length a → 510 ≤ length s → (served_if (buffer_verdict (length a) (length s)) key bytes m a s).scratch ≡ wiped s
  served_wiped p q = rw (room p q) (answered_wipes (admitted key bytes m) m a s)

  served_coded : (e : ServiceFault) → 1028 ≤ length a → 510 ≤ length s → (served_if (buffer_verdict (length a) (length s)) key bytes m a s).result ≡ Err e → (served_if (buffer_verdict (length a) (length s)) key bytes m a s).answer ≡ refused e a
  served_coded e p q h = rw (room p q) (answered_codes (admitted key bytes m) m a s e (rw (room p q) at h))

  untouched : (v : Result (Unit {0}) ServiceFault) (e : ServiceFault) → v ≡ Err e → ((served_if v key bytes m a s).answer ≡ a) × ((served_if v key bytes m a s).scratch ≡ s)
  untouched (Ok x) e h = absurd (never h)
  untouched (Err f) e h = (refl, refl)

  short_answer : length a < 1028 → buffer_verdict (length a) (length s) ≡ Err (ShortBuffer (length a))
  short_answer p = cond-true _ _ _ (lt-ltb (length a) 1028 p)

  short_scratch : 1028 ≤ length a → length s < 510 → buffer_verdict (length a) (length s) ≡ Err (ShortBuffer (length s))
  short_scratch p q = cond-false _ _ _ (le-ltb (length a) 1028 p) ∙ cond-true _ _ _ (lt-ltb (length s) 510 q)

  short_scratch_left : length s < 510 → (length a < 1028) ⊎ (1028 ≤ length a) → ((served_if (buffer_verdict (length a) (length s)) key bytes m a s).answer ≡ a) × ((served_if (buffer_verdict (length a) (length s)) key bytes m a s).scratch ≡ s)
  short_scratch_left q (inl p) = untouched _ (ShortBuffer (length a)) (short_answer p)
  short_scratch_left q (inr p) = untouched _ (ShortBuffer (length s)) (short_scratch p q)

  short_left : (length a < 1028) ⊎ (length s < 510) → ((served_if (buffer_verdict (length a) (length s)) key bytes m a s).answer ≡ a) × ((served_if (buffer_verdict (length a) (length s)) key bytes m a s).scratch ≡ s)
  short_left (inl p) = untouched _ (ShortBuffer (length a)) (short_answer p)
  short_left (inr q) = short_scratch_left q (cases_lt (length a) 1028)

pub refusals_leave : RefusalsLeave
refusals_leave = record {
  format = λ bs e h. format_if_lem (size_verdict bs) bs e h;
  start = λ bs s e h. started_if_lem (start_verdict bs s) s (begun bs) e h;
  tick = λ m e h. tick_if_lem (tick_verdict m) m (ticked (m.clock + 1) (begun m.blocks)) e h;
  energy = λ wh m e h. energy_if_lem (of_memory (ready_verdict m.blocks)) m (feeding m.clock wh (begun m.blocks)) e h;
  serve = λ key bytes m a s e h. served_leaves key bytes m a s (buffer_verdict (length a) (length s)) e h;
}

pub buffers_left : BuffersLeft
buffers_left = record {
  short = λ key bytes m a s p. short_left key bytes m a s p;
  wiped = λ key bytes m a s p q. served_wiped key bytes m a s p q;
  coded = λ key bytes m a s e p q h. served_coded key bytes m a s e p q h;
  behind = λ key bytes m a s n h. served_behind key bytes m a s (buffer_verdict (length a) (length s)) n h;
}
