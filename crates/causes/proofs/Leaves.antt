-- What refusals leave, by the verdict of each call.
use Rattle.std.proofs.Common.{◌≡◌, ℕ, ◌+◌, ◌<◌, ◌≤◌, Bool, true, false, cond, ltb, List, [], ◌∷◌, length, take, drop, Some, None, Ok, Err, Option, Result, sym, refl, ap, ◌∙◌, inl, inr, arith}
use Rattle.std.proofs.lemmas.List.{drop_at, take_at, length-append, length-drop}
use Rattle.std.proofs.lemmas.Bool.{cond-true, cond-false, lt-ltb, le-ltb, ltb-false}
use Rattle.fields.specs.Patches.{overlay}
use Rattle.access.specs.Ready.{size_verdict, ready_verdict}
use Rattle.memory.specs.declared.fault.MemoryFault.{MemoryFault}
use Rattle.memory.specs.Blocks.{Block}
use Rattle.numbers.specs.declared.service.AnswerCode.{AnswerCode}
use Rattle.numbers.specs.Names.{code_number}
use Rattle.refusals.specs.declared.cause.Cause.{Cause}
use Rattle.refusals.specs.declared.fault.MeterFault.{MeterFault}
use Rattle.refusals.specs.declared.fault.ServiceFault.{ServiceFault}
use Rattle.refusals.specs.declared.fault.ServiceFault.TheVariants.{ShortBuffer}
use Rattle.refusals.specs.Causes.{code_of}
use Rattle.refusals.specs.Refusals.{service_cause, service_place}
use Rattle.request.specs.Answers.{coded, refused, wiped, buffer_verdict}
use Rattle.model.specs.States.{Meter, Going, begun}
use Rattle.model.specs.Calls.{format_if, start_verdict, started_if, tick_verdict, tick_if, ticked, energy_if, feeding, of_memory}
use Rattle.model.specs.Requests.{Deed}
use Rattle.model.specs.Serving.{performed, answered, admitted, served_if}
use Rattle.model.proofs.Outcomes.{never}
use Rattle.causes.specs.Leaving.{answer_room, scratch_room, Unmoved, Unserved, TooShort, Coded, Answered, RefusedLeaves}
use Rattle.causes.specs.Firsts.{Ground, FirstIn}
use Rattle.causes.proofs.Firsts.{first_told}
use Rattle.causes.proofs.Deciding.{admitted_grounds, admitted_judged}
use Rattle.causes.proofs.Sizes.{admitted_size}

format_if_lem : (v : Result (Unit {0}) MemoryFault) (bs : List Block) (e : MemoryFault) → (format_if v bs).answer ≡ Err e → (format_if v bs).blocks ≡ bs
format_if_lem (Ok x) bs e h = absurd (never h)
format_if_lem (Err f) bs e h = refl

started_if_lem : (v : Result (Unit {0}) MeterFault) (s : ℕ) (g : Going) (e : MeterFault) → (started_if v s g).answer ≡ Err e → ((started_if v s g).blocks ≡ g.blocks) × ((started_if v s g).entries ≡ [])
started_if_lem (Ok x) s g e h = absurd (never h)
started_if_lem (Err f) s g e h = (refl, refl)

tick_if_lem : (v : Result (Unit {0}) MeterFault) (m : Meter) (g : Going) (e : MeterFault) → (tick_if v m g).answer ≡ Err e → Unmoved m (tick_if v m g)
tick_if_lem (Ok x) m g e h = absurd (never h)
tick_if_lem (Err f) m g e h = record { meter = refl; entries = refl }

energy_if_lem : (v : Result (Unit {0}) MeterFault) (m : Meter) (g : Going) (e : MeterFault) → (energy_if v m g).answer ≡ Err e → Unmoved m (energy_if v m g)
energy_if_lem (Ok x) m g e h = absurd (never h)
energy_if_lem (Err f) m g e h = record { meter = refl; entries = refl }

-- every cause that an admission is refused for has a code
abbrev HasCode : Cause → Type 0
HasCode c = (code : AnswerCode) × (code_of c ≡ Some code)

abbrev AllCoded : List Ground → Type 0
AllCoded [] = Unit {0}
AllCoded (g ∷ gs) = HasCode g.0 × AllCoded gs

first_coded : (gs : List Ground) (c : Cause) (place : ℕ) → AllCoded gs → FirstIn gs c place → HasCode c
first_coded [] c place all f = absurd f
first_coded (g ∷ gs) c place all (inl h) = rw h.0 all.0
first_coded (g ∷ gs) c place all (inr h) = first_coded gs c place all.1 h.1

all_coded : (key : ℕ) (bytes : List ℕ) (m : Meter) → AllCoded (admitted_grounds key bytes m)
all_coded key bytes m =
    ((_, refl), ((_, refl), ((_, refl), ((_, refl), ((_, refl), ((_, refl), ((_, refl), ((_, refl), ((_, refl), ((_, refl), ((_, refl), ((_, refl), tt))))))))))))

admitted_coded : (key : ℕ) (bytes : List ℕ) (m : Meter) (e : ServiceFault) → admitted key bytes m ≡ Err e → HasCode (service_cause e)
admitted_coded key bytes m e h =
    first_coded (admitted_grounds key bytes m) (service_cause e) (service_place e) (all_coded key bytes m)
    ((first_told service_cause service_place (admitted_grounds key bytes m) (admitted key bytes m) (admitted_judged key bytes m)).told e h)

-- bytes laid over the front of a longer list
overlay_long : (new old : List ℕ) → length new ≤ length old → length (overlay new old) ≡ length old
unfolding overlay
overlay_long new old fits = rw (length-append, length-drop) (omega arith)

overlay_behind : (new old : List ℕ) (n : ℕ) → length new ≡ n → drop n (overlay new old) ≡ drop n old
unfolding overlay
overlay_behind new old n long = drop_at new (drop (length new) old) n long ∙ ap (λ k. drop k old) long

overlay_front : (new old : List ℕ) (n : ℕ) → length new ≡ n → take n (overlay new old) ≡ new
unfolding overlay
overlay_front new old n long = take_at new (drop (length new) old) n long

-- a code at the front
coded_behind : (c : Option AnswerCode) (a : List ℕ) → drop 1 (coded c a) ≡ drop 1 a
coded_behind None a = refl
coded_behind (Some c) a = overlay_behind (code_number c ∷ []) a 1 refl

coded_long : (c : Option AnswerCode) (a : List ℕ) → 0 < length a → length (coded c a) ≡ length a
coded_long None a p = refl
coded_long (Some c) a p = overlay_long (code_number c ∷ []) a p

refused_coded : (e : ServiceFault) (a : List ℕ) → HasCode (service_cause e) → Coded e (refused e a)
refused_coded e a has = record { code = has.0; has = has.1; first = rw has.1 (overlay_front (code_number has.0 ∷ []) a 1 refl) }

answered_refused : (v : Result Deed ServiceFault) (m : Meter) (a s : List ℕ) (e : ServiceFault) → 0 < length a → (answered v m a s).result ≡ Err e → Unserved m a s (answered v m a s)
answered_refused (Ok d) m a s e p h = absurd (never h)
answered_refused (Err f) m a s e p h = record {
  meter = refl;
  entries = refl;
  procedure = refl;
  behind = coded_behind (code_of (service_cause f)) a;
  long = coded_long (code_of (service_cause f)) a p;
  scratch = inr refl;
}

answered_accepted : (v : Result Deed ServiceFault) (m : Meter) (a s : List ℕ) (n : ℕ) → ((d : Deed) → v ≡ Ok d → length (performed d m).bytes ≤ answer_room) → answer_room ≤ length a → (answered v m a s).result ≡ Ok n → Answered n a (answered v m a s)
answered_accepted (Err f) m a s n few p h = absurd (never (sym h))
answered_accepted (Ok d) m a s n few p h =
    let long : length (performed d m).bytes ≡ n = cc in
    let fits = few d refl in
    record { fits = omega arith; long = overlay_long (performed d m).bytes a (omega arith); behind = overlay_behind (performed d m).bytes a n long }

answered_wipes : (v : Result Deed ServiceFault) (m : Meter) (a s : List ℕ) → (answered v m a s).scratch ≡ wiped s
answered_wipes (Ok d) m a s = refl
answered_wipes (Err f) m a s = refl

answered_coded : (v : Result Deed ServiceFault) (m : Meter) (a s : List ℕ) (e : ServiceFault) → ((f : ServiceFault) → v ≡ Err f → HasCode (service_cause f)) → (answered v m a s).result ≡ Err e → Coded e (answered v m a s).answer
answered_coded (Ok d) m a s e has h = absurd (never h)
answered_coded (Err f) m a s e has h =
    let same : f ≡ e = cc in
    rw (← same) (refused_coded f a (has f refl))

module _ (key : ℕ) (bytes : List ℕ) (m : Meter) (a s : List ℕ) where
  -- buffers that are long enough
  room_made : (x : Unit {0}) → buffer_verdict (length a) (length s) ≡ Ok x → answer_room ≤ length a
  room_made x h = go (ltb (length a) 1028) refl h
    where
      go : (b : Bool) → ltb (length a) 1028 ≡ b → cond b (Err (ShortBuffer (length a))) (cond (ltb (length s) 510) (Err (ShortBuffer (length s))) (Ok tt)) ≡ Ok x → answer_room ≤ length a
      go true e k = absurd (never (sym k))
      go false e k = ltb-false (length a) 1028 e

  room : answer_room ≤ length a → scratch_room ≤ length s → buffer_verdict (length a) (length s) ≡ Ok tt
  room p q = cond-false _ _ _ (le-ltb (length a) 1028 p) ∙ cond-false _ _ _ (le-ltb (length s) 510 q)

  served_refused : (v : Result (Unit {0}) ServiceFault) (e : ServiceFault) → buffer_verdict (length a) (length s) ≡ v → (served_if v key bytes m a s).result ≡ Err e → Unserved m a s (served_if v key bytes m a s)
  served_refused (Ok x) e is h = answered_refused (admitted key bytes m) m a s e (omega (arith, room_made x is)) h
  served_refused (Err f) e is h = record { meter = refl; entries = refl; procedure = refl; behind = refl; long = refl; scratch = inl refl }

  served_accepted : (v : Result (Unit {0}) ServiceFault) (n : ℕ) → buffer_verdict (length a) (length s) ≡ v → (served_if v key bytes m a s).result ≡ Ok n → Answered n a (served_if v key bytes m a s)
  served_accepted (Ok x) n is h = answered_accepted (admitted key bytes m) m a s n (λ d e. admitted_size key bytes m d e) (room_made x is) h
  served_accepted (Err f) n is h = absurd (never (sym h))

  served_wiped : answer_room ≤ length a → scratch_room ≤ length s → (served_if (buffer_verdict (length a) (length s)) key bytes m a s).scratch ≡ wiped s
  served_wiped p q = rw (room p q) (answered_wipes (admitted key bytes m) m a s)

  served_coded : (e : ServiceFault) → answer_room ≤ length a → scratch_room ≤ length s → (served_if (buffer_verdict (length a) (length s)) key bytes m a s).result ≡ Err e → Coded e (served_if (buffer_verdict (length a) (length s)) key bytes m a s).answer
  served_coded e p q h = rw (room p q) (answered_coded (admitted key bytes m) m a s e (λ f is. admitted_coded key bytes m f is) (rw (room p q) at h))

  -- buffers that are too short
  untouched : (short : List ℕ) (v : Result (Unit {0}) ServiceFault) → v ≡ Err (ShortBuffer (length short)) → TooShort short a s (served_if v key bytes m a s)
  untouched short (Ok x) h = absurd (never h)
  untouched short (Err f) h = let same : f ≡ ShortBuffer (length short) = cc in record { told = ap (λ (e : ServiceFault). Err e) same; answer = refl; scratch = refl }

  answer_short : length a < answer_room → buffer_verdict (length a) (length s) ≡ Err (ShortBuffer (length a))
  answer_short p = cond-true _ _ _ (lt-ltb (length a) 1028 p)

  scratch_short : answer_room ≤ length a → length s < scratch_room → buffer_verdict (length a) (length s) ≡ Err (ShortBuffer (length s))
  scratch_short p q = cond-false _ _ _ (le-ltb (length a) 1028 p) ∙ cond-true _ _ _ (lt-ltb (length s) 510 q)

pub refused_leaves : RefusedLeaves
refused_leaves = record {
  format = λ bs e h. format_if_lem (size_verdict bs) bs e h;
  start = λ bs s e h. started_if_lem (start_verdict bs s) s (begun bs) e h;
  tick = λ m e h. tick_if_lem (tick_verdict m) m (ticked (m.clock + 1) (begun m.blocks)) e h;
  energy = λ wh m e h. energy_if_lem (of_memory (ready_verdict m.blocks)) m (feeding m.clock wh (begun m.blocks)) e h;
  serve = λ key bytes m a s e h. served_refused key bytes m a s (buffer_verdict (length a) (length s)) e refl h;
  short_answer = λ key bytes m a s p. untouched key bytes m a s a (buffer_verdict (length a) (length s)) (answer_short key bytes m a s p);
  short_scratch = λ key bytes m a s p q. untouched key bytes m a s s (buffer_verdict (length a) (length s)) (scratch_short key bytes m a s p q);
  wiped = λ key bytes m a s p q. served_wiped key bytes m a s p q;
  coded = λ key bytes m a s e p q h. served_coded key bytes m a s e p q h;
  accepted = λ key bytes m a s n h. served_accepted key bytes m a s (buffer_verdict (length a) (length s)) n refl h;
}
