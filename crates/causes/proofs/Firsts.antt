-- Verdicts held against an order of causes, one after the other.
use Rattle.std.proofs.Common.{◌≡◌, ℕ, Bool, true, false, cond, List, [], ◌∷◌, ◌++◌, Ok, Err, Result, refl, inl, inr}
use Rattle.refusals.specs.declared.cause.Cause.{Cause}
use Rattle.refusals.specs.declared.fault.ServiceFault.{ServiceFault}
use Rattle.refusals.specs.Refusals.{service_cause, service_place}
use Rattle.model.specs.Calls.{or_else}
use Rattle.model.specs.Requests.{and_then}
use Rattle.model.proofs.Outcomes.{never}
use Rattle.causes.specs.Firsts.{Ground, Impossible, FirstIn, SomeIn, NoneIn, FirstTold}

-- what holds of a verdict: it refuses for the first that is possible, or nothing is
unfoldable pub Judged : {X F : Type 0} (c : F → Cause) (p : F → ℕ) → List Ground → Result X F → Type 0
Judged c p order (Ok x) = NoneIn order
Judged c p order (Err e) = FirstIn order (c e) (p e)

some_and_none : (gs : List Ground) → SomeIn gs → NoneIn gs → ⊥
some_and_none [] s n = s
some_and_none (g ∷ gs) (inl h) n = n.0 h.0 h.1
some_and_none (g ∷ gs) (inr h) n = some_and_none gs h n.1

first_and_none : (gs : List Ground) (c : Cause) (p : ℕ) → FirstIn gs c p → NoneIn gs → ⊥
first_and_none [] c p f n = f
first_and_none (g ∷ gs) c p (inl h) n = n.0 p h.1
first_and_none (g ∷ gs) c p (inr h) n = first_and_none gs c p h.1 n.1

-- an order that goes on, and one that begins before
pub first_more : (gs hs : List Ground) (c : Cause) (p : ℕ) → FirstIn gs c p → FirstIn (gs ++ hs) c p
first_more [] hs c p f = absurd f
first_more (g ∷ gs) hs c p (inl h) = inl h
first_more (g ∷ gs) hs c p (inr h) = inr (h.0, first_more gs hs c p h.1)

first_later : (gs hs : List Ground) (c : Cause) (p : ℕ) → NoneIn gs → FirstIn hs c p → FirstIn (gs ++ hs) c p
first_later [] hs c p n f = f
first_later (g ∷ gs) hs c p n f = inr (n.0, first_later gs hs c p n.1 f)

none_more : (gs hs : List Ground) → NoneIn gs → NoneIn hs → NoneIn (gs ++ hs)
none_more [] hs n k = k
none_more (g ∷ gs) hs n k = (n.0, none_more gs hs n.1 k)

module _ {F : Type 0} (c : F → Cause) (p : F → ℕ) where
  pub first_told : {X : Type 0} (gs : List Ground) (v : Result X F) → Judged c p gs v → FirstTold c p gs v
  unfolding Judged
  first_told gs (Ok x) j = record { told = λ e h. absurd (never h); refused = λ s. absurd (some_and_none gs s j); accepted = λ _. (x, refl) }
  first_told gs (Err f) j = record { told = λ e h. let same : f ≡ e = cc in rw (← same) j; refused = λ _. (f, refl); accepted = λ n. absurd (first_and_none gs (c f) (p f) j n) }

  pub later : {X : Type 0} (gs hs : List Ground) (v : Result X F) → NoneIn gs → Judged c p hs v → Judged c p (gs ++ hs) v
  unfolding Judged
  later gs hs (Ok x) n j = none_more gs hs n j
  later gs hs (Err e) n j = first_later gs hs (c e) (p e) n j

  -- one cause: a test that refuses, or one that lets pass
  pub judged_if : {X : Type 0} (b : Bool) (e : F) (x : X) (g : Ground) → (b ≡ true → (c e ≡ g.0) × g.1 (p e)) → (b ≡ false → Impossible g) → Judged c p (g ∷ []) (cond b (Err e) (Ok x))
  unfolding Judged
  judged_if true e x g can cannot = inl (can refl)
  judged_if false e x g can cannot = (cannot refl, tt)

  pub judged_unless : {X : Type 0} (b : Bool) (e : F) (x : X) (g : Ground) → (b ≡ false → (c e ≡ g.0) × g.1 (p e)) → (b ≡ true → Impossible g) → Judged c p (g ∷ []) (cond b (Ok x) (Err e))
  unfolding Judged
  judged_unless false e x g can cannot = inl (can refl)
  judged_unless true e x g can cannot = (cannot refl, tt)

  -- a cause before others
  pub judged_first : {X : Type 0} (b : Bool) (e : F) (v : Result X F) (g : Ground) (gs : List Ground) → (b ≡ true → (c e ≡ g.0) × g.1 (p e)) → (b ≡ false → Impossible g) → (b ≡ false → Judged c p gs v) → Judged c p (g ∷ gs) (cond b (Err e) v)
  unfolding Judged
  judged_first true e v g gs can cannot j = inl (can refl)
  judged_first false e v g gs can cannot j = later (g ∷ []) gs v (cannot refl, tt) (j refl)

  pub judged_later : {X : Type 0} (v : Result X F) (g : Ground) (gs : List Ground) → Impossible g → Judged c p gs v → Judged c p (g ∷ gs) v
  judged_later v g gs cannot j = later (g ∷ []) gs v (cannot, tt) j

  -- an outcome that is known
  pub judged_done : {X : Type 0} (x : X) → Judged c p [] (Ok x)
  unfolding Judged
  judged_done x = tt

  pub judged_ok : {X : Type 0} (x : X) (g : Ground) → Impossible g → Judged c p (g ∷ []) (Ok x)
  unfolding Judged
  judged_ok x g cannot = (cannot, tt)

  pub judged_err : (X : Type 0) (e : F) (g : Ground) (gs : List Ground) → (c e ≡ g.0) × g.1 (p e) → Judged {X = X} c p (g ∷ gs) (Err e)
  unfolding Judged
  judged_err X e g gs can = inl can

  -- one verdict after the other
  pub judged_else : (gs hs : List Ground) (v w : Result (Unit {0}) F) → Judged c p gs v → Judged c p hs w → Judged c p (gs ++ hs) (or_else v w)
  unfolding Judged
  judged_else gs hs (Ok x) w j k = later gs hs w j k
  judged_else gs hs (Err e) w j k = first_more gs hs (c e) (p e) j

-- a verdict of a service, and what comes of it
pub judged_then : {X Y : Type 0} (gs hs : List Ground) (v : Result X ServiceFault) (f : X → Result Y ServiceFault) → Judged service_cause service_place gs v →
    ((x : X) → v ≡ Ok x → Judged service_cause service_place hs (f x)) → Judged service_cause service_place (gs ++ hs) (and_then v f)
unfolding Judged
judged_then gs hs (Ok x) f j k = later service_cause service_place gs hs (f x) j (k x refl)
judged_then gs hs (Err e) f j k = first_more gs hs (service_cause e) (service_place e) j
