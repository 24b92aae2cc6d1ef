-- Serving on memories that are alike, and with it the two laws.
use Rattle.std.proofs.Common.{◌≡◌, ℕ, ◌<◌, List, length, Ok, Err, Result, refl, ap, ◌∙◌, subst}
use Rattle.calendar.specs.Calendar.{seconds_in_all}
use Rattle.fields.specs.Patches.{patch, overlay}
use Rattle.memory.specs.Blocks.{Block}
use Rattle.refusals.specs.declared.fault.ServiceFault.{ServiceFault}
use Rattle.request.specs.Answers.{buffer_verdict}
use Rattle.pending.specs.declared.table.PendingTable.{PendingTable}
use Rattle.directory.specs.declared.entry.Source.{Source}
use Rattle.directory.specs.declared.entry.Source.TheVariants as source
use Rattle.directory.specs.declared.entry.TableEntry.{TableEntry}
use Rattle.head.specs.Heads.{decode_head}
use Rattle.model.specs.States.{Meter}
use Rattle.model.specs.Calls.{of_memory}
use Rattle.model.specs.Tariffs.{is_right}
use Rattle.model.specs.Requests.{Deed, reading, writing, staging, calling, and_then, ruled, write_verdict, decided, content_verdict, present_verdict}
use Rattle.model.specs.Serving.{head_of, of_meter, limited, admitted, answered, served_if, served}
use Rattle.model.specs.Soundness.{SoundMeter}
use Rattle.model.proofs.Accepting.{accepted_from}
use Rattle.unseen.specs.Unseen.{Alike, AlikeMeters, AlikeServed, AnswersAlike, OwnKept, StagingKept, KeepsItsOwn}
use Rattle.unseen.proofs.Siting.{SitedDeed, fits_sited}
use Rattle.unseen.proofs.Ending.{ready_same, totals_same}
use Rattle.unseen.proofs.Calling.{left_all, beside_it, start_alike, start_own, tick_alike, tick_own}
use Rattle.unseen.proofs.Reading.{energy_alike, energy_own}
use Rattle.unseen.proofs.Performing.{performed_alike, performed_left}

-- a chain of verdicts link by link
chain_same : {X Y : Type 0} (v w : Result X ServiceFault) (f g : X → Result Y ServiceFault) → v ≡ w → ((x : X) → f x ≡ g x) → and_then v f ≡ and_then w g
chain_same {X} {Y} v w f g same each = ap (λ u. and_then u f) same ∙ go w
  where
    go : (u : Result X ServiceFault) → and_then u f ≡ and_then u g
    go (Ok x) = each x
    go (Err e) = refl

write_verdict_same : (src : Source) (from : ℕ) (bytes : List ℕ) (a b : List Block) → Alike a b → write_verdict src from bytes a ≡ write_verdict src from bytes b
write_verdict_same (source.Computed view) from bytes a b alike = refl
write_verdict_same source.Initiate from bytes a b alike = refl
write_verdict_same source.Utility from bytes a b alike = refl
write_verdict_same (source.Staged t) from bytes a b alike = ap (λ c. ruled (is_right t (patch from bytes c))) (alike.seen.current t)
write_verdict_same (source.Pending t) from bytes a b alike = refl
write_verdict_same (source.Log name) from bytes a b alike = refl

content_verdict_same : (d : Deed) (clock : ℕ) (a b : List Block) → Alike a b → content_verdict d clock a ≡ content_verdict d clock b
content_verdict_same (reading t p) clock a b alike = refl
content_verdict_same (writing t from bytes) clock a b alike = write_verdict_same t.source from bytes a b alike
content_verdict_same (staging t table bytes) clock a b alike = refl
content_verdict_same (calling bytes) clock a b alike = refl

limited_same : (d : Deed) (a b : List Block) → Alike a b → limited d a ≡ limited d b
limited_same (reading t p) a b alike = refl
limited_same (writing t from bytes) a b alike = ap of_meter (totals_same a b alike)
limited_same (staging t table bytes) a b alike = ap of_meter (totals_same a b alike)
limited_same (calling bytes) a b alike = ap of_meter (totals_same a b alike)

-- what is known of a deed that is admitted
pub record Admitted (m : Meter) (d : Deed) : Type 0 where
  pub sited : SitedDeed d
  pub present : present_verdict d m.response (head_of m) ≡ Ok tt
  pub limit : limited d m.blocks ≡ Ok tt

admitted_is : (key : ℕ) (bytes : List ℕ) (m : Meter) (d : Deed) → admitted key bytes m ≡ Ok d → Admitted m d
admitted_is key bytes m d h =
    let x = accepted_from key bytes m d h in
    record { sited = fits_sited x.1 x.0 d x.3.allowed x.3.fit; present = x.3.present; limit = x.3.limit }

module _ (m : Meter) (b : List Block) (alike : Alike m.blocks b) (real : m.clock < seconds_in_all) where
  abbrev other : Meter
  other = record { blocks = b; clock = m.clock; response = m.response }

  admitted_same : (key : ℕ) (bytes : List ℕ) → admitted key bytes m ≡ admitted key bytes other
  admitted_same key bytes =
      chain_same _ _ _ _ (ap (λ v. of_meter (of_memory v)) (ready_same m.blocks b alike))
      (λ _. chain_same (decided key bytes) (decided key bytes) _ _ refl
      (λ d. chain_same _ _ _ _ (content_verdict_same d m.clock m.blocks b alike)
      (λ _. chain_same _ _ _ _ (ap (λ c. present_verdict d m.response (decode_head c)) alike.zero)
      (λ _. chain_same _ _ _ _ (limited_same d m.blocks b alike) (λ _. refl)))))

  answered_alike : (v : Result Deed ServiceFault) (answer scratch : List ℕ) → ((d : Deed) → v ≡ Ok d → Admitted m d) → AlikeServed (answered v m answer scratch) (answered v other answer scratch)
  answered_alike (Ok d) answer scratch then =
      let is = then d refl in
      let out = performed_alike m b alike real d is.sited is.present is.limit in
      record {
        result = ap (λ x. Ok (length x)) out.bytes;
        meter = out.meter;
        answer = ap (λ x. overlay x answer) out.bytes;
        scratch = refl;
        entries = out.entries;
        procedure = out.procedure;
      }
  answered_alike (Err e) answer scratch then =
      record { result = refl; meter = record { blocks = alike; real = real; clock = refl; response = refl }; answer = refl; scratch = refl; entries = refl; procedure = refl }

  served_beside : (v : Result (Unit {0}) ServiceFault) (key : ℕ) (bytes answer scratch : List ℕ) → AlikeServed (served_if v key bytes m answer scratch) (served_if v key bytes other answer scratch)
  served_beside (Ok x) key bytes answer scratch =
      subst (λ w. AlikeServed (answered (admitted key bytes m) m answer scratch) (answered w other answer scratch)) (admitted_same key bytes)
      (answered_alike (admitted key bytes m) answer scratch (admitted_is key bytes m))
  served_beside (Err e) key bytes answer scratch =
      record { result = refl; meter = record { blocks = alike; real = real; clock = refl; response = refl }; answer = refl; scratch = refl; entries = refl; procedure = refl }

served_alike : (key : ℕ) (bytes : List ℕ) (m n : Meter) (answer scratch : List ℕ) → AlikeMeters m n → AlikeServed (served key bytes m answer scratch) (served key bytes n answer scratch)
served_alike key bytes m n answer scratch alike =
    beside_it (λ x. AlikeServed (served key bytes m answer scratch) (served key bytes x answer scratch)) m n alike
    (served_beside m n.blocks alike.blocks alike.real (buffer_verdict (length answer) (length scratch)) key bytes answer scratch)

pub answers_alike : AnswersAlike
answers_alike = record { start = start_alike; tick = tick_alike; energy = energy_alike; serve = served_alike; stop = λ m n alike. alike.blocks }

-- a memory's own
abbrev ServedLeft : ℕ → List ℕ → Meter → List Block → Type 0
ServedLeft key bytes m after =
    OwnKept m.blocks after × ((t : PendingTable) → ((e : TableEntry) (content : List ℕ) → admitted key bytes m ≡ Ok (staging e t content) → ⊥) → StagingKept m.blocks after t)

untouched : (key : ℕ) (bytes : List ℕ) (m : Meter) → ServedLeft key bytes m m.blocks
untouched key bytes m = ((left_all m.blocks).0, λ t none. refl)

answered_own : (key : ℕ) (bytes : List ℕ) (m : Meter) (answer scratch : List ℕ) (v : Result Deed ServiceFault) → SoundMeter m → admitted key bytes m ≡ v → ServedLeft key bytes m (answered v m answer scratch).meter.blocks
answered_own key bytes m answer scratch (Ok d) good is =
    let known = admitted_is key bytes m d is in
    let left = performed_left m good d known.sited known.limit in
    (left.0, λ t none. left.1 t (λ e content same. none e content (is ∙ ap Ok same)))
answered_own key bytes m answer scratch (Err e) good is = untouched key bytes m

served_own : (key : ℕ) (bytes : List ℕ) (m : Meter) (answer scratch : List ℕ) (v : Result (Unit {0}) ServiceFault) → SoundMeter m → ServedLeft key bytes m (served_if v key bytes m answer scratch).meter.blocks
served_own key bytes m answer scratch (Ok x) good = answered_own key bytes m answer scratch (admitted key bytes m) good refl
served_own key bytes m answer scratch (Err e) good = untouched key bytes m

pub keeps_its_own : KeepsItsOwn
keeps_its_own = record {
  start = start_own;
  tick = tick_own;
  energy = energy_own;
  serve = λ key bytes m answer scratch good. served_own key bytes m answer scratch (buffer_verdict (length answer) (length scratch)) good;
}
