-- A meter that fits its ledger, and what a call leaves of that.
use Rattle.std.proofs.Common.{◌≡◌, ℕ, ◌<◌, ◌≤◌, true, false, List, [], ◌∷◌, ◌++◌, map, get_or, sym, refl, ap, ◌∙◌, subst, append-nil}
use Rattle.access.specs.Ready.{content_of}
use Rattle.calendar.specs.Calendar.{seconds_in_all}
use Rattle.memory.specs.Blocks.{Block}
use Rattle.logs.specs.Heads.{empty_head}
use Rattle.head.specs.declared.head.Head.{Head}
use Rattle.fates.specs.Stagings.{Memory, run, Agrees}
use Rattle.fates.specs.Stagings as fate
use Rattle.fates.proofs.Matching.{stays_matched}
use Rattle.model.specs.States.{Going, begun, ended}
use Rattle.model.specs.Soundness.{SoundImage}
use Rattle.model.proofs.Keeping.{Kept}
use Rattle.model.specs.Calls.{ended_if_any}
use Rattle.model.proofs.StayingSound.{ended_sound, ended_head}
use Rattle.ledger.specs.Meanings.{has_effect, Meaning, meant, happened, asked_of}
use Rattle.ledger.specs.Ledger.{Fed, Ledger, marked, kept, happenings}
use Rattle.ledger.specs.Entries.{outline_of, brings, AllBring}
use Rattle.ledger.specs.Lives.{State, cold, running, blocks_in, Step}
use Rattle.ledger.specs.Statement.{head_in}
use Rattle.ledger.proofs.Seen.{said_of}
use Rattle.ledger.proofs.Outlines.{outlines}
use Rattle.ledger.proofs.Tied.{Pasts, TiedAll, Tied}
use Rattle.ledger.proofs.TiedEnds.{ended_tied}
use Rattle.ledger.proofs.Growing.{Grown, unchanged, grew}
use Rattle.ledger.proofs.Views.{seen_of}
use Rattle.ledger.proofs.ViewsImages.{ended_seen}

-- what the ledger knows was done to the logs, and that with what a call asked of them
abbrev pub pasts_of : Ledger → Pasts
pasts_of l = record { history = l.history; self_reads = l.self_reads; profile = l.profile }

abbrev pub asked_pasts : Meaning → Pasts → Pasts
asked_pasts m p = record { history = asked_of 1 m ++ p.history; self_reads = asked_of 2 m ++ p.self_reads; profile = asked_of 3 m ++ p.profile }

abbrev pub Bounded : Head → Type 0
Bounded h = (k : ℕ) → (get_or h.logs k empty_head).total ≤ 4000000012

pub record Fits (bs : List Block) (l : Ledger) : Type 0 where
  pub image : SoundImage bs
  pub agrees : Agrees (said_of bs) l.account
  pub logs : TiedAll (pasts_of l) (head_in bs) bs
  pub bounded : Bounded (head_in bs)

abbrev pub FitsState : State → Ledger → Type 0
FitsState (cold bs) l = Fits bs l
FitsState (running m) l = Fits m.blocks l × (m.clock ≡ l.clock) × (m.clock < seconds_in_all)

pub record StepFits (s : State) (l : Ledger) (o : Step) : Type 0 where
  pub fits : FitsState o.state (kept l o.fed)
  pub brought : AllBring l o.fed
  pub view : said_of (blocks_in o.state) ≡ run (said_of (blocks_in s)) (happenings l o.fed)

-- a call that is not admitted, or that had no effect
pub idle_fits : (s : State) (l : Ledger) → FitsState s l → StepFits s l (record { state = s; fed = [] })
idle_fits s l fits = record { fits = fits; brought = tt; view = refl }

pub without_effect : (s s' : State) (l : Ledger) (f : Fed) → has_effect f.answer ≡ false → f.entries ≡ [] → FitsState s' l → said_of (blocks_in s') ≡ said_of (blocks_in s) →
    StepFits s l (record { state = s'; fed = f ∷ [] })
without_effect s s' l f no-effect none fits same = record {
  fits = rw no-effect fits;
  brought = (rw no-effect (ap (map outline_of) none), tt);
  view = rw no-effect same;
}

-- a call that had one
pub with_effect : (s s' : State) (l : Ledger) (f : Fed) → has_effect f.answer ≡ true → FitsState s' (marked (meant l.clock f.call) f.entries l) →
    map outline_of f.entries ≡ brings l (meant l.clock f.call) → said_of (blocks_in s') ≡ run (said_of (blocks_in s)) (happened l.clock (meant l.clock f.call)) →
    StepFits s l (record { state = s'; fed = f ∷ [] })
with_effect s s' l f effect fits outline view = record {
  fits = rw effect fits;
  brought = (rw effect outline, tt);
  view = rw effect (view ∙ ap (run (said_of (blocks_in s))) (sym (append-nil (happened l.clock (meant l.clock f.call)))));
}

-- a call at work has done what its meaning says, so far as rows, tables, logs and entries go
pub record Works (bs : List Block) (l : Ledger) (m : Meaning) (g : Going) : Type 0 where
  pub view : seen_of g ≡ run (said_of bs) (happened l.clock m)
  pub tied : Tied (asked_pasts m (pasts_of l)) g
  pub outline : outlines g ≡ brings l m
  pub kept : Kept (content_of bs 0) 12 g

-- the memory that it leaves fits the ledger that noted it
pub ended_fits : (bs : List Block) (l : Ledger) (m : Meaning) (g : Going) → Fits bs l → Works bs l m g → Fits (ended g) (marked m g.entries l)
ended_fits bs l m g fits w = record {
  image = ended_sound g w.kept.formed w.kept.ready w.kept.whole;
  agrees = subst (λ (x : Memory). Agrees x (fate.kept l.account (happened l.clock m))) (sym (ended_seen g w.kept ∙ w.view)) (stays_matched (said_of bs) l.account (happened l.clock m) fits.agrees);
  logs = ended_tied (asked_pasts m (pasts_of l)) g w.kept.formed w.tied;
  bounded = λ k. subst (λ (h : Head). (get_or h.logs k empty_head).total ≤ 4000000012) (sym (ended_head g w.kept.formed w.kept.ready)) (w.kept.totals k);
}

-- and so does one that is left as it was where nothing was recorded
quiet_fits : (bs : List Block) (l : Ledger) (m : Meaning) → Fits bs l → Works bs l m (begun bs) → Fits bs (marked m [] l)
quiet_fits bs l m fits w = record {
  image = fits.image;
  agrees = subst (λ (x : Memory). Agrees x (fate.kept l.account (happened l.clock m))) (sym w.view) (stays_matched (said_of bs) l.account (happened l.clock m) fits.agrees);
  logs = w.tied;
  bounded = w.kept.totals;
}

pub record Left (bs : List Block) (l : Ledger) (m : Meaning) (g : Going) : Type 0 where
  pub fits : Fits (ended_if_any g.entries g) (marked m g.entries l)
  pub view : said_of (ended_if_any g.entries g) ≡ run (said_of bs) (happened l.clock m)

pub left_fits : (bs : List Block) (l : Ledger) (m : Meaning) (g : Going) → Fits bs l → Works bs l m g → Grown (begun bs) g → Left bs l m g
left_fits bs l m g fits w (unchanged same) =
    subst (λ (x : Going). Works bs l m x → Left bs l m x) (sym same) (λ quiet. record { fits = quiet_fits bs l m fits quiet; view = quiet.view }) w
left_fits bs l m g fits w (grew x xs some) =
    let is : ended_if_any g.entries g ≡ ended g = ap (λ es. ended_if_any es g) some in
    record {
      fits = subst (λ b. Fits b (marked m g.entries l)) (sym is) (ended_fits bs l m g fits w);
      view = ap said_of is ∙ ended_seen g w.kept ∙ w.view;
    }
