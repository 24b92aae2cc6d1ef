-- The three logs in a memory as it is formatted, and as a call leaves it.
use Rattle.std.proofs.Common.{◌≡◌, ℕ, ◌≤◌, List, [], length, Option, sym, refl, subst, arith}
use Rattle.access.specs.Ready.{needed, Ready}
use Rattle.fields.specs.Patches.{patch}
use Rattle.fields.specs.Words.{word}
use Rattle.memory.specs.Blocks.{Block, Whole}
use Rattle.numbers.specs.declared.log.LogName.{LogName}
use Rattle.numbers.specs.declared.log.LogName.TheVariants.{History, SelfReads, LoadProfile}
use Rattle.records.specs.Layouts.{event_record_of, self_read_of, interval_of}
use Rattle.logs.specs.declared.log.Log.{Log}
use Rattle.logs.specs.Heads.{empty_head}
use Rattle.logs.specs.Places.{history_log, self_read_log, load_profile_log}
use Rattle.head.specs.declared.head.Head.{Head}
use Rattle.head.specs.Heads.{encode_head, logs_from}
use Rattle.head.specs.Order.{WellFormed}
use Rattle.head.proofs.HeadLaws.{laws}
use Rattle.model.specs.States.{Going, log_of, ended}
use Rattle.model.specs.Calls.{formatted}
use Rattle.model.proofs.StayingSound.{ended_head, format_sound}
use Rattle.ledger.specs.Statement.{head_in}
use Rattle.ledger.proofs.Tied.{TiedLog, Pasts, TiedAll, entered_all, Tied, all_below}

-- as a call leaves it
pub ended_tied : (base : Pasts) (g : Going) → WellFormed g.head → Tied base g → TiedAll (entered_all g.entries base) (head_in (ended g)) (ended g)
unfolding ended
ended_tied base g formed t =
    subst (λ (h : Head). TiedAll (entered_all g.entries base) h (ended g)) (sym (ended_head g formed t.history.matches.ready))
    (all_below (entered_all g.entries base) g.head g.blocks 0 (encode_head g.head) (omega arith) (laws.long g.head formed) t)

-- nothing was done to a log of a fresh memory
abbrev pub no_pasts : Pasts
no_pasts = record { history = []; self_reads = []; profile = [] }

empty_tied : {R : Type 0} (parsed : List ℕ → Option R) (log : Log) (bs : List Block) → Ready bs → Whole bs → TiedLog parsed log empty_head bs []
empty_tied parsed log bs ready whole =
    record { matches = record { total = refl; held = refl; unread = refl; fits = omega arith; early = omega arith; entries = refl; ready = ready; whole = whole }; balanced = refl }

fresh_log : (bs : List Block) (name : LogName) → log_of name (head_in (formatted bs)) ≡ empty_head
unfolding formatted patch logs_from word
fresh_log bs History = refl
fresh_log bs SelfReads = refl
fresh_log bs LoadProfile = refl

pub fresh_tied : (bs : List Block) → needed ≤ length bs → Whole bs → TiedAll no_pasts (head_in (formatted bs)) (formatted bs)
fresh_tied bs room whole =
    let image = format_sound bs room whole in
    record {
      history = rw (fresh_log bs History) (empty_tied event_record_of history_log (formatted bs) image.ready image.whole);
      self_reads = rw (fresh_log bs SelfReads) (empty_tied self_read_of self_read_log (formatted bs) image.ready image.whole);
      profile = rw (fresh_log bs LoadProfile) (empty_tied interval_of load_profile_log (formatted bs) image.ready image.whole);
    }
