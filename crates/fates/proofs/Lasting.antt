-- What was staged stays in the account, and so does a fate that is not waiting.
use Rattle.std.proofs.Common.{◌≡◌, true, List, [], ◌∷◌, ◌++◌, map, sym, refl, ap, ◌∙◌, subst, inl, inr}
use Rattle.std.proofs.lemmas.Bool.{cases_Bool, true≢false}
use Rattle.fates.specs.Stagings.{Happening, Fate, is_waiting, Staging, Account, noted, kept}
use Rattle.fates.specs.Fates.{Goes, Continues, FatesLast}
use Rattle.fates.proofs.Turning.{with_fate, turned, added, noted_turned, over_stays, left_or_ended}

-- One staging: it stays as it is, gets a fate while it waits, and goes on from there.
pub goes_same : (s : Staging) → Goes s s
goes_same s = record { table = refl; pending = refl; fate = λ over. refl }

pub goes_on : (s n o : Staging) → Goes s n → Goes n o → Goes s o
goes_on s n o first then = record {
  table = then.table ∙ first.table;
  pending = then.pending ∙ first.pending;
  fate = λ over. then.fate (ap is_waiting (first.fate over) ∙ over) ∙ first.fate over;
}

pub goes_to_fate : (s : Staging) (f : Fate) → is_waiting s.fate ≡ true → Goes s (with_fate s f)
goes_to_fate s f waiting = record { table = refl; pending = refl; fate = λ over. absurd (true≢false (sym waiting ∙ over)) }

pub turned_goes : (h : Happening) (s : Staging) → Goes s (turned h s)
turned_goes h s = elim (cases_Bool (is_waiting s.fate)) [
  | inl waiting ↦ elim (left_or_ended h s waiting) [
    | inl x ↦ subst (λ n. Goes s n) (sym x.1) (goes_same s)
    | inr x ↦ subst (λ n. Goes s n) (sym x.2) (goes_to_fate s x.0 waiting)
  ]
  | inr over ↦ subst (λ n. Goes s n) (sym (over_stays h s over)) (goes_same s)
]

-- All of them, with new ones behind.
pub continues_same : (ss : List Staging) → Continues ss ss
continues_same [] = tt
continues_same (s ∷ ss) = (goes_same s, continues_same ss)

pub continues_on : (ss ns os : List Staging) → Continues ss ns → Continues ns os → Continues ss os
continues_on [] ns os first then = tt
continues_on (s ∷ ss) [] os first then = absurd first
continues_on (s ∷ ss) (n ∷ ns) [] first then = absurd then
continues_on (s ∷ ss) (n ∷ ns) (o ∷ os) first then = (goes_on s n o first.0 then.0, continues_on ss ns os first.1 then.1)

pub continues_turned : (step : Staging → Staging) → ((s : Staging) → Goes s (step s)) → (ss new : List Staging) → Continues ss (map step ss ++ new)
continues_turned step goes [] new = tt
continues_turned step goes (s ∷ ss) new = (goes s, continues_turned step goes ss new)

pub noted_continues : (a : Account) (h : Happening) → Continues a.stagings (noted a h).stagings
noted_continues a h = subst (λ ns. Continues a.stagings ns) (sym (noted_turned a h)) (continues_turned (turned h) (turned_goes h) a.stagings (added h))

pub fates_last : FatesLast
fates_last a [] = continues_same a.stagings
fates_last a (h ∷ hs) = continues_on a.stagings (noted a h).stagings (kept (noted a h) hs).stagings (noted_continues a h) (fates_last (noted a h) hs)
