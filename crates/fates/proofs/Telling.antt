-- The account has the stagings of a life, in order, each with the fate that is told by what happened later.
use Rattle.std.proofs.Common.{◌≡◌, ℕ, Bool, true, false, List, [], ◌∷◌, ◌++◌, map, sym, refl, ap, ◌∙◌, subst, inl, inr, append_assoc, append-nil, arith}
use Rattle.std.proofs.lemmas.Bool.{true≢false}
use Rattle.pending.specs.declared.table.PendingTable.{PendingTable}
use Rattle.fates.specs.Stagings.{Pending, Happening, staged, written, withdrew_all, withdrew, activated_all, activated, time_changed, Fate, waits, took_force, replaced, withdrawn, is_waiting, Staging, Account, noted, kept}
use Rattle.fates.specs.Fates.{Ends, FateIs, still, ended, passed, Tells, nothing, staging, other, AccountTells}
use Rattle.fates.proofs.OneFate.{ends_not_waiting}
use Rattle.fates.proofs.Turning.{with_fate, turned, added, noted_turned, over_stays, left_or_ended}

waiting_is : (f : Fate) → is_waiting f ≡ true → f ≡ waits
waiting_is waits e = refl
waiting_is took_force e = cc
waiting_is replaced e = cc
waiting_is withdrawn e = cc

over_if_not_waits : (f : Fate) → (f ≡ waits → ⊥) → is_waiting f ≡ false
over_if_not_waits waits n = absurd (n refl)
over_if_not_waits took_force n = refl
over_if_not_waits replaced n = refl
over_if_not_waits withdrawn n = refl

-- What a staging has become by what happened: if it waited no more, it is what it was, and else it has the fate that is told.
pub record Became (hs : List Happening) (s now : Staging) : Type 0 where
  pub over : is_waiting s.fate ≡ false → now ≡ s
  pub told : is_waiting s.fate ≡ true → (f : Fate) × FateIs s.table s.pending.due hs f × (now ≡ with_fate s f)

-- So each of them, in its place.
abbrev pub EachBecame : List Happening → List Staging → List Staging → Type 0
EachBecame hs [] [] = Unit {0}
EachBecame hs [] (n ∷ ns) = ⊥
EachBecame hs (s ∷ ss) [] = ⊥
EachBecame hs (s ∷ ss) (n ∷ ns) = Became hs s n × EachBecame hs ss ns

became_parted : (hs : List Happening) (xs ys now : List Staging) → EachBecame hs (xs ++ ys) now →
    (xs' : List Staging) × (ys' : List Staging) × (now ≡ xs' ++ ys') × EachBecame hs xs xs' × EachBecame hs ys ys'
became_parted hs [] ys now b = ([], now, refl, tt, b)
became_parted hs (x ∷ xs) ys [] b = absurd b
became_parted hs (x ∷ xs) ys (n ∷ now) b =
    let rest = became_parted hs xs ys now b.1 in
    (n ∷ rest.0, rest.1, ap (λ l. n ∷ l) rest.2, (b.0, rest.3), rest.4)

-- By nothing they become what they are.
became_same : (ss : List Staging) → EachBecame [] ss ss
became_same [] = tt
became_same (s ∷ ss) =
    (record { over = λ o. refl; told = λ w. (waits, still, ap (with_fate s) (waiting_is s.fate w)) }, became_same ss)

-- By one happening more, that comes first, they become what they turn into and then become.
became_first : (h : Happening) (hs : List Happening) (s now : Staging) → Became hs (turned h s) now → Became (h ∷ hs) s now
became_first h hs s now b = record {
  over = λ o. (subst (λ x. Became hs x now) (over_stays h s o) b).over o;
  told = λ w. elim (left_or_ended h s w) [
    | inl x ↦ (let it = (subst (λ z. Became hs z now) x.1 b).told w in (it.0, passed x.0 it.1, it.2))
    | inr x ↦ (
        let o : is_waiting x.0 ≡ false =
        over_if_not_waits x.0 (λ e. ends_not_waiting s.table s.pending.due h (subst (λ f. Ends s.table s.pending.due h f) e x.1)) in
        (x.0, ended x.1, (subst (λ z. Became hs z now) x.2 b).over o))
  ];
}

each_became_first : (h : Happening) (hs : List Happening) (ss now : List Staging) → EachBecame hs (map (turned h) ss) now → EachBecame (h ∷ hs) ss now
each_became_first h hs [] [] b = tt
each_became_first h hs [] (n ∷ now) b = absurd b
each_became_first h hs (s ∷ ss) [] b = absurd b
each_became_first h hs (s ∷ ss) (n ∷ now) b = (became_first h hs s n b.0, each_became_first h hs ss now b.1)

-- The new one, if what happened is a staging.
abbrev is_staging : Happening → Bool
is_staging (staged t p) = true
is_staging (written t from bytes) = false
is_staging withdrew_all = false
is_staging (withdrew t) = false
is_staging activated_all = false
is_staging (activated t) = false
is_staging (time_changed clock) = false

no_staging : (h : Happening) → is_staging h ≡ false → (t : PendingTable) (p : Pending) → h ≡ staged t p → ⊥
no_staging h none t p e = true≢false (sym (ap is_staging e) ∙ none)

tells_added : (h : Happening) (hs : List Happening) (new ss : List Staging) → EachBecame hs (added h) new → Tells hs ss → Tells (h ∷ hs) (new ++ ss)
tells_added (staged t p) hs [] ss b tell = absurd b
tells_added (staged t p) hs (s ∷ []) ss b tell =
    let it = b.0.told refl in
    subst (λ x. Tells (staged t p ∷ hs) (x ∷ ss)) (sym it.2) (staging it.1 tell)
tells_added (staged t p) hs (s ∷ s₂ ∷ new) ss b tell = absurd b.1
tells_added (written t from bytes) hs [] ss b tell = other (no_staging (written t from bytes) refl) tell
tells_added (written t from bytes) hs (s ∷ new) ss b tell = absurd b
tells_added withdrew_all hs [] ss b tell = other (no_staging withdrew_all refl) tell
tells_added withdrew_all hs (s ∷ new) ss b tell = absurd b
tells_added (withdrew t) hs [] ss b tell = other (no_staging (withdrew t) refl) tell
tells_added (withdrew t) hs (s ∷ new) ss b tell = absurd b
tells_added activated_all hs [] ss b tell = other (no_staging activated_all refl) tell
tells_added activated_all hs (s ∷ new) ss b tell = absurd b
tells_added (activated t) hs [] ss b tell = other (no_staging (activated t) refl) tell
tells_added (activated t) hs (s ∷ new) ss b tell = absurd b
tells_added (time_changed clock) hs [] ss b tell = other (no_staging (time_changed clock) refl) tell
tells_added (time_changed clock) hs (s ∷ new) ss b tell = absurd b

-- Any account: first the stagings it had, as they became, and then those of what happened.
pub account_parted : (hs : List Happening) (a : Account) →
    (old : List Staging) × (new : List Staging) × ((kept a hs).stagings ≡ old ++ new) × EachBecame hs a.stagings old × Tells hs new
account_parted [] a = (a.stagings, [], sym (append-nil a.stagings), became_same a.stagings, nothing)
account_parted (h ∷ hs) a =
    let rest = account_parted hs (noted a h) in
    let parts = became_parted hs (map (turned h) a.stagings) (added h) rest.0 (subst (λ x. EachBecame hs x rest.0) (noted_turned a h) rest.3) in (
      parts.0,
      parts.1 ++ rest.1,
      rest.2 ∙ ap (λ x. x ++ rest.1) parts.2 ∙ append_assoc parts.0 parts.1 rest.1,
      each_became_first h hs a.stagings parts.0 parts.3,
      tells_added h hs parts.1 rest.1 parts.4 rest.4,
    )

none_became : (hs : List Happening) (ss now : List Staging) → ss ≡ [] → EachBecame hs ss now → now ≡ []
none_became hs [] [] e b = refl
none_became hs [] (n ∷ now) e b = absurd b
none_became hs (s ∷ ss) now e b = let z : ◌≡◌ {A = ℕ} 0 1 = cc in absurd (omega arith)

pub account_tells : AccountTells
account_tells a hs e =
    let it = account_parted hs a in
    let none : it.0 ≡ [] = none_became hs a.stagings it.0 e it.3 in
    subst (λ x. Tells hs x) (sym (it.2 ∙ ap (λ x. x ++ it.1) none)) it.4
