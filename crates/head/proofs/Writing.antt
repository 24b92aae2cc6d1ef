-- What the code writes of each piece.
use Rattle.std.proofs.Common.{◌≡◌, ℕ, ◌+◌, ◌*◌, ◌<◌, ◌≤◌, Bool, ◌&&◌, List, [], ◌∷◌, ◌++◌, length, get_or, take, replicate, sym, refl, ap, ◌∙◌, arith}
use Rattle.std.specs.List.{flat_map}
use Rattle.std.proofs.lemmas.List.{length-append, append_assoc, append-nil, drop_all, take_more, flat_map_more}
use Rattle.fields.specs.Words.{le_bytes}
use Rattle.fields.specs.Patches.{patch}
use Rattle.fields.proofs.Places.{patch_more}
use Rattle.pending.specs.declared.trigger.Trigger.{Trigger}
use Rattle.pending.specs.declared.trigger.Trigger.TheVariants.{Absolute, Relative, OnCommand}
use Rattle.pending.specs.declared.trigger.Due.{Due}
use Rattle.pending.specs.declared.plan.Plan.{Plan}
use Rattle.pending.specs.declared.row.Row.{Row}
use Rattle.pending.specs.declared.row.Row.TheVariants.{Empty, Waiting}
use Rattle.pending.specs.Triggers.{second_of_due, plan_bytes}
use Rattle.head.specs.declared.head.Activation.{Activation}
use Rattle.logs.specs.declared.head.LogHead.{LogHead}
use Rattle.records.specs.declared.registers.Registers.{Registers}
use Rattle.records.specs.Layouts.{register_bytes, five_words}
use Rattle.head.specs.Pieces.{row_bytes, log_bytes, activation_bytes}

abbrev pub plan : Trigger → Bool → Plan
plan t s = record { trigger = t; self_read = s }

abbrev waiting_list : List ℕ → List ℕ → List ℕ
waiting_list p s =
    1 ∷ get_or p 0 0 ∷ get_or p 1 0 ∷ get_or p 2 0 ∷ get_or p 3 0 ∷ get_or p 4 0 ∷ get_or p 5 0 ∷ get_or s 0 0 ∷ get_or s 1 0 ∷ get_or s 2 0 ∷ get_or s 3 0 ∷ 0 ∷ []

waiting_list_lem : (t : Trigger) (s : Bool) (d : Due) → waiting_list (plan_bytes (plan t s)) (le_bytes 4 (second_of_due d)) ≡ row_bytes (Waiting (plan t s) d)
unfolding row_bytes
waiting_list_lem (Absolute year month day hour minute) s d = refl
waiting_list_lem (Relative weeks days hours minutes seconds) s d = refl
waiting_list_lem OnCommand s d = refl

pub row_written : (p : Plan) (d : Due) (six four : List ℕ) → six ≡ plan_bytes p → four ≡ le_bytes 4 (second_of_due d) → waiting_list six four ≡ row_bytes (Waiting p d)
row_written p d six four e f = ap (λ l. waiting_list l four) e ∙ ap (λ l. waiting_list (plan_bytes p) l) f ∙ waiting_list_lem p.trigger p.self_read d

pub log_written : (l : LogHead) → patch 6 (le_bytes 2 l.unread) (patch 4 (le_bytes 2 l.held) (patch 0 (le_bytes 4 l.total) (replicate 8 0))) ≡ log_bytes l
unfolding patch log_bytes
log_written l = refl

-- the seven pieces of a whole block
whole_patch : (new old : List ℕ) → length new ≡ length old → patch 0 new old ≡ new
unfolding patch
whole_patch new old same = ap (λ l. new ++ l) (drop_all (0 + length new) old (omega arith)) ∙ append-nil new

pub block_written : (a r l t g s z old : List ℕ) → length a ≡ 2 → length r ≡ 36 → length l ≡ 24 → length t ≡ 5 → length g ≡ 20 → length s ≡ 1 → length z ≡ 422 → length old ≡ 510 → patch 88 z (patch 87 s (patch 67 g (patch 62 t (patch 38 l (patch 2 r (patch 0 a old)))))) ≡ a ++ (r ++ (l ++ (t ++ (g ++ (s ++ z)))))
block_written a r l t g s z old la lr ll lt lg ls lz lo =
    let l1 : length (a ++ r) ≡ 38 = rw length-append (omega arith) in
    let l2 : length ((a ++ r) ++ l) ≡ 62 = rw length-append (omega arith) in
    let l3 : length (((a ++ r) ++ l) ++ t) ≡ 67 = rw length-append (omega arith) in
    let l4 : length ((((a ++ r) ++ l) ++ t) ++ g) ≡ 87 = rw length-append (omega arith) in
    let l5 : length (((((a ++ r) ++ l) ++ t) ++ g) ++ s) ≡ 88 = rw length-append (omega arith) in
    let l6 : length ((((((a ++ r) ++ l) ++ t) ++ g) ++ s) ++ z) ≡ length old = rw length-append (omega arith) in
    let e1 : patch 2 r (patch 0 a old) ≡ patch 0 (a ++ r) old = patch_more 0 2 a r old (omega arith) la in
    let e2 : patch 38 l (patch 0 (a ++ r) old) ≡ patch 0 ((a ++ r) ++ l) old = patch_more 0 38 _ l old (omega arith) l1 in
    let e3 : patch 62 t (patch 0 ((a ++ r) ++ l) old) ≡ patch 0 (((a ++ r) ++ l) ++ t) old = patch_more 0 62 _ t old (omega arith) l2 in
    let e4 : patch 67 g (patch 0 (((a ++ r) ++ l) ++ t) old) ≡ patch 0 ((((a ++ r) ++ l) ++ t) ++ g) old = patch_more 0 67 _ g old (omega arith) l3 in
    let e5 : patch 87 s (patch 0 ((((a ++ r) ++ l) ++ t) ++ g) old) ≡ patch 0 (((((a ++ r) ++ l) ++ t) ++ g) ++ s) old = patch_more 0 87 _ s old (omega arith) l4 in
    let e6 : patch 88 z (patch 0 (((((a ++ r) ++ l) ++ t) ++ g) ++ s) old) ≡ patch 0 ((((((a ++ r) ++ l) ++ t) ++ g) ++ s) ++ z) old = patch_more 0 88 _ z old (omega arith) l5 in
    rw (e1, e2, e3, e4, e5, e6) (whole_patch _ old l6 ∙ simp append_assoc)

pub three_same : {A : Type 0} {x y z a b c : A} → x ≡ a → y ≡ b → z ≡ c → ◌≡◌ {A = List A} (x ∷ y ∷ z ∷ []) (a ∷ b ∷ c ∷ [])
three_same p q r = cc

-- tests joined
pub all_same : {x y z a b c : Bool} → x ≡ a → y ≡ b → z ≡ c → (x && (y && z)) ≡ (a && (b && c))
all_same p q r = cc

pub both_same : {x y a b : Bool} → x ≡ a → y ≡ b → (x && y) ≡ (a && b)
both_same p q = cc

-- lengths
pub length_row_bytes : (r : Row) → length (row_bytes r) ≡ 12
unfolding row_bytes
length_row_bytes Empty = refl
length_row_bytes (Waiting p d) = planned p.trigger p.self_read
  where
    planned : (t : Trigger) (s : Bool) → length (1 ∷ (plan_bytes (plan t s) ++ (le_bytes 4 (second_of_due d) ++ (0 ∷ [])))) ≡ 12
    planned (Absolute year month day hour minute) s = refl
    planned (Relative weeks days hours minutes seconds) s = refl
    planned OnCommand s = refl

pub length_log_bytes : (l : LogHead) → length (log_bytes l) ≡ 8
unfolding log_bytes
length_log_bytes l = refl

pub length_activation_bytes : (a : Activation) → length (activation_bytes a) ≡ 5
unfolding activation_bytes
length_activation_bytes a = refl

pub length_register_bytes : (r : Registers) → length (register_bytes r) ≡ 20
unfolding five_words
length_register_bytes r = refl

-- pieces of one length, one behind another: one more
pub flat_map_next : {X : Type 0} (f : X → List ℕ) (xs : List X) (i : ℕ) (x : X) → i < length xs → x ≡ get_or xs i x → flat_map f (take (i + 1) xs) ≡ flat_map f (take i xs) ++ f x
flat_map_next f xs i x h is = ap (flat_map f) (take_more xs i x h ∙ ap (λ y. take i xs ++ y ∷ []) (sym is)) ∙ sym (flat_map_more f [] (take i xs) x)

pub put_next : {X : Type 0} (f : X → List ℕ) (n at i : ℕ) (xs : List X) (x : X) (old : List ℕ) → i < length xs → x ≡ get_or xs i x → length (flat_map f (take i xs)) ≡ i * n → length (f x) ≡ n → at + i * n + n ≤ length old →
    patch (at + i * n) (f x) (patch at (flat_map f (take i xs)) old) ≡ patch at (flat_map f (take (i + 1) xs)) old
put_next f n at i xs x old h is long each fits =
    patch_more at (i * n) (flat_map f (take i xs)) (f x) old (omega arith) long ∙ ap (λ l. patch at l old) (sym (flat_map_next f xs i x h is))

-- how long all are
pub length_joined : {X : Type 0} (f : X → List ℕ) (n : ℕ) (xs : List X) → ((x : X) → length (f x) ≡ n) → length (flat_map f xs) ≡ length xs * n
length_joined f n [] each = omega arith
length_joined f n (x ∷ xs) each =
    length-append (f x) (flat_map f xs) ∙ omega (arith, each x, length_joined f n xs each)

pub block_put : (a r l t t' g g' z old m₁ m₂ m₃ m₄ m₅ m₆ m₇ : List ℕ) (s s' : ℕ) →
    m₁ ≡ patch 0 a old → m₂ ≡ patch 2 r m₁ → m₃ ≡ patch 38 l m₂ → m₄ ≡ patch 62 t' m₃ → m₅ ≡ patch 67 g' m₄ → m₆ ≡ patch 87 (s' ∷ []) m₅ → m₇ ≡ patch 88 z m₆ →
    t' ≡ t → g' ≡ g → s' ≡ s → length a ≡ 2 → length r ≡ 36 → length l ≡ 24 → length t ≡ 5 → length g ≡ 20 → length z ≡ 422 → length old ≡ 510 → m₇ ≡ a ++ (r ++ (l ++ (t ++ (g ++ ((s ∷ []) ++ z)))))
block_put a r l t t' g g' z old m₁ m₂ m₃ m₄ m₅ m₆ m₇ s s' e₁ e₂ e₃ e₄ e₅ e₆ e₇ et eg es la lr ll lt lg lz lo =
    let chain : m₇ ≡ patch 88 z (patch 87 (s ∷ []) (patch 67 g (patch 62 t (patch 38 l (patch 2 r (patch 0 a old)))))) = cc in
    chain ∙ block_written a r l t g (s ∷ []) z old la lr ll lt lg refl lz lo
