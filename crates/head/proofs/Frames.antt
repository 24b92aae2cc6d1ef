-- A head with one thing changed: only the bytes of that change, and it stays well formed.
use Rattle.std.proofs.Common.{◌≡◌, ℕ, zero, suc, ◌+◌, ◌<◌, true, List, [], ◌∷◌, ◌++◌, length, get_or, take, drop, set, sym, refl, ap, ◌∙◌, arith, rules}
use Rattle.std.proofs.lemmas.List.{places, same_lists, append_assoc, drop_at, drop-drop, length-set}
use Rattle.fields.specs.Words.{le_bytes}
use Rattle.fields.specs.Patches.{patch}
use Rattle.pending.specs.declared.row.Row.{Row}
use Rattle.pending.specs.Rows.{is_row_formed}
use Rattle.head.specs.declared.head.Activation.{Activation}
use Rattle.head.specs.declared.head.Head.{Head}
use Rattle.logs.specs.declared.head.LogHead.{LogHead}
use Rattle.records.specs.declared.registers.Registers.{Registers}
use Rattle.records.specs.declared.status.Status.{Status}
use Rattle.head.specs.Layout.{row_place, log_place, log_sizes}
use Rattle.records.specs.Statuses.{status_byte}
use Rattle.records.specs.Layouts.{register_bytes}
use Rattle.head.specs.Pieces.{row_bytes, log_bytes, activation_bytes}
use Rattle.head.specs.Heads.{encode_head, with_row, with_log, with_activation, with_registers, with_status}
use Rattle.head.specs.Order.{LogFormed, LogsFormed, RowsFormed, WellFormed}
use Rattle.head.specs.Laws.{Frames}
use Rattle.head.proofs.Writing.{length_row_bytes, length_log_bytes, length_activation_bytes, length_register_bytes}
use Rattle.head.proofs.HeadLaws.{head_of, head_with, encoded, by_three}

-- a patch within what stands behind, and one of just what stands in front
take_behind : (n m : ℕ) (p q : List ℕ) → length p ≡ n → take (n + m) (p ++ q) ≡ p ++ take m q
take_behind n m p q long = same_lists _ _ (search (rules, places)) (λ k d h. grind (arith, places))

drop_behind : (n m : ℕ) (p q : List ℕ) → length p ≡ n → drop (n + m) (p ++ q) ≡ drop m q
drop_behind n m p q long = sym (drop-drop m n (p ++ q)) ∙ ap (drop m) (drop_at p q n long)

patch_behind : (n m : ℕ) (p new q : List ℕ) → length p ≡ n → patch (n + m) new (p ++ q) ≡ p ++ patch m new q
unfolding patch
patch_behind n m p new q long =
    let sum : n + m + length new ≡ n + (m + length new) = omega arith in
    rw (take_behind n m p q long, sum, drop_behind n (m + length new) p q long, append_assoc)

inner : (n m : ℕ) (p new q q' : List ℕ) → length p ≡ n → patch m new q ≡ q' → patch (n + m) new (p ++ q) ≡ p ++ q'
inner n m p new q q' long e = patch_behind n m p new q long ∙ ap (λ l. p ++ l) e

here : (old new q : List ℕ) (n : ℕ) → length old ≡ n → length new ≡ n → patch 0 new (old ++ q) ≡ new ++ q
unfolding patch
here old new q n long same =
    let end : 0 + length new ≡ n = omega arith in
    ap (λ k. new ++ drop k (old ++ q)) end ∙ ap (λ l. new ++ l) (drop_at old q n long)

-- each piece of a whole block
row_0 : (x₀ x₁ x₂ : Row) (l₀ l₁ l₂ : LogHead) (a : Activation) (g : Registers) (s : Status) (r : Row) → encode_head (head_of r x₁ x₂ l₀ l₁ l₂ a g s) ≡ patch 2 (row_bytes r) (encode_head (head_of x₀ x₁ x₂ l₀ l₁ l₂ a g s))
row_0 x₀ x₁ x₂ l₀ l₁ l₂ a g s r =
    encoded r x₁ x₂ l₀ l₁ l₂ a g s
    ∙ sym (inner 2 0 (le_bytes 2 1) (row_bytes r) _ _ refl (here (row_bytes x₀) (row_bytes r) _ 12 (length_row_bytes x₀) (length_row_bytes r)))
    ∙ ap (patch 2 (row_bytes r)) (sym (encoded x₀ x₁ x₂ l₀ l₁ l₂ a g s))

row_1 : (x₀ x₁ x₂ : Row) (l₀ l₁ l₂ : LogHead) (a : Activation) (g : Registers) (s : Status) (r : Row) → encode_head (head_of x₀ r x₂ l₀ l₁ l₂ a g s) ≡ patch 14 (row_bytes r) (encode_head (head_of x₀ x₁ x₂ l₀ l₁ l₂ a g s))
row_1 x₀ x₁ x₂ l₀ l₁ l₂ a g s r =
    encoded x₀ r x₂ l₀ l₁ l₂ a g s
    ∙ sym (inner 2 12 (le_bytes 2 1) (row_bytes r) _ _ refl (inner 12 0 (row_bytes x₀) (row_bytes r) _ _ (length_row_bytes x₀) (here (row_bytes x₁) (row_bytes r) _ 12 (length_row_bytes x₁) (length_row_bytes r))))
    ∙ ap (patch 14 (row_bytes r)) (sym (encoded x₀ x₁ x₂ l₀ l₁ l₂ a g s))

row_2 : (x₀ x₁ x₂ : Row) (l₀ l₁ l₂ : LogHead) (a : Activation) (g : Registers) (s : Status) (r : Row) → encode_head (head_of x₀ x₁ r l₀ l₁ l₂ a g s) ≡ patch 26 (row_bytes r) (encode_head (head_of x₀ x₁ x₂ l₀ l₁ l₂ a g s))
row_2 x₀ x₁ x₂ l₀ l₁ l₂ a g s r =
    encoded x₀ x₁ r l₀ l₁ l₂ a g s
    ∙ sym (inner 2 24 (le_bytes 2 1) (row_bytes r) _ _ refl (inner 12 12 (row_bytes x₀) (row_bytes r) _ _ (length_row_bytes x₀) (inner 12 0 (row_bytes x₁) (row_bytes r) _ _ (length_row_bytes x₁) (here (row_bytes x₂) (row_bytes r) _ 12 (length_row_bytes x₂) (length_row_bytes r)))))
    ∙ ap (patch 26 (row_bytes r)) (sym (encoded x₀ x₁ x₂ l₀ l₁ l₂ a g s))

log_0 : (x₀ x₁ x₂ : Row) (l₀ l₁ l₂ : LogHead) (a : Activation) (g : Registers) (s : Status) (n : LogHead) → encode_head (head_of x₀ x₁ x₂ n l₁ l₂ a g s) ≡ patch 38 (log_bytes n) (encode_head (head_of x₀ x₁ x₂ l₀ l₁ l₂ a g s))
log_0 x₀ x₁ x₂ l₀ l₁ l₂ a g s n =
    encoded x₀ x₁ x₂ n l₁ l₂ a g s
    ∙ sym (inner 2 36 (le_bytes 2 1) (log_bytes n) _ _ refl (inner 12 24 (row_bytes x₀) (log_bytes n) _ _ (length_row_bytes x₀) (inner 12 12 (row_bytes x₁) (log_bytes n) _ _ (length_row_bytes x₁) (inner 12 0 (row_bytes x₂) (log_bytes n) _ _ (length_row_bytes x₂) (here (log_bytes l₀) (log_bytes n) _ 8 (length_log_bytes l₀) (length_log_bytes n))))))
    ∙ ap (patch 38 (log_bytes n)) (sym (encoded x₀ x₁ x₂ l₀ l₁ l₂ a g s))

log_1 : (x₀ x₁ x₂ : Row) (l₀ l₁ l₂ : LogHead) (a : Activation) (g : Registers) (s : Status) (n : LogHead) → encode_head (head_of x₀ x₁ x₂ l₀ n l₂ a g s) ≡ patch 46 (log_bytes n) (encode_head (head_of x₀ x₁ x₂ l₀ l₁ l₂ a g s))
log_1 x₀ x₁ x₂ l₀ l₁ l₂ a g s n =
    encoded x₀ x₁ x₂ l₀ n l₂ a g s
    ∙ sym (inner 2 44 (le_bytes 2 1) (log_bytes n) _ _ refl (inner 12 32 (row_bytes x₀) (log_bytes n) _ _ (length_row_bytes x₀) (inner 12 20 (row_bytes x₁) (log_bytes n) _ _ (length_row_bytes x₁) (inner 12 8 (row_bytes x₂) (log_bytes n) _ _ (length_row_bytes x₂) (inner 8 0 (log_bytes l₀) (log_bytes n) _ _ (length_log_bytes l₀) (here (log_bytes l₁) (log_bytes n) _ 8 (length_log_bytes l₁) (length_log_bytes n)))))))
    ∙ ap (patch 46 (log_bytes n)) (sym (encoded x₀ x₁ x₂ l₀ l₁ l₂ a g s))

log_2 : (x₀ x₁ x₂ : Row) (l₀ l₁ l₂ : LogHead) (a : Activation) (g : Registers) (s : Status) (n : LogHead) → encode_head (head_of x₀ x₁ x₂ l₀ l₁ n a g s) ≡ patch 54 (log_bytes n) (encode_head (head_of x₀ x₁ x₂ l₀ l₁ l₂ a g s))
log_2 x₀ x₁ x₂ l₀ l₁ l₂ a g s n =
    encoded x₀ x₁ x₂ l₀ l₁ n a g s
    ∙ sym (inner 2 52 (le_bytes 2 1) (log_bytes n) _ _ refl (inner 12 40 (row_bytes x₀) (log_bytes n) _ _ (length_row_bytes x₀) (inner 12 28 (row_bytes x₁) (log_bytes n) _ _ (length_row_bytes x₁) (inner 12 16 (row_bytes x₂) (log_bytes n) _ _ (length_row_bytes x₂) (inner 8 8 (log_bytes l₀) (log_bytes n) _ _ (length_log_bytes l₀) (inner 8 0 (log_bytes l₁) (log_bytes n) _ _ (length_log_bytes l₁) (here (log_bytes l₂) (log_bytes n) _ 8 (length_log_bytes l₂) (length_log_bytes n))))))))
    ∙ ap (patch 54 (log_bytes n)) (sym (encoded x₀ x₁ x₂ l₀ l₁ l₂ a g s))

activation_frame : (x₀ x₁ x₂ : Row) (l₀ l₁ l₂ : LogHead) (a : Activation) (g : Registers) (s : Status) (b : Activation) → encode_head (head_of x₀ x₁ x₂ l₀ l₁ l₂ b g s) ≡ patch 62 (activation_bytes b) (encode_head (head_of x₀ x₁ x₂ l₀ l₁ l₂ a g s))
activation_frame x₀ x₁ x₂ l₀ l₁ l₂ a g s b =
    encoded x₀ x₁ x₂ l₀ l₁ l₂ b g s
    ∙ sym (inner 2 60 (le_bytes 2 1) (activation_bytes b) _ _ refl (inner 12 48 (row_bytes x₀) (activation_bytes b) _ _ (length_row_bytes x₀) (inner 12 36 (row_bytes x₁) (activation_bytes b) _ _ (length_row_bytes x₁) (inner 12 24 (row_bytes x₂) (activation_bytes b) _ _ (length_row_bytes x₂) (inner 8 16 (log_bytes l₀) (activation_bytes b) _ _ (length_log_bytes l₀) (inner 8 8 (log_bytes l₁) (activation_bytes b) _ _ (length_log_bytes l₁) (inner 8 0 (log_bytes l₂) (activation_bytes b) _ _ (length_log_bytes l₂) (here (activation_bytes a) (activation_bytes b) _ 5 (length_activation_bytes a) (length_activation_bytes b)))))))))
    ∙ ap (patch 62 (activation_bytes b)) (sym (encoded x₀ x₁ x₂ l₀ l₁ l₂ a g s))

registers_frame : (x₀ x₁ x₂ : Row) (l₀ l₁ l₂ : LogHead) (a : Activation) (g : Registers) (s : Status) (f : Registers) → encode_head (head_of x₀ x₁ x₂ l₀ l₁ l₂ a f s) ≡ patch 67 (register_bytes f) (encode_head (head_of x₀ x₁ x₂ l₀ l₁ l₂ a g s))
registers_frame x₀ x₁ x₂ l₀ l₁ l₂ a g s f =
    encoded x₀ x₁ x₂ l₀ l₁ l₂ a f s
    ∙ sym (inner 2 65 (le_bytes 2 1) (register_bytes f) _ _ refl (inner 12 53 (row_bytes x₀) (register_bytes f) _ _ (length_row_bytes x₀) (inner 12 41 (row_bytes x₁) (register_bytes f) _ _ (length_row_bytes x₁) (inner 12 29 (row_bytes x₂) (register_bytes f) _ _ (length_row_bytes x₂) (inner 8 21 (log_bytes l₀) (register_bytes f) _ _ (length_log_bytes l₀) (inner 8 13 (log_bytes l₁) (register_bytes f) _ _ (length_log_bytes l₁) (inner 8 5 (log_bytes l₂) (register_bytes f) _ _ (length_log_bytes l₂) (inner 5 0 (activation_bytes a) (register_bytes f) _ _ (length_activation_bytes a) (here (register_bytes g) (register_bytes f) _ 20 (length_register_bytes g) (length_register_bytes f))))))))))
    ∙ ap (patch 67 (register_bytes f)) (sym (encoded x₀ x₁ x₂ l₀ l₁ l₂ a g s))

status_frame : (x₀ x₁ x₂ : Row) (l₀ l₁ l₂ : LogHead) (a : Activation) (g : Registers) (s : Status) (t : Status) → encode_head (head_of x₀ x₁ x₂ l₀ l₁ l₂ a g t) ≡ patch 87 (status_byte t ∷ []) (encode_head (head_of x₀ x₁ x₂ l₀ l₁ l₂ a g s))
status_frame x₀ x₁ x₂ l₀ l₁ l₂ a g s t =
    encoded x₀ x₁ x₂ l₀ l₁ l₂ a g t
    ∙ sym (inner 2 85 (le_bytes 2 1) (status_byte t ∷ []) _ _ refl (inner 12 73 (row_bytes x₀) (status_byte t ∷ []) _ _ (length_row_bytes x₀) (inner 12 61 (row_bytes x₁) (status_byte t ∷ []) _ _ (length_row_bytes x₁) (inner 12 49 (row_bytes x₂) (status_byte t ∷ []) _ _ (length_row_bytes x₂) (inner 8 41 (log_bytes l₀) (status_byte t ∷ []) _ _ (length_log_bytes l₀) (inner 8 33 (log_bytes l₁) (status_byte t ∷ []) _ _ (length_log_bytes l₁) (inner 8 25 (log_bytes l₂) (status_byte t ∷ []) _ _ (length_log_bytes l₂) (inner 5 20 (activation_bytes a) (status_byte t ∷ []) _ _ (length_activation_bytes a) (inner 20 0 (register_bytes g) (status_byte t ∷ []) _ _ (length_register_bytes g) (here (status_byte s ∷ []) (status_byte t ∷ []) _ 1 refl refl))))))))))
    ∙ ap (patch 87 (status_byte t ∷ [])) (sym (encoded x₀ x₁ x₂ l₀ l₁ l₂ a g s))

-- three of each, in turn
by_threes : (P : List Row → List LogHead → Type 0) → ((x y z : Row) (a b c : LogHead) → P (x ∷ y ∷ z ∷ []) (a ∷ b ∷ c ∷ [])) → (rows : List Row) (logs : List LogHead) → length rows ≡ 3 → length logs ≡ 3 → P rows logs
by_threes P f rows logs p q = by_three (λ rs. P rs logs) (λ x y z. by_three (λ ls. P (x ∷ y ∷ z ∷ []) ls) (λ a b c. f x y z a b c) logs q) rows p

pub row_frame : (h : Head) (k : ℕ) (r : Row) → length h.rows ≡ 3 → length h.logs ≡ 3 → k < 3 → encode_head (with_row k r h) ≡ patch (row_place k) (row_bytes r) (encode_head h)
row_frame h k r p q less =
    by_threes (λ rs ls. encode_head (with_row k r (head_with rs ls h)) ≡ patch (row_place k) (row_bytes r) (encode_head (head_with rs ls h))) (λ x y z a b c. at k x y z a b c less) h.rows h.logs p q
  where
    at : (i : ℕ) (x y z : Row) (a b c : LogHead) → i < 3 → encode_head (with_row i r (head_with (x ∷ y ∷ z ∷ []) (a ∷ b ∷ c ∷ []) h)) ≡ patch (row_place i) (row_bytes r) (encode_head (head_with (x ∷ y ∷ z ∷ []) (a ∷ b ∷ c ∷ []) h))
    at zero x y z a b c l = row_0 x y z a b c h.activation h.registers h.status r
    at (suc zero) x y z a b c l = row_1 x y z a b c h.activation h.registers h.status r
    at (suc (suc zero)) x y z a b c l = row_2 x y z a b c h.activation h.registers h.status r
    at (suc (suc (suc i))) x y z a b c l = absurd (omega arith)

pub log_frame : (h : Head) (k : ℕ) (n : LogHead) → length h.rows ≡ 3 → length h.logs ≡ 3 → k < 3 → encode_head (with_log k n h) ≡ patch (log_place k) (log_bytes n) (encode_head h)
log_frame h k n p q less =
    by_threes (λ rs ls. encode_head (with_log k n (head_with rs ls h)) ≡ patch (log_place k) (log_bytes n) (encode_head (head_with rs ls h))) (λ x y z a b c. at k x y z a b c less) h.rows h.logs p q
  where
    at : (i : ℕ) (x y z : Row) (a b c : LogHead) → i < 3 → encode_head (with_log i n (head_with (x ∷ y ∷ z ∷ []) (a ∷ b ∷ c ∷ []) h)) ≡ patch (log_place i) (log_bytes n) (encode_head (head_with (x ∷ y ∷ z ∷ []) (a ∷ b ∷ c ∷ []) h))
    at zero x y z a b c l = log_0 x y z a b c h.activation h.registers h.status n
    at (suc zero) x y z a b c l = log_1 x y z a b c h.activation h.registers h.status n
    at (suc (suc zero)) x y z a b c l = log_2 x y z a b c h.activation h.registers h.status n
    at (suc (suc (suc i))) x y z a b c l = absurd (omega arith)

-- well formed with one row or log head changed
pub rows_set : (rows : List Row) (k : ℕ) (r : Row) → RowsFormed rows → is_row_formed r ≡ true → RowsFormed (set rows k r)
rows_set [] k r f e = tt
rows_set (x ∷ xs) zero r f e = (e, f.1)
rows_set (x ∷ xs) (suc k) r f e = (f.0, rows_set xs k r f.1 e)

pub logs_set : (sizes : List ℕ) (logs : List LogHead) (k : ℕ) (l : LogHead) → LogsFormed sizes logs → LogFormed (get_or sizes k 0) l → LogsFormed sizes (set logs k l)
logs_set [] [] k l f e = tt
logs_set [] (x ∷ xs) k l f e = absurd f
logs_set (size ∷ sizes) [] k l f e = absurd f
logs_set (size ∷ sizes) (x ∷ xs) zero l f e = (e, f.1)
logs_set (size ∷ sizes) (x ∷ xs) (suc k) l f e = (f.0, logs_set sizes xs k l f.1 e)

row_kept : (h : Head) (k : ℕ) (r : Row) → WellFormed h → is_row_formed r ≡ true → WellFormed (with_row k r h)
row_kept h k r w e =
    record { three = length-set h.rows k r ∙ w.three; rows = rows_set h.rows k r w.rows e; logs = w.logs; activation = w.activation; registers = w.registers }

log_kept : (h : Head) (k : ℕ) (l : LogHead) → WellFormed h → LogFormed (get_or log_sizes k 0) l → WellFormed (with_log k l h)
log_kept h k l w e =
    record { three = w.three; rows = w.rows; logs = logs_set log_sizes h.logs k l w.logs e; activation = w.activation; registers = w.registers }

pub frames : Frames
frames = record {
  row = row_frame;
  log = log_frame;
  activation = λ h b p q.
      by_threes (λ rs ls. encode_head (with_activation b (head_with rs ls h)) ≡ patch 62 (activation_bytes b) (encode_head (head_with rs ls h))) (λ x y z a c d. activation_frame x y z a c d h.activation h.registers h.status b) h.rows h.logs p q;
  registers = λ h f p q.
      by_threes (λ rs ls. encode_head (with_registers f (head_with rs ls h)) ≡ patch 67 (register_bytes f) (encode_head (head_with rs ls h))) (λ x y z a c d. registers_frame x y z a c d h.activation h.registers h.status f) h.rows h.logs p q;
  status = λ h t p q.
      by_threes (λ rs ls. encode_head (with_status t (head_with rs ls h)) ≡ patch 87 (status_byte t ∷ []) (encode_head (head_with rs ls h))) (λ x y z a c d. status_frame x y z a c d h.activation h.registers h.status t) h.rows h.logs p q;
  row_kept = row_kept;
  log_kept = log_kept;
}
