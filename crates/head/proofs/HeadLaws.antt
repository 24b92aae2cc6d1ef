-- Block 0 and what it says, both ways.
use Rattle.std.proofs.Common.{◌≡◌, ℕ, ◌+◌, ◌<◌, Bool, true, ◌&&◌, eqb, ltb, List, [], ◌∷◌, ◌++◌, length, get_or, take, drop, replicate, sym, refl, ap, ◌∙◌, arith}
use Rattle.std.proofs.lemmas.List.{append_assoc, length-append, length-drop, length-replicate, take_all, append-nil, get_or-take, get_or-drop, drop_more}
use Rattle.std.proofs.lemmas.Bool.{and_parts, eqb-true, ltb-true}
use Rattle.fields.specs.Words.{part, le_value, le_bytes, word}
use Rattle.fields.proofs.Numbers.{part_2}
use Rattle.calendar.specs.Calendar.{seconds_in_all}
use Rattle.pending.specs.declared.row.Row.{Row}
use Rattle.head.specs.declared.head.Activation.{Activation}
use Rattle.head.specs.declared.head.Head.{Head}
use Rattle.logs.specs.declared.head.LogHead.{LogHead}
use Rattle.records.specs.declared.registers.Registers.{Registers}
use Rattle.records.specs.declared.status.Status.{Status}
use Rattle.head.specs.Layout.{log_sizes}
use Rattle.records.specs.Statuses.{status_byte}
use Rattle.records.specs.Layouts.{register_bytes, registers_at, RegistersFit}
use Rattle.head.specs.Pieces.{row_bytes, row_of, log_bytes, log_of, activation_bytes, activation_of, status_of}
use Rattle.head.specs.Heads.{rows_from, logs_from, activation_from, registers_from, status_from, decode_head, encode_as, encode_head}
use Rattle.head.specs.Order.{all_zero, row_in_order, log_in_order, activation_in_order, rows_in_order, logs_in_order, rest_in_order, in_order_as, in_order, LogsFormed, RowsFormed, WellFormed}
use Rattle.head.specs.Laws.{Laws}
use Rattle.head.proofs.Writing.{three_same, both_same, all_same, length_row_bytes, length_log_bytes, length_activation_bytes, length_register_bytes}
use Rattle.head.proofs.Bytes.{Small, word_2_back, all_zero_lem}
use Rattle.head.proofs.RowLaws.{row_reads, row_in_order_lem, row_writes, row_formed}
use Rattle.head.proofs.PieceLaws.{log_reads, log_in_order_lem, log_writes, log_formed, activation_reads, activation_in_order_lem, activation_writes, activation_formed, registers_reads, registers_writes, registers_fit, status_reads, status_in_order, status_writes}
use Rattle.head.proofs.Cuts.{piece, behind, cut, length_part, small_part}

-- the eleven pieces of a block
pub record Cut (c a p₀ p₁ p₂ l₀ l₁ l₂ t g s z : List ℕ) : Type 0 where
  pub layout : part 2 0 c ≡ a
  pub row₀ : part 12 2 c ≡ p₀
  pub row₁ : part 12 14 c ≡ p₁
  pub row₂ : part 12 26 c ≡ p₂
  pub log₀ : part 8 38 c ≡ l₀
  pub log₁ : part 8 46 c ≡ l₁
  pub log₂ : part 8 54 c ≡ l₂
  pub activation : part 5 62 c ≡ t
  pub registers : part 20 67 c ≡ g
  pub status : part 1 87 c ≡ s
  pub rest : part 422 88 c ≡ z

abbrev pub laid : List ℕ → List ℕ → List ℕ → List ℕ → List ℕ → List ℕ → List ℕ → List ℕ → List ℕ → List ℕ → List ℕ → List ℕ
laid a p₀ p₁ p₂ l₀ l₁ l₂ t g s z = a ++ (p₀ ++ (p₁ ++ (p₂ ++ (l₀ ++ (l₁ ++ (l₂ ++ (t ++ (g ++ (s ++ z)))))))))

cut_laid : (c a p₀ p₁ p₂ l₀ l₁ l₂ t g s z : List ℕ) → c ≡ laid a p₀ p₁ p₂ l₀ l₁ l₂ t g s z → length a ≡ 2 → length p₀ ≡ 12 → length p₁ ≡ 12 → length p₂ ≡ 12 → length l₀ ≡ 8 → length l₁ ≡ 8 → length l₂ ≡ 8 → length t ≡ 5 → length g ≡ 20 → length s ≡ 1 → length z ≡ 422 → Cut c a p₀ p₁ p₂ l₀ l₁ l₂ t g s z
cut_laid c a p₀ p₁ p₂ l₀ l₁ l₂ t g s z e la q₀ q₁ q₂ m₀ m₁ m₂ lt lg ls lz =
    let d₂ : drop 2 c ≡ p₀ ++ (p₁ ++ (p₂ ++ (l₀ ++ (l₁ ++ (l₂ ++ (t ++ (g ++ (s ++ z)))))))) = behind 0 2 c a _ e la in
    let d₁₄ : drop 14 c ≡ p₁ ++ (p₂ ++ (l₀ ++ (l₁ ++ (l₂ ++ (t ++ (g ++ (s ++ z))))))) = behind 2 12 c p₀ _ d₂ q₀ in
    let d₂₆ : drop 26 c ≡ p₂ ++ (l₀ ++ (l₁ ++ (l₂ ++ (t ++ (g ++ (s ++ z)))))) = behind 14 12 c p₁ _ d₁₄ q₁ in
    let d₃₈ : drop 38 c ≡ l₀ ++ (l₁ ++ (l₂ ++ (t ++ (g ++ (s ++ z))))) = behind 26 12 c p₂ _ d₂₆ q₂ in
    let d₄₆ : drop 46 c ≡ l₁ ++ (l₂ ++ (t ++ (g ++ (s ++ z)))) = behind 38 8 c l₀ _ d₃₈ m₀ in
    let d₅₄ : drop 54 c ≡ l₂ ++ (t ++ (g ++ (s ++ z))) = behind 46 8 c l₁ _ d₄₆ m₁ in
    let d₆₂ : drop 62 c ≡ t ++ (g ++ (s ++ z)) = behind 54 8 c l₂ _ d₅₄ m₂ in
    let d₆₇ : drop 67 c ≡ g ++ (s ++ z) = behind 62 5 c t _ d₆₂ lt in
    let d₈₇ : drop 87 c ≡ s ++ z = behind 67 20 c g _ d₆₇ lg in
    let d₈₈ : drop 88 c ≡ z = behind 87 1 c s z d₈₇ ls in
    record {
      layout = piece 0 2 c a _ e la;
      row₀ = piece 2 12 c p₀ _ d₂ q₀;
      row₁ = piece 14 12 c p₁ _ d₁₄ q₁;
      row₂ = piece 26 12 c p₂ _ d₂₆ q₂;
      log₀ = piece 38 8 c l₀ _ d₃₈ m₀;
      log₁ = piece 46 8 c l₁ _ d₄₆ m₁;
      log₂ = piece 54 8 c l₂ _ d₅₄ m₂;
      activation = piece 62 5 c t _ d₆₂ lt;
      registers = piece 67 20 c g _ d₆₇ lg;
      status = piece 87 1 c s _ d₈₇ ls;
      rest = ap (take 422) d₈₈ ∙ take_all 422 z (omega arith);
    }

abbrev pub head_of : Row → Row → Row → LogHead → LogHead → LogHead → Activation → Registers → Status → Head
head_of r₀ r₁ r₂ l₀ l₁ l₂ a g s =
    record { rows = r₀ ∷ r₁ ∷ r₂ ∷ []; logs = l₀ ∷ l₁ ∷ l₂ ∷ []; activation = a; registers = g; status = s }

pub encoded : (r₀ r₁ r₂ : Row) (l₀ l₁ l₂ : LogHead) (a : Activation) (g : Registers) (s : Status) →
    encode_head (head_of r₀ r₁ r₂ l₀ l₁ l₂ a g s) ≡ laid (le_bytes 2 1) (row_bytes r₀) (row_bytes r₁) (row_bytes r₂) (log_bytes l₀) (log_bytes l₁) (log_bytes l₂) (activation_bytes a) (register_bytes g) (status_byte s ∷ []) (replicate 422 0)
unfolding encode_as
encoded r₀ r₁ r₂ l₀ l₁ l₂ a g s = simp (append_assoc, append-nil)

pub cut_encoded : (r₀ r₁ r₂ : Row) (l₀ l₁ l₂ : LogHead) (a : Activation) (g : Registers) (s : Status) →
    Cut (encode_head (head_of r₀ r₁ r₂ l₀ l₁ l₂ a g s)) (le_bytes 2 1) (row_bytes r₀) (row_bytes r₁) (row_bytes r₂) (log_bytes l₀) (log_bytes l₁) (log_bytes l₂) (activation_bytes a) (register_bytes g) (status_byte s ∷ []) (replicate 422 0)
cut_encoded r₀ r₁ r₂ l₀ l₁ l₂ a g s =
    cut_laid _ _ _ _ _ _ _ _ _ _ _ _ (encoded r₀ r₁ r₂ l₀ l₁ l₂ a g s) refl (length_row_bytes r₀) (length_row_bytes r₁) (length_row_bytes r₂) (length_log_bytes l₀) (length_log_bytes l₁) (length_log_bytes l₂) (length_activation_bytes a) (length_register_bytes g) refl (length-replicate {A = ℕ} 422 0)

-- a byte is the part of one byte there
byte_there : (c : List ℕ) (n b : ℕ) → part 1 n c ≡ b ∷ [] → get_or c n 0 ≡ b
byte_there c n b e =
    let here : n ≡ n + 0 = omega arith in
    let less : 0 < 1 = omega arith in
    ap (λ k. get_or c k 0) here ∙ sym (get_or-drop n c 0 0) ∙ sym (get_or-take 1 (drop n c) 0 0 less) ∙ ap (λ l. get_or l 0 0) e

-- what is read from the pieces
rows_read : (c : List ℕ) (r₀ r₁ r₂ : Row) → part 12 2 c ≡ row_bytes r₀ → part 12 14 c ≡ row_bytes r₁ → part 12 26 c ≡ row_bytes r₂ → RowsFormed (r₀ ∷ r₁ ∷ r₂ ∷ []) → rows_from 2 c ≡ r₀ ∷ r₁ ∷ r₂ ∷ []
unfolding rows_from
rows_read c r₀ r₁ r₂ e₀ e₁ e₂ f =
    three_same (ap row_of e₀ ∙ row_reads r₀ f.0) (ap row_of e₁ ∙ row_reads r₁ f.1.0) (ap row_of e₂ ∙ row_reads r₂ f.1.1.0)

logs_read : (c : List ℕ) (l₀ l₁ l₂ : LogHead) → part 8 38 c ≡ log_bytes l₀ → part 8 46 c ≡ log_bytes l₁ → part 8 54 c ≡ log_bytes l₂ → LogsFormed log_sizes (l₀ ∷ l₁ ∷ l₂ ∷ []) → logs_from 38 c ≡ l₀ ∷ l₁ ∷ l₂ ∷ []
unfolding logs_from
logs_read c l₀ l₁ l₂ e₀ e₁ e₂ f =
    three_same (ap log_of e₀ ∙ log_reads 102 l₀ (omega arith) f.0) (ap log_of e₁ ∙ log_reads 24 l₁ (omega arith) f.1.0) (ap log_of e₂ ∙ log_reads 672 l₂ (omega arith) f.1.1.0)

activation_read : (c : List ℕ) (a : Activation) → part 5 62 c ≡ activation_bytes a → a.second < seconds_in_all → activation_from 62 c ≡ a
unfolding activation_from
activation_read c a e small = ap activation_of e ∙ activation_reads a small

registers_read : (c : List ℕ) (g : Registers) → part 20 67 c ≡ register_bytes g → RegistersFit g → registers_from 67 c ≡ g
unfolding registers_from
registers_read c g e fit = ap (registers_at 0) e ∙ registers_reads g fit

status_read : (c : List ℕ) (s : Status) → part 1 87 c ≡ status_byte s ∷ [] → status_from 87 c ≡ s
unfolding status_from
status_read c s e = ap status_of (byte_there c 87 (status_byte s) e) ∙ status_reads s

same_head : (rows rows' : List Row) (logs logs' : List LogHead) (a a' : Activation) (g g' : Registers) (s s' : Status) → rows ≡ rows' → logs ≡ logs' → a ≡ a' → g ≡ g' → s ≡ s' →
    ◌≡◌ {A = Head} (record { rows = rows; logs = logs; activation = a; registers = g; status = s }) (record { rows = rows'; logs = logs'; activation = a'; registers = g'; status = s' })
same_head rows rows' logs logs' a a' g g' s s' p q r t u = cc

-- the pieces are in order
layout_order : (c : List ℕ) → part 2 0 c ≡ le_bytes 2 1 → eqb (word 2 0 c) 1 ≡ true
unfolding word
layout_order c e = ap (λ l. eqb (le_value l) 1) e

rows_order : (c : List ℕ) (r₀ r₁ r₂ : Row) → part 12 2 c ≡ row_bytes r₀ → part 12 14 c ≡ row_bytes r₁ → part 12 26 c ≡ row_bytes r₂ → RowsFormed (r₀ ∷ r₁ ∷ r₂ ∷ []) → rows_in_order 2 c ≡ true
unfolding rows_in_order
rows_order c r₀ r₁ r₂ e₀ e₁ e₂ f =
    all_same (ap row_in_order e₀ ∙ row_in_order_lem r₀ f.0) (ap row_in_order e₁ ∙ row_in_order_lem r₁ f.1.0) (ap row_in_order e₂ ∙ row_in_order_lem r₂ f.1.1.0)

logs_order : (c : List ℕ) (l₀ l₁ l₂ : LogHead) → part 8 38 c ≡ log_bytes l₀ → part 8 46 c ≡ log_bytes l₁ → part 8 54 c ≡ log_bytes l₂ → LogsFormed log_sizes (l₀ ∷ l₁ ∷ l₂ ∷ []) → logs_in_order 38 c ≡ true
unfolding logs_in_order
logs_order c l₀ l₁ l₂ e₀ e₁ e₂ f =
    all_same (ap (λ b. log_in_order 102 (log_of b)) e₀ ∙ log_in_order_lem 102 l₀ (omega arith) f.0) (ap (λ b. log_in_order 24 (log_of b)) e₁ ∙ log_in_order_lem 24 l₁ (omega arith) f.1.0) (ap (λ b. log_in_order 672 (log_of b)) e₂ ∙ log_in_order_lem 672 l₂ (omega arith) f.1.1.0)

rest_order : (c : List ℕ) (a : Activation) (s : Status) → part 5 62 c ≡ activation_bytes a → part 1 87 c ≡ status_byte s ∷ [] → part 422 88 c ≡ replicate 422 0 → a.second < seconds_in_all → rest_in_order c ≡ true
unfolding rest_in_order
rest_order c a s e f z small =
    all_same (ap activation_in_order e ∙ activation_in_order_lem a small) (ap (λ b. ltb b 4) (byte_there c 87 (status_byte s) f) ∙ status_in_order s) (ap all_zero z ∙ refl)

whole_order : (c : List ℕ) → eqb (word 2 0 c) 1 ≡ true → rows_in_order 2 c ≡ true → logs_in_order 38 c ≡ true → rest_in_order c ≡ true → in_order c ≡ true
unfolding in_order_as
whole_order c a b d e = both_same a (all_same b d e)

-- what stands of the encoding of a well-formed head
pub record Encoded (h : Head) : Type 0 where
  pub long : length (encode_head h) ≡ 510
  pub reads : decode_head (encode_head h) ≡ h
  pub in_order_lem : in_order (encode_head h) ≡ true

length_laid : (a p₀ p₁ p₂ l₀ l₁ l₂ t g s z : List ℕ) → length a ≡ 2 → length p₀ ≡ 12 → length p₁ ≡ 12 → length p₂ ≡ 12 → length l₀ ≡ 8 → length l₁ ≡ 8 → length l₂ ≡ 8 → length t ≡ 5 → length g ≡ 20 → length s ≡ 1 → length z ≡ 422 → length (laid a p₀ p₁ p₂ l₀ l₁ l₂ t g s z) ≡ 510
length_laid a p₀ p₁ p₂ l₀ l₁ l₂ t g s z la q₀ q₁ q₂ m₀ m₁ m₂ lt lg ls lz = simp length-append (omega arith)

encoded_stands : (r₀ r₁ r₂ : Row) (l₀ l₁ l₂ : LogHead) (a : Activation) (g : Registers) (s : Status) → WellFormed (head_of r₀ r₁ r₂ l₀ l₁ l₂ a g s) → Encoded (head_of r₀ r₁ r₂ l₀ l₁ l₂ a g s)
encoded_stands r₀ r₁ r₂ l₀ l₁ l₂ a g s w =
    let c : List ℕ = encode_head (head_of r₀ r₁ r₂ l₀ l₁ l₂ a g s) in
    let k = cut_encoded r₀ r₁ r₂ l₀ l₁ l₂ a g s in
    record {
      long = ap length (encoded r₀ r₁ r₂ l₀ l₁ l₂ a g s)
          ∙ length_laid (le_bytes 2 1) (row_bytes r₀) (row_bytes r₁) (row_bytes r₂) (log_bytes l₀) (log_bytes l₁) (log_bytes l₂) (activation_bytes a) (register_bytes g) (status_byte s ∷ []) (replicate 422 0) refl (length_row_bytes r₀) (length_row_bytes r₁) (length_row_bytes r₂) (length_log_bytes l₀) (length_log_bytes l₁) (length_log_bytes l₂) (length_activation_bytes a) (length_register_bytes g) refl (length-replicate {A = ℕ} 422 0);
      reads = same_head _ _ _ _ _ _ _ _ _ _ (rows_read c r₀ r₁ r₂ k.row₀ k.row₁ k.row₂ w.rows) (logs_read c l₀ l₁ l₂ k.log₀ k.log₁ k.log₂ w.logs) (activation_read c a k.activation w.activation) (registers_read c g k.registers w.registers) (status_read c s k.status);
      in_order_lem = whole_order c (layout_order c k.layout) (rows_order c r₀ r₁ r₂ k.row₀ k.row₁ k.row₂ w.rows) (logs_order c l₀ l₁ l₂ k.log₀ k.log₁ k.log₂ w.logs) (rest_order c a s k.activation k.status k.rest w.activation);
    }

-- three of each
pub by_three : {X : Type 0} (P : List X → Type 0) → ((x y z : X) → P (x ∷ y ∷ z ∷ [])) → (xs : List X) → length xs ≡ 3 → P xs
by_three P f [] h = absurd (omega arith)
by_three P f (x ∷ []) h = absurd (omega arith)
by_three P f (x ∷ (y ∷ [])) h = absurd (omega arith)
by_three P f (x ∷ (y ∷ (z ∷ []))) h = f x y z
by_three P f (x ∷ (y ∷ (z ∷ (w ∷ ws)))) h = absurd (omega arith)

pub logs_three : (ls : List LogHead) → LogsFormed log_sizes ls → length ls ≡ 3
logs_three [] f = absurd f
logs_three (a ∷ []) f = absurd f.1
logs_three (a ∷ (b ∷ [])) f = absurd f.1.1
logs_three (a ∷ (b ∷ (c ∷ []))) f = refl
logs_three (a ∷ (b ∷ (c ∷ (d ∷ ds)))) f = absurd f.1.1.1

abbrev pub head_with : List Row → List LogHead → Head → Head
head_with rows logs h = record { rows = rows; logs = logs; activation = h.activation; registers = h.registers; status = h.status }

pub encoded_head : (h : Head) → WellFormed h → Encoded h
encoded_head h w =
    by_three (λ rs. WellFormed (head_with rs h.logs h) → Encoded (head_with rs h.logs h))
    (λ x y z.
    by_three (λ ls. WellFormed (head_with (x ∷ y ∷ z ∷ []) ls h) → Encoded (head_with (x ∷ y ∷ z ∷ []) ls h))
    (λ a b c v. encoded_stands x y z a b c h.activation h.registers h.status v)
    h.logs (logs_three h.logs w.logs))
    h.rows w.three w

-- a block is its pieces
step : (n w : ℕ) (c q : List ℕ) → q ≡ drop (n + w) c → part w n c ++ q ≡ drop n c
step n w c q e = ap (λ l. part w n c ++ l) e ∙ cut n w c

whole : (c : List ℕ) → length c ≡ 510 → laid (part 2 0 c) (part 12 2 c) (part 12 14 c) (part 12 26 c) (part 8 38 c) (part 8 46 c) (part 8 54 c) (part 5 62 c) (part 20 67 c) (part 1 87 c) (part 422 88 c) ≡ c
whole c long =
    let last : part 422 88 c ≡ drop 88 c = take_all 422 (drop 88 c) (omega (arith, length-drop 88 c)) in
    step 0 2 c _ (step 2 12 c _ (step 14 12 c _ (step 26 12 c _ (step 38 8 c _ (step 46 8 c _ (step 54 8 c _ (step 62 5 c _ (step 67 20 c _ (step 87 1 c _ last)))))))))

-- the tests of a block in order
pub record Ordered (c : List ℕ) : Type 0 where
  pub layout : word 2 0 c ≡ 1
  pub row₀ : row_in_order (part 12 2 c) ≡ true
  pub row₁ : row_in_order (part 12 14 c) ≡ true
  pub row₂ : row_in_order (part 12 26 c) ≡ true
  pub log₀ : log_in_order 102 (log_of (part 8 38 c)) ≡ true
  pub log₁ : log_in_order 24 (log_of (part 8 46 c)) ≡ true
  pub log₂ : log_in_order 672 (log_of (part 8 54 c)) ≡ true
  pub activation : activation_in_order (part 5 62 c) ≡ true
  pub status : get_or c 87 0 < 4
  pub rest : all_zero (part 422 88 c) ≡ true

and_three : (a b c : Bool) → (a && (b && c)) ≡ true → (a ≡ true) × (b ≡ true) × (c ≡ true)
and_three a b c h = let p = and_parts a (b && c) h in let q = and_parts b c p.1 in (p.0, q.0, q.1)

ordered : (c : List ℕ) → in_order c ≡ true → Ordered c
unfolding in_order_as rows_in_order logs_in_order rest_in_order
ordered c h =
    let p = and_parts (eqb (word 2 0 c) 1) (rows_in_order 2 c && (logs_in_order 38 c && rest_in_order c)) h in
    let q = and_three (rows_in_order 2 c) (logs_in_order 38 c) (rest_in_order c) p.1 in
    let rows = and_three (row_in_order (part 12 2 c)) (row_in_order (part 12 14 c)) (row_in_order (part 12 26 c)) q.0 in
    let logs = and_three (log_in_order 102 (log_of (part 8 38 c))) (log_in_order 24 (log_of (part 8 46 c))) (log_in_order 672 (log_of (part 8 54 c))) q.1 in
    let rest = and_three (activation_in_order (part 5 62 c)) (ltb (get_or c 87 0) 4) (all_zero (part 422 88 c)) q.2 in
    record { layout = eqb-true _ _ p.0; row₀ = rows.0; row₁ = rows.1; row₂ = rows.2; log₀ = logs.0; log₁ = logs.1; log₂ = logs.2; activation = rest.0; status = ltb-true _ _ rest.1; rest = rest.2 }

same_laid : (a p₀ p₁ p₂ l₀ l₁ l₂ t g s z a' p₀' p₁' p₂' l₀' l₁' l₂' t' g' s' z' : List ℕ) → a ≡ a' → p₀ ≡ p₀' → p₁ ≡ p₁' → p₂ ≡ p₂' → l₀ ≡ l₀' → l₁ ≡ l₁' → l₂ ≡ l₂' → t ≡ t' → g ≡ g' → s ≡ s' → z ≡ z' → laid a p₀ p₁ p₂ l₀ l₁ l₂ t g s z ≡ laid a' p₀' p₁' p₂' l₀' l₁' l₂' t' g' s' z'
same_laid a p₀ p₁ p₂ l₀ l₁ l₂ t g s z a' p₀' p₁' p₂' l₀' l₁' l₂' t' g' s' z' e₁ e₂ e₃ e₄ e₅ e₆ e₇ e₈ e₉ e₁₀ e₁₁ = cc

status_piece : (c : List ℕ) → length c ≡ 510 → get_or c 87 0 < 4 → status_byte (status_of (get_or c 87 0)) ∷ [] ≡ part 1 87 c
status_piece c long small = ap (λ n. n ∷ []) (status_writes (get_or c 87 0) small) ∙ sym (ap (take 1) (drop_more c 87 0 (omega arith)))

layout_piece : (c : List ℕ) → length c ≡ 510 → Small c → word 2 0 c ≡ 1 → le_bytes 2 1 ≡ part 2 0 c
layout_piece c long small e = sym (ap (le_bytes 2) e) ∙ word_2_back 0 c (omega arith) small ∙ sym (part_2 0 c (omega arith))

pub written_head : (c : List ℕ) → length c ≡ 510 → Small c → in_order c ≡ true → encode_head (decode_head c) ≡ c
unfolding rows_from logs_from activation_from registers_from status_from
written_head c long small h =
    let o = ordered c h in
    encoded (row_of (part 12 2 c)) (row_of (part 12 14 c)) (row_of (part 12 26 c)) (log_of (part 8 38 c)) (log_of (part 8 46 c)) (log_of (part 8 54 c)) (activation_of (part 5 62 c)) (registers_at 0 (part 20 67 c)) (status_of (get_or c 87 0))
    ∙ same_laid _ _ _ _ _ _ _ _ _ _ _ _ _ _ _ _ _ _ _ _ _ _
    (layout_piece c long small o.layout)
    (row_writes (part 12 2 c) (length_part 2 12 c (omega arith)) (small_part 2 12 c small) o.row₀)
    (row_writes (part 12 14 c) (length_part 14 12 c (omega arith)) (small_part 14 12 c small) o.row₁)
    (row_writes (part 12 26 c) (length_part 26 12 c (omega arith)) (small_part 26 12 c small) o.row₂)
    (log_writes (part 8 38 c) (length_part 38 8 c (omega arith)) (small_part 38 8 c small))
    (log_writes (part 8 46 c) (length_part 46 8 c (omega arith)) (small_part 46 8 c small))
    (log_writes (part 8 54 c) (length_part 54 8 c (omega arith)) (small_part 54 8 c small))
    (activation_writes (part 5 62 c) (length_part 62 5 c (omega arith)) (small_part 62 5 c small) o.activation)
    (registers_writes (part 20 67 c) (length_part 67 20 c (omega arith)) (small_part 67 20 c small))
    (status_piece c long o.status)
    (sym (all_zero_lem (part 422 88 c) 422 (length_part 88 422 c (omega arith)) o.rest))
    ∙ whole c long

pub formed_head : (c : List ℕ) → length c ≡ 510 → Small c → in_order c ≡ true → WellFormed (decode_head c)
unfolding rows_from logs_from activation_from registers_from
formed_head c long small h =
    let o = ordered c h in
    record {
      three = refl;
      rows = (
        row_formed (part 12 2 c) (length_part 2 12 c (omega arith)) o.row₀,
        (row_formed (part 12 14 c) (length_part 14 12 c (omega arith)) o.row₁, (row_formed (part 12 26 c) (length_part 26 12 c (omega arith)) o.row₂, tt)),
      );
      logs = (
        log_formed 102 (part 8 38 c) (length_part 38 8 c (omega arith)) (small_part 38 8 c small) o.log₀,
        (
          log_formed 24 (part 8 46 c) (length_part 46 8 c (omega arith)) (small_part 46 8 c small) o.log₁,
          (log_formed 672 (part 8 54 c) (length_part 54 8 c (omega arith)) (small_part 54 8 c small) o.log₂, tt),
        ),
      );
      activation = activation_formed (part 5 62 c) o.activation;
      registers = registers_fit (part 20 67 c) (length_part 67 20 c (omega arith)) (small_part 67 20 c small);
    }

pub laws : Laws
laws = record {
  long = λ h w. (encoded_head h w).long;
  reads = λ h w. (encoded_head h w).reads;
  in_order_lem = λ h w. (encoded_head h w).in_order_lem;
  writes = written_head;
  formed = formed_head;
}
