-- A line cut into its words.
use Rattle.std.proofs.Common.{◌≡◌, ℕ, suc, ◌<◌, Bool, true, false, List, [], ◌∷◌, ◌++◌, length, take, drop, sym, refl, ap, ◌∙◌, ⊎_elim, one-add, arith}
use Rattle.std.specs.List.{prefix_len, flat_map}
use Rattle.std.proofs.lemmas.List.{append-nil, append_assoc}
use Rattle.std.proofs.lemmas.Bool.{cases_Bool, not_from_true, not_from_false}
use Rattle.text.specs.Lines.{blank, of_kind, past_blanks, words_after, words_of, spaced}

lead_yes : (p : ℕ → Bool) (c : ℕ) (cs : List ℕ) → p c ≡ true → prefix_len p (c ∷ cs) ≡ suc (prefix_len p cs)
lead_yes p c cs e = rw e (one-add (prefix_len p cs))

lead_no : (p : ℕ → Bool) (c : ℕ) (cs : List ℕ) → p c ≡ false → prefix_len p (c ∷ cs) ≡ 0
lead_no p c cs e = rw e

-- behind the longest front that passes nothing more passes at once
pub lead_past : (p : ℕ → Bool) (cs : List ℕ) → prefix_len p (drop (prefix_len p cs) cs) ≡ 0
lead_past p [] = refl
lead_past p (c ∷ cs) = ⊎_elim (λ e. rw (lead_yes p c cs e) (lead_past p cs)) (λ e. rw (lead_no p c cs e) (lead_no p c cs e)) (cases_Bool (p c))

blank_first : (c : ℕ) (cs : List ℕ) → blank c ≡ true → words_of (c ∷ cs) ≡ words_of cs
unfolding words_of
blank_first c cs e = rw e

pub words_past : (line : List ℕ) → words_of (past_blanks line) ≡ words_of line
unfolding past_blanks
words_past [] = refl
words_past (c ∷ cs) =
    ⊎_elim
    (λ e. rw (lead_yes blank c cs e) (words_past cs ∙ sym (blank_first c cs e)))
    (λ e. rw (lead_no blank c cs e))
    (cases_Bool (blank c))

solid_first : (c : ℕ) (cs : List ℕ) → blank c ≡ false → words_of (c ∷ cs) ≡ words_after (c ∷ []) cs
unfolding words_of
solid_first c cs e = rw e

-- a word that is begun goes on to the next blank
word_more : (x : ℕ) (w cs : List ℕ) → words_after (x ∷ w) cs ≡ ((x ∷ w) ++ take (prefix_len (of_kind false) cs) cs) ∷ words_of (drop (prefix_len (of_kind false) cs) cs)
unfolding words_of
word_more x w [] = ap (λ (v : List ℕ). v ∷ []) (sym (append-nil (x ∷ w)))
word_more x w (c ∷ cs) =
    ⊎_elim
    (λ e.
    let stop = lead_no (of_kind false) c cs (not_from_true (blank c) e) in
    rw (stop, e) (ap (λ (v : List ℕ). v ∷ words_of cs) (sym (append-nil (x ∷ w)))))
    (λ e.
    let on = lead_yes (of_kind false) c cs (not_from_false (blank c) e) in
    let rest = prefix_len (of_kind false) cs in
    rw (on, e) (word_more x (w ++ c ∷ []) cs ∙ ap (λ (v : List ℕ). v ∷ words_of (drop rest cs)) (append_assoc (x ∷ w) (c ∷ []) (take rest cs))))
    (cases_Bool (blank c))

not_blank : (c : ℕ) (cs : List ℕ) → prefix_len blank (c ∷ cs) ≡ 0 → blank c ≡ false
not_blank c cs none =
    ⊎_elim (λ e. let z : suc (prefix_len blank cs) ≡ 0 = sym (lead_yes blank c cs e) ∙ none in absurd (omega arith)) (λ e. e) (cases_Bool (blank c))

pub words_split : (bytes : List ℕ) → prefix_len blank bytes ≡ 0 → 0 < length bytes → words_of bytes ≡ take (prefix_len (of_kind false) bytes) bytes ∷ words_of (drop (prefix_len (of_kind false) bytes) bytes)
words_split [] solid some = absurd (omega arith)
words_split (c ∷ cs) solid some =
    let e = not_blank c cs solid in
    let on = lead_yes (of_kind false) c cs (not_from_false (blank c) e) in
    rw on (solid_first c cs e ∙ word_more c [] cs)

pub words_none : (bytes : List ℕ) → length bytes ≡ 0 → words_of bytes ≡ []
unfolding words_of
words_none [] none = refl
words_none (c ∷ cs) none = absurd (omega arith)

pub word_some : (bytes : List ℕ) → prefix_len blank bytes ≡ 0 → 0 < length bytes → 0 < prefix_len (of_kind false) bytes
word_some [] solid some = absurd (omega arith)
word_some (c ∷ cs) solid some = rw (lead_yes (of_kind false) c cs (not_from_false (blank c) (not_blank c cs solid))) (omega arith)

-- words that are written with a space before each
abbrev pub after : List (List ℕ) → List ℕ
after ws = flat_map (λ v. 32 ∷ v) ws

pub spaced_none : (out : List ℕ) (ws : List (List ℕ)) → ws ≡ [] → out ≡ out ++ spaced ws
unfolding spaced
spaced_none out ws none = rw none (sym (append-nil out))

pub spaced_all : (start first out w : List ℕ) (ws vs us : List (List ℕ)) → ws ≡ w ∷ vs → first ≡ start ++ w → us ≡ [] → out ++ after us ≡ first ++ after vs → out ≡ start ++ spaced ws
unfolding spaced
spaced_all start first out w ws vs us cut put none before =
    let last : out ++ after us ≡ out = ap (λ (l : List (List ℕ)). out ++ after l) none ∙ append-nil out in
    sym last ∙ before ∙ ap (λ (l : List ℕ). l ++ after vs) put ∙ append_assoc start w (after vs) ∙ ap (λ (l : List (List ℕ)). start ++ spaced l) (sym cut)
