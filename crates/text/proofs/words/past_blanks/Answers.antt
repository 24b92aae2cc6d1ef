use Rattle.std.proofs.Common.{◌≡◌, ℕ, List, drop, ap, ◌∙◌, arith}
use Rattle.text.specs.Lines.{blank, past_blanks, words_of}
use Rattle.text.proofs.Cutting.{lead_past, words_past}
use Rattle.text.proofs.words.past_blanks.Goals as goal

pub returns : goal.returns
unfolding past_blanks
returns c =
    let line = c.args.line.now in
    let back : c.split_at.result.1.now ≡ past_blanks line = c.split_at.ensures.back ∙ ap (λ (n : ℕ). drop n line) c.run_length.ensures.value in
    record {
      value = back;
      solid = rw back (lead_past blank line);
      words = ap (λ (l : List ℕ). words_of l) back ∙ words_past line;
      bound = omega (arith, c.split_at.ensures.back_len);
    }
