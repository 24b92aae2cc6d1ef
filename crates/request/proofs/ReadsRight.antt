-- Bytes that are read as what they ask for are read right.
use Rattle.std.proofs.Common.{◌≡◌, ℕ, List, get_or, Result, sym, ap, ◌∙◌, arith, Fits, w8}
use Rattle.refusals.specs.declared.fault.ServiceFault.{ServiceFault}
use Rattle.request.specs.Asks.{Ask, ask_in}
use Rattle.request.specs.Sent.{ReadRight}
use Rattle.request.proofs.Sends.{sent_read}
use Rattle.request.proofs.Receives.{read_sent}

pub reads_right : (bs : List ℕ) (read : Result Ask ServiceFault) → read ≡ ask_in bs → ((i : ℕ) → Fits w8 (get_or bs i 0)) → ReadRight bs read
reads_right bs read is small = record {
  sent = λ a fits e. is ∙ (ap ask_in e ∙ sent_read a fits);
  only = λ a e. read_sent bs a (λ i. omega (arith, small i)) (sym is ∙ e);
}
