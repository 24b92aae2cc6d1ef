-- The laws of stagings together.
use Rattle.fates.specs.Fates.{FateLaws}
use Rattle.fates.proofs.OneFate.{exactly_one_fate, never_late}
use Rattle.fates.proofs.Telling.{account_tells}
use Rattle.fates.proofs.Matching.{stays_matched}
use Rattle.fates.proofs.TakingForce.{takes_force_whole, in_time}
use Rattle.fates.proofs.Lasting.{fates_last}

pub fate_laws : FateLaws
fate_laws = record {
  one_fate = exactly_one_fate;
  told = account_tells;
  matched = stays_matched;
  whole = takes_force_whole;
  never_late = never_late;
  in_time = in_time;
  last = fates_last;
}
