use Rattle.std.proofs.Common.{◌≡◌, ◌≤◌, min, drop}
use Rattle.text.specs.Numerals.{all_digits, value_after, value_of}
use Rattle.text.proofs.number.capped_value.Given as goal

abbrev pub invariant-loop-byte : goal.invariant-loop-byte
invariant-loop-byte l = (l.value ≤ l.limit) × (all_digits (drop l.byte-index l.word) ≡ all_digits l.word) × (min l.limit (value_after l.value (drop l.byte-index l.word)) ≡ min l.limit (value_of l.word))
