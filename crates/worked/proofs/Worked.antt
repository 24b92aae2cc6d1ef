-- The worked examples and the worked life: each of their facts is computed.
use Rattle.std.proofs.Common.{refl}
use Rattle.calendar.specs.Calendar.{date_of, count_off, year_lengths}
use Rattle.directory.specs.Tables.{listed}
use Rattle.fields.specs.Words.{word, big_word}
use Rattle.fields.specs.Patches.{patch, overlay}
use Rattle.head.specs.Heads.{rows_from, logs_from, activation_from, registers_from, status_from, encode_as}
use Rattle.logs.specs.Slots.{slot_bytes, put_slot}
use Rattle.logs.specs.Tables.{log_table, head_bytes, shown_slot, is_held}
use Rattle.model.specs.Calls.{formatted, power_up, ticked}
use Rattle.model.specs.Serving.{performed}
use Rattle.model.specs.Tables.{table_bytes}
use Rattle.head.specs.Order.{rows_in_order, logs_in_order, rest_in_order, in_order_as}
use Rattle.head.specs.Pieces.{row_bytes, log_bytes, activation_bytes}
use Rattle.model.specs.Procedures.{obeyed, carried_out}
use Rattle.model.specs.States.{ended}
use Rattle.model.specs.Steps.{entered, noted, self_read_taken, interval_taken, activated, time_changed}
use Rattle.model.specs.Tariffs.{is_scheduled}
use Rattle.records.specs.Layouts.{five_words, event_layout, self_read_layout, interval_layout}
use Rattle.request.specs.Answers.{zeroed}
use Rattle.worked.specs.Examples.{Worked}
use Rattle.worked.specs.Life.{WorkedLife}

pub worked : Worked
unfolding date_of count_off year_lengths listed word big_word patch overlay log_table head_bytes shown_slot is_held slot_bytes rows_from logs_from activation_from registers_from status_from formatted performed table_bytes
worked = record {
  march = refl;
  leap_day = refl;
  thursday = refl;
  leap_day_back = refl;
  no_leap_day = refl;
  zero_block = refl;
  last_byte = refl;
  clock_read = refl;
  clock_answer = refl;
  history_whole = refl;
  last_byte_of_profile = refl;
  past_the_profile = refl;
  one_too_many = λ r. refl;
  one_overwritten = λ r. refl;
}

pub worked_life : WorkedLife
unfolding date_of count_off year_lengths listed word big_word patch overlay zeroed log_table head_bytes shown_slot is_held slot_bytes put_slot rows_from logs_from activation_from registers_from status_from encode_as row_bytes log_bytes activation_bytes rows_in_order logs_in_order rest_in_order in_order_as five_words event_layout self_read_layout interval_layout formatted ended entered noted self_read_taken interval_taken activated time_changed power_up ticked is_scheduled obeyed carried_out performed table_bytes
worked_life = record {
  not_yet = refl;
  then = refl;
  fates = refl;
  recorded = refl;
  acknowledged = refl;
  cleared = refl;
  overwritten = refl;
  total = refl;
  unread = refl;
  power_up = refl;
  time_changed = refl;
  table_written = refl;
  procedure_invoked = refl;
  activated = refl;
  self_read_taken = refl;
}
