-- Each example is computed.
use Rattle.std.proofs.Common.{refl}
use Rattle.model.specs.Examples.{Worked}

pub worked : Worked
worked = record {
  adds = refl;
  goes_on = refl;
  nine_kept = refl;
  eight_kept = refl;
  fenced = refl;
  reads_flagged = refl;
  reads_on = refl;
  cut_finds = refl;
  was_done = refl;
  was_lost = refl;
  late_cancel = refl;
  too_small = refl;
  large_enough = refl;
  no_whole_logs = refl;
  largest = refl;
  too_large = refl;
  missing = refl;
  missing_named = refl;
  no_number = refl;
  disagree = refl;
  not_update = refl;
  eight_free = refl;
  seven_free = refl;
  query_needs_none = refl;
  last_room = refl;
  order_full = refl;
  called_counts = refl;
  fails_once = refl;
  answers_after = refl;
  still_open = refl;
  now_done = refl;
  not_rising = refl;
  no_station = refl;
  station_zero = refl;
  not_up = refl;
  busy = refl;
  no_sort = refl;
  no_call = refl;
  not_given = refl;
  no_run_yet = refl;
  shut_start = refl;
  shut_rise = refl;
  shut_call = refl;
  shut_step = refl;
  shut_outcome = refl;
}
