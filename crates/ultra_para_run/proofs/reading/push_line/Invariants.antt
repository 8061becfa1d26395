use Rattle.std.proofs.Common.{◌≡◌, ◌++◌, length, map, take, true, is_some}
use Rattle.std.specs.{List.list_all, Str.Parse.digits_value}
use Rattle.ultra_para_run.specs.ScheduleText.{pe_of, schedule_words}
use Rattle.ultra_para_run.proofs.reading.push_line.Given as goal

abbrev pub invariant-loop-word : goal.invariant-loop-word
invariant-loop-word l = record {
  words : list_all (λ w. is_some (pe_of l.fn.size w)) (take (length l.yielded) (schedule_words l.fn.line)) ≡ true;
  numbers : l.schedule.items ≡ l.fn.schedule.items ++ map (digits_value 10) (take (length l.yielded) (schedule_words l.fn.line));
}
