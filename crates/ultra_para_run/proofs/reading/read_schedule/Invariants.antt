use Rattle.std.proofs.Common.{◌≡◌, length, take, true}
use Rattle.std.specs.List.{flat_map, list_all}
use Rattle.ultra_asm.specs.Words.{lines_of}
use Rattle.ultra_para_run.specs.ScheduleText.{are_pes, line_pes}
use Rattle.ultra_para_run.proofs.reading.read_schedule.Given as goal

abbrev pub invariant-loop-index : goal.invariant-loop-index
invariant-loop-index l = record {
  words : list_all (are_pes l.size) (take (length l.yielded) (lines_of l.bytes)) ≡ true;
  numbers : l.schedule.items ≡ flat_map line_pes (take (length l.yielded) (lines_of l.bytes));
}
