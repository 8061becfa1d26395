use Rattle.ultra_io.proofs.Writing.{◌then◌}
use Rattle.ultra_list.proofs.EntryLines.{one_more}
use Rattle.ultra_list.proofs.writing.put_entries.Goals as goal

pub loop-entry-preserved : goal.loop-entry-preserved
loop-entry-preserved g c =
    let more = c.loop-entry.invariant then c.put_entry_line.ensures in
    rw (one_more c.args.entries.now c.loop-entry.entry-index _ c.loop-entry-test.true) at more
