use Rattle.std.proofs.{lemmas.{Grind.common_steps, List.take_all}, Common.arith}
use Rattle.ultra_io.proofs.Writing.{◌then◌, ◌moved◌}
use Rattle.ultra_trace_text.proofs.Listed.{more_listed}
use Rattle.ultra_trace_text.proofs.entries.put_entries.Goals as goal

pub loop-index-preserved : goal.loop-index-preserved
loop-index-preserved g c =
    let E = g.E.Entries in record {
      goes_on =
          let comma = c.loop-index.invariant.goes_on moved c.make_room-at.ensures.goes_on then c.write-at-in-loop-index.ensures.goes_on in
          rw (more_listed E.text (E.entries c.args.entries.now) c.loop-index.index _ (omega arith) c.entry-in-loop-index.ensures)
          (◌then◌ {u = c.write-at-in-loop-index-2.new.buffer} comma c.write-at-in-loop-index-2.ensures.goes_on);
      room = omega arith;
    }

pub returns : goal.returns
returns g c =
    let all = rw (take_all c.loop-index.index (g.E.Entries.entries c.args.entries.now) (omega arith)) at c.loop-index.invariant.goes_on in
    all then c.end_line.ensures

pub loop-index-init : goal.loop-index-init
loop-index-init g c = grind (arith, common_steps)
