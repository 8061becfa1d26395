use Rattle.std.proofs.Common.{◌≡◌, ◌≤◌, ◌+◌, ◌++◌, length, drop, arith}
use Rattle.ultra_asm.specs.Listing.{listing_from, label_if, is_target, instruction_line}
use Rattle.ultra_asm.proofs.{InBuffer.{begun, continued, ended}, Places.{next_lines, last_line, get_none}, RoundTrip.reads_back, canonical.put_program.Goals.{in-Some, in_default}}
use Rattle.ultra_asm.proofs.canonical.put_program.Goals as goal

pub loop-pc-init : goal.loop-pc-init
loop-pc-init g c = begun _ _

pub loop-pc-preserved : goal.loop-pc-preserved
loop-pc-preserved g c =
    let is = c.args.program.now in
    let n = c.loop-pc.pc in
    elim c.match-instruction.branch [
      | in-Some w ↦
          let marked = c.of-targets.ensures.marked n (omega (arith, c.loop-pc-test.true, c.len-pc-end.ensures.small)) in
          let piece = rw marked at w.put_pc.ensures in
          let before = rw (next_lines is n w.in-Some.instruction w.in-Some.ensures.at) at c.loop-pc.invariant in
          rw w.buffer-is (continued (label_if (is_target is n) n ++ instruction_line w.in-Some.instruction) (listing_from is (n + 1) (drop (n + 1) is)) before piece)
      | in_default w ↦
          let past : length is ≤ n = get_none is n w.in_default.ensures.at in
          absurd (omega (arith, c.loop-pc-test.true, c.len-pc-end.ensures.count))
    ]

pub returns-clause-text : goal.returns-clause-text
returns-clause-text g c =
    let is = c.args.program.now in
    let n = c.loop-pc.pc in
    let same : c.len.result ≡ n = omega (arith, c.len.ensures.count, c.len-pc-end.ensures.count, c.loop-pc-test.false, c.loop-pc.auto.pc-end) in
    let end : length is ≤ n = omega (arith, c.len.ensures.count) in
    let marked = c.of-targets.ensures.marked n (omega (arith, c.len.ensures.small)) in
    let piece = rw marked at (rw same at c.put_label_line.ensures) in
    let before = rw (last_line is n end) at c.loop-pc.invariant in
    ended (label_if (is_target is n) n) before piece

pub returns-clause-reads_back : goal.returns-clause-reads_back
returns-clause-reads_back g c = reads_back c.args.program.now c.len-pc-end.ensures.valid c.of-targets.ensures.listable
