use Rattle.std.proofs.{Common.{◌++◌, ◌+◌, [], drop, codes}, lemmas.List.drop_all}
use Rattle.ultra_io.proofs.Writing.{writes_nothing}
use Rattle.ultra_asm.specs.Listing.{operand_text, operands_text}
use Rattle.ultra_asm.proofs.{InBuffer.{continued, ended}, Places.next_operand}
use Rattle.ultra_asm.proofs.canonical.put_operands.Goals as goal

pub loop-operand-preserved : goal.loop-operand-preserved
loop-operand-preserved g c =
    let k = c.loop-operand.operand-index in
    let before = rw (next_operand c.args.operands.now k c.operand-item.result c.loop-operand-test.true c.operand-item.is) at c.loop-operand.invariant in
    continued (codes " " ++ operand_text c.operand-item.result) (operands_text (drop (k + 1) c.args.operands.now)) before c.put_next.ensures

pub returns : goal.returns
returns g c =
    let all = rw (drop_all c.loop-operand.operand-index c.args.operands.now c.loop-operand-test.false) at c.loop-operand.invariant in
    ended [] all (writes_nothing _)
