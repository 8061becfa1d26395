use Rattle.std.proofs.{Common.{arith, ap, ◌∙◌}, lemmas.Result.on_ok_weaker}
use Rattle.ultra_serial.specs.{Memory.cell_in, DenseCells.cells_over}
use Rattle.ultra_serial.proofs.DenseCells.{low_set, high_set}
use Rattle.ultra_serial.proofs.dense_memory.DenseMemory.set.Goals as goal

pub returns-then-place-len : goal.returns-then-place-len
returns-then-place-len c =
    let s = c.args.self.now in
    low_set s.low.items (cell_in s.high) c.args.cell c.args.word (omega (arith, s.low.ok.0, c.if-place-len.true, c.len.ensures))

pub returns : goal.returns
returns c =
    let s = c.args.self.now in
    on_ok_weaker c.set.result (λ cells. ap (cells_over s.low.items) cells ∙ high_set s.low.items (cell_in s.high) c.args.cell c.args.word (omega (arith, s.low.ok.0, c.if-place-len.false, c.len.ensures))) c.set.ensures.cells
