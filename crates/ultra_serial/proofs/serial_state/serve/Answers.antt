use Rattle.std.proofs.Common.{◌≡◌, [], ◌∷◌, ◌++◌, take, get_or, arith, ap, sym, ◌∙◌, append_assoc}
use Rattle.ultra_msg.specs.Act.{act}
use Rattle.ultra_serial_law.specs.Legal.{Cells, with_cell, answered_by, cells_after, replayed}
use Rattle.ultra_serial.specs.DenseCells.{dense_cells}
use Rattle.ultra_serial.proofs.Turns.{replayed_more, cells_more, some_leaf}
use Rattle.ultra_serial.proofs.serial_state.serve.Goals as goal

pub loop-leaf-preserved : goal.loop-leaf-preserved
loop-leaf-preserved c =
    let m = dense_cells c.args.memory.now in
    let ls = c.args.leaves.now in
    let k = c.loop-leaf.leaf-index in
    let x = get_or ls k some_leaf in
    let now = cells_after m (take k ls) in
    let done = replayed m (take k ls) in
    let before = c.args.order.now.items in
    let reply : c.in_ok-reply.reply ≡ (act x.op (now x.cell)).1 = c.in_ok-reply.ensures.reply ∙ ap (λ (f : Cells). (act x.op (f x.cell)).1) c.loop-leaf.invariant.cells in
    record {
      order =
          c.in_ok-push.ensures.items
          ∙ (ap (λ es. es ++ answered_by x c.in_ok-reply.reply ∷ []) c.loop-leaf.invariant.order
          ∙ (ap (λ r. (before ++ done) ++ answered_by x r ∷ []) reply
          ∙ (append_assoc before done (answered_by x (act x.op (now x.cell)).1 ∷ [])
          ∙ ap (λ es. before ++ es) (sym (replayed_more m ls k some_leaf (omega arith))))));
      cells =
          c.in_ok-reply.ensures.cells
          ∙ (ap (λ (f : Cells). with_cell f x.cell (act x.op (f x.cell)).0) c.loop-leaf.invariant.cells
          ∙ sym (cells_more m ls k some_leaf (omega arith)));
    }
