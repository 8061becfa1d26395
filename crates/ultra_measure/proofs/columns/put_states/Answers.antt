use Rattle.std.proofs.Common.{◌∙◌, ap}
use Rattle.std.specs.Prelude.{codes}
use Rattle.ultra_model.specs.{Machine.size, Balance.total}
use Rattle.ultra_measure.specs.Held.{running, stalled, opened, pending, waiting_in, waiting_out}
use Rattle.ultra_measure.specs.Window.{greatest, most_of, sum_of}
use Rattle.ultra_measure.proofs.Chain.{numbered, one_column, more_columns}
use Rattle.ultra_measure.proofs.columns.put_states.Goals as goal

pub returns : goal.returns
returns g c =
    let form = c.args.form in
    let b = c.args.blocks.now in
    let s = b.config in
    let p = b.program in
    let from = c.args.window.now.from in
    let to = c.args.to in
    let kept = c.requires in
    (more_columns form (numbered (codes "out_sum") (sum_of s p from to (λ m. total (size s) (waiting_out m)))) (ap (numbered (codes "out_sum")) kept.outputs.is)
    (more_columns form (numbered (codes "inp_sum") (sum_of s p from to (λ m. total (size s) (waiting_in m)))) (ap (numbered (codes "inp_sum")) kept.inputs.is)
    (more_columns form (numbered (codes "pni_most") (most_of s p from to (λ m. greatest (size s) (pending m)))) (ap (numbered (codes "pni_most")) (c.from.ensures ∙ kept.elements.pending_most))
    (more_columns form (numbered (codes "pni_sum") (sum_of s p from to (λ m. total (size s) (pending m)))) (ap (numbered (codes "pni_sum")) kept.elements.pending.is)
    (more_columns form (numbered (codes "open_sum") (sum_of s p from to (λ m. total (size s) (opened m)))) (ap (numbered (codes "open_sum")) kept.elements.opened.is)
    (more_columns form (numbered (codes "stalled_sum") (sum_of s p from to (λ m. total (size s) (stalled s p m)))) (ap (numbered (codes "stalled_sum")) kept.elements.stalled.is)
    (one_column form (numbered (codes "running_sum") (sum_of s p from to (λ m. total (size s) (running m)))) (ap (numbered (codes "running_sum")) kept.elements.running.is) c.put_number.ensures)
    c.put_number-2.ensures)
    c.put_number-3.ensures)
    c.put_number-4.ensures)
    c.put_number-5.ensures)
    c.put_number-6.ensures)
    c.put_number-7.ensures).wrote
