use Rattle.std.proofs.Common.{ℕ, List, ◌≡◌, ◌^◌, ◌∙◌, ap, length, min, max, slice_index, arith}
use Rattle.std.specs.{Prelude.{codes, sum}, List.reduce}
use Rattle.ultra_model.specs.Machine.{Settings, size}
use Rattle.ultra_latency.specs.Latency.{latencies as latencies_in}
use Rattle.ultra_measure.specs.{Columns.{number_if, mean_if}, EventKinds.{is_issue, is_delivery, is_act, is_act_of, is_combination}, Window.{greatest, event_count, sum_of}}
use Rattle.ultra_measure.proofs.{Chain.{numbered, valued, one_column, more_columns}, More.greatest_same}
use Rattle.ultra_measure.proofs.columns.put_events.Goals as goal

pub returns : goal.returns
returns g c =
    let form = c.args.form in
    let b = c.args.blocks.now in
    let s = b.config in
    let p = b.program in
    let w = c.args.window.now in
    let from = w.from in
    let to = c.args.to in
    let kept = c.requires in
    let latencies = w.latencies in
    let waited : List ℕ = latencies_in s p from to in
    let positions : c.size-size.result ≡ size s = c.size-size.ensures.value ∙ ap (λ d. 2 ^ d) (c.net.ensures ∙ ap (λ (t : Settings). t.stages) c.config.ensures) in
    let most = c.greatest_of.ensures ∙ ap (λ n. greatest n (λ k. slice_index w.events.acts_of k)) positions ∙ greatest_same (size s) (λ k. slice_index w.events.acts_of k) (λ k. event_count s p from to (is_act_of k)) (λ k h. (kept.events.acts_of k (omega (arith, h, positions, c.size-size.ensures.small))).is) in
    (more_columns form (valued (codes "latency_mean") (mean_if (sum waited) (length waited))) (ap (valued (codes "latency_mean")) (c.mean_value.ensures ∙ ap (λ t. mean_if t latencies.count) kept.latencies.summary.sum ∙ ap (mean_if (sum waited)) kept.latencies.summary.count))
    (more_columns form (valued (codes "latency_greatest") (number_if (reduce max waited))) (ap (valued (codes "latency_greatest")) (c.number_value-2.ensures ∙ ap number_if kept.latencies.summary.greatest))
    (more_columns form (valued (codes "latency_least") (number_if (reduce min waited))) (ap (valued (codes "latency_least")) (c.number_value.ensures ∙ ap number_if kept.latencies.summary.least))
    (more_columns form (numbered (codes "acts_most") (greatest (size s) (λ k. event_count s p from to (is_act_of k)))) (ap (numbered (codes "acts_most")) most)
    (more_columns form (numbered (codes "faults") (sum_of s p from to (λ m. length m.stops))) (ap (numbered (codes "faults")) kept.events.faults.is)
    (more_columns form (numbered (codes "combined") (event_count s p from to is_combination)) (ap (numbered (codes "combined")) kept.events.combined.is)
    (more_columns form (numbered (codes "acts") (event_count s p from to is_act)) (ap (numbered (codes "acts")) kept.events.acts.is)
    (more_columns form (numbered (codes "answered") (event_count s p from to is_delivery)) (ap (numbered (codes "answered")) kept.events.answered.is)
    (one_column form (numbered (codes "issued") (event_count s p from to is_issue)) (ap (numbered (codes "issued")) kept.events.issued.is) c.put_number.ensures)
    c.put_number-2.ensures)
    c.put_number-3.ensures)
    c.put_number-4.ensures)
    c.put_number-5.ensures)
    c.put_number-6.ensures)
    c.put_column.ensures)
    c.put_column-2.ensures)
    c.put_column-3.ensures).wrote
