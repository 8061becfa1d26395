use Rattle.std.proofs.Common.{◌≡◌, ◌∙◌, ap, nat_lt}
use Rattle.std.specs.Prelude.{codes}
use Rattle.ultra_model.specs.{Machine.{Settings, size}, Balance.total}
use Rattle.ultra_measure.specs.{Columns.{in_stage, of_stage}, EventKinds.is_combination_in, Held.{requests, replies, records, full_waits}, Window.{greatest, event_count, most_of, sum_of}}
use Rattle.ultra_measure.proofs.Chain.{valued, one_column, more_columns, same_in_stage}
use Rattle.ultra_measure.proofs.columns.put_stage.Goals as goal

pub returns : goal.returns
returns g c =
    let form = c.args.form in
    let b = c.args.blocks.now in
    let s = b.config in
    let p = b.program in
    let from = c.args.window.now.from in
    let to = c.args.to in
    let k = c.args.stage in
    let kept = c.requires.kept in
    let stage = c.requires.stage in
    let there : nat_lt k c.stages.result ≡ nat_lt k s.stages = ap (nat_lt k) (c.stages.ensures.value ∙ ap (λ (t : Settings). t.stages) c.config.ensures) in
    (more_columns form (in_stage s p from to (codes "full_waits") k (sum_of s p from to (λ m. total (size s) (full_waits s k m)))) (ap (valued (of_stage (codes "full_waits") k)) (same_in_stage k s.stages _ there (λ h. kept.records.full k h)))
    (more_columns form (in_stage s p from to (codes "records_most") k (most_of s p from to (λ m. greatest (size s) (records k m)))) (ap (valued (of_stage (codes "records_most") k)) (same_in_stage k s.stages _ there (λ h. c.from-3.ensures ∙ kept.records.maxima k h)))
    (more_columns form (in_stage s p from to (codes "records_sum") k (sum_of s p from to (λ m. total (size s) (records k m)))) (ap (valued (of_stage (codes "records_sum") k)) (same_in_stage k s.stages _ there (λ h. kept.records.sums k h)))
    (more_columns form (in_stage s p from to (codes "reply_queue_most") k (most_of s p from to (λ m. greatest (size s) (replies k m)))) (ap (valued (of_stage (codes "reply_queue_most") k)) (same_in_stage k s.stages _ there (λ h. c.from-2.ensures ∙ kept.replies.maxima k h)))
    (more_columns form (in_stage s p from to (codes "reply_queue_sum") k (sum_of s p from to (λ m. total (size s) (replies k m)))) (ap (valued (of_stage (codes "reply_queue_sum") k)) (same_in_stage k s.stages _ there (λ h. kept.replies.sums k h)))
    (more_columns form (in_stage s p from to (codes "request_queue_most") k (most_of s p from to (λ m. greatest (size s) (requests k m)))) (ap (valued (of_stage (codes "request_queue_most") k)) (same_in_stage k s.stages _ there (λ h. c.from.ensures ∙ kept.requests.maxima k h)))
    (more_columns form (in_stage s p from to (codes "request_queue_sum") k (sum_of s p from to (λ m. total (size s) (requests k m)))) (ap (valued (of_stage (codes "request_queue_sum") k)) (same_in_stage k s.stages _ there (λ h. kept.requests.sums k h)))
    (one_column form (in_stage s p from to (codes "combined") k (event_count s p from to (is_combination_in k))) (ap (valued (of_stage (codes "combined") k)) (same_in_stage k s.stages _ there (λ h. (kept.events.combined_in k stage).is))) c.put_of_stage.ensures)
    c.put_of_stage-2.ensures)
    c.put_of_stage-3.ensures)
    c.put_of_stage-4.ensures)
    c.put_of_stage-5.ensures)
    c.put_of_stage-6.ensures)
    c.put_of_stage-7.ensures)
    c.put_of_stage-8.ensures).wrote
