use Rattle.std.proofs.Common.{ℕ, ◌≡◌, ◌^◌, ◌≤◌, length, ap, ◌∙◌, arith}
use Rattle.ultra_model.specs.{Machine.{Settings, size}, Trace.cycle_count}
use Rattle.ultra_latency.proofs.Deliveries.{length_rows}
use Rattle.ultra_requests.proofs.Tables.{end_is}
use Rattle.ultra_requests.proofs.requests.RequestTextRunText.put_closing.Goals as goal

pub put_waiting-requires : goal.put_waiting-requires
put_waiting-requires g c =
    let b = c.args.blocks.now in
    let range = rw c.config.ensures at c.initial-valid.ensures.valid.range in
    let pes : c.size.result ≡ size b.config = c.size.ensures.value ∙ ap (λ d. 2 ^ d) (c.net.ensures ∙ ap (λ (t : Settings). t.stages) c.config-2.ensures) in
    let rows = ap length c.requires.ready.rows ∙ length_rows b.config range b.program (cycle_count b.config b.program) in
    omega (arith, pes, rows)

pub returns : goal.returns
returns g c =
    let b = c.args.blocks.now in
    let range = rw c.config.ensures at c.initial-valid.ensures.valid.range in
    let pes : c.size.result ≡ size b.config = c.size.ensures.value ∙ ap (λ d. 2 ^ d) (c.net.ensures ∙ ap (λ (t : Settings). t.stages) c.config-2.ensures) in
    rw (pes, c.requires.ready.rows, end_is b.config range b.program) at c.put_waiting.ensures
