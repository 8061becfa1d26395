-- the histogram of latencies against the deliveries of the window
use Rattle.std.specs.Prelude.{◌≡◌, ℕ, List, length}
use Rattle.ultra_isa.specs.declared.Instr.{Instr}
use Rattle.ultra_model.specs.{Machine.Settings, Balance.total}
use Rattle.ultra_latency.specs.Latency.{latencies}
use Rattle.ultra_measure.specs.{Window.event_count, EventKinds.is_delivery}
use Rattle.ultra_statistics.specs.Latencies.{answered_in}

-- each delivery of the window has one latency, and each latency is below the end of the window: so
-- the counts of the rows add up to the deliveries, which are the measure `answered`
pub record IsLatencyLaw (c : Settings) (program : List Instr) (from to : ℕ) : Type 0 where
  pub deliveries : length (latencies c program from to) ≡ event_count c program from to is_delivery
  pub rows : total to (answered_in (latencies c program from to))
      ≡ length (latencies c program from to)

abbrev pub LatencyLaw : Type 0
LatencyLaw =
    (c : Settings) (program : List Instr) (from to : ℕ) → IsLatencyLaw c program from to
