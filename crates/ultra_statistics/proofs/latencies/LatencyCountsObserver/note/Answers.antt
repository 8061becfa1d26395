use Rattle.std.proofs.Common.{ℕ, ◌≡◌, ◌-◌, length, ap, subst, arith}
use Rattle.ultra_latency.specs.{Few.HasFewEvents, Open.IsOpenLaw}
use Rattle.ultra_measure.proofs.Waiting.{places_here, shown_here}
use Rattle.ultra_statistics.specs.Latencies.{IsHistogram}
use Rattle.ultra_statistics.proofs.Histograms.{counts_fit, events_here, table_next, same_counts_early, counts_next}
use Rattle.ultra_statistics.proofs.latencies.LatencyCountsObserver.note.Goals as goal

pub returns-then-made-eq0-clause-noted : goal.returns-then-made-eq0-clause-noted
returns-then-made-eq0-clause-noted c =
    let b = c.args.blocks.now in
    let same : c.args.made - 1 ≡ c.args.made = omega (arith, c.if-made-eq0.true) in
    subst (λ k. IsHistogram b.config b.program c.args.self.now.from k c.args.self.now) same c.requires.noted

pub pass_over-requires : goal.pass_over-requires
pass_over-requires c =
    let b = c.args.blocks.now in
    let n = c.args.made - 1 in
    let law = rw c.config.ensures at (c.law_of_open_requests.ensures b.program n) in
    places_here b.config b.program n law _ (events_here b.config b.program c.args.self.now.from c.args.made c.if-made-eq0.false b.machine _ c.requires.state.state c.events_of_one.ensures) _ c.requires.noted.table.rows

pub returns-then-cycle-self-clause-noted : goal.returns-then-cycle-self-clause-noted
returns-then-cycle-self-clause-noted c =
    let b = c.args.blocks.now in
    let n = c.args.made - 1 in
    let first = c.args.self.now.from in
    let some = c.if-made-eq0.false in
    let law = rw c.config.ensures at (c.law_of_open_requests.ensures b.program n) in
    let events = events_here b.config b.program first c.args.made some b.machine _ c.requires.state.state c.events_of_one.ensures in
    record {
      table = table_next b.config b.program first c.args.made some law _ events c.args.self.now.table _ c.requires.noted.table c.pass_over.ensures.rows c.pass_over.ensures.capacity;
      by_latency = c.requires.noted.by_latency;
      counts = same_counts_early b.config b.program first c.args.made some c.if-cycle-self.true c.args.self.now.counts.items c.requires.noted.counts;
    }

pub count_latencies-requires : goal.count_latencies-requires
count_latencies-requires c =
    let b = c.args.blocks.now in
    let n = c.args.made - 1 in
    let first = c.args.self.now.from in
    let some = c.if-made-eq0.false in
    let laws : (k : ℕ) → IsOpenLaw b.config b.program k = λ k. rw c.config.ensures at (c.law_of_open_requests.ensures b.program k) in
    let few : HasFewEvents b.config b.program n = rw c.config-2.ensures at (c.law_of_few_events.ensures b.program n) in
    let events = events_here b.config b.program first c.args.made some b.machine _ c.requires.state.state c.events_of_one-2.ensures in
    record {
      places = places_here b.config b.program n (laws n) _ events _ c.requires.noted.table.rows;
      by_latency = c.requires.noted.by_latency;
      room = λ l. let is = c.requires.noted.counts l in omega (arith, is, counts_fit b.config b.program first (λ k. (laws k).few) n (length c.events_of_one-2.result.now) (omega (arith, c.requires.few)) (omega (arith, few.events, ap length events)) l);
    }

pub returns-clause-noted : goal.returns-clause-noted
returns-clause-noted c =
    let b = c.args.blocks.now in
    let n = c.args.made - 1 in
    let first = c.args.self.now.from in
    let some = c.if-made-eq0.false in
    let law = rw c.config.ensures at (c.law_of_open_requests.ensures b.program n) in
    let events = events_here b.config b.program first c.args.made some b.machine _ c.requires.state.state c.events_of_one-2.ensures in
    let now = c.in_ok-count_latencies.ensures in
    record {
      table = table_next b.config b.program first c.args.made some law _ events c.args.self.now.table _ c.requires.noted.table now.rows now.capacity;
      by_latency = now.by_latency;
      counts = counts_next b.config b.program first c.args.made some c.if-cycle-self.false _ (shown_here b.config b.program n law _ events _ c.requires.noted.table.rows) c.args.self.now.counts.items _ c.requires.noted.counts now.counts;
    }
