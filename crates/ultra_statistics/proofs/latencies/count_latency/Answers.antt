use Rattle.std.proofs.Common.{◌≡◌, ◌<◌, length, slice_index_or, ap, sym, ◌∙◌, arith}
use Rattle.ultra_statistics.specs.declared.latencies.LatencyCount.{LatencyCount}
use Rattle.ultra_statistics.proofs.CountLists.{count_is, counted_first, counted_there, first_of, same_at}
use Rattle.ultra_statistics.proofs.latencies.count_latency.Goals as goal
use Rattle.ultra_statistics.proofs.latencies.count_latency.Goals.{else-place-len-via-then-place-len+else-index-latency, else-place-len-via-else-place-len}

pub overflow_add-index_mut : goal.overflow_add-index_mut
overflow_add-index_mut c =
    let ps = c.args.counts.now.items in
    let here : c.place_of-place.result < length ps = omega (arith, c.if-place-len.true, c.len.ensures, c.deref.ensures.len, ap length c.deref.ensures.value) in
    let q = c.index_mut.result.now in
    omega (arith, c.requires.room q.latency, count_is ps c.requires.by_latency c.place_of-place.result q here c.index_mut.ensures.value)

pub returns-then-index-latency-clause-by_latency : goal.returns-then-index-latency-clause-by_latency
returns-then-index-latency-clause-by_latency c =
    let ps = c.args.counts.now.items in
    let place = c.place_of-place.result in
    let here : place < length ps = omega (arith, c.if-place-len.true, c.len.ensures, c.deref.ensures.len, ap length c.deref.ensures.value) in
    let q = c.index_mut.result.now in
    let i = c.index.result.now in
    let same : q ≡ i = c.index_mut.ensures.value ∙ same_at ps place q i here ∙ sym c.index.ensures in
    (counted_there ps c.requires.by_latency place q here c.index_mut.ensures.value c.args.latency (ap (λ (p : LatencyCount). p.latency) same ∙ c.if-index-latency.true)).0

pub returns-then-index-latency-clause-counts : goal.returns-then-index-latency-clause-counts
returns-then-index-latency-clause-counts c =
    let ps = c.args.counts.now.items in
    let place = c.place_of-place.result in
    let here : place < length ps = omega (arith, c.if-place-len.true, c.len.ensures, c.deref.ensures.len, ap length c.deref.ensures.value) in
    let q = c.index_mut.result.now in
    let i = c.index.result.now in
    let same : q ≡ i = c.index_mut.ensures.value ∙ same_at ps place q i here ∙ sym c.index.ensures in
    (counted_there ps c.requires.by_latency place q here c.index_mut.ensures.value c.args.latency (ap (λ (p : LatencyCount). p.latency) same ∙ c.if-index-latency.true)).1

pub returns-clause-by_latency : goal.returns-clause-by_latency
returns-clause-by_latency c =
    let ps = c.args.counts.now.items in
    let place = c.place_of-place.result in
    let l = c.args.latency in
    let d = first_of l in
    let long = ap length c.deref.ensures.value in
    let more : place < length ps → l < (slice_index_or ps place d).latency = elim c.else-place-len.branch [
      | else-place-len-via-then-place-len+else-index-latency w ↦ λ h.
          let i = w.index.result.now in
          let same = ap (λ (p : LatencyCount). p.latency) (w.index.ensures ∙ same_at ps place i d h) in
          let least = (rw c.deref.ensures.value at c.place_of-place.ensures.rest) place d (omega arith) h in
          omega (arith, same, least, w.if-index-latency.false)
      | else-place-len-via-else-place-len w ↦ λ h. absurd (omega (arith, h, w.if-place-len.false, c.len.ensures, c.deref.ensures.len, long))
    ] in
    rw c.in_ok-insert.ensures.items (counted_first 0 ps c.requires.by_latency place l d (omega arith) (omega (arith, c.place_of-place.ensures.bound, long)) (λ j h. (rw c.deref.ensures.value at c.place_of-place.ensures.lesser) j d h) more).0

pub returns-clause-counts : goal.returns-clause-counts
returns-clause-counts c =
    let ps = c.args.counts.now.items in
    let place = c.place_of-place.result in
    let l = c.args.latency in
    let d = first_of l in
    let long = ap length c.deref.ensures.value in
    let more : place < length ps → l < (slice_index_or ps place d).latency = elim c.else-place-len.branch [
      | else-place-len-via-then-place-len+else-index-latency w ↦ λ h.
          let i = w.index.result.now in
          let same = ap (λ (p : LatencyCount). p.latency) (w.index.ensures ∙ same_at ps place i d h) in
          let least = (rw c.deref.ensures.value at c.place_of-place.ensures.rest) place d (omega arith) h in
          omega (arith, same, least, w.if-index-latency.false)
      | else-place-len-via-else-place-len w ↦ λ h. absurd (omega (arith, h, w.if-place-len.false, c.len.ensures, c.deref.ensures.len, long))
    ] in
    rw c.in_ok-insert.ensures.items (counted_first 0 ps c.requires.by_latency place l d (omega arith) (omega (arith, c.place_of-place.ensures.bound, long)) (λ j h. (rw c.deref.ensures.value at c.place_of-place.ensures.lesser) j d h) more).1
