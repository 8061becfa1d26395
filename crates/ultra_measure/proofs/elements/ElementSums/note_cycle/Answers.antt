use Rattle.std.proofs.Common.{◌+◌, ◌/◌, ◌%◌, ◌≤◌, ◌∙◌, ap, arith}
use Rattle.ultra_model.specs.{Machine.size, Balance.total}
use Rattle.ultra_measure.specs.{Held.{running, stalled, opened, pending}, Window.greatest}
use Rattle.ultra_measure.proofs.{Keeping.{sum_goes_on, most_goes_on}, Known.{are_sums, seen_after}}
use Rattle.ultra_measure.proofs.elements.ElementSums.note_cycle.Goals as goal

pub returns : goal.returns
returns g c =
    let b = c.args.blocks.now in
    let old = c.requires.kept in
    let from = c.args.from in
    let to = c.args.cycle in
    let s = c.note_cycle.new.self in
    let known = c.note_cycle.ensures in
    let net = c.requires.net in
    let few : size b.config ≤ 64 = omega (arith, net.even, net.few) in
    let pending_now = c.pending_in-pending.ensures in
    let sums = are_sums b.config b.program b.machine s known few in
    let all = c.sum-all.ensures in
    record {
      running = sum_goes_on b.config b.program from to c.requires.order b.machine c.requires.run (λ m. total (size b.config) (running m)) old.running (ap (λ n. n % 256) all ∙ sums.running) (omega arith) (ap (λ v. c.args.self.now.running + v) c.from.ensures);
      stalled = sum_goes_on b.config b.program from to c.requires.order b.machine c.requires.run (λ m. total (size b.config) (stalled b.config b.program m)) old.stalled (ap (λ n. n / 256 % 256) all ∙ sums.stalled) (omega arith) (ap (λ v. c.args.self.now.stalled + v) c.from-2.ensures);
      opened = sum_goes_on b.config b.program from to c.requires.order b.machine c.requires.run (λ m. total (size b.config) (opened m)) old.opened (ap (λ n. n / 65536) all ∙ sums.opened) (omega arith) (ap (λ v. c.args.self.now.open + v) c.from-3.ensures);
      pending = sum_goes_on b.config b.program from to c.requires.order b.machine c.requires.run (λ m. total (size b.config) (pending m)) old.pending pending_now.sum (omega (arith, pending_now.few)) (ap (λ v. c.args.self.now.pending + v) c.from-4.ensures);
      pending_most = most_goes_on b.config b.program from to c.requires.order b.machine c.requires.run (λ m. greatest (size b.config) (pending m)) old.pending_most pending_now.most c.max-self.ensures;
      states = seen_after b.config b.program to b.machine c.requires.run s known;
    }
