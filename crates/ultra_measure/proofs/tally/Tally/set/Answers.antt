use Rattle.std.proofs.Common.{◌<◌, ◌^◌, get_or, length, get_or-set_same, arith}
use Rattle.ultra_model.proofs.Sums.{total_term}
use Rattle.ultra_measure.proofs.Tallies.{total_set, total_small, small_set}
use Rattle.ultra_measure.proofs.tally.Tally.set.Goals as goal

pub overflow_sub-others : goal.overflow_sub-others
overflow_sub-others c =
    let one = total_term 64 (λ k. get_or c.self.inside.values k 0) c.args.pe c.requires.pe in
    omega (arith, one, c.self.invariant.sum)

pub overflow_add-self : goal.overflow_add-self
overflow_add-self c =
    let all = total_small 64 (2 ^ 20) (λ k. get_or c.self.inside.values k 0) c.self.invariant.small in
    omega (arith, all, c.self.invariant.sum, c.requires.small)

pub invariant_of-self : goal.invariant_of-self
invariant_of-self c =
    let xs = c.self.inside.values in
    let here : c.args.pe < length xs = omega (arith, c.requires.pe, c.self.told) in
    let one = total_term 64 (λ k. get_or xs k 0) c.args.pe c.requires.pe in
    let sums = total_set 64 xs c.args.pe c.args.value c.requires.pe here in
    record {
      sum = omega (arith, sums, one, c.self.invariant.sum);
      small = small_set xs c.args.pe c.args.value (2 ^ 20) here c.requires.small c.self.invariant.small;
    }

pub returns-clause-value : goal.returns-clause-value
returns-clause-value c = get_or-set_same c.self.inside.values c.args.pe c.args.value 0 (omega (arith, c.requires.pe, c.self.told))
