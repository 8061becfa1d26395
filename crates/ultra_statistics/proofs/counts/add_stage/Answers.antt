use Rattle.std.proofs.Common.{ℕ, ◌/◌, false, ◌≡◌, ◌+◌, ◌-◌, ◌*◌, ◌^◌, ◌<◌, ◌≤◌, ap, ◌∙◌, sym, subst, arith}
use Rattle.ultra_topology.specs.{Numbers.switch_number, Set.has_unit}
use Rattle.ultra_holders.specs.Holders.{holders_left, numbers_in}
use Rattle.ultra_statistics.specs.{Kept.{HasCountRoom, with_state}, declared.counts.QueueCounts.QueueCounts}
use Rattle.ultra_statistics.proofs.{Idle.idle, Standing.{none_walked, next_below, next_same, one_walked, all_walked}}
use Rattle.ultra_statistics.proofs.counts.add_stage.Goals as goal

pub loop-switch-init : goal.loop-switch-init
loop-switch-init g c =
    none_walked _ _ _ _ _ _ c.requires.count
    (ap holders_left c.into_iter-switch-iterator.ensures.into_iter_gives
    ∙ c.switches_of-switch-items.ensures
    ∙ ap (λ d. numbers_in c.args.holders.now (switch_number d c.args.stage 0) (2 ^ (d - 1))) c.requires.net.is)

pub add_switch-requires : goal.add_switch-requires
add_switch-requires g c =
    let b = c.args.blocks.now in
    let s = c.args.stage in
    let range = rw c.config.ensures at c.initial-valid.ensures.valid.range in
    let d = b.config.stages in
    let are = c.loop-switch.invariant in
    let next = rw c.in-Some.is at c.next.ensures.steps in
    let few : 2 ^ (d - 1) ≤ 32 = c.requires.net.few in
    let six : s < 6 = omega (arith, c.requires.stage, c.requires.net.few_stages) in
    let quiet : (x : ℕ) → x < 2 * 2 ^ (b.config.stages - 1) → has_unit c.args.holders.now (switch_number b.config.stages s 0 + x / 2) ≡ false → (q : QueueCounts) → with_state b.config c.args.held c.args.at b.machine s x q ≡ q = λ x h none q. idle b.config range b.machine s c.requires.stage c.requires.net.even c.args.at c.args.held c.args.holders.now c.requires.holders x (omega (arith, h, c.requires.net.even)) none q in
    let below = next_below _ _ _ _ few six quiet _ _ _ _ _ are next in
    let same = next_same _ _ _ _ few six quiet _ _ _ _ _ are next in
    record {
      one = c.requires.one;
      net = c.requires.net.is;
      stage = c.requires.stage;
      switch = below;
      count = are.count;
      room = subst HasCountRoom (sym (same _ (omega arith))) (c.requires.room _ (omega (arith, below, c.requires.net.even)));
      room_1 = subst HasCountRoom (sym (same _ (omega arith))) (c.requires.room _ (omega (arith, below, c.requires.net.even)));
    }

pub loop-switch-preserved : goal.loop-switch-preserved
loop-switch-preserved g c =
    let b = c.args.blocks.now in
    let s = c.args.stage in
    let range = rw c.config.ensures at c.initial-valid.ensures.valid.range in
    let are = c.loop-switch.invariant in
    let next = rw c.in-Some.is at c.next.ensures.steps in
    let six : s < 6 = omega (arith, c.requires.stage, c.requires.net.few_stages) in
    let quiet : (x : ℕ) → x < 2 * 2 ^ (b.config.stages - 1) → has_unit c.args.holders.now (switch_number b.config.stages s 0 + x / 2) ≡ false → (q : QueueCounts) → with_state b.config c.args.held c.args.at b.machine s x q ≡ q = λ x h none q. idle b.config range b.machine s c.requires.stage c.requires.net.even c.args.at c.args.held c.args.holders.now c.requires.holders x (omega (arith, h, c.requires.net.even)) none q in
    rw c.add_switch.ensures (one_walked _ _ _ _ c.requires.net.few six quiet _ _ _ _ _ are next)

pub returns : goal.returns
returns g c =
    let b = c.args.blocks.now in
    let s = c.args.stage in
    let range = rw c.config.ensures at c.initial-valid.ensures.valid.range in
    let are = c.loop-switch.invariant in
    let none = (rw c.in-None.is at c.next.ensures.steps).0 in
    let six : s < 6 = omega (arith, c.requires.stage, c.requires.net.few_stages) in
    let quiet : (x : ℕ) → x < 2 * 2 ^ (b.config.stages - 1) → has_unit c.args.holders.now (switch_number b.config.stages s 0 + x / 2) ≡ false → (q : QueueCounts) → with_state b.config c.args.held c.args.at b.machine s x q ≡ q = λ x h none q. idle b.config range b.machine s c.requires.stage c.requires.net.even c.args.at c.args.held c.args.holders.now c.requires.holders x (omega (arith, h, c.requires.net.even)) none q in
    record {
      count = are.count;
      each = λ x h. all_walked _ _ _ _ c.requires.net.few six quiet _ _ _ are none x (omega (arith, h, c.requires.net.even));
      others = are.before;
      others_above = are.behind;
    }
