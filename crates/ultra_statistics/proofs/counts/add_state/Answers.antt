use Rattle.std.proofs.Common.{ℕ, ◌≡◌, ◌+◌, ◌-◌, ◌*◌, ◌^◌, ◌≤◌, ◌<◌, subst, ◌⊎◌, inl, inr, refl, arith, ◌∙◌, ap, sym}
use Rattle.ultra_statistics.specs.{Kept.{HasCountRoom, counts_of, with_state}}
use Rattle.ultra_statistics.proofs.counts.add_state.Goals as goal

pub loop-stage-init : goal.loop-stage-init
loop-stage-init g c = record {
  count = c.requires.count;
  done = λ s x h hx. absurd (omega (arith, h));
  rest = λ s x h hx. refl;
}

split : (s n : ℕ) → s < n + 1 → (s < n) ⊎ (s ≡ n)
split s n h = grind arith

pub add_stage-requires-clause-room : goal.add_stage-requires-clause-room
add_stage-requires-clause-room g c x hx =
    let few : 2 ^ (c.args.blocks.now.config.stages - 1) ≤ 32 = c.requires.net.few in
    subst HasCountRoom (sym (c.loop-stage.invariant.rest c.loop-stage.stage x (omega arith) (omega (arith, hx, few, c.requires.net.even)))) (c.requires.room c.loop-stage.stage x (omega (arith, c.loop-stage-test.true, c.stages-stage-end.ensures.value, c.requires.net.is)) hx)

pub loop-stage-preserved : goal.loop-stage-preserved
loop-stage-preserved g c =
    let b = c.args.blocks.now in
    let few : 2 ^ (b.config.stages - 1) ≤ 32 = c.requires.net.few in
    let even : 2 ^ b.config.stages ≡ 2 * 2 ^ (b.config.stages - 1) = c.requires.net.even in
    let inv = c.loop-stage.invariant in
    let n = c.loop-stage.stage in
    let now = c.add_stage.ensures in
    record {
      count = now.count;
      done = λ s x h hx.
          let low : x < 64 = omega (arith, hx, few, even) in
          elim (split s n h) [
            | inl less ↦ now.others s x less low ∙ inv.done s x less hx
            | inr same ↦
                ap (λ z. counts_of c.add_stage.new.counts z x) same
                ∙ now.each x hx
                ∙ ap (with_state b.config c.args.held c.args.at b.machine n x) (inv.rest n x (omega arith) low)
                ∙ ap (λ z. with_state b.config c.args.held c.args.at b.machine z x (counts_of c.args.counts.now z x)) (sym same)
          ];
      rest = λ s x h hx. now.others_above s x (omega (arith, h)) hx ∙ inv.rest s x (omega (arith, h)) hx;
    }

pub returns : goal.returns
returns g c =
    let b = c.args.blocks.now in
    let inv = c.loop-stage.invariant in
    let all : c.loop-stage.stage ≡ b.config.stages = omega (arith, c.loop-stage-test.false, c.stages-stage-end.ensures.value, c.requires.net.is, c.loop-stage.auto.stage-end) in
    record {
      count = inv.count;
      each = λ s x hs hx. inv.done s x (omega (arith, hs, all)) hx;
    }
