use Rattle.std.proofs.Common.{◌≡◌, ◌<◌, ◌≤◌, ◌∙◌, ap, sym, take, Some, false, true, length, length-set, arith}
use Rattle.std.proofs.lemmas.List.{take_all, length-replicate, get_or-replicate}
use Rattle.ultra_asm.specs.Listing.{is_target, jump_target}
use Rattle.ultra_asm.proofs.Places.{more_targets, more_listable, marks_none, marks_one, target_within, get_none}
use Rattle.ultra_asm.proofs.canonical.Targets.of.Goals as goal
use Rattle.ultra_asm.proofs.canonical.Targets.of.Goals.{in-Some+in-Some-target, in-Some+in_default-target, in_default}

pub loop-pc-init : goal.loop-pc-init
loop-pc-init c = record {
  long = length-replicate 4097 false;
  marked = λ k h. get_or-replicate 4097 k false false (omega arith);
  listable = tt;
}

pub loop-pc-preserved : goal.loop-pc-preserved
loop-pc-preserved c =
    let is = c.args.program.now in
    let n = c.loop-pc.pc in
    let m = c.loop-pc.invariant in
    elim c.match-instruction.branch [
      | in-Some+in-Some-target w ↦
          let i = w.in-Some.instruction in
          let at : Some i ≡ _ = w.in-Some.ensures.at in
          let target : w.from.result ≡ w.in-Some-target.target = w.from.ensures in
          let to = w.in-Some-target.target in
          let jump = target_within (length is) i to w.in-Some.ensures.within w.in-Some-target.ensures.value in
          let low : to < length c.loop-pc.marked = omega (arith, w.in-Some.ensures.small, m.long) in
          rw (w.marked-is, target) record {
            long = length-set c.loop-pc.marked to true ∙ m.long;
            marked = λ k h. marks_one c.loop-pc.marked (is_target (take n is) k) k to (jump_target i) w.in-Some-target.ensures.value low (m.marked k h) ∙ sym (more_targets is n i k at);
            listable = more_listable is n i at m.listable w.in-Some-target.ensures.writable;
          }
      | in-Some+in_default-target w ↦
          let i = w.in-Some.instruction in
          rw w.marked-is record {
            long = m.long;
            marked = λ k h. m.marked k h ∙ (marks_none (is_target (take n is) k) k (jump_target i) w.in_default-target.ensures.value ∙ sym (more_targets is n i k w.in-Some.ensures.at));
            listable = more_listable is n i w.in-Some.ensures.at m.listable w.in_default-target.ensures.writable;
          }
      | in_default w ↦
          let past : length is ≤ n = get_none is n w.in_default.ensures.at in
          absurd (omega (arith, c.loop-pc-test.true, c.len-pc-end.ensures.count))
    ]

pub returns : goal.returns
returns c =
    let is = c.args.program.now in
    let all = take_all c.loop-pc.pc is (omega (arith, c.loop-pc-test.false, c.len-pc-end.ensures.count)) in
    record {
      marked = λ k h. c.loop-pc.invariant.marked k h ∙ ap (λ js. is_target js k) all;
      listable = rw all at c.loop-pc.invariant.listable;
    }
