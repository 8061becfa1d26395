use Rattle.std.proofs.Common.{◌+◌, ◌*◌, arith, List, subst, sym, ◌∙◌, ap}
use Rattle.ultra_statistics.specs.{Kept.{HasCountRoom, counts_of}, declared.counts.QueueCounts.QueueCounts}
use Rattle.ultra_statistics.proofs.Standing.{set_beside}
use Rattle.ultra_statistics.proofs.counts.add_switch.Goals as goal

pub add_position-requires-2-clause-room : goal.add_position-requires-2-clause-room
add_position-requires-2-clause-room c =
    let s = c.args.stage in
    let k = c.args.switch in
    let same = ap (λ (qs : List QueueCounts). counts_of qs s (2 * k + 1)) c.add_position.ensures ∙ set_beside c.args.counts.now s (2 * k) _ (2 * k + 1) (λ e. omega (arith, e)) in
    subst HasCountRoom (sym same) c.requires.room_1
