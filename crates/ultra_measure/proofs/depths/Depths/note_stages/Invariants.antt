use Rattle.std.proofs.Common.{ℕ, ◌≡◌, ◌+◌, ◌≤◌, ◌<◌, ◌-◌, ◌^◌, max, get_or, length}
use Rattle.ultra_model.specs.{Machine.size, Balance.total}
use Rattle.ultra_measure.specs.{Held.{held_at, full_at}, Window.greatest}
use Rattle.ultra_measure.proofs.depths.Depths.note_stages.Given as goal

abbrev pub invariant-loop-stage : goal.invariant-loop-stage
invariant-loop-stage g l =
    let c = l.blocks.config in
    let m = l.blocks.machine in
    let old = l.initial.self in
    let now = l.self in
    (length now.sums ≡ 6)
    × (length now.maxima ≡ 6)
    × (length now.full ≡ 6)
    × ((s : ℕ) → s < l.stage → get_or now.sums s 0 ≡ get_or old.sums s 0 + total (size c) (held_at l.held s m))
    × ((s : ℕ) → s < l.stage → get_or now.maxima s 0 ≡ max (get_or old.maxima s 0) (greatest (size c) (held_at l.held s m)))
    × ((s : ℕ) → s < l.stage → get_or now.full s 0 ≡ get_or old.full s 0 + total (size c) (full_at c l.held s m))
    × ((s : ℕ) → l.stage ≤ s → get_or now.sums s 0 ≡ get_or old.sums s 0)
    × ((s : ℕ) → l.stage ≤ s → get_or now.maxima s 0 ≡ get_or old.maxima s 0)
    × ((s : ℕ) → l.stage ≤ s → get_or now.full s 0 ≡ get_or old.full s 0)
    × ((s : ℕ) → s < l.stage → get_or now.sums s 0 ≤ get_or old.sums s 0 + (2 ^ 32 - 1))
    × ((s : ℕ) → s < l.stage → get_or now.full s 0 ≤ get_or old.full s 0 + (2 ^ 32 - 1))
