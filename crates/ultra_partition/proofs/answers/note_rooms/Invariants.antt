use Rattle.std.proofs.Common.{◌≡◌, ℕ, take}
use Rattle.ultra_partition.proofs.{Common.OfEach, Questions.HaveNoted}
use Rattle.ultra_partition.proofs.answers.note_rooms.Given as goal

abbrev pub invariant-loop-block : goal.invariant-loop-block
invariant-loop-block l = (d : ℕ) → OfEach (λ b. b.stages ≡ d) l.blocks → HaveNoted d (take l.block-index l.blocks) l.rooms
