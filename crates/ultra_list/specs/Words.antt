-- words of 32 bits in operations and replies: this project's profile
use Rattle.std.specs.Prelude.{ℕ, ◌^◌, ◌<◌}
use Rattle.ultra_msg.specs.declared.{Op.Op, Reply.Reply}
use Rattle.ultra_msg.specs.declared.Op.TheVariants as op
use Rattle.ultra_msg.specs.declared.Reply.TheVariants as reply

abbrev pub IsWord : ℕ → Type 0
IsWord v = v < 2 ^ 32

-- the operand of an operation, if it has one
abbrev pub OfWord : Op → Type 0
OfWord op.Load = Unit {0}
OfWord (op.Store w) = IsWord w
OfWord (op.Faa w) = IsWord w
OfWord (op.Swap w) = IsWord w

abbrev pub GivesWord : Reply → Type 0
GivesWord (reply.Value v) = IsWord v
GivesWord reply.Ack = Unit {0}
