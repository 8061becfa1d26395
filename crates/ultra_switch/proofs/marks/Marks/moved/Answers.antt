use Rattle.std.proofs.{Common.refl, lemmas.Nat.Bits.bit_at-suc}
use Rattle.ultra_switch.specs.Marks.{has_mark}
use Rattle.ultra_switch.proofs.marks.Marks.moved.Goals as goal

pub returns : goal.returns
returns c place = rw (← c.self.view_is, has_mark, bit_at-suc c.self.inside.word place) refl
