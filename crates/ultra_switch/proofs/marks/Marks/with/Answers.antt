use Rattle.std.proofs.{Common.refl, lemmas.Nat.Bits.{bit_at_set_same, bit_at_set_other}}
use Rattle.std.specs.Int.{w32}
use Rattle.ultra_switch.specs.Marks.{has_mark}
use Rattle.ultra_switch.proofs.marks.Marks.with.Goals as goal

pub returns-clause-here : goal.returns-clause-here
returns-clause-here c = rw (has_mark, bit_at_set_same w32 c.self.inside.word c.args.place c.requires) refl

pub returns-clause-others : goal.returns-clause-others
returns-clause-others c other differs = rw (← c.self.view_is, has_mark, bit_at_set_other w32 c.self.inside.word c.args.place c.requires other differs) refl
