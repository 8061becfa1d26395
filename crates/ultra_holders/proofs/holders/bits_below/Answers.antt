use Rattle.std.proofs.Common.{◌<◌, inl, inr, rules}
use Rattle.ultra_topology.specs.Set.{has_unit, word_end}
use Rattle.ultra_holders.proofs.Bits.{masked}
use Rattle.ultra_holders.proofs.holders.bits_below.Goals as goal

pub returns-then-count-lt64 : goal.returns-then-count-lt64
returns-then-count-lt64 g c =
    let few : c.args.count < 64 = elim c.if-count-lt64.either [ inl small ↦ c.requires.small (search rules) | inr large ↦ large.1 ] in
    masked (has_unit c.args.units.now) c.args.from (word_end c.args.from) c.args.count _ few c.rest_of_word-bits.ensures
