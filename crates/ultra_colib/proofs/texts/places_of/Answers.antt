use Rattle.std.proofs.{Common.{◌≤◌, ◌^◌, arith}, Math.Pow.pow_mono}
use Rattle.ultra_colib.proofs.texts.places_of.Goals as goal

pub returns-clause-few : goal.returns-clause-few
returns-clause-few c = let few : 2 ^ c.args.log_size ≤ 2 ^ 6 = pow_mono c.requires in omega (arith, few, c.pow.ensures)
