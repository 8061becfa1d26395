-- a text that doesn't begin with a plus
use Rattle.std.proofs.Common.{◌≡◌, arith, false, None, Some, rules, slice_index}
use Rattle.std.specs.{Prelude.◌==◌, Str.Parse.without_leading_plus}
use Rattle.ultra_args.specs.Asked.{number_below}
use Rattle.ultra_args.proofs.Numbers.{parsed}
use Rattle.ultra_args.proofs.reading.decimal.Goals as goal

pub returns-in-Ok : goal.returns-in-Ok
returns-in-Ok c =
    let plain : (slice_index c.args.text.now 0 == 43) ≡ false = search rules in
    let read : Some c.in-Ok.number ≡ number_below 4294967296 (without_leading_plus c.args.text.now) = parsed _ 32 c.args.text.now c.parse.result c.parse.ensures.value.0 (Some c.in-Ok.number) (λ n e. grind (arith, c.in-Ok.is)) (λ e is. grind (arith, c.in-Ok.is)) in
    let here = rw plain at read in
    rw plain here

pub returns-in-Err : goal.returns-in-Err
returns-in-Err c =
    let plain : (slice_index c.args.text.now 0 == 43) ≡ false = search rules in
    let read : None ≡ number_below 4294967296 (without_leading_plus c.args.text.now) = parsed _ 32 c.args.text.now c.parse.result c.parse.ensures.value.0 None (λ n e. grind (arith, c.in-Err.is)) (λ e is. grind (arith, c.in-Err.is)) in
    let here = rw plain at read in
    rw plain here
