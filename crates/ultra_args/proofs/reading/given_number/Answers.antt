-- by the rows
use Rattle.std.proofs.Common.{◌∙◌, ap}
use Rattle.std.specs.{Prelude.option_and_then, Str.Parse.{ParsesUnsigned, ExplainsUnsignedError, HasUnsignedDigitsIfOk, without_leading_plus}}
use Rattle.clap.specs.Matches.{found_of, one_text}
use Rattle.ultra_args.specs.Asked.{number_below}
use Rattle.ultra_args.proofs.{Rows.read_text, Numbers.read_number}
use Rattle.ultra_args.proofs.reading.given_number.Goals as goal

pub returns : goal.returns
returns c = read_number _ 64 (λ bs r. ParsesUnsigned 64 10 bs r × ExplainsUnsignedError 10 bs r × HasUnsignedDigitsIfOk bs r) (λ u x g. g.0) (one_text (found_of c.args.words.now) c.args.name.now) c.get_one.result c.get_one.ensures.none c.get_one.ensures.value
    ∙ ap (option_and_then (λ t. number_below 18446744073709551616 (without_leading_plus t))) (read_text (found_of c.args.words.now) c.args.name.now)
