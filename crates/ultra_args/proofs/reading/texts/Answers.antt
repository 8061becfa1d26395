-- by the rows
use Rattle.std.proofs.Common.{◌∙◌}
use Rattle.clap.specs.Matches.{found_of}
use Rattle.ultra_args.proofs.Rows.{all_texts}
use Rattle.ultra_args.proofs.reading.texts.Goals as goal

pub returns : goal.returns
returns c = c.get_raw.ensures ∙ all_texts (found_of c.args.words.now) c.args.argument.now.name.now
