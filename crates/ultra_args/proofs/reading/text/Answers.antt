-- by the rows
use Rattle.std.proofs.Common.{◌∙◌}
use Rattle.clap.specs.Matches.{found_of}
use Rattle.ultra_args.proofs.Rows.{first_text}
use Rattle.ultra_args.proofs.reading.text.Goals as goal

pub returns : goal.returns
returns c = c.get_str.ensures ∙ first_text (found_of c.args.words.now) c.args.argument.now.name.now
