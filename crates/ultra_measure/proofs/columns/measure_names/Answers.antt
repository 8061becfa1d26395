use Rattle.std.proofs.Common.{refl, ◌∙◌}
use Rattle.std.specs.Fmt.{digits}
use Rattle.ultra_measure.specs.Texts.{all_names}
use Rattle.ultra_measure.proofs.Windows.{names_are}
use Rattle.ultra_measure.proofs.columns.measure_names.Goals as goal

pub returns-clause-value : goal.returns-clause-value
unfolding all_names digits
returns-clause-value c = refl

pub returns-clause-same : goal.returns-clause-same
returns-clause-same c config program from to = returns-clause-value c ∙ names_are config program from to
