use Rattle.ultra_condition.proofs.Agreement.{agreement, sum_agreement, cells_law}
use Rattle.ultra_condition.proofs.laws.agreement_law.Goals as goal

pub returns : goal.returns
returns c = record { conditions = agreement; sums = sum_agreement; of_cells = cells_law }
