use Rattle.ultra_requests.proofs.RowLaws.{row_law}
use Rattle.ultra_requests.proofs.law.request_law.Goals as goal

pub returns : goal.returns
returns c = record { rows = row_law }
