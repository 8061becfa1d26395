use Rattle.ultra_list.proofs.Written.{written_is_read}
use Rattle.ultra_list.proofs.list_text_law.Goals as goal

pub returns : goal.returns
returns c = record { written = written_is_read }
