use Rattle.ultra_serial_law.proofs.Replies.{replies}
use Rattle.ultra_serial_law.proofs.reply_law.Goals as goal

pub returns : goal.returns
returns c = record { answered = replies }
