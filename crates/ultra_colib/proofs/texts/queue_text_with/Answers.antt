use Rattle.std.proofs.Common.{append_assoc}
use Rattle.ultra_colib.proofs.texts.queue_text_with.Goals as goal

pub returns : goal.returns
returns c = simp append_assoc at c.format.ensures.ok
