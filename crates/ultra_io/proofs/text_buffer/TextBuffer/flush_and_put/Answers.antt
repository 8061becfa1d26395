use Rattle.std.proofs.Common.{refl}
use Rattle.ultra_io.proofs.Writing.{◌then◌, came_behind}
use Rattle.ultra_io.proofs.text_buffer.TextBuffer.flush_and_put.Goals as goal

pub returns-then-bytes-room : goal.returns-then-bytes-room
returns-then-bytes-room g c = c.flush.ensures.writes then came_behind c.args.bytes.now _ _ _ _ refl refl c.add.ensures

pub returns-else-bytes-room : goal.returns-else-bytes-room
returns-else-bytes-room g c = c.flush.ensures.writes then c.write_through.ensures
