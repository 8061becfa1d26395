use Rattle.ultra_serial_law.proofs.HotSpot.{hot_spot}
use Rattle.ultra_serial_law.proofs.hot_spot_law.Goals as goal

pub returns : goal.returns
returns c = record { at_once = hot_spot }
