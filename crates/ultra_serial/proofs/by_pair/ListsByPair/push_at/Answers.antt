use Rattle.std.proofs.Common.{rules}
use Rattle.ultra_serial.proofs.ByPair.{put_lists}
use Rattle.ultra_serial.proofs.by_pair.ListsByPair.push_at.Goals as goal

pub returns-in_ok-push-in-Some : goal.returns-in_ok-push-in-Some
returns-in_ok-push-in-Some g c = put_lists c.args.self.now.lists (c.get_mut.follows.lender c.push.new.self) _ _ c.push.new.self c.args.item ((c.get_mut.follows.holds c.push.new.self).3 (search rules)) (search rules)

pub returns-in_ok-insert-in-None : goal.returns-in_ok-insert-in-None
returns-in_ok-insert-in-None g c = put_lists c.args.self.now.lists c.insert.new.self _ _ c.push-in-None.new.self c.args.item (rw c.get_mut.follows.holds-at-none at c.in_ok-insert-in-None.ensures.updates) (search rules)
