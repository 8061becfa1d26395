use Rattle.ultra_io.proofs.Writing.{◌then◌}
use Rattle.ultra_trace_text.proofs.state.put_all_held.Goals as goal

pub returns : goal.returns
returns g c =
    c.put_interfaces.ensures then c.put_switches.ensures then c.put_switches-2.ensures then c.put_requests_to_serve.ensures then c.put_replies_to_leave.ensures then c.put_switches-3.ensures
