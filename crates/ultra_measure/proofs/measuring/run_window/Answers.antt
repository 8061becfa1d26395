use Rattle.ultra_measure.proofs.measuring.run_window.Goals as goal

pub run_window_sized-requires-clause-net : goal.run_window_sized-requires-clause-net
run_window_sized-requires-clause-net c =
    let net = c.net_of-net.ensures in
    record { is = net.value; small = λ yes. c.is_small.ensures.small c.if-is_small.true; even = net.even; few = net.few; few_stages = net.few_stages }

pub run_window_sized-requires-else-is_small-clause-net : goal.run_window_sized-requires-else-is_small-clause-net
run_window_sized-requires-else-is_small-clause-net c =
    let net = c.net_of-net.ensures in
    record { is = net.value; small = λ yes. cc; even = net.even; few = net.few; few_stages = net.few_stages }
