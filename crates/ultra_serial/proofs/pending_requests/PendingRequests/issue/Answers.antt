use Rattle.std.proofs.{Common.{◌∙◌, ap, [], ◌∷◌, ◌++◌}, lemmas.Result.on_ok_weaker}
use Rattle.ultra_serial_law.specs.{Tree.leaf, declared.records.NamedRequest.NamedRequest}
use Rattle.ultra_serial.proofs.Stacks.{keeps_same}
use Rattle.ultra_serial.proofs.pending_requests.PendingRequests.issue.Goals as goal

pub returns : goal.returns
returns c =
    let q = c.args.request in
    let l : NamedRequest = record { pe = q.pe; number = c.args.number; cell = q.cell; op = q.op } in
    on_ok_weaker c.put.result (λ put ks keeps.
    put ks (leaf l) (keeps_same c.args.self.now c.empty_list-leaves.new.self ks c.empty_list-leaves.ensures.rows keeps)
    (c.in_ok-push.ensures.items ∙ ap (λ us. us ++ l ∷ []) c.empty_list-leaves.ensures.empty)) c.put.ensures
