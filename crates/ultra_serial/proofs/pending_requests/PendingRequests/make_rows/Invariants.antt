use Rattle.std.proofs.Common.{◌≡◌, ℕ, ◌≤◌, vec_len}
use Rattle.ultra_serial.specs.PendingRequests.{chains_in}
use Rattle.ultra_serial.proofs.pending_requests.PendingRequests.make_rows.Given as goal

abbrev pub invariant-loop-made : goal.invariant-loop-made
invariant-loop-made l = record {
  made : l._made ≤ vec_len l.self.rows;
  same : (p a : ℕ) → chains_in l.self.rows.items p a ≡ chains_in l.initial.self.rows.items p a;
}
