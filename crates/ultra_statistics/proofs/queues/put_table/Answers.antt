use Rattle.std.proofs.Common.{ℕ, ◌≡◌, ◌<◌, true, nat_lt, arith}
use Rattle.std.proofs.lemmas.Bool.Decides.{nat_tests}
use Rattle.ultra_io.proofs.Writing.{◌then◌}
use Rattle.ultra_statistics.proofs.queues.put_table.Goals as goal

is_below : (a b : ℕ) → a < b → nat_lt a b ≡ true
is_below a b h = grind (arith, nat_tests)

pub returns-then-table-end : goal.returns-then-table-end
returns-then-table-end g c = rw (is_below c.args.table.now.from c.args.end c.if-table-end.true) (c.put_header.ensures then c.put_rows.ensures)
