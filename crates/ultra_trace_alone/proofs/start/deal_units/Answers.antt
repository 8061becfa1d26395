use Rattle.std.proofs.Common.{◌≡◌, ℕ, ◌%◌, ◌<◌, List, [], ◌∷◌, ◌++◌, true, nat_lt, length, arith, rules}
use Rattle.std.specs.List.{list_all}
use Rattle.std.proofs.lemmas.{Grind.common_steps, Bool.Decides.nat_tests, Result.IfOk-from_err}
use Rattle.ultra_model.specs.Machine.{Settings}
use Rattle.ultra_block.specs.Cut.{is_partition}
use Rattle.ultra_topology.specs.Numbers.{unit_count}
use Rattle.ultra_trace_alone.specs.Dealt.{IsDealtOut}
use Rattle.ultra_trace_alone.proofs.start.deal_units.Goals as goal

-- one more unit is dealt out
dealt_more : (workers : ℕ) (p : List ℕ) (n x : ℕ) → length p ≡ n → x ≡ n % workers → IsDealtOut workers p → IsDealtOut workers (p ++ x ∷ [])
dealt_more workers p n x count is dealt = grind (arith, common_steps)

all_more : (p : List ℕ) (x : ℕ) → list_all (λ b. nat_lt b 64) p ≡ true → x < 64 → list_all (λ b. nat_lt b 64) (p ++ x ∷ []) ≡ true
all_more p x below small = grind (arith, common_steps)

-- a partition names a block for each unit
names_all : (c : Settings) (p : List ℕ) → length p ≡ unit_count c.stages → list_all (λ b. nat_lt b 64) p ≡ true → is_partition c p ≡ true
names_all c p long below = grind (arith, nat_tests)

pub loop-unit-preserved : goal.loop-unit-preserved
loop-unit-preserved c =
    let same : c.from.result ≡ c.args.workers = search rules in
    grind (arith, common_steps, all_more, dealt_more)

pub returns-clause-partition : goal.returns-clause-partition
returns-clause-partition c = grind (arith, names_all)

pub returns-in_err-push-clause-partition : goal.returns-in_err-push-clause-partition
returns-in_err-push-clause-partition c = IfOk-from_err c.from_residual.result _ c.from_residual.ensures.0

pub returns-in_err-push-clause-dealt : goal.returns-in_err-push-clause-dealt
returns-in_err-push-clause-dealt c = IfOk-from_err c.from_residual.result _ c.from_residual.ensures.0
