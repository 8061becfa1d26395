-- Cycles that are made in order, and what workers are expected to give back.
use Rattle.std.proofs.Common.{◌≡◌, ℕ, zero, suc, ◌+◌, List, refl, arith, ap}
use Rattle.ultra_isa.specs.declared.Instr.{Instr}
use Rattle.ultra_model.specs.{Machine.{Machine, Settings}, Phases.{cycle, memory_phase, processor_phase, reply_phase, request_phase}}
use Rattle.ultra_block_core.specs.declared.half.Half.{Half}
use Rattle.ultra_block.specs.State.{BlocksState}
use Rattle.ultra_crew.specs.{declared.task.BlockTask.BlockTask, ExpectedResults.{AreExpectedResults, expected_results_of, cycles_on, later, results_in}}

-- ---- machines
pub cycles_one : (c : Settings) (program : List Instr) (m : Machine) → (cycle c program m).cycles ≡ m.cycles + 1
unfolding cycle processor_phase request_phase memory_phase reply_phase
cycles_one c program m = refl

pub none_later : (b : BlocksState) → b ≡ later 0 b
unfolding cycles_on
none_later b = refl

pub one_on : (c : Settings) (program : List Instr) (m : Machine) → cycles_on c program 1 m ≡ cycle c program m
unfolding cycles_on
one_on c program m = refl

-- one more
pub more_later : (n : ℕ) (b : BlocksState) → later (n + 1) b ≡ record (later n b) { machine = cycle b.config b.program (later n b).machine }
unfolding cycles_on
more_later n b = let e : n + 1 ≡ suc n = omega arith in ap (λ k. later k b) e

pub count_later : (n : ℕ) (b : BlocksState) → (later n b).machine.cycles ≡ b.machine.cycles + n
unfolding cycles_on
count_later zero b = omega arith
count_later (suc n) b = grind (arith, cycles_one, count_later n b)

-- one first
first_then : (c : Settings) (program : List Instr) (n : ℕ) (m : Machine) → cycles_on c program n (cycle c program m) ≡ cycles_on c program (suc n) m
unfolding cycles_on
first_then c program zero m = refl
first_then c program (suc n) m = grind (arith, first_then c program n m)

-- ---- courses
pub own_expected_results : (workers : ℕ) (b : BlocksState) → AreExpectedResults (expected_results_of workers b) b.program workers b
unfolding expected_results_of
own_expected_results workers b = grind arith

module _ (results : ℕ → Half → ℕ → List BlockTask) (program : List Instr) (workers : ℕ) (b : BlocksState) (expected : AreExpectedResults results program workers b) where
  pub results_now : (h : Half) (w : ℕ) → results b.machine.cycles h w ≡ results_in workers b h w
  results_now h w =
      let now = expected.results_are 0 h w in
      let same = none_later b in
      grind arith

  pub expected_goes_on : (next : BlocksState) → next ≡ record b { machine = cycle b.config b.program b.machine } → AreExpectedResults results program workers next
  expected_goes_on next is = grind (arith, cycles_one, first_then)

pub ruleset made_later = (none_later, count_later, more_later)
