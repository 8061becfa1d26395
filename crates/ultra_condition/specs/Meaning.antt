-- what a condition says of a state of the paracomputer; this project's profile
use Rattle.std.specs.Prelude.{ℕ, ◌+◌, ◌-◌, ◌*◌, Bool, true, false, not, ◌&&◌, ◌||◌, ◌==◌, List, [], ◌∷◌, take, drop, length, min, max, nat_lt, nat_le, slice_index}
use Rattle.std.specs.List.{fold, sum, sum_by, count_by}
use Rattle.ultra_isa.specs.{declared.Activity.{Activity, TheVariants.{Running, Halted, Faulted}}, Step.Core}
use Rattle.ultra_para.specs.Para.{Para, core_at}
use Rattle.ultra_condition.specs.Condition.{Condition, compare, negate, both, either}
use Rattle.ultra_condition.specs.declared.{sum.Sign.Sign, value.{Group.Group, Measure.Measure, Term.Term, Value.Value}}
use Rattle.ultra_condition.specs.declared.sum.Sign.TheVariants.{Below, AtMost, Equal, Unequal, AtLeast, Above}
use Rattle.ultra_condition.specs.declared.value.Group.TheVariants as group
use Rattle.ultra_condition.specs.declared.value.Measure.TheVariants.{Total, Least, Greatest}
use Rattle.ultra_condition.specs.declared.value.Value.TheVariants.{One, Cells, Register, Elements}

-- ---- values
abbrev pub is_running : Activity → Bool
is_running Running = true
is_running Halted = false
is_running (Faulted f) = false

abbrev pub is_halted : Activity → Bool
is_halted Running = false
is_halted Halted = true
is_halted (Faulted f) = false

abbrev pub is_faulted : Activity → Bool
is_faulted Running = false
is_faulted Halted = false
is_faulted (Faulted f) = true

-- whether a processing element is counted: one that runs, has halted or has faulted, or runs and is
-- at one of the places from the first on and before the second
abbrev pub is_counted : Group → Core → Bool
is_counted group.Running c = is_running c.activity
is_counted group.Halted c = is_halted c.activity
is_counted group.Faulted c = is_faulted c.activity
is_counted (group.At from to) c = is_running c.activity && (nat_le from c.pc && nat_lt c.pc to)

-- the least and the greatest of some words
abbrev pub least : List ℕ → ℕ
least [] = 0
least (w ∷ ws) = fold min w ws

abbrev pub greatest : List ℕ → ℕ
greatest [] = 0
greatest (w ∷ ws) = fold max w ws

abbrev pub measure_of : Measure → List ℕ → ℕ
measure_of Total ws = sum ws
measure_of Least ws = least ws
measure_of Greatest ws = greatest ws

-- the words of the cells a to b
abbrev pub words_from : List ℕ → ℕ → ℕ → List ℕ
words_from cells a b = take (b + 1 - a) (drop a cells)

module _ (v : Para) where
  abbrev pub value_in : Value → ℕ
  value_in One = 1
  value_in (Cells m a b) = measure_of m (words_from v.cells a b)
  value_in (Register p r) = slice_index (core_at v p).registers r
  value_in (Elements g) = count_by (is_counted g) v.cores

  abbrev pub term_in : Term → ℕ
  term_in t = t.factor * value_in t.value

  abbrev pub sum_in : List Term → ℕ
  sum_in ts = sum_by term_in ts

-- ---- conditions
abbrev pub compares : Sign → ℕ → ℕ → Bool
compares Below m n = nat_lt m n
compares AtMost m n = nat_le m n
compares Equal m n = m == n
compares Unequal m n = not (m == n)
compares AtLeast m n = nat_le n m
compares Above m n = nat_lt n m

abbrev pub holds : Condition → Para → Bool
holds (compare a s b) v = compares s (sum_in v a) (sum_in v b)
holds (negate c) v = not (holds c v)
holds (both c d) v = holds c v && holds d v
holds (either c d) v = holds c v || holds d v
