-- the queue: a ring whose places are handed on by turn words.
-- Its counts and indexes are the 1983 paper's
use Rattle.std.specs.Prelude.{◌≡◌, ◌≢◌, ℕ, ◌+◌, ◌-◌, ◌*◌, ◌^◌, ◌<◌, ◌≤◌, List, [], ◌∷◌}
use Rattle.ultra_isa.specs.declared.Instr.{Instr}
use Rattle.ultra_isa.specs.declared.Instr.TheVariants.{Set, Add, AddWord, Subtract, And, ShiftRight, IsBelow, IsEqual, JumpIfZero, JumpIfNotZero, Jump, Number, Size, Load, Store, Faa, Fence, Halt}
use Rattle.ultra_colib.specs.Schedules.{CellWords, IsKeptBySchedules}

-- cells 0 and 1 are the upper and the lower count of items, 2 and 3 the insert and the delete
-- index. Cell 8 + i is the turn word of place i, and 8 + 2 ^ z + i its data. The results are in the
-- cells from 8 + 2 * 2 ^ z on
abbrev pub queue : ℕ → ℕ → List Instr
queue z rounds =
    Number 1 ∷ AddWord 1 1 1 ∷ Size 2 ∷ Set 3 1 ∷ Set 4 (2 ^ z) ∷ Set 5 rounds ∷ Set 15 4294967295
    ∷ Set 6 0 ∷ Load 7 6 ∷ Fence ∷ IsBelow 8 7 4 ∷ JumpIfZero 8 7
    ∷ Faa 7 6 3 ∷ Fence ∷ IsBelow 8 7 4 ∷ JumpIfNotZero 8 19 ∷ Faa 7 6 15 ∷ Fence ∷ Jump 7
    ∷ Set 6 2 ∷ Faa 7 6 3 ∷ Fence ∷ ShiftRight 8 7 z ∷ Add 8 8 8
    ∷ Set 9 (2 ^ z - 1) ∷ And 9 7 9 ∷ AddWord 10 9 8 ∷ AddWord 11 9 (8 + 2 ^ z)
    ∷ Load 12 10 ∷ Fence ∷ IsEqual 13 12 8 ∷ JumpIfZero 13 28
    ∷ Store 11 1 ∷ Fence ∷ AddWord 8 8 1 ∷ Store 10 8 ∷ Fence ∷ Set 6 1 ∷ Faa 7 6 3 ∷ Fence
    ∷ Set 6 1 ∷ Load 7 6 ∷ Fence ∷ Subtract 8 7 3 ∷ IsBelow 8 8 4 ∷ JumpIfZero 8 40
    ∷ Faa 7 6 15 ∷ Fence ∷ Subtract 8 7 3 ∷ IsBelow 8 8 4
    ∷ JumpIfNotZero 8 54 ∷ Faa 7 6 3 ∷ Fence ∷ Jump 40
    ∷ Set 6 3 ∷ Faa 7 6 3 ∷ Fence ∷ ShiftRight 8 7 z ∷ Add 8 8 8 ∷ AddWord 8 8 1
    ∷ Set 9 (2 ^ z - 1) ∷ And 9 7 9 ∷ AddWord 10 9 8 ∷ AddWord 11 9 (8 + 2 ^ z)
    ∷ Load 12 10 ∷ Fence ∷ IsEqual 13 12 8 ∷ JumpIfZero 13 64
    ∷ Load 14 11 ∷ Fence ∷ AddWord 8 8 1 ∷ Store 10 8 ∷ Fence ∷ Set 6 0 ∷ Faa 7 6 15 ∷ Fence
    ∷ AddWord 6 1 (7 + 2 * 2 ^ z) ∷ Store 6 14 ∷ Fence
    ∷ Add 1 1 2 ∷ Subtract 5 5 3 ∷ JumpIfNotZero 5 7 ∷ Halt ∷ []

-- the word in result cell k, counted from 0
abbrev pub result : ℕ → CellWords → ℕ → ℕ
result z word k = word (8 + 2 * 2 ^ z + k)

-- v has been inserted: a processing element inserts it in one of its rounds, counted from 0,
-- and the results of its rounds before are there
pub record IsInserted (z rounds size : ℕ) (word : CellWords) (v : ℕ) : Type 0 where
  pub element : ℕ
  pub its_round : ℕ
  pub below_size : element < size
  pub below_rounds : its_round < rounds
  pub value : v ≡ element + 1 + its_round * size
  pub has_begun : (i : ℕ) → i < its_round → result z word (element + i * size) ≢ 0

-- the results that aren't 0 are pairwise different inserted values, each with its own ticket,
-- which was drawn from both indexes
pub record AreItemsOnce (z rounds size : ℕ) (word : CellWords) : Type 0 where
  pub different : (k l : ℕ) → k ≢ l → result z word k ≢ 0 → result z word k ≢ result z word l
  pub inserted : (k : ℕ) → result z word k ≢ 0 → IsInserted z rounds size word (result z word k)
  pub ticket : ℕ → ℕ
  pub drawn : (k : ℕ) → result z word k ≢ 0 → (ticket k < word 2) × (ticket k < word 3)
  pub own : (k l : ℕ) → result z word k ≢ 0 → result z word l ≢ 0 → ticket k ≡ ticket l → k ≡ l

abbrev pub QueueLaw : Type 0
QueueLaw = (z rounds : ℕ) → z ≤ 6 → 1 ≤ rounds → rounds ≤ 1000
    → IsKeptBySchedules (queue z rounds) (AreItemsOnce z rounds)
