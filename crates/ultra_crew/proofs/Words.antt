-- The words of a machine's rooms name the units that have none.
use Rattle.std.proofs.Common.{◌≡◌, ℕ, zero, suc, ◌+◌, ◌*◌, ◌/◌, ◌^◌, ◌<◌, ◌≤◌, Bool, true, false, arith, not, is_some, Option}
use Rattle.std.proofs.lemmas.{Bool.Decides.nat_tests, Nat.Bits.{bit_at-suc, bit_at_lowest}}
use Rattle.ultra_model.specs.Machine.{is_nothing}
use Rattle.ultra_model.proofs.Each.{places_at}
use Rattle.ultra_topology.specs.{Numbers.switch_count, Set.{has_bit, has_unit}}
use Rattle.ultra_cycle_law.specs.Frame.{Frame}
use Rattle.ultra_partition.specs.Halves.{AreRooms}
use Rattle.ultra_crew.specs.Words.{units_with, word_with_bits, words_of_rooms}

bits : (b : Bool) (w : ℕ) → let word = elim b [ true ↦ 1 | false ↦ 0 ] + 2 * w in (has_bit word 0 ≡ b) × (word / 2 ≡ w)
bits b w = grind (arith, bit_at_lowest)

has_bits : (n : ℕ) (p : ℕ → Bool) (i : ℕ) → i < n → has_bit (word_with_bits n p) i ≡ p i
unfolding word_with_bits
has_bits zero p i within = absurd (omega arith)
has_bits (suc n) p zero within = (bits (p 0) (word_with_bits n (λ i. p (suc i)))).0
has_bits (suc n) p (suc i) within = rw (bit_at-suc, (bits (p 0) (word_with_bits n (λ i. p (suc i)))).1) (has_bits n (λ i. p (suc i)) i (omega arith))

has_units : (p : ℕ → Bool) (n : ℕ) → n < 320 → has_unit (units_with p) n ≡ p n
unfolding has_unit units_with
has_units p n within = grind (arith, places_at, has_bits)

-- ---- the rooms
not_twice : (b : Bool) → not (not b) ≡ b
not_twice b = grind arith

not_some : {X : Type 0} (o : Option X) → not (is_some o) ≡ is_nothing o
not_some o = grind arith

module _ (d : ℕ) (few : switch_count d + 2 ^ d ≤ 320) (f : Frame) where
  pub are_rooms : AreRooms d f (words_of_rooms d f)
  are_rooms = record {
    replies = λ n h. grind (arith, has_units, not_twice);
    requests = record {
      switches = λ n j h small. grind (arith, has_units, not_twice, nat_tests);
      modules = λ m h. grind (arith, has_units, not_some, nat_tests);
    };
  }
