-- how many modules hold something: as many as are in the set of those that do
use Rattle.std.proofs.Common.{ℕ, zero, suc, ◌≡◌, ◌+◌, ◌^◌, ◌<◌, List, Bool, true, false, length, refl, sym, ◌∙◌, ap, arith}
use Rattle.std.specs.List.{filter, range_with_len}
use Rattle.ultra_topology.specs.{Numbers.module_number, Set.has_unit, Units.of_unit}
use Rattle.ultra_topology.proofs.Standing.{unit_of_module}
use Rattle.ultra_model.specs.{Machine.{Machine, module_at}, Balance.{total, weight}}
use Rattle.ultra_model.proofs.Sums.{total_none, total_front, total_same}
use Rattle.ultra_block.specs.{IsSetOf, Held.Held, Holding.holds}
use Rattle.ultra_holders.specs.Holders.{numbers_in}
use Rattle.ultra_block_core.specs.Holding.{module_holds}
use Rattle.ultra_measure.specs.Held.{held_in_module}

first_of_range : (p : ℕ → Bool) (a n : ℕ) (b : Bool) → p a ≡ b → length (filter p (range_with_len a (suc n))) ≡ weight (p a) + length (filter p (range_with_len (a + 1) n))
first_of_range p a n true is = rw is (omega arith)
first_of_range p a n false is = rw is (omega arith)

-- of the n numbers from a on as many pass a test as its weights add up to
passed : (p : ℕ → Bool) (a n : ℕ) → length (filter p (range_with_len a n)) ≡ total n (λ k. weight (p (a + k)))
passed p a zero = sym (total_none (λ k. weight (p (a + k))))
passed p a (suc n) =
    let rest = passed p (a + 1) n in
    let front = total_front n (λ k. weight (p (a + k))) in
    let same = total_same n (λ k. weight (p (a + 1 + k))) (λ k. weight (p (a + (k + 1)))) (λ k h. ap (λ j. weight (p j)) (omega arith)) in
    let here : weight (p (a + 0)) ≡ weight (p a) = ap (λ j. weight (p j)) (omega arith) in
    first_of_range p a n (p a) refl ∙ rw (rest, same) (omega (arith, front, here))

module _ (d : ℕ) (m : Machine) (held : Held) where
  holds_module : (k : ℕ) → k < 2 ^ d → holds d m held (module_number d k) ≡ module_holds held (module_at m k)
  holds_module k h = rw (of_unit, unit_of_module d k h) refl

  module _ (units : List ℕ) (are : IsSetOf (holds d m held) units) where
    in_set : (k : ℕ) → k < 2 ^ d → has_unit units (module_number d 0 + (0 + k)) ≡ module_holds held (module_at m k)
    in_set k h =
        let same : module_number d 0 + (0 + k) ≡ module_number d k = omega arith in
        rw same (are (module_number d k) ∙ holds_module k h)

    pub holders_counted : length (numbers_in units (module_number d 0) (2 ^ d)) ≡ total (2 ^ d) (held_in_module held m)
    holders_counted =
        passed (λ k. has_unit units (module_number d 0 + k)) 0 (2 ^ d)
        ∙ total_same (2 ^ d) (λ k. weight (has_unit units (module_number d 0 + (0 + k)))) (held_in_module held m) (λ k h. ap weight (in_set k h))
