-- the requests that wait in interfaces, by those that hold some
use Rattle.std.proofs.Common.{ℕ, ◌≡◌, ◌+◌, ◌^◌, ◌<◌, List, length, false, sym, ap, ◌∙◌, arith}
use Rattle.ultra_model.specs.{Machine.Machine, Balance.total}
use Rattle.ultra_topology.specs.{Numbers.element_number, Set.has_unit}
use Rattle.ultra_block.specs.{Held.TheVariants.Request, IsSetOf, Holding.holds}
use Rattle.ultra_block.proofs.NothingHeld.{none_pending}
use Rattle.ultra_measure.specs.{Held.pending, Window.greatest}
use Rattle.ultra_holders.specs.Holders.{numbers_in}
use Rattle.ultra_measure.proofs.Gathered.{added, topmost, added_singly, topmost_singly}

module _ (d : ℕ) (m : Machine) (units : List ℕ) (are : IsSetOf (holds d m Request) units) where
  none_waits : (p : ℕ) → p < 2 ^ d → has_unit units (element_number d 0 + p) ≡ false → pending m p ≡ 0
  none_waits p h none =
      let number : element_number d 0 + p ≡ element_number d p = omega arith in
      ap length (none_pending d m p h (sym (are (element_number d p)) ∙ rw number at none))

  pub pending_sum : added (pending m) (numbers_in units (element_number d 0) (2 ^ d)) ≡ total (2 ^ d) (pending m)
  pending_sum = added_singly (λ p. has_unit units (element_number d 0 + p)) (2 ^ d) (pending m) none_waits

  pub pending_most : topmost (pending m) (numbers_in units (element_number d 0) (2 ^ d)) ≡ greatest (2 ^ d) (pending m)
  pending_most = topmost_singly (λ p. has_unit units (element_number d 0 + p)) (2 ^ d) (pending m) none_waits
