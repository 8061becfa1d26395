-- the open cells of one processing element, and their requests
use Rattle.std.proofs.Common.{ℕ, List, [], ◌∷◌, ◌≡◌, true, refl, arith}
use Rattle.std.proofs.lemmas.Bool.Decides.{nat_tests}
use Rattle.std.specs.Prelude.{Some}
use Rattle.ultra_pni.specs.{declared.OpenCell.OpenCell, Interface.{closed, is_open}}
use Rattle.ultra_isa.specs.declared.Instr.{Instr}
use Rattle.ultra_model.specs.Machine.{Settings}
use Rattle.ultra_latency.specs.Open.{request_for, without_request, open_request, open_requests}

module _ (c : Settings) (program : List Instr) (n p a : ℕ) where
  -- an open cell's request is found, which is the latest issue for it
  pub open_found : (os : List OpenCell) → is_open a os ≡ true → request_for a (open_requests c program n p os) ≡ Some (open_request c program n p a)
  open_found [] there = absurd (grind arith)
  open_found (o ∷ os) there = let rest = open_found os in grind (arith, nat_tests)

  -- where it is closed, its request is left out
  pub open_left : (os : List OpenCell) → without_request a (open_requests c program n p os) ≡ open_requests c program n p (closed a os)
  open_left [] = refl
  open_left (o ∷ os) = let rest = open_left os in grind arith
