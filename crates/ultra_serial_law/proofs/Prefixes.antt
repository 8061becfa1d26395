-- each serial list of a run is a prefix of all later ones
use Rattle.std.proofs.Common.{◌≡◌, ℕ, zero, suc, ◌+◌, ◌-◌, ◌≤◌, List, refl, arith, subst}
use Rattle.ultra_msg.specs.Bytes.{IsPrefix}
use Rattle.ultra_msg.proofs.Prefixes.{prefix_itself, prefix_then}
use Rattle.ultra_isa.specs.declared.Instr.{Instr}
use Rattle.ultra_model.specs.{Machine.Settings, Ranges.AreInRange}
use Rattle.ultra_serial_law.specs.SerialList.{serial_list}
use Rattle.ultra_serial_law.proofs.Law.{are_chained}

module _ (c : Settings) (range : AreInRange c) (program : List Instr) where
  prefix_later : (k d n : ℕ) → n ≡ k + d → IsPrefix (serial_list c program k) (serial_list c program n)
  prefix_later k zero n e = subst (λ j. IsPrefix (serial_list c program k) (serial_list c program j)) (omega (arith, e)) (prefix_itself (serial_list c program k))
  prefix_later k (suc d) n e =
      prefix_then (serial_list c program k) (serial_list c program (k + d)) (serial_list c program n) (prefix_later k d (k + d) refl)
      (subst (λ j. IsPrefix (serial_list c program (k + d)) (serial_list c program j)) (omega (arith, e)) ((are_chained c range program).grows (k + d)))

  pub prefix_of_later : (k n : ℕ) → k ≤ n → IsPrefix (serial_list c program k) (serial_list c program n)
  prefix_of_later k n l = prefix_later k (n - k) n (omega (arith, l))
