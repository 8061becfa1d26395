-- Bits of a number that don't depend on its higher bits.
use Rattle.std.proofs.Common.{◌≡◌, ℕ, ◌+◌, ◌*◌, ◌/◌, ◌%◌, ◌^◌, ◌<◌, ◌∙◌, ap, sym}
use Rattle.std.specs.Int.{bit_at}
use Rattle.std.proofs.lemmas.Nat.{div-add-mod', Bits.bit_at_cat_low}
use Rattle.ultra_route.specs.Route.{bit_of}

pub low_bit : (d i m : ℕ) → i < d → bit_of i m ≡ bit_of i (m % 2 ^ d)
low_bit d i m below =
    let whole : m / 2 ^ d * 2 ^ d + m % 2 ^ d ≡ m = div-add-mod' m (2 ^ d) in
    ap (λ x. bit_at x i) (sym whole) ∙ bit_at_cat_low (m / 2 ^ d) d (m % 2 ^ d) i below
