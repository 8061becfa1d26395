-- What is on links, after something was put on others or on them; and that no two places have one link.
use Rattle.std.proofs.Common.{◌≡◌, ◌≢◌, ℕ, ◌+◌, ◌-◌, ◌*◌, ◌/◌, ◌^◌, ◌<◌, ◌≤◌, true, false, List, Option, Some, None, length, get_or-set_same, get_or-set_other, arith, nat_lt}
use Rattle.ultra_topology.proofs.Common.{sizes, switch_count, link_number, IsSwitch, put_on, on_link}
pub use Rattle.ultra_topology.specs.Ways.{places_of}

-- what is on a link on which something may have been put
abbrev pub put_or : {M : Type 0} → Option M → Option M → Option M
put_or None before = before
put_or (Some m) before = Some m

module _ {M : Type 0} (t : List (Option M)) where
  pub put_apart : (a x : ℕ) (o : Option M) → x ≢ a → on_link (put_on t a o) x ≡ on_link t x
  put_apart a x o other = grind (arith, get_or-set_other)

  pub put_there : (a : ℕ) (o : Option M) → a < length t → on_link (put_on t a o) a ≡ put_or o (on_link t a)
  put_there a o within = grind (arith, get_or-set_same)

-- ---- places
pub places_twice : (d : ℕ) → 1 ≤ d → d ≤ 6 → d * 2 ^ d ≡ 2 * switch_count d
places_twice d low high = let size = (sizes d low high).0 in rw (← size) (grind arith)

-- the places of a switch are links, and those of another are others
pub record HasPlaces (d n s k : ℕ) : Type 0 where
  pub first : link_number d s (2 * k) ≡ 2 * n
  pub second : link_number d s (2 * k + 1) ≡ 2 * n + 1
  pub first_small : link_number d s (2 * k) < (d + 1) * 2 ^ d
  pub second_small : link_number d s (2 * k + 1) < (d + 1) * 2 ^ d

pub has_places : (d n s k : ℕ) → 1 ≤ d → d ≤ 6 → IsSwitch d n s k → HasPlaces d n s k
has_places d n s k low high is =
    let twice : link_number d s (2 * k) ≡ 2 * n = (let size = (sizes d low high).0 in rw (← size, is.number) (grind arith)) in
    let row : (d + 1) * 2 ^ d ≡ d * 2 ^ d + 2 ^ d = grind arith in
    grind (arith, places_twice)

-- the unit that puts messages on link l: behind the places of switches come those of the units from number `behind` on
pub writer : ℕ → ℕ → ℕ → ℕ
writer d behind l = elim (nat_lt l (2 * switch_count d)) [ true ↦ l / 2 | false ↦ behind + (l - 2 * switch_count d) ]

module _ (d behind : ℕ) (low : 1 ≤ d) (high : d ≤ 6) where
  pub written : (n s k : ℕ) → IsSwitch d n s k → (writer d behind (places_of d s k).zero ≡ n) × (writer d behind (places_of d s k).one ≡ n)
  unfolding writer
  written n s k is = let there = has_places d n s k low high is in grind arith

  pub written_behind : (m : ℕ) → writer d behind (link_number d d m) ≡ behind + m
  unfolding writer
  written_behind m = grind (arith, places_twice)
