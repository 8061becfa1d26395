-- requests in a ring over 8 places. This project's profile
use Rattle.std.specs.Prelude.{ℕ, zero, suc, ◌+◌, ◌%◌, ◌<◌, ◌≤◌, List, [], ◌∷◌, slice_index_or}
use Rattle.ultra_msg.specs.declared.{Request.Request, Op.TheVariants.Load}

abbrev pub no_request : Request
no_request = record { pe = 0; cell = 0; op = Load }

-- n requests, from a place on, and from the last place on to the first again
abbrev pub requests_in_ring : List Request → ℕ → ℕ → List Request
requests_in_ring places first zero = []
requests_in_ring places first (suc n) =
    slice_index_or places (first % 8) no_request ∷ requests_in_ring places (first + 1) n

pub record IsRing (first count : ℕ) : Type 0 where
  pub starts : first < 8
  pub fits : count ≤ 8
