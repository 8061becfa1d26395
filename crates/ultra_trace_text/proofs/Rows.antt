-- lines of switches, one stage after another
use Rattle.std.proofs.Common.{ℕ, zero, suc, ◌≡◌, ◌+◌, ◌*◌, ◌/◌, ◌%◌, ◌<◌, ◌≤◌, List, refl, arith}
use Rattle.std.specs.List.{range_with_len, flat_map}
use Rattle.std.proofs.lemmas.{List.Concat.flat_map-append, Nat.{div-mul-add, mod-mul-add}}
use Rattle.ultra_model.specs.Trace.{by_number}
use Rattle.ultra_holders.proofs.Skipped.{range_parts}
use Rattle.ultra_trace_text.proofs.{Numbered.by_number_more, Skipped.{two_lines, by_twos}}

-- the two lines of switch n, where a stage has w switches
abbrev pub lines_at : ℕ → (ℕ → ℕ → List ℕ) → ℕ → List ℕ
lines_at w line n = two_lines (line (n / w)) (n % w)

alike : (f g : ℕ → List ℕ) (a b n : ℕ) → ((i j : ℕ) → a ≤ i → i < a + n → i + b ≡ j + a → f i ≡ g j) → flat_map f (range_with_len a n) ≡ flat_map g (range_with_len b n)
alike f g a b zero same = refl
alike f g a b (suc n) same =
    let rest = alike f g (a + 1) (b + 1) n in
    let here = same a b in
    grind arith

module _ (line : ℕ → ℕ → List ℕ) (w : ℕ) where
  in_row : (s i j : ℕ) → j < w → i ≡ s * w + j → lines_at w line i ≡ two_lines (line s) j
  in_row s i j within e = grind (arith, div-mul-add, mod-mul-add)

  -- those of d stages, each of which has twice as many positions
  pub by_rows : (d n : ℕ) → n ≡ 2 * w → flat_map (lines_at w line) (range_with_len 0 (d * w)) ≡ by_number d (λ s. by_number n (line s))
  by_rows zero n twice = let none : 0 * w ≡ 0 = omega arith in rw none refl
  by_rows (suc d) n twice =
      let parts = range_parts 0 (d * w) w (suc d * w) (omega arith) in
      let row = alike (lines_at w line) (two_lines (line d)) (0 + d * w) 0 w (λ i j from to e. in_row d i j (omega arith) (omega arith)) in
      let more = by_number_more d (λ s. by_number n (line s)) in
      let twos = by_twos (line d) w n twice in
      let before = by_rows d n twice in
      grind (arith, flat_map-append)
