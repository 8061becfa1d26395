-- lines of the numbers that pass a test; those of the others are empty
use Rattle.std.proofs.Common.{ℕ, zero, suc, ◌≡◌, ◌+◌, ◌*◌, ◌<◌, List, [], ◌++◌, Bool, false, refl, arith, append_assoc}
use Rattle.std.specs.List.{filter, range_with_len, flat_map}

module _ (p : ℕ → Bool) where
  pub skipped : (line : ℕ → List ℕ) (a n : ℕ) → ((k : ℕ) → k < a + n → p k ≡ false → line k ≡ []) → flat_map line (filter p (range_with_len a n)) ≡ flat_map line (range_with_len a n)
  skipped line a zero empty = refl
  skipped line a (suc n) empty =
      let rest = skipped line (a + 1) n (λ k to none. empty k (omega arith) none) in
      let here = empty a in
      grind arith

-- lines of two numbers at a time
abbrev pub two_lines : (ℕ → List ℕ) → ℕ → List ℕ
two_lines line k = line (2 * k) ++ line (2 * k + 1)

two_by_two : (line : ℕ → List ℕ) (a n b m : ℕ) → b ≡ 2 * a → m ≡ 2 * n → flat_map (two_lines line) (range_with_len a n) ≡ flat_map line (range_with_len b m)
two_by_two line a zero b zero from count = refl
two_by_two line a zero b (suc m) from count = absurd (omega arith)
two_by_two line a (suc n) b zero from count = absurd (omega arith)
two_by_two line a (suc n) b (suc zero) from count = absurd (omega arith)
two_by_two line a (suc n) b (suc (suc m)) from count =
    let rest = two_by_two line (a + 1) n (b + 1 + 1) m in
    grind (arith, append_assoc)

pub by_twos : (line : ℕ → List ℕ) (n m : ℕ) → m ≡ 2 * n → flat_map (two_lines line) (range_with_len 0 n) ≡ flat_map line (range_with_len 0 m)
by_twos line n m count = two_by_two line 0 n 0 m (omega arith) count
