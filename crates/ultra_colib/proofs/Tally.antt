-- a count in cell 0, and a flag for each processing element from cell 8 on, where each phase has a weight and a flag
use Rattle.std.proofs.Common.{◌≡◌, ◌≢◌, ℕ, zero, refl, ◌+◌, ◌<◌, ◌≤◌, ◌*◌, List, [], ◌∷◌, suc, length, sym, ap, ◌∙◌, subst, arith}
use Rattle.std.specs.Prelude.{slice_set, slice_index, slice_index_or, sum_by, replicate}
use Rattle.std.proofs.{lemmas.{Grind.get_or-set_at, List.{get_or-set_other, Sums.sum_by-cons, Folds.sum_by-replicate}}, Math.ListN.length-set}
use Rattle.ultra_model.specs.Machine.{Settings, size}
use Rattle.ultra_para.specs.Para.{start_para}
use Rattle.ultra_colib.specs.Schedules.{total}
use Rattle.ultra_colib.proofs.Interleaving.{IsIn, sum_changes, within_sum, phase_after, replicated, zero_at_first}

-- who is in a phase is in one that is the same
pub at_phase : {Φ : Type 0} {phases : List Φ} {p : ℕ} {out φ ψ : Φ} → φ ≡ ψ → IsIn phases p out φ → IsIn phases p out ψ
at_phase {Φ} {phases} {p} {out} e i = subst (λ (φ : Φ). IsIn phases p out φ) e i

-- two phases' own weights are within the sum
pub two_within_sum : {Φ : Type 0} (weight : Φ → ℕ) (phases : List Φ) (p q : ℕ) (out φ ψ : Φ) → weight out ≡ 0 → p ≢ q → IsIn phases p out φ → IsIn phases q out ψ → weight φ + weight ψ ≤ sum_by weight phases
two_within_sum weight phases p q out φ ψ z d i j =
    let cleared = sum_changes weight phases p out φ out i in
    let other : q ≢ p = λ e. d (sym e) in
    let long : length (slice_set phases p out) ≡ length phases = length-set phases p out in
    let short = j.within in
    let still : slice_index_or (slice_set phases p out) q out ≡ ψ = get_or-set_other phases p q out out other ∙ j.is in
    let part : weight ψ ≤ sum_by weight (slice_set phases p out) = within_sum weight (slice_set phases p out) q out ψ record { within = omega arith; is = still } in
    omega arith

-- where each weight is at most 1
pub sum_at_most_one : {Φ : Type 0} (weight : Φ → ℕ) (phases : List Φ) (out : Φ) → ((p : ℕ) → p < length phases → weight (slice_index_or phases p out) ≤ 1) → sum_by weight phases ≤ length phases
sum_at_most_one weight [] out h = omega arith
sum_at_most_one weight (φ ∷ phases) out h =
    let first : weight φ ≤ 1 = h 0 (omega arith) in
    let rest : sum_by weight phases ≤ length phases = sum_at_most_one weight phases out (λ p b. h (suc p) (omega arith)) in
    let all : sum_by weight (φ ∷ phases) ≡ weight φ + sum_by weight phases = sum_by-cons weight φ phases in
    omega arith

-- numbers that are the weights of the phases
pub total_flags : (Φ : Type 0) (out : Φ) (weight : Φ → ℕ) (phases : List Φ) (n : ℕ) (f : ℕ → ℕ) → length phases ≡ n → ((p : ℕ) → f p ≡ weight (slice_index_or phases p out)) → total n f ≡ sum_by weight phases
total_flags Φ out weight [] zero f e h = refl
total_flags Φ out weight [] (suc n) f e h = absurd (omega arith)
total_flags Φ out weight (φ ∷ phases) zero f e h = absurd (omega arith)
total_flags Φ out weight (φ ∷ phases) (suc n) f e h =
    let first : f 0 ≡ weight φ = h 0 in
    let rest : total n (λ k. f (suc k)) ≡ sum_by weight phases = total_flags Φ out weight phases n (λ k. f (suc k)) (omega arith) (λ p. h (suc p)) in
    let all : sum_by weight (φ ∷ phases) ≡ weight φ + sum_by weight phases = sum_by-cons weight φ phases in
    omega arith

module _ (Φ : Type 0) (out : Φ) (counted flag : Φ → ℕ) where
  pub record Tally (cells : List ℕ) (phases : List Φ) : Type 0 where
    pub count : slice_index cells 0 ≡ sum_by counted phases
    pub flags : (p : ℕ) → slice_index cells (8 + p) ≡ flag (slice_index_or phases p out)

  -- a change of the count
  pub counts : (cells : List ℕ) (phases : List Φ) (p a v : ℕ) (φ ψ : Φ) → Tally cells phases → IsIn phases p out φ → a < length cells → a ≡ 0 → v + counted φ ≡ slice_index cells 0 + counted ψ → flag φ ≡ flag ψ → Tally (slice_set cells a v) (slice_set phases p ψ)
  counts cells phases p a v φ ψ g i l e n f =
      let zero : 0 ≡ a = omega arith in
      let c = sum_changes counted phases p out φ ψ i in
      let same : flag (slice_index_or phases p out) ≡ flag ψ = rw (i.is) f in
      let now : slice_index (slice_set cells a v) 0 ≡ v = get_or-set_at cells a 0 v 0 zero l in
      let was = g.count in
      record {
        count = omega arith;
        flags = phase_after (λ (q : ℕ) (χ : Φ). slice_index (slice_set cells a v) (8 + q) ≡ flag χ) phases p out ψ i.within
            (let other : 8 + p ≢ a = omega arith in rw (get_or-set_other cells a (8 + p) v 0 other) (g.flags p ∙ same))
            (λ q d. let other : 8 + q ≢ a = omega arith in rw (get_or-set_other cells a (8 + q) v 0 other) (g.flags q));
      }

  -- a change of a flag
  pub raises : (cells : List ℕ) (phases : List Φ) (p a v : ℕ) (φ ψ : Φ) → Tally cells phases → IsIn phases p out φ → a < length cells → a ≡ 8 + p → v ≡ flag ψ → counted φ ≡ counted ψ → Tally (slice_set cells a v) (slice_set phases p ψ)
  raises cells phases p a v φ ψ g i l e n m =
      let c = sum_changes counted phases p out φ ψ i in
      let other : 0 ≢ a = omega arith in
      let now : slice_index (slice_set cells a v) 0 ≡ slice_index cells 0 = get_or-set_other cells a 0 v 0 other in
      let was = g.count in
      record {
        count = omega arith;
        flags = phase_after (λ (q : ℕ) (χ : Φ). slice_index (slice_set cells a v) (8 + q) ≡ flag χ) phases p out ψ i.within
            (get_or-set_at cells a (8 + p) v 0 (sym e) l ∙ n)
            (λ q d. let other : 8 + q ≢ a = omega arith in rw (get_or-set_other cells a (8 + q) v 0 other) (g.flags q));
      }

  pub tally_at_first : (c : Settings) → c.initial ≡ [] → counted out ≡ 0 → flag out ≡ 0 → Tally (start_para c).cells (replicate (size c) out)
  tally_at_first c empty n f =
      let s : sum_by counted (replicate (size c) out) ≡ size c * counted out = sum_by-replicate counted (size c) out in
      record {
        count = zero_at_first c empty 0 ∙ sym (s ∙ (ap (λ (n : ℕ). size c * n) n ∙ omega arith));
        flags = λ p. zero_at_first c empty (8 + p) ∙ sym (ap flag (replicated (size c) p out) ∙ f);
      }
