-- the gate's invariant
use Rattle.std.proofs.Common.{◌≡◌, ◌≢◌, ℕ, ◌+◌, ◌-◌, ◌<◌, ◌≤◌, ◌*◌, List, [], ◌∷◌, length, drop, Bool, true, false, refl, ap, arith}
use Rattle.std.specs.Prelude.{slice_set, slice_index, nat_lt, sum_by, replicate}
use Rattle.std.proofs.lemmas.{Grind.common_steps, List.{Sums.{sum_by-le-sum_by, sum_by-le}, Folds.sum_by-replicate}}
use Rattle.ultra_msg.specs.Act.{plus}
use Rattle.ultra_model.specs.{Machine.{Settings, size}, Ranges.AreInRange}
use Rattle.ultra_para.specs.Para.{Para, start_para}
use Rattle.ultra_colib.proofs.Interleaving.{IsIn, unchanged, sum_changes, within_sum, few_elements, Knows, stage_at, ◌▹◌, AreKept, Holds, always}
use Rattle.ultra_colib.specs.{Schedules.{total, IsKeptBySchedules}, Gate.{gate, AreFewInside}}
use Rattle.ultra_colib.proofs.Tally.{at_phase, Tally, counts, raises, tally_at_first, total_flags}

-- without a pass, about to undo an addition, with a pass, with a pass and its flag up
pub data Phase : Type 0 where
  outside : Phase
  trying : Phase
  holding : Phase
  raised : Phase

abbrev counted : Phase → ℕ
counted outside = 0
counted trying = 1
counted holding = 1
counted raised = 1

abbrev passes : Phase → ℕ
passes outside = 0
passes trying = 0
passes holding = 1
passes raised = 1

abbrev flag : Phase → ℕ
flag outside = 0
flag trying = 0
flag holding = 0
flag raised = 1

passes_counted : (φ : Phase) → passes φ ≤ counted φ
passes_counted outside = omega arith
passes_counted trying = omega arith
passes_counted holding = omega arith
passes_counted raised = omega arith

flag_passes : (φ : Phase) → flag φ ≤ passes φ
flag_passes outside = omega arith
flag_passes trying = omega arith
flag_passes holding = omega arith
flag_passes raised = omega arith

counted_small : (φ : Phase) → counted φ ≤ 1
counted_small outside = omega arith
counted_small trying = omega arith
counted_small holding = omega arith
counted_small raised = omega arith

-- the registers that stay
pub record Ready (bound p r0 r1 r3 r4 r8 : ℕ) : Type 0 where
  pub zero : r0 ≡ 0
  pub own : r1 ≡ 8 + p
  pub one : r3 ≡ 1
  pub most : r4 ≡ bound
  pub back : r8 ≡ 4294967295

-- the old count was below the bound, or not
pub record Tested (bound old : ℕ) (φ : Phase) : Type 0 where
  pub below : old < bound → φ ≡ holding
  pub above : bound ≤ old → φ ≡ trying

pub record Decided (below : ℕ) (φ : Phase) : Type 0 where
  pub no : below ≡ 0 → φ ≡ trying
  pub yes : below ≢ 0 → φ ≡ holding

-- the first two instructions; those that set the constants; and what is known of the phase from then on
data Stage : Type 0 where
  numbering : Stage
  setting : Stage
  in_phase : Phase → Stage
  tested : Stage
  decided : Stage

abbrev stages : List (ℕ × Stage)
stages =
    (2, numbering) ∷ (6, setting) ∷ (11, in_phase outside) ∷ (13, tested) ∷ (14, decided) ∷ (15, in_phase trying) ∷ (17, in_phase outside)
    ∷ (18, in_phase holding) ∷ (20, in_phase raised) ∷ (22, in_phase holding) ∷ []

module _ (bound rounds : ℕ) where
  -- the registers that the first instructions set, the last one first
  abbrev table : ℕ → List (ℕ × ℕ)
  table p = (5, rounds) ∷ (4, bound) ∷ (3, 1) ∷ (1, 8 + p) ∷ (0, 0) ∷ []

  abbrev IsReady : ℕ → List ℕ → Type 0
  IsReady p r = Ready bound p (slice_index r 0) (slice_index r 1) (slice_index r 3) (slice_index r 4) (slice_index r 8)

  abbrev Says : Stage → ℕ → ℕ → List ℕ → Phase → Type 0
  Says numbering p k r φ = (slice_index r 0 ≡ 0) × (1 ≤ k → slice_index r 1 ≡ p) × (φ ≡ outside)
  Says setting p k r φ = Knows (drop (5 - k) (table p)) r × (φ ≡ outside)
  Says (in_phase ψ) p k r φ = IsReady p r × (φ ≡ ψ)
  Says tested p k r φ = IsReady p r × Tested bound (slice_index r 6) φ
  Says decided p k r φ = IsReady p r × Decided (slice_index r 7) φ

  abbrev Local : ℕ → ℕ → List ℕ → Phase → Type 0
  Local p k r φ = Says (stage_at stages (in_phase outside) k) p k r φ

  -- the count, the flags, and the bound
  pub record Global (cells : List ℕ) (phases : List Phase) : Type 0 where
    pub tally : Tally Phase outside counted flag cells phases
    pub most : sum_by passes phases ≤ bound

  module _ (c : Settings) (ranged : AreInRange c) where
    -- the count is at most that of the processing elements
    few : (cells : List ℕ) (phases : List Phase) → length phases ≡ size c → Global cells phases → slice_index cells 0 ≤ 64
    few cells phases n g =
        let was = g.tally.count in
        let small = few_elements c ranged in
        let most : sum_by counted phases ≤ length phases * 1 = sum_by-le counted 1 phases (λ k d b. counted_small _) in
        omega arith

    -- the count changes
    changes : (cells : List ℕ) (phases : List Phase) (p a v : ℕ) (φ ψ : Phase) → Global cells phases → IsIn phases p outside φ → a < length cells → a ≡ 0 → v + counted φ ≡ slice_index cells 0 + counted ψ
        → sum_by passes phases + passes ψ ≤ bound + passes φ → flag φ ≡ flag ψ → Global (slice_set cells a v) (slice_set phases p ψ)
    changes cells phases p a v φ ψ g i l e n m f =
        let o = sum_changes passes phases p outside φ ψ i in
        record { tally = counts Phase outside counted flag cells phases p a v φ ψ g.tally i l e n f; most = omega arith }

    -- a flag goes up or down
    flags : (cells : List ℕ) (phases : List Phase) (p a v : ℕ) (φ ψ : Phase) → Global cells phases → IsIn phases p outside φ → a < length cells → a ≡ 8 + p → v ≡ flag ψ → counted φ ≡ counted ψ → passes φ ≡ passes ψ
        → Global (slice_set cells a v) (slice_set phases p ψ)
    flags cells phases p a v φ ψ g i l e n m f =
        let o = sum_changes passes phases p outside φ ψ i in
        let most = g.most in
        record { tally = raises Phase outside counted flag cells phases p a v φ ψ g.tally i l e n m; most = omega arith }

    -- the addition
    enters_where : (p : ℕ) (cells : List ℕ) (phases : List Phase) (a e : ℕ) → length phases ≡ size c → IsIn phases p outside outside → a < length cells → a ≡ 0 → e ≡ 1 → Global cells phases → (b : Bool) → nat_lt (slice_index cells a) bound ≡ b
        → (ψ : Phase) × Tested bound (slice_index cells a) ψ × Global (slice_set cells a (plus (slice_index cells a) e)) (slice_set phases p ψ)
    enters_where p cells phases a e n i l z o g true t =
        let low : slice_index cells a < bound = grind (arith, common_steps) in
        let here : slice_index cells a ≡ slice_index cells 0 = ap (slice_index cells) z in
        let f = few cells phases n g in
        let was = g.tally.count in
        let less : sum_by passes phases ≤ sum_by counted phases = sum_by-le-sum_by passes counted phases passes_counted in
        (holding, record { below = λ h. refl; above = λ h. absurd (omega arith) }, changes cells phases p a _ outside holding g i l z (omega arith) (omega arith) refl)
    enters_where p cells phases a e n i l z o g false t =
        let high : bound ≤ slice_index cells a = grind (arith, common_steps) in
        let here : slice_index cells a ≡ slice_index cells 0 = ap (slice_index cells) z in
        let f = few cells phases n g in
        let most = g.most in
        (trying, record { below = λ h. absurd (omega arith); above = λ h. refl }, changes cells phases p a _ outside trying g i l z (omega arith) (omega arith) refl)

    -- the subtraction
    leaves : (p : ℕ) (cells : List ℕ) (phases : List Phase) (φ : Phase) (a e : ℕ) → length phases ≡ size c → IsIn phases p outside φ → a < length cells → a ≡ 0 → e ≡ 4294967295 → counted φ ≡ 1 → flag φ ≡ 0 → Global cells phases
        → Global (slice_set cells a (plus (slice_index cells a) e)) (slice_set phases p outside)
    leaves p cells phases φ a e n i l z o one f g =
        let here : slice_index cells a ≡ slice_index cells 0 = ap (slice_index cells) z in
        let small = few cells phases n g in
        let was = g.tally.count in
        let own = within_sum counted phases p outside φ i in
        let most = g.most in
        changes cells phases p a _ φ outside g i l z (omega arith) (omega arith) f

    steps : AreKept c Phase outside Local Global 0 (gate bound rounds)
    steps =
        (λ p b x φ h. (h.0, λ _. refl, h.2))
        ▹ (λ p b x φ h. let own = h.1 (omega arith) in let small = few_elements c ranged in ((omega arith, (h.0, tt)), h.2))
        ▹ (λ p b x φ h. ((refl, h.0), h.1))
        ▹ (λ p b x φ h. ((refl, h.0), h.1))
        ▹ (λ p b x φ h. ((refl, h.0), h.1))
        ▹ (λ p b x φ h. let k = h.0 in (record { zero = k.1.1.1.1.0; own = k.1.1.1.0; one = k.1.1.0; most = k.1.0; back = refl }, h.1))
        -- again
        ▹ (λ p b x φ h cells phases n i l g. (φ, h, rw (unchanged phases p outside φ i) g))
        ▹ (λ p b x φ h. h)
        ▹ (λ p b x φ h. (λ e. h, λ e. h))
        ▹ (λ p b x φ h. (λ e. h, λ e. h))
        ▹ (λ p b x φ h cells phases n i l g. let e = enters_where p cells phases x.r0 x.r3 n (at_phase h.1 i) l h.0.zero h.0.one g (nat_lt (slice_index cells x.r0) bound) refl in (e.0, (h.0, e.1), e.2))
        ▹ (λ p b x φ h. h)
        ▹ (λ p b x φ h. (λ e. (h.0, record { no = λ z. absurd (omega arith); yes = λ z. h.1.below (rw (← h.0.most) e) }), λ e. (h.0, record { no = λ z. h.1.above (rw (← h.0.most) e); yes = λ z. absurd (z refl) })))
        ▹ (λ p b x φ h. (λ e. (h.0, h.1.no e), λ e. (h.0, h.1.yes e)))
        ▹ (λ p b x φ h cells phases n i l g. (outside, (h.0, refl), leaves p cells phases trying x.r0 x.r8 n (at_phase h.1 i) l h.0.zero h.0.back refl refl g))
        ▹ (λ p b x φ h. h)
        ▹ (λ p b x φ h. h)
        -- inside
        ▹ (λ p b x φ h cells phases n i l g. (raised, (h.0, refl), flags cells phases p x.r1 x.r3 holding raised g (at_phase h.1 i) l h.0.own h.0.one refl refl))
        ▹ (λ p b x φ h. h)
        ▹ (λ p b x φ h cells phases n i l g. (holding, (h.0, refl), flags cells phases p x.r1 x.r0 raised holding g (at_phase h.1 i) l h.0.own h.0.zero refl refl))
        ▹ (λ p b x φ h. h)
        ▹ (λ p b x φ h cells phases n i l g. (outside, (h.0, refl), leaves p cells phases holding x.r0 x.r8 n (at_phase h.1 i) l h.0.zero h.0.back refl refl g))
        ▹ (λ p b x φ h. h)
        ▹ (λ p b x φ h. h)
        ▹ (λ p b x φ h. (λ e. h, λ e. h))
        ▹ (λ p b x φ h. tt)
        ▹ tt

    first : c.initial ≡ [] → Global (start_para c).cells (replicate (size c) outside)
    first empty =
        let o : sum_by passes (replicate (size c) outside) ≡ size c * 0 = sum_by-replicate passes (size c) outside in
        record { tally = tally_at_first Phase outside counted flag c empty refl refl; most = omega arith }

    -- the flags that are up are at most the passes held
    law : (s : Para) → Holds c Phase outside Local Global s → AreFewInside bound (size c) (slice_index s.cells)
    law s h =
        let n = h.as_many in
        let most = h.global.most in
        let flags : total (size c) (λ p. slice_index s.cells (8 + p)) ≡ sum_by flag h.phases = total_flags Phase outside flag h.phases (size c) (λ p. slice_index s.cells (8 + p)) h.as_many h.global.tally.flags in
        let less : sum_by flag h.phases ≤ sum_by passes h.phases = sum_by-le-sum_by flag passes h.phases flag_passes in
        omega arith

  pub kept : IsKeptBySchedules (gate bound rounds) (AreFewInside bound)
  kept c ranged empty schedule elements =
      law c ranged _ (always c Phase outside Local Global (gate bound rounds) (steps c ranged) (λ p b. (refl, (λ m. absurd (omega arith)), refl)) (first c ranged empty) schedule elements)
