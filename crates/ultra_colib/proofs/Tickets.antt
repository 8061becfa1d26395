-- the ticket counter: no two processing elements have taken the same ticket
use Rattle.std.proofs.Common.{◌≡◌, ◌≢◌, ℕ, ◌+◌, ◌<◌, ◌≤◌, ◌*◌, List, [], length, Bool, true, false, refl, sym, ap, ◌∙◌, subst, arith}
use Rattle.std.specs.Prelude.{All, slice_set, slice_index, slice_index_or, nat_lt, sum_by, replicate}
use Rattle.std.proofs.lemmas.{Grind.{common_steps, get_or-set_at}, List.{Sums.sum_by-le, Folds.sum_by-replicate}}
use Rattle.ultra_msg.specs.Act.{plus}
use Rattle.ultra_model.specs.{Machine.{Settings, size}, Ranges.AreInRange}
use Rattle.ultra_para.specs.Para.{core_at, start_para, run_para}
use Rattle.ultra_colib.specs.Tickets.{tickets, AreDifferent}
use Rattle.ultra_colib.proofs.Interleaving.{IsIn, sum_changes, phase_after, replicated, few_elements, zero_at_first, ◌▹◌, AreKept, always}

-- without a ticket, or with one
pub data Phase : Type 0 where
  none : Phase
  holds : ℕ → Phase

-- how many tickets it has taken
abbrev taken : Phase → ℕ
taken none = 0
taken (holds t) = 1

-- it has this ticket
abbrev Has : Phase → ℕ → Type 0
Has none t = ⊥
Has (holds u) t = u ≡ t

at_most_one : (φ : Phase) → taken φ ≤ 1
at_most_one none = omega arith
at_most_one (holds t) = omega arith

-- before the ticket is taken, and after it
abbrev Stage : Bool → ℕ → List ℕ → Phase → Type 0
Stage true k r φ = (slice_index r 0 ≡ 0) × (1 ≤ k → slice_index r 2 ≡ 1) × (φ ≡ none)
Stage false k r φ = φ ≡ holds (slice_index r 1)

abbrev Local : ℕ → ℕ → List ℕ → Phase → Type 0
Local p k r φ = Stage (nat_lt k 2) k r φ

-- cell 0 is the number of tickets taken; each is below it, and no two processing elements have the same
pub record Global (cells : List ℕ) (phases : List Phase) : Type 0 where
  pub count : slice_index cells 0 ≡ sum_by taken phases
  pub below : (p : ℕ) (t : ℕ) → Has (slice_index_or phases p none) t → t < sum_by taken phases
  pub once : (p q : ℕ) (t : ℕ) → Has (slice_index_or phases p none) t → Has (slice_index_or phases q none) t → p ≡ q

module _ (c : Settings) (ranged : AreInRange c) where
  takes : (p a e : ℕ) (cells : List ℕ) (phases : List Phase) → length phases ≡ size c → IsIn phases p none none → a < length cells → a ≡ 0 → e ≡ 1 → Global cells phases
      → Global (slice_set cells a (plus (slice_index cells a) e)) (slice_set phases p (holds (slice_index cells a)))
  takes p a e cells phases n i l zero one g =
      let new : Phase = holds (slice_index cells a) in
      let here : slice_index cells a ≡ slice_index cells 0 = ap (slice_index cells) zero in
      let was = g.count in
      let few = few_elements c ranged in
      let most : sum_by taken phases ≤ length phases * 1 = sum_by-le taken 1 phases (λ k d b. at_most_one _) in
      let more : sum_by taken (slice_set phases p new) + 0 ≡ sum_by taken phases + 1 = sum_changes taken phases p none none new i in
      let total : sum_by taken (slice_set phases p new) ≡ sum_by taken phases + 1 = omega arith in
      let same : 0 ≡ a = sym zero in
      let below : (q : ℕ) (t : ℕ) → Has (slice_index_or phases q none) t → t ≢ slice_index cells a = λ q t h e. let low = g.below q t h in omega arith in
      record {
        count = get_or-set_at cells a 0 _ 0 same l ∙ omega arith;
        below = phase_after (λ (q : ℕ) (χ : Phase). (t : ℕ) → Has χ t → t < sum_by taken (slice_set phases p new)) phases p none new i.within
            (λ t h. omega arith)
            (λ q d t h. let low = g.below q t h in omega arith);
        once = λ q r t. phase_after (λ (q : ℕ) (χ : Phase). Has χ t → Has (slice_index_or (slice_set phases p new) r none) t → q ≡ r) phases p none new i.within
            (λ h. phase_after (λ (r : ℕ) (ξ : Phase). Has ξ t → p ≡ r) phases p none new i.within (λ k. refl) (λ r d k. absurd (below r t k (sym h))) r)
            (λ q d h. phase_after (λ (r : ℕ) (ξ : Phase). Has ξ t → q ≡ r) phases p none new i.within (λ k. absurd (below q t h (sym k))) (λ r e k. g.once q r t h k) r)
            q;
      }

  steps : AreKept c Phase none Local Global 0 tickets
  steps =
      (λ p b x φ h. (h.0, λ _. refl, h.2))
      ▹ (λ p b x φ h cells phases n i l g.
      let out : IsIn phases p none none = subst (λ (χ : Phase). IsIn phases p none χ) h.2 i in
      (holds (slice_index cells x.r0), refl, takes p x.r0 x.r2 cells phases n out l h.0 (h.1 (omega arith)) g))
      ▹ (λ p b x φ h. h)
      ▹ (λ p b x φ h. tt)
      ▹ tt

  first : c.initial ≡ [] → Global (start_para c).cells (replicate (size c) none)
  first empty =
      let s : sum_by taken (replicate (size c) none) ≡ size c * 0 = sum_by-replicate taken (size c) none in
      let z = zero_at_first c empty 0 in
      record {
        count = omega arith;
        below = λ p t. rw (replicated (size c) p none) (λ h. absurd h);
        once = λ p q t. rw (replicated (size c) p none) (λ h. absurd h);
      }

  has : (p k : ℕ) (r : List ℕ) (φ : Phase) → 2 ≤ k → Local p k r φ → φ ≡ holds (slice_index r 1)
  has p k r φ past h = let late : nat_lt k 2 ≡ false = grind (arith, common_steps) in subst (λ (b : Bool). Stage b k r φ) late h

  pub different : c.initial ≡ [] → (schedule : List ℕ) → All (λ p. p < size c) schedule → AreDifferent c (run_para c tickets (start_para c) schedule)
  different empty schedule elements p q below under apart past late same =
      let h = always c Phase none Local Global tickets steps (λ p b. (refl, (λ m. absurd (omega arith)), refl)) (first empty) schedule elements in
      let s = run_para c tickets (start_para c) schedule in
      let here = has p (core_at s p).pc (core_at s p).registers _ past (h.each p below).local in
      let there = has q (core_at s q).pc (core_at s q).registers _ late (h.each q under).local in
      apart (h.global.once p q (slice_index (core_at s q).registers 1) (rw here same) (rw there refl))
