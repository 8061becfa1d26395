-- the ticket counter with rounds: no two processing elements have the same ticket
use Rattle.std.proofs.Common.{◌≡◌, ◌≢◌, ℕ, suc, ◌+◌, ◌<◌, ◌≤◌, ◌*◌, List, [], ◌∷◌, length, Bool, true, false, refl, sym, ap, ◌∙◌, arith}
use Rattle.std.specs.Prelude.{All, slice_set, slice_index, slice_index_or, ◌==◌, nat_lt, sum_by, replicate}
use Rattle.std.proofs.{lemmas.{Grind.{common_steps, get_or-set_at}, List.{get_or_default, Sums.{sum_by-cons, sum_by-le}, Folds.sum_by-replicate}}, Math.Nat.mul-suc}
use Rattle.ultra_msg.specs.Act.{plus}
use Rattle.ultra_isa.specs.Instruction.{minus}
use Rattle.ultra_model.specs.{Machine.{Settings, size}, Ranges.AreInRange}
use Rattle.ultra_para.specs.Para.{Para, core_at, start_para, run_para}
use Rattle.ultra_colib.specs.TicketRounds.{ticket_rounds, HasDrawn, AreTicketsDifferent, IsNextTicketGreater, AreAllDrawn, TicketRoundsLaw, NextTicketLaw, AllDrawnLaw, IsNoTicketTwice, NoTicketTwiceLaw}
use Rattle.ultra_colib.proofs.Interleaving.{IsIn, sum_changes, phase_after, replicated, few_elements, zero_at_first, ◌▹◌, AreKept, Holds, holds_after, always}

-- how many tickets it has drawn, and the last one
pub data Phase : Type 0 where
  drew : ℕ → ℕ → Phase

abbrev drawn : Phase → ℕ
drawn (drew n t) = n

abbrev last : Phase → ℕ
last (drew n t) = t

abbrev none : Phase
none = drew 0 0

-- it has this ticket
abbrev Has : Phase → ℕ → Type 0
Has φ t = (1 ≤ drawn φ) × (last φ ≡ t)

-- where each has drawn as many
sum_same : (phases : List Phase) (k : ℕ) → ((p : ℕ) → p < length phases → drawn (slice_index_or phases p none) ≡ k) → sum_by drawn phases ≡ k * length phases
sum_same [] k h = omega arith
sum_same (φ ∷ phases) k h =
    let first : drawn φ ≡ k = h 0 (omega arith) in
    let rest : sum_by drawn phases ≡ k * length phases = sum_same phases k (λ p b. h (suc p) (omega arith)) in
    let all : sum_by drawn (φ ∷ phases) ≡ drawn φ + sum_by drawn phases = sum_by-cons drawn φ phases in
    rw (mul-suc k (length phases)) (omega arith)

module _ (rounds : ℕ) (some : 1 ≤ rounds) (few : rounds ≤ 1000) (c : Settings) (ranged : AreInRange c) where
  -- at place k with these registers
  pub record At (k r0 r1 r2 r5 : ℕ) (φ : Phase) : Type 0 where
    pub zero : r0 ≡ 0
    pub one : 1 ≤ k → r2 ≡ 1
    pub not_yet : k ≤ 1 → drawn φ ≡ 0
    pub past_draw : 3 ≤ k → 1 ≤ drawn φ
    pub held : 1 ≤ drawn φ → last φ ≡ r1
    pub before_draw : k ≡ 2 → (1 ≤ r5) × (r5 + drawn φ ≡ rounds)
    pub after_draw : 3 ≤ k → k ≤ 4 → (1 ≤ r5) × (r5 + drawn φ ≡ rounds + 1)
    pub counted : k ≡ 5 → r5 + drawn φ ≡ rounds
    pub finished : 6 ≤ k → drawn φ ≡ rounds

  abbrev Local : ℕ → ℕ → List ℕ → Phase → Type 0
  Local p k r φ = At k (slice_index r 0) (slice_index r 1) (slice_index r 2) (slice_index r 5) φ

  -- a processing element was in one phase when `base` tickets were drawn, and is in another one since
  pub record Since (base : ℕ) (φ ψ : Phase) : Type 0 where
    pub more : drawn φ ≤ drawn ψ
    pub still : drawn ψ ≡ drawn φ → last ψ ≡ last φ
    pub fresh : drawn φ < drawn ψ → base ≤ last ψ

  -- cell 0 is the number of tickets drawn; each is below it, and no two processing elements have the same. The phases were the old ones when `base` tickets were drawn
  pub record Global (base : ℕ) (old : List Phase) (cells : List ℕ) (phases : List Phase) : Type 0 where
    pub count : slice_index cells 0 ≡ sum_by drawn phases
    pub within : (p : ℕ) → drawn (slice_index_or phases p none) ≤ rounds
    pub below : (p : ℕ) (t : ℕ) → Has (slice_index_or phases p none) t → t < sum_by drawn phases
    pub once : (p q : ℕ) (t : ℕ) → Has (slice_index_or phases p none) t → Has (slice_index_or phases q none) t → p ≡ q
    pub later : base ≤ sum_by drawn phases
    pub since : (p : ℕ) → Since base (slice_index_or old p none) (slice_index_or phases p none)

  -- the count doesn't wrap
  short : (phases : List Phase) → length phases ≡ size c → ((p : ℕ) → drawn (slice_index_or phases p none) ≤ rounds) → sum_by drawn phases ≤ 64000
  short phases n h =
      let small = few_elements c ranged in
      let most : sum_by drawn phases ≤ length phases * 1000 = sum_by-le drawn 1000 phases (λ k d b. let one = h k in rw (get_or_default phases k d none b) (omega arith)) in
      omega arith

  draws : (base : ℕ) (old : List Phase) (p a e : ℕ) (cells : List ℕ) (phases : List Phase) (φ : Phase) → length phases ≡ size c → IsIn phases p none φ → a < length cells → a ≡ 0 → e ≡ 1 → drawn φ + 1 ≤ rounds → Global base old cells phases
      → Global base old (slice_set cells a (plus (slice_index cells a) e)) (slice_set phases p (drew (drawn φ + 1) (slice_index cells a)))
  draws base old p a e cells phases φ n i l zero one less g =
      let new : Phase = drew (drawn φ + 1) (slice_index cells a) in
      let here : slice_index cells a ≡ slice_index cells 0 = ap (slice_index cells) zero in
      let was = g.count in
      let most = short phases n g.within in
      let more : sum_by drawn (slice_set phases p new) + drawn φ ≡ sum_by drawn phases + (drawn φ + 1) = sum_changes drawn phases p none φ new i in
      let total : sum_by drawn (slice_set phases p new) ≡ sum_by drawn phases + 1 = omega arith in
      let value : plus (slice_index cells a) e ≡ sum_by drawn phases + 1 = omega arith in
      let same : 0 ≡ a = sym zero in
      let low = g.later in
      let own : drawn (slice_index_or phases p none) ≡ drawn φ = ap drawn i.is in
      let past = (g.since p).more in
      let below : (q : ℕ) (t : ℕ) → Has (slice_index_or phases q none) t → t ≢ slice_index cells a = λ q t h e. let low = g.below q t h in omega arith in
      record {
        count = get_or-set_at cells a 0 _ 0 same l ∙ (value ∙ sym total);
        within = phase_after (λ (q : ℕ) (χ : Phase). drawn χ ≤ rounds) phases p none new i.within less (λ q d. g.within q);
        below = phase_after (λ (q : ℕ) (χ : Phase). (t : ℕ) → Has χ t → t < sum_by drawn (slice_set phases p new)) phases p none new i.within
            (λ t h. let is = h.1 in omega arith)
            (λ q d t h. let low = g.below q t h in omega arith);
        once = λ q r t. phase_after (λ (q : ℕ) (χ : Phase). Has χ t → Has (slice_index_or (slice_set phases p new) r none) t → q ≡ r) phases p none new i.within
            (λ h. phase_after (λ (r : ℕ) (ξ : Phase). Has ξ t → p ≡ r) phases p none new i.within (λ k. refl) (λ r d k. absurd (below r t k (sym h.1))) r)
            (λ q d h. phase_after (λ (r : ℕ) (ξ : Phase). Has ξ t → q ≡ r) phases p none new i.within (λ k. absurd (below q t h (sym k.1))) (λ r e k. g.once q r t h k) r)
            q;
        later = omega arith;
        since = phase_after (λ (q : ℕ) (χ : Phase). Since base (slice_index_or old q none) χ) phases p none new i.within
            record { more = omega arith; still = λ e. absurd (omega arith); fresh = λ e. omega arith }
            (λ q d. g.since q);
      }

  lowered : (v w d : ℕ) → 1 ≤ v → v + d ≡ rounds + 1 → w ≡ 1 → minus v w + d ≡ rounds
  lowered v w d s e o = omega arith

  steps : (base : ℕ) (old : List Phase) → AreKept c Phase none Local (Global base old) 0 (ticket_rounds rounds)
  steps base old =
      (λ p b x φ h. record { zero = h.zero; one = λ m. refl; not_yet = λ m. h.not_yet (omega arith); past_draw = λ m. absurd (omega arith); held = h.held; before_draw = λ m. absurd (omega arith); after_draw = λ m n. absurd (omega arith); counted = λ m. absurd (omega arith); finished = λ m. absurd (omega arith) })
      ▹ (λ p b x φ h. let none_yet = h.not_yet (omega arith) in record { zero = h.zero; one = λ m. h.one (omega arith); not_yet = λ m. none_yet; past_draw = λ m. absurd (omega arith); held = h.held; before_draw = λ m. (some, omega arith); after_draw = λ m n. absurd (omega arith); counted = λ m. absurd (omega arith); finished = λ m. absurd (omega arith) })
      -- again
      ▹ (λ p b x φ h cells phases n i l g.
      let left = h.before_draw refl in
      let one = h.one (omega arith) in
      let at_least_one = left.0 in
      let all = left.1 in (
        drew (drawn φ + 1) (slice_index cells x.r0),
        record { zero = h.zero; one = λ m. one; not_yet = λ m. absurd (omega arith); past_draw = λ m. omega arith; held = λ m. refl; before_draw = λ m. absurd (omega arith); after_draw = λ m n. (at_least_one, omega arith); counted = λ m. absurd (omega arith); finished = λ m. absurd (omega arith) },
        draws base old p x.r0 x.r2 cells phases φ n i l h.zero one (omega arith) g,
      ))
      ▹ (λ p b x φ h. record { zero = h.zero; one = λ m. h.one (omega arith); not_yet = λ m. absurd (omega arith); past_draw = λ m. h.past_draw (omega arith); held = h.held; before_draw = λ m. absurd (omega arith); after_draw = λ m n. h.after_draw (omega arith) (omega arith); counted = λ m. absurd (omega arith); finished = λ m. absurd (omega arith) })
      ▹ (λ p b x φ h. let left = h.after_draw (omega arith) (omega arith) in record { zero = h.zero; one = λ m. h.one (omega arith); not_yet = λ m. absurd (omega arith); past_draw = λ m. h.past_draw (omega arith); held = h.held; before_draw = λ m. absurd (omega arith); after_draw = λ m n. absurd (omega arith); counted = λ m. lowered x.r5 x.r2 (drawn φ) left.0 left.1 (h.one (omega arith)); finished = λ m. absurd (omega arith) })
      ▹ (λ p b x φ h. (
        (λ e. record { zero = h.zero; one = λ m. h.one (omega arith); not_yet = λ m. absurd (omega arith); past_draw = λ m. h.past_draw (omega arith); held = h.held; before_draw = λ m. absurd (omega arith); after_draw = λ m n. absurd (omega arith); counted = λ m. absurd (omega arith); finished = λ m. let all = h.counted refl in omega arith }),
        (λ e. record { zero = h.zero; one = λ m. h.one (omega arith); not_yet = λ m. absurd (omega arith); past_draw = λ m. absurd (omega arith); held = h.held; before_draw = λ m. (omega arith, h.counted refl); after_draw = λ m n. absurd (omega arith); counted = λ m. absurd (omega arith); finished = λ m. absurd (omega arith) }),
      ))
      ▹ (λ p b x φ h. tt)
      ▹ tt

  first : c.initial ≡ [] → Global 0 (replicate (size c) none) (start_para c).cells (replicate (size c) none)
  first empty =
      let s : sum_by drawn (replicate (size c) none) ≡ size c * 0 = sum_by-replicate drawn (size c) none in
      let z = zero_at_first c empty 0 in
      record {
        count = omega arith;
        within = λ p. rw (replicated (size c) p none) (omega arith);
        below = λ p t. rw (replicated (size c) p none) (λ h. let one = h.0 in absurd (omega arith));
        once = λ p q t. rw (replicated (size c) p none) (λ h. let one = h.0 in absurd (omega arith));
        later = omega arith;
        since = λ p. record { more = omega arith; still = λ e. refl; fresh = λ e. absurd (omega arith) };
      }

  at_first : (p : ℕ) → Local p 0 (replicate 16 0) none
  at_first p = record { zero = refl; one = λ m. absurd (omega arith); not_yet = λ m. refl; past_draw = λ m. absurd (omega arith); held = λ m. absurd (omega arith); before_draw = λ m. absurd (omega arith); after_draw = λ m n. absurd (omega arith); counted = λ m. absurd (omega arith); finished = λ m. absurd (omega arith) }

  -- who has drawn has the ticket in register 1
  has_where : (k r0 r1 r2 r5 : ℕ) (φ : Phase) → At k r0 r1 r2 r5 φ → 2 ≤ k → (k ≡ 2 → r5 < rounds) → (b : Bool) → (k == 2) ≡ b → Has φ r1
  has_where k r0 r1 r2 r5 φ h come less true e =
      let here : k ≡ 2 = grind (arith, common_steps) in
      let all = (h.before_draw here).1 in
      let left = less here in
      let one : 1 ≤ drawn φ = omega arith in
      (one, h.held one)
  has_where k r0 r1 r2 r5 φ h come less false e =
      let other : k ≢ 2 = grind (arith, common_steps) in
      let one : 1 ≤ drawn φ = h.past_draw (omega arith) in
      (one, h.held one)

  has : (k r0 r1 r2 r5 : ℕ) (φ : Phase) → At k r0 r1 r2 r5 φ → 2 ≤ k → (k ≡ 2 → r5 < rounds) → Has φ r1
  has k r0 r1 r2 r5 φ h come less = has_where k r0 r1 r2 r5 φ h come less (k == 2) refl

  -- in a state in which the invariant holds
  module _ (base : ℕ) (old : List Phase) (s : Para) (holds : Holds c Phase none Local (Global base old) s) where
    has_ticket : (p : ℕ) → p < size c → HasDrawn rounds s p → Has (slice_index_or holds.phases p none) (slice_index (core_at s p).registers 1)
    has_ticket p below has_p = has _ _ _ _ _ _ (holds.each p below).local has_p.0 has_p.1

    -- who is just behind a draw
    behind : (p : ℕ) → p < size c → (core_at s p).pc ≡ 3 → Has (slice_index_or holds.phases p none) (slice_index (core_at s p).registers 1) × (slice_index (core_at s p).registers 5 + drawn (slice_index_or holds.phases p none) ≡ rounds + 1)
    behind p below at_three =
        let here = (holds.each p below).local in
        let one = here.past_draw (omega arith) in
        ((one, here.held one), (here.after_draw (omega arith) (omega arith)).1)

    all_different : AreTicketsDifferent rounds c s
    all_different p q below under apart has_p has_q same =
        let here = has_ticket p below has_p in
        apart (holds.global.once p q (slice_index (core_at s q).registers 1) (here.0, here.1 ∙ same) (has_ticket q under has_q))

    next_greater : IsNextTicketGreater rounds c s
    next_greater p below has_p =
        let low = holds.global.below p (slice_index (core_at s p).registers 1) (has_ticket p below has_p) in
        let count = holds.global.count in
        omega arith

    all_drawn : AreAllDrawn rounds c s
    all_drawn ended =
        let many = holds.as_many in
        let each : (p : ℕ) → p < length holds.phases → drawn (slice_index_or holds.phases p none) ≡ rounds = λ p b. let below : p < size c = omega arith in let last = ended p below in (holds.each p below).local.finished (omega arith) in
        holds.global.count ∙ (sum_same holds.phases rounds each ∙ ap (λ (n : ℕ). rounds * n) many)

    -- the invariant, with the phases as they are now for the old ones
    from_here : Holds c Phase none Local (Global (sum_by drawn holds.phases) holds.phases) s
    from_here =
        let g = holds.global in
        record {
          phases = holds.phases;
          as_many = holds.as_many;
          cores = holds.cores;
          held = holds.held;
          each = λ p below. let stands = holds.each p below in record { registers = stands.registers; local = stands.local };
          global = record {
            count = g.count;
            within = g.within;
            below = g.below;
            once = g.once;
            later = omega arith;
            since = λ p. record { more = omega arith; still = λ e. refl; fresh = λ e. absurd (omega arith) };
          };
        }

  -- the ticket of one is another than that which another one has later
  others_where : (base : ℕ) (φ χ : Phase) (u v : ℕ) → u < base → Has χ v → Since base φ χ → u ≡ v → (Has φ v → ⊥) → (b : Bool) → nat_lt (drawn φ) (drawn χ) ≡ b → ⊥
  others_where base φ χ u v low h since same never true e =
      let less : drawn φ < drawn χ = grind (arith, common_steps) in
      let fresh = since.fresh less in
      let is = h.1 in
      absurd (omega arith)
  others_where base φ χ u v low h since same never false e =
      let no_less : drawn χ ≤ drawn φ = grind (arith, common_steps) in
      let more = since.more in
      let equal : drawn χ ≡ drawn φ = omega arith in
      let one = h.0 in
      never (omega arith, sym (since.still equal) ∙ h.1)

  module _ (s t : Para) (old : List Phase) (base : ℕ) (before : Holds c Phase none Local (Global base old) s) (after : Holds c Phase none Local (Global (sum_by drawn before.phases) before.phases) t) where
    twice_by_none : IsNoTicketTwice rounds c s t
    twice_by_none = record {
      others = λ p q below under apart has_p has_q same.
          let here = has_ticket base old s before p below has_p in
          let u = slice_index (core_at s p).registers 1 in
          let v = slice_index (core_at t q).registers 1 in
          others_where (sum_by drawn before.phases) (slice_index_or before.phases q none) (slice_index_or after.phases q none) u v (before.global.below p u here) (has_ticket (sum_by drawn before.phases) before.phases t after q under has_q) (after.global.since q) same
          (λ had. apart (before.global.once p q v (here.0, here.1 ∙ same) had))
          (nat_lt (drawn (slice_index_or before.phases q none)) (drawn (slice_index_or after.phases q none))) refl;
      own = λ p below at_s at_t differ.
          let here = behind base old s before p below at_s in
          let there = behind (sum_by drawn before.phases) before.phases t after p below at_t in
          let left_here = here.1 in
          let left_there = there.1 in
          let low = before.global.below p (slice_index (core_at s p).registers 1) here.0 in
          let since = after.global.since p in
          let more = since.more in
          let less : drawn (slice_index_or before.phases p none) < drawn (slice_index_or after.phases p none) = omega arith in
          let fresh = since.fresh less in
          let is = there.0.1 in
          omega arith;
    }

  -- after every schedule
  module _ (empty : c.initial ≡ []) (schedule : List ℕ) (elements : All (λ p. p < size c) schedule) where
    abbrev at_last : Para
    at_last = run_para c (ticket_rounds rounds) (start_para c) schedule

    holds_at_last : Holds c Phase none Local (Global 0 (replicate (size c) none)) at_last
    holds_at_last = always c Phase none Local (Global 0 (replicate (size c) none)) (ticket_rounds rounds) (steps 0 (replicate (size c) none)) (λ p b. at_first p) (first empty) schedule elements

    pub different_at_last : AreTicketsDifferent rounds c at_last
    different_at_last = all_different 0 (replicate (size c) none) at_last holds_at_last

    pub next_at_last : IsNextTicketGreater rounds c at_last
    next_at_last = next_greater 0 (replicate (size c) none) at_last holds_at_last

    pub drawn_at_last : AreAllDrawn rounds c at_last
    drawn_at_last = all_drawn 0 (replicate (size c) none) at_last holds_at_last

    pub twice_never : (more : List ℕ) → All (λ p. p < size c) more → IsNoTicketTwice rounds c at_last (run_para c (ticket_rounds rounds) at_last more)
    twice_never more within =
        let now = from_here 0 (replicate (size c) none) at_last holds_at_last in
        let base = sum_by drawn holds_at_last.phases in
        let old = holds_at_last.phases in
        twice_by_none at_last (run_para c (ticket_rounds rounds) at_last more) (replicate (size c) none) 0 holds_at_last
        (holds_after c Phase none Local (Global base old) (ticket_rounds rounds) (steps base old) more within at_last now)

pub different : TicketRoundsLaw
different rounds some few c ranged empty schedule elements = different_at_last rounds some few c ranged empty schedule elements

pub next_is_greater : NextTicketLaw
next_is_greater rounds some few c ranged empty schedule elements = next_at_last rounds some few c ranged empty schedule elements

pub drawn_by_all : AllDrawnLaw
drawn_by_all rounds some few c ranged empty schedule elements = drawn_at_last rounds some few c ranged empty schedule elements

pub none_twice : NoTicketTwiceLaw
none_twice rounds some few c ranged empty schedule elements more within = twice_never rounds some few c ranged empty schedule elements more within
