-- the invariant of the readers and writers
use Rattle.std.proofs.Common.{◌≡◌, ◌≢◌, ℕ, ◌+◌, ◌-◌, ◌<◌, ◌≤◌, ◌*◌, List, [], ◌∷◌, length, drop, Bool, true, false, refl, sym, ap, ◌∙◌, arith}
use Rattle.std.specs.Prelude.{slice_set, slice_index, slice_index_or, nat_lt, ◌==◌, sum_by, replicate}
use Rattle.std.proofs.{lemmas.{Grind.common_steps, List.{Sums.{sum_by-le-sum_by, sum_by-le, get_or-le-sum_by}, Folds.sum_by-replicate}}, Math.ListN.length-set}
use Rattle.ultra_msg.specs.Act.{plus}
use Rattle.ultra_model.specs.{Machine.{Settings, size}, Ranges.AreInRange}
use Rattle.ultra_para.specs.Para.{Para, start_para}
use Rattle.ultra_colib.proofs.Interleaving.{IsIn, sum_changes, within_sum, phase_after, few_elements, Knows, stage_at, ◌▹◌, AreKept, Holds, always}
use Rattle.ultra_colib.specs.{Schedules.IsKeptBySchedules, ReadersWriters.{readers_writers, AreWritersAlone}}
use Rattle.ultra_colib.proofs.Tally.{at_phase, two_within_sum, sum_at_most_one, Tally, counts, raises, tally_at_first}

-- not counted; as a reader, then as a writer: about to undo, inside, inside with its flag up
pub data Phase : Type 0 where
  outside : Phase
  read_trying : Phase
  reading : Phase
  read_raised : Phase
  write_trying : Phase
  writing : Phase
  write_raised : Phase

abbrev counted : Phase → ℕ
counted outside = 0
counted read_trying = 1
counted reading = 1
counted read_raised = 1
counted write_trying = 65536
counted writing = 65536
counted write_raised = 65536

-- a reader inside takes one of 64 shares, a writer all of them
abbrev shares : Phase → ℕ
shares outside = 0
shares read_trying = 0
shares reading = 1
shares read_raised = 1
shares write_trying = 0
shares writing = 64
shares write_raised = 64

abbrev flag : Phase → ℕ
flag outside = 0
flag read_trying = 0
flag reading = 0
flag read_raised = 1
flag write_trying = 0
flag writing = 0
flag write_raised = 2

counted_small : (φ : Phase) → counted φ ≤ 65536
counted_small outside = omega arith
counted_small read_trying = omega arith
counted_small reading = omega arith
counted_small read_raised = omega arith
counted_small write_trying = omega arith
counted_small writing = omega arith
counted_small write_raised = omega arith

shares_counted : (φ : Phase) → shares φ ≤ counted φ
shares_counted outside = omega arith
shares_counted read_trying = omega arith
shares_counted reading = omega arith
shares_counted read_raised = omega arith
shares_counted write_trying = omega arith
shares_counted writing = omega arith
shares_counted write_raised = omega arith

lone : (φ : Phase) → counted φ < 65536 → shares φ ≤ 1
lone outside h = omega arith
lone read_trying h = omega arith
lone reading h = omega arith
lone read_raised h = omega arith
lone write_trying h = omega arith
lone writing h = omega arith
lone write_raised h = omega arith

whole : (φ : Phase) → flag φ ≡ 2 → 64 ≤ shares φ
whole outside h = omega arith
whole read_trying h = omega arith
whole reading h = omega arith
whole read_raised h = omega arith
whole write_trying h = omega arith
whole writing h = omega arith
whole write_raised h = omega arith

part : (φ : Phase) → flag φ ≤ 2 * shares φ
part outside = omega arith
part read_trying = omega arith
part reading = omega arith
part read_raised = omega arith
part write_trying = omega arith
part writing = omega arith
part write_raised = omega arith

-- the registers that stay
pub record Ready (p r0 r2 r3 r4 r10 r11 r12 : ℕ) : Type 0 where
  pub zero : r0 ≡ 0
  pub own : r2 ≡ 8 + p
  pub one : r3 ≡ 1
  pub many : r4 ≡ 65536
  pub back : r10 ≡ 4294967295
  pub two : r11 ≡ 2
  pub many_back : r12 ≡ 4294901760

-- a choice by the old count, or by the register that says how it went
pub record Chosen (Yes No : Type 0) (φ yes no : Phase) : Type 0 where
  pub taken : Yes → φ ≡ yes
  pub left : No → φ ≡ no

-- the instructions that set the constants, and what is known of the phase from then on
data Stage : Type 0 where
  setting : Stage
  in_phase : Phase → Stage
  read_tested : Stage
  read_decided : Stage
  write_tested : Stage

abbrev stages : List (ℕ × Stage)
stages =
    (9, setting) ∷ (12, in_phase outside) ∷ (14, read_tested) ∷ (15, read_decided) ∷ (16, in_phase read_trying) ∷ (18, in_phase outside) ∷ (19, in_phase reading) ∷ (21, in_phase read_raised) ∷ (23, in_phase reading)
    ∷ (28, in_phase outside) ∷ (30, write_tested) ∷ (31, in_phase write_trying) ∷ (33, in_phase outside) ∷ (34, in_phase writing) ∷ (36, in_phase write_raised) ∷ (38, in_phase writing) ∷ []

module _ (writers rounds : ℕ) where
  -- the registers that the first instructions set, the last one first
  abbrev table : ℕ → List (ℕ × ℕ)
  table p = (12, 4294901760) ∷ (11, 2) ∷ (10, 4294967295) ∷ (6, writers) ∷ (5, rounds) ∷ (4, 65536) ∷ (3, 1) ∷ (2, 8 + p) ∷ (1, p) ∷ (0, 0) ∷ []

  abbrev IsReady : ℕ → List ℕ → Type 0
  IsReady p r = Ready p (slice_index r 0) (slice_index r 2) (slice_index r 3) (slice_index r 4) (slice_index r 10) (slice_index r 11) (slice_index r 12)

  abbrev Says : Stage → ℕ → ℕ → List ℕ → Phase → Type 0
  Says setting p k r φ = Knows (drop (9 - k) (table p)) r × (φ ≡ outside)
  Says (in_phase ψ) p k r φ = IsReady p r × (φ ≡ ψ)
  Says read_tested p k r φ = IsReady p r × Chosen (slice_index r 8 < 65536) (65536 ≤ slice_index r 8) φ reading read_trying
  Says read_decided p k r φ = IsReady p r × Chosen (slice_index r 9 ≢ 0) (slice_index r 9 ≡ 0) φ reading read_trying
  Says write_tested p k r φ = IsReady p r × Chosen (slice_index r 8 ≡ 0) (slice_index r 8 ≢ 0) φ writing write_trying

  abbrev Local : ℕ → ℕ → List ℕ → Phase → Type 0
  Local p k r φ = Says (stage_at stages (in_phase outside) k) p k r φ

  pub record Global (cells : List ℕ) (phases : List Phase) : Type 0 where
    pub tally : Tally Phase outside counted flag cells phases
    pub alone : sum_by shares phases ≤ 64

  module _ (c : Settings) (ranged : AreInRange c) where
    -- the count is small
    few : (cells : List ℕ) (phases : List Phase) → length phases ≡ size c → Global cells phases → slice_index cells 0 ≤ 4194304
    few cells phases n g =
        let was = g.tally.count in
        let small = few_elements c ranged in
        let most : sum_by counted phases ≤ length phases * 65536 = sum_by-le counted 65536 phases (λ k d b. counted_small _) in
        omega arith

    -- an addition
    adds : (p : ℕ) (cells : List ℕ) (phases : List Phase) (φ ψ : Phase) (a e : ℕ) → length phases ≡ size c → IsIn phases p outside φ → a < length cells → a ≡ 0 → e + counted φ ≡ counted ψ → flag φ ≡ flag ψ → sum_by shares (slice_set phases p ψ) ≤ 64 → Global cells phases → Global (slice_set cells a (plus (slice_index cells a) e)) (slice_set phases p ψ)
    adds p cells phases φ ψ a e n i l z k f alone g =
        let here : slice_index cells a ≡ slice_index cells 0 = ap (slice_index cells) z in
        let small = few cells phases n g in
        let one = counted_small ψ in
        record { tally = counts Phase outside counted flag cells phases p a _ φ ψ g.tally i l z (omega arith) f; alone = alone }

    -- a subtraction
    leaves : (p : ℕ) (cells : List ℕ) (phases : List Phase) (φ : Phase) (a e : ℕ) → length phases ≡ size c → IsIn phases p outside φ → a < length cells → a ≡ 0 → e + counted φ ≡ 4294967296 → flag φ ≡ 0 → Global cells phases → Global (slice_set cells a (plus (slice_index cells a) e)) (slice_set phases p outside)
    leaves p cells phases φ a e n i l z k f g =
        let here : slice_index cells a ≡ slice_index cells 0 = ap (slice_index cells) z in
        let small = few cells phases n g in
        let was = g.tally.count in
        let own = within_sum counted phases p outside φ i in
        let one = counted_small φ in
        let alone = g.alone in
        let less = sum_changes shares phases p outside φ outside i in
        record { tally = counts Phase outside counted flag cells phases p a _ φ outside g.tally i l z (omega arith) f; alone = omega arith }

    -- a flag goes up or down
    flags : (p : ℕ) (cells : List ℕ) (phases : List Phase) (φ ψ : Phase) (a v : ℕ) → IsIn phases p outside φ → a < length cells → a ≡ 8 + p → v ≡ flag ψ → counted φ ≡ counted ψ → shares φ ≡ shares ψ → Global cells phases → Global (slice_set cells a v) (slice_set phases p ψ)
    flags p cells phases φ ψ a v i l e f k o g =
        let alone = g.alone in
        let same = sum_changes shares phases p outside φ ψ i in
        record { tally = raises Phase outside counted flag cells phases p a v φ ψ g.tally i l e f k; alone = omega arith }

    reads : (p : ℕ) (cells : List ℕ) (phases : List Phase) (a e : ℕ) → length phases ≡ size c → IsIn phases p outside outside → a < length cells → a ≡ 0 → e ≡ 1 → Global cells phases → (b : Bool) → nat_lt (slice_index cells a) 65536 ≡ b → (ψ : Phase) × Chosen (slice_index cells a < 65536) (65536 ≤ slice_index cells a) ψ reading read_trying × Global (slice_set cells a (plus (slice_index cells a) e)) (slice_set phases p ψ)
    reads p cells phases a e n i l z o g true t =
        let low : slice_index cells a < 65536 = grind (arith, common_steps) in
        let here : slice_index cells a ≡ slice_index cells 0 = ap (slice_index cells) z in
        let was = g.tally.count in
        let small = few_elements c ranged in
        let long : length (slice_set phases p reading) ≡ length phases = length-set phases p reading in
        let ones : sum_by shares (slice_set phases p reading) ≤ length (slice_set phases p reading) = sum_at_most_one shares (slice_set phases p reading) outside
        (λ q b. phase_after (λ (q : ℕ) (χ : Phase). q < length phases → shares χ ≤ 1) phases p outside reading i.within (λ b. omega arith)
        (λ q d b. let part : counted (slice_index_or phases q outside) ≤ sum_by counted phases = get_or-le-sum_by counted phases q outside b in lone _ (omega arith)) q (omega arith)) in
        (reading, record { taken = λ h. refl; left = λ h. absurd (omega arith) }, adds p cells phases outside reading a e n i l z (omega arith) refl (omega arith) g)
    reads p cells phases a e n i l z o g false t =
        let high : 65536 ≤ slice_index cells a = grind (arith, common_steps) in
        let alone = g.alone in
        let same = sum_changes shares phases p outside outside read_trying i in
        (read_trying, record { taken = λ h. absurd (omega arith); left = λ h. refl }, adds p cells phases outside read_trying a e n i l z (omega arith) refl (omega arith) g)

    writes : (p : ℕ) (cells : List ℕ) (phases : List Phase) (a e : ℕ) → length phases ≡ size c → IsIn phases p outside outside → a < length cells → a ≡ 0 → e ≡ 65536 → Global cells phases → (b : Bool) → (slice_index cells a == 0) ≡ b → (ψ : Phase) × Chosen (slice_index cells a ≡ 0) (slice_index cells a ≢ 0) ψ writing write_trying × Global (slice_set cells a (plus (slice_index cells a) e)) (slice_set phases p ψ)
    writes p cells phases a e n i l z o g true t =
        let none : slice_index cells a ≡ 0 = grind (arith, common_steps) in
        let here : slice_index cells a ≡ slice_index cells 0 = ap (slice_index cells) z in
        let was = g.tally.count in
        let less : sum_by shares phases ≤ sum_by counted phases = sum_by-le-sum_by shares counted phases shares_counted in
        let more = sum_changes shares phases p outside outside writing i in
        (writing, record { taken = λ h. refl; left = λ h. absurd (h none) }, adds p cells phases outside writing a e n i l z (omega arith) refl (omega arith) g)
    writes p cells phases a e n i l z o g false t =
        let some : slice_index cells a ≢ 0 = grind (arith, common_steps) in
        let alone = g.alone in
        let same = sum_changes shares phases p outside outside write_trying i in
        (write_trying, record { taken = λ h. absurd (some h); left = λ h. refl }, adds p cells phases outside write_trying a e n i l z (omega arith) refl (omega arith) g)

    steps : AreKept c Phase outside Local Global 0 (readers_writers writers rounds)
    steps =
        (λ p b x φ h. ((refl, h.0), h.1))
        ▹ (λ p b x φ h. let small = few_elements c ranged in ((omega arith, h.0), h.1))
        ▹ (λ p b x φ h. ((refl, h.0), h.1))
        ▹ (λ p b x φ h. ((refl, h.0), h.1))
        ▹ (λ p b x φ h. ((refl, h.0), h.1))
        ▹ (λ p b x φ h. ((refl, h.0), h.1))
        ▹ (λ p b x φ h. ((refl, h.0), h.1))
        ▹ (λ p b x φ h. ((refl, h.0), h.1))
        ▹ (λ p b x φ h. let k = h.0 in (record { zero = k.1.1.1.1.1.1.1.1.0; own = k.1.1.1.1.1.1.0; one = k.1.1.1.1.1.0; many = k.1.1.1.1.0; back = k.1.0; two = k.0; many_back = rw (k.1.1.1.1.1.1.1.1.0, k.1.1.1.1.0) refl }, h.1))
        ▹ (λ p b x φ h. (λ e. h, λ e. h))
        ▹ (λ p b x φ h. (λ e. h, λ e. h))
        -- read
        ▹ (λ p b x φ h cells phases n i l g. let e = reads p cells phases x.r0 x.r3 n (at_phase h.1 i) l h.0.zero h.0.one g (nat_lt (slice_index cells x.r0) 65536) refl in (e.0, (h.0, e.1), e.2))
        ▹ (λ p b x φ h. h)
        ▹ (λ p b x φ h. (λ e. (h.0, record { taken = λ z. h.1.taken (rw (← h.0.many) e); left = λ z. absurd (omega arith) }), λ e. (h.0, record { taken = λ z. absurd (z refl); left = λ z. h.1.left (rw (← h.0.many) e) })))
        ▹ (λ p b x φ h. (λ e. (h.0, h.1.left e), λ e. (h.0, h.1.taken e)))
        ▹ (λ p b x φ h cells phases n i l g. (outside, (h.0, refl), leaves p cells phases read_trying x.r0 x.r10 n (at_phase h.1 i) l h.0.zero (rw h.0.back refl) refl g))
        ▹ (λ p b x φ h. h)
        ▹ (λ p b x φ h. h)
        -- reading
        ▹ (λ p b x φ h cells phases n i l g. (read_raised, (h.0, refl), flags p cells phases reading read_raised x.r2 x.r3 (at_phase h.1 i) l h.0.own h.0.one refl refl g))
        ▹ (λ p b x φ h. h)
        ▹ (λ p b x φ h cells phases n i l g. (reading, (h.0, refl), flags p cells phases read_raised reading x.r2 x.r0 (at_phase h.1 i) l h.0.own h.0.zero refl refl g))
        ▹ (λ p b x φ h. h)
        ▹ (λ p b x φ h cells phases n i l g. (outside, (h.0, refl), leaves p cells phases reading x.r0 x.r10 n (at_phase h.1 i) l h.0.zero (rw h.0.back refl) refl g))
        ▹ (λ p b x φ h. h)
        ▹ (λ p b x φ h. h)
        ▹ (λ p b x φ h. (λ e. h, λ e. h))
        ▹ (λ p b x φ h. tt)
        -- write
        ▹ (λ p b x φ h cells phases n i l g. let e = writes p cells phases x.r0 x.r4 n (at_phase h.1 i) l h.0.zero h.0.many g (slice_index cells x.r0 == 0) refl in (e.0, (h.0, e.1), e.2))
        ▹ (λ p b x φ h. h)
        ▹ (λ p b x φ h. (λ e. (h.0, h.1.taken e), λ e. (h.0, h.1.left e)))
        ▹ (λ p b x φ h cells phases n i l g. (outside, (h.0, refl), leaves p cells phases write_trying x.r0 x.r12 n (at_phase h.1 i) l h.0.zero (rw h.0.many_back refl) refl g))
        ▹ (λ p b x φ h. h)
        ▹ (λ p b x φ h. h)
        -- writing
        ▹ (λ p b x φ h cells phases n i l g. (write_raised, (h.0, refl), flags p cells phases writing write_raised x.r2 x.r11 (at_phase h.1 i) l h.0.own h.0.two refl refl g))
        ▹ (λ p b x φ h. h)
        ▹ (λ p b x φ h cells phases n i l g. (writing, (h.0, refl), flags p cells phases write_raised writing x.r2 x.r0 (at_phase h.1 i) l h.0.own h.0.zero refl refl g))
        ▹ (λ p b x φ h. h)
        ▹ (λ p b x φ h cells phases n i l g. (outside, (h.0, refl), leaves p cells phases writing x.r0 x.r12 n (at_phase h.1 i) l h.0.zero (rw h.0.many_back refl) refl g))
        ▹ (λ p b x φ h. h)
        ▹ (λ p b x φ h. h)
        ▹ (λ p b x φ h. (λ e. h, λ e. h))
        ▹ (λ p b x φ h. tt)
        ▹ tt

    first : c.initial ≡ [] → Global (start_para c).cells (replicate (size c) outside)
    first empty =
        let s : sum_by shares (replicate (size c) outside) ≡ size c * 0 = sum_by-replicate shares (size c) outside in
        record { tally = tally_at_first Phase outside counted flag c empty refl refl; alone = omega arith }

    -- a writer inside has all shares
    law : (s : Para) → Holds c Phase outside Local Global s → AreWritersAlone (size c) (slice_index s.cells)
    law s h p q a b d two =
        let m = h.as_many in
        let g = h.global in
        let alone = g.alone in
        let here = g.tally.flags p in
        let there = g.tally.flags q in
        let full = whole (slice_index_or h.phases p outside) (sym here ∙ two) in
        let rest = part (slice_index_or h.phases q outside) in
        let both = two_within_sum shares h.phases p q outside (slice_index_or h.phases p outside) (slice_index_or h.phases q outside) refl d record { within = omega arith; is = refl } record { within = omega arith; is = refl } in
        omega arith

  pub kept : IsKeptBySchedules (readers_writers writers rounds) AreWritersAlone
  kept c ranged empty schedule elements =
      law c ranged _ (always c Phase outside Local Global (readers_writers writers rounds) (steps c ranged) (λ p b. ((refl, tt), refl)) (first c ranged empty) schedule elements)
