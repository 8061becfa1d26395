-- the barrier's invariant
use Rattle.std.proofs.Common.{◌≡◌, ◌≢◌, ℕ, suc, ◌+◌, ◌-◌, ◌<◌, ◌≤◌, ◌*◌, List, [], ◌∷◌, length, drop, Bool, true, false, refl, sym, ap, ◌∙◌, subst, add-one, arith}
use Rattle.std.specs.Prelude.{All, ◌%◌, ◌^◌, slice_set, slice_index, slice_index_or, nat_lt, sum_by, replicate, bit_and}
use Rattle.std.proofs.{lemmas.{Grind.{common_steps, get_or-set_at}, List.{get_or-set_other, set-get_or, Sums.sum_by-cons, Folds.sum_by-replicate}, Nat.{and_mask, mod-mul-add}}, Math.{ListN.length-set, Nat.{mul-suc, suc-mul, mul-le-mul_left}}}
use Rattle.ultra_msg.specs.Act.{plus}
use Rattle.ultra_isa.specs.Instruction.{minus}
use Rattle.ultra_model.specs.{Machine.{Settings, size}, Ranges.AreInRange}
use Rattle.ultra_para.specs.Para.{Para, start_para, run_para}
use Rattle.ultra_colib.proofs.Interleaving.{IsIn, unchanged, sum_changes, phase_after, replicated, few_elements, zero_at_first, Knows, stage_at, ◌▹◌, AreKept, Holds, always}
use Rattle.ultra_colib.specs.{Schedules.IsKeptBySchedules, Barrier.{barrier, AreInStep}}
use Rattle.ultra_colib.proofs.Tally.{at_phase}

-- rounds: arrivals made, begun cell, finished cell, waits passed
pub data Phase : Type 0 where
  stage : ℕ → ℕ → ℕ → ℕ → Phase

abbrev made : Phase → ℕ
made (stage m b f s) = m

abbrev begun : Phase → ℕ
begun (stage m b f s) = b

abbrev finished : Phase → ℕ
finished (stage m b f s) = f

abbrev passed : Phase → ℕ
passed (stage m b f s) = s

abbrev out : Phase
out = stage 0 0 0 0

-- a sum of numbers that are at most k
sum_within : (phases : List Phase) (k : ℕ) → ((p : ℕ) → p < length phases → made (slice_index_or phases p out) ≤ k) → sum_by made phases ≤ k * length phases
sum_within [] k h = omega arith
sum_within (φ ∷ phases) k h =
    let first : made φ ≤ k = h 0 (omega arith) in
    let rest : sum_by made phases ≤ k * length phases = sum_within phases k (λ p b. h (suc p) (omega arith)) in
    let all : sum_by made (φ ∷ phases) ≡ made φ + sum_by made phases = sum_by-cons made φ phases in
    rw (mul-suc k (length phases)) (omega arith)

-- the same, where one of them is less
sum_below : (phases : List Phase) (k q : ℕ) → ((p : ℕ) → p < length phases → made (slice_index_or phases p out) ≤ k) → q < length phases → made (slice_index_or phases q out) < k → sum_by made phases < k * length phases
sum_below phases k q h b l =
    let ψ = stage k 0 0 0 in
    let change : sum_by made (slice_set phases q ψ) + made (slice_index_or phases q out) ≡ sum_by made phases + k = sum_changes made phases q out (slice_index_or phases q out) ψ record { within = b; is = refl } in
    let long : length (slice_set phases q ψ) ≡ length phases = length-set phases q ψ in
    let most : sum_by made (slice_set phases q ψ) ≤ k * length (slice_set phases q ψ) = sum_within (slice_set phases q ψ) k
    (λ p c. phase_after (λ (p : ℕ) (χ : Phase). p < length phases → made χ ≤ k) phases q out ψ b (λ _. omega arith) (λ p d c. h p c) p (omega arith)) in
    let most2 : sum_by made (slice_set phases q ψ) ≤ k * length phases = subst (λ (n : ℕ). sum_by made (slice_set phases q ψ) ≤ k * n) long most in
    omega arith

-- the instructions that set the constants; and then in which part of a round it is
data Stage : Type 0 where
  setting : Stage
  beginning : Stage
  counted : Stage
  begun_round : Stage
  arrived_at : Stage
  masked : Stage
  rounded_off : Stage
  aimed : Stage
  waiting : Stage
  decided : Stage
  past_wait : Stage
  over : Stage
  compared : Stage

abbrev stages_of : List (ℕ × Stage)
stages_of =
    (8, setting) ∷ (9, beginning) ∷ (10, counted) ∷ (12, begun_round) ∷ (14, arrived_at) ∷ (15, masked) ∷ (16, rounded_off) ∷ (17, aimed) ∷ (19, waiting) ∷ (20, decided) ∷ (21, past_wait) ∷ (23, over) ∷ (24, compared) ∷ []

module _ (rounds : ℕ) (some : 1 ≤ rounds) (few : rounds ≤ 1000) (c : Settings) (ranged : AreInRange c) where
  pub record Ready (p r0 r2 r3 r4 r5 r6 r8 : ℕ) : Type 0 where
    pub zero : r0 ≡ 0
    pub own : r2 ≡ 8 + p
    pub number : r3 ≡ size c
    pub own_finished : r4 ≡ 8 + size c + p
    pub one : r5 ≡ 1
    pub mask : r6 ≡ size c - 1
    pub most : r8 ≡ rounds

  -- the registers that the first instructions set, the last one first
  abbrev table : ℕ → List (ℕ × ℕ)
  table p = (7, 0) ∷ (6, size c - 1) ∷ (5, 1) ∷ (4, 8 + size c + p) ∷ (3, size c) ∷ (2, 8 + p) ∷ (1, p) ∷ (0, 0) ∷ []

  abbrev IsReady : ℕ → List ℕ → Type 0
  IsReady p r = Ready p (slice_index r 0) (slice_index r 2) (slice_index r 3) (slice_index r 4) (slice_index r 5) (slice_index r 6) (slice_index r 8)

  -- between rounds
  pub record Between (r7 : ℕ) (φ : Phase) : Type 0 where
    pub within : r7 ≤ rounds
    pub phase : φ ≡ stage r7 r7 r7 r7

  -- in round j + 1
  pub record In (j r7 : ℕ) (φ : Phase) (m b s : ℕ) : Type 0 where
    pub round : r7 ≡ j + 1
    pub within : j < rounds
    pub phase : φ ≡ stage m b j s

  -- the wait has been passed, or not
  pub record Waits (j r7 r9 : ℕ) (φ : Phase) (Yes No : Type 0) : Type 0 where
    pub target : r9 ≡ j * size c + size c
    pub yes : Yes → In j r7 φ (j + 1) (j + 1) (j + 1)
    pub no : No → In j r7 φ (j + 1) (j + 1) j

  abbrev Says : Stage → ℕ → ℕ → List ℕ → Phase → Type 0
  Says setting p k r φ = Knows (drop (7 - k) (table p)) r × (φ ≡ out)
  Says beginning p k r φ = IsReady p r × (Between (slice_index r 7) φ × (slice_index r 7 < rounds))
  Says counted p k r φ = IsReady p r × ((j : ℕ) × In j (slice_index r 7) φ j j j)
  Says begun_round p k r φ = IsReady p r × ((j : ℕ) × In j (slice_index r 7) φ j (j + 1) j)
  Says arrived_at p k r φ = IsReady p r × ((j : ℕ) × In j (slice_index r 7) φ (j + 1) (j + 1) j × ((t : ℕ) × (t < size c) × (slice_index r 9 ≡ j * size c + t)))
  Says masked p k r φ = IsReady p r × ((j : ℕ) × In j (slice_index r 7) φ (j + 1) (j + 1) j × ((t : ℕ) × (t < size c) × (slice_index r 9 ≡ j * size c + t) × (slice_index r 10 ≡ t)))
  Says rounded_off p k r φ = IsReady p r × ((j : ℕ) × In j (slice_index r 7) φ (j + 1) (j + 1) j × (slice_index r 9 ≡ j * size c))
  Says aimed p k r φ = IsReady p r × ((j : ℕ) × In j (slice_index r 7) φ (j + 1) (j + 1) j × (slice_index r 9 ≡ j * size c + size c))
  Says waiting p k r φ = IsReady p r × ((j : ℕ) × Waits j (slice_index r 7) (slice_index r 9) φ (slice_index r 9 ≤ slice_index r 10) (slice_index r 10 < slice_index r 9))
  Says decided p k r φ = IsReady p r × ((j : ℕ) × Waits j (slice_index r 7) (slice_index r 9) φ (slice_index r 11 ≡ 0) (slice_index r 11 ≢ 0))
  Says past_wait p k r φ = IsReady p r × ((j : ℕ) × In j (slice_index r 7) φ (j + 1) (j + 1) (j + 1))
  Says over p k r φ = IsReady p r × Between (slice_index r 7) φ
  Says compared p k r φ = IsReady p r × (Between (slice_index r 7) φ × (slice_index r 11 ≡ 0 → slice_index r 7 < rounds))

  abbrev Local : ℕ → ℕ → List ℕ → Phase → Type 0
  Local p k r φ = Says (stage_at stages_of over k) p k r φ

  -- what holds of one processing element's phase, where n have arrived
  pub record Fair (arrived : ℕ) (φ : Phase) : Type 0 where
    pub passes : passed φ * size c ≤ arrived
    pub finishes : finished φ ≤ passed φ
    pub makes : made φ ≤ begun φ

  pub record Global (cells : List ℕ) (phases : List Phase) : Type 0 where
    pub count : slice_index cells 0 ≡ sum_by made phases
    pub begins : (p : ℕ) → p < size c → slice_index cells (8 + p) ≡ begun (slice_index_or phases p out)
    pub finishes : (p : ℕ) → p < size c → slice_index cells (8 + size c + p) ≡ finished (slice_index_or phases p out)
    pub fair : (p : ℕ) → p < size c → Fair (sum_by made phases) (slice_index_or phases p out)
    pub balanced : (p q : ℕ) → p < size c → q < size c → made (slice_index_or phases p out) ≤ made (slice_index_or phases q out) + 1

  arrived_where : (cells : List ℕ) (phases : List Phase) (k q : ℕ) → length phases ≡ size c → Global cells phases → q < size c → k * size c ≤ sum_by made phases → (b : Bool) → nat_lt (made (slice_index_or phases q out)) k ≡ b → k ≤ made (slice_index_or phases q out)
  arrived_where cells phases k q n g b l true e =
      let less : made (slice_index_or phases q out) < k = grind (arith, common_steps) in
      let low : sum_by made phases < k * length phases = sum_below phases k q (λ p u. let one = g.balanced p q (omega arith) b in omega arith) (omega arith) less in
      let low2 : sum_by made phases < k * size c = subst (λ (m : ℕ). sum_by made phases < k * m) n low in
      absurd (omega arith)
  arrived_where cells phases k q n g b l false e = grind (arith, common_steps)

  -- who has passed a wait knows that all have arrived
  arrived : (cells : List ℕ) (phases : List Phase) (k q : ℕ) → length phases ≡ size c → Global cells phases → q < size c → k * size c ≤ sum_by made phases → k ≤ made (slice_index_or phases q out)
  arrived cells phases k q n g b l = arrived_where cells phases k q n g b l (nat_lt (made (slice_index_or phases q out)) k) refl

  pub law_of : (cells : List ℕ) (phases : List Phase) (p q : ℕ) → length phases ≡ size c → Global cells phases → p < size c → q < size c → slice_index cells (8 + size c + p) ≤ slice_index cells (8 + q)
  law_of cells phases p q n g a b =
      let f = g.finishes p a in
      let s = g.begins q b in
      let k = g.fair p a in
      let m = g.fair q b in
      let low = k.finishes in
      let high = m.makes in
      let all = arrived cells phases (passed (slice_index_or phases p out)) q n g b k.passes in
      omega arith

  wide : (j : ℕ) → j < rounds → j * size c + size c ≤ 64000
  wide j l = let small = few_elements c ranged in let most : j * size c ≤ j * 64 = mul-le-mul_left j small in omega arith

  same : (cells : List ℕ) (phases : List Phase) (base p a v : ℕ) (f : Phase → ℕ) (φ ψ : Phase) → IsIn phases p out φ → ((q : ℕ) → q < size c → base + q ≢ a) → f φ ≡ f ψ → ((q : ℕ) → q < size c → slice_index cells (base + q) ≡ f (slice_index_or phases q out)) → (q : ℕ) → q < size c → slice_index (slice_set cells a v) (base + q) ≡ f (slice_index_or (slice_set phases p ψ) q out)
  same cells phases base p a v f φ ψ i far e h = phase_after (λ (q : ℕ) (χ : Phase). q < size c → slice_index (slice_set cells a v) (base + q) ≡ f χ) phases p out ψ i.within
      (λ b. rw (get_or-set_other cells a (base + p) v 0 (far p b)) (h p b ∙ ap f i.is ∙ e))
      (λ q d b. rw (get_or-set_other cells a (base + q) v 0 (far q b)) (h q b))

  put : (cells : List ℕ) (phases : List Phase) (base p a v : ℕ) (f : Phase → ℕ) (φ ψ : Phase) → IsIn phases p out φ → a < length cells → a ≡ base + p → v ≡ f ψ → ((q : ℕ) → q < size c → slice_index cells (base + q) ≡ f (slice_index_or phases q out)) → (q : ℕ) → q < size c → slice_index (slice_set cells a v) (base + q) ≡ f (slice_index_or (slice_set phases p ψ) q out)
  put cells phases base p a v f φ ψ i l e is h = phase_after (λ (q : ℕ) (χ : Phase). q < size c → slice_index (slice_set cells a v) (base + q) ≡ f χ) phases p out ψ i.within
      (λ b. get_or-set_at cells a (base + p) v 0 (sym e) l ∙ is)
      (λ q d b. let far : base + q ≢ a = omega arith in rw (get_or-set_other cells a (base + q) v 0 far) (h q b))

  fair_after : (phases : List Phase) (p : ℕ) (φ ψ : Phase) (n m : ℕ) → IsIn phases p out φ → n ≤ m → Fair m ψ → ((q : ℕ) → q < size c → Fair n (slice_index_or phases q out)) → (q : ℕ) → q < size c → Fair m (slice_index_or (slice_set phases p ψ) q out)
  fair_after phases p φ ψ n m i l f h = phase_after (λ (q : ℕ) (χ : Phase). q < size c → Fair m χ) phases p out ψ i.within (λ b. f)
      (λ q d b. let k = (h q b).passes in record { passes = omega arith; finishes = (h q b).finishes; makes = (h q b).makes })

  balanced_after : (phases : List Phase) (p : ℕ) (φ ψ : Phase) → IsIn phases p out φ → ((q : ℕ) → q < size c → made ψ ≤ made (slice_index_or phases q out) + 1) → ((q : ℕ) → q < size c → made (slice_index_or phases q out) ≤ made ψ + 1) → ((q r : ℕ) → q < size c → r < size c → made (slice_index_or phases q out) ≤ made (slice_index_or phases r out) + 1) → (q r : ℕ) → q < size c → r < size c → made (slice_index_or (slice_set phases p ψ) q out) ≤ made (slice_index_or (slice_set phases p ψ) r out) + 1
  balanced_after phases p φ ψ i low high h q r b z = phase_after (λ (q : ℕ) (χ : Phase). q < size c → made χ ≤ made (slice_index_or (slice_set phases p ψ) r out) + 1) phases p out ψ i.within
      (λ b. phase_after (λ (r : ℕ) (ξ : Phase). r < size c → made ψ ≤ made ξ + 1) phases p out ψ i.within (λ _. omega arith) (λ r d u. low r u) r z)
      (λ q d b. phase_after (λ (r : ℕ) (ξ : Phase). r < size c → made (slice_index_or phases q out) ≤ made ξ + 1) phases p out ψ i.within (λ _. high q b) (λ r d u. h q r b u) r z) q b

  -- a step that leaves the arrivals
  still : (cells : List ℕ) (phases : List Phase) (p a v : ℕ) (φ ψ : Phase) → p < size c → length phases ≡ size c → IsIn phases p out φ → Global cells phases → made φ ≡ made ψ → 0 < a
      → ((q : ℕ) → q < size c → slice_index (slice_set cells a v) (8 + q) ≡ begun (slice_index_or (slice_set phases p ψ) q out))
      → ((q : ℕ) → q < size c → slice_index (slice_set cells a v) (8 + size c + q) ≡ finished (slice_index_or (slice_set phases p ψ) q out))
      → (Fair (sum_by made phases) φ → Fair (sum_by made phases) ψ) → Global (slice_set cells a v) (slice_set phases p ψ)
  still cells phases p a v φ ψ b n i g m z bs fs f =
      let sums = sum_changes made phases p out φ ψ i in
      let total : sum_by made (slice_set phases p ψ) ≡ sum_by made phases = omega arith in
      let other : 0 ≢ a = omega arith in
      let here : made (slice_index_or phases p out) ≡ made ψ = ap made i.is ∙ m in
      record {
        count = get_or-set_other cells a 0 v 0 other ∙ g.count ∙ sym total;
        begins = bs;
        finishes = fs;
        fair = rw total (fair_after phases p φ ψ (sum_by made phases) (sum_by made phases) i (omega arith) (f (subst (λ (χ : Phase). Fair (sum_by made phases) χ) i.is (g.fair p b))) g.fair);
        balanced = balanced_after phases p φ ψ i (λ q u. let k = g.balanced p q b u in omega arith) (λ q u. let k = g.balanced q p u b in omega arith) g.balanced;
      }

  begins : (cells : List ℕ) (phases : List Phase) (p a v j : ℕ) → p < size c → length phases ≡ size c → IsIn phases p out (stage j j j j) → a < length cells → a ≡ 8 + p → v ≡ j + 1 → Global cells phases → Global (slice_set cells a v) (slice_set phases p (stage j (j + 1) j j))
  begins cells phases p a v j b n i l e is g = still cells phases p a v (stage j j j j) (stage j (j + 1) j j) b n i g refl (omega arith)
      (put cells phases 8 p a v begun (stage j j j j) (stage j (j + 1) j j) i l e is g.begins)
      (same cells phases (8 + size c) p a v finished (stage j j j j) (stage j (j + 1) j j) i (λ q u. omega arith) refl g.finishes)
      (λ f. let k = f.passes in record { passes = k; finishes = omega arith; makes = omega arith })

  finishes : (cells : List ℕ) (phases : List Phase) (p a v j : ℕ) → p < size c → length phases ≡ size c → IsIn phases p out (stage (j + 1) (j + 1) j (j + 1)) → a < length cells → a ≡ 8 + size c + p → v ≡ j + 1 → Global cells phases → Global (slice_set cells a v) (slice_set phases p (stage (j + 1) (j + 1) (j + 1) (j + 1)))
  finishes cells phases p a v j b n i l e is g = still cells phases p a v (stage (j + 1) (j + 1) j (j + 1)) (stage (j + 1) (j + 1) (j + 1) (j + 1)) b n i g refl (omega arith)
      (same cells phases 8 p a v begun (stage (j + 1) (j + 1) j (j + 1)) (stage (j + 1) (j + 1) (j + 1) (j + 1)) i (λ q u. omega arith) refl g.begins)
      (put cells phases (8 + size c) p a v finished (stage (j + 1) (j + 1) j (j + 1)) (stage (j + 1) (j + 1) (j + 1) (j + 1)) i l e is g.finishes)
      (λ f. let k = f.passes in record { passes = k; finishes = omega arith; makes = omega arith })

  -- the arrival: the old count is between that of the last round and that of this one
  arrives : (cells : List ℕ) (phases : List Phase) (p a e j : ℕ) → p < size c → length phases ≡ size c → j < rounds → IsIn phases p out (stage j (j + 1) j j) → a < length cells → a ≡ 0 → e ≡ 1 → Global cells phases → (t : ℕ) × (t < size c) × (slice_index cells a ≡ j * size c + t) × Global (slice_set cells a (plus (slice_index cells a) e)) (slice_set phases p (stage (j + 1) (j + 1) j j))
  arrives cells phases p a e j b n r i l z o g =
      let sums : sum_by made (slice_set phases p (stage (j + 1) (j + 1) j j)) + j ≡ sum_by made phases + (j + 1) = sum_changes made phases p out (stage j (j + 1) j j) (stage (j + 1) (j + 1) j j) i in
      let was = g.count in
      let here : slice_index cells a ≡ slice_index cells 0 = ap (slice_index cells) z in
      let own : made (slice_index_or phases p out) ≡ j = ap made i.is in
      let fair : Fair (sum_by made phases) (stage j (j + 1) j j) = subst (λ (χ : Phase). Fair (sum_by made phases) χ) i.is (g.fair p b) in
      let low : j * size c ≤ sum_by made phases = fair.passes in
      let below : sum_by made phases < (j + 1) * length phases = sum_below phases (j + 1) p (λ q u. let k = g.balanced q p (omega arith) b in omega arith) i.within (omega arith) in
      let product : (j + 1) * size c ≡ j * size c + size c = rw (add-one j) (suc-mul j (size c)) in
      let high : sum_by made phases < (j + 1) * size c = subst (λ (m : ℕ). sum_by made phases < (j + 1) * m) n below in
      let big = wide j r in
      let value : plus (slice_index cells a) e ≡ sum_by made phases + 1 = omega arith in
      let zero : 0 ≡ a = sym z in (
        sum_by made phases - j * size c,
        (omega arith),
        (omega arith),
        record {
          count = get_or-set_at cells a 0 _ 0 zero l ∙ (value ∙ omega arith);
          begins = same cells phases 8 p a _ begun (stage j (j + 1) j j) (stage (j + 1) (j + 1) j j) i (λ q u. omega arith) refl g.begins;
          finishes = same cells phases (8 + size c) p a _ finished (stage j (j + 1) j j) (stage (j + 1) (j + 1) j j) i (λ q u. omega arith) refl g.finishes;
          fair = fair_after phases p (stage j (j + 1) j j) (stage (j + 1) (j + 1) j j) (sum_by made phases) _ i (omega arith) record { passes = omega arith; finishes = omega arith; makes = omega arith } g.fair;
          balanced = balanced_after phases p (stage j (j + 1) j j) (stage (j + 1) (j + 1) j j) i (λ q u. let k = arrived cells phases j q n g u low in omega arith) (λ q u. let k = g.balanced q p u b in omega arith) g.balanced;
        },
      )

  -- the wait is passed
  passes : (cells : List ℕ) (phases : List Phase) (p j : ℕ) → p < size c → length phases ≡ size c → IsIn phases p out (stage (j + 1) (j + 1) j j) → j * size c + size c ≤ slice_index cells 0 → Global cells phases → Global cells (slice_set phases p (stage (j + 1) (j + 1) j (j + 1)))
  passes cells phases p j b n i l g =
      let was = g.count in
      let product : (j + 1) * size c ≡ j * size c + size c = rw (add-one j) (suc-mul j (size c)) in
      subst (λ (cs : List ℕ). Global cs (slice_set phases p (stage (j + 1) (j + 1) j (j + 1)))) (set-get_or cells 1 0)
      (still cells phases p 1 (slice_index cells 1) (stage (j + 1) (j + 1) j j) (stage (j + 1) (j + 1) j (j + 1)) b n i g refl (omega arith)
      (same cells phases 8 p 1 (slice_index cells 1) begun (stage (j + 1) (j + 1) j j) (stage (j + 1) (j + 1) j (j + 1)) i (λ q u. omega arith) refl g.begins)
      (same cells phases (8 + size c) p 1 (slice_index cells 1) finished (stage (j + 1) (j + 1) j j) (stage (j + 1) (j + 1) j (j + 1)) i (λ q u. omega arith) refl g.finishes)
      (λ f. record { passes = omega arith; finishes = omega arith; makes = omega arith }))

  waits : (cells : List ℕ) (phases : List Phase) (p j r7 r9 a : ℕ) (φ : Phase) → p < size c → length phases ≡ size c → IsIn phases p out φ → In j r7 φ (j + 1) (j + 1) j → r9 ≡ j * size c + size c → a ≡ 0 → Global cells phases → (b : Bool) → nat_lt (slice_index cells a) r9 ≡ b
      → (ψ : Phase) × Waits j r7 r9 ψ (r9 ≤ slice_index cells a) (slice_index cells a < r9) × Global cells (slice_set phases p ψ)
  waits cells phases p j r7 r9 a φ b n i w t z g true e =
      let less : slice_index cells a < r9 = grind (arith, common_steps) in
      (φ, record { target = t; yes = λ h. absurd (omega arith); no = λ h. w }, rw (unchanged phases p out φ i) g)
  waits cells phases p j r7 r9 a φ b n i w t z g false e =
      let more : r9 ≤ slice_index cells a = grind (arith, common_steps) in
      let here : slice_index cells a ≡ slice_index cells 0 = ap (slice_index cells) z in
      (stage (j + 1) (j + 1) j (j + 1), record { target = t; yes = λ h. record { round = w.round; within = w.within; phase = refl }; no = λ h. absurd (omega arith) }, passes cells phases p j b n (at_phase w.phase i) (omega arith) g)

  low_bits : (v m j t : ℕ) → m ≡ size c - 1 → v ≡ j * size c + t → t < size c → bit_and v m ≡ t
  low_bits v m j t e f l =
      let mask : m ≡ 2 ^ c.stages - 1 = e in
      rw mask (and_mask v c.stages ∙ ((ap (λ (n : ℕ). n % size c) f ∙ mod-mul-add j (size c) t l)))

  rounded : (v w j t : ℕ) → j < rounds → t < size c → v ≡ j * size c + t → w ≡ t → minus v w ≡ j * size c
  rounded v w j t r l e f = let big = wide j r in omega arith

  raised : (v w j : ℕ) → j < rounds → v ≡ j * size c → w ≡ size c → plus v w ≡ j * size c + size c
  raised v w j r e f = let big = wide j r in omega arith

  steps : AreKept c Phase out Local Global 0 (barrier rounds)
  steps =
      (λ p b x φ h. ((refl, h.0), h.1))
      ▹ (λ p b x φ h. let small = few_elements c ranged in ((omega arith, h.0), h.1))
      ▹ (λ p b x φ h. ((refl, h.0), h.1))
      ▹ (λ p b x φ h. let small = few_elements c ranged in ((omega arith, h.0), h.1))
      ▹ (λ p b x φ h. ((refl, h.0), h.1))
      ▹ (λ p b x φ h. let small = few_elements c ranged in ((omega arith, h.0), h.1))
      ▹ (λ p b x φ h. ((refl, h.0), h.1))
      ▹ (λ p b x φ h. let k = h.0 in (record { zero = k.1.1.1.1.1.1.1.0; own = k.1.1.1.1.1.0; number = k.1.1.1.1.0; own_finished = k.1.1.1.0; one = k.1.1.0; mask = k.1.0; most = refl }, (record { within = omega arith; phase = h.1 ∙ ap (λ (n : ℕ). stage n n n n) (sym k.0) }, (let zero : x.r7 ≡ 0 = k.0 in omega arith))))
      -- round
      ▹ (λ p b x φ h. let k = h.1.0.within in let l = h.1.1 in (h.0, (x.r7, record { round = omega arith; within = l; phase = h.1.0.phase })))
      ▹ (λ p b x φ h cells phases n i l g. let j = h.1.0 in let w = h.1.1 in (stage j (j + 1) j j, (h.0, (j, record { round = w.round; within = w.within; phase = refl })), begins cells phases p x.r2 x.r7 j b n (at_phase w.phase i) l h.0.own w.round g))
      ▹ (λ p b x φ h. h)
      ▹ (λ p b x φ h cells phases n i l g. let j = h.1.0 in let w = h.1.1 in let r = arrives cells phases p x.r0 x.r5 j b n w.within (at_phase w.phase i) l h.0.zero h.0.one g in (stage (j + 1) (j + 1) j j, (h.0, (j, record { round = w.round; within = w.within; phase = refl }, (r.0, r.1, r.2))), r.3))
      ▹ (λ p b x φ h. h)
      ▹ (λ p b x φ h. (h.0, (h.1.0, h.1.1, (h.1.2.0, h.1.2.1, h.1.2.2, low_bits x.r9 x.r6 h.1.0 h.1.2.0 h.0.mask h.1.2.2 h.1.2.1))))
      ▹ (λ p b x φ h. (h.0, (h.1.0, h.1.1, rounded x.r9 x.r10 h.1.0 h.1.2.0 h.1.1.within h.1.2.1 h.1.2.2 h.1.2.3)))
      ▹ (λ p b x φ h. (h.0, (h.1.0, h.1.1, raised x.r9 x.r3 h.1.0 h.1.1.within h.1.2 h.0.number)))
      -- wait
      ▹ (λ p b x φ h cells phases n i l g. let r = waits cells phases p h.1.0 x.r7 x.r9 x.r0 φ b n i h.1.1 h.1.2 h.0.zero g (nat_lt (slice_index cells x.r0) x.r9) refl in (r.0, (h.0, (h.1.0, r.1)), r.2))
      ▹ (λ p b x φ h. h)
      ▹ (λ p b x φ h. let w = h.1.1 in (λ e. (h.0, (h.1.0, record { target = w.target; yes = λ z. absurd (omega arith); no = λ z. w.no e })), λ e. (h.0, (h.1.0, record { target = w.target; yes = λ z. w.yes e; no = λ z. absurd (z refl) }))))
      ▹ (λ p b x φ h. let w = h.1.1 in (λ e. (h.0, (h.1.0, w.yes e)), λ e. (h.0, (h.1.0, w.no e, w.target))))
      ▹ (λ p b x φ h cells phases n i l g. let j = h.1.0 in let w = h.1.1 in let m = w.within in (stage (j + 1) (j + 1) (j + 1) (j + 1), (h.0, record { within = omega (arith, w.round); phase = rw (w.round) refl }), finishes cells phases p x.r4 x.r7 j b n (at_phase w.phase i) l h.0.own_finished w.round g))
      ▹ (λ p b x φ h. h)
      ▹ (λ p b x φ h. let k = h.1.within in (λ e. (h.0, (h.1, λ z. absurd (omega arith))), λ e. (h.0, (h.1, λ z. let m = h.0.most in omega arith))))
      ▹ (λ p b x φ h. (λ e. (h.0, (h.1.0, h.1.1 e)), λ e. (h.0, h.1.0)))
      ▹ (λ p b x φ h. tt)
      ▹ tt

  first : c.initial ≡ [] → Global (start_para c).cells (replicate (size c) out)
  first empty =
      let s : sum_by made (replicate (size c) out) ≡ size c * 0 = sum_by-replicate made (size c) out in
      let z = zero_at_first c empty 0 in
      record {
        count = omega arith;
        begins = λ p b. zero_at_first c empty (8 + p) ∙ sym (ap begun (replicated (size c) p out));
        finishes = λ p b. zero_at_first c empty (8 + size c + p) ∙ sym (ap finished (replicated (size c) p out));
        fair = λ p b. rw (replicated (size c) p out) record { passes = omega arith; finishes = omega arith; makes = omega arith };
        balanced = λ p q b d. rw (replicated (size c) p out, replicated (size c) q out) (omega arith);
      }

  law : (s : Para) → Holds c Phase out Local Global s → AreInStep (size c) (slice_index s.cells)
  law s h p q a b = law_of s.cells h.phases p q h.as_many h.global a b

  pub in_step : c.initial ≡ [] → (schedule : List ℕ) → All (λ p. p < size c) schedule → AreInStep (size c) (slice_index (run_para c (barrier rounds) (start_para c) schedule).cells)
  in_step empty schedule elements =
      law _ (always c Phase out Local Global (barrier rounds) steps (λ p b. ((refl, tt), refl)) (first empty) schedule elements)

pub kept : (rounds : ℕ) → 1 ≤ rounds → rounds ≤ 1000 → IsKeptBySchedules (barrier rounds) AreInStep
kept rounds some few c ranged empty schedule elements = in_step rounds some few c ranged empty schedule elements
