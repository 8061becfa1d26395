-- Invariants of a program on the paracomputer, whatever the schedule. They say what holds at each
-- place of the program, and what holds of the cells and of the phases that the processing elements
-- are in.
use Rattle.std.proofs.Common.{◌≡◌, ◌≢◌, ℕ, zero, suc, ◌+◌, ◌*◌, ◌<◌, ◌≤◌, List, [], ◌∷◌, length, Bool, true, false, refl, sym, ap, ◌∙◌, subst, arith}
use Rattle.std.specs.Prelude.{All, Option, Some, None, slice_get, slice_set, slice_index, slice_index_or, sum_by, nat_lt, ◌==◌, ◌/◌, ◌^◌, bit_and, if◌then◌else◌, replicate}
use Rattle.std.proofs.{lemmas.{Bool.eq-eqb, Grind.common_steps, List.{get_or-set_same, get_or-set_other, set-get_or, get_or-replicate, get_or_past, Sums.{sum_by-set, get_or-le-sum_by}}}, Math.{ListN.length-set, Pow.pow_mono}}
use Rattle.ultra_msg.specs.{declared.{Op.Op, Reply.Reply}, Act.{plus, act}}
use Rattle.ultra_msg.specs.declared.Op.TheVariants as op
use Rattle.ultra_msg.specs.declared.Reply.TheVariants as reply
use Rattle.ultra_pni.specs.Interface.{empty_interface, target_of}
use Rattle.ultra_isa.specs.{declared.{Instr.Instr, Activity.Activity}, Instruction.minus}
use Rattle.ultra_isa.specs.declared.Instr.TheVariants.{Set, Add, AddWord, Subtract, And, ShiftRight, IsBelow, IsEqual, JumpIfZero, JumpIfNotZero, Jump, Number, Size, Load, Store, Faa, Swap, Fence, Halt}
use Rattle.ultra_isa.specs.declared.Activity.TheVariants as activity
use Rattle.ultra_isa.specs.Step.{Core, fresh_core, StepResult, refers_where, runs, runs_as, received}
use Rattle.ultra_model.specs.{Machine.{Settings, size, site, given_value}, Ranges.AreInRange}
use Rattle.ultra_model.proofs.Each.{places_at, length-places}
use Rattle.ultra_para.specs.Para.{Para, core_at, core_answered, start_para, after_alone, para_step, run_para}

-- sixteen registers
pub record Sixteen : Type 0 where
  pub r0 : ℕ
  pub r1 : ℕ
  pub r2 : ℕ
  pub r3 : ℕ
  pub r4 : ℕ
  pub r5 : ℕ
  pub r6 : ℕ
  pub r7 : ℕ
  pub r8 : ℕ
  pub r9 : ℕ
  pub r10 : ℕ
  pub r11 : ℕ
  pub r12 : ℕ
  pub r13 : ℕ
  pub r14 : ℕ
  pub r15 : ℕ

abbrev pub listed : Sixteen → List ℕ
listed x = x.r0 ∷ x.r1 ∷ x.r2 ∷ x.r3 ∷ x.r4 ∷ x.r5 ∷ x.r6 ∷ x.r7 ∷ x.r8 ∷ x.r9 ∷ x.r10 ∷ x.r11 ∷ x.r12 ∷ x.r13 ∷ x.r14 ∷ x.r15 ∷ []

-- what holds of any sixteen registers holds of a list of that length
by_register : (P : List ℕ → Type 0) → ((x : Sixteen) → P (listed x)) → (r : List ℕ) → length r ≡ 16 → P r
by_register P h (a ∷ b ∷ c ∷ d ∷ e ∷ f ∷ g ∷ i ∷ j ∷ k ∷ l ∷ m ∷ n ∷ o ∷ p ∷ q ∷ []) long = h record { r0 = a; r1 = b; r2 = c; r3 = d; r4 = e; r5 = f; r6 = g; r7 = i; r8 = j; r9 = k; r10 = l; r11 = m; r12 = n; r13 = o; r14 = p; r15 = q }
by_register P h r long = absurd (omega arith)

-- processing element p is in a phase
pub record IsIn {Φ : Type 0} (phases : List Φ) (p : ℕ) (out φ : Φ) : Type 0 where
  pub within : p < length phases
  pub is : slice_index_or phases p out ≡ φ

-- where its phase is set to the same, nothing changes
pub unchanged : {Φ : Type 0} (phases : List Φ) (p : ℕ) (out φ : Φ) → IsIn phases p out φ → slice_set phases p φ ≡ phases
unchanged {Φ} phases p out φ h = subst (λ (ψ : Φ). slice_set phases p ψ ≡ phases) h.is (set-get_or phases p out)

-- how a sum over the phases changes
pub sum_changes : {Φ : Type 0} (weight : Φ → ℕ) (phases : List Φ) (p : ℕ) (out φ ψ : Φ) → IsIn phases p out φ → sum_by weight (slice_set phases p ψ) + weight φ ≡ sum_by weight phases + weight ψ
sum_changes weight phases p out φ ψ h = rw (← h.is) (sum_by-set weight phases p ψ out h.within)

-- a phase's own weight is within the sum
pub within_sum : {Φ : Type 0} (weight : Φ → ℕ) (phases : List Φ) (p : ℕ) (out φ : Φ) → IsIn phases p out φ → weight φ ≤ sum_by weight phases
within_sum weight phases p out φ h = rw (← h.is) (get_or-le-sum_by weight phases p out h.within)

replicated_where : {A : Type 0} (n k : ℕ) (a : A) (b : Bool) → nat_lt k n ≡ b → slice_index_or (replicate n a) k a ≡ a
replicated_where n k a true e = get_or-replicate n k a a (grind (arith, common_steps))
replicated_where n k a false e = get_or_past (replicate n a) k a (grind (arith, common_steps))

-- an element of a list of the same, or the same where there is none
pub replicated : {A : Type 0} (n k : ℕ) (a : A) → slice_index_or (replicate n a) k a ≡ a
replicated n k a = replicated_where n k a (nat_lt k n) refl

-- the phase of each, after one of them goes to another phase
phase_where : {Φ : Type 0} (P : ℕ → Φ → Type 0) (phases : List Φ) (p : ℕ) (out ψ : Φ) → p < length phases → P p ψ → (q : ℕ) → (q ≢ p → P q (slice_index_or phases q out)) → (b : Bool) → (q == p) ≡ b → P q (slice_index_or (slice_set phases p ψ) q out)
phase_where P phases p out ψ l h q k true e =
    let same : p ≡ q = grind (arith, common_steps) in
    subst (λ (q : ℕ). P q (slice_index_or (slice_set phases p ψ) q out)) same (rw (get_or-set_same phases p ψ out l) h)
phase_where P phases p out ψ l h q k false e =
    let other : q ≢ p = grind (arith, common_steps) in
    rw (get_or-set_other phases p q ψ out other) (k other)

pub phase_after : {Φ : Type 0} (P : ℕ → Φ → Type 0) (phases : List Φ) (p : ℕ) (out ψ : Φ) → p < length phases → P p ψ → ((q : ℕ) → q ≢ p → P q (slice_index_or phases q out)) → (q : ℕ) → P q (slice_index_or (slice_set phases p ψ) q out)
phase_after P phases p out ψ l h k q = phase_where P phases p out ψ l h q (k q) (q == p) refl

-- the reply to a request goes to the register that the request names
answered : (a : ℕ) (target : Option ℕ) → target_of a (record { cell = a; target = target } ∷ []) ≡ target
answered a target = ap (λ (b : Bool). elim b as (λ _. Option ℕ) [ true ↦ target | false ↦ None ]) (eq-eqb a a refl)

-- a machine has at most 64 processing elements
pub few_elements : (c : Settings) → AreInRange c → size c ≤ 64
few_elements c ranged = pow_mono ranged.most_stages

-- without initial values every cell is 0 at first
zero_where : (c : Settings) → c.initial ≡ [] → (a : ℕ) (b : Bool) → nat_lt a (size c * c.cells) ≡ b → slice_index (start_para c).cells a ≡ 0
zero_where c none a true e = places_at (size c * c.cells) (λ a. given_value c.initial a 0) a 0 (grind (arith, common_steps)) ∙ ap (λ (is : List (ℕ × ℕ)). given_value is a 0) none
zero_where c none a false e =
    let long = length-places (size c * c.cells) (λ a. given_value c.initial a 0) in
    let past : size c * c.cells ≤ a = grind (arith, common_steps) in
    get_or_past (start_para c).cells a 0 (omega arith)

pub zero_at_first : (c : Settings) → c.initial ≡ [] → (a : ℕ) → slice_index (start_para c).cells a ≡ 0
zero_at_first c none a = zero_where c none a (nat_lt a (size c * c.cells)) refl

-- these registers hold these numbers
abbrev pub Knows : List (ℕ × ℕ) → List ℕ → Type 0
Knows [] r = Unit {0}
Knows (e ∷ es) r = (slice_index r e.0 ≡ e.1) × Knows es r

-- the stage at a place, from each stage with the place before which it ends
abbrev pub stage_at : {S : Type 0} → List (ℕ × S) → S → ℕ → S
stage_at [] last k = last
stage_at (e ∷ es) last k = elim (nat_lt k e.0) [ true ↦ e.1 | false ↦ stage_at es last k ]

-- a step with what follows it
infixr 20 ◌▹◌
pub ◌▹◌ : {A B : Type 0} → A → B → A × B
a ▹ b = (a, b)

-- the settings, the kinds of phases, and the phase at first. `Local` is what holds of a processing
-- element in a phase that is at a place with these registers. `Global` is what holds of the cells
-- and the phases
module _ (c : Settings) (Φ : Type 0) (out : Φ) (Local : ℕ → ℕ → List ℕ → Φ → Type 0) (Global : List ℕ → List Φ → Type 0) where
  -- ---- what has to be shown of each instruction
  -- the processing element goes to a place, in some phase
  abbrev pub Comes : ℕ → ℕ → List ℕ → List ℕ → List Φ → Type 0
  Comes p place r cells phases = (ψ : Φ) × Local p place r ψ × Global cells (slice_set phases p ψ)

  -- an act on a cell, which gives the cell a value and the registers that follow from its old one
  abbrev pub Acts : ℕ → ℕ → Φ → ℕ → (ℕ → List ℕ) → (ℕ → ℕ) → Type 0
  Acts p place φ a registers value = (cells : List ℕ) (phases : List Φ) → length phases ≡ size c → IsIn phases p out φ → a < length cells → Global cells phases → Comes p place (registers (slice_index cells a)) (slice_set cells a (value (slice_index cells a))) phases

  -- of an instruction at a place with these registers, in a phase
  abbrev pub Owes : ℕ → ℕ → List ℕ → Φ → Instr → Type 0
  Owes p k r φ (Set d n) = Local p (k + 1) (slice_set r d n) φ
  Owes p k r φ (Add d a b) = Local p (k + 1) (slice_set r d (plus (slice_index r a) (slice_index r b))) φ
  Owes p k r φ (AddWord d a n) = Local p (k + 1) (slice_set r d (plus (slice_index r a) n)) φ
  Owes p k r φ (Subtract d a b) = Local p (k + 1) (slice_set r d (minus (slice_index r a) (slice_index r b))) φ
  Owes p k r φ (And d a b) = Local p (k + 1) (slice_set r d (bit_and (slice_index r a) (slice_index r b))) φ
  Owes p k r φ (ShiftRight d a n) = Local p (k + 1) (slice_set r d (slice_index r a / 2 ^ n)) φ
  Owes p k r φ (IsBelow d a b) = (slice_index r a < slice_index r b → Local p (k + 1) (slice_set r d 1) φ) × (slice_index r b ≤ slice_index r a → Local p (k + 1) (slice_set r d 0) φ)
  Owes p k r φ (IsEqual d a b) = (slice_index r a ≡ slice_index r b → Local p (k + 1) (slice_set r d 1) φ) × (slice_index r a ≢ slice_index r b → Local p (k + 1) (slice_set r d 0) φ)
  Owes p k r φ (JumpIfZero a target) = (slice_index r a ≡ 0 → Local p target r φ) × (slice_index r a ≢ 0 → Local p (k + 1) r φ)
  Owes p k r φ (JumpIfNotZero a target) = (slice_index r a ≡ 0 → Local p (k + 1) r φ) × (slice_index r a ≢ 0 → Local p target r φ)
  Owes p k r φ (Jump target) = Local p target r φ
  Owes p k r φ (Number d) = Local p (k + 1) (slice_set r d p) φ
  Owes p k r φ (Size d) = Local p (k + 1) (slice_set r d (size c)) φ
  Owes p k r φ (Load d a) = (cells : List ℕ) (phases : List Φ) → length phases ≡ size c → IsIn phases p out φ → slice_index r a < length cells → Global cells phases → Comes p (k + 1) (slice_set r d (slice_index cells (slice_index r a))) cells phases
  Owes p k r φ (Store a b) = Acts p (k + 1) φ (slice_index r a) (λ v. r) (λ v. slice_index r b)
  Owes p k r φ (Faa d a b) = Acts p (k + 1) φ (slice_index r a) (λ v. slice_set r d v) (λ v. plus v (slice_index r b))
  Owes p k r φ (Swap d a b) = Acts p (k + 1) φ (slice_index r a) (λ v. slice_set r d v) (λ v. slice_index r b)
  Owes p k r φ Fence = Local p (k + 1) r φ
  Owes p k r φ Halt = Unit {0}

  -- wherever it is reached
  abbrev pub IsKept : ℕ → Instr → Type 0
  IsKept k i = (p : ℕ) → p < size c → (x : Sixteen) (φ : Φ) → Local p k (listed x) φ → Owes p k (listed x) φ i

  -- of instructions that follow one another, from this place of the program on
  abbrev pub AreKept : ℕ → List Instr → Type 0
  AreKept k [] = Unit {0}
  AreKept k (i ∷ is) = IsKept k i × AreKept (k + 1) is

  kept_at : (is : List Instr) (k j : ℕ) (i : Instr) → AreKept k is → slice_get is j ≡ Some i → IsKept (k + j) i
  kept_at [] k j i h e = cc
  kept_at (n ∷ is) k zero i h e =
      let same : n ≡ i = cc in
      let place : k ≡ k + zero = omega arith in
      subst (λ (m : ℕ). IsKept m i) place (subst (λ (m : Instr). IsKept k m) same h.0)
  kept_at (n ∷ is) k (suc j) i h e =
      let place : k + 1 + j ≡ k + suc j = omega arith in
      subst (λ (m : ℕ). IsKept m i) place (kept_at is (k + 1) j i h.1 e)

  -- ---- what then holds of every state
  -- a processing element with 16 registers, at a place and in a phase
  pub record Stands (p : ℕ) (core : Core) (φ : Φ) : Type 0 where
    pub registers : length core.registers ≡ 16
    pub local : Local p core.pc core.registers φ

  pub record Holds (s : Para) : Type 0 where
    pub phases : List Φ
    pub as_many : length phases ≡ size c
    pub cores : length s.cores ≡ size c
    pub held : length s.cells ≡ size c * c.cells
    pub each : (p : ℕ) → p < size c → Stands p (core_at s p) (slice_index_or phases p out)
    pub global : Global s.cells phases

  -- ---- one step
  module _ (s : Para) (holds : Holds s) (p : ℕ) (within : p < size c) where
    abbrev φ : Φ
    φ = slice_index_or holds.phases p out

    -- the state with these cells, and with this processor in the place of p's
    abbrev With : List ℕ → Core → Type 0
    With cells core = Holds record { cells = cells; cores = slice_set s.cores p core }

    each_after : (core : Core) (ψ : Φ) → Stands p core ψ → (q : ℕ) → q < size c → (b : Bool) → (q == p) ≡ b → Stands q (slice_index_or (slice_set s.cores p core) q fresh_core) (slice_index_or (slice_set holds.phases p ψ) q out)
    each_after core ψ h q below true e =
        let same : q ≡ p = grind (arith, common_steps) in
        let m = holds.cores in let n = holds.as_many in
        subst (λ (q : ℕ). Stands q (slice_index_or (slice_set s.cores p core) q fresh_core) (slice_index_or (slice_set holds.phases p ψ) q out)) (sym same)
        (rw (get_or-set_same s.cores p core fresh_core (omega arith), get_or-set_same holds.phases p ψ out (omega arith)) h)
    each_after core ψ h q below false e =
        let other : q ≢ p = grind (arith, common_steps) in
        rw (get_or-set_other s.cores p q core fresh_core other, get_or-set_other holds.phases p q ψ out other) (holds.each q below)

    moved : (cells : List ℕ) (core : Core) (ψ : Φ) → length cells ≡ size c * c.cells → Stands p core ψ → Global cells (slice_set holds.phases p ψ) → With cells core
    moved cells core ψ n h g = record {
      phases = slice_set holds.phases p ψ;
      as_many = simp length-set holds.as_many;
      cores = simp length-set holds.cores;
      held = n;
      each = λ q below. each_after core ψ h q below (q == p) refl;
      global = g;
    }

    comes : (cells : List ℕ) (core : Core) → length cells ≡ size c * c.cells → length core.registers ≡ 16 → Comes p core.pc core.registers cells holds.phases → With cells core
    comes cells core m n h = moved cells core h.0 m record { registers = n; local = h.1 } h.2

    -- a step that leaves the cells and the phase
    stays : (core : Core) → length core.registers ≡ 16 → Local p core.pc core.registers φ → With s.cells core
    stays core n h = moved s.cells core φ holds.held record { registers = n; local = h } (rw (set-get_or holds.phases p out) holds.global)

    is_in : IsIn holds.phases p out φ
    is_in = let n = holds.as_many in record { within = omega arith; is = refl }

    -- the processing element's registers, place and state
    module _ (core : Core) (stands : Stands p core φ) where
      -- what its step leads to
      abbrev After : StepResult → Type 0
      After t = With (after_alone c [] s p t).cells (core_answered s.cells t t.sent)

      setting : (d v : ℕ) → Local p (core.pc + 1) (slice_set core.registers d v) φ → With s.cells record core { registers = slice_set core.registers d v; pc = core.pc + 1 }
      setting d v h = let n = stands.registers in stays record core { registers = slice_set core.registers d v; pc = core.pc + 1 } (simp length-set n) h

      jumping : (b : Bool) (there here : ℕ) → (b ≡ true → Local p there core.registers φ) → (b ≡ false → Local p here core.registers φ) → With s.cells record core { pc = if b then there else here }
      jumping true there here h k = stays record core { pc = there } stands.registers (h refl)
      jumping false there here h k = stays record core { pc = here } stands.registers (k refl)

      deciding : (b : Bool) (d : ℕ) → (b ≡ true → Local p (core.pc + 1) (slice_set core.registers d 1) φ) → (b ≡ false → Local p (core.pc + 1) (slice_set core.registers d 0) φ) → With s.cells record core { registers = slice_set core.registers d (if b then 1 else 0); pc = core.pc + 1 }
      deciding true d h k = setting d 1 (h refl)
      deciding false d h k = setting d 0 (k refl)

      stopping : (a : Activity) → With s.cells record core { activity = a }
      stopping a = stays record core { activity = a } stands.registers stands.local

      -- the cells and the processor after an act
      acting : (a : ℕ) (o : Op) (target : Option ℕ) (v : ℕ × Reply) → act o (slice_index s.cells a) ≡ v
          → With (slice_set s.cells a v.0) record core { registers = received core.registers target v.1; pc = core.pc + 1 }
          → After (refers_where (site c p) 1 true core empty_interface record { pe = p; cell = a; op = o } target)
      acting a o target v e h = rw (e, answered a target) h

      loading : (b : Bool) (d a : ℕ) → (b ≡ true → Comes p (core.pc + 1) (slice_set core.registers d (slice_index s.cells a)) s.cells holds.phases) → After (refers_where (site c p) 1 b core empty_interface record { pe = p; cell = a; op = op.Load } (Some d))
      loading true d a h =
          let n = stands.registers in
          acting a op.Load (Some d) (slice_index s.cells a, reply.Value (slice_index s.cells a)) refl
          (rw (set-get_or s.cells a 0) (comes s.cells record core { registers = slice_set core.registers d (slice_index s.cells a); pc = core.pc + 1 } holds.held (simp length-set n) (h refl)))
      loading false d a h = stopping _

      putting : (b : Bool) (a v : ℕ) → (b ≡ true → Comes p (core.pc + 1) core.registers (slice_set s.cells a v) holds.phases) → After (refers_where (site c p) 1 b core empty_interface record { pe = p; cell = a; op = op.Store v } None)
      putting true a v h =
          let m = holds.held in
          acting a (op.Store v) None (v, reply.Ack) refl (comes (slice_set s.cells a v) record core { pc = core.pc + 1 } (simp length-set m) stands.registers (h refl))
      putting false a v h = stopping _

      fetching : (b : Bool) (d a : ℕ) (o : Op) (v : ℕ) → act o (slice_index s.cells a) ≡ (v, reply.Value (slice_index s.cells a)) → (b ≡ true → Comes p (core.pc + 1) (slice_set core.registers d (slice_index s.cells a)) (slice_set s.cells a v) holds.phases) → After (refers_where (site c p) 1 b core empty_interface record { pe = p; cell = a; op = o } (Some d))
      fetching true d a o v e h =
          let n = stands.registers in let m = holds.held in
          acting a o (Some d) (v, reply.Value (slice_index s.cells a)) e
          (comes (slice_set s.cells a v) record core { registers = slice_set core.registers d (slice_index s.cells a); pc = core.pc + 1 } (simp length-set m) (simp length-set n) (h refl))
      fetching false d a o v e h = stopping _

      -- the memory has the cell
      has : (a : ℕ) → nat_lt a (size c * c.cells) ≡ true → a < length s.cells
      has a e = let n = holds.held in let below : a < size c * c.cells = grind (arith, common_steps) in omega arith

      did : (i : Instr) → Owes p core.pc core.registers φ i → After (runs (site c p) 1 core empty_interface (Some i))
      did (Set d n) h = setting d n h
      did (Add d a b) h = setting d _ h
      did (AddWord d a n) h = setting d _ h
      did (Subtract d a b) h = setting d _ h
      did (And d a b) h = setting d _ h
      did (ShiftRight d a n) h = setting d _ h
      did (IsBelow d a b) h = deciding (nat_lt (slice_index core.registers a) (slice_index core.registers b)) d (λ e. h.0 (grind (arith, common_steps))) (λ e. h.1 (grind (arith, common_steps)))
      did (IsEqual d a b) h = deciding (slice_index core.registers a == slice_index core.registers b) d (λ e. h.0 (grind (arith, common_steps))) (λ e. h.1 (grind (arith, common_steps)))
      did (JumpIfZero a target) h = jumping (slice_index core.registers a == 0) target (core.pc + 1) (λ e. h.0 (grind (arith, common_steps))) (λ e. h.1 (grind (arith, common_steps)))
      did (JumpIfNotZero a target) h = jumping (slice_index core.registers a == 0) (core.pc + 1) target (λ e. h.0 (grind (arith, common_steps))) (λ e. h.1 (grind (arith, common_steps)))
      did (Jump target) h = stays record core { pc = target } stands.registers h
      did (Number d) h = setting d p h
      did (Size d) h = setting d (size c) h
      did (Load d a) h = loading (nat_lt (slice_index core.registers a) (size c * c.cells)) d (slice_index core.registers a) (λ e. h s.cells holds.phases holds.as_many is_in (has _ e) holds.global)
      did (Store a b) h = putting (nat_lt (slice_index core.registers a) (size c * c.cells)) (slice_index core.registers a) (slice_index core.registers b) (λ e. h s.cells holds.phases holds.as_many is_in (has _ e) holds.global)
      did (Faa d a b) h = fetching (nat_lt (slice_index core.registers a) (size c * c.cells)) d (slice_index core.registers a) (op.Faa (slice_index core.registers b)) _ refl (λ e. h s.cells holds.phases holds.as_many is_in (has _ e) holds.global)
      did (Swap d a b) h = fetching (nat_lt (slice_index core.registers a) (size c * c.cells)) d (slice_index core.registers a) (op.Swap (slice_index core.registers b)) _ refl (λ e. h s.cells holds.phases holds.as_many is_in (has _ e) holds.global)
      did Fence h = stays record core { pc = core.pc + 1 } stands.registers h
      did Halt h = stopping activity.Halted

      ran : (program : List Instr) → AreKept 0 program → (i : Option Instr) → slice_get program core.pc ≡ i → After (runs (site c p) 1 core empty_interface i)
      ran program kept None e = stopping _
      ran program kept (Some i) e =
          let place : 0 + core.pc ≡ core.pc = omega arith in
          let owed = subst (λ (m : ℕ). IsKept m i) place (kept_at program 0 core.pc i kept e) in
          did i (by_register (λ (r : List ℕ). Local p core.pc r φ → Owes p core.pc r φ i) (λ x h. owed p within x φ h) core.registers stands.registers stands.local)

      ran_as : (program : List Instr) → AreKept 0 program → (a : Activity) → After (runs_as (site c p) 1 a core empty_interface (slice_get program core.pc))
      ran_as program kept activity.Running = ran program kept (slice_get program core.pc) refl
      ran_as program kept activity.Halted = stays core stands.registers stands.local
      ran_as program kept (activity.Faulted f) = stays core stands.registers stands.local

  -- one step of a processing element keeps it
  pub holds_next : (program : List Instr) → AreKept 0 program → (s : Para) → Holds s → (p : ℕ) → p < size c → Holds (para_step c program s p)
  holds_next program kept s holds p within = ran_as s holds p within (core_at s p) (holds.each p within) program kept (core_at s p).activity

  -- ---- every schedule
  -- what holds before the steps of a schedule holds after them
  pub holds_after : (program : List Instr) → AreKept 0 program → (schedule : List ℕ) → All (λ p. p < size c) schedule → (s : Para) → Holds s → Holds (run_para c program s schedule)
  holds_after program kept [] elements s holds = holds
  holds_after program kept (p ∷ ps) elements s holds = holds_after program kept ps (λ k d h. elements (suc k) d (omega (arith, h))) (para_step c program s p) (holds_next program kept s holds p (elements 0 p (omega arith)))

  -- it holds at first
  pub holds_at_first : ((p : ℕ) → p < size c → Local p 0 (replicate 16 0) out) → Global (start_para c).cells (replicate (size c) out) → Holds (start_para c)
  holds_at_first local global = record {
    phases = replicate (size c) out;
    as_many = grind (arith, common_steps);
    cores = length-places (size c) (λ p. fresh_core);
    held = length-places (size c * c.cells) (λ a. given_value c.initial a 0);
    each = λ p below. rw (places_at (size c) (λ p. fresh_core) p fresh_core below, get_or-replicate (size c) p out out below) record { registers = refl; local = local p below };
    global = global;
  }

  -- the law of a program: what has to be shown of each instruction and of the first state, and so holds after every schedule
  pub always : (program : List Instr) → AreKept 0 program → ((p : ℕ) → p < size c → Local p 0 (replicate 16 0) out) → Global (start_para c).cells (replicate (size c) out)
      → (schedule : List ℕ) → All (λ p. p < size c) schedule → Holds (run_para c program (start_para c) schedule)
  always program kept local global schedule elements = holds_after program kept schedule elements (start_para c) (holds_at_first local global)
