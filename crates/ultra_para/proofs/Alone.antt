-- the steps of a processing element with no cell open, and of one that waits at a fence
use Rattle.std.proofs.Common.{◌≡◌, ◌≢◌, ℕ, zero, suc, ◌+◌, ◌≤◌, List, [], ◌∷◌, length, Bool, true, false, refl, arith, sym, ◌∙◌, ap, subst}
use Rattle.std.specs.Prelude.{Option, Some, None, slice_get, nat_lt, ◌&&◌, ◌||◌, not, ◌==◌}
use Rattle.std.specs.List.{list_any}
use Rattle.ultra_msg.specs.declared.Request.{Request}
use Rattle.ultra_pni.specs.{declared.{OpenCell.OpenCell, Issue.TheVariants.Sent}, Interface.{Interface, empty_interface, is_awaited, issue_of}}
use Rattle.ultra_isa.specs.declared.{Instr.{Instr, TheVariants.{Load, Store, Faa, Swap, Fence}}, Activity.Activity}
use Rattle.ultra_isa.specs.declared.Activity.TheVariants as activity
use Rattle.ultra_isa.specs.declared.Step.TheVariants as step
use Rattle.ultra_isa.specs.Instruction.{Site, names, Effect, sets, goes_on_at, refers, waits, halts, effect}
use Rattle.ultra_isa.specs.Step.{Core, StepResult, stays, names_awaited, waits_where, refers_where, does, runs_where, runs, runs_as, step_of}
use Rattle.ultra_model.proofs.Neighbours.{other}
use Rattle.ultra_para.specs.Careful.{refers_to_cell, begins_with_fence, is_careful}

-- an interface with no cell open
abbrev pub closed_with : List Request → Interface
closed_with rs = record { opened = []; pending = rs }

-- two steps do the same but for what is pending
pub record IsSameStep (t u : StepResult) : Type 0 where
  pub core : t.core ≡ u.core
  pub sent : t.sent ≡ u.sent
  pub opened : t.interface.opened ≡ u.interface.opened

none_awaited : (ns : List ℕ) → list_any (λ r. is_awaited r []) ns ≡ false
none_awaited [] = refl
none_awaited (n ∷ ns) = none_awaited ns

module _ (s : Site) (k : ℕ) (some : 1 ≤ k) (rs : List Request) where
  room : (r : Request) → issue_of k (closed_with rs) r ≡ Sent
  room r = let within : nat_lt 0 k ≡ true = grind (arith, some) in rw within refl

  same : (t u : StepResult) → t.core ≡ u.core → t.sent ≡ u.sent → t.interface.opened ≡ u.interface.opened → IsSameStep t u
  same t u p q r = record { core = p; sent = q; opened = r }

  same_reference : (b : Bool) (c : Core) (r : Request) (target : Option ℕ) → IsSameStep (refers_where s k b c (closed_with rs) r target) (refers_where s 1 b c empty_interface r target)
  same_reference true c r target = rw (room r) (same _ _ refl refl refl)
  same_reference false c r target = same _ _ refl refl refl

  same_effect : (c : Core) (e : Effect) → IsSameStep (does s k c (closed_with rs) e) (does s 1 c empty_interface e)
  same_effect c (sets d v) = same _ _ refl refl refl
  same_effect c (goes_on_at pc) = same _ _ refl refl refl
  same_effect c (refers a o target) = same_reference (nat_lt a s.all_cells) c record { pe = s.pe; cell = a; op = o } target
  same_effect c waits = same _ _ refl refl refl
  same_effect c halts = same _ _ refl refl refl

  same_where : (a b : Bool) (c : Core) (n : Instr) → a ≡ false → b ≡ false → IsSameStep (runs_where s k a c (closed_with rs) n) (runs_where s 1 b c empty_interface n)
  same_where a b c n p q = rw (p, q) (same_effect c (effect s c.registers c.pc n))

  same_run : (c : Core) (o : Option Instr) → IsSameStep (runs s k c (closed_with rs) o) (runs s 1 c empty_interface o)
  same_run c None = same _ _ refl refl refl
  same_run c (Some n) = same_where (names_awaited n (closed_with rs)) (names_awaited n empty_interface) c n (none_awaited (names n)) (none_awaited (names n))

  same_as : (a : Activity) (c : Core) (o : Option Instr) → IsSameStep (runs_as s k a c (closed_with rs) o) (runs_as s 1 a c empty_interface o)
  same_as activity.Running c o = same_run c o
  same_as activity.Halted c o = same _ _ refl refl refl
  same_as (activity.Faulted f) c o = same _ _ refl refl refl

-- a processing element with no cell open steps as on the paracomputer, up to the act
pub same_step : (s : Site) (k : ℕ) → 1 ≤ k → (program : List Instr) (c : Core) (i : Interface) → i.opened ≡ [] → IsSameStep (step_of s k program c i) (step_of s 1 program c empty_interface)
same_step s k some program c i e =
    let is : closed_with i.pending ≡ i = ap (λ os. record { opened = os; pending = i.pending }) (sym e) in
    subst (λ j. IsSameStep (step_of s k program c j) (step_of s 1 program c empty_interface)) is (same_as s k some i.pending c.activity c (slice_get program c.pc))

-- ---- what a step that sends a request does besides
pub record IsReference (program : List Instr) (c d : Core) : Type 0 where
  pub instr : Instr
  pub at : slice_get program c.pc ≡ Some instr
  pub refers : refers_to_cell instr ≡ true
  pub running : c.activity ≡ activity.Running
  pub core : d ≡ record c { pc = c.pc + 1 }

module _ (s : Site) where
  reference_core : (b : Bool) (c : Core) (q : Request) (target : Option ℕ) (r : Request) → (refers_where s 1 b c empty_interface q target).sent ≡ Some r → (refers_where s 1 b c empty_interface q target).core ≡ record c { pc = c.pc + 1 }
  reference_core true c q target r e = refl
  reference_core false c q target r e = absurd cc

  abbrev Refers : Bool → Core → Instr → Type 0
  Refers b c n = (refers_to_cell n ≡ true) × ((runs_where s 1 b c empty_interface n).core ≡ record c { pc = c.pc + 1 })

  reference : (b : Bool) (c : Core) (n : Instr) (r : Request) → (runs_where s 1 b c empty_interface n).sent ≡ Some r → Refers b c n
  reference true c n r e = absurd cc
  reference false c (Load d a) r e = (refl, reference_core (nat_lt _ s.all_cells) c _ _ r e)
  reference false c (Store a b) r e = (refl, reference_core (nat_lt _ s.all_cells) c _ _ r e)
  reference false c (Faa d a b) r e = (refl, reference_core (nat_lt _ s.all_cells) c _ _ r e)
  reference false c (Swap d a b) r e = (refl, reference_core (nat_lt _ s.all_cells) c _ _ r e)
  reference false c n r e = absurd cc

  reference_run : (program : List Instr) (a : Activity) (c : Core) (o : Option Instr) (r : Request) → c.activity ≡ a → slice_get program c.pc ≡ o → (runs_as s 1 a c empty_interface o).sent ≡ Some r → IsReference program c (runs_as s 1 a c empty_interface o).core
  reference_run program activity.Running c None r p q e = absurd cc
  reference_run program activity.Running c (Some n) r p q e =
      let is = reference (names_awaited n empty_interface) c n r e in
      record { instr = n; at = q; refers = is.0; running = p; core = is.1 }
  reference_run program activity.Halted c o r p q e = absurd cc
  reference_run program (activity.Faulted f) c o r p q e = absurd cc

pub reference_step : (s : Site) (program : List Instr) (c : Core) (r : Request) → (step_of s 1 program c empty_interface).sent ≡ Some r → IsReference program c (step_of s 1 program c empty_interface).core
reference_step s program c r e = reference_run s program c.activity c (slice_get program c.pc) r refl refl e

-- ---- a fence follows
fence_begins : (is : List Instr) → begins_with_fence is ≡ true → slice_get is 0 ≡ Some Fence
fence_begins [] e = absurd cc
fence_begins (Fence ∷ is) e = refl
fence_begins (i ∷ is) e = absurd cc

both : (a b : Bool) → (a && b) ≡ true → (a ≡ true) × (b ≡ true)
both true b e = (refl, e)
both false b e = absurd cc

careful_here : (b : Bool) (f : Bool) → b ≡ true → (not b || f) ≡ true → f ≡ true
careful_here true f p e = e
careful_here false f p e = absurd cc

pub careful_next : (program : List Instr) (k : ℕ) (n : Instr) → is_careful program ≡ true → slice_get program k ≡ Some n → refers_to_cell n ≡ true → slice_get program (k + 1) ≡ Some Fence
careful_next [] k n h e f = absurd cc
careful_next (i ∷ is) zero n h e f =
    let same : n ≡ i = cc in
    let refers : refers_to_cell i ≡ true = subst (λ j. refers_to_cell j ≡ true) same f in
    fence_begins is (careful_here (refers_to_cell i) (begins_with_fence is) refers (both _ _ h).0)
careful_next (i ∷ is) (suc k) n h e f =
    let next : suc k + 1 ≡ suc (k + 1) = omega arith in
    rw next (careful_next is k n (both _ _ h).1 e f)

-- ---- who waits at a fence stalls
stalls_where : (s : Site) (k : ℕ) (c : Core) (i : Interface) (b : Bool) → (length i.opened == 0) ≡ b → b ≡ false → waits_where b c i ≡ stays step.Stalled c i
stalls_where s k c i true p q = absurd cc
stalls_where s k c i false p q = refl

not_none : (i : Interface) (o : OpenCell) (os : List OpenCell) → i.opened ≡ o ∷ os → (length i.opened == 0) ≡ false
not_none i o os e = let some : length i.opened ≢ 0 = rw e (omega arith) in other (length i.opened) 0 some

pub fence_stalls : (s : Site) (k : ℕ) (program : List Instr) (c : Core) (i : Interface) (o : OpenCell) (os : List OpenCell) → c.activity ≡ activity.Running → slice_get program c.pc ≡ Some Fence → i.opened ≡ o ∷ os
    → step_of s k program c i ≡ stays step.Stalled c i
fence_stalls s k program c i o os p q e =
    ap (λ a. runs_as s k a c i (slice_get program c.pc)) p ∙ (ap (λ n. runs s k c i n) q ∙ stalls_where s k c i (length i.opened == 0) refl (not_none i o os e))
