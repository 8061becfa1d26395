-- A visit of a unit that has nothing to do in a half changes nothing, and what a unit does, the later ones don't miss.
use Rattle.std.proofs.Common.{◌≡◌, ℕ, List, Option, false, arith, ◌+◌, ◌<◌, ◌≤◌, None, length, length-append, get_or-set_other, sym, ◌∙◌, zero, suc, refl, ap, get_or, set}
use Rattle.ultra_block_core.proofs.Common.{common_steps, append-nil, set-get_or, Ports, has_unit, unit_is, BlockState, own_switch, own_module, own_element, HasEventRoom, AreOthersAtRest, HasStopRoom, GetsNoReply, GetsNoRequest, HoldsNoReply, HoldsNoRequest, IsAsleep, ServesNothing, Unit as UnitName, IsElement, IsModule, IsUnit, Fewer, fewer_set, fewer_both, switch_takes_replies, element_takes_reply, takes_replies, UnitCanTakeReplies, CanTakeRepliesAt, switch_takes_requests, module_takes_request, takes_requests, UnitCanTakeRequests, CanTakeRequestsAt, left_at_rest, element_executes, executes, executes_own, CanExecuteAt, sends_replies, sends_requests, serves}
use Rattle.ultra_topology.specs.declared.unit.Unit.TheVariants as unit
use Rattle.ultra_topology.specs.Visits.{after_units}
use Rattle.ultra_block_core.proofs.Once.{all_keep}

pub same_entry : {X : Type 0} (xs : List (Option X)) (i : ℕ) (o : Option X) → get_or xs i None ≡ o → set xs i o ≡ xs
same_entry xs i o is = ap (λ x. set xs i x) (sym is) ∙ set-get_or xs i None

-- ---- where there is nothing to do
module _ (b : BlockState) where
  pub sends_no_reply : (closed : List ℕ) (n : ℕ) → HoldsNoReply n b → sends_replies closed n b ≡ b
  sends_no_reply closed n none = grind (arith, common_steps, same_entry)

  pub sends_no_request : (closed : Ports (List ℕ)) (n : ℕ) → HoldsNoRequest n b → sends_requests closed n b ≡ b
  sends_no_request closed n none = grind (arith, common_steps, same_entry)

  pub serves_none : (n : ℕ) → ServesNothing n b → serves n b ≡ b
  serves_none n none = grind (arith, same_entry, append-nil)

  pub takes_no_reply : (n : ℕ) → GetsNoReply n b → takes_replies n b ≡ b
  takes_no_reply n empty = grind (arith, same_entry, append-nil)

  pub takes_no_request : (n : ℕ) → GetsNoRequest n b → takes_requests n b ≡ b
  takes_no_request n empty = grind (arith, same_entry, append-nil)

  -- ---- where nothing comes once something has been taken elsewhere
  pub no_reply_left : (n s i k : ℕ) → GetsNoReply k b → GetsNoReply k (switch_takes_replies n s i b)
  no_reply_left n s i k empty = grind (arith, fewer_both)

  pub no_request_left : (n s i k : ℕ) → GetsNoRequest k b → GetsNoRequest k (switch_takes_requests n s i b)
  no_request_left n s i k empty = grind (arith, fewer_both)

-- ---- what the later units ask is kept
module _ (b : BlockState) (k : ℕ) where
  replies_later : (b' : BlockState) (u : UnitName) → b'.stages ≡ b.stages → Fewer b.replies b'.replies → (own_switch b'.switches k ≡ own_switch b.switches k)
      → ((p : ℕ) → IsElement b.stages k p → own_element b'.elements p ≡ own_element b.elements p) → IsUnit b.stages k u → UnitCanTakeReplies k b u → UnitCanTakeReplies k b' u
  replies_later b' u stages fewer switch elements is can = grind arith

  pub switch_took_replies : (n s i : ℕ) → n < k → CanTakeRepliesAt k b → CanTakeRepliesAt k (switch_takes_replies n s i b)
  switch_took_replies n s i order can = grind (arith, replies_later, fewer_both, get_or-set_other, unit_is)

  pub element_took_reply : (n p : ℕ) → n < k → IsElement b.stages n p → HasEventRoom n b → CanTakeRepliesAt k b → CanTakeRepliesAt k (element_takes_reply p b)
  element_took_reply n p order is room can = grind (arith, replies_later, fewer_set, get_or-set_other, unit_is, length-append)

  requests_later : (b' : BlockState) (u : UnitName) → b'.stages ≡ b.stages → Fewer b.requests b'.requests → (own_switch b'.switches k ≡ own_switch b.switches k)
      → ((m : ℕ) → IsModule b.stages k m → own_module b'.modules m ≡ own_module b.modules m) → IsUnit b.stages k u → UnitCanTakeRequests k b u → UnitCanTakeRequests k b' u
  requests_later b' (unit.Module m) stages fewer switch modules is can = λ memory_module stands r on. let asks = can memory_module (sym (modules m is) ∙ stands) r in grind arith
  requests_later b' u stages fewer switch modules is can = grind arith

  pub switch_took_requests : (b' : BlockState) (n s i : ℕ) → n < k → HasEventRoom n b → b' ≡ switch_takes_requests n s i b → length b'.events ≤ length b.events + 2
      → CanTakeRequestsAt k b → CanTakeRequestsAt k b'
  switch_took_requests b' n s i order room is few can = grind (arith, requests_later, fewer_both, get_or-set_other, unit_is)

  pub module_took_request : (n m : ℕ) → n < k → IsModule b.stages n m → CanTakeRequestsAt k b → CanTakeRequestsAt k (module_takes_request m b)
  module_took_request n m order is can = grind (arith, requests_later, fewer_set, get_or-set_other, unit_is)

-- ---- where processing elements make a step
module _ (b : BlockState) where
  pub executes_none : (n : ℕ) → IsAsleep n b → executes_own n b ≡ b
  executes_none n asleep = grind (arith, left_at_rest, same_entry, append-nil, unit_is)

  pub sleeps : (awake : List ℕ) → AreOthersAtRest b.stages b.program awake b.elements → (n : ℕ) → has_unit awake n ≡ false → IsAsleep n b
  sleeps awake rests n none = λ p is. rests p is.small (rw (is.number) at none)

  pub later_element : (n k p : ℕ) → n < k → IsElement b.stages n p → HasEventRoom n b → HasStopRoom n b → CanExecuteAt k b → CanExecuteAt k (element_executes b.program p b)
  later_element n k p order is events stops can = grind (arith, get_or-set_other, unit_is, length-append)

-- ---- no step changes how many cycles are done, and each is one of the program that the block has at the start
pub own_steps : (n : ℕ) (b : BlockState) → (after_units executes_own n b ≡ after_units (executes b.program) n b) × (BlockState.done (after_units executes_own n b) ≡ b.done)
unfolding after_units
own_steps zero b = (refl, refl)
own_steps (suc n) b =
    let kept = all_keep (executes b.program) (λ t. t.program ≡ b.program) (λ j t same. grind arith) n b refl in grind (arith, own_steps n b)
