-- what is known of the processing elements of a machine, as they were last looked at
use Rattle.std.specs.Prelude.{◌≡◌, ℕ, ◌+◌, ◌*◌, ◌<◌, ◌≤◌, List, Bool, false, true, ◌||◌, slice_index}
use Rattle.ultra_msg.specs.declared.Event.{Event}
use Rattle.ultra_isa.specs.{declared.Instr.Instr, Step.{has_stopped, is_stall}}
use Rattle.ultra_model.specs.{Machine.{Settings, Machine, size, element_at}, Phases.step_at, Balance.count}
use Rattle.ultra_topology.specs.Set.{has_bit}
use Rattle.ultra_measure.specs.{declared.element_states.ElementStates.ElementStates, EventKinds.is_delivery_to, Held.{running, stalled, opened}}

-- three numbers in one, of which the first two are below 256
abbrev pub three_in_one : ℕ → ℕ → ℕ → ℕ
three_in_one a b c = a + b * 256 + c * 65536

-- what processing element p is doing, as one number
abbrev pub state_number : Settings → List Instr → Machine → ℕ → ℕ
state_number c program m p = three_in_one (running m p) (stalled c program m p) (opened m p)

-- a step leaves it as it is: it has stopped, or would stall
abbrev pub is_resting : Settings → List Instr → Machine → ℕ → Bool
is_resting c program m p =
    has_stopped (element_at m p).core.activity || is_stall (step_at c program m p).was

-- whether it may be another after a cycle in which no reply comes to it
abbrev pub is_awake : ElementStates → ℕ → Bool
is_awake s p = has_bit s.awake p

-- a set has only numbers below n
abbrev pub AreBelow : ℕ → ℕ → Type 0
AreBelow n elements = (p : ℕ) → n ≤ p → has_bit elements p ≡ false

-- of the first n processing elements a set has at least each to which these events deliver a reply
pub record AreAnswered (n : ℕ) (es : List Event) (elements : ℕ) : Type 0 where
  pub each : (p : ℕ) → p < n → has_bit elements p ≡ false → count (is_delivery_to p) es ≡ 0
  pub within : AreBelow n elements

module _ (c : Settings) (program : List Instr) (m : Machine) where
  -- processing element p is as it was seen, and rests, unless it is awake
  pub record IsKnown (s : ElementStates) (p : ℕ) : Type 0 where
    pub now : slice_index s.tally p ≡ state_number c program m p
    pub rests : is_awake s p ≡ false → is_resting c program m p ≡ true

  -- all are known but for those that pass a test
  pub record AreKnownBut (t : ℕ → Bool) (s : ElementStates) : Type 0 where
    pub each : (p : ℕ) → p < size c → t p ≡ false → IsKnown s p
    pub none : (p : ℕ) → size c ≤ p → slice_index s.tally p ≡ 0
    pub within : AreBelow (size c) s.awake

  -- all
  abbrev pub AreKnown : ElementStates → Type 0
  AreKnown s = AreKnownBut (λ p. false) s

  -- all that aren't awake
  abbrev pub AreSeen : ElementStates → Type 0
  AreSeen s = AreKnownBut (is_awake s) s

-- the same is known of processing element p
pub record IsSameAt (old new : ElementStates) (p : ℕ) : Type 0 where
  pub now : slice_index new.tally p ≡ slice_index old.tally p
  pub awake : is_awake new p ≡ is_awake old p
