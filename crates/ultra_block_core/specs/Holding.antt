-- which units of a block hold something, and which have nothing to do in a half of a cycle
use Rattle.std.specs.Prelude.{◌≡◌, ℕ, List, Bool, false, IsTrue, is_some}
use Rattle.ultra_block_core.specs.Prelude.{ForSome, AreEmpty, reply_inlets, request_inlets, IsElement, is_at_rest, Switch, ModuleState, ProcessingElement, holds_replies, holds_requests, keeps_records, holds_request, has_unit, of_unit}
use Rattle.ultra_block_core.specs.{declared.held.Held.{Held, TheVariants.{Reply, Request, Record}}, Sets.{if_here, would_serve}, BlockState.{BlockState, own_switch, own_module, own_element}}

-- of a unit of each kind
abbrev pub switch_holds : Held → Switch → Bool
switch_holds Reply w = holds_replies w
switch_holds Request w = holds_requests w
switch_holds Record w = keeps_records w

abbrev pub module_holds : Held → ModuleState → Bool
module_holds Reply b = is_some b.out
module_holds Request b = is_some b.inp
module_holds Record b = false

abbrev pub element_holds : Held → ProcessingElement → Bool
element_holds Request e = holds_request e
element_holds other e = false

-- whether the unit with number n is here and holds it
abbrev pub holds_at : BlockState → Held → ℕ → Bool
holds_at b held n =
    of_unit b.stages
    (λ s k. if_here (switch_holds held) (own_switch b.switches n))
    (λ m. if_here (module_holds held) (own_module b.modules m))
    (λ p. if_here (element_holds held) (own_element b.elements p))
    false n

-- the set has exactly the numbers for which p is true
abbrev pub IsSetOf : (ℕ → Bool) → List ℕ → Type 0
IsSetOf p set = (n : ℕ) → has_unit set n ≡ p n

-- ---- nothing to do: it holds no message to send
abbrev pub HoldsNoReply : ℕ → BlockState → Type 0
HoldsNoReply n b = holds_at b Reply n ≡ false

abbrev pub HoldsNoRequest : ℕ → BlockState → Type 0
HoldsNoRequest n b = holds_at b Request n ≡ false

-- no message comes to it
abbrev pub GetsNoReply : ℕ → BlockState → Type 0
GetsNoReply n b = AreEmpty b.replies (reply_inlets b.stages n)

abbrev pub GetsNoRequest : ℕ → BlockState → Type 0
GetsNoRequest n b = AreEmpty b.requests (request_inlets b.stages n)

-- it is no module that would serve
abbrev pub ServesNothing : ℕ → BlockState → Type 0
ServesNothing n b =
    of_unit b.stages (λ s k. false) (λ m. if_here would_serve (own_module b.modules m)) (λ p. false)
    false n ≡ false

-- it is no processing element that is awake
abbrev pub IsAsleep : ℕ → BlockState → Type 0
IsAsleep n b =
    (p : ℕ) → IsElement b.stages n p
    → ForSome (own_element b.elements p) (λ e. IsTrue (is_at_rest b.program e))
