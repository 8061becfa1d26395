-- a processing element that can make no step is left as it is by one, and still can make none when a request has left it
use Rattle.std.proofs.Common.{◌≡◌, ◌≢◌, ℕ, List, length-append, true, false, arith, Some, None}
use Rattle.ultra_unit_steps.proofs.Common.{Event, Instr, Stop, has_stopped, issue_event, stop_of}
use Rattle.ultra_unit_steps.specs.Elements.{element_of, step_at, executed, is_at_rest, changes_nothing, holds_request}
use Rattle.ultra_unit_steps.specs.declared.elements.ProcessingElement.{ProcessingElement}

module _ (program : List Instr) (e : ProcessingElement) where
  -- one that is at rest: a step leaves it as it is, issues nothing, and doesn't stop it
  pub record IsLeft : Type 0 where
    pub element : executed program e ≡ e
    pub issue : issue_event (element_of e) (step_at program e).sent ≡ None
    pub stop : (p : ℕ) → stop_of p (step_at program e).was ≡ None

  pub left_at_rest : is_at_rest program e ≡ true → IsLeft
  unfolding changes_nothing
  left_at_rest h = record { element = grind arith; issue = grind arith; stop = grind arith }

  -- a step that issues nothing leaves the interface as it is
  pub holds_as_before : issue_event (element_of e) (step_at program e).sent ≡ None → holds_request (executed program e) ≡ holds_request e
  holds_as_before none = grind arith

  -- it had not stopped, where it isn't at rest
  pub went_on : is_at_rest program e ≢ true → has_stopped e.processor.core.activity ≡ false
  unfolding changes_nothing
  went_on moves = grind arith

  -- it holds the request that it has issued, and goes on
  pub issued_holds : (event : Event) → issue_event (element_of e) (step_at program e).sent ≡ Some event → holds_request (executed program e) ≡ true
  issued_holds event is = grind (arith, length-append)

  pub issued_runs : (event : Event) → issue_event (element_of e) (step_at program e).sent ≡ Some event
      → has_stopped (executed program e).processor.core.activity ≡ has_stopped e.processor.core.activity
  issued_runs event is = grind arith

  -- it has stopped where it has faulted
  pub faulted_stops : (p : ℕ) (stop : Stop) → stop_of p (step_at program e).was ≡ Some stop → has_stopped (executed program e).processor.core.activity ≡ true
  faulted_stops p stop is = grind arith
