-- a processing element after each half of a cycle
use Rattle.std.specs.Prelude.{List, [], Bool, true, false, not, ◌&&◌, Option, Some, None}
use Rattle.ultra_unit_steps.specs.Prelude.{ReplyMessage, Event, Stop, Instr, StepResult, has_stopped, step_of, after_leaving, Element, deliver, stepped}
use Rattle.ultra_isa.specs.declared.Step.{Step, TheVariants.{Stalled, Halted}}
use Rattle.ultra_unit_steps.specs.{Halves.has_none, declared.elements.{ProcessingElement.ProcessingElement, StepOutcome.{StepOutcome, TheVariants.{Issued, Faulted}}}}

-- what the definition of the whole machine sees of it
abbrev pub element_of : ProcessingElement → Element
element_of e =
    record { core = e.processor.core; interface = e.interface.interface; issued = e.issued }

-- one that it sees so
abbrev pub with_element : ProcessingElement → Element → ProcessingElement
with_element e v = record {
  processor = record e.processor { core = v.core };
  interface = record e.interface { interface = v.interface };
  issued = v.issued;
}

abbrev pub delivered_to : ProcessingElement → Option ReplyMessage → ProcessingElement
delivered_to e o = with_element e (deliver (element_of e) o)

-- without its first waiting request where one leaves
abbrev pub element_without : {X : Type 0} → ProcessingElement → Option X → ProcessingElement
element_without e o =
    record e {
      interface = record e.interface {
        interface = record e.interface.interface {
          pending = after_leaving o e.interface.interface.pending;
        };
      };
    }

abbrev pub step_at : List Instr → ProcessingElement → StepResult
step_at program e =
    step_of e.processor.site e.interface.most_open program e.processor.core e.interface.interface

abbrev pub executed : List Instr → ProcessingElement → ProcessingElement
executed program e = with_element e (stepped (element_of e) (step_at program e))

-- the issue of an outcome, and its stop, if it has one
abbrev pub issue_in : StepOutcome → Option Event
issue_in (Issued e) = Some e
issue_in outcome = None

abbrev pub stop_in : StepOutcome → Option Stop
stop_in (Faulted s) = Some s
stop_in outcome = None

-- ---- steps that change nothing
unfoldable pub changes_nothing : Step → Bool
changes_nothing Stalled = true
changes_nothing Halted = true
changes_nothing other = false

-- whether a step of the program leaves it as it is, whatever requests wait in its interface
abbrev pub is_at_rest : List Instr → ProcessingElement → Bool
is_at_rest program e =
    let i = record e.interface.interface { pending = [] } in
    changes_nothing (step_of e.processor.site e.interface.most_open program e.processor.core i).was

-- ---- what it holds
abbrev pub holds_request : ProcessingElement → Bool
holds_request e = not (has_none e.interface.interface.pending)

-- it has halted or faulted, no cell is open, and no request waits
abbrev pub quiet_element : ProcessingElement → Bool
quiet_element e =
    has_stopped e.processor.core.activity
    && (has_none e.interface.interface.opened && has_none e.interface.interface.pending)
