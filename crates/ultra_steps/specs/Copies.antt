-- copies of the processing elements of a machine, which make the same steps
use Rattle.std.specs.Prelude.{◌≡◌, ℕ, ◌<◌, List, [], length, slice_index_or}
use Rattle.ultra_isa.specs.{declared.Instr.Instr}
use Rattle.ultra_model.specs.{Machine.{Settings, Element, fresh_element, size, site}, Phases.issues_after}
use Rattle.ultra_unit_steps.specs.declared.elements.ProcessingElement.{ProcessingElement}
use Rattle.ultra_unit_steps.specs.Elements.{step_at}

-- a copy of processing element p. It keeps no pending requests: no step depends on them
abbrev pub copy_of : Settings → ℕ → Element → ProcessingElement
copy_of c p e = record {
  processor = record { site = site c p; core = e.core };
  interface = record {
    interface = record { opened = e.interface.opened; pending = [] };
    most_open = c.most_open;
  };
  issued = e.issued;
}

-- a copy after its step
abbrev pub stepped_copy : List Instr → ProcessingElement → ProcessingElement
stepped_copy program e =
    let t = step_at program e in
    record {
      processor = record e.processor { core = t.core };
      interface = record e.interface {
        interface = record { opened = t.interface.opened; pending = [] };
      };
      issued = issues_after e.issued t.sent;
    }

abbrev pub copy_at : Settings → List ProcessingElement → ℕ → ProcessingElement
copy_at c copies p = slice_index_or copies p (copy_of c p fresh_element)

-- a copy of each processing element, by number
pub record AreCopies (c : Settings) (f : ℕ → Element) (copies : List ProcessingElement)
    : Type 0 where
  pub count : length copies ≡ size c
  pub each : (p : ℕ) → p < size c → copy_at c copies p ≡ copy_of c p (f p)
