-- the units of a machine before its first cycle
use Rattle.std.specs.Prelude.{ℕ, ◌+◌, ◌*◌, List, None}
use Rattle.ultra_mem.specs.Serve.{ModuleState}
use Rattle.ultra_isa.specs.Step.{fresh_core}
use Rattle.ultra_model.specs.{Machine.{Settings, given_value, site, size}, Places.places}
use Rattle.ultra_pni.specs.Interface.{empty_interface}
use Rattle.ultra_unit_steps.specs.declared.elements.ProcessingElement.{ProcessingElement}

-- module m of `size`, whose cells have the values that a list gives by address
abbrev pub initial_module : ℕ → ℕ → ℕ → List (ℕ × ℕ) → ModuleState
initial_module size m cells initial = record {
  cells = places cells (λ o. given_value initial (o * size + m) 0);
  inp = None;
  out = None;
}

-- module m before the first cycle, and processing element p
abbrev pub first_module : Settings → ℕ → ModuleState
first_module c m = initial_module (size c) m c.cells c.initial

abbrev pub first_element : Settings → ℕ → ProcessingElement
first_element c p = record {
  processor = record { site = site c p; core = fresh_core };
  interface = record { interface = empty_interface; most_open = c.most_open };
  issued = 0;
}
