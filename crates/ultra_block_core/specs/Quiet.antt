-- a block in which nothing is left to do
use Rattle.std.specs.Prelude.{Bool, true, not, ◌&&◌, Option, Some, None}
use Rattle.ultra_block_core.specs.Prelude.{ProcessingElement, has_stopped, list_all, quiet_switch, quiet_module, quiet_element}
use Rattle.ultra_block_core.specs.BlockState.{BlockState}

-- a test is true of a unit, or the unit is elsewhere
abbrev pub or_elsewhere : {X : Type 0} → (X → Bool) → Option X → Bool
or_elsewhere p None = true
or_elsewhere p (Some x) = p x

-- each unit that is here is quiet
abbrev pub quiet_block : BlockState → Bool
quiet_block b =
    list_all (or_elsewhere quiet_switch) b.switches
    && (list_all (or_elsewhere quiet_module) b.modules
    && list_all (or_elsewhere quiet_element) b.elements)

-- a processing element has yet to stop
abbrev pub is_running : ProcessingElement → Bool
is_running e = not (has_stopped e.processor.core.activity)
