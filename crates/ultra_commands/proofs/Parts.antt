-- the part with all lines of all cycles is the trace
use Rattle.std.proofs.Common.{◌≡◌, ◌∙◌, ℕ, ◌≤◌, List, ap, refl}
use Rattle.ultra_isa.specs.declared.Instr.{Instr}
use Rattle.ultra_model.specs.{Machine.Settings, Trace.trace}
use Rattle.ultra_trace_alone.specs.{declared.part.{CycleLines.{CycleLines, TheVariants.All}, TracePart.TracePart}, Part.part_of}
use Rattle.ultra_trace_alone.proofs.Parts.{whole_part}
use Rattle.ultra_commands.specs.Stops.{IsAll}

abbrev part_with : ℕ → ℕ → CycleLines → TracePart
part_with from to lines = record { from = from; to = to; lines = lines }

same_part : (from to : ℕ) (lines : CycleLines) → from ≡ 0 → to ≡ 1000000 → lines ≡ All → part_with from to lines ≡ part_with 0 1000000 All
same_part from to lines a b c = rw (a, b, c) refl

pub all_is_trace : (part : TracePart) (c : Settings) (p : List Instr) → c.cycles ≤ 1000000 → IsAll part → part_of part c p ≡ trace c p
all_is_trace part c p most all =
    ap (λ q. part_of q c p) (same_part part.from part.to part.lines all.from all.to all.lines) ∙ whole_part c p most
