-- an effect of the code as one of the definition
use Rattle.std.specs.Prelude.{◌≤◌}
use Rattle.ultra_isa.specs.declared.{processor.Effect.{Effect as Found, TheVariants.{Sets, GoesOnAt, Refers, Waits, Halts}}, TheConstants.MOST_INSTRUCTIONS}
use Rattle.ultra_isa.specs.Instruction.{Effect, sets, goes_on_at, refers, waits, halts}

abbrev pub meaning : Found → Effect
meaning (Sets d v) = sets d v
meaning (GoesOnAt pc) = goes_on_at pc
meaning (Refers a o target) = refers a o target
meaning Waits = waits
meaning Halts = halts

-- where an effect goes on at a program counter, it is at most the length of the longest program
abbrev pub StaysWithin : Effect → Type 0
StaysWithin (sets d v) = Unit {0}
StaysWithin (goes_on_at pc) = pc ≤ MOST_INSTRUCTIONS
StaysWithin (refers a o target) = Unit {0}
StaysWithin waits = Unit {0}
StaysWithin halts = Unit {0}
