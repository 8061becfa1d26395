-- a program that inserts nothing, which doesn't keep the queue's law
use Rattle.std.specs.Prelude.{List, [], ◌∷◌}
use Rattle.ultra_isa.specs.declared.Instr.{Instr}
use Rattle.ultra_isa.specs.declared.Instr.TheVariants.{AddWord, Subtract, Number, Size, Store, Halt}
use Rattle.ultra_colib.specs.{Schedules.IsKeptBySchedules, Queue.AreItemsOnce}

-- each processing element stores a number that some processing element would insert into its result
-- cell of a queue with one place: no two store the same
abbrev pub no_queue : List Instr
no_queue =
    Number 1 ∷ Size 2 ∷ Subtract 3 2 1 ∷ AddWord 4 1 10 ∷ Store 4 3 ∷ Halt ∷ []

abbrev pub IsNoQueueRefused : Type 0
IsNoQueueRefused = ¬ IsKeptBySchedules no_queue (AreItemsOnce 0 1)
