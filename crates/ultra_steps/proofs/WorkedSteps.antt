-- steps of worked runs, computed from the definitions
use Rattle.std.specs.Prelude.{ℕ, ◌≡◌, List, [], ◌∷◌, ◌++◌, codes, refl}
use Rattle.std.specs.Fmt.{digits}
use Rattle.ultra_isa.specs.declared.Instr.{Instr}
use Rattle.ultra_isa.specs.declared.Instr.TheVariants as instr
use Rattle.ultra_model.specs.{Places.places, Machine.{Settings, start}, Trace.cycle_count}
use Rattle.ultra_model.specs.Phases.{after, cycle, reply_phase, memory_phase, request_phase, processor_phase, arriving_reply, arriving_request}
use Rattle.ultra_serial_law.specs.SerialList.{history}
use Rattle.ultra_steps.specs.StepLines.{steps_of_cycle, steps_of}

abbrev one_stage : Settings
one_stage = record { stages = 1; request_places = 4; reply_places = 8; wait_places = 4; most_open = 2; cells = 16; cycles = 1000; initial = [] }

abbrev line : List ℕ → List ℕ
line text = text ++ 10 ∷ []

-- both processing elements add 1 to cell 0
abbrev add_one : List Instr
add_one = instr.Set 1 0 ∷ instr.Set 2 1 ∷ instr.Faa 3 1 2 ∷ instr.Halt ∷ []

steps_of_pair : steps_of 0 1000000 one_stage add_one ≡
    line (codes "0 step 0 0 li r1 0 r1=0")
    ++ line (codes "0 step 1 0 li r1 0 r1=0")
    ++ line (codes "1 step 0 1 li r2 1 r2=1")
    ++ line (codes "1 step 1 1 li r2 1 r2=1")
    ++ line (codes "2 step 0 2 faa r3 r1 r2 0.0@0 faa 1")
    ++ line (codes "2 step 1 2 faa r3 r1 r2 1.0@0 faa 1")
    ++ line (codes "3 step 0 3 halt")
    ++ line (codes "3 step 1 3 halt")
    ++ line (codes "7 reply 0 r3=1 0.0@0")
    ++ line (codes "7 reply 1 r3=0 1.0@0")
unfolding steps_of steps_of_cycle history cycle_count after cycle start reply_phase memory_phase request_phase processor_phase arriving_reply arriving_request places digits
steps_of_pair = refl

-- processing element 0 adds 1 to cell 0 twice, and waits for the first answer
abbrev add_twice : List Instr
add_twice = instr.Number 1 ∷ instr.JumpIfNotZero 1 5 ∷ instr.Set 2 1 ∷ instr.Faa 3 0 2 ∷ instr.Faa 4 0 2 ∷ instr.Halt ∷ []

steps_of_two : steps_of 0 1000000 one_stage add_twice ≡
    line (codes "0 step 0 0 pid r1 r1=0")
    ++ line (codes "0 step 1 0 pid r1 r1=1")
    ++ line (codes "1 step 0 1 jnz r1 L5")
    ++ line (codes "1 step 1 1 jnz r1 L5")
    ++ line (codes "2 step 0 2 li r2 1 r2=1")
    ++ line (codes "2 step 1 5 halt")
    ++ line (codes "3 step 0 3 faa r3 r0 r2 0.0@0 faa 1")
    ++ line (codes "8 reply 0 r3=0 0.0@0")
    ++ line (codes "8 step 0 4 faa r4 r0 r2 0.1@0 faa 1")
    ++ line (codes "9 step 0 5 halt")
    ++ line (codes "13 reply 0 r4=1 0.1@0")
unfolding steps_of steps_of_cycle history cycle_count after cycle start reply_phase memory_phase request_phase processor_phase arriving_reply arriving_request places digits
steps_of_two = refl

-- each adds 1 to the cell of twice its number, which the second doesn't have
abbrev add_beyond : List Instr
add_beyond = instr.Number 1 ∷ instr.Add 1 1 1 ∷ instr.Set 2 1 ∷ instr.Faa 3 1 2 ∷ instr.Halt ∷ []

steps_of_fault : steps_of 3 1000000 record one_stage { cells = 1 } add_beyond ≡
    line (codes "3 step 0 3 faa r3 r1 r2 0.0@0 faa 1")
    ++ line (codes "3 step 1 3 faa r3 r1 r2 @2 f1")
    ++ line (codes "4 step 0 4 halt")
    ++ line (codes "8 reply 0 r3=0 0.0@0")
unfolding steps_of steps_of_cycle history cycle_count after cycle start reply_phase memory_phase request_phase processor_phase arriving_reply arriving_request places digits
steps_of_fault = refl

-- a program without instructions
steps_of_nothing : steps_of 0 1000000 one_stage [] ≡
    line (codes "0 step 0 0 end f2") ++ line (codes "0 step 1 0 end f2")
unfolding steps_of steps_of_cycle history cycle_count after cycle start reply_phase memory_phase request_phase processor_phase arriving_reply arriving_request places digits
steps_of_nothing = refl
