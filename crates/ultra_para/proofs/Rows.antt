-- worked runs of the paracomputer
use Rattle.std.specs.Prelude.{◌≡◌, List, [], ◌∷◌, true, false, refl, slice_index}
use Rattle.ultra_isa.specs.declared.Instr.{Instr, TheVariants.{Set, Faa, Swap, Fence, Halt}}
use Rattle.ultra_model.specs.Places.{places}
use Rattle.ultra_model.proofs.Pairs.{one_stage, add_one}
use Rattle.ultra_para.specs.{Para.{Para, core_at, start_para, run_para}, Careful.is_careful}

-- two steps to the operation and the operation: 0 is served first
add_in_turn : Para
add_in_turn = run_para one_stage add_one (start_para one_stage) (0 ∷ 0 ∷ 0 ∷ 1 ∷ 1 ∷ 1 ∷ [])

first_finds_0 : slice_index (core_at add_in_turn 0).registers 3 ≡ 0
unfolding add_in_turn places
first_finds_0 = refl

second_finds_1 : slice_index (core_at add_in_turn 1).registers 3 ≡ 1
unfolding add_in_turn places
second_finds_1 = refl

cell_holds_2 : slice_index add_in_turn.cells 0 ≡ 2
unfolding add_in_turn places
cell_holds_2 = refl

not_careful : is_careful add_one ≡ false
not_careful = refl

abbrev add_one_carefully : List Instr
add_one_carefully = Set 1 0 ∷ Set 2 1 ∷ Faa 3 1 2 ∷ Fence ∷ Halt ∷ []

careful : is_careful add_one_carefully ≡ true
careful = refl

-- a fence does nothing, and who has halted stays
fence_then_halt : (core_at (run_para one_stage add_one_carefully (start_para one_stage) (0 ∷ 0 ∷ 0 ∷ 0 ∷ 0 ∷ 0 ∷ [])) 0).pc ≡ 4
unfolding places
fence_then_halt = refl

-- a swap gives the old value and leaves the new one
abbrev exchange : List Instr
exchange = Set 1 0 ∷ Set 2 7 ∷ Swap 3 1 2 ∷ Fence ∷ Halt ∷ []

swapped : Para
swapped = run_para one_stage exchange (start_para one_stage) (0 ∷ 1 ∷ 0 ∷ 1 ∷ 1 ∷ 0 ∷ [])

swap_leaves : slice_index swapped.cells 0 ≡ 7
unfolding swapped places
swap_leaves = refl

first_gets_0 : slice_index (core_at swapped 1).registers 3 ≡ 0
unfolding swapped places
first_gets_0 = refl

second_gets_7 : slice_index (core_at swapped 0).registers 3 ≡ 7
unfolding swapped places
second_gets_7 = refl
