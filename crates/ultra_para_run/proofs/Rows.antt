-- worked texts of the paracomputer, and worked schedules
use Rattle.std.specs.Prelude.{◌≡◌, ℕ, List, [], ◌∷◌, ◌++◌, true, false, refl, codes}
use Rattle.std.specs.Fmt.{digits}
use Rattle.ultra_isa.specs.declared.Instr.{Instr, TheVariants.{Set, Load}}
use Rattle.ultra_model.specs.{Places.places, Trace.registers_text}
use Rattle.ultra_model.proofs.Pairs.{one_stage, add_one}
use Rattle.ultra_para.specs.Report.{step_report}
use Rattle.ultra_para_run.specs.{ScheduleText.{are_pes, IsScheduleText}, ParaText.{count_of_acts, next_line, para_end, para_text}, SeededSchedule.{next_number, drawn_pe, drawn_from, seeded_schedule}}

abbrev line : List ℕ → List ℕ
line text = text ++ 10 ∷ []

-- two steps to the operation and the operation, first of 0, then of 1
add_in_turn : para_text one_stage add_one false (0 ∷ 0 ∷ 0 ∷ 1 ∷ 1 ∷ 1 ∷ [])
    ≡ line (codes "0.0 faa 0 1 = 0") ++ line (codes "1.0 faa 0 1 = 1") ++ line (codes "end steps 6 running") ++ line (codes "cell 0 2")
    ++ line (codes "pe 0 running 3 r2=1") ++ line (codes "pe 1 running 3 r2=1 r3=1")
unfolding digits para_text count_of_acts next_line step_report para_end registers_text places
add_in_turn = refl

-- the end alone; the steps of an element that has stopped count, and write nothing
stops : List Instr
stops = Set 1 99 ∷ Load 2 1 ∷ []

faults_once : para_text one_stage stops false (0 ∷ 0 ∷ 0 ∷ []) ≡ line (codes "fault 0 f1") ++ line (codes "end steps 3 running") ++ line (codes "pe 0 f1 1 r1=99") ++ line (codes "pe 1 running 0")
unfolding digits stops para_text count_of_acts next_line step_report para_end registers_text places
faults_once = refl

only_the_end : para_text one_stage stops true (0 ∷ 0 ∷ 0 ∷ []) ≡ line (codes "end steps 3 running") ++ line (codes "pe 0 f1 1 r1=99") ++ line (codes "pe 1 running 0")
unfolding digits stops para_text count_of_acts next_line step_report para_end registers_text places
only_the_end = refl

drawn_by_1 : seeded_schedule one_stage add_one 1 3 ≡ 0 ∷ 1 ∷ 1 ∷ []
unfolding next_number drawn_pe drawn_from places
drawn_by_1 = refl

written : IsScheduleText 2 (codes "0,1 # 7\n\t001") (0 ∷ 1 ∷ 1 ∷ [])
written = record { words = refl; numbers = refl }

too_large : are_pes 2 (codes "2") ≡ false
too_large = refl
