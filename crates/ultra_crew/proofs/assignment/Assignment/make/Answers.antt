use Rattle.std.proofs.Common.{◌≡◌, suc, List, [], ◌∷◌, ◌++◌, length, take, drop, ap, refl, sym, subst, ◌∙◌, arith, Vec, Global, All, map}
use Rattle.std.proofs.lemmas.List.{take_at}
use Rattle.ultra_isa.specs.declared.Instr.{Instr}
use Rattle.ultra_block_core.specs.declared.{half.Half.Half, rooms.Rooms.Rooms}
use Rattle.ultra_block_core.proofs.OwnProgram.{made_by_own}
use Rattle.ultra_crew.specs.{Tasks.{CanBeMade, task_after_own_half, task_after_half}, declared.task.BlockTask.BlockTask}
use Rattle.ultra_crew.proofs.assignment.Assignment.make.Goals as goal

-- tasks that were done through a slice of a team are the results of the team
done_in : (team : Vec BlockTask Global) (f : BlockTask → BlockTask) (before after results : List BlockTask) → length after ≡ length before → length before ≡ team.len → after ≡ map f before → before ≡ team.items → map f team.items ≡ results
    → take team.len (after ++ drop (length after) team.items) ≡ results
done_in team f before after results kept len done whole settled = take_at after (drop (length after) team.items) team.len (kept ∙ len) ∙ done ∙ ap (map f) whole ∙ settled

-- tasks of blocks that run a program are done by it
tasks_by_own : (program : List Instr) (h : Half) (rooms : Rooms) (ts : List BlockTask) → All (CanBeMade program h) ts → map (task_after_own_half h rooms) ts ≡ map (task_after_half h rooms program) ts
tasks_by_own program h rooms [] can = refl
tasks_by_own program h rooms (t ∷ ts) can =
    ap (λ b. record t { block = b } ∷ map (task_after_own_half h rooms) ts) (made_by_own program t.block h rooms (can 0 t (omega arith)))
    ∙ ap (λ xs. task_after_half h rooms program t ∷ xs) (tasks_by_own program h rooms ts (λ i d below. can (suc i) d (omega arith)))

pub make_all-requires : goal.make_all-requires
make_all-requires g c = (g.J.ExpectedResults.program, subst (λ (ts : List BlockTask). All (CanBeMade g.J.ExpectedResults.program c.self.inside.name.half) ts) (sym c.as_mut_slice.ensures.value) c.self.invariant.0)

pub invariant_of-result : goal.invariant_of-result
invariant_of-result g c =
    let o = c.self.inside in
    record {
      settled =
          done_in o.team (task_after_own_half o.name.half o.rooms) c.as_mut_slice.result.now c.make_all.new.team (g.J.ExpectedResults.results o.name.cycle o.name.half o.name.worker)
          c.make_all.auto.team c.as_mut_slice.ensures.len c.make_all.ensures c.as_mut_slice.ensures.value
          (tasks_by_own g.J.ExpectedResults.program o.name.half o.rooms o.team.items c.self.invariant.0 ∙ c.self.invariant.1);
    }
