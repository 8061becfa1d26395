use Rattle.std.proofs.Common.{refl, ◌≡◌, ◌%◌, length, subst, [], ◌∷◌, ◌++◌, arith, ap, ◌∙◌, sym, length-append}
use Rattle.std.proofs.lemmas.{List.{length-set, map-id, take_all}, Iterator.Consumers.{YieldsList-from_shown, YieldsList-turn, YieldsList-end}}
use Rattle.std.specs.Vec.Iter.{drain_items, drain_steps}
use Rattle.ultra_crew.specs.Tasks.{AreTeams, task, tasks_from, team}
use Rattle.ultra_crew.proofs.TasksDealt.{dealt_next, tasks_more}
use Rattle.ultra_crew.proofs.teams.deal_to_teams.Goals as goal

pub loop-block-preserved : goal.loop-block-preserved
loop-block-preserved c =
    let so_far = c.loop-block.invariant in
    let workers = c.len-workers.result in
    let number = c.loop-block.number in
    let t = task number c.in-Some.block in
    let ts = tasks_from 0 c.loop-block.yielded in
    record {
      len = length-set c.loop-block.teams.items (number % workers) c.push.new.self ∙ so_far.len;
      number = let h = so_far.number in let e = length-append c.loop-block.yielded (c.in-Some.block ∷ []) in omega (arith, h, e);
      each = λ w d below.
          dealt_next workers ts t c.loop-block.teams.items c.push.new.self so_far.each so_far.len number refl c.index_mut.result.now c.index_mut.ensures.value (rw c.new.ensures at c.in_ok-push.ensures.items) w d below
          ∙ ap (λ n. team workers w (ts ++ task n c.in-Some.block ∷ [])) (let h = so_far.number in omega (arith, h))
          ∙ ap (λ us. team workers w us) (sym (tasks_more 0 c.loop-block.yielded c.in-Some.block));
    }

pub nonzero_rem-number : goal.nonzero_rem-number
nonzero_rem-number c = let many = c.len-workers.ensures in let some = c.requires.some_worker in let all = c.args.teams.now.ok in omega (arith, many, some, all.0)

pub index_mut-requires : goal.index_mut-requires
index_mut-requires c =
    let some = c.requires.some_worker in let many = c.len-workers.ensures in let len = c.loop-block.invariant.len in
    let all = c.args.teams.now.ok in let now = c.loop-block.teams.ok in
    omega (arith, some, many, len, all.0, now.0)

pub returns-in_err-push-clause-count : goal.returns-in_err-push-clause-count
returns-in_err-push-clause-count c =
    let many = c.len-workers.ensures in let all = c.args.teams.now.ok in
    length-set c.loop-block.teams.items (c.loop-block.number % c.len-workers.result) c.push.new.self ∙ c.loop-block.invariant.len ∙ omega (arith, many, all.0)

pub returns-clause-count : goal.returns-clause-count
returns-clause-count c =
    let many = c.len-workers.ensures in let all = c.args.teams.now.ok in let len = c.loop-block.invariant.len in
    omega (arith, many, len, all.0)

pub loop-block-init : goal.loop-block-init
loop-block-init c =
    let many = c.len-workers.ensures in let ok = c.args.teams.now.ok in
    let all : length c.args.teams.now.items ≡ c.len-workers.result = omega (arith, many, ok.0) in
    record { len = all; number = refl; each = λ w d below. c.requires.empty.tasks w d (omega (arith, all, below)) }

pub returns-clause-teams : goal.returns-clause-teams
returns-clause-teams c =
    let teams = c.args.teams.now.items in
    let blocks = c.args.blocks.now.items in
    let s = c.into_iter-block-iterator.result in
    let many = c.len-workers.ensures in let ok = c.args.teams.now.ok in
    let all : length teams ≡ c.len-workers.result = omega (arith, many, ok.0) in
    let whole : drain_items s ≡ blocks = ap drain_items c.into_iter-block-iterator.ensures.into_iter_gives ∙ c.drain-block-items.ensures.rest ∙ take_all _ blocks (omega (arith, c.args.blocks.now.ok.0)) in
    let end = YieldsList-end (YieldsList-from_shown drain_steps (λ x. x) drain_items (λ _ _ h. ap length h.0) (λ _ _ _ h. h.0) s) c.loop-block.yielded _ c.loop-block.yielded_by _ _ c.in-None.is c.next.ensures.steps in
    subst (λ bs. AreTeams (length teams) c.loop-block.teams.items bs) (sym (map-id c.loop-block.yielded) ∙ end.0 ∙ whole) (subst (λ n. AreTeams n c.loop-block.teams.items c.loop-block.yielded) (sym all) c.loop-block.invariant.each)

pub overflow_add-number : goal.overflow_add-number
overflow_add-number c =
    let blocks = c.args.blocks.now.items in
    let s = c.into_iter-block-iterator.result in
    let whole : drain_items s ≡ blocks = ap drain_items c.into_iter-block-iterator.ensures.into_iter_gives ∙ c.drain-block-items.ensures.rest ∙ take_all _ blocks (omega (arith, c.args.blocks.now.ok.0)) in
    let turn = YieldsList-turn (YieldsList-from_shown drain_steps (λ x. x) drain_items (λ _ _ h. ap length h.0) (λ _ _ _ h. h.0) s) c.loop-block.yielded _ c.loop-block.yielded_by _ _ c.in-Some.block c.in-Some.is c.next.ensures.steps in
    let some = turn.0 in let all = ap length whole in let number = c.loop-block.invariant.number in
    let ok = c.args.blocks.now.ok in let small = c.args.blocks.now.small in
    omega (arith, some, all, number, ok.0)
