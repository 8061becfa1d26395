use Rattle.std.proofs.Common.{rules, ◌≡◌, ◌<◌, ◌-◌, ◌+◌, ◌%◌, ℕ, List, length, take, drop, reverse, arith, ap, ◌∙◌, sym, Vec, Global, slice_index_or}
use Rattle.std.proofs.lemmas.List.{drop_all, length-set, reverse-reverse, take_all, take_at}
use Rattle.ultra_block_core.specs.BlockState.{BlockState}
use Rattle.ultra_crew.specs.{declared.task.BlockTask.BlockTask, Tasks.{AreTeams, tasks_from, team}}
use Rattle.ultra_crew.proofs.Gathered.{gathered_next, left_next, none_left, not_done}
use Rattle.ultra_crew.proofs.teams.collect_from_teams.Goals as goal

pub loop-number-preserved-in-Continue-1 : goal.loop-number-preserved-in-Continue-1
loop-number-preserved-in-Continue-1 c =
    let so_far = c.loop-number.invariant in
    let k = c.loop-number.number - 1 in
    let now : k + 1 ≡ c.loop-number.number = let some = c.loop-number-test.true in omega (arith, some) in
    let was = c.index_mut.result.now in
    let all : c.len-workers.result ≡ length c.args.teams.now.items = search rules in
    let left : (bs : List BlockState) → length bs ≡ c.args.count → AreTeams (length c.args.teams.now.items) c.args.teams.now.items bs
    → (w : ℕ) (d : Vec BlockTask Global) → w < c.len-workers.result → (slice_index_or c.loop-number.teams.items w d).items ≡ team c.len-workers.result w (tasks_from 0 (take (k + 1) bs)) =
    λ bs e dealt w d l. so_far.left bs e dealt w d l ∙ ap (λ j. team c.len-workers.result w (tasks_from 0 (take j bs))) (sym now) in
    let below : (bs : List BlockState) → length bs ≡ c.args.count → k < length bs = λ bs e. let some = c.loop-number-test.true in let most = c.loop-number.auto.number in omega (arith, some, most, e) in
    record {
      many = length-set c.loop-number.teams.items (k % c.len-workers.result) c.pop.new.self ∙ so_far.many;
      gathered = λ bs e dealt.
          (rw c.into_block.ensures at c.in_ok-push.ensures.items)
          ∙ gathered_next c.len-workers.result (search rules) bs k (below bs e) c.loop-number.teams.items so_far.many (left bs e dealt) was c.index_mut.ensures.value
          c.in-Some.task c.pop.new.self c.in-Some.ensures.items c.loop-number.blocks.items (so_far.gathered bs e dealt ∙ ap (λ j. reverse (drop j bs)) (sym now));
      left = λ bs e dealt.
          left_next c.len-workers.result (search rules) bs k (below bs e) c.loop-number.teams.items so_far.many (left bs e dealt) was c.index_mut.ensures.value
          c.in-Some.task c.pop.new.self c.in-Some.ensures.items;
    }

pub loop-number-preserved : goal.loop-number-preserved
loop-number-preserved c =
    let so_far = c.loop-number.invariant in
    let k = c.loop-number.number - 1 in
    let now : k + 1 ≡ c.loop-number.number = let some = c.loop-number-test.true in omega (arith, some) in
    let was = c.index_mut.result.now in
    let left : (bs : List BlockState) → length bs ≡ c.args.count → AreTeams (length c.args.teams.now.items) c.args.teams.now.items bs
    → (w : ℕ) (d : Vec BlockTask Global) → w < c.len-workers.result → (slice_index_or c.loop-number.teams.items w d).items ≡ team c.len-workers.result w (tasks_from 0 (take (k + 1) bs)) =
    λ bs e dealt w d l. so_far.left bs e dealt w d l ∙ ap (λ j. team c.len-workers.result w (tasks_from 0 (take j bs))) (sym now) in
    let below : (bs : List BlockState) → length bs ≡ c.args.count → k < length bs = λ bs e. let some = c.loop-number-test.true in let most = c.loop-number.auto.number in omega (arith, some, most, e) in
    let none : length was.items ≡ 0 = let empty = c.in_default.ensures.cases.0 in omega (arith, was.ok, empty) in
    let never : (bs : List BlockState) → length bs ≡ c.args.count → AreTeams (length c.args.teams.now.items) c.args.teams.now.items bs → ⊥ = λ bs e dealt.
    not_done c.len-workers.result (search rules) bs k (below bs e) c.loop-number.teams.items so_far.many (left bs e dealt) was c.index_mut.ensures.value none in
    record {
      many = length-set c.loop-number.teams.items (k % c.len-workers.result) c.pop.new.self ∙ so_far.many;
      gathered = λ bs e dealt. absurd (never bs e dealt);
      left = λ bs e dealt. absurd (never bs e dealt);
    }

pub returns-clause-teams : goal.returns-clause-teams
returns-clause-teams c = λ bs e dealt. record {
  count = search rules;
  tasks = λ w d l.
      let none : c.loop-number.number ≡ 0 = let over = c.loop-number-test.false in omega (arith, over) in
      c.loop-number.invariant.left bs e dealt w d (search rules)
      ∙ ap (λ xs. team c.len-workers.result w (tasks_from 0 xs)) (none_left bs c.loop-number.number none);
}

pub loop-number-init : goal.loop-number-init
loop-number-init c =
    let teams = c.args.teams.now.items in
    let workers = c.len-workers.result in
    let all : length teams ≡ workers = let many = c.len-workers.ensures in let ok = c.args.teams.now.ok in omega (arith, many, ok.0) in
    record {
      many = all;
      gathered = λ bs e dealt. c.requires.empty ∙ sym (ap (λ (xs : List BlockState). reverse xs) (drop_all c.args.count bs (omega (arith, e))));
      left = λ bs e dealt w d l.
          dealt w d (omega (arith, l, all))
          ∙ ap (λ n. team n w (tasks_from 0 bs)) all
          ∙ ap (λ xs. team workers w (tasks_from 0 xs)) (sym (take_all c.args.count bs (omega (arith, e))));
    }

pub nonzero_rem-number : goal.nonzero_rem-number
nonzero_rem-number c = let many = c.len-workers.ensures in let some = c.requires.some_worker in let all = c.args.teams.now.ok in omega (arith, many, some, all.0)

pub index_mut-requires : goal.index_mut-requires
index_mut-requires c =
    let some = c.requires.some_worker in let many = c.len-workers.ensures in let len = c.loop-number.invariant.many in
    let all = c.args.teams.now.ok in let now = c.loop-number.teams.ok in
    omega (arith, some, many, len, all.0, now.0)

pub returns-in_err-push-clause-count : goal.returns-in_err-push-clause-count
returns-in_err-push-clause-count c =
    let many = c.len-workers.ensures in let all = c.args.teams.now.ok in
    length-set c.loop-number.teams.items ((c.loop-number.number - 1) % c.len-workers.result) c.pop.new.self ∙ c.loop-number.invariant.many ∙ omega (arith, many, all.0)

pub returns-clause-count : goal.returns-clause-count
returns-clause-count c =
    let many = c.len-workers.ensures in let all = c.args.teams.now.ok in let len = c.loop-number.invariant.many in
    omega (arith, many, len, all.0)

pub overflow_step-number : goal.overflow_step-number
overflow_step-number c = let some = c.loop-number-test.true in omega (arith, some)

pub returns-clause-blocks : goal.returns-clause-blocks
returns-clause-blocks c = λ bs e dealt.
    let none : c.loop-number.number ≡ 0 = let over = c.loop-number-test.false in omega (arith, over) in
    take_at c.reverse.new.self (drop (length c.reverse.new.self) c.loop-number.blocks.items) c.loop-number.blocks.len (c.reverse.ensures.len ∙ c.as_mut_slice.ensures.len)
    ∙ c.reverse.ensures.after
    ∙ ap (λ (xs : List BlockState). reverse xs) (c.as_mut_slice.ensures.value ∙ c.loop-number.invariant.gathered bs e dealt ∙ ap (λ n. reverse (drop n bs)) none)
    ∙ reverse-reverse bs
