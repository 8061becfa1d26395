use Rattle.std.proofs.Common.{◌∙◌, sym, inl, inr, refl, get_or, false, arith, pos}
use Rattle.std.proofs.lemmas.List.{length-replicate, take_more, take_all, get_or_read, get_or-replicate}
use Rattle.ultra_model.proofs.InitialCells.{IsMarked, refused_at, marked_none, marked_more, named_again, AllPairs-different, all_accepted}
use Rattle.ultra_model.proofs.config.initial_within.Goals as goal

pub loop-pair-init : goal.loop-pair-init
loop-pair-init c =
    rw (c.in_ok-is_given.ensures.items_if_clones_equal, c.new-initial.ensures.items)
    (marked_none c.args.all_cells _ (length-replicate c.args.all_cells false) (λ k h. get_or-replicate c.args.all_cells k false false h))

-- a pair that isn't a cell
pub returns-in_default-clause-refused : goal.returns-in_default-clause-refused
returns-in_default-clause-refused c =
    (refl, refused_at _ c.args.given.now c.loop-pair.pair-index _ c.loop-pair-test.true (inl c.in_default.ensures.refused))

-- a cell whose mark is set
pub returns-then-index-clause-refused : goal.returns-then-index-clause-refused
returns-then-index-clause-refused c =
    let so_far = c.loop-pair.invariant in
    let cell = c.in-Some.cell in
    let read = get_or_read c.loop-pair.is_given.items cell.0 _ (omega (arith, so_far.size, c.in-Some.ensures.address)) c.index.ensures false in
    let pair = get_or c.args.given.now c.loop-pair.pair-index (pos 0, pos 0) in
    let named = named_again _ _ pair _ _ cell so_far c.in-Some.ensures.value c.in-Some.ensures.address (sym read ∙ c.if-index.true) in
    (refl, refused_at _ c.args.given.now c.loop-pair.pair-index (pos 0, pos 0) c.loop-pair-test.true (inr named))

pub loop-pair-preserved : goal.loop-pair-preserved
loop-pair-preserved c =
    let so_far = c.loop-pair.invariant in
    let cell = c.in-Some.cell in
    let read = get_or_read c.loop-pair.is_given.items cell.0 _ (omega (arith, so_far.size, c.in-Some.ensures.address)) c.index.ensures false in
    rw (take_more c.args.given.now c.loop-pair.pair-index (pos 0, pos 0) c.loop-pair-test.true, c.in_ok-push.ensures.items)
    (marked_more _ _ _ _ _ cell so_far c.in-Some.ensures.good c.in-Some.ensures.value c.in-Some.ensures.address c.in-Some.ensures.word (sym read ∙ c.if-index.false))

pub returns-clause-different : goal.returns-clause-different
returns-clause-different c = AllPairs-different c.loop-pair.initial'.items c.loop-pair.invariant.different

all_marked : (c : goal.After-drop-is_given-2) → IsMarked c.args.all_cells c.args.given.now c.loop-pair.is_given.items c.loop-pair.initial'.items
all_marked c = rw (take_all c.loop-pair.pair-index c.args.given.now c.loop-pair-test.false) at c.loop-pair.invariant

pub returns-clause-accepted : goal.returns-clause-accepted
returns-clause-accepted c = all_accepted _ _ _ _ (all_marked c)

pub returns-clause-value : goal.returns-clause-value
returns-clause-value c = (all_marked c).value
