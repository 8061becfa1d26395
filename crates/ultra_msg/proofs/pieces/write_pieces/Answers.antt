use Rattle.std.proofs.Common.{◌≡◌, ℕ, ◌+◌, ◌<◌, length, get_or, List, [], ◌++◌, drop, Result, Ok, Err, IsErr, ap}
use Rattle.std.specs.Borrow.{Bor}
use Rattle.std.proofs.lemmas.List.{drop_all, drop_more}
use Rattle.ultra_msg.specs.Bytes.{joined_pieces, WritesOrFails}
use Rattle.ultra_msg.proofs.Writing.{IsSoFar, writes_nothing, so_far_none, so_far_more, so_far_failed, so_far_last}
use Rattle.ultra_msg.proofs.pieces.write_pieces.Goals as goal

next_piece : (ps : List (Bor (List ℕ))) (k : ℕ) (d : Bor (List ℕ)) → k < length ps → joined_pieces (drop k ps) ≡ (get_or ps k d).now ++ joined_pieces (drop (k + 1) ps)
next_piece ps k d within = ap joined_pieces (drop_more ps k d within)

module _ {E : Type 0} {whole old now new : List ℕ} {before middle after : ℕ} (ps : List (Bor (List ℕ))) (k : ℕ) (d : Bor (List ℕ)) (within : k < length ps) where
  piece_more : {U : Type 0} {x : U} → IsSoFar E whole (joined_pieces (drop k ps)) old now before middle → WritesOrFails {E = E} (Ok x) (get_or ps k d).now now new middle after → IsSoFar E whole (joined_pieces (drop (k + 1) ps)) old new before after
  piece_more m w = so_far_more (get_or ps k d).now (joined_pieces (drop (k + 1) ps)) (rw (next_piece ps k d within) at m) w

  piece_failed : {T U : Type 0} {e : E} (r : Result U E) → IsErr r → IsSoFar E whole (joined_pieces (drop k ps)) old now before middle → WritesOrFails {T = T} (Err e) (get_or ps k d).now now new middle after → WritesOrFails r whole old new before after
  piece_failed r bad m w = so_far_failed (get_or ps k d).now (joined_pieces (drop (k + 1) ps)) r bad (rw (next_piece ps k d within) at m) w

pub loop-piece-init : goal.loop-piece-init
loop-piece-init g c = so_far_none (joined_pieces c.args.pieces.now) _ _

pub loop-piece-preserved : goal.loop-piece-preserved
loop-piece-preserved g c = piece_more c.args.pieces.now c.loop-piece.piece-index _ c.loop-piece-test.true c.loop-piece.invariant c.in_ok-write_piece.ensures

pub returns-in_err-write_piece : goal.returns-in_err-write_piece
returns-in_err-write_piece g c = piece_failed c.args.pieces.now c.loop-piece.piece-index _ c.loop-piece-test.true c.from_residual.result c.from_residual.ensures.0 c.loop-piece.invariant c.in_err-write_piece.ensures

pub returns : goal.returns
returns g c =
    let all = rw (drop_all c.loop-piece.piece-index c.args.pieces.now c.loop-piece-test.false) at c.loop-piece.invariant in
    so_far_last [] (Ok tt) all (writes_nothing _ _)
