use Rattle.std.proofs.Common.{◌≡◌, length, refl, sym, ◌∙◌, ap, arith}
use Rattle.ultra_holders.specs.Holders.{holders_left}
use Rattle.ultra_holders.proofs.holders.HoldersIterator.next.Goals as goal
use Rattle.ultra_holders.proofs.holders.HoldersIterator.next.Goals.{else-self-eq0-via-then-self-eq0+else-not-go_on, else-self-eq0-via-else-self-eq0}

pub returns-clause-steps : goal.returns-clause-steps
returns-clause-steps c =
    let same : holders_left c.args.self.now ≡ holders_left c.else-self-eq0.self = elim c.else-self-eq0.branch [
      | else-self-eq0-via-then-self-eq0+else-not-go_on w ↦ rw w.self-is (sym (w.go_on.ensures.same w.if-not-go_on.false))
      | else-self-eq0-via-else-self-eq0 w ↦ rw w.self-is refl
    ] in
    same ∙ c.take_first.ensures

pub returns-clause-goes : goal.returns-clause-goes
returns-clause-goes c =
    let lengths = ap length (returns-clause-steps c) in
    record { on = λ _. (tt, tt, omega arith); keeps = tt; rests = λ _. tt }
