use Rattle.std.proofs.{Common.{arith, subst}, lemmas.List.take_all}
use Rattle.std.specs.List.{AllByRecursion}
use Rattle.ultra_list.specs.SerialText.{HasWords}
use Rattle.ultra_list.proofs.Written.{written_is_read}
use Rattle.ultra_list.proofs.entries_text_law.Goals as goal

pub returns : goal.returns
returns c =
    let es = c.args.entries.now in
    written_is_read es (subst (λ us. AllByRecursion HasWords us) (take_all c.loop-entry.entry-index es (omega arith)) c.loop-entry.invariant)
