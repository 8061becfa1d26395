use Rattle.ultra_model.specs.Machine.{size}
use Rattle.ultra_measure.proofs.Known.{known_after, others_left_alone, due_below}
use Rattle.ultra_measure.proofs.element_states.ElementStates.note_cycle.Goals as goal

pub look_at_all-requires-clause-within : goal.look_at_all-requires-clause-within
look_at_all-requires-clause-within c =
    let b = c.args.blocks.now in
    due_below c.args.self.now (size b.config) b.machine.events _ _ c.requires.answered c.union-due.ensures c.requires.states.within

pub look_at_all-requires-clause-others : goal.look_at_all-requires-clause-others
look_at_all-requires-clause-others c =
    let b = c.args.blocks.now in
    let alone = others_left_alone c.args.self.now (size b.config) b.machine.events _ _ c.requires.answered c.union-due.ensures in
    known_after b.config b.program c.args.cycle b.machine c.requires.run (rw c.config.ensures at c.initial-valid.ensures.valid.range) c.args.self.now _ c.requires.states alone
