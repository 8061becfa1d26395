use Rattle.std.proofs.Common.{◌≡◌, ◌-◌, true, false, not, ap, sym, ◌∙◌}
use Rattle.std.specs.Prelude.{is_some, option_map}
use Rattle.ultra_mem.specs.{declared.Placed.Placed, Serve.ModuleState}
use Rattle.ultra_model.specs.Machine.{module_at}
use Rattle.ultra_statistics.proofs.Moving.{free_without_request, free_without_reply, free_with_room}
use Rattle.ultra_statistics.proofs.moves.takes_request.Goals as goal

pub returns-then-is_none : goal.returns-then-is_none
returns-then-is_none c =
    let b = c.args.blocks.now in
    let range = rw c.config.ensures at c.initial-valid.ensures.valid.range in
    let waits : is_some (option_map (λ (p : Placed). p.request) (module_at b.machine c.args.number).inp) ≡ not true =
    ap (λ (s : ModuleState). is_some (option_map (λ (p : Placed). p.request) s.inp)) (sym c.memory_module-memory_module.ensures.state)
    ∙ ap is_some (sym c.request.ensures) ∙ c.is_none.ensures ∙ ap not c.if-is_none.true in
    sym (free_without_request b.config range b.machine c.args.number c.requires.number waits)

pub returns-then-is_none-2 : goal.returns-then-is_none-2
returns-then-is_none-2 c =
    let b = c.args.blocks.now in
    let range = rw c.config.ensures at c.initial-valid.ensures.valid.range in
    let stays : is_some (module_at b.machine c.args.number).out ≡ not true =
    ap (λ (s : ModuleState). is_some s.out) (sym c.memory_module-memory_module.ensures.state)
    ∙ ap is_some (sym c.reply.ensures) ∙ c.is_none-2.ensures ∙ ap not c.if-is_none-2.true in
    sym (free_without_reply b.config range b.machine c.args.number c.requires.number stays)

pub returns : goal.returns
returns c =
    let b = c.args.blocks.now in
    let range = rw c.config.ensures at c.initial-valid.ensures.valid.range in
    let waits : is_some (option_map (λ (p : Placed). p.request) (module_at b.machine c.args.number).inp) ≡ not false =
    ap (λ (s : ModuleState). is_some (option_map (λ (p : Placed). p.request) s.inp)) (sym c.memory_module-memory_module.ensures.state)
    ∙ ap is_some (sym c.request.ensures) ∙ c.is_none.ensures ∙ ap not c.if-is_none.false in
    let stays : is_some (module_at b.machine c.args.number).out ≡ not false =
    ap (λ (s : ModuleState). is_some s.out) (sym c.memory_module-memory_module.ensures.state)
    ∙ ap is_some (sym c.reply.ensures) ∙ c.is_none-2.ensures ∙ ap not c.if-is_none-2.false in
    let last : c.stages.result - 1 ≡ b.config.stages - 1 = ap (λ n. n - 1) (c.stages.ensures.value ∙ c.requires.net) in
    rw last at c.has_reply_room.ensures ∙ sym (free_with_room b.config range b.machine c.args.number c.requires.number waits stays)
