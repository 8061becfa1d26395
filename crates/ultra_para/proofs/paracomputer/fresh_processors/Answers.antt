use Rattle.std.proofs.Common.{◌∙◌, sym, refl}
use Rattle.ultra_para.proofs.Starting.{no_processors, one_processor_more}
use Rattle.ultra_para.proofs.paracomputer.fresh_processors.Goals as goal

pub loop-pe-init : goal.loop-pe-init
loop-pe-init c = c.in_ok-processors.ensures.items ∙ sym (no_processors c.args.config.now)

pub loop-pe-preserved : goal.loop-pe-preserved
loop-pe-preserved c =
    rw (one_processor_more c.args.config.now c.loop-pe.pe, c.in_ok-push.ensures.items, c.loop-pe.invariant, c.new.ensures, c.net-net.ensures, c.cells.ensures.value) refl
