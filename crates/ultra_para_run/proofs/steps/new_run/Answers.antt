use Rattle.std.proofs.Common.{◌<◌, ◌^◌, sym, ◌∙◌, ap, arith}
use Rattle.std.proofs.lemmas.List.{get_or-replicate}
use Rattle.ultra_para.specs.Para.{start_para}
use Rattle.ultra_para_run.proofs.Made.{acts_none}
use Rattle.ultra_para_run.proofs.steps.new_run.Goals as goal

pub returns : goal.returns
returns c =
    let config = c.args.config.now in
    let program = c.args.program.now in
    record {
      state = c.in_ok-new.ensures;
      acts = λ p few.
          let small : p < 64 = omega (arith, few, c.size-size.ensures.value, c.size-size.ensures.small, c.net.ensures, ap (λ n. 2 ^ n) c.net.ensures) in
          get_or-replicate 64 p 0 0 small ∙ sym (acts_none config program p (start_para config));
    }
