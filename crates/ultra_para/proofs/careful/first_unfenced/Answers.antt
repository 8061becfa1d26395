use Rattle.std.proofs.Common.{◌≡◌, true, false, sym, ◌∙◌, below_more}
use Rattle.ultra_para.specs.Careful.{is_fenced_pc}
use Rattle.ultra_para.proofs.Fences.{careful_on, careless}
use Rattle.ultra_para.proofs.careful.first_unfenced.Goals as goal

pub returns-then-not-is_fenced_at : goal.returns-then-not-is_fenced_at
returns-then-not-is_fenced_at c =
    let not_fenced : is_fenced_pc c.args.program.now c.loop-pc.pc ≡ false = sym c.is_fenced_at.ensures ∙ c.if-not-is_fenced_at.true in
    record {
      first = record { unfenced = not_fenced; first = c.loop-pc.invariant.before };
      careful = sym (c.loop-pc.invariant.rest ∙ careless c.args.program.now c.loop-pc.pc not_fenced);
    }

pub loop-pc-preserved : goal.loop-pc-preserved
loop-pc-preserved c =
    let fenced : is_fenced_pc c.args.program.now c.loop-pc.pc ≡ true = sym c.is_fenced_at.ensures ∙ c.if-not-is_fenced_at.false in
    record {
      rest = c.loop-pc.invariant.rest ∙ careful_on c.args.program.now c.loop-pc.pc fenced;
      before = below_more _ _ c.loop-pc.invariant.before fenced;
    }
