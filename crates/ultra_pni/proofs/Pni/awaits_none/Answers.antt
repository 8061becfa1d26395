use Rattle.std.proofs.Common.{ap, sym, ◌∙◌}
use Rattle.ultra_pni.specs.Interface.{SizedInterface, is_awaited}
use Rattle.ultra_pni.proofs.Pni.awaits_none.Goals as goal

pub returns : goal.returns
returns c = (
  λ none r. rw (← c.self.view_is) (sym (c.self.invariant.awaited r) ∙ c.is_empty.ensures.0 none r),
  λ none. c.is_empty.ensures.1 (λ r. c.self.invariant.awaited r ∙ ap (λ (i : SizedInterface). is_awaited r i.interface.opened) c.self.view_is ∙ none r),
)
