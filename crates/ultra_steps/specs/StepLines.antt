-- the lines of deliveries and of steps, and those of a run; this project's profile
use Rattle.std.specs.Prelude.{ℕ, List, [], ◌++◌, Bool, true, false, Option, Some, None, slice_get, codes, decimal}
use Rattle.ultra_msg.specs.declared.ReplyMessage.{ReplyMessage}
use Rattle.ultra_isa.specs.{declared.{Instr.Instr, Step.Step, MachineFault.{MachineFault, TheVariants.PastEnd}}, Instruction.{Site, Effect, effect}, Step.Core}
use Rattle.ultra_isa.specs.declared.Step.TheVariants as step
use Rattle.ultra_model.specs.Machine.{Settings, Element, size, element_at, site}
use Rattle.ultra_model.specs.{Phases.{after, delivered, step_at}, Text.{newline, op_text, fault_text}, Trace.{by_number, cycle_count}}
use Rattle.ultra_asm.specs.Listing.{instruction_text}
use Rattle.ultra_requests.specs.EventLines.{if_shown, is_shown, named_text, open_number}
use Rattle.ultra_steps.specs.declared.setting.{Setting.Setting, Reference.Reference}
use Rattle.ultra_steps.specs.RegisterSettings.{before_steps, reference_in, set_by_delivery, set_in}

-- what is set, `rD=V` behind a blank
abbrev pub setting_text : Setting → List ℕ
setting_text s = codes " r" ++ decimal s.register ++ codes "=" ++ decimal s.value

abbrev pub setting_if : Option Setting → List ℕ
setting_if None = []
setting_if (Some s) = setting_text s

-- a request that processing element p issues as its number n, and an address that isn't there
abbrev pub issue_if : ℕ → ℕ → Option Reference → List ℕ
issue_if p n None = []
issue_if p n (Some r) = codes " " ++ named_text p n r.cell ++ codes " " ++ op_text r.op

abbrev pub address_if : MachineFault → Option Reference → List ℕ
address_if f None = []
address_if f (Some r) = codes " @" ++ decimal r.cell ++ codes " " ++ fault_text f

-- ---- the line of a delivery
-- the answer to request number n of processing element p, to cell a, and what it sets
abbrev pub reply_line_of : ℕ → ℕ → ℕ → ℕ → Option Setting → List ℕ
reply_line_of cycle p n a None = []
reply_line_of cycle p n a (Some s) =
    decimal cycle ++ codes " reply " ++ decimal p ++ setting_text s ++ codes " "
    ++ named_text p n a ++ newline

-- what is delivered to processing element p, where `number a` is the number of its request to a
abbrev pub reply_line : ℕ → ℕ → (ℕ → ℕ) → Element → Option ReplyMessage → List ℕ
reply_line cycle p number e None = []
reply_line cycle p number e (Some r) =
    reply_line_of cycle p (number r.cell) r.cell (set_by_delivery e (Some r))

-- ---- the line of a step
-- what a step with this effect did
abbrev pub deed_text : ℕ → ℕ → Step → Effect → List ℕ
deed_text p n step.Done e = setting_if (set_in e)
deed_text p n step.Issued e = issue_if p n (reference_in e)
deed_text p n step.Stalled e = []
deed_text p n step.Halted e = []
deed_text p n (step.Fault f) e = address_if f (reference_in e)

-- the instruction and what it did, or the end of the program
abbrev pub step_text : Site → Core → ℕ → Step → Option Instr → List ℕ
step_text s k n was None = codes "end " ++ fault_text PastEnd
step_text s k n was (Some i) =
    instruction_text i ++ deed_text s.pe n was (effect s k.registers k.pc i)

-- a processing element that has stopped makes no step, and neither does one that stalls
abbrev pub is_made : Step → Bool
is_made step.Done = true
is_made step.Issued = true
is_made step.Stalled = false
is_made step.Halted = false
is_made (step.Fault f) = true

-- a step from a core, of a processing element that has issued n requests
abbrev pub made_line : ℕ → Site → Core → ℕ → Step → Option Instr → List ℕ
made_line cycle s k n was i =
    decimal cycle ++ codes " step " ++ decimal s.pe ++ codes " " ++ decimal k.pc ++ codes " "
    ++ step_text s k n was i ++ newline

abbrev pub step_line_if : ℕ → Site → Core → ℕ → Step → Option Instr → List ℕ
step_line_if cycle s k n was i = if_shown (is_made was) (made_line cycle s k n was i)

-- ---- of a run
module _ (c : Settings) (program : List Instr) where
  abbrev pub reply_line_at : ℕ → ℕ → List ℕ
  reply_line_at n p =
      let m = after c program n in
      reply_line n p (open_number c program n p) (element_at m p) (delivered c m p)

  abbrev pub step_line_at : ℕ → ℕ → List ℕ
  step_line_at n p =
      let m = before_steps c program n in let e = element_at m p in
      step_line_if n (site c p) e.core e.issued (step_at c program m p).was
      (slice_get program e.core.pc)

  -- of cycle n: the deliveries, then the steps, each by processing element
  unfoldable pub steps_of_cycle : ℕ → List ℕ
  steps_of_cycle n = by_number (size c) (reply_line_at n) ++ by_number (size c) (step_line_at n)

-- of the cycles from `from` to `to`, both included
module _ (from to : ℕ) (c : Settings) (program : List Instr) where
  abbrev pub shown_steps : ℕ → List ℕ
  shown_steps n = if_shown (is_shown from to n) (steps_of_cycle c program n)

  unfoldable pub steps_of : List ℕ
  steps_of = by_number (cycle_count c program) shown_steps
