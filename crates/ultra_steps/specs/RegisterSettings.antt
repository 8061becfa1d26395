-- what sets the registers of the processing elements; this project's profile
use Rattle.std.specs.Prelude.{◌≡◌, ℕ, ◌<◌, List, [], ◌∷◌, ◌++◌, ◌==◌, if◌then◌else◌, length, Option, Some, None, option_to_list, slice_get, slice_index, slice_set}
use Rattle.std.specs.List.{flat_map, range_with_len}
use Rattle.ultra_msg.specs.declared.{Event.{Event, TheVariants.{Delivered, Served, Combined, Issued}}, Reply.{Reply, TheVariants.{Value, Ack}}, ReplyMessage.ReplyMessage}
use Rattle.ultra_pni.specs.Interface.{target_of}
use Rattle.ultra_isa.specs.{declared.{Instr.Instr, Step.Step}, Instruction.{Site, Effect, sets, goes_on_at, refers, waits, halts, effect}, Step.Core}
use Rattle.ultra_isa.specs.declared.Step.TheVariants as step
use Rattle.ultra_model.specs.Machine.{Settings, Machine, Element, element_at, site}
use Rattle.ultra_model.specs.Phases.{after, delivered, memory_phase, reply_phase, request_phase, step_at}
use Rattle.ultra_steps.specs.declared.setting.{Setting.Setting, Reference.Reference}

-- ---- replies
-- the reply that an event delivers to processing element p, if it does
abbrev pub reply_for : ℕ → Event → Option ReplyMessage
reply_for p (Delivered r) = if r.pe == p then Some r else None
reply_for p (Served k r v now) = None
reply_for p (Combined s x a old new first) = None
reply_for p (Issued r n) = None

abbrev pub reply_among : ℕ → Option Event → Option ReplyMessage
reply_among p None = None
reply_among p (Some e) = reply_for p e

-- a reply sets the register that awaits it, if one does; an acknowledgement sets none
abbrev pub set_by_reply : Option ℕ → Reply → Option Setting
set_by_reply None v = None
set_by_reply (Some d) (Value v) = Some record { register = d; value = v }
set_by_reply (Some d) Ack = None

-- what is delivered to a processing element sets
abbrev pub set_by_delivery : Element → Option ReplyMessage → Option Setting
set_by_delivery e None = None
set_by_delivery e (Some r) = set_by_reply (target_of r.cell e.interface.opened) r.reply

-- ---- steps
-- what an effect sets, in which register, and what it refers to
abbrev pub set_in : Effect → Option Setting
set_in (sets d v) = Some record { register = d; value = v }
set_in (goes_on_at pc) = None
set_in (refers a o target) = None
set_in waits = None
set_in halts = None

abbrev pub register_in : Effect → Option ℕ
register_in (sets d v) = Some d
register_in (goes_on_at pc) = None
register_in (refers a o target) = None
register_in waits = None
register_in halts = None

abbrev pub reference_in : Effect → Option Reference
reference_in (sets d v) = None
reference_in (goes_on_at pc) = None
reference_in (refers a o target) = Some record { cell = a; op = o }
reference_in waits = None
reference_in halts = None

-- a step sets what its instruction's effect does where it is done
abbrev pub set_where : Step → Effect → Option Setting
set_where step.Done e = set_in e
set_where step.Issued e = None
set_where step.Stalled e = None
set_where step.Halted e = None
set_where (step.Fault f) e = None

abbrev pub set_by_step : Site → Core → Step → Option Instr → Option Setting
set_by_step s k was None = None
set_by_step s k was (Some i) = set_where was (effect s k.registers k.pc i)

-- ---- of a run
module _ (c : Settings) (program : List Instr) where
  -- the machine in cycle n, after the deliveries and before the steps
  abbrev pub before_steps : ℕ → Machine
  before_steps n = request_phase c (memory_phase c (reply_phase c (after c program n)))

  -- what cycle n sets in processing element p: by a delivery, then by a step
  abbrev pub delivery_sets : ℕ → ℕ → Option Setting
  delivery_sets n p =
      let m = after c program n in set_by_delivery (element_at m p) (delivered c m p)

  abbrev pub step_sets : ℕ → ℕ → Option Setting
  step_sets n p =
      let m = before_steps n in let k = (element_at m p).core in
      set_by_step (site c p) k (step_at c program m p).was (slice_get program k.pc)

  -- all that the first n cycles set there, in order
  unfoldable pub register_settings : ℕ → ℕ → List Setting
  register_settings n p =
      flat_map (λ k. option_to_list (delivery_sets k p) ++ option_to_list (step_sets k p))
      (range_with_len 0 n)

-- registers have what was set
abbrev pub IsSetIn : List ℕ → Option Setting → Type 0
IsSetIn r None = Unit {0}
IsSetIn r (Some s) = s.register < length r → slice_index r s.register ≡ s.value

-- registers after settings in order
abbrev pub registers_after : List ℕ → List Setting → List ℕ
registers_after r [] = r
registers_after r (s ∷ ss) = registers_after (slice_set r s.register s.value) ss
