-- one step of a processing element, and a reply that comes to it; this project's profile
use Rattle.std.specs.Prelude.{◌≡◌, ℕ, ◌+◌, ◌≤◌, List, Bool, true, false, ◌==◌, nat_lt, length, Option, Some, None, slice_set, slice_get, replicate}
use Rattle.std.specs.List.{list_any}
use Rattle.ultra_msg.specs.declared.{Request.Request, Reply.Reply}
use Rattle.ultra_msg.specs.declared.Reply.TheVariants as reply
use Rattle.ultra_pni.specs.{declared.Issue.{Issue, TheVariants.{Sent, CellOpen, Full}}, Interface.{Interface, is_awaited, issue_of, after_issue}}
use Rattle.ultra_isa.specs.declared.{Instr.Instr, MachineFault.{MachineFault, TheVariants.{AddressOutOfRange, PastEnd}}, Activity.Activity, Step.Step, TheConstants.MOST_INSTRUCTIONS}
use Rattle.ultra_isa.specs.declared.Activity.TheVariants as activity
use Rattle.ultra_isa.specs.declared.Step.TheVariants as step
use Rattle.ultra_isa.specs.Instruction.{Site, names, Effect, sets, goes_on_at, refers, waits, halts, effect}

-- the registers, the program counter, and what the processing element is doing
pub record Core : Type 0 where
  pub registers : List ℕ
  pub pc : ℕ
  pub activity : Activity

-- whether a processing element has halted or faulted
abbrev pub has_stopped : Activity → Bool
has_stopped activity.Running = false
has_stopped activity.Halted = true
has_stopped (activity.Faulted f) = true

-- what is true of every processor: it has 16 registers, and its program counter is at most the
-- length of the longest program
pub record IsWellFormedCore (c : Core) : Type 0 where
  pub registers : length c.registers ≡ 16
  pub pc : c.pc ≤ MOST_INSTRUCTIONS

-- a processor: which one it is, and its state
pub record ProcessorState : Type 0 where
  pub site : Site
  pub core : Core

-- at first all registers are 0 and the program counter is 0
abbrev pub fresh_core : Core
fresh_core = record { registers = replicate 16 0; pc = 0; activity = activity.Running }

-- what a step gives: the processor and its interface after it, the request that it issued, and what
-- it was
pub record StepResult : Type 0 where
  pub core : Core
  pub interface : Interface
  pub sent : Option Request
  pub was : Step

abbrev pub stays : Step → Core → Interface → StepResult
stays was c i = record { core = c; interface = i; sent = None; was = was }

abbrev pub faults : MachineFault → Core → Interface → StepResult
faults f c i =
    record {
      core = record c { activity = activity.Faulted f };
      interface = i;
      sent = None;
      was = step.Fault f;
    }

-- whether an instruction names an awaited register
abbrev pub names_awaited : Instr → Interface → Bool
names_awaited n i = list_any (λ r. is_awaited r i.opened) (names n)

-- a reference, after what has become of its request
abbrev pub refers_as : Core → Interface → Request → Option ℕ → Issue → StepResult
refers_as c i r target Sent =
    record {
      core = record c { pc = c.pc + 1 };
      interface = after_issue i r target Sent;
      sent = Some r;
      was = step.Issued;
    }
refers_as c i r target CellOpen = stays step.Stalled c i
refers_as c i r target Full = stays step.Stalled c i

-- a fence, where no cell is open and where one is
abbrev pub waits_where : Bool → Core → Interface → StepResult
waits_where true c i = stays step.Done record c { pc = c.pc + 1 } i
waits_where false c i = stays step.Stalled c i

-- the processing element, and the most cells that it may hold open
module _ (s : Site) (most_open : ℕ) where
  -- a reference, where the memory has the cell and where it hasn't
  abbrev pub refers_where : Bool → Core → Interface → Request → Option ℕ → StepResult
  refers_where true c i r target = refers_as c i r target (issue_of most_open i r)
  refers_where false c i r target = faults AddressOutOfRange c i

  abbrev pub does : Core → Interface → Effect → StepResult
  does c i (sets d v) =
      stays step.Done record c { registers = slice_set c.registers d v; pc = c.pc + 1 } i
  does c i (goes_on_at pc) = stays step.Done record c { pc = pc } i
  does c i (refers a o target) =
      refers_where (nat_lt a s.all_cells) c i record { pe = s.pe; cell = a; op = o } target
  does c i waits = waits_where (length i.opened == 0) c i
  does c i halts = stays step.Done record c { activity = activity.Halted } i

  -- an instruction, where it names an awaited register and where it doesn't
  abbrev pub runs_where : Bool → Core → Interface → Instr → StepResult
  runs_where true c i n = stays step.Stalled c i
  runs_where false c i n = does c i (effect s c.registers c.pc n)

  -- it stalls where the instruction names an awaited register
  abbrev pub runs : Core → Interface → Option Instr → StepResult
  runs c i None = faults PastEnd c i
  runs c i (Some n) = runs_where (names_awaited n i) c i n

  -- what has halted or faulted stays
  abbrev pub runs_as : Activity → Core → Interface → Option Instr → StepResult
  runs_as activity.Running c i n = runs c i n
  runs_as activity.Halted c i n = stays step.Halted c i
  runs_as (activity.Faulted f) c i n = stays step.Halted c i

  -- one step
  abbrev pub step_of : List Instr → Core → Interface → StepResult
  step_of program c i = runs_as c.activity c i (slice_get program c.pc)

-- whether a step was a stall
abbrev pub is_stall : Step → Bool
is_stall step.Stalled = true
is_stall other = false

-- a reply's value comes to the register that awaits it
abbrev pub received : List ℕ → Option ℕ → Reply → List ℕ
received r None v = r
received r (Some d) (reply.Value v) = slice_set r d v
received r (Some d) reply.Ack = r
