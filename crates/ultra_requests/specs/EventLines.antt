-- the events of a run, a line each; this project's profile
use Rattle.std.specs.Prelude.{ℕ, ◌+◌, List, [], ◌++◌, Bool, true, false, ◌&&◌, nat_le, codes, decimal}
use Rattle.std.specs.List.{flat_map}
use Rattle.ultra_msg.specs.declared.Event.{Event, TheVariants.{Delivered, Served, Combined, Issued}}
use Rattle.ultra_isa.specs.declared.Instr.{Instr}
use Rattle.ultra_model.specs.{declared.Stop.Stop, Machine.Settings, Phases.after, Text.{newline, op_text, reply_text, fault_text}, Trace.{by_number, cycle_count}}
use Rattle.ultra_serial_law.specs.{Log.latest_number, SerialList.history}

-- a request by its name and cell, `P.N@A`: the processing element, the request's number among the
-- issues of that one, and the cell
abbrev pub named_text : ℕ → ℕ → ℕ → List ℕ
named_text p n a = decimal p ++ codes "." ++ decimal n ++ codes "@" ++ decimal a

-- which of two requests comes first
abbrev pub order_sign : Bool → List ℕ
order_sign true = codes " < "
order_sign false = codes " > "

-- of events of a cycle, where `number p a` is the number of p's open request for a
module _ (number : ℕ → ℕ → ℕ) (cycle : ℕ) where
  abbrev pub open_text : ℕ → ℕ → List ℕ
  open_text p a = named_text p (number p a) a

  abbrev pub event_line : Event → List ℕ
  event_line (Delivered r) =
      decimal cycle ++ codes " answer " ++ open_text r.pe r.cell ++ codes " = "
      ++ reply_text r.reply ++ newline
  event_line (Served k r v now) =
      decimal cycle ++ codes " act " ++ decimal k ++ codes " " ++ open_text r.pe r.cell ++ codes " "
      ++ op_text r.op ++ codes " = " ++ reply_text v ++ codes " now " ++ decimal now ++ newline
  event_line (Combined s x a old new first) =
      decimal cycle ++ codes " combine s" ++ decimal s ++ codes "x" ++ decimal x ++ codes " "
      ++ open_text old a ++ order_sign first ++ open_text new a ++ newline
  event_line (Issued r n) =
      decimal cycle ++ codes " issue " ++ named_text r.pe n r.cell ++ codes " " ++ op_text r.op
      ++ newline

-- a processing element has faulted
abbrev pub stop_line : ℕ → Stop → List ℕ
stop_line cycle s =
    decimal cycle ++ codes " fault " ++ decimal s.pe ++ codes " " ++ fault_text s.fault ++ newline

module _ (c : Settings) (program : List Instr) where
  -- by the log of the cycles before, an open request is the latest issue of its processing element
  -- for its cell
  abbrev pub open_number : ℕ → ℕ → ℕ → ℕ
  open_number n p a = latest_number p a (history c program n).log.issues 0

  -- of cycle n: answers, acts, combinations and issues in the order of the definition, then faults
  unfoldable pub lines_of_cycle : ℕ → List ℕ
  lines_of_cycle n =
      let m = after c program (n + 1) in
      flat_map (event_line (open_number n) n) m.events ++ flat_map (stop_line n) m.stops

-- the lines of the cycles from `from` to `to`, both included
abbrev pub is_shown : ℕ → ℕ → ℕ → Bool
is_shown from to n = nat_le from n && nat_le n to

abbrev pub if_shown : Bool → List ℕ → List ℕ
if_shown true text = text
if_shown false text = []

module _ (from to : ℕ) (c : Settings) (program : List Instr) where
  abbrev pub shown_of_cycle : ℕ → List ℕ
  shown_of_cycle n = if_shown (is_shown from to n) (lines_of_cycle c program n)

  unfoldable pub events_of : List ℕ
  events_of = by_number (cycle_count c program) shown_of_cycle
