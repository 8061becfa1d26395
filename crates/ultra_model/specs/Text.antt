-- the texts of messages, of records, of faults and of what processing elements are doing, as lists
-- of bytes; this project's profile
use Rattle.std.specs.Prelude.{ℕ, zero, suc, List, [], ◌∷◌, ◌++◌, Bool, true, false, codes, decimal}
use Rattle.std.specs.List.{flat_map}
use Rattle.ultra_msg.specs.declared.{Op.{Op, TheVariants.{Load, Store, Faa, Swap}}, Request.Request, Reply.Reply, ReplyMessage.ReplyMessage, Give.Give}
use Rattle.ultra_msg.specs.declared.Reply.TheVariants as reply
use Rattle.ultra_msg.specs.declared.Give.TheVariants as give
use Rattle.ultra_switch.specs.declared.{QueueEntry.QueueEntry, WaitRecord.WaitRecord}
use Rattle.ultra_isa.specs.declared.{MachineFault.{MachineFault, TheVariants.{AddressOutOfRange, PastEnd}}, Activity.{Activity, TheVariants.{Running, Halted, Faulted}}}
pub use Rattle.ultra_msg.specs.Bytes.{newline}

-- an operation
abbrev pub op_text : Op → List ℕ
op_text Load = codes "load"
op_text (Store w) = codes "store " ++ decimal w
op_text (Faa w) = codes "faa " ++ decimal w
op_text (Swap w) = codes "swap " ++ decimal w

-- the processing element and the cell of a message, `P@A`
abbrev pub identity_text : ℕ → ℕ → List ℕ
identity_text p a = decimal p ++ codes "@" ++ decimal a

-- a request, `P@A OP`
abbrev pub request_text : Request → List ℕ
request_text r = identity_text r.pe r.cell ++ codes " " ++ op_text r.op

-- a request in a queue: one that has combined there is marked
abbrev pub mark_text : Bool → List ℕ
mark_text true = codes " *"
mark_text false = []

abbrev pub entry_text : QueueEntry → List ℕ
entry_text e = request_text e.request ++ mark_text e.combined

-- a reply, and with its identity, `P@A = V` or `P@A = ack`
abbrev pub reply_text : Reply → List ℕ
reply_text (reply.Value v) = decimal v
reply_text reply.Ack = codes "ack"

abbrev pub message_text : ReplyMessage → List ℕ
message_text m = identity_text m.pe m.cell ++ codes " = " ++ reply_text m.reply

-- a way of answering
abbrev pub give_text : Give → List ℕ
give_text give.Same = codes "same"
give_text (give.Plus w) = codes "plus " ++ decimal w
give_text (give.Fixed w) = codes "fixed " ++ decimal w
give_text give.Ack = codes "ack"

-- a record of a wait buffer, `P@A GIVE Q GIVE`: the identity of old, old's way, new's processing
-- element, new's way
abbrev pub record_text : WaitRecord → List ℕ
record_text w =
    identity_text w.pe w.cell ++ codes " " ++ give_text w.give_old ++ codes " "
    ++ decimal w.partner ++ codes " " ++ give_text w.give_new

-- the faults, and what a processing element is doing
abbrev pub fault_text : MachineFault → List ℕ
fault_text AddressOutOfRange = codes "f1"
fault_text PastEnd = codes "f2"

abbrev pub activity_text : Activity → List ℕ
activity_text Running = codes "running"
activity_text Halted = codes "halted"
activity_text (Faulted f) = fault_text f

-- the entries of one line, the front first
abbrev pub comma_separated : {X : Type 0} → (X → List ℕ) → List X → List ℕ
comma_separated text [] = []
comma_separated text (x ∷ xs) = text x ++ flat_map (λ y. codes ", " ++ text y) xs

-- what is before the entry at an index
abbrev pub separator : ℕ → List ℕ
separator zero = []
separator (suc n) = codes ", "
