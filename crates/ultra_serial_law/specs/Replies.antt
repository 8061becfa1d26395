-- the replies that a run delivers, and that they are the answers of its log
use Rattle.std.specs.Prelude.{◌≡◌, ◌<◌, ℕ, zero, suc, List, [], ◌∷◌, ◌++◌}
use Rattle.ultra_msg.specs.declared.{ReplyMessage.ReplyMessage, Event.{Event, TheVariants.{Delivered, Served, Combined, Issued}}}
use Rattle.ultra_isa.specs.declared.Instr.{Instr}
use Rattle.ultra_model.specs.{Machine.Settings, Phases.after, Ranges.AreInRange}
use Rattle.ultra_serial_law.specs.{Log.{LoggedIssue, LoggedAnswer}, Legal.Has, SerialList.history}

-- a reply came to its processing element in a cycle
pub record Delivery : Type 0 where
  pub message : ReplyMessage
  pub cycle : ℕ

-- what the events of a cycle deliver, in their order
abbrev pub deliveries_in : ℕ → List Event → List Delivery
deliveries_in n [] = []
deliveries_in n (Delivered r ∷ es) = record { message = r; cycle = n } ∷ deliveries_in n es
deliveries_in n (Served k r reply now ∷ es) = deliveries_in n es
deliveries_in n (Combined s x a p q f ∷ es) = deliveries_in n es
deliveries_in n (Issued r k ∷ es) = deliveries_in n es

-- what the first n cycles deliver, by cycle, then by processing element
unfoldable pub deliveries : Settings → List Instr → ℕ → List Delivery
deliveries c program zero = []
deliveries c program (suc n) =
    deliveries c program n ++ deliveries_in n (after c program (suc n)).events

-- the request of a delivery: the processing element and the cell are the delivery's, the number is
-- the answer's, and it was issued in an earlier cycle
pub record IsRequestOf (d : Delivery) (a : LoggedAnswer) (i : LoggedIssue) : Type 0 where
  pub pe : i.pe ≡ d.message.pe
  pub number : i.number ≡ a.number
  pub cell : i.cell ≡ d.message.cell
  pub earlier : i.cycle < d.cycle

-- a delivery and an answer are one: processing element, reply and cycle are the same, and the
-- request is among the issues
pub record IsAnswerOf (issues : List LoggedIssue) (d : Delivery) (a : LoggedAnswer) : Type 0 where
  pub pe : a.pe ≡ d.message.pe
  pub reply : a.reply ≡ d.message.reply
  pub cycle : a.cycle ≡ d.cycle
  pub request : (i : LoggedIssue) × Has issues i × IsRequestOf d a i

-- one by one, with none left over
abbrev pub AreAnswersOf : List LoggedIssue → List Delivery → List LoggedAnswer → Type 0
AreAnswersOf issues [] [] = Unit {0}
AreAnswersOf issues [] (a ∷ xs) = ⊥
AreAnswersOf issues (d ∷ ds) [] = ⊥
AreAnswersOf issues (d ∷ ds) (a ∷ xs) = IsAnswerOf issues d a × AreAnswersOf issues ds xs

-- at every number of cycles the answers of the log are the deliveries so far, in the same order
abbrev pub AreAllAnswers : Settings → List Instr → Type 0
AreAllAnswers c program =
    (n : ℕ) → let log = (history c program n).log in
    AreAnswersOf log.issues (deliveries c program n) log.answers

-- for all settings in their ranges and every program
abbrev pub ReplyLaw : Type 0
ReplyLaw = (c : Settings) → AreInRange c → (program : List Instr) → AreAllAnswers c program
