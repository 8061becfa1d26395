-- a reply comes back to a switch. That a combined request is answered from what the wait buffer
-- keeps is the 1983 paper's
use Rattle.std.specs.Prelude.{List, [], ◌∷◌, Bool, true, false, ◌&&◌, ◌==◌}
use Rattle.ultra_msg.specs.{declared.ReplyMessage.ReplyMessage, Act.reply_given}
use Rattle.ultra_switch.specs.declared.{WaitRecord.WaitRecord, Split.{Split, TheVariants.{One, Two}}}

-- whether a record has the identity of a reply: the processing element and the cell
abbrev pub is_of : ReplyMessage → WaitRecord → Bool
is_of m w = (w.pe == m.pe) && (w.cell == m.cell)

-- the records that stay: the oldest of this identity goes
abbrev pub records_after : ReplyMessage → List WaitRecord → List WaitRecord
records_after m [] = []
records_after m (w ∷ ws) = elim (is_of m w) [ true ↦ ws | false ↦ w ∷ records_after m ws ]

abbrev pub old_reply : ReplyMessage → WaitRecord → ReplyMessage
old_reply m w = record { pe = m.pe; cell = m.cell; reply = reply_given w.give_old m.reply }

abbrev pub new_reply : ReplyMessage → WaitRecord → ReplyMessage
new_reply m w = record { pe = w.partner; cell = m.cell; reply = reply_given w.give_new m.reply }

-- the replies that come of it: those of the two requests of the oldest record of this identity,
-- old's first, or itself where there is none
abbrev pub replies_of : ReplyMessage → List WaitRecord → List ReplyMessage
replies_of m [] = m ∷ []
replies_of m (w ∷ ws) =
    elim (is_of m w) [ true ↦ old_reply m w ∷ new_reply m w ∷ [] | false ↦ replies_of m ws ]

-- the replies that a split gives
abbrev pub replies_in : Split ReplyMessage → List ReplyMessage
replies_in (One m) = m ∷ []
replies_in (Two old new) = old ∷ new ∷ []
