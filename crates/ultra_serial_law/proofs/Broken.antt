-- lists that are not legal for a worked run: one in the wrong order, and one from which an answered request is left out
use Rattle.std.proofs.Common.{◌≡◌, ℕ, zero, suc, List, [], ◌∷◌, refl, ap, arith}
use Rattle.std.specs.Prelude.{Some, slice_get}
use Rattle.ultra_msg.specs.declared.{Op.TheVariants.Faa, Reply.{Reply, TheVariants.{Value, Ack}}}
use Rattle.ultra_model.specs.{Places.places, Machine.start}
use Rattle.ultra_model.specs.Phases.{after, cycle, reply_phase, memory_phase, request_phase, processor_phase, arriving_reply, arriving_request}
use Rattle.ultra_model.proofs.Pairs.{one_stage, add_one}
use Rattle.ultra_serial_law.specs.{Legal.{Entry, Cells, IsLegal}, SerialList.history}
use Rattle.ultra_serial_law.proofs.Rows.{done}

abbrev zero_cells : Cells
zero_cells = λ a. 0

-- the only entry of a list of one is of processing element 1
no_such : (e : Entry) (k : ℕ) → slice_get (done 1 0 0 (Faa 1) (Value 0) ∷ []) k ≡ Some e → 0 ≡ e.pe → ⊥
no_such e zero h z =
    let one : done 1 0 0 (Faa 1) (Value 0) ≡ e = cc in
    let pe : 1 ≡ e.pe = ap (λ d. d.pe) one in
    absurd (omega (arith, pe, z))
no_such e (suc k) h z = cc

-- the value of the first reply, if there is one
abbrev value_of : Reply → ℕ
value_of (Value v) = v
value_of Ack = 2

abbrev first_value : List Entry → ℕ
first_value [] = 2
first_value (e ∷ es) = value_of e.reply

wrong_order : (final : Cells) → IsLegal zero_cells (history one_stage add_one 8).log final (done 0 0 0 (Faa 1) (Value 1) ∷ done 1 0 0 (Faa 1) (Value 0) ∷ []) → ⊥
wrong_order final w =
    let first : 0 ≡ 1 = ap (λ es. first_value es) w.replies in
    absurd (omega (arith, first))

answers_are : slice_get (history one_stage add_one 8).log.answers 0 ≡ Some record { pe = 0; number = 0; reply = Value 1; cycle = 7 }
unfolding history after start cycle reply_phase memory_phase request_phase processor_phase arriving_reply arriving_request places
answers_are = refl

left_out : (final : Cells) → IsLegal zero_cells (history one_stage add_one 8).log final (done 1 0 0 (Faa 1) (Value 0) ∷ []) → ⊥
left_out final w =
    let entry = w.answered record { pe = 0; number = 0; reply = Value 1; cycle = 7 } (0, answers_are) in
    no_such entry.0 entry.1.0 entry.1.1 entry.2.0
