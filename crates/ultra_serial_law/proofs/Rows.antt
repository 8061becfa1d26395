-- worked orders: what the requests of small runs did, in order
use Rattle.std.specs.Prelude.{◌≡◌, ℕ, [], ◌∷◌, refl}
use Rattle.ultra_msg.specs.declared.{Op.{Op, TheVariants.{Load, Store, Faa}}, Reply.{Reply, TheVariants.{Value, Ack}}}
use Rattle.ultra_model.specs.{Places.places, Machine.start}
use Rattle.ultra_model.specs.Phases.{after, cycle, reply_phase, memory_phase, request_phase, processor_phase, arriving_reply, arriving_request}
use Rattle.ultra_model.proofs.Pairs.{one_stage, add_one, five_at_first, load_and_store, add_and_store, store_and_add}
use Rattle.ultra_model.proofs.Levels.{two_stages, add_number}
use Rattle.ultra_serial_law.specs.{Legal.Entry, SerialList.{history, serial_list}}

-- the request of this processing element and number, with its cell, operation and reply
abbrev pub done : ℕ → ℕ → ℕ → Op → Reply → Entry
done p n a o r = record { pe = p; number = n; cell = a; op = o; reply = r }

combined_pair : serial_list one_stage add_one 8 ≡ done 1 0 0 (Faa 1) (Value 0) ∷ done 0 0 0 (Faa 1) (Value 1) ∷ []
unfolding history after start cycle reply_phase memory_phase request_phase processor_phase arriving_reply arriving_request places
combined_pair = refl

two_level_tree : serial_list two_stages add_number 10 ≡
    done 2 0 0 (Faa 3) (Value 0)
    ∷ done 0 0 0 (Faa 1) (Value 3)
    ∷ done 3 0 0 (Faa 4) (Value 4)
    ∷ done 1 0 0 (Faa 2) (Value 8)
    ∷ []
unfolding history after start cycle reply_phase memory_phase request_phase processor_phase arriving_reply arriving_request places
two_level_tree = refl

load_then_store : serial_list five_at_first load_and_store 9 ≡ done 1 0 0 (Store 7) Ack ∷ done 0 0 0 Load (Value 7) ∷ []
unfolding history after start cycle reply_phase memory_phase request_phase processor_phase arriving_reply arriving_request places
load_then_store = refl

store_then_faa : serial_list one_stage add_and_store 10 ≡ done 1 0 0 (Store 10) Ack ∷ done 0 0 0 (Faa 3) (Value 10) ∷ []
unfolding history after start cycle reply_phase memory_phase request_phase processor_phase arriving_reply arriving_request places
store_then_faa = refl

faa_then_store : serial_list one_stage store_and_add 10 ≡ done 0 0 0 (Store 10) Ack ∷ done 1 0 0 (Faa 3) (Value 10) ∷ []
unfolding history after start cycle reply_phase memory_phase request_phase processor_phase arriving_reply arriving_request places
faa_then_store = refl
