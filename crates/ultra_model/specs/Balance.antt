-- how many messages are on their way, and how many cells are open: what every phase keeps in
-- balance
use Rattle.std.specs.Prelude.{◌≡◌, ℕ, zero, suc, ◌+◌, ◌<◌, ◌≤◌, List, [], ◌∷◌, Bool, true, false, ◌==◌, Option, Some, None}
use Rattle.ultra_msg.specs.declared.{Request.Request, ReplyMessage.ReplyMessage}
use Rattle.ultra_switch.specs.{declared.{QueueEntry.QueueEntry, WaitRecord.WaitRecord}, Arrive.Lane}
use Rattle.ultra_mem.specs.{declared.Placed.Placed, Serve.ModuleState}
use Rattle.ultra_pni.specs.declared.OpenCell.{OpenCell}
use Rattle.ultra_model.specs.Machine.{Settings, Machine, Element, size, lane_at, replies_at, module_at, element_at}

abbrev pub weight : Bool → ℕ
weight true = 1
weight false = 0

-- how many pass a test
abbrev pub count : {X : Type 0} → (X → Bool) → List X → ℕ
count t [] = 0
count t (x ∷ xs) = weight (t x) + count t xs

abbrev pub count_option : {X : Type 0} → (X → Bool) → Option X → ℕ
count_option t None = 0
count_option t (Some x) = weight (t x)

-- f 0 + f 1 + .. + f (n - 1)
unfoldable pub total : ℕ → (ℕ → ℕ) → ℕ
total zero f = 0
total (suc n) f = total n f + f n

-- of the references whose processing element and cell pass a test
module _ (t : ℕ → ℕ → Bool) where
  abbrev pub passes : Request → Bool
  passes r = t r.pe r.cell

  abbrev pub reply_passes : ReplyMessage → Bool
  reply_passes r = t r.pe r.cell

  abbrev pub entry_passes : QueueEntry → Bool
  entry_passes e = t e.request.pe e.request.cell

  -- the partner of a record waits for its reply
  abbrev pub record_passes : WaitRecord → Bool
  record_passes w = t w.partner w.cell

  abbrev pub lane_on_way : Lane → ℕ
  lane_on_way l = count entry_passes l.queue + count record_passes l.records

  abbrev pub replies_on_way : List ReplyMessage → ℕ
  replies_on_way rs = count reply_passes rs

  abbrev pub module_on_way : ModuleState → ℕ
  module_on_way b =
      count_option (λ (p : Placed). t p.request.pe p.request.cell) b.inp
      + count_option reply_passes b.out

  abbrev pub pending_on_way : Element → ℕ
  pending_on_way e = count passes e.interface.pending

  -- the open cells of processing element p
  abbrev pub opened_by : ℕ → Element → ℕ
  opened_by p e = count (λ (o : OpenCell). t p o.cell) e.interface.opened

  module _ (c : Settings) (m : Machine) where
    -- the messages on their way in the whole machine, with the partners of the records, and the
    -- open cells
    abbrev pub on_way : ℕ
    on_way =
        total c.stages (λ s. total (size c) (λ x. lane_on_way (lane_at m s x)))
        + total c.stages (λ s. total (size c) (λ y. replies_on_way (replies_at m s y)))
        + total (size c) (λ k. module_on_way (module_at m k))
        + total (size c) (λ p. pending_on_way (element_at m p))

    abbrev pub all_opened : ℕ
    all_opened = total (size c) (λ p. opened_by p (element_at m p))

-- whatever references are counted, as many messages are on their way as cells are open. So each
-- open cell of a processing element has exactly one message or one record in which it is the
-- partner, and each message belongs to an open cell. No cell is open twice
pub record IsBalanced (c : Settings) (m : Machine) : Type 0 where
  pub balanced : (t : ℕ → ℕ → Bool) → on_way t c m ≡ all_opened t c m
  pub different : (p : ℕ) → p < size c → (a : ℕ)
      → count (λ (o : OpenCell). o.cell == a) (element_at m p).interface.opened ≤ 1
