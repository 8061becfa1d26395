-- the half of a cycle in which replies come to switches and processing elements
use Rattle.std.specs.Prelude.{ℕ, [], ◌∷◌, ◌++◌, Option, Some, None, slice_set}
use Rattle.ultra_block_core.specs.Prelude.{ForSome, ReplyMessage, Ports, present, delivery, CanDeliver, CanTakeReplies, after_replies, delivered_to, Unit as UnitName, of_unit, unit_of, reply_links, delivery_link, on_link, on_both, without_both}
use Rattle.ultra_topology.specs.declared.unit.Unit.TheVariants as unit
use Rattle.ultra_block_core.specs.BlockState.{BlockState, HasEventRoom, own_switch, own_element}

-- ---- at switch k of stage s, which has number n
abbrev pub replies_at_switch : ℕ → ℕ → BlockState → Ports (Option ReplyMessage)
replies_at_switch s k b = on_both b.replies (reply_links b.stages s k)

abbrev pub switch_takes_replies : ℕ → ℕ → ℕ → BlockState → BlockState
switch_takes_replies n s k b = elim (own_switch b.switches n) [
  | None ↦ b
  | Some w ↦ record b {
    switches = slice_set b.switches n (Some (after_replies b.stages s w (replies_at_switch s k b)));
    replies = without_both b.replies (reply_links b.stages s k);
  }
]

-- ---- at processing element p
abbrev pub reply_at_element : ℕ → BlockState → Option ReplyMessage
reply_at_element p b = on_link b.replies (delivery_link b.stages p)

abbrev pub element_takes_reply : ℕ → BlockState → BlockState
element_takes_reply p b = elim (own_element b.elements p) [
  | None ↦ b
  | Some e ↦ record b {
    elements = slice_set b.elements p (Some (delivered_to e (reply_at_element p b)));
    replies = slice_set b.replies (delivery_link b.stages p) None;
    events = b.events ++ present (delivery (reply_at_element p b) ∷ []);
  }
]

-- ---- at the unit with number n
abbrev pub takes_replies : ℕ → BlockState → BlockState
takes_replies n b =
    of_unit b.stages (λ s k. switch_takes_replies n s k b) (λ m. b)
    (λ p. element_takes_reply p b) b n

-- where a reply has come to a switch there is room
abbrev pub SwitchCanTakeReplies : ℕ → ℕ → ℕ → BlockState → Type 0
SwitchCanTakeReplies n s k b =
    ForSome (own_switch b.switches n) (λ w. CanTakeReplies w (replies_at_switch s k b))

-- where a reply has come to a processing element, its cell is open, and its request has left
abbrev pub ElementCanTakeReply : ℕ → BlockState → Type 0
ElementCanTakeReply p b =
    ForSome (own_element b.elements p)
    (λ e. ForSome (reply_at_element p b)
    (λ r. CanDeliver r.cell e.interface.interface))

abbrev pub UnitCanTakeReplies : ℕ → BlockState → UnitName → Type 0
UnitCanTakeReplies n b (unit.Switch s k) = SwitchCanTakeReplies n s k b
UnitCanTakeReplies n b (unit.Element p) = ElementCanTakeReply p b
UnitCanTakeReplies n b other = Unit {0}

-- the conditions of the unit with number n
pub record CanTakeRepliesAt (n : ℕ) (b : BlockState) : Type 0 where
  pub unit : UnitCanTakeReplies n b (unit_of b.stages n)
  pub room : HasEventRoom n b
