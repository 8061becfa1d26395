-- blocks after an exchange: each message is in the block of the unit to which it leads
use Rattle.std.specs.Prelude.{◌≡◌, ℕ, ◌+◌, ◌-◌, ◌*◌, ◌/◌, ◌%◌, ◌^◌, ◌==◌, true, false, nat_lt, List, length, Option, None}
use Rattle.ultra_route.specs.Route.{shuffled}
use Rattle.ultra_model.specs.Places.{places}
use Rattle.ultra_topology.specs.Numbers.{switch_number, reply_target, request_target}
use Rattle.ultra_block_core.specs.BlockState.{BlockState}
use Rattle.ultra_partition.specs.{declared.kind.MessageKind.{MessageKind, TheVariants.{Replies, Requests}}, Cut.{block_at, home, first}, Exchange.{AreSingle, AreThere, OnlyMove, on_each, with_link_table}, Halves.AreBlocks}

-- the unit of a machine of d stages to which a link leads
abbrev pub unit_behind : MessageKind → ℕ → ℕ → ℕ
unit_behind Replies d l = elim (nat_lt l (d * 2 ^ d)) [
  | true ↦ reply_target d (l / 2 ^ d) (l % 2 ^ d)
  | false ↦ switch_number d (d - 1) ((l - d * 2 ^ d) / 2)
]
unit_behind Requests d l = elim (nat_lt l (d * 2 ^ d)) [
  | true ↦ request_target d (l / 2 ^ d) (l % 2 ^ d)
  | false ↦ switch_number d 0 (shuffled d (l - d * 2 ^ d) / 2)
]

-- what block k has on its links, if it has on each link that leads to one of its units what any
-- block had, and nothing else
abbrev pub at_home : {M : Type 0} → ℕ → List ℕ → (ℕ → ℕ) → (ℕ → List (Option M)) → ℕ
    → List (Option M)
at_home d partition unit on k = places ((d + 1) * 2 ^ d) (λ l. elim (home partition (unit l) == k) [
  | true ↦ first (on l)
  | false ↦ None
])

-- messages of a kind have been exchanged
unfoldable pub exchanged : MessageKind → ℕ → List ℕ → List BlockState → List BlockState
exchanged kind d partition bs = places (length bs) (λ k.
    with_link_table kind (at_home d partition (unit_behind kind d) (on_each kind bs) k)
    (block_at bs k))

-- they can be exchanged where no link has a message in two blocks
pub record CanBeExchanged (kind : MessageKind) (d : ℕ) (partition : List ℕ) (bs : List BlockState)
    : Type 0 where
  pub blocks : AreBlocks d partition bs
  pub single : AreSingle kind bs

-- they have been exchanged, and so the blocks are these
pub record AreExchanged (kind : MessageKind) (d : ℕ) (partition : List ℕ)
    (old now : List BlockState)
    : Type 0 where
  pub moved : OnlyMove kind old now
  pub there : AreThere kind d partition now
  pub all : now ≡ exchanged kind d partition old
