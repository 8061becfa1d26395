-- messages go to the block of the unit to which they lead. What is said of replies and of requests
-- is said of a kind
use Rattle.std.specs.Prelude.{◌≡◌, ◌≢◌, ℕ, ◌<◌, List, Option, None, length, map, slice_set}
use Rattle.ultra_partition.specs.Prelude.{unit_count, on_link, without_both, AreEmpty, put_on_both, reply_inlets, request_inlets, taken_by_turns, Request, ReplyMessage, Ports}
use Rattle.ultra_partition.specs.Cut.{block_at, home, first, BlockState}
pub use Rattle.ultra_partition.specs.declared.kind.MessageKind.{MessageKind, TheVariants.{Replies, Requests}}

abbrev pub MessageOf : MessageKind → Type 0
MessageOf Replies = ReplyMessage
MessageOf Requests = Request

-- what a block has of a kind on its links, and the block with something else there
abbrev pub link_table : (kind : MessageKind) → BlockState → List (Option (MessageOf kind))
link_table Replies b = b.replies
link_table Requests b = b.requests

abbrev pub with_link_table : (kind : MessageKind) → List (Option (MessageOf kind)) → BlockState
    → BlockState
with_link_table Replies t b = record b { replies = t }
with_link_table Requests t b = record b { requests = t }

-- the links by which it comes to the unit with number n of a machine of d stages
abbrev pub inlets : MessageKind → ℕ → ℕ → Option (Ports ℕ)
inlets Replies d n = reply_inlets d n
inlets Requests d n = request_inlets d n

-- what a block has on a link, and what each block has there
abbrev pub message_on : (kind : MessageKind) → ℕ → BlockState → Option (MessageOf kind)
message_on kind l b = on_link (link_table kind b) l

abbrev pub on_each : (kind : MessageKind) → List BlockState → ℕ → List (Option (MessageOf kind))
on_each kind bs l = map (message_on kind l) bs

-- ---- before and after
-- no link has a message in two blocks
pub record AreSingle (kind : MessageKind) (bs : List BlockState) : Type 0 where
  pub alone : (l i j : ℕ) → i ≢ j → message_on kind l (block_at bs i) ≢ None
      → message_on kind l (block_at bs j) ≡ None

-- of the blocks nothing has changed but where messages of the kind are; on each link is what was
-- there
pub record OnlyMove (kind : MessageKind) (old now : List BlockState) : Type 0 where
  pub count : length now ≡ length old
  pub rest :
      (k : ℕ)
      → block_at now k
      ≡ with_link_table kind (link_table kind (block_at now k)) (block_at old k)
  pub lengths :
      (k : ℕ)
      → length (link_table kind (block_at now k)) ≡ length (link_table kind (block_at old k))
  pub links : (l : ℕ) → first (on_each kind now l) ≡ first (on_each kind old l)
  pub single : AreSingle kind now

-- block k has no message that leads to unit n, unless the unit is there
abbrev pub HasNoneFor : MessageKind → ℕ → List ℕ → List BlockState → ℕ → ℕ → Type 0
HasNoneFor kind d partition bs k n =
    home partition n ≢ k → AreEmpty (link_table kind (block_at bs k)) (inlets kind d n)

-- each message is in the block of the unit to which it leads
abbrev pub AreThere : MessageKind → ℕ → List ℕ → List BlockState → Type 0
AreThere kind d partition bs =
    (k n : ℕ) → k < length bs → n < unit_count d → HasNoneFor kind d partition bs k n

-- ---- one move
-- what block k has on the inlets p of a unit goes to block h
abbrev pub carried : MessageKind → ℕ → ℕ → Ports ℕ → List BlockState → List BlockState
carried kind k h p bs =
    let was = link_table kind (block_at bs k) in
    let left = slice_set bs k (with_link_table kind (without_both was p) (block_at bs k)) in
    let got = put_on_both (link_table kind (block_at left h)) p (taken_by_turns was p) in
    slice_set left h (with_link_table kind got (block_at left h))
