-- Messages on links: to which unit each link leads, and what is true of messages of each kind. Where each message is in the block to which it leads, what comes to a unit is what its block has
-- for it. Messages that lead from one block to a unit in another go there, and nothing else changes.
use Rattle.std.proofs.Common.{◌≡◌, ◌≢◌, ℕ, ◌+◌, ◌-◌, ◌*◌, ◌^◌, ◌<◌, ◌≤◌, true, false, List, Option, Some, None, length, refl, sym, ap, subst, arith, map, ◌∙◌, get_or-set_same, get_or-set_other, ◌⊎◌, get_or}
use Rattle.ultra_partition.proofs.Common.{nat_tests, get_or_default, get_or_past, length-set, switch_count, unit_count, module_number, element_number, ports, stage_of, index_of, delivery_link, memory_link, reply_links, request_links, on_both, on_link, AllStayWithin, AreEmpty, reply_inlets, request_inlets, IsShaped, AreRead, are_read, is_among, leads_there, replies_read, reply_reader, request_reader, requests_read, unit_is, put_apart, put_or, put_there, AreAlike, Frame, Ports, IsCut, block_at, no_block, first, home, frame_of, BlockState, AreThere, MessageOf, inlets, message_on, on_each, link_table, with_link_table, AreSingle, HasNoneFor, OnlyMove, carried, MessageKind, Replies, Requests, AreBlocks, other, emptied, emptied_first, length-put_on}
use Rattle.ultra_partition.proofs.Columns.{column_first, same_entries}

-- ---- a block with something else on its links
pub table_with : (kind : MessageKind) (t : List (Option (MessageOf kind))) (b : BlockState) → link_table kind (with_link_table kind t b) ≡ t
table_with Replies t b = refl
table_with Requests t b = refl

pub with_own : (kind : MessageKind) (b : BlockState) → b ≡ with_link_table kind (link_table kind b) b
with_own Replies b = refl
with_own Requests b = refl

pub links_of : (kind : MessageKind) (d : ℕ) (b : BlockState) → IsShaped d b → length (link_table kind b) ≡ (d + 1) * 2 ^ d
links_of Replies d b shape = shape.replies
links_of Requests d b shape = shape.requests

-- where there is no block there is nothing
pub none_past : (kind : MessageKind) (bs : List BlockState) (l k : ℕ) → length bs ≤ k → message_on kind l (block_at bs k) ≡ None
none_past Replies bs l k past = grind (arith, get_or_past)
none_past Requests bs l k past = grind (arith, get_or_past)

-- ---- the links to switch n, and the one to unit i of the sort in which the way ends
abbrev pub links : MessageKind → ℕ → ℕ → Ports ℕ
links Replies d n = reply_links d (stage_of d n) (index_of d n)
links Requests d n = request_links d (stage_of d n) (index_of d n)

abbrev pub end_link : MessageKind → ℕ → ℕ → ℕ
end_link Replies d p = delivery_link d p
end_link Requests d m = memory_link d m

abbrev pub end_number : MessageKind → ℕ → ℕ → ℕ
end_number Replies d p = element_number d p
end_number Requests d m = module_number d m

-- ---- the unit to which a link leads
abbrev pub reader : MessageKind → ℕ → ℕ → ℕ
reader Replies = reply_reader
reader Requests = request_reader

-- the inlets of unit n lead to it
pub lead_here : (kind : MessageKind) (d : ℕ) → 1 ≤ d → d ≤ 6 → (n : ℕ) (p : Ports ℕ) → inlets kind d n ≡ Some p → AreRead d (reader kind d) n p
lead_here Replies = are_read reply_inlets reply_reader replies_read
lead_here Requests = are_read request_inlets request_reader requests_read

-- each link leads to a unit
pub leads_to : (kind : MessageKind) (d : ℕ) → 1 ≤ d → d ≤ 6 → (l : ℕ) → l < (d + 1) * 2 ^ d → record { small : reader kind d l < unit_count d; among : is_among l (inlets kind d (reader kind d l)) ≡ true }
leads_to Replies = leads_there reply_inlets reply_reader replies_read
leads_to Requests = leads_there request_inlets request_reader requests_read

-- where nothing is on the inlets of a unit, nothing is on this one
pub none_among : {M : Type 0} (t : List (Option M)) (l : ℕ) (o : Option (Ports ℕ)) → is_among l o ≡ true → AreEmpty t o → on_link t l ≡ None
none_among t l None among none = cc
none_among t l (Some p) among none = grind (arith, nat_tests)

-- what holds of the inlets of each unit
pub by_inlets : (kind : MessageKind) (d : ℕ) (P : ℕ → Option (Ports ℕ) → Type 0) → ((n : ℕ) → n < switch_count d → P n (Some (links kind d n)))
    → ((i : ℕ) → i < 2 ^ d → P (end_number kind d i) (Some (ports (end_link kind d i) (end_link kind d i)))) → ((n : ℕ) → P n None) → (n : ℕ) → P n (inlets kind d n)
by_inlets Replies d P switches ends none n = let switch = switches n in let end = ends (n - element_number d 0) in grind (arith, unit_is)
by_inlets Requests d P switches ends none n = let switch = switches n in let end = ends (n - module_number d 0) in grind (arith, unit_is)

module _ (kind : MessageKind) (d : ℕ) (partition : List ℕ) (bs : List BlockState) (cut : IsCut d partition bs) (there : AreThere kind d partition bs) where
  -- what comes to unit n is in its block
  module _ (n : ℕ) (h : n < unit_count d) (p : Ports ℕ) (is : inlets kind d n ≡ Some p) where
    come : ports (first (on_each kind bs p.zero)) (first (on_each kind bs p.one)) ≡ on_both (link_table kind (block_at bs (home partition n))) p
    come = grind (arith, column_first, (λ (k : ℕ) (within : k < length bs) (other : home partition n ≢ k). subst (λ o. AreEmpty (link_table kind (block_at bs k)) o) is (there k n within h other)))

  pub switch_there : (n : ℕ) → n < switch_count d → ports (first (on_each kind bs (links kind d n).zero)) (first (on_each kind bs (links kind d n).one)) ≡ on_both (link_table kind (block_at bs (home partition n))) (links kind d n)
  switch_there n h = come n (omega arith) (links kind d n) (grind arith)

  pub end_there : (i : ℕ) → i < 2 ^ d → first (on_each kind bs (end_link kind d i)) ≡ message_on kind (end_link kind d i) (block_at bs (home partition (end_number kind d i)))
  end_there i h = ap (λ q. q.zero) (come (end_number kind d i) (grind arith) (ports (end_link kind d i) (end_link kind d i)) (grind arith))

  -- what is on a link is in the block of the unit to which it leads
  pub nothing_away : 1 ≤ d → d ≤ 6 → (k l : ℕ) → k < length bs → l < (d + 1) * 2 ^ d → home partition (reader kind d l) ≢ k → message_on kind l (block_at bs k) ≡ None
  nothing_away low high k l within small away =
      let it = leads_to kind d low high l small in none_among (link_table kind (block_at bs k)) l _ it.among (there k (reader kind d l) within it.small away)

-- ---- what goes from block k, which may be what it has somewhere, to block h
module _ {X : Type 0} (g : BlockState → Option X) (k h : ℕ) (bs now : List BlockState) where
  pub record Goes (o : Option X) : Type 0 where
    pub own : (o ≡ None) ⊎ (o ≡ g (block_at bs k))
    pub left : g (block_at now k) ≡ elim o [ None ↦ g (block_at bs k) | Some x ↦ None ]
    pub got : g (block_at now h) ≡ put_or o (g (block_at bs h))
    pub others : (j : ℕ) → j ≢ k → j ≢ h → g (block_at now j) ≡ g (block_at bs j)

  none_after : (o : Option X) → Goes o → (j : ℕ) → g (block_at bs j) ≡ None → (j ≡ h → o ≡ None) → g (block_at now j) ≡ None
  none_after o goes j none here = grind arith

  module _ (count : length now ≡ length bs) (apart : h ≢ k) (k_within : k < length bs) (h_within : h < length bs)
      (single : (i j : ℕ) → i ≢ j → g (block_at bs i) ≢ None → g (block_at bs j) ≡ None) where
    single_after : (o : Option X) → Goes o → (i j : ℕ) → i ≢ j → g (block_at now i) ≢ None → g (block_at now j) ≡ None
    single_after o goes i j other there = grind arith

    first_after : (o : Option X) → Goes o → first (map g now) ≡ first (map g bs)
    first_after None goes = ap first (same_entries g g bs now count (λ j within. grind arith))
    first_after (Some x) goes = column_first g now h (omega arith) (grind arith) ∙ grind arith ∙ sym (column_first g bs k k_within (grind arith))

pub both_moved : (kind : MessageKind) (a b c : List BlockState) → OnlyMove kind a b → OnlyMove kind b c → OnlyMove kind a c
both_moved Replies a b c one two = grind arith
both_moved Requests a b c one two = grind arith

module _ (kind : MessageKind) where
  pub nothing_moved : (bs : List BlockState) → AreSingle kind bs → OnlyMove kind bs bs
  nothing_moved bs single = grind (arith, with_own)

  -- ---- what block k has on the inlets p of unit n goes to the block in which that is
  module _ (d : ℕ) (low : 1 ≤ d) (high : d ≤ 6) (partition : List ℕ) (bs : List BlockState) (k n : ℕ) (p : Ports ℕ) (is : inlets kind d n ≡ Some p)
      (k_within : k < length bs) (h_within : home partition n < length bs) (apart : home partition n ≢ k) (long : length (link_table kind (block_at bs (home partition n))) ≡ (d + 1) * 2 ^ d) where
    abbrev h : ℕ
    h = home partition n

    abbrev after : List BlockState
    after = carried kind k h p bs

    abbrev leaving : ℕ → Option (MessageOf kind)
    leaving l = elim (is_among l (Some p)) [ true ↦ message_on kind l (block_at bs k) | false ↦ None ]

    goes : (l : ℕ) → Goes (message_on kind l) k h bs after (leaving l)
    goes l = grind (arith, nat_tests, lead_here kind d low high n p is, table_with, emptied, emptied_first, put_there, put_apart, length-put_on, length-set, get_or-set_same, get_or-set_other)

    -- no other block has anything more for a unit
    kept_at : (j m : ℕ) (o : Option (Ports ℕ)) → inlets kind d m ≡ o → home partition m ≢ j → AreEmpty (link_table kind (block_at bs j)) o → AreEmpty (link_table kind (block_at after j)) o
    kept_at j m None leads elsewhere none = tt
    kept_at j m (Some q) leads elsewhere none =
        let still = λ (l : ℕ) (to : reader kind d l ≡ m) (empty : message_on kind l (block_at bs j) ≡ None). none_after (message_on kind l) k h bs after (leaving l) (goes l) j empty (λ here. grind (arith, nat_tests, lead_here kind d low high n p is)) in
        grind (arith, lead_here kind d low high m q leads)

    pub carried_moved : AreSingle kind bs → (now : List BlockState) → now ≡ after
        → record { only : OnlyMove kind bs now; gone : n < length partition → HasNoneFor kind d partition now k n; kept : (j m : ℕ) → HasNoneFor kind d partition bs j m → HasNoneFor kind d partition now j m }
    carried_moved single now same =
        let count : length after ≡ length bs = grind (arith, length-set) in
        let first_stays = λ (l : ℕ). first_after _ _ _ _ _ count apart k_within h_within (single.alone l) _ (goes l) in
        let stays_single = λ (l : ℕ). single_after _ _ _ _ _ count apart k_within h_within (single.alone l) _ (goes l) in
        rw same record {
          only = grind (arith, table_with, with_own, length-put_on, length-set, get_or-set_same, get_or-set_other);
          gone = λ small. grind (arith, nat_tests, goes p.zero, goes p.one);
          kept = grind (arith, kept_at);
        }

-- ---- what an exchange leaves as it was
module _ (d : ℕ) (partition : List ℕ) (bs now : List BlockState) where
  pub still_cut : (kind : MessageKind) → OnlyMove kind bs now → IsCut d partition bs → IsCut d partition now
  still_cut kind only cut = grind arith

  pub still_blocks : (kind : MessageKind) → OnlyMove kind bs now → AreBlocks d partition bs → AreBlocks d partition now
  still_blocks Replies only blocks = grind (arith, still_cut)
  still_blocks Requests only blocks = grind (arith, still_cut)

  -- the machine's units, and what is on each link
  pub alike : (kind : MessageKind) (g : Frame) → OnlyMove kind bs now → AreAlike d (frame_of d partition bs) g → AreAlike d (frame_of d partition now) g
  alike Replies g only was =
      let links : (l : ℕ) → (frame_of d partition now).replies l ≡ (frame_of d partition bs).replies l = only.links in grind (arith, same_entries)
  alike Requests g only was =
      let links : (l : ℕ) → (frame_of d partition now).requests l ≡ (frame_of d partition bs).requests l = only.links in grind (arith, same_entries)

-- a block has nothing for units elsewhere with numbers below `to`, if it has nothing for those
-- below `from`, and nothing leads from it to those from `from` on
pub gone_until : (kind : MessageKind) (d : ℕ) (partition : List ℕ) (old bs : List BlockState) (k from to : ℕ) (x : BlockState) → OnlyMove kind old bs → IsCut d partition old → k < length old
    → (let b = get_or bs k x in AllStayWithin (link_table kind b) (inlets kind b.stages) b from to) → ((n : ℕ) → n < from → n < unit_count d → HasNoneFor kind d partition bs k n)
    → (n : ℕ) → n < to → n < unit_count d → HasNoneFor kind d partition bs k n
gone_until kind d partition old bs k from to x only cut within none gone n before unit elsewhere =
    let now_cut = still_cut d partition old bs kind only cut in grind (arith, other, get_or_default bs k x no_block)
