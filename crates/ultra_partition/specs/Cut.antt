-- a machine cut into blocks by a partition, which names the block of each unit
use Rattle.std.specs.Prelude.{◌≡◌, ℕ, ◌<◌, ◌==◌, ◌&&◌, Bool, nat_lt, List, [], ◌∷◌, Option, Some, None, length, map, slice_index, slice_index_or}
use Rattle.ultra_partition.specs.Prelude.{list_all, empty_module, unit_count, module_number, element_number, ports, own_switch, own_module, own_element, on_link, is_in_block, Frame, Switch, ProcessingElement, Settings, empty_requests, empty_replies, fresh_core, empty_interface, empty_block}
pub use Rattle.ultra_block_core.specs.BlockState.{BlockState}

-- a partition names a block, 0 to 63, for each unit: switches first, then modules, then processing
-- elements. That many blocks are this project's profile
abbrev pub is_partition : Settings → List ℕ → Bool
is_partition c bs = (length bs == unit_count c.stages) && list_all (λ b. nat_lt b 64) bs

-- what is there where nothing is
abbrev pub no_block : BlockState
no_block = empty_block 0 []

abbrev pub no_switch : Switch
no_switch = record {
  to_mm = ports (empty_requests 0 0) (empty_requests 0 0);
  to_pe = ports (empty_replies 0) (empty_replies 0);
}

abbrev pub no_element : ProcessingElement
no_element = record {
  processor = record { site = record { pe = 0; size = 0; all_cells = 0 }; core = fresh_core };
  interface = record { interface = empty_interface; most_open = 0 };
  issued = 0;
}

-- what there is, or what stands for nothing
abbrev pub value_or : {X : Type 0} → X → Option X → X
value_or x None = x
value_or x (Some y) = y

-- the block of a number, and the number of the block in which a unit is
abbrev pub block_at : List BlockState → ℕ → BlockState
block_at bs k = slice_index_or bs k no_block

abbrev pub home : List ℕ → ℕ → ℕ
home partition n = slice_index partition n

-- the first thing that there is in a list
abbrev pub first : {X : Type 0} → List (Option X) → Option X
first [] = None
first (None ∷ xs) = first xs
first (Some x ∷ xs) = Some x

module _ (d : ℕ) (partition : List ℕ) where
  -- each unit of a machine of d stages is in the block that the partition names, and in no
  -- other
  pub record IsCut (bs : List BlockState) : Type 0 where
    pub count : length partition ≡ unit_count d
    pub homes : (n : ℕ) → n < unit_count d → home partition n < length bs
    pub stages : (k : ℕ) → k < length bs → (block_at bs k).stages ≡ d
    pub stand : (k n : ℕ) → k < length bs → n < unit_count d
        → is_in_block n (block_at bs k) ≡ (home partition n == k)

  -- the machine in the course of a cycle: its units by their numbers, and what is on its links
  abbrev pub frame_of : List BlockState → Frame
  frame_of bs = record {
    switch = λ n. value_or no_switch (own_switch (block_at bs (home partition n)).switches n);
    memory_module =
        λ m. value_or empty_module
        (own_module (block_at bs (home partition (module_number d m))).modules m);
    element =
        λ p. value_or no_element
        (own_element (block_at bs (home partition (element_number d p))).elements p);
    replies = λ l. first (map (λ b. on_link b.replies l) bs);
    requests = λ l. first (map (λ b. on_link b.requests l) bs);
  }
