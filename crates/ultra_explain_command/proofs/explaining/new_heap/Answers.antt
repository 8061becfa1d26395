-- the size that was asked for is that of the heap
use Rattle.std.proofs.Common.{◌≡◌, ℕ, subst}
use Rattle.std.specs.Prelude.{IfOk}
use Rattle.linked_list_allocator.specs.{Heap.heap_size, Region.block_size}
use Rattle.ultra_explain_command.proofs.explaining.new_heap.Goals as goal

pub returns : goal.returns
returns c = subst (λ (n : ℕ). IfOk c.new.result (λ heap. heap_size heap ≡ block_size n)) c.count.ensures.value c.new.ensures.size
