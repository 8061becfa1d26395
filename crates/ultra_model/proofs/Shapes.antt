-- every phase keeps the shape of the machine
use Rattle.std.proofs.Common.{◌≡◌, ℕ, ◌<◌, List, [], refl, length, ◌∙◌}
use Rattle.std.specs.Prelude.{Option, Some, None, slice_index_or}
use Rattle.ultra_msg.specs.declared.{Request.Request, ReplyMessage.ReplyMessage}
use Rattle.ultra_mem.specs.Serve.{ModuleState}
use Rattle.ultra_mem.proofs.Cells.{length-serve}
use Rattle.ultra_isa.specs.declared.Instr.{Instr}
use Rattle.ultra_model.specs.{Places.{places, table}, Machine.{Settings, Machine, last_stage, start, module_at}, Shape.HasShape}
use Rattle.ultra_model.specs.Phases.{without_reply, with_request, arriving_reply, entering, reply_phase, memory_phase, request_phase, processor_phase}
use Rattle.ultra_model.proofs.{Each.{places_at, length-places}, AtPlaces.{memory_module-start, memory_module-reply_phase, memory_module-memory_phase, memory_module-request_phase}}

-- a table has its rows, and each row its places
rows-table : {X : Type 0} (m n : ℕ) (f : ℕ → ℕ → X) → length (table m n f) ≡ m
rows-table m n f = length-places m (λ s. places n (λ x. f s x))

row-table : {X : Type 0} (m n : ℕ) (f : ℕ → ℕ → X) (s : ℕ) → s < m → length (slice_index_or (table m n f) s []) ≡ n
row-table m n f s h = rw (places_at m (λ s. places n (λ x. f s x)) s [] h) (length-places n (λ x. f s x))

cells-without_reply : (b : ModuleState) (o : Option ReplyMessage) → length (without_reply b o).cells ≡ length b.cells
cells-without_reply b None = refl
cells-without_reply b (Some r) = refl

module _ (c : Settings) where
  cells-with_request : (b : ModuleState) (o : Option Request) → length (with_request c b o).cells ≡ length b.cells
  cells-with_request b None = refl
  cells-with_request b (Some r) = refl

  pub shape-start : HasShape c (start c)
  unfolding start
  shape-start = record {
    lane_rows = rows-table _ _ _;
    lanes = λ s h. row-table _ _ _ s h;
    reply_rows = rows-table _ _ _;
    replies = λ s h. row-table _ _ _ s h;
    modules = length-places _ _;
    elements = length-places _ _;
    cells = λ k h. rw (memory_module-start c k h) (length-places _ _);
  }

  pub shape-reply_phase : (m : Machine) → HasShape c m → HasShape c (reply_phase c m)
  unfolding reply_phase
  shape-reply_phase m w = record {
    lane_rows = rows-table _ _ _;
    lanes = λ s h. row-table _ _ _ s h;
    reply_rows = rows-table _ _ _;
    replies = λ s h. row-table _ _ _ s h;
    modules = length-places _ _;
    elements = length-places _ _;
    cells = λ k h. rw (memory_module-reply_phase c m k h) (cells-without_reply (module_at m k) (arriving_reply c m (last_stage c) k) ∙ w.cells k h);
  }

  pub shape-memory_phase : (m : Machine) → HasShape c m → HasShape c (memory_phase c m)
  unfolding memory_phase
  shape-memory_phase m w = record {
    lane_rows = w.lane_rows;
    lanes = w.lanes;
    reply_rows = w.reply_rows;
    replies = w.replies;
    modules = length-places _ _;
    elements = w.elements;
    cells = λ k h. rw (memory_module-memory_phase c m k h) (length-serve (module_at m k) ∙ w.cells k h);
  }

  pub shape-request_phase : (m : Machine) → HasShape c m → HasShape c (request_phase c m)
  unfolding request_phase
  shape-request_phase m w = record {
    lane_rows = rows-table _ _ _;
    lanes = λ s h. row-table _ _ _ s h;
    reply_rows = w.reply_rows;
    replies = w.replies;
    modules = length-places _ _;
    elements = length-places _ _;
    cells = λ k h. rw (memory_module-request_phase c m k h) (cells-with_request (module_at m k) (entering c m k) ∙ w.cells k h);
  }

  pub shape-processor_phase : (program : List Instr) (m : Machine) → HasShape c m → HasShape c (processor_phase c program m)
  unfolding processor_phase
  shape-processor_phase program m w = record {
    lane_rows = w.lane_rows;
    lanes = w.lanes;
    reply_rows = w.reply_rows;
    replies = w.replies;
    modules = w.modules;
    elements = length-places _ _;
    cells = w.cells;
  }
