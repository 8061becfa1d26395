-- after five steps of processing element 0 its result cell holds 2, and no ticket was drawn
use Rattle.std.proofs.Common.{◌≡◌, ℕ, ◌<◌, List, [], ◌∷◌, lit≤, refl, arith}
use Rattle.std.specs.Prelude.{All, slice_index}
use Rattle.std.proofs.lemmas.List.Elements.{All-nil, All-from_recursion}
use Rattle.ultra_model.specs.{Places.places, Machine.Settings, Ranges.AreInRange}
use Rattle.ultra_para.specs.Para.{start_para, run_para}
use Rattle.ultra_colib.specs.{Queue.AreItemsOnce, NoQueue.{no_queue, IsNoQueueRefused}}

abbrev two_elements : Settings
two_elements = record { stages = 1; request_places = 4; reply_places = 8; wait_places = 4; most_open = 2; cells = 8; cycles = 1; initial = [] }

ranged : AreInRange two_elements
ranged = record {
  some_stages = lit≤ tt;
  most_stages = lit≤ tt;
  some_request_places = lit≤ tt;
  most_request_places = lit≤ tt;
  some_reply_places = lit≤ tt;
  most_reply_places = lit≤ tt;
  most_wait_places = lit≤ tt;
  some_open = lit≤ tt;
  few_open = lit≤ tt;
  some_cells = lit≤ tt;
  most_cells = lit≤ tt;
  addresses = All-nil _;
}

abbrev five_steps : List ℕ
five_steps = 0 ∷ 0 ∷ 0 ∷ 0 ∷ 0 ∷ []

elements : All (λ p. p < 2) five_steps
elements = let first : 0 < 2 = omega arith in All-from_recursion (λ p. p < 2) five_steps (first, (first, (first, (first, (first, tt)))))

abbrev cells : List ℕ
cells = (run_para two_elements no_queue (start_para two_elements) five_steps).cells

result_stored : slice_index cells 10 ≡ 2
unfolding places
result_stored = refl

none_drawn : slice_index cells 2 ≡ 0
unfolding places
none_drawn = refl

pub refused : IsNoQueueRefused
refused kept =
    let law : AreItemsOnce 0 1 2 (slice_index cells) = kept two_elements ranged refl five_steps elements in
    let below = law.drawn 0 (λ e. let two = result_stored in omega arith) in
    let none = none_drawn in
    omega (arith, below.0, none)
