-- What an exchange leaves is settled by what there was before it.
use Rattle.std.proofs.Common.{◌≡◌, ℕ, ◌+◌, ◌*◌, ◌^◌, ◌<◌, ◌≤◌, List, None, length, get_or, refl, arith, sym, ◌∙◌, ap}
use Rattle.std.proofs.lemmas.{Bool.Decides.nat_tests, List.ext_get_or}
use Rattle.ultra_model.specs.Places.{places}
use Rattle.ultra_model.proofs.Each.{length-places, places_at}
use Rattle.ultra_block_core.specs.{Marks.on_link, BlockState.BlockState}
use Rattle.ultra_partition.specs.{declared.kind.MessageKind.{MessageKind, TheVariants.{Replies, Requests}}, Cut.{block_at, no_block}, Exchange.{AreThere, OnlyMove, on_each, link_table, with_link_table}, Halves.AreBlocks}
use Rattle.ultra_partition.proofs.{Moved.{links_of, nothing_away, reader, still_blocks}, Columns.column_first}
use Rattle.ultra_crew.specs.Exchanged.{AreExchanged, at_home, exchanged, unit_behind}

-- a list that is known place by place
pub all_places : {X : Type 0} (d : X) (xs : List X) (m : ℕ) (f : ℕ → X) → length xs ≡ m → ((k : ℕ) → k < m → get_or xs k d ≡ f k) → xs ≡ places m f
all_places d xs m f count each = ext_get_or d xs (places m f) (count ∙ sym (length-places m f)) (λ k inside. grind (arith, places_at))

unit_is : (kind : MessageKind) (d l : ℕ) → reader kind d l ≡ unit_behind kind d l
unit_is Replies d l = refl
unit_is Requests d l = refl

module _ (kind : MessageKind) (d : ℕ) (low : 1 ≤ d) (high : d ≤ 6) (partition : List ℕ) (old now : List BlockState)
    (moved : OnlyMove kind old now) (there : AreThere kind d partition now) (blocks : AreBlocks d partition now) where
  all_at_home : (k : ℕ) → k < length now → link_table kind (block_at now k) ≡ at_home d partition (unit_behind kind d) (on_each kind old) k
  all_at_home k within = all_places None _ ((d + 1) * 2 ^ d) _ (links_of kind d (block_at now k) (blocks.shaped k within)) (λ l small.
      let away = λ (j : ℕ) (h : j < length now). nothing_away kind d partition now blocks.cut there low high j l h small in
      let column = column_first (λ b. on_link (link_table kind b) l) now k within in
      let links = moved.links l in
      let unit = unit_is kind d l in
      grind (arith, nat_tests))

  all_exchanged : now ≡ exchanged kind d partition old
  unfolding exchanged
  all_exchanged = all_places no_block now (length old) _ moved.count (λ k within.
      moved.rest k ∙ ap (λ ms. with_link_table kind ms (block_at old k)) (all_at_home k (rw moved.count within)))

pub are_exchanged : (kind : MessageKind) (d : ℕ) (partition : List ℕ) (old now : List BlockState) → AreBlocks d partition old → OnlyMove kind old now → AreThere kind d partition now → AreExchanged kind d partition old now
are_exchanged kind d partition old now blocks moved there = record {
  moved = moved;
  there = there;
  all = all_exchanged kind d blocks.some_stages blocks.few_stages partition old now moved there (still_blocks d partition old now kind moved blocks);
}
