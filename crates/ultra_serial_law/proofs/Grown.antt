-- the tree of the hot request: a pair at each stage, of two trees of the same height
use Rattle.std.proofs.Common.{◌≡◌, ℕ, zero, suc, ◌+◌, ◌^◌, ◌<◌, ◌≤◌, List, [], ◌∷◌, ◌++◌, Bool, true, false, refl, arith, sym, subst, ◌∙◌, ap, length}
use Rattle.std.specs.Prelude.{Option, Some, max}
use Rattle.std.proofs.{lemmas.List.length-append, Math.Nat.pow-suc}
use Rattle.ultra_msg.specs.{declared.Request.Request, Pair.pair_of}
use Rattle.ultra_route.specs.Route.{unshuffled}
use Rattle.ultra_switch.specs.declared.WaitRecord.{WaitRecord}
use Rattle.ultra_model.specs.{Machine.{Settings, Machine, size, lane_at}, Ranges.AreInRange, Routed.module_of}
use Rattle.ultra_model.proofs.{Counting.is_reference, Neighbours.itself}
use Rattle.ultra_serial_law.specs.{Tree.{Tree, pair, leaves, height}, declared.records.LoggedIssue.LoggedIssue}
use Rattle.ultra_serial_law.proofs.Series.{sent}
use Rattle.ultra_serial_law.proofs.Forest.{find_record, record_at, position_of, built, built_leaf, built_next, grown}
use Rattle.ultra_serial_law.specs.HotCell.{first_port, second_port, old_of, new_of, record_of, left_at}
use Rattle.ultra_serial_law.proofs.{Meeting.{first_is_port, second_is_port, port_on}, Fronts.{front_cell, old_small, new_small, old_goes, front_is_old}, Stages.{is_on, IsAsked, fronts, HasLeft}}

-- as high as s pairs, with all leaves that it can have
pub record IsFull (s : ℕ) (t : Tree) : Type 0 where
  pub height : height t ≡ s
  pub leaves : length (leaves t) ≡ 2 ^ s

same_height : (s a b : ℕ) → a ≡ s → b ≡ s → max a b + 1 ≡ suc s
same_height s a b e f = omega (arith, e, f)

full_leaf : (t : Tree) → height t ≡ 0 → length (leaves t) ≡ 1 → IsFull 0 t
full_leaf t h g = record { height = h; leaves = g }

-- a pair of two full trees is full, in either order
full_pair : (s x : ℕ) (old new : Tree) (f : Bool) → IsFull s old → IsFull s new → IsFull (suc s) (pair s x old new f)
full_pair s x old new true h g = record {
  height = same_height s (height old) (height new) h.height g.height;
  leaves = let both = length-append (leaves old) (leaves new) in let twice = pow-suc 2 s in omega (arith, both, twice, h.leaves, g.leaves);
}
full_pair s x old new false h g = record {
  height = same_height s (height old) (height new) h.height g.height;
  leaves = let both = length-append (leaves new) (leaves old) in let twice = pow-suc 2 s in omega (arith, both, twice, h.leaves, g.leaves);
}

module _ (c : Settings) (range : AreInRange c) (a n : ℕ) (asked : ℕ → Request) (each : IsAsked c a asked) (m : Machine) (left : HasLeft c a n asked c.stages m) (is : List LoggedIssue) where
  abbrev on : ℕ → ℕ → Bool
  on s x = is_on c a s x

  abbrev front : ℕ → ℕ → Request
  front s x = fronts c n asked s x

  abbrev tree_at : ℕ → ℕ → Tree
  tree_at s p = built c m is s p a

  module _ (s x : ℕ) (hs : s < c.stages) (hx : x < size c) (here : on (s + 1) x ≡ true) where
    abbrev old : Request
    old = old_of c.stages n asked s x

    abbrev new : Request
    new = new_of c.stages n asked s x

    abbrev kept : WaitRecord
    kept = record_of c.stages n asked s x

    -- its record is first in its wait buffer
    is_its : is_reference old.pe a kept.pe kept.cell ≡ true
    is_its = rw (front_cell c range a n asked each s (unshuffled c.stages (first_port c.stages n asked s x)) (old_small c range a n asked each s x hx), itself old.pe, itself a) refl

    found_first : (ws rest : List WaitRecord) → ws ≡ kept ∷ rest → find_record old.pe a ws ≡ Some kept
    found_first ws rest e =
        let f : Bool → Option WaitRecord = λ b. elim b [ true ↦ Some kept | false ↦ find_record old.pe a rest ] in
        ap (λ us. find_record old.pe a us) e ∙ ap f is_its

    records_are : (rest : List WaitRecord) → (lane_at m s x).records ≡ left_at c.stages n asked (module_of c a) s x ++ rest → (lane_at m s x).records ≡ kept ∷ rest
    records_are rest e =
        let f : Bool → List WaitRecord = λ b. elim b [ true ↦ kept ∷ [] | false ↦ [] ] in
        e ∙ ap (λ ws. ws ++ rest) (ap f here)

    record_is : record_at c m s old.pe a ≡ Some kept
    record_is =
        let k = left.records s x hs hx in
        let place : position_of c s old.pe a ≡ x = (old_goes c range a n asked each s x hs hx here).next.line in
        ap (λ z. find_record old.pe a (lane_at m s z).records) place ∙ found_first (lane_at m s x).records k.rest (records_are k.rest k.split)

    abbrev pub old_first : Bool
    old_first = (pair_of (sent (tree_at s old.pe)) (sent (tree_at s new.pe))).old_first

    pub grown_is : tree_at (suc s) old.pe ≡ pair s (position_of c s old.pe a) (tree_at s old.pe) (tree_at s new.pe) old_first
    grown_is = built_next c m is s old.pe a ∙ ap (λ o. grown s (position_of c s old.pe a) (tree_at s old.pe) (λ q. tree_at s q) o) record_is

  grown_full : (s x : ℕ) → s ≤ c.stages → x < size c → on s x ≡ true → IsFull s (tree_at s (front s x).pe)
  grown_full zero x hs hx here = subst (λ t. IsFull 0 t) (sym (built_leaf c m is (front 0 x).pe a)) (full_leaf _ refl refl)
  grown_full (suc s) x hs hx here =
      let next : suc s ≡ s + 1 = omega arith in
      let less : s < c.stages = omega arith in
      let there = subst (λ k. on k x ≡ true) next here in
      let y = first_port c.stages n asked s x in
      let z = second_port c.stages n asked s x in
      let old_full = grown_full s (unshuffled c.stages y) (omega arith) (old_small c range a n asked each s x hx) (port_on c range a n asked s x y less hx (first_is_port c range a n asked s x hx) there) in
      let new_full = grown_full s (unshuffled c.stages z) (omega arith) (new_small c range a n asked each s x hx) (port_on c range a n asked s x z less hx (second_is_port c range a n asked s x hx) there) in
      let p = (old_of c.stages n asked s x).pe in
      let q = (new_of c.stages n asked s x).pe in
      let both : IsFull (suc s) (tree_at (suc s) p) = subst (λ t. IsFull (suc s) t) (sym (grown_is s x less hx there)) (full_pair s (position_of c s p a) (tree_at s p) (tree_at s q) (old_first s x less hx there) old_full new_full) in
      subst (λ r. IsFull (suc s) (tree_at (suc s) r)) (sym (front_is_old c range a n asked each s x)) both

  pub hot_tree_is_full : (x : ℕ) → x < size c → on c.stages x ≡ true → IsFull c.stages (tree_at c.stages (front c.stages x).pe)
  hot_tree_is_full x hx here = grown_full c.stages x (omega arith) hx here
