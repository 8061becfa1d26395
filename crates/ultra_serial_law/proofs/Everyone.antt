-- each processing element has a leaf in the tree of the hot request
use Rattle.std.proofs.Common.{◌≡◌, ℕ, zero, suc, ◌+◌, ◌/◌, ◌%◌, ◌<◌, ◌≤◌, ◌⊎◌, inl, inr, List, [], Bool, true, false, arith, sym, subst, ◌∙◌, ap, map, ⊎_elim}
use Rattle.std.specs.Prelude.{◌==◌}
use Rattle.std.proofs.lemmas.List.{map-append, Elements.{Contains-append_left, Contains-append_right, Contains-push}}
use Rattle.ultra_msg.specs.declared.Request.{Request}
use Rattle.ultra_route.specs.Route.{unshuffled, line_of, entry_of}
use Rattle.ultra_model.specs.{Machine.{Settings, Machine, size}, Ranges.AreInRange, Routed.module_of}
use Rattle.ultra_model.proofs.Routes.{route, route_ends}
use Rattle.ultra_serial_law.specs.{declared.records.{NamedRequest.NamedRequest, LoggedIssue.LoggedIssue}, Tree.{Tree, leaf, pair, leaves}, HotSpot.IsOf}
use Rattle.ultra_serial_law.proofs.{Forest.{position_of, built, built_leaf, leaf_of}, Grown.{old_first, grown_is}}
use Rattle.ultra_serial_law.specs.HotCell.{old_of, new_of}
use Rattle.ultra_serial_law.proofs.{Meeting.{leads_at, front_first}, Fronts.front_is_old, Onward.leads_first, Returning.one_of_ports, Stages.{is_on, IsAsked, fronts, HasLeft}}

in_pair : (s x : ℕ) (old new : Tree) (f : Bool) (p : ℕ) → IsOf old p ⊎ IsOf new p → IsOf (pair s x old new f) p
in_pair s x old new true p h =
    rw (map-append (λ (l : NamedRequest). l.pe) (leaves old) (leaves new))
    (⊎_elim (λ k. Contains-append_left (map (λ (l : NamedRequest). l.pe) (leaves old)) (map (λ (l : NamedRequest). l.pe) (leaves new)) p k)
    (λ k. Contains-append_right (map (λ (l : NamedRequest). l.pe) (leaves old)) (map (λ (l : NamedRequest). l.pe) (leaves new)) p k) h)
in_pair s x old new false p h =
    rw (map-append (λ (l : NamedRequest). l.pe) (leaves new) (leaves old))
    (⊎_elim (λ k. Contains-append_right (map (λ (l : NamedRequest). l.pe) (leaves new)) (map (λ (l : NamedRequest). l.pe) (leaves old)) p k)
    (λ k. Contains-append_left (map (λ (l : NamedRequest). l.pe) (leaves new)) (map (λ (l : NamedRequest). l.pe) (leaves old)) p k) h)

module _ (c : Settings) (range : AreInRange c) (a n : ℕ) (asked : ℕ → Request) (each : IsAsked c a asked) (some_waits : 1 ≤ c.wait_places) (m : Machine) (left : HasLeft c a n asked c.stages m) (is : List LoggedIssue) where
  abbrev on : ℕ → ℕ → Bool
  on s x = is_on c a s x

  abbrev front : ℕ → ℕ → Request
  front s x = fronts c n asked s x

  abbrev tree : ℕ → ℕ → Tree
  tree s p = built c m is s p a

  abbrev line : ℕ → ℕ → ℕ
  line s p = line_of c.stages s p (module_of c a)

  -- the tree of the request on its line has a leaf of it
  pub record IsIn (s p : ℕ) : Type 0 where
    pub on : on s (line s p) ≡ true
    pub leaf : IsOf (tree s (front s (line s p)).pe) p

  in_first : (p : ℕ) → p < size c → IsIn 0 p
  in_first p hp =
      let starts = (route_ends c range p a hp).0 in
      let own : (front 0 p).pe ≡ p = ap (λ (r : Request). r.pe) (front_first c range a n asked p) ∙ each.own p hp in
      let alone : IsOf (leaf (leaf_of is p a)) p = Contains-push [] p in
      record {
        on = leads_first c range a n asked each some_waits (line 0 p);
        leaf = rw (starts, own, built_leaf c m is p a) alone;
      }

  module _ (s p : ℕ) (hs : s < c.stages) (hp : p < size c) (w : IsIn s p) where
    abbrev x : ℕ
    x = line (s + 1) p

    abbrev y : ℕ
    y = entry_of c.stages s p (module_of c a)

    same_half : y / 2 ≡ x / 2
    same_half = let forth = (route c range s p a hs hp).forth in omega (arith, forth)

    on_before : on s (unshuffled c.stages y) ≡ true
    on_before = rw ((route c range s p a hs hp).home) w.on

    on_next : on (s + 1) x ≡ true
    on_next =
        let t = route c range s p a hs hp in
        ap (λ z. on (s + 1) z) (sym t.forth) ∙ (sym (leads_at c range a n asked s y hs t.entry_small).on ∙ on_before)

    leaf_before : IsOf (tree s (front s (unshuffled c.stages y)).pe) p
    leaf_before = rw ((route c range s p a hs hp).home) w.leaf

    abbrev old : Request
    old = old_of c.stages n asked s x

    abbrev new : Request
    new = new_of c.stages n asked s x

    in_either : IsOf (tree s old.pe) p ⊎ IsOf (tree s new.pe) p
    in_either =
        ⊎_elim (λ e. inl (subst (λ z. IsOf (tree s (front s (unshuffled c.stages z)).pe) p) e leaf_before))
        (λ e. inr (subst (λ z. IsOf (tree s (front s (unshuffled c.stages z)).pe) p) e leaf_before))
        (one_of_ports ((n + s) % 2 == 0) (x / 2) y same_half)

    leaf_next : IsOf (tree (suc s) (front (suc s) x).pe) p
    leaf_next =
        let small = (route c range s p a hs hp).next_small in
        let both = in_pair s (position_of c s old.pe a) (tree s old.pe) (tree s new.pe) (old_first c range a n asked each m left is s x hs small on_next) p in_either in
        subst (λ q. IsOf (tree (suc s) q) p) (sym (front_is_old c range a n asked each s x))
        (subst (λ t. IsOf t p) (sym (grown_is c range a n asked each m left is s x hs small on_next)) both)

    in_next : IsIn (suc s) p
    in_next =
        let next : s + 1 ≡ suc s = omega arith in
        record {
          on = subst (λ j. on j (line j p) ≡ true) next on_next;
          leaf = subst (λ j. IsOf (tree (suc s) (front (suc s) (line j p)).pe) p) next leaf_next;
        }

  is_in : (s p : ℕ) → s ≤ c.stages → p < size c → IsIn s p
  is_in zero p hs hp = in_first p hp
  is_in (suc s) p hs hp = in_next s p (omega arith) hp (is_in s p (omega arith) hp)

  -- each has a leaf in the tree that comes to the module
  pub everyone : (p : ℕ) → p < size c → IsOf (tree c.stages (front c.stages (module_of c a)).pe) p
  everyone p hp = subst (λ x. IsOf (tree c.stages (front c.stages x).pe) p) (route_ends c range p a hp).1 (is_in c.stages p (omega arith) hp).leaf
