-- the numbers of switches, the machine that the units of a frame make up, place by place, and lists joined by the switches
use Rattle.std.proofs.Common.{◌≡◌, ℕ, zero, suc, ◌+◌, ◌*◌, ◌-◌, ◌/◌, ◌%◌, ◌^◌, ◌<◌, ◌≤◌, List, [], refl, arith, ap, ◌∷◌, ◌++◌, append_assoc, append-nil}
use Rattle.ultra_cycle_law.proofs.Common.{sizes, places, table, joined, size, lane_at, replies_at, module_at, element_at, switch_number, switch_count, element_of, Frame, AreAlike, at_port, Switch, at_switch, Event, Stop, sized_lane, sized_replies, AreInRange, ModuleState, Settings, Lane, ReplyMessage, Element, div-mul-add, mod-mul-add, mul-add-lt}
use Rattle.std.proofs.lemmas.{Grind.common_steps, List.ext_get_or}
use Rattle.ultra_cycle_law.specs.Whole.{whole}
use Rattle.ultra_model.proofs.Each.{length-places, places_at, places_more, places_none, table_at}

-- ---- numbers of switches
pub at_number : {X : Type 0} (d : ℕ) (g : ℕ → ℕ → X) (s k : ℕ) → k < 2 ^ (d - 1) → at_switch d g (switch_number d s k) ≡ g s k
at_number d g s k h = grind (arith, div-mul-add, mod-mul-add)

pub number_small : (d s k : ℕ) → s < d → k < 2 ^ (d - 1) → switch_number d s k < switch_count d
number_small d s k hs hk = grind (arith, mul-add-lt)

-- ---- equal place by place
pub same_places : {X : Type 0} (n : ℕ) (f g : ℕ → X) → ((k : ℕ) → k < n → f k ≡ g k) → places n f ≡ places n g
same_places n f g h = ext_get_or (f 0) (places n f) (places n g) (grind (arith, length-places)) (grind (arith, length-places, places_at))

pub size_is : (c : Settings) → AreInRange c → 2 * 2 ^ (c.stages - 1) ≡ size c
size_is c range = (sizes c.stages range.some_stages range.most_stages).0

module _ (c : Settings) (f : Frame) (n : ℕ) (events : List Event) (stops : List Stop) where
  pub lane_is : (s x : ℕ) → s < c.stages → x < size c → lane_at (whole c f n events stops) s x ≡ (sized_lane c f s x).lane
  unfolding whole
  lane_is s x hs hx = table_at _ _ _ s x _ hs hx

  pub replies_is : (s y : ℕ) → s < c.stages → y < size c → replies_at (whole c f n events stops) s y ≡ (sized_replies c f s y).replies
  unfolding whole
  replies_is s y hs hy = table_at _ _ _ s y _ hs hy

  pub memory_module_is : (k : ℕ) → k < size c → module_at (whole c f n events stops) k ≡ f.memory_module k
  unfolding whole
  memory_module_is k h = places_at _ _ k _ h

  pub element_is : (p : ℕ) → p < size c → element_at (whole c f n events stops) p ≡ element_of (f.element p)
  unfolding whole
  element_is p h = places_at _ _ p _ h

  -- it is made of what is at each place
  pub whole_is : {happened : List Event} {stopped : List Stop} {lanes : ℕ → ℕ → Lane} {replies : ℕ → ℕ → List ReplyMessage} {modules : ℕ → ModuleState} {elements : ℕ → Element}
      → ((s x : ℕ) → s < c.stages → x < size c → (sized_lane c f s x).lane ≡ lanes s x) → ((s y : ℕ) → s < c.stages → y < size c → (sized_replies c f s y).replies ≡ replies s y)
      → ((k : ℕ) → k < size c → f.memory_module k ≡ modules k) → ((p : ℕ) → p < size c → element_of (f.element p) ≡ elements p) → events ≡ happened → stops ≡ stopped
      → whole c f n events stops ≡ record { lanes = table c.stages (size c) lanes; replies = table c.stages (size c) replies; modules = places (size c) modules; elements = places (size c) elements; cycles = n; events = happened; stops = stopped }
  unfolding whole
  whole_is lanes replies modules elements events stops = cc (same_places _ _ _ (λ s hs. same_places _ _ _ (λ x hx. lanes s x hs hx)), same_places _ _ _ (λ s hs. same_places _ _ _ (λ y hy. replies s y hs hy)), same_places _ _ _ modules, same_places _ _ _ elements)

-- ---- frames that are alike
pub whole_alike : (c : Settings) (range : AreInRange c) (f g : Frame) → AreAlike c.stages f g → (n : ℕ) (events : List Event) (stops : List Stop) → whole c f n events stops ≡ whole c g n events stops
unfolding whole
whole_alike c range f g a n events stops =
    let same = λ (s x : ℕ) (hs : s < c.stages) (hx : x < size c). a.switches _ (number_small c.stages s (x / 2) hs (omega (arith, size_is c range))) in
    whole_is c f n events stops (λ s x hs hx. ap (λ (w : Switch). (at_port w.to_mm (x % 2)).lane) (same s x hs hx)) (λ s y hs hy. ap (λ (w : Switch). (at_port w.to_pe (y % 2)).replies) (same s y hs hy))
    a.modules (λ p hp. ap element_of (a.elements p hp)) refl refl

-- ---- a table of lists by stage and position, joined, and the same by the numbers of the switches
joined-append : {X : Type 0} (xss yss : List (List X)) → joined (xss ++ yss) ≡ joined xss ++ joined yss
joined-append [] yss = refl
joined-append (xs ∷ rest) yss = grind (arith, common_steps, joined-append rest yss)

pub joined_none : {X : Type 0} (g : ℕ → List X) → joined (places 0 g) ≡ []
joined_none g = ap joined (places_none g)

-- one list more
pub joined_next : {X : Type 0} (g : ℕ → List X) (i n : ℕ) → i ≡ n + 1 → joined (places i g) ≡ joined (places n g) ++ g n
joined_next g i n e = grind (arith, places_more, joined-append, append-nil)

module _ {X : Type 0} (d : ℕ) (two : 2 * 2 ^ (d - 1) ≡ 2 ^ d) (g : ℕ → ℕ → List X) where
  abbrev numbered : ℕ → List X
  numbered = at_switch d (λ s k. g s (2 * k) ++ g s (2 * k + 1))

  -- the first n switches of stage r
  of_stage : (r n : ℕ) → n ≤ 2 ^ (d - 1) → joined (places (r * 2 ^ (d - 1) + n) numbered) ≡ joined (places (r * 2 ^ (d - 1)) numbered) ++ joined (places (2 * n) (g r))
  of_stage r zero h = grind (arith, append-nil, joined_none)
  of_stage r (suc n) h =
      let q = r * 2 ^ (d - 1) + n in
      grind (arith, append_assoc, of_stage r n, at_number d (λ s k. g s (2 * k) ++ g s (2 * k + 1)) r n, joined_next numbered (suc q) q, joined_next (g r) (2 * n + 1) (2 * n), joined_next (g r) (2 * suc n) (2 * n + 1))

  pub regroup : (m : ℕ) → joined (joined (table m (2 ^ d) g)) ≡ joined (places (m * 2 ^ (d - 1)) numbered)
  regroup zero = let none = joined_none numbered in rw (joined_none (λ s. places (2 ^ d) (λ x. g s x))) (grind arith)
  regroup (suc r) = grind (arith, joined-append, regroup r, rw two at (of_stage r (2 ^ (d - 1)) (omega arith)), joined_next (λ s. places (2 ^ d) (g s)) (suc r) r)
