-- The unit to which each link leads, computed over every network of at most six stages.
use Rattle.std.proofs.Common.{◌≡◌, ◌≢◌, ℕ, ◌+◌, ◌-◌, ◌*◌, ◌/◌, ◌%◌, ◌^◌, ◌<◌, ◌≤◌, Bool, true, false, ◌&&◌, Option, Some, None, refl, subst, sym, ap, ◌∙◌, List, get_or, arith, ◌==◌, ◌||◌, nat_le, nat_lt, not}
use Rattle.ultra_topology.proofs.Common.{nat_tests, Ports, all_below_at, AreInlets, IsInletOf, LeadOn, LeadsTo, LeadsToNoOther, at_both, link_count, reply_inlets, request_inlets, delivery_link, memory_link, link_number, reply_links, request_links, switch_count, switch_number, unit_count, reply_target, request_target, IsElement, IsModule, IsSwitch, index_of, stage_of}
use Rattle.ultra_route.specs.Route.{shuffled}
use Rattle.ultra_route.proofs.Table.{all_below}
use Rattle.ultra_topology.proofs.{Put.has_places, Standing.is_switch}
use Rattle.ultra_topology.specs.{Numbers.IsSmall, Ways.{reply_targets, request_targets}, Wiring.{AreNeighbours, neighbours}, declared.wiring.Neighbours.Neighbours}

-- what is computed of every network
pub each_network : (test : ℕ → Bool) → all_below (λ k. test (k + 1)) 6 ≡ true → (d : ℕ) → 1 ≤ d → d ≤ 6 → test d ≡ true
each_network test all d low high =
    let e : (d - 1) + 1 ≡ d = omega arith in
    subst (λ x. test x ≡ true) e (all_below_at (λ k. test (k + 1)) 6 all (d - 1) (omega arith))

pub few_units : (d : ℕ) → 1 ≤ d → d ≤ 6 → IsSmall d → unit_count d ≤ 64
unfolding all_below
few_units d low high small = let it = each_network (λ d. nat_lt 4 d || nat_lt (unit_count d) 65) refl d low high in grind (arith, nat_tests)

each_network_at : (test : ℕ → ℕ → Bool) (count : ℕ → ℕ) → all_below (λ k. all_below (test (k + 1)) (count (k + 1))) 6 ≡ true → (d : ℕ) → 1 ≤ d → d ≤ 6 → (n : ℕ) → n < count d → test d n ≡ true
each_network_at test count all d low high = all_below_at (test d) (count d) (each_network (λ d. all_below (test d) (count d)) all d low high)

-- the units that read links
abbrev pub reply_reader : ℕ → ℕ → ℕ
reply_reader d l = elim (nat_lt l (d * 2 ^ d)) [
  | true ↦ reply_target d (l / 2 ^ d) (l % 2 ^ d)
  | false ↦ switch_number d (d - 1) ((l - d * 2 ^ d) / 2)
]

abbrev pub request_reader : ℕ → ℕ → ℕ
request_reader d l = elim (nat_lt l (d * 2 ^ d)) [
  | true ↦ request_target d (l / 2 ^ d) (l % 2 ^ d)
  | false ↦ switch_number d 0 (shuffled d (l - d * 2 ^ d) / 2)
]

-- these are links of the machine, and the unit reads them; a switch has two
pub record AreRead (d : ℕ) (reader : ℕ → ℕ) (n : ℕ) (p : Ports ℕ) : Type 0 where
  pub zero_reader : reader p.zero ≡ n
  pub one_reader : reader p.one ≡ n
  pub zero_small : p.zero < link_count d
  pub one_small : p.one < link_count d
  pub apart : n < switch_count d → p.zero ≢ p.one

-- link l is one of these
abbrev pub is_among : ℕ → Option (Ports ℕ) → Bool
is_among l None = false
is_among l (Some p) = (l == p.zero) || (l == p.one)

is_inlet : (inlets : ℕ → Option (Ports ℕ)) (l n : ℕ) → is_among l (inlets n) ≡ true → IsInletOf inlets n l
unfolding IsInletOf
is_inlet inlets l n among = grind (arith, nat_tests)

-- ---- where `inlets` are those of the unit with a number, and `reader` gives the unit that reads a link
module _ (inlets : ℕ → ℕ → Option (Ports ℕ)) (reader : ℕ → ℕ → ℕ) where
  abbrev is_read : ℕ → ℕ → Option (Ports ℕ) → Bool
  is_read d n None = true
  is_read d n (Some p) =
      (reader d p.zero == n) && (reader d p.one == n) && nat_lt p.zero (link_count d) && nat_lt p.one (link_count d) && (nat_le (switch_count d) n || not (p.zero == p.one))

  -- link l is among the inlets of the unit that reads it
  abbrev has_reader : ℕ → ℕ → Bool
  has_reader d l = nat_lt (reader d l) (unit_count d) && is_among l (inlets d (reader d l))

  pub record ReadInlets : Type 0 where
    pub tested : all_below (λ k. all_below (λ n. is_read (k + 1) n (inlets (k + 1) n)) (unit_count (k + 1))) 6 ≡ true
    pub none_past : (d n : ℕ) → unit_count d ≤ n → inlets d n ≡ None
    pub all_lead : all_below (λ k. all_below (has_reader (k + 1)) (link_count (k + 1))) 6 ≡ true

  -- these are the units to which messages go from switch n
  abbrev next_read : ℕ → ℕ → Ports ℕ → Bool
  next_read d n p = (reader d (2 * n) == p.zero) && (reader d (2 * n + 1) == p.one) && nat_lt p.zero 320 && nat_lt p.one 320 && (nat_lt 4 d || nat_lt p.zero 64 && nat_lt p.one 64)

  module _ (read : ReadInlets) (d : ℕ) (low : 1 ≤ d) (high : d ≤ 6) where
    pub are_read : (n : ℕ) (p : Ports ℕ) → inlets d n ≡ Some p → AreRead d (reader d) n p
    are_read n p are = let none = read.none_past d n in grind (arith, nat_tests, each_network_at (λ d n. is_read d n (inlets d n)) unit_count read.tested d low high n)

    -- a link leads to the unit that reads it, and to no other
    leads_to_no_other : (link unit : ℕ) → link < link_count d → reader d link ≡ unit → LeadsToNoOther (inlets d) d link unit
    leads_to_no_other link unit small reads = record { small = small; alone = λ n p are either. let it = are_read n p are in grind arith }

    pub leads_there : (l : ℕ) → l < link_count d → record { small : reader d l < unit_count d; among : is_among l (inlets d (reader d l)) ≡ true }
    leads_there l small = grind (arith, nat_tests, each_network_at has_reader link_count read.all_lead d low high l small)

    pub leads : (link unit : ℕ) → link < link_count d → reader d link ≡ unit → LeadsTo (inlets d) d link unit
    leads link unit small reads =
        record { there = subst (λ n. IsInletOf (inlets d) n link) reads (is_inlet (inlets d) link _ (leads_there link small).among); no_other = leads_to_no_other link unit small reads }

    pub are_inlets : (n : ℕ) (p : Ports ℕ) → inlets d n ≡ Some p → AreInlets (inlets d) d n p
    are_inlets n p are = let it = are_read n p are in grind (arith, leads_to_no_other p.zero n, leads_to_no_other p.one n)

    -- `targets` gives them by the stage of the switch and its index there
    lead_on : (targets : ℕ → ℕ → ℕ → Ports ℕ) → all_below (λ k. all_below (λ n. next_read (k + 1) n (targets (k + 1) (stage_of (k + 1) n) (index_of (k + 1) n))) (switch_count (k + 1))) 6 ≡ true
        → (n : ℕ) → n < switch_count d → LeadOn (inlets d) d n (targets d (stage_of d n) (index_of d n))
    lead_on targets all n within =
        let p = targets d (stage_of d n) (index_of d n) in
        let test = each_network_at (λ d n. next_read d n (targets d (stage_of d n) (index_of d n))) switch_count all d low high n within in
        let places = has_places d n _ _ low high (is_switch d n within) in
        grind (arith, nat_tests, leads (2 * n) p.zero, leads (2 * n + 1) p.one)

pub replies_read : ReadInlets reply_inlets reply_reader
unfolding all_below
replies_read = record { tested = refl; none_past = λ d n past. grind arith; all_lead = refl }

pub requests_read : ReadInlets request_inlets request_reader
unfolding all_below
requests_read = record { tested = refl; none_past = λ d n past. grind arith; all_lead = refl }

-- ---- by which links messages come, by the kind of unit
module _ (d : ℕ) (low : 1 ≤ d) (high : d ≤ 6) where
  pub replies_to_switch : (n s k : ℕ) → IsSwitch d n s k → AreRead d (reply_reader d) n (reply_links d s k)
  replies_to_switch n s k is = are_read _ _ replies_read d low high n _ (grind arith)

  pub reply_to_element : (n p : ℕ) → IsElement d n p → AreRead d (reply_reader d) n (at_both (delivery_link d p))
  reply_to_element n p is = are_read _ _ replies_read d low high n _ (grind arith)

  pub requests_to_switch : (n s k : ℕ) → IsSwitch d n s k → AreRead d (request_reader d) n (request_links d s k)
  requests_to_switch n s k is = are_read _ _ requests_read d low high n _ (grind arith)

  pub request_to_module : (n m : ℕ) → IsModule d n m → AreRead d (request_reader d) n (at_both (memory_link d m))
  request_to_module n m is = are_read _ _ requests_read d low high n _ (grind arith)

  -- where messages lead from switch n
  replies_lead : (n : ℕ) → n < switch_count d → LeadOn (reply_inlets d) d n (reply_targets d (stage_of d n) (index_of d n))
  unfolding all_below
  replies_lead n within = lead_on _ _ replies_read d low high reply_targets refl n within

  requests_lead : (n : ℕ) → n < switch_count d → LeadOn (request_inlets d) d n (request_targets d (stage_of d n) (index_of d n))
  unfolding all_below
  requests_lead n within = lead_on _ _ requests_read d low high request_targets refl n within

  -- by which links they come to it
  replies_come : (n : ℕ) → n < switch_count d → AreInlets (reply_inlets d) d n (reply_links d (stage_of d n) (index_of d n))
  replies_come n within = are_inlets _ _ replies_read d low high n _ (grind arith)

  requests_come : (n : ℕ) → n < switch_count d → AreInlets (request_inlets d) d n (request_links d (stage_of d n) (index_of d n))
  requests_come n within = are_inlets _ _ requests_read d low high n _ (grind arith)

-- the links by which messages leave module m and processing element p lead to their switches
pub module_leads : (d m target : ℕ) → 1 ≤ d → d ≤ 6 → m < 2 ^ d → target ≡ switch_number d (d - 1) (m / 2) → LeadsTo (reply_inlets d) d (link_number d d m) target
module_leads d m target low high small is = leads _ _ replies_read d low high _ _ (grind arith) (grind arith)

pub element_leads : (d p target : ℕ) → 1 ≤ d → d ≤ 6 → p < 2 ^ d → target ≡ switch_number d 0 (shuffled d p / 2) → LeadsTo (request_inlets d) d (link_number d d p) target
element_leads d p target low high small is = leads _ _ requests_read d low high _ _ (grind arith) (grind arith)

-- where messages lead from switch n, as the entry of the switch says, which is read at n
module _ {d e n k : ℕ} {entries : List Neighbours} {entry : Neighbours} (low : 1 ≤ d) (high : d ≤ 6) (net_is : e ≡ d) (number_is : k ≡ n) (within : n < switch_count d) (are : AreNeighbours e (switch_count e) entries) (read : entry ≡ get_or entries k entry) where
  entry_is : entry ≡ neighbours d (stage_of d n) (index_of d n)
  entry_is =
      let right = subst (λ x. AreNeighbours x (switch_count x) entries) net_is are in
      read ∙ (ap (λ j. get_or entries j entry) number_is ∙ right.each n entry within)

  pub entry_requests_lead : LeadOn (request_inlets d) d n entry.request_targets
  entry_requests_lead = subst (λ (x : Neighbours). LeadOn (request_inlets d) d n x.request_targets) (sym entry_is) (requests_lead d low high n within)

  pub entry_replies_lead : LeadOn (reply_inlets d) d n entry.reply_targets
  entry_replies_lead = subst (λ (x : Neighbours). LeadOn (reply_inlets d) d n x.reply_targets) (sym entry_is) (replies_lead d low high n within)

  -- and by which links they come to it
  pub entry_requests_come : AreInlets (request_inlets d) d n entry.request_links
  entry_requests_come = subst (λ (x : Neighbours). AreInlets (request_inlets d) d n x.request_links) (sym entry_is) (requests_come d low high n within)

  pub entry_replies_come : AreInlets (reply_inlets d) d n entry.reply_links
  entry_replies_come = subst (λ (x : Neighbours). AreInlets (reply_inlets d) d n x.reply_links) (sym entry_is) (replies_come d low high n within)
