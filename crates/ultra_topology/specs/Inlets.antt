-- by which links messages come to the unit with a number, and what goes from one table of links to
-- another
use Rattle.std.specs.Prelude.{◌≡◌, ◌≢◌, ℕ, ◌+◌, ◌*◌, ◌^◌, ◌<◌, ◌⊎◌, false, length, List, Option, Some, None, IsSomeAnd, slice_set}
use Rattle.ultra_switch.specs.declared.Ports.{Ports}
use Rattle.ultra_topology.specs.{Numbers.{IsSmall, switch_count}, Set.has_unit, Units.{index_of, stage_of, of_unit}, Links.put_on, Ways.places_of, Marks.{on_link, reply_links, delivery_link, request_links, memory_link}, declared.TheConstants.MOST_UNITS}

-- one link, which is at both ports
abbrev pub at_both : ℕ → Ports ℕ
at_both link = record { zero = link; one = link }

-- the links by which replies come to the unit with number n, if any can: a processing element has
-- one, which is at both ports
abbrev pub reply_inlets : ℕ → ℕ → Option (Ports ℕ)
reply_inlets d n =
    of_unit d (λ s k. Some (reply_links d s k)) (λ m. None)
    (λ p. Some (at_both (delivery_link d p))) None n

-- the links by which requests come to it: a module has one
abbrev pub request_inlets : ℕ → ℕ → Option (Ports ℕ)
request_inlets d n =
    of_unit d (λ s k. Some (request_links d s k)) (λ m. Some (at_both (memory_link d m)))
    (λ p. None) None n

-- what is taken from two links, first from the one and then from the other, and put on them
abbrev pub taken_by_turns : {M : Type 0} → List (Option M) → Ports ℕ → Ports (Option M)
taken_by_turns table p =
    record { zero = on_link table p.zero; one = on_link (slice_set table p.zero None) p.one }

abbrev pub put_on_both : {M : Type 0} → List (Option M) → Ports ℕ → Ports (Option M)
    → List (Option M)
put_on_both table p o = put_on (put_on table p.zero o.zero) p.one o.one

-- nothing is on the links of a unit
abbrev pub AreEmpty : {M : Type 0} → List (Option M) → Option (Ports ℕ) → Type 0
AreEmpty table None = Unit {0}
AreEmpty table (Some p) = (on_link table p.zero ≡ None) × (on_link table p.one ≡ None)

-- a link is one of two
abbrev pub IsEither : ℕ → Ports ℕ → Type 0
IsEither link p = (link ≡ p.zero) ⊎ (link ≡ p.one)

-- one of the links by which messages come to a unit; `inlets` are those of the unit with a number
unfoldable pub IsInletOf : (ℕ → Option (Ports ℕ)) → ℕ → ℕ → Type 0
IsInletOf inlets unit link = IsSomeAnd (inlets unit) (IsEither link)

-- ---- the links of a machine of d stages: one for each position of a stage, and one for each
-- module or processing element
abbrev pub link_count : ℕ → ℕ
link_count d = (d + 1) * 2 ^ d

-- `inlets` are those of the unit with a number
module _ (inlets : ℕ → Option (Ports ℕ)) (d : ℕ) where
  -- a link that leads to no unit but this one
  pub record LeadsToNoOther (link unit : ℕ) : Type 0 where
    pub small : link < link_count d
    pub alone : (n : ℕ) (p : Ports ℕ) → inlets n ≡ Some p → IsEither link p → n ≡ unit

  -- a link to the unit, and to no other
  pub record LeadsTo (link unit : ℕ) : Type 0 where
    pub there : IsInletOf inlets unit link
    pub no_other : LeadsToNoOther link unit

  -- the links by which messages come to it; those of a switch are two
  pub record AreInlets (unit : ℕ) (p : Ports ℕ) : Type 0 where
    pub are : inlets unit ≡ Some p
    pub zero : LeadsToNoOther p.zero unit
    pub one : LeadsToNoOther p.one unit
    pub apart : unit < switch_count d → p.zero ≢ p.one

  -- the two links by which messages leave the switch with number n lead to these units
  pub record LeadOn (n : ℕ) (targets : Ports ℕ) : Type 0 where
    pub zero : LeadsTo (2 * n) targets.zero
    pub one : LeadsTo (2 * n + 1) targets.one
    pub zero_small : targets.zero < MOST_UNITS
    pub one_small : targets.one < MOST_UNITS
    pub near : IsSmall d → (targets.zero < 64) × (targets.one < 64)
    pub places : places_of d (stage_of d n) (index_of d n)
        ≡ record { zero = 2 * n; one = 2 * n + 1 }

  -- messages lead to these units alone
  pub record AreTargets {M : Type 0} (table : List (Option M)) (targets : List ℕ) : Type 0 where
    pub count : length table ≡ link_count d
    pub others : (n : ℕ) → has_unit targets n ≡ false → AreEmpty table (inlets n)
