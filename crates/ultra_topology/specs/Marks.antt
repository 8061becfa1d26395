-- what is on the links by which messages come to a unit of a machine of d stages
use Rattle.std.specs.Prelude.{ℕ, ◌+◌, ◌-◌, ◌*◌, Bool, true, false, List, Option, None, slice_index_or, slice_set}
use Rattle.ultra_route.specs.Route.{shuffled}
use Rattle.ultra_switch.specs.declared.Ports.{Ports}
use Rattle.ultra_topology.specs.Numbers.{link_number, reply_source, request_source}

abbrev pub on_link : {M : Type 0} → List (Option M) → ℕ → Option M
on_link table link = slice_index_or table link None

-- the links by which replies come to switch k of stage s, and to processing element p
abbrev pub reply_links : ℕ → ℕ → ℕ → Ports ℕ
reply_links d s k = record { zero = reply_source d s (2 * k); one = reply_source d s (2 * k + 1) }

abbrev pub delivery_link : ℕ → ℕ → ℕ
delivery_link d p = link_number d 0 (shuffled d p)

-- the links by which requests come to switch k of stage s, and to module m
abbrev pub request_links : ℕ → ℕ → ℕ → Ports ℕ
request_links d s k =
    record { zero = request_source d s (2 * k); one = request_source d s (2 * k + 1) }

abbrev pub memory_link : ℕ → ℕ → ℕ
memory_link d m = link_number d (d - 1) m

-- ---- what is taken
abbrev pub on_both : {M : Type 0} → List (Option M) → Ports ℕ → Ports (Option M)
on_both table p = record { zero = on_link table p.zero; one = on_link table p.one }

-- with nothing on the links any more
abbrev pub without_both : {M : Type 0} → List (Option M) → Ports ℕ → List (Option M)
without_both table p = slice_set (slice_set table p.zero None) p.one None

-- what is at two ports, in order: that at port 0 first, or that at port 1 first
abbrev pub ports_in_turn : {X : Type 0} → Bool → Ports X → X × X
ports_in_turn zero_first p = elim zero_first [ true ↦ (p.zero, p.one) | false ↦ (p.one, p.zero) ]
