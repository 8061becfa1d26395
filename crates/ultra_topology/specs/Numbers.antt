-- how the units of a machine of d stages are numbered, and the links between them
use Rattle.std.specs.Prelude.{ℕ, ◌+◌, ◌-◌, ◌*◌, ◌/◌, ◌^◌, ◌≤◌, true, false, ◌==◌}
use Rattle.ultra_route.specs.Route.{shuffled, unshuffled}

-- units are numbered switches first, stage by stage, then modules, then processing elements
abbrev pub switch_number : ℕ → ℕ → ℕ → ℕ
switch_number d s k = s * 2 ^ (d - 1) + k

abbrev pub switch_count : ℕ → ℕ
switch_count d = d * 2 ^ (d - 1)

abbrev pub module_number : ℕ → ℕ → ℕ
module_number d m = switch_count d + m

abbrev pub element_number : ℕ → ℕ → ℕ
element_number d p = switch_count d + 2 ^ d + p

abbrev pub unit_count : ℕ → ℕ
unit_count d = switch_count d + 2 * 2 ^ d

-- all units of a machine, at most 64, are in the first word of a set
abbrev pub IsSmall : ℕ → Type 0
IsSmall d = d ≤ 4

-- a link has the number of the position from which a message leaves: that of position x of stage s,
-- counted over all stages. Behind them, as positions of stage d, come the modules, from which
-- replies leave, and the processing elements, from which requests leave
abbrev pub link_number : ℕ → ℕ → ℕ → ℕ
link_number d s x = s * 2 ^ d + x

-- ---- replies
-- the link by which a reply comes to memory-side position x of stage s: from the next stage, or
-- from module x
abbrev pub reply_source : ℕ → ℕ → ℕ → ℕ
reply_source d s x =
    elim (s == d - 1) [ true ↦ link_number d d x | false ↦ link_number d (s + 1) (shuffled d x) ]

-- the unit to which a reply goes from PE-side position y of stage s: to the stage before, or to a
-- processing element
abbrev pub reply_target : ℕ → ℕ → ℕ → ℕ
reply_target d s y = elim (s == 0) [
  | true ↦ element_number d (unshuffled d y)
  | false ↦ switch_number d (s - 1) (unshuffled d y / 2)
]

-- ---- requests
-- the link by which a request comes to PE-side position y of stage s: from the stage before, or
-- from a processing element
abbrev pub request_source : ℕ → ℕ → ℕ → ℕ
request_source d s y =
    elim (s == 0) [
      | true ↦ link_number d d (unshuffled d y)
      | false ↦ link_number d (s - 1) (unshuffled d y)
    ]

-- the unit to which a request goes from memory-side position x of stage s: to the next stage, or to
-- module x
abbrev pub request_target : ℕ → ℕ → ℕ → ℕ
request_target d s x = elim (s == d - 1) [
  | true ↦ module_number d x
  | false ↦ switch_number d (s + 1) (shuffled d x / 2)
]
