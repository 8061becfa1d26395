-- a counter that hands out tickets, on the machine
use Rattle.std.specs.Prelude.{◌≡◌, ◌≢◌, ℕ, ◌<◌, ◌≤◌, [], slice_index}
use Rattle.ultra_model.specs.{Machine.{Settings, Machine, size, element_at}, Phases.after, Ranges.AreInRange}
use Rattle.ultra_para.specs.Law.{WaitsForNothing}
use Rattle.ultra_colib.specs.Tickets.{tickets}

-- processing element p waits for no reply and has its ticket, in register 1
abbrev pub HoldsTicket : Machine → ℕ → Type 0
HoldsTicket m p =
    WaitsForNothing (element_at m p).interface.opened × 2 ≤ (element_at m p).core.pc

abbrev pub held_ticket : Machine → ℕ → ℕ
held_ticket m p = slice_index (element_at m p).core.registers 1

-- after every number of cycles no two have the same
abbrev pub MachineTicketsLaw : Type 0
MachineTicketsLaw =
    (c : Settings) → AreInRange c → c.initial ≡ [] → (n p q : ℕ) → p < size c → q < size c
    → p ≢ q → HoldsTicket (after c tickets n) p → HoldsTicket (after c tickets n) q
    → held_ticket (after c tickets n) p ≢ held_ticket (after c tickets n) q
