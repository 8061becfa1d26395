-- a counter that hands out tickets, each once
use Rattle.std.specs.Prelude.{All, ◌≡◌, ◌≢◌, ℕ, ◌<◌, ◌≤◌, List, [], ◌∷◌, slice_index}
use Rattle.ultra_isa.specs.declared.Instr.{Instr, TheVariants.{Set, Faa, Fence, Halt}}
use Rattle.ultra_model.specs.{Machine.{Settings, size}, Ranges.AreInRange}
use Rattle.ultra_para.specs.Para.{Para, core_at, start_para, run_para}

-- each processing element takes one ticket from cell 0 into register 1
abbrev pub tickets : List Instr
tickets = Set 2 1 ∷ Faa 1 0 2 ∷ Fence ∷ Halt ∷ []

-- a processing element that has taken its ticket, and the ticket
abbrev pub HasTicket : Para → ℕ → Type 0
HasTicket s p = 2 ≤ (core_at s p).pc

abbrev pub ticket_of : Para → ℕ → ℕ
ticket_of s p = slice_index (core_at s p).registers 1

-- no two have the same
abbrev pub AreDifferent : Settings → Para → Type 0
AreDifferent c s =
    (p q : ℕ) → p < size c → q < size c → p ≢ q → HasTicket s p → HasTicket s q
    → ticket_of s p ≢ ticket_of s q

-- for all settings in their ranges without initial values, and every schedule
abbrev pub TicketsLaw : Type 0
TicketsLaw =
    (c : Settings) → AreInRange c → c.initial ≡ [] → (schedule : List ℕ)
    → All (λ p. p < size c) schedule → AreDifferent c (run_para c tickets (start_para c) schedule)
