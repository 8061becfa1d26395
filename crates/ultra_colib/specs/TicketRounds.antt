-- a counter from which each processing element draws a ticket in each round
use Rattle.std.specs.Prelude.{All, ◌≡◌, ◌≢◌, ℕ, ◌<◌, ◌≤◌, ◌*◌, List, [], ◌∷◌, slice_index}
use Rattle.ultra_isa.specs.declared.Instr.{Instr}
use Rattle.ultra_isa.specs.declared.Instr.TheVariants.{Set, Subtract, JumpIfNotZero, Faa, Fence, Halt}
use Rattle.ultra_model.specs.{Machine.{Settings, size}, Ranges.AreInRange}
use Rattle.ultra_para.specs.Para.{Para, core_at, start_para, run_para}
use Rattle.ultra_colib.specs.Tickets.{ticket_of}

-- each draws `rounds` tickets from cell 0 into register 1; register 5 is how many it has left to
-- draw, and is lowered after each draw
abbrev pub ticket_rounds : ℕ → List Instr
ticket_rounds rounds =
    Set 2 1 ∷ Set 5 rounds
    ∷ Faa 1 0 2 ∷ Fence ∷ Subtract 5 5 2 ∷ JumpIfNotZero 5 2 ∷ Halt ∷ []

-- a processing element has a ticket from its first draw on. It has come as far as the draw, which
-- is the instruction at 2. If it is at 2, it has fewer than all rounds left
abbrev pub HasDrawn : ℕ → Para → ℕ → Type 0
HasDrawn rounds s p =
    (2 ≤ (core_at s p).pc)
    × ((core_at s p).pc ≡ 2 → slice_index (core_at s p).registers 5 < rounds)

-- no two have the same
abbrev pub AreTicketsDifferent : ℕ → Settings → Para → Type 0
AreTicketsDifferent rounds c s =
    (p q : ℕ) → p < size c → q < size c → p ≢ q → HasDrawn rounds s p → HasDrawn rounds s q
    → ticket_of s p ≢ ticket_of s q

-- the next ticket is what cell 0 holds; it is greater than each that somebody has
abbrev pub IsNextTicketGreater : ℕ → Settings → Para → Type 0
IsNextTicketGreater rounds c s =
    (p : ℕ) → p < size c → HasDrawn rounds s p → ticket_of s p < slice_index s.cells 0

-- once all have come to the last instruction, `rounds` tickets for each have been drawn
abbrev pub AreAllDrawn : ℕ → Settings → Para → Type 0
AreAllDrawn rounds c s =
    ((p : ℕ) → p < size c → (core_at s p).pc ≡ 6) → slice_index s.cells 0 ≡ rounds * size c

-- no ticket is drawn twice, s being a state and t a later one: what one has nobody else has later,
-- and a later draw gives one a greater ticket. A processing element whose program counter is 3 has
-- just drawn, and register 5 then says which draw it was
pub record IsNoTicketTwice (rounds : ℕ) (c : Settings) (s t : Para) : Type 0 where
  pub others : (p q : ℕ) → p < size c → q < size c → p ≢ q → HasDrawn rounds s p
      → HasDrawn rounds t q → ticket_of s p ≢ ticket_of t q
  pub own : (p : ℕ) → p < size c → (core_at s p).pc ≡ 3 → (core_at t p).pc ≡ 3
      → slice_index (core_at s p).registers 5 ≢ slice_index (core_at t p).registers 5
      → ticket_of s p < ticket_of t p

-- the state after a schedule of the program
abbrev pub run_draws : ℕ → Settings → Para → List ℕ → Para
run_draws rounds c s schedule = run_para c (ticket_rounds rounds) s schedule

-- for 1 to 1000 rounds, all settings in their ranges without initial values, and every schedule
abbrev pub IsKeptByDraws : (ℕ → Settings → Para → Type 0) → Type 0
IsKeptByDraws Law =
    (rounds : ℕ) → 1 ≤ rounds → rounds ≤ 1000 → (c : Settings) → AreInRange c → c.initial ≡ []
    → (schedule : List ℕ) → All (λ p. p < size c) schedule
    → Law rounds c (run_draws rounds c (start_para c) schedule)

abbrev pub TicketRoundsLaw : Type 0
TicketRoundsLaw = IsKeptByDraws AreTicketsDifferent

abbrev pub NextTicketLaw : Type 0
NextTicketLaw = IsKeptByDraws IsNextTicketGreater

abbrev pub AllDrawnLaw : Type 0
AllDrawnLaw = IsKeptByDraws AreAllDrawn

-- a schedule, and what is scheduled after it
abbrev pub NoTicketTwiceLaw : Type 0
NoTicketTwiceLaw =
    (rounds : ℕ) → 1 ≤ rounds → rounds ≤ 1000 → (c : Settings) → AreInRange c → c.initial ≡ []
    → (schedule : List ℕ) → All (λ p. p < size c) schedule
    → (more : List ℕ) → All (λ p. p < size c) more
    → IsNoTicketTwice rounds c (run_draws rounds c (start_para c) schedule)
    (run_draws rounds c (run_draws rounds c (start_para c) schedule) more)
