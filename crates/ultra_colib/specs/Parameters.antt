-- the ranges of the parameters of the coordination programs
use Rattle.std.specs.Prelude.{ℕ, Bool, ◌&&◌, nat_le}

-- rounds 1 to 1000
abbrev pub barrier_takes : ℕ → Bool
barrier_takes rounds = nat_le 1 rounds && nat_le rounds 1000

-- at most 1 to 64 inside at once
abbrev pub gate_takes : ℕ → ℕ → Bool
gate_takes bound rounds = nat_le 1 bound && nat_le bound 64 && barrier_takes rounds

-- 0 to 64 writers
abbrev pub rw_takes : ℕ → ℕ → Bool
rw_takes writers rounds = nat_le writers 64 && barrier_takes rounds

-- 2 ^ z places, z being 0 to 6
abbrev pub queue_takes : ℕ → ℕ → Bool
queue_takes z rounds = nat_le z 6 && barrier_takes rounds
