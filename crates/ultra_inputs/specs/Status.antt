-- the status with which a program ends; this project's profile
use Rattle.std.specs.Prelude.{◌≡◌, ℕ, ◌⊎◌, ◌==◌, if◌then◌else◌}

-- one of the statuses: done, not legal or not careful, a usage fault, refused input, no memory or
-- thread, a failed write
abbrev pub IsStatus : ℕ → Type 0
IsStatus s = (s ≡ 0) ⊎ (s ≡ 1) ⊎ (s ≡ 2) ⊎ (s ≡ 3) ⊎ (s ≡ 4) ⊎ (s ≡ 5)

-- nothing was written: the arguments are no command, or an input is refused
abbrev pub IsRefusal : ℕ → Type 0
IsRefusal s = (s ≡ 2) ⊎ (s ≡ 3)

-- how often standard output failed where the program ended with the status
abbrev pub status_failures : ℕ → ℕ
status_failures s = if s == 5 then 1 else 0
