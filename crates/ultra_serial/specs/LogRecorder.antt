-- what it is to have recorded the issues and answers of a run
use Rattle.std.specs.Prelude.{◌≡◌, ℕ, List, [], ◌∷◌}
use Rattle.ultra_msg.specs.declared.Event.{Event}
use Rattle.ultra_serial.specs.{declared.log_recorder.LogRecorder.LogRecorder, LatestNumbers.number_in}
use Rattle.ultra_serial_law.specs.Log.{Log, log_of, latest_number, logged}

pub record Records (r : LogRecorder) (l : Log) : Type 0 where
  pub log : log_of r.log ≡ l
  pub numbers : (p a : ℕ) → number_in r.numbers p a ≡ latest_number p a l.issues 0

-- the log after the events of a cycle
abbrev pub logged_all : ℕ → List Event → Log → Log
logged_all cycle [] l = l
logged_all cycle (e ∷ es) l = logged_all cycle es (logged cycle l e)
