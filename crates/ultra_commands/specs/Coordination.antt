-- the texts of the coordination programs, and how one isn't written; this project's profile
use Rattle.std.specs.Prelude.{◌≡◌, ℕ, Bool, true, false, List, ◌++◌}
use Rattle.ultra_msg.specs.Bytes.{TakesPrefix}
use Rattle.ultra_isa.specs.declared.Instr.{Instr}
use Rattle.ultra_asm.specs.Listing.{listing_text}
use Rattle.ultra_colib.specs.{Gate.gate, Queue.queue, ReadersWriters.readers_writers, Barrier.barrier, TicketRounds.ticket_rounds, Parameters.{gate_takes, queue_takes, rw_takes, barrier_takes}}
use Rattle.ultra_args.specs.declared.Coordination.{Coordination, TheVariants.{Gate, Queue, ReadersWriters, Barrier, Tickets}}
use Rattle.ultra_inputs.specs.declared.failure.Failure.{Failure, TheVariants.{BadParameter, NoMemory, NotWritten}}

-- whether the parameters are in their ranges
abbrev pub are_taken : Coordination → Bool
are_taken (Gate bound rounds) = gate_takes bound rounds
are_taken (Queue log_size rounds) = queue_takes log_size rounds
are_taken (ReadersWriters writers rounds) = rw_takes writers rounds
are_taken (Barrier rounds) = barrier_takes rounds
are_taken (Tickets rounds) = barrier_takes rounds

-- the program of these parameters
abbrev pub program_of : Coordination → List Instr
program_of (Gate bound rounds) = gate bound rounds
program_of (Queue log_size rounds) = queue log_size rounds
program_of (ReadersWriters writers rounds) = readers_writers writers rounds
program_of (Barrier rounds) = barrier rounds
program_of (Tickets rounds) = ticket_rounds rounds

abbrev pub lib_text : Coordination → List ℕ
lib_text c = listing_text (program_of c)

-- the parameters are in their ranges, and the canonical text of their program was written
pub record WroteProgram (c : Coordination) (old new : List ℕ) : Type 0 where
  pub taken : are_taken c ≡ true
  pub written : new ≡ old ++ lib_text c

-- how that fails: a parameter is out of its range, or memory was refused, and nothing was written;
-- or a prefix was
pub data LibFails (c : Coordination) (old new : List ℕ) (f : Failure) : Type 0 where
  refused : are_taken c ≡ false → f ≡ BadParameter → new ≡ old → LibFails c old new f
  no_memory : are_taken c ≡ true → f ≡ NoMemory → new ≡ old → LibFails c old new f
  unwritten : are_taken c ≡ true → f ≡ NotWritten → TakesPrefix (lib_text c) old new
      → LibFails c old new f
