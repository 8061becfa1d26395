-- the faults of a crew; this project's profile
use Rattle.crossbeam_channel.specs.declared.err.SendError.{SendError, TheVariants.{Disconnected, OutOfMemory}}
use Rattle.ultra_crew.specs.declared.fault.CrewFault.{CrewFault, TheVariants.{NoMemory, NoThread}}

-- an assignment that couldn't be sent: its worker's thread is gone, or memory was refused
abbrev pub fault_of_send : {T : Type 0} → SendError T → CrewFault
fault_of_send (Disconnected assignment) = NoThread
fault_of_send (OutOfMemory assignment) = NoMemory
