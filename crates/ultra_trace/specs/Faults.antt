-- the faults of a run by several workers; this project's profile
use Rattle.ultra_trace_alone.specs.declared.fault.RunFault.{RunFault, TheVariants.{NoMemory, NoThread}}
use Rattle.ultra_crew.specs.declared.fault.CrewFault.{CrewFault}
use Rattle.ultra_crew.specs.declared.fault.CrewFault.TheVariants as crew

-- a fault of the workers ends the run by the same name
abbrev pub fault_of_crew : CrewFault → RunFault
fault_of_crew crew.NoThread = NoThread
fault_of_crew crew.NoMemory = NoMemory
