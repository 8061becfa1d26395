-- the fault of a text for which there is no memory: it has no line
use Rattle.ultra_asm.specs.declared.{AsmFault.AsmFault, AsmFaultKind.TheVariants.NoMemory}

abbrev pub no_memory : AsmFault
no_memory = record { line = 0; kind = NoMemory }
