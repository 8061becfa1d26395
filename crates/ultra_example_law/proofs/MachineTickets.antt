-- what holds of the registers of the paracomputer holds of the machine's
use Rattle.std.proofs.Common.{refl}
use Rattle.ultra_para.specs.Law.{ParacomputerLaw}
use Rattle.ultra_colib.specs.Tickets.{tickets, TicketsLaw}
use Rattle.ultra_example_law.specs.MachineTickets.{MachineTicketsLaw}

pub different : ParacomputerLaw → TicketsLaw → MachineTicketsLaw
different law tickets_law c ranged empty n p q below under apart h k =
    let r = law c ranged tickets refl n in
    let mine = r.looks.cores p below h.0 in
    let other = r.looks.cores q under k.0 in
    rw (← mine) (rw (← other) (tickets_law c ranged empty r.schedule r.elements p q below under apart (rw mine h.1) (rw other k.1)))
