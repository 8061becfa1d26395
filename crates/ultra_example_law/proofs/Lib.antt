pub mod MachineTickets
