pub mod MachineState
