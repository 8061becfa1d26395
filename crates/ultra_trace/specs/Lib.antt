pub mod Faults
pub use Rattle.ultra_trace_alone.specs.declared.fault.RunFault
pub use Rattle.ultra_trace_alone.specs.Headline
pub use Rattle.ultra_model.specs.Trace
pub use Rattle.ultra_trace_alone.specs.declared.part.CycleLines
pub use Rattle.ultra_trace_alone.specs.declared.part.TracePart
pub use Rattle.ultra_trace_alone.specs.Part
