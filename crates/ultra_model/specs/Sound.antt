-- what holds of a machine at the start and after each phase of each cycle
use Rattle.ultra_model.specs.{Machine.{Settings, Machine}, Shape.HasShape, Capacity.IsWithinCapacity, Routed.IsRouted, Balance.IsBalanced}

pub record IsSound (c : Settings) (m : Machine) : Type 0 where
  pub shape : HasShape c m
  pub places : IsWithinCapacity c m
  pub routes : IsRouted c m
  pub balance : IsBalanced c m
