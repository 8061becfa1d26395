-- a machine is sound at the start, and every phase keeps it so
use Rattle.std.proofs.Common.{ℕ, zero, suc, List}
use Rattle.ultra_isa.specs.declared.Instr.{Instr}
use Rattle.ultra_model.specs.{Machine.{Settings, Machine, start}, Ranges.AreInRange, Sound.IsSound}
use Rattle.ultra_model.specs.Phases.{reply_phase, memory_phase, request_phase, processor_phase, cycle, after}
use Rattle.ultra_model.proofs.{Shapes.{shape-start, shape-reply_phase, shape-memory_phase, shape-request_phase, shape-processor_phase}, Capacities.{within-start, within-reply_phase, within-memory_phase, within-request_phase, within-processor_phase}, Routes.{routed-start, routed-reply_phase, routed-memory_phase, routed-request_phase, routed-processor_phase}, ReplyBalance.balanced-reply_phase, RequestBalance.balanced-request_phase, Balanced.{balanced-start, balanced-memory_phase, balanced-processor_phase}}

module _ (c : Settings) (range : AreInRange c) where
  pub sound-start : IsSound c (start c)
  sound-start = record {
    shape = shape-start c;
    places = within-start c;
    routes = routed-start c range;
    balance = balanced-start c;
  }

  pub sound-reply_phase : (m : Machine) → IsSound c m → IsSound c (reply_phase c m)
  sound-reply_phase m w = record {
    shape = shape-reply_phase c m w.shape;
    places = within-reply_phase c m w.places;
    routes = routed-reply_phase c range m w.routes;
    balance = balanced-reply_phase c range m w.routes w.balance;
  }

  pub sound-memory_phase : (m : Machine) → IsSound c m → IsSound c (memory_phase c m)
  sound-memory_phase m w = record {
    shape = shape-memory_phase c m w.shape;
    places = within-memory_phase c m w.places;
    routes = routed-memory_phase c range m w.routes;
    balance = balanced-memory_phase c m w.balance;
  }

  pub sound-request_phase : (m : Machine) → IsSound c m → IsSound c (request_phase c m)
  sound-request_phase m w = record {
    shape = shape-request_phase c m w.shape;
    places = within-request_phase c m w.places;
    routes = routed-request_phase c range m w.routes;
    balance = balanced-request_phase c range m w.balance;
  }

  pub sound-processor_phase : (program : List Instr) (m : Machine) → IsSound c m → IsSound c (processor_phase c program m)
  sound-processor_phase program m w = record {
    shape = shape-processor_phase c program m w.shape;
    places = within-processor_phase c program m w.places;
    routes = routed-processor_phase c range program m w.routes;
    balance = balanced-processor_phase c program m w.balance;
  }

  -- ---- cycles
  pub cycle_is_sound : (program : List Instr) (m : Machine) → IsSound c m → IsSound c (cycle c program m)
  unfolding cycle
  cycle_is_sound program m w =
      sound-processor_phase program _ (sound-request_phase _ (sound-memory_phase _ (sound-reply_phase m w)))

  pub after_is_sound : (program : List Instr) (n : ℕ) → IsSound c (after c program n)
  unfolding after
  after_is_sound program zero = sound-start
  after_is_sound program (suc n) = cycle_is_sound program (after c program n) (after_is_sound program n)
