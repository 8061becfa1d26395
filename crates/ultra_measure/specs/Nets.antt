-- the network of a machine, as the code that looks at the machine is given it
use Rattle.std.specs.Prelude.{◌≡◌, ℕ, ◌-◌, ◌*◌, ◌^◌, ◌≤◌, Bool, true}
use Rattle.ultra_model.specs.Machine.{Settings}
use Rattle.ultra_topology.specs.Numbers.{IsSmall}

-- `sized` says that the code is the specialised copy for small machines
pub record IsNetOf (sized : Bool) (net : ℕ) (c : Settings) : Type 0 where
  pub is : net ≡ c.stages
  pub small : sized ≡ true → IsSmall net
  pub even : 2 ^ c.stages ≡ 2 * 2 ^ (c.stages - 1)
  pub few : 2 ^ (c.stages - 1) ≤ 32
  pub few_stages : c.stages ≤ 6
