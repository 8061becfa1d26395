use Rattle.std.proofs.Common.{◌≡◌, ◌≤◌, [], take}
use Rattle.ultra_serial_law.specs.Log.{Log}
use Rattle.ultra_serial.specs.{DenseCells.dense_cells, Breach.cells_past, Examined.{IsFirstAfter, AreExplained}, RecordsByName.Holds}
use Rattle.ultra_serial.proofs.checking.replay.Given as goal

abbrev pub invariant-loop-index : goal.invariant-loop-index
invariant-loop-index l = let initial = dense_cells l.initial.memory in
    let before = take l.index l.list in
    record {
      explained : (log : Log) → Holds l.initial.names log [] → AreExplained initial log before;
      cells : dense_cells l.memory ≡ cells_past initial before;
      first : (log : Log) → Holds l.initial.names log [] → IsFirstAfter log before l.from;
      names : (log : Log) → Holds l.initial.names log [] → Holds l.names log before;
      list : l.names.list.now ≡ l.list;
      small : l.from ≤ 4294967296;
    }
