use Rattle.ultra_serial.specs.ByName.{list_named}
use Rattle.ultra_serial_law.specs.declared.records.Entry.{Entry}
use Rattle.ultra_serial.proofs.RecordsByName.{none_by_name}
use Rattle.ultra_serial.proofs.records_by_name.RecordsByName.new.Goals as goal

pub returns-clause-records : goal.returns-clause-records
returns-clause-records c = record {
  issues = rw c.as_slice.ensures.value at c.in_ok-issues.ensures;
  answers = rw c.as_slice-2.ensures.value at c.in_ok-answers.ensures;
  entries = none_by_name (λ (e : Entry). e.pe) (λ (e : Entry). e.number) (list_named c.in_ok-entries.entries c.args.list.now) (c.in_ok-entries.ensures c.args.list.now);
}
