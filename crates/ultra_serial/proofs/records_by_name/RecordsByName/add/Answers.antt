use Rattle.std.proofs.{Common.{◌≡◌, ℕ, arith, get_or, subst}, lemmas.{Option.{slice_get-get_or, get_or_from_slice_get}, Result.on_ok_weaker}}
use Rattle.ultra_serial.specs.{ByPair.lists_with, ByName.list_named, RecordsByName.entries_named}
use Rattle.ultra_serial.proofs.{Searching.some_entry, RecordsByName.more_by_name}
use Rattle.ultra_serial_law.specs.declared.records.Entry.{Entry}
use Rattle.ultra_serial.proofs.records_by_name.RecordsByName.add.Goals as goal

pub returns-clause-records : goal.returns-clause-records
returns-clause-records c = on_ok_weaker c.push.result (λ more log before e at h.
    let list = c.args.self.now.list.now in
    let i = c.args.index in
    let here = get_or_from_slice_get list i e some_entry at in
    record {
      issues = h.issues;
      answers = h.answers;
      entries = more_by_name (λ (e : Entry). e.pe) (λ (e : Entry). e.number) (entries_named c.args.self.now) before h.entries (list_named c.push.new.self list) e (subst (λ (f : Entry). (a b : ℕ) → list_named c.push.new.self list a b ≡ lists_with (entries_named c.args.self.now) f.pe f.number f a b) here (more (get_or list i some_entry) (slice_get-get_or list i some_entry (omega arith))));
    }) c.push.ensures
