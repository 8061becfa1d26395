use Rattle.std.proofs.Common.{◌≡◌, ◌++◌, take}
use Rattle.ultra_io.specs.Account.{bytes_in, files_in, failures_in}
use Rattle.ultra_io.proofs.account.Account.note_taken.Given as goal

abbrev pub invariant-loop-byte : goal.invariant-loop-byte
invariant-loop-byte l = record {
  taken : bytes_in l.self ≡ bytes_in l.initial.self ++ take l.byte-index l.bytes;
  files : files_in l.self ≡ files_in l.initial.self;
  failures : failures_in l.self ≡ failures_in l.initial.self;
}
