use Rattle.std.proofs.Common.{◌≡◌, ◌<◌, ◌^◌, length, take}
use Rattle.std.specs.Str.Parse.{AllDigits, digits_value}
use Rattle.ultra_io.proofs.decimal.number_written.Given as goal

abbrev pub invariant-loop-byte : goal.invariant-loop-byte
invariant-loop-byte l = record {
  some : 0 < length l.word;
  digits : AllDigits 10 (take l.byte-index l.word);
  value : l.value ≡ digits_value 10 (take l.byte-index l.word);
  small : l.value < 2 ^ 32;
}
