use Rattle.std.proofs.Common.{◌∙◌, ◌≤◌, ◌+◌, ◌^◌, ap, sym, take, Some, arith}
use Rattle.std.specs.Str.Parse.{digits_value}
use Rattle.std.proofs.lemmas.{List.take_all, Int.Digits.digits_more}
use Rattle.ultra_io.proofs.Numerals.{digit_below_ten, number_is, number_not_digit, number_too_large, value_more}
use Rattle.ultra_io.proofs.decimal.number_written.Goals as goal

pub returns-in_err-digit : goal.returns-in_err-digit
returns-in_err-digit c = c.from_residual.ensures ∙ sym (number_not_digit c.args.word.now c.loop-byte.byte-index c.loop-byte-test.true c.in_err-digit.ensures)

pub returns-in_err-checked_mul : goal.returns-in_err-checked_mul
returns-in_err-checked_mul c =
    let w = c.args.word.now in
    let k = c.loop-byte.byte-index in
    let digit = c.in_ok-digit.ensures in
    let more = value_more w k _ c.from-ones.result c.loop-byte-test.true c.loop-byte.invariant.value digit.0 (c.from-ones.ensures ∙ digit.1) in
    let large : 2 ^ 32 ≤ digits_value 10 (take (k + 1) w) = omega (arith, c.in_err-checked_mul.ensures) in
    c.from_residual-in_err-checked_mul.ensures ∙ sym (number_too_large w (k + 1) large)

pub returns-in_err-value : goal.returns-in_err-value
returns-in_err-value c =
    let w = c.args.word.now in
    let k = c.loop-byte.byte-index in
    let digit = c.in_ok-digit.ensures in
    let more = value_more w k _ c.from-ones.result c.loop-byte-test.true c.loop-byte.invariant.value digit.0 (c.from-ones.ensures ∙ digit.1) in
    let large : 2 ^ 32 ≤ digits_value 10 (take (k + 1) w) = omega (arith, c.in_ok-checked_mul.ensures, c.in_err-value.ensures) in
    c.from_residual-in_err-value.ensures ∙ sym (number_too_large w (k + 1) large)

pub loop-byte-preserved : goal.loop-byte-preserved
loop-byte-preserved c =
    let w = c.args.word.now in
    let k = c.loop-byte.byte-index in
    let digit = c.in_ok-digit.ensures in
    let more = value_more w k _ c.from-ones.result c.loop-byte-test.true c.loop-byte.invariant.value digit.0 (c.from-ones.ensures ∙ digit.1) in
    record {
      some = c.loop-byte.invariant.some;
      digits = digits_more 10 w k c.loop-byte-test.true c.loop-byte.invariant.digits (digit_below_ten _ digit.0);
      value = omega (arith, c.in_ok-checked_mul.ensures, c.in_ok-value.ensures);
      small = omega (arith, c.in_ok-value.ensures);
    }

pub returns : goal.returns
returns c =
    let w = c.args.word.now in
    let so_far = c.loop-byte.invariant in
    let all = take_all c.loop-byte.byte-index w c.loop-byte-test.false in
    let value = so_far.value ∙ ap (digits_value 10) all in
    ap Some value ∙ sym (number_is w so_far.some (rw all at so_far.digits) (omega (arith, so_far.small)))
