use Rattle.std.proofs.Common.{◌+◌, ◌≤◌, ◌<◌, length, get_or, arith, ◌∙◌, ℕ, ◌*◌, min, ap}
use Rattle.command_words.proofs.Numbers.{step_value, step_digits, digit_true}
use Rattle.command_words.proofs.number.number.Goals as goal

pub loop-byte-preserved : goal.loop-byte-preserved
loop-byte-preserved c =
    let text = c.as_bytes-byte-items.result.now in
    let i = c.loop-byte.byte-index in
    let inside : i < length text = omega arith in
    let low : 48 ≤ get_or text i 0 = omega arith in
    let high : get_or text i 0 ≤ 57 = omega arith in
    record {
      low = omega arith;
      text = c.loop-byte.invariant.text;
      value = step_value (c.args.most + 1) c.loop-byte.value text i _ inside (c.min-value.ensures ∙ ap (λ (x : ℕ). min (10 * c.loop-byte.value + x) (c.args.most + 1)) c.from.ensures) ∙ c.loop-byte.invariant.value;
      digits = step_digits text i inside (digit_true (get_or text i 0) low high) ∙ c.loop-byte.invariant.digits;
    }
