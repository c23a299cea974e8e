use Rattle.std.proofs.Common.{◌≡◌, ◌+◌, ◌≤◌, min, drop}
use Rattle.std.specs.Prelude.{fold}
use Rattle.std.specs.List.{list_all}
use Rattle.command_words.specs.Numbers.{is_digit, decimal_value}
use Rattle.command_words.proofs.Numbers.{with_digit}
use Rattle.command_words.proofs.number.number.Given as goal

-- what is left completes the value, up to the limit, and the digits so far are digits
abbrev pub invariant-loop-byte : goal.invariant-loop-byte
invariant-loop-byte l = record {
  low : l.value ≤ l.most + 1;
  text : l.byte-items ≡ l.text;
  value : min (fold with_digit l.value (drop l.byte-index l.byte-items)) (l.most + 1) ≡ min (decimal_value l.text) (l.most + 1);
  digits : list_all is_digit (drop l.byte-index l.byte-items) ≡ list_all is_digit l.text;
}
