-- What each rule's test says, and that the rule passes it.
use Rattle.std.proofs.Common.{◌≡◌, ℕ, ◌+◌, ◌^◌, ◌%◌, ◌≤◌, true, ◌⊎◌, arith}
use Rattle.std.proofs.lemmas.Bool.Decides.{nat_tests}
use Rattle.bare_image.specs.Valid.{IsStack}
use Rattle.bare_image.specs.Reading.{is_entry, is_stack_address, is_stack_size, is_count, is_length}

pub entry_says : (n : ℕ) → is_entry n ≡ true → n % 4 ≡ 0
entry_says n e = grind (arith, nat_tests)

pub entry_passes : (n : ℕ) → n % 4 ≡ 0 → is_entry n ≡ true
entry_passes n e = grind (arith, nat_tests)

pub stack_says : (at size : ℕ) → is_stack_address at ≡ true → is_stack_size at size ≡ true → IsStack at size
stack_says at size a s = record {
  at_aligned = grind (arith, nat_tests);
  at_low = grind (arith, nat_tests);
  size_aligned = grind (arith, nat_tests);
  size_some = grind (arith, nat_tests);
  size_most = grind (arith, nat_tests);
  end_high = grind (arith, nat_tests);
}

pub stack_address_passes : (at size : ℕ) → IsStack at size → is_stack_address at ≡ true
stack_address_passes at size h = grind (arith, nat_tests)

pub stack_size_passes : (at size : ℕ) → IsStack at size → is_stack_size at size ≡ true
stack_size_passes at size h = grind (arith, nat_tests)

pub count_says : (n : ℕ) → is_count n ≡ true → n ≤ 2 ^ 24
count_says n e = grind (arith, nat_tests)

pub count_passes : (n : ℕ) → n ≤ 2 ^ 24 → is_count n ≡ true
count_passes n e = grind (arith, nat_tests)

-- what the rule on a segment's length says
pub record IsLength (stack_at stack_size at loaded n : ℕ) : Type 0 where
  pub some : 1 ≤ n
  pub high : at + n ≤ 2 ^ 47
  pub off_stack : (at + n ≤ stack_at) ⊎ (stack_at + stack_size ≤ at)
  pub most : loaded + n ≤ 2 ^ 24

pub length_says : (stack_at stack_size at loaded n : ℕ) → is_length stack_at stack_size at loaded n ≡ true → IsLength stack_at stack_size at loaded n
length_says stack_at stack_size at loaded n e = record {
  some = grind (arith, nat_tests);
  high = grind (arith, nat_tests);
  off_stack = grind (arith, nat_tests);
  most = grind (arith, nat_tests);
}

pub length_passes : (stack_at stack_size at loaded n : ℕ) → IsLength stack_at stack_size at loaded n → is_length stack_at stack_size at loaded n ≡ true
length_passes stack_at stack_size at loaded n h = grind (arith, nat_tests)
