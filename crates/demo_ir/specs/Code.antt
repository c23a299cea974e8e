-- The code of the generated program, by a seed and a number of blocks.
use Rattle.std.specs.Prelude.{ℕ, ◌+◌, ◌*◌, ◌%◌, List, ◌++◌, map, sum_by}
use Rattle.std.specs.List.{flat_map, range_with_len}
use Rattle.std.specs.Int.{w32, to_le_bytes}
use Rattle.demo_ir.specs.declared.code.TheConstants.{CLEAR, ADD, BRANCH, EXIT, CALL}

-- the constant that a block adds, of twelve bits
abbrev pub constant : ℕ → ℕ → ℕ
constant seed k = (seed + 7 * k) % 4096

-- a word in four bytes, little endian
unfoldable pub code_word : ℕ → List ℕ
code_word word = to_le_bytes w32 word

-- `add x0, x0, #constant`, and a branch
abbrev pub link_bytes : ℕ → ℕ → List ℕ
link_bytes seed k = code_word (ADD + 1024 * constant seed k) ++ code_word BRANCH

-- `movz x0, #0`, the blocks in order, `movz x8, #93` and `svc #0`
abbrev pub contents : ℕ → ℕ → List ℕ
contents seed blocks = code_word CLEAR ++ (flat_map (link_bytes seed) (range_with_len 0 blocks) ++ (code_word EXIT ++ code_word CALL))

-- how many bytes that are
abbrev pub code_size : ℕ → ℕ
code_size blocks = 8 * blocks + 12

-- the sum of the constants, modulo 256
abbrev pub exit_status : ℕ → ℕ → ℕ
exit_status seed blocks = sum_by (λ c. c) (map (constant seed) (range_with_len 0 blocks)) % 256
