-- The definitions at words: each equation is computed.
use Rattle.std.proofs.Common.{◌≡◌, ℕ, ℤ, pos, negsuc, List, refl}
use Rattle.std.specs.Prelude.{codes}
use Rattle.std.specs.Fmt.{digits}
use Rattle.a64_forms.specs.Spelling.{accesses, branches, immediates, indexed, pairs, registers}
use Rattle.hex.specs.Hex.{encode_with}
use Rattle.asm_spelling.specs.declared.named.Named.TheVariants.{Nothing, Label}
use Rattle.asm_spelling.specs.Labels.{label_text}
use Rattle.asm_spelling.specs.Words.{table_texts, word_line}

abbrev Says : ℕ → List ℕ → Type 0
Says word line = word_line word Nothing ≡ line

abbrev SaysOf : ℕ → List ℕ → ℕ → ℤ → List ℕ → Type 0
SaysOf word name k offset line = word_line word (Label (label_text name k) offset) ≡ line

move : Says 0xd2800020 (codes "movz x0, #1")
unfolding table_texts immediates registers branches accesses indexed pairs digits encode_with
move = refl

call : Says 0xd4000001 (codes "svc #0")
unfolding table_texts immediates registers branches accesses indexed pairs digits encode_with
call = refl

page : SaysOf 0x90000001 (codes "msg") 1 (pos 0) (codes "adrp x1, msg")
unfolding table_texts immediates registers branches accesses indexed pairs digits encode_with
page = refl

low : SaysOf 0x91000021 (codes "msg") 1 (pos 0) (codes "add x1, x1, :lo12:msg")
unfolding table_texts immediates registers branches accesses indexed pairs digits encode_with
low = refl

offset : Says 0xf9400420 (codes "ldr x0, [x1, #8]")
unfolding table_texts immediates registers branches accesses indexed pairs digits encode_with
offset = refl

unscaled : Says 0xf85f8020 (codes "ldur x0, [x1, #-8]")
unfolding table_texts immediates registers branches accesses indexed pairs digits encode_with
unscaled = refl

index : Says 0xb8625820 (codes "ldr w0, [x1, w2, uxtw #2]")
unfolding table_texts immediates registers branches accesses indexed pairs digits encode_with
index = refl

pair : Says 0xa9bf7bfd (codes "stp x29, x30, [sp, #-16]!")
unfolding table_texts immediates registers branches accesses indexed pairs digits encode_with
pair = refl

bit : Says 0x36180040 (codes "tbz w0, #3, #8")
unfolding table_texts immediates registers branches accesses indexed pairs digits encode_with
bit = refl

above : Says 0xb6080040 (codes "tbz x0, #33, #8")
unfolding table_texts immediates registers branches accesses indexed pairs digits encode_with
above = refl

back : SaysOf 0x54000000 (codes "loop") 1 (pos 0) (codes "b.eq loop")
unfolding table_texts immediates registers branches accesses indexed pairs digits encode_with
back = refl

-- a branch takes a label alone
far : SaysOf 0x14000000 (codes "loop") 1 (pos 4) (codes ".inst 0x14000000, loop+4")
unfolding table_texts immediates registers branches accesses indexed pairs digits encode_with
far = refl

-- no form has the word
vector : SaysOf 0x3dc00020 (codes "x y") 2 (pos 0) (codes ".inst 0x3dc00020, \"x y\"#2")
unfolding table_texts immediates registers branches accesses indexed pairs digits encode_with
vector = refl

-- the registers of a pair that is loaded differ
alike : Says 0xa9400000 (codes ".inst 0xa9400000")
unfolding table_texts immediates registers branches accesses indexed pairs digits encode_with
alike = refl

before : SaysOf 0x58000000 (codes "a\\b") 1 (negsuc 7) (codes "ldr x0, \"a\\\\b\"-8")
unfolding table_texts immediates registers branches accesses indexed pairs digits encode_with
before = refl
