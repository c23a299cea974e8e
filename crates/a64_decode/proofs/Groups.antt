-- The rows that read a word, by its bits 28 to 25.
use Rattle.std.proofs.Common.{◌≡◌, ℕ, zero, suc, ◌/◌, ◌<◌, ◌^◌, true, List, [], ◌∷◌, None, refl, arith}
use Rattle.std.proofs.lemmas.Bool.{eq-eqb, and_from}
use Rattle.std.proofs.lemmas.Nat.{mod_below}
use Rattle.a64_inst.specs.Parts.{Part, is, field, bits_at, meets}
use Rattle.a64_inst.specs.Rows.{table, udf, pair, add_sub_shifted, add_sub_extended, logical_shifted, adr_adrp, add_sub_imm, logical_imm, move_wide, bitfield, extr, b_bl, b_cond, cbz_cbnz, svc, brk, hint, b_bl, tbz_tbnz, br, blr, ret, literal, scaled, unscaled_post_pre, register, two_sources, one_source, three_sources, with_carry, cond_compare, cond_select}
use Rattle.a64_inst.specs.Table.{read_rows}
use Rattle.a64_inst.proofs.Rows.{read_among}

-- a word with these bits there
abbrev group : ℕ → List Part
group bits = field 3 ∷ is 4 bits ∷ field 25 ∷ []

has_group : (bits word : ℕ) → bits_at 25 4 word ≡ bits → meets 32 (group bits) word ≡ true
has_group bits word e = and_from _ true (eq-eqb _ bits e) refl

pub group-0 : (word : ℕ) → bits_at 25 4 word ≡ 0 → read_rows table word ≡ read_rows (udf ∷ []) word
unfolding table
group-0 word e = read_among (group 0) table word refl (has_group 0 word e)

pub group-4 : (word : ℕ) → bits_at 25 4 word ≡ 4 → read_rows table word ≡ read_rows (pair ∷ []) word
unfolding table
group-4 word e = read_among (group 4) table word refl (has_group 4 word e)

pub group-5 : (word : ℕ) → bits_at 25 4 word ≡ 5 → read_rows table word ≡ read_rows (add_sub_shifted ∷ add_sub_extended ∷ logical_shifted ∷ []) word
unfolding table
group-5 word e = read_among (group 5) table word refl (has_group 5 word e)

pub group-8 : (word : ℕ) → bits_at 25 4 word ≡ 8 → read_rows table word ≡ read_rows (adr_adrp ∷ add_sub_imm ∷ []) word
unfolding table
group-8 word e = read_among (group 8) table word refl (has_group 8 word e)

pub group-9 : (word : ℕ) → bits_at 25 4 word ≡ 9 → read_rows table word ≡ read_rows (logical_imm ∷ move_wide ∷ bitfield ∷ extr ∷ []) word
unfolding table
group-9 word e = read_among (group 9) table word refl (has_group 9 word e)

pub group-10 : (word : ℕ) → bits_at 25 4 word ≡ 10 → read_rows table word ≡ read_rows (b_bl ∷ b_cond ∷ cbz_cbnz ∷ svc ∷ brk ∷ hint ∷ []) word
unfolding table
group-10 word e = read_among (group 10) table word refl (has_group 10 word e)

pub group-11 : (word : ℕ) → bits_at 25 4 word ≡ 11 → read_rows table word ≡ read_rows (b_bl ∷ tbz_tbnz ∷ br ∷ blr ∷ ret ∷ []) word
unfolding table
group-11 word e = read_among (group 11) table word refl (has_group 11 word e)

pub group-12 : (word : ℕ) → bits_at 25 4 word ≡ 12 → read_rows table word ≡ read_rows (literal ∷ scaled ∷ unscaled_post_pre ∷ register ∷ []) word
unfolding table
group-12 word e = read_among (group 12) table word refl (has_group 12 word e)

pub group-13 : (word : ℕ) → bits_at 25 4 word ≡ 13 → read_rows table word ≡ read_rows (two_sources ∷ one_source ∷ three_sources ∷ with_carry ∷ cond_compare ∷ cond_select ∷ []) word
unfolding table
group-13 word e = read_among (group 13) table word refl (has_group 13 word e)

-- the other bits have no row
no_group : (bits word : ℕ) → bits_at 25 4 word ≡ bits → bits < 16 → (bits ≡ 0 → ⊥) → (bits ≡ 4 → ⊥) → (bits ≡ 5 → ⊥) → (bits ≡ 8 → ⊥) → (bits ≡ 9 → ⊥) → (bits ≡ 10 → ⊥) → (bits ≡ 11 → ⊥) → (bits ≡ 12 → ⊥) → (bits ≡ 13 → ⊥) → read_rows table word ≡ None
unfolding table
no_group zero word e below h0 h4 h5 h8 h9 h10 h11 h12 h13 = absurd (h0 refl)
no_group (suc zero) word e below h0 h4 h5 h8 h9 h10 h11 h12 h13 = read_among (group 1) table word refl (has_group 1 word e)
no_group (suc (suc zero)) word e below h0 h4 h5 h8 h9 h10 h11 h12 h13 = read_among (group 2) table word refl (has_group 2 word e)
no_group (suc (suc (suc zero))) word e below h0 h4 h5 h8 h9 h10 h11 h12 h13 = read_among (group 3) table word refl (has_group 3 word e)
no_group (suc (suc (suc (suc zero)))) word e below h0 h4 h5 h8 h9 h10 h11 h12 h13 = absurd (h4 refl)
no_group (suc (suc (suc (suc (suc zero))))) word e below h0 h4 h5 h8 h9 h10 h11 h12 h13 = absurd (h5 refl)
no_group (suc (suc (suc (suc (suc (suc zero)))))) word e below h0 h4 h5 h8 h9 h10 h11 h12 h13 = read_among (group 6) table word refl (has_group 6 word e)
no_group (suc (suc (suc (suc (suc (suc (suc zero))))))) word e below h0 h4 h5 h8 h9 h10 h11 h12 h13 = read_among (group 7) table word refl (has_group 7 word e)
no_group (suc (suc (suc (suc (suc (suc (suc (suc zero)))))))) word e below h0 h4 h5 h8 h9 h10 h11 h12 h13 = absurd (h8 refl)
no_group (suc (suc (suc (suc (suc (suc (suc (suc (suc zero))))))))) word e below h0 h4 h5 h8 h9 h10 h11 h12 h13 = absurd (h9 refl)
no_group (suc (suc (suc (suc (suc (suc (suc (suc (suc (suc zero)))))))))) word e below h0 h4 h5 h8 h9 h10 h11 h12 h13 = absurd (h10 refl)
no_group (suc (suc (suc (suc (suc (suc (suc (suc (suc (suc (suc zero))))))))))) word e below h0 h4 h5 h8 h9 h10 h11 h12 h13 = absurd (h11 refl)
no_group (suc (suc (suc (suc (suc (suc (suc (suc (suc (suc (suc (suc zero)))))))))))) word e below h0 h4 h5 h8 h9 h10 h11 h12 h13 = absurd (h12 refl)
no_group (suc (suc (suc (suc (suc (suc (suc (suc (suc (suc (suc (suc (suc zero))))))))))))) word e below h0 h4 h5 h8 h9 h10 h11 h12 h13 = absurd (h13 refl)
no_group (suc (suc (suc (suc (suc (suc (suc (suc (suc (suc (suc (suc (suc (suc zero)))))))))))))) word e below h0 h4 h5 h8 h9 h10 h11 h12 h13 = read_among (group 14) table word refl (has_group 14 word e)
no_group (suc (suc (suc (suc (suc (suc (suc (suc (suc (suc (suc (suc (suc (suc (suc zero))))))))))))))) word e below h0 h4 h5 h8 h9 h10 h11 h12 h13 = read_among (group 15) table word refl (has_group 15 word e)
no_group (suc (suc (suc (suc (suc (suc (suc (suc (suc (suc (suc (suc (suc (suc (suc (suc n)))))))))))))))) word e below h0 h4 h5 h8 h9 h10 h11 h12 h13 = absurd (omega arith)

pub none : (word : ℕ) → (bits_at 25 4 word ≡ 0 → ⊥) → (bits_at 25 4 word ≡ 4 → ⊥) → (bits_at 25 4 word ≡ 5 → ⊥) → (bits_at 25 4 word ≡ 8 → ⊥) → (bits_at 25 4 word ≡ 9 → ⊥) → (bits_at 25 4 word ≡ 10 → ⊥) → (bits_at 25 4 word ≡ 11 → ⊥) → (bits_at 25 4 word ≡ 12 → ⊥) → (bits_at 25 4 word ≡ 13 → ⊥) → read_rows table word ≡ None
none word h0 h4 h5 h8 h9 h10 h11 h12 h13 = no_group (bits_at 25 4 word) word refl (mod_below (word / 2 ^ 25) 16 (omega arith)) h0 h4 h5 h8 h9 h10 h11 h12 h13
