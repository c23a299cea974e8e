-- A word and the same with another number in its operand are read by one row, and but for the operand alike.
use Rattle.std.proofs.Common.{◌≡◌, ℕ, zero, suc, ◌+◌, ◌/◌, ◌%◌, ◌^◌, ◌<◌, inl, inr, Bool, true, false, ◌==◌, ◌&&◌, ◌||◌, not, cond, List, [], ◌∷◌, Option, Some, None, refl, sym, ap, ◌∙◌, arith}
use Rattle.std.specs.Prelude.{bit_and, option_and_then}
use Rattle.std.specs.Option.{option_map}
use Rattle.std.proofs.lemmas.Bool.{and_parts, or_cases, both_ways, cases_lt, not-true, eq-eqb}
use Rattle.std.proofs.Math.Nat.{mod-eq_of_lt}
use Rattle.a64_inst.specs.declared.inst.Inst.{Inst}
use Rattle.a64_inst.specs.declared.inst.Inst.TheVariants.{AdrAdrp, AddSubImm, AddSubShifted, AddSubExtended, LogicalShifted, LogicalImm, MoveWide, Bitfield, Extr, TwoSources, OneSource, ThreeSources, WithCarry, CondCompare, CondSelect, BBl, BCond, CbzCbnz, TbzTbnz, BrBlrRet, SvcBrk, Udf, Hint, Literal, Scaled, UnscaledPostPre, Register, Pair}
use Rattle.a64_inst.specs.declared.kind.Operand.{Operand}
use Rattle.a64_inst.specs.declared.kind.Kind.TheVariants.{Low12}
use Rattle.a64_inst.specs.declared.kind.TheConstants.{REL26, REL19, REL14, ADR, PAGE}
use Rattle.a64_inst.specs.Fitting.{with_operand}
use Rattle.a64_inst.specs.Kinds.{operand}
use Rattle.a64_inst.specs.Parts.{bits_at, meets, at_fields}
use Rattle.a64_inst.specs.Reserved.{is_reserved}
use Rattle.a64_inst.specs.Rows.{Row, table, adr_adrp, add_sub_imm, b_bl, b_cond, cbz_cbnz, tbz_tbnz, literal, scaled}
use Rattle.a64_inst.specs.Table.{read_rows, row, unreserved}
use Rattle.a64_filled.specs.Filled.{with_number}
use Rattle.a64_filled.proofs.Known.{IsKnown, known_of, narrowed, read_narrowed}
use Rattle.a64_filled.proofs.Replaced.{is_clear, is_outside, others_stay, low_is, high_is}

-- the bits of an operand
abbrev pub bits_of : Operand → ℕ
bits_of o = o.low.width + o.high.width

-- ---- known bits stay known

-- no bit of the mask below this place is the operand's
abbrev pub is_other : ℕ → Operand → ℕ → Bool
is_other zero o mask = true
is_other (suc k) o mask = (not (mask / 2 ^ k % 2 == 1) || is_outside o k 1) && is_other k o mask

one_other : (place k mask : ℕ) (o : Operand) → is_other place o mask ≡ true → k < place → mask / 2 ^ k % 2 ≡ 1 → is_outside o k 1 ≡ true
one_other zero k mask o h below one = absurd (omega arith)
one_other (suc place) k mask o h below one =
    let both = and_parts (not (mask / 2 ^ place % 2 == 1) || is_outside o place 1) (is_other place o mask) h in
    elim (cases_lt k place) [
      | inl less ↦ one_other place k mask o both.1 less one
      | inr more ↦
          let same : place ≡ k = omega arith in
          let mine : mask / 2 ^ place % 2 ≡ 1 = ap (λ (j : ℕ). mask / 2 ^ j % 2) same ∙ one in
          elim (or_cases (not (mask / 2 ^ place % 2 == 1)) (is_outside o place 1) both.0) [
            | inl zeroed ↦ absurd (both_ways (mask / 2 ^ place % 2 == 1) (not-true (mask / 2 ^ place % 2 == 1) zeroed) (eq-eqb (mask / 2 ^ place % 2) 1 mine))
            | inr out ↦ ap (λ (j : ℕ). is_outside o j 1) (sym same) ∙ out
          ]
    ]

stays_known : (mask value n word : ℕ) (o : Operand) → n < 2 ^ bits_of o → is_other 32 o mask ≡ true → IsKnown mask value word → IsKnown mask value (with_operand o n word)
stays_known mask value n word o small other known = record { bits = λ k below one. others_stay o n word k 1 small (one_other 32 k mask o other below one) ∙ known.bits k below one }

-- ---- reserved fields

never_reserves : (n : ℕ) (i : Inst) → is_reserved (with_number n i) ≡ is_reserved i
never_reserves n (AdrAdrp a b c d) = refl
never_reserves n (AddSubImm a b c d e f g) = refl
never_reserves n (AddSubShifted a b c d e f g h) = refl
never_reserves n (AddSubExtended a b c d e f g h) = refl
never_reserves n (LogicalShifted a b c d e f g h) = refl
never_reserves n (LogicalImm a b c d e f g) = refl
never_reserves n (MoveWide a b c d e) = refl
never_reserves n (Bitfield a b c d e f g) = refl
never_reserves n (Extr a b c d e f) = refl
never_reserves n (TwoSources a b c d e) = refl
never_reserves n (OneSource a b c d) = refl
never_reserves n (ThreeSources a b c d e f g) = refl
never_reserves n (WithCarry a b c d e f) = refl
never_reserves n (CondCompare a b c d e f g) = refl
never_reserves n (CondSelect a b c d e f g) = refl
never_reserves n (BBl a b) = refl
never_reserves n (BCond a b) = refl
never_reserves n (CbzCbnz a b c d) = refl
never_reserves n (TbzTbnz a b c d e) = refl
never_reserves n (BrBlrRet which a) = refl
never_reserves n (SvcBrk which a) = refl
never_reserves n (Udf a) = refl
never_reserves n (Hint a) = refl
never_reserves n (Literal a b c) = refl
never_reserves n (Scaled a b c d e) = refl
never_reserves n (UnscaledPostPre a b c d e f) = refl
never_reserves n (Register a b c d e f g) = refl
never_reserves n (Pair a b c d e f g) = refl

unreserved_if : (n : ℕ) (i : Inst) (a b : Bool) → a ≡ b → cond a None (Some (with_number n i)) ≡ option_map (with_number n) (cond b None (Some i))
unreserved_if n i true true e = refl
unreserved_if n i false false e = refl
unreserved_if n i true false e = absurd (both_ways true e refl)
unreserved_if n i false true e = absurd (both_ways false refl e)

unreserved_kept : (n : ℕ) (o : Option Inst) → option_and_then unreserved (option_map (with_number n) o) ≡ option_map (with_number n) (option_and_then unreserved o)
unreserved_kept n None = refl
unreserved_kept n (Some i) = unreserved_if n i (is_reserved (with_number n i)) (is_reserved i) (never_reserves n i)

-- ---- one row

-- the row reads a word with another number in the operand as the same with the number
pub record Keeps (o : Operand) (r : Row) : Type 0 where
  pub met : (n word : ℕ) → n < 2 ^ bits_of o → meets 32 r.parts (with_operand o n word) ≡ meets 32 r.parts word
  pub read : (n word : ℕ) → n < 2 ^ bits_of o → at_fields 32 r.parts r.inst (with_operand o n word) ≡ with_number n (at_fields 32 r.parts r.inst word)

-- each of these rows does
abbrev pub AllKeep : Operand → List Row → Type 0
AllKeep o [] = Unit {0}
AllKeep o (r ∷ rows) = Keeps o r × AllKeep o rows

read_if : (n : ℕ) (a b : Bool) (i j : Inst) (p q : Option Inst) → a ≡ b → i ≡ with_number n j → p ≡ option_map (with_number n) q → cond a (Some i) p ≡ option_map (with_number n) (cond b (Some j) q)
read_if n true true i j p q e f g = ap (λ x. Some x) f
read_if n false false i j p q e f g = g
read_if n true false i j p q e f g = absurd (both_ways true e refl)
read_if n false true i j p q e f g = absurd (both_ways false refl e)

rows_keep : (o : Operand) (rows : List Row) (n word : ℕ) → AllKeep o rows → n < 2 ^ bits_of o → read_rows rows (with_operand o n word) ≡ option_map (with_number n) (read_rows rows word)
rows_keep o [] n word h small = refl
rows_keep o (r ∷ rows) n word h small =
    read_if n (meets 32 r.parts (with_operand o n word)) (meets 32 r.parts word) (at_fields 32 r.parts r.inst (with_operand o n word)) (at_fields 32 r.parts r.inst word)
    (read_rows rows (with_operand o n word)) (read_rows rows word) (h.0.met n word small) (h.0.read n word small) (rows_keep o rows n word h.1 small)

pub row_kept : (mask value n word : ℕ) (o : Operand) → bit_and word mask ≡ value → is_other 32 o mask ≡ true → AllKeep o (narrowed mask value table) → n < 2 ^ bits_of o → row (with_operand o n word) ≡ option_map (with_number n) (row word)
row_kept mask value n word o e other keep small =
    let known = known_of mask value word e in
    let before = read_narrowed mask value word table known in
    let after = read_narrowed mask value (with_operand o n word) table (stays_known mask value n word o small other known) in
    let read = rows_keep o (narrowed mask value table) n word keep small in
    ap (option_and_then unreserved) (after ∙ (read ∙ ap (option_map (with_number n)) (sym before))) ∙ unreserved_kept n (read_rows table word)

-- ---- the rows that have an operand

-- a number that fits an operand of one run of bits
whole : (o : Operand) (n word : ℕ) → n < 2 ^ bits_of o → n < 2 ^ o.low.width → is_clear o.high o.low.place o.low.width ≡ true → bits_at o.low.place o.low.width (with_operand o n word) ≡ n
whole o n word small low h = low_is o n word small h ∙ mod-eq_of_lt low

pub b_bl_keeps : Keeps REL26 b_bl
b_bl_keeps = record {
  met = λ n word small i. (others_stay REL26 n word 26 5 small refl i == 0b00101) && true;
  read = λ n word small i. BBl (others_stay REL26 n word 31 1 small refl i) (whole REL26 n word small small refl i);
}

pub b_cond_keeps : Keeps REL19 b_cond
b_cond_keeps = record {
  met = λ n word small i. (others_stay REL19 n word 24 8 small refl i == 0b01010100) && ((others_stay REL19 n word 4 1 small refl i == 0) && true);
  read = λ n word small i. BCond (whole REL19 n word small small refl i) (others_stay REL19 n word 0 4 small refl i);
}

pub cbz_cbnz_keeps : Keeps REL19 cbz_cbnz
cbz_cbnz_keeps = record {
  met = λ n word small i. (others_stay REL19 n word 25 6 small refl i == 0b011010) && true;
  read = λ n word small i. CbzCbnz (others_stay REL19 n word 31 1 small refl i) (others_stay REL19 n word 24 1 small refl i) (whole REL19 n word small small refl i) (others_stay REL19 n word 0 5 small refl i);
}

pub literal_keeps : Keeps REL19 literal
literal_keeps = record {
  met = λ n word small i. (others_stay REL19 n word 24 6 small refl i == 0b011000) && true;
  read = λ n word small i. Literal (others_stay REL19 n word 30 2 small refl i) (whole REL19 n word small small refl i) (others_stay REL19 n word 0 5 small refl i);
}

pub tbz_tbnz_keeps : Keeps REL14 tbz_tbnz
tbz_tbnz_keeps = record {
  met = λ n word small i. (others_stay REL14 n word 25 6 small refl i == 0b011011) && true;
  read = λ n word small i. TbzTbnz (others_stay REL14 n word 31 1 small refl i) (others_stay REL14 n word 24 1 small refl i) (others_stay REL14 n word 19 5 small refl i) (whole REL14 n word small small refl i) (others_stay REL14 n word 0 5 small refl i);
}

pub adr_keeps : Keeps ADR adr_adrp
adr_keeps = record {
  met = λ n word small i. (others_stay ADR n word 24 5 small refl i == 0b10000) && true;
  read = λ n word small i. AdrAdrp (others_stay ADR n word 31 1 small refl i) (low_is ADR n word small refl i) (high_is ADR n word small i) (others_stay ADR n word 0 5 small refl i);
}

pub adrp_keeps : Keeps PAGE adr_adrp
adrp_keeps = record {
  met = λ n word small i. (others_stay PAGE n word 24 5 small refl i == 0b10000) && true;
  read = λ n word small i. AdrAdrp (others_stay PAGE n word 31 1 small refl i) (low_is PAGE n word small refl i) (high_is PAGE n word small i) (others_stay PAGE n word 0 5 small refl i);
}

pub add_keeps : (unit : ℕ) → Keeps (operand (Low12 unit)) add_sub_imm
add_keeps unit = record {
  met = λ n word small i. (others_stay (operand (Low12 unit)) n word 23 6 small refl i == 0b100010) && true;
  read = λ n word small i. AddSubImm (others_stay (operand (Low12 unit)) n word 31 1 small refl i) (others_stay (operand (Low12 unit)) n word 30 1 small refl i) (others_stay (operand (Low12 unit)) n word 29 1 small refl i) (others_stay (operand (Low12 unit)) n word 22 1 small refl i) (whole (operand (Low12 unit)) n word small small refl i) (others_stay (operand (Low12 unit)) n word 5 5 small refl i) (others_stay (operand (Low12 unit)) n word 0 5 small refl i);
}

pub scaled_keeps : (unit : ℕ) → Keeps (operand (Low12 unit)) scaled
scaled_keeps unit = record {
  met = λ n word small i. (others_stay (operand (Low12 unit)) n word 24 6 small refl i == 0b111001) && true;
  read = λ n word small i. Scaled (others_stay (operand (Low12 unit)) n word 30 2 small refl i) (others_stay (operand (Low12 unit)) n word 22 2 small refl i) (whole (operand (Low12 unit)) n word small small refl i) (others_stay (operand (Low12 unit)) n word 5 5 small refl i) (others_stay (operand (Low12 unit)) n word 0 5 small refl i);
}
