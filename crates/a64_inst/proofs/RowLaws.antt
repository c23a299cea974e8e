-- The laws of the instruction table.
use Rattle.std.proofs.Common.{◌≡◌, ℕ, ◌^◌, ◌<◌, false, IsTrue, not, ◌&&◌, Option, Some, None, sym, ap, ◌∙◌, inl, inr}
use Rattle.std.specs.Prelude.{option_and_then}
use Rattle.std.proofs.lemmas.Bool.{and_parts, and_from, cases_Bool, cond-false, cond-true, not-true, not_from_false}
use Rattle.a64_inst.specs.declared.inst.Inst.{Inst}
use Rattle.a64_inst.specs.Rows.{table}
use Rattle.a64_inst.specs.Reserved.{names_word, is_reserved}
use Rattle.a64_inst.specs.Table.{read_rows, row, unreserved, word_of, fields_fit, is_allowed}
use Rattle.a64_inst.proofs.Rows.{read_is}
use Rattle.a64_inst.proofs.EachRow.{found, faithful}

pub row-word_of : (i : Inst) → IsTrue (is_allowed i) → row (word_of i) ≡ Some i
row-word_of i allowed =
    let a = and_parts (fields_fit i && names_word i) (not (is_reserved i)) allowed in
    let b = and_parts (fields_fit i) (names_word i) a.0 in
    ap (option_and_then unreserved) (found i b.0 b.1) ∙ cond-false (is_reserved i) None (Some i) (not-true (is_reserved i) a.1)

-- an instruction that is not reserved
kept : (o : Option Inst) (i : Inst) → option_and_then unreserved o ≡ Some i → (o ≡ Some i) × (is_reserved i ≡ false)
kept None i e = absurd cc
kept (Some j) i e = elim (cases_Bool (is_reserved j)) [
  | inl h ↦ let none : None ≡ Some i = sym (cond-true (is_reserved j) None (Some j) h) ∙ e in absurd cc
  | inr h ↦ let same : Some j ≡ Some i = sym (cond-false (is_reserved j) None (Some j) h) ∙ e in
      let is : j ≡ i = cc in
      (same, ap is_reserved (sym is) ∙ h)
]

pub word_of-row : (word : ℕ) (i : Inst) → word < 2 ^ 32 → row word ≡ Some i → IsTrue (is_allowed i) × (word_of i ≡ word)
word_of-row word i small e =
    let k = kept (read_rows table word) i e in
    let r = read_is table word i faithful small k.0 in
    (and_from _ _ (and_from _ _ r.1 r.2) (not_from_false (is_reserved i) k.1), r.0)
