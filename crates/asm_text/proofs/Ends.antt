-- Where the first line of a text ends.
use Rattle.std.proofs.Common.{◌≡◌, ℕ, ◌+◌, ◌<◌, ◌≤◌, ◌==◌, not, cond, Some, None, List, [], ◌∷◌, length, take, drop, nat_lt, suc, add-one, inl, inr, refl, sym, ap, subst, ◌∙◌, arith}
use Rattle.std.specs.List.{position, position_or_len}
use Rattle.std.proofs.lemmas.Bool.{cond-true, cond-false, cases_Bool}
use Rattle.std.proofs.lemmas.Bool.Decides.{nat_tests}
use Rattle.asm_read.specs.Words.{before_first}
use Rattle.asm_text.specs.Texts.{lines_of}

-- the first line ends at the first byte 10
abbrev pub line_end : List ℕ → ℕ
line_end text = position_or_len (λ b. b == 10) text

at_end : (text : List ℕ) → line_end text < length text → lines_of text ≡ take (line_end text) text ∷ lines_of (drop (line_end text + 1) text)
at_end [] within = absurd (omega arith)
at_end (b ∷ bytes) within =
    elim (cases_Bool (b == 10)) [
      | inl ends ↦
          let here : line_end (b ∷ bytes) ≡ 0 = ap (λ t. cond (not t) (1 + line_end bytes) 0) ends in
          cond-true (b == 10) ([] ∷ lines_of bytes) (before_first (b ∷ []) (lines_of bytes)) ends
          ∙ ap (λ k. take k (b ∷ bytes) ∷ lines_of (drop (k + 1) (b ∷ bytes))) (sym here)
      | inr goes_on ↦
          let there : line_end (b ∷ bytes) ≡ suc (line_end bytes) = ap (λ t. cond (not t) (1 + line_end bytes) 0) goes_on ∙ omega arith in
          let rest = at_end bytes (omega arith) in
          cond-false (b == 10) ([] ∷ lines_of bytes) (before_first (b ∷ []) (lines_of bytes)) goes_on
          ∙ ap (before_first (b ∷ [])) rest
          ∙ ap (λ k. (b ∷ take (line_end bytes) bytes) ∷ lines_of (drop k bytes)) (add-one (line_end bytes))
          ∙ ap (λ k. take k (b ∷ bytes) ∷ lines_of (drop (suc (line_end bytes)) bytes)) (sym there)
          ∙ ap (λ k. take (line_end (b ∷ bytes)) (b ∷ bytes) ∷ lines_of (drop k (b ∷ bytes))) (ap suc (sym there) ∙ sym (add-one (line_end (b ∷ bytes))))
    ]

pub first_line : (text : List ℕ) (i : ℕ) → position (λ b. b == 10) text ≡ Some i → lines_of text ≡ take i text ∷ lines_of (drop (i + 1) text)
first_line text i found =
    elim (cases_Bool (nat_lt (line_end text) (length text))) [
      | inl within ↦
          let some : Some (line_end text) ≡ Some i = sym (cond-true (nat_lt (line_end text) (length text)) (Some (line_end text)) None within) ∙ found in
          let is : line_end text ≡ i = cc in
          subst (λ k. lines_of text ≡ take k text ∷ lines_of (drop (k + 1) text)) is (at_end text (grind (arith, nat_tests)))
      | inr past ↦ let clash : None ≡ Some i = sym (cond-false (nat_lt (line_end text) (length text)) (Some (line_end text)) None past) ∙ found in cc
    ]

no_end : (text : List ℕ) → 0 < length text → length text ≤ line_end text → lines_of text ≡ text ∷ []
no_end [] some past = absurd (omega arith)
no_end (b ∷ bytes) some past =
    elim (cases_Bool (b == 10)) [
      | inl ends ↦ let here : line_end (b ∷ bytes) ≡ 0 = ap (λ t. cond (not t) (1 + line_end bytes) 0) ends in absurd (omega arith)
      | inr goes_on ↦
          let there : line_end (b ∷ bytes) ≡ suc (line_end bytes) = ap (λ t. cond (not t) (1 + line_end bytes) 0) goes_on ∙ omega arith in
          cond-false (b == 10) ([] ∷ lines_of bytes) (before_first (b ∷ []) (lines_of bytes)) goes_on ∙ behind bytes (no_end bytes) (omega arith)
    ]
  where
    behind : (bytes : List ℕ) → (0 < length bytes → length bytes ≤ line_end bytes → lines_of bytes ≡ bytes ∷ []) → length bytes ≤ line_end bytes
        → before_first (b ∷ []) (lines_of bytes) ≡ (b ∷ bytes) ∷ []
    behind [] rest past = refl
    behind (c ∷ bytes) rest past = ap (before_first (b ∷ [])) (rest (omega arith) past)

pub one_line : (text : List ℕ) → 0 < length text → position (λ b. b == 10) text ≡ None → lines_of text ≡ text ∷ []
one_line text some none =
    elim (cases_Bool (nat_lt (line_end text) (length text))) [
      | inl within ↦ let clash : Some (line_end text) ≡ None = sym (cond-true (nat_lt (line_end text) (length text)) (Some (line_end text)) None within) ∙ none in cc
      | inr past ↦ no_end text some (grind (arith, nat_tests))
    ]
