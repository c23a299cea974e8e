-- What the lines of a text give, one after another.
use Rattle.std.proofs.Common.{◌≡◌, ◌==◌, ℕ, true, Result, Ok, Err, List, [], ◌∷◌, ◌++◌, length, refl, sym, ap, subst, ◌∙◌, append_assoc, append-nil, arith}
use Rattle.std.proofs.lemmas.Bool.Decides.{nat_tests}
use Rattle.gr_base.specs.declared.end.End.{End}
use Rattle.gr_base.specs.declared.end.End.TheVariants as ends
use Rattle.asm_read.specs.declared.fault.TextFault.{TextFault}
use Rattle.asm_read.specs.declared.fault.TextReason.{TextReason}
use Rattle.asm_lines.specs.declared.line.AsmLine.{AsmLine}
use Rattle.asm_directives.specs.Lines.{IsAsmFault, IsAsmLine}
use Rattle.asm_modules.specs.declared.module.AsmModule.{AsmModule}
use Rattle.asm_build.specs.Answers.{Gives}
use Rattle.asm_modules.specs.Outcomes.{outcome}
use Rattle.asm_text.specs.Texts.{Give, GivesBy, LineGives, asm_text, lines_of}

give_push : (ls : List (List ℕ)) (given : List (Result AsmLine TextReason)) (line : List ℕ) (x : Result AsmLine TextReason) → Give ls given → LineGives line x → Give (ls ++ line ∷ []) (given ++ x ∷ [])
give_push [] [] line x give one = (one, tt)
give_push [] (y ∷ given) line x give one = absurd give
give_push (l ∷ ls) [] line x give one = absurd give
give_push (l ∷ ls) (y ∷ given) line x give one = (give.0, give_push ls given line x give.1 one)

-- these lines were read, and this text is left
pub record SoFar (lines : List (List ℕ)) (given : List (Result AsmLine TextReason)) (rest : List ℕ) : Type 0 where
  pub front : List (List ℕ)
  pub give : Give front given
  pub parts : lines ≡ front ++ lines_of rest

pub nothing_read : (text : List ℕ) (given : List (Result AsmLine TextReason)) → given ≡ [] → SoFar (lines_of text) given text
nothing_read text given none = record { front = []; give = subst (Give []) (sym none) tt; parts = refl }

pub one_more : (lines : List (List ℕ)) (given more : List (Result AsmLine TextReason)) (rest line behind : List ℕ) (x : Result AsmLine TextReason) → SoFar lines given rest → lines_of rest ≡ line ∷ lines_of behind → LineGives line x → more ≡ given ++ x ∷ [] → SoFar lines more behind
one_more lines given more rest line behind x so_far split gives is = record {
  front = so_far.front ++ line ∷ [];
  give = subst (Give (so_far.front ++ line ∷ [])) (sym is) (give_push so_far.front given line x so_far.give gives);
  parts = so_far.parts ∙ ap (λ ls. so_far.front ++ ls) split ∙ sym (append_assoc so_far.front (line ∷ []) (lines_of behind));
}

is_zero : (n : ℕ) → (n == 0) ≡ true → n ≡ 0
is_zero n h = grind (arith, nat_tests)

none_left : (rest : List ℕ) → (length rest == 0) ≡ true → lines_of rest ≡ []
none_left [] h = refl
none_left (b ∷ rest) h = let none : length (b ∷ rest) ≡ 0 = is_zero (length (b ∷ rest)) h in absurd (omega arith)

pub all_read : (lines : List (List ℕ)) (given : List (Result AsmLine TextReason)) (rest : List ℕ) → SoFar lines given rest → (length rest == 0) ≡ true → Give lines given
all_read lines given rest so_far ended =
    subst (λ ls. Give ls given) (sym (so_far.parts ∙ ap (λ ls. so_far.front ++ ls) (none_left rest ended) ∙ append-nil so_far.front)) so_far.give

-- what the lines make is what the text gives
pub gives_module : (text : List ℕ) (given : List (Result AsmLine TextReason)) (r : Result AsmModule (End TextFault)) → Give (lines_of text) given → Gives r (outcome given) → GivesBy r (asm_text text)
gives_module text given (Ok module_) give gives = (given, give, sym gives)
gives_module text given (Err ends.Memory) give gives = tt
gives_module text given (Err (ends.Fault f)) give gives = (given, give, sym gives)

-- ---- one result

module _ (saying : (line : List ℕ) (a b : AsmLine) → IsAsmLine line a → IsAsmLine line b → a ≡ b)
    (apart : (line : List ℕ) (said : AsmLine) (reason : TextReason) → IsAsmLine line said → IsAsmFault line reason → ⊥)
    (fault : (line : List ℕ) (a b : TextReason) → IsAsmFault line a → IsAsmFault line b → a ≡ b) where
  one_line : (line : List ℕ) (a b : Result AsmLine TextReason) → LineGives line a → LineGives line b → a ≡ b
  one_line line (Ok a) (Ok b) x y = ap (λ (l : AsmLine). Ok l) (saying line a b x y)
  one_line line (Ok a) (Err b) x y = absurd (apart line a b x y)
  one_line line (Err a) (Ok b) x y = absurd (apart line b a y x)
  one_line line (Err a) (Err b) x y = ap (λ (r : TextReason). Err r) (fault line a b x y)

  one_list : (ls : List (List ℕ)) (a b : List (Result AsmLine TextReason)) → Give ls a → Give ls b → a ≡ b
  one_list [] [] [] x y = refl
  one_list [] [] (l ∷ b) x y = absurd y
  one_list [] (l ∷ a) b x y = absurd x
  one_list (line ∷ ls) [] b x y = absurd x
  one_list (line ∷ ls) (l ∷ a) [] x y = absurd y
  one_list (line ∷ ls) (l ∷ a) (k ∷ b) x y = ap (λ (p : Result AsmLine TextReason). p ∷ a) (one_line line l k x.0 y.0) ∙ ap (λ (ps : List (Result AsmLine TextReason)). k ∷ ps) (one_list ls a b x.1 y.1)

  pub one_given : (text : List ℕ) (a b : Result AsmModule TextFault) → asm_text text a → asm_text text b → a ≡ b
  one_given text a b x y = x.2 ∙ ap outcome (one_list (lines_of text) x.0 y.0 x.1 y.1) ∙ sym y.2
