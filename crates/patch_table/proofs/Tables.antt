-- Steps of the loop that reads lines, and the table that they make.
use Rattle.std.proofs.Common.{◌≡◌, ◌<◌, ℕ, zero, suc, get_or, ◌==◌, Bool, true, false, Result, Ok, Err, List, [], ◌∷◌, ◌++◌, length, refl, sym, ap, subst, ◌∙◌, append_assoc, append-nil, arith}
use Rattle.std.specs.Prelude.{IfErr, IfOk}
use Rattle.std.specs.List.{AllByRecursion}
use Rattle.std.specs.Prelude.{Contains}
use Rattle.std.proofs.lemmas.Bool.Decides.{nat_tests}
use Rattle.gr_base.specs.declared.end.End.{End}
use Rattle.gr_base.specs.declared.end.End.TheVariants as ends
use Rattle.gt_model.specs.declared.modules.Module.{Module}
use Rattle.gt_model.specs.Typed.{typed_module}
use Rattle.sym_expr.specs.TableOk.{table_ok}
use Rattle.patch_lines.specs.Values.{typed_line}
use Rattle.sym_expr.specs.declared.patches.PatchTable.{PatchTable}
use Rattle.patch_lines.specs.declared.fault.PatchFault.{PatchFault}
use Rattle.patch_lines.specs.declared.line.PatchLine.{PatchLine}
use Rattle.patch_lines.specs.Answers.{Gives}
use Rattle.patch_lines.specs.Building.{outcome}
use Rattle.patch_table.specs.PatchLines.{Says}
use Rattle.patch_table.specs.PatchText.{GivesBy, Say, lines_of, patch_text}
use Rattle.patch_table.proofs.Sayings.{say_push}

-- these lines were read, and this text is left
pub record SoFar (lines : List (List ℕ)) (said : List PatchLine) (rest : List ℕ) : Type 0 where
  pub front : List (List ℕ)
  pub say : Say front said
  pub parts : lines ≡ front ++ lines_of rest

pub nothing_read : (text : List ℕ) → SoFar (lines_of text) [] text
nothing_read text = record { front = []; say = tt; parts = refl }

pub one_more : (lines : List (List ℕ)) (said more : List PatchLine) (rest line behind : List ℕ) (x : PatchLine) → SoFar lines said rest → lines_of rest ≡ line ∷ lines_of behind → Says line x → more ≡ said ++ x ∷ [] → SoFar lines more behind
one_more lines said more rest line behind x so_far split says is = record {
  front = so_far.front ++ line ∷ [];
  say = subst (Say (so_far.front ++ line ∷ [])) (sym is) (say_push so_far.front said line x so_far.say says);
  parts = so_far.parts ∙ ap (λ ls. so_far.front ++ ls) split ∙ sym (append_assoc so_far.front (line ∷ []) (lines_of behind));
}

is_zero : (n : ℕ) → (n == 0) ≡ true → n ≡ 0
is_zero n h = grind (arith, nat_tests)

none_left : (rest : List ℕ) → (length rest == 0) ≡ true → lines_of rest ≡ []
none_left [] h = refl
none_left (b ∷ rest) h = let none : length (b ∷ rest) ≡ 0 = is_zero (length (b ∷ rest)) h in absurd (omega arith)

pub all_read : (lines : List (List ℕ)) (said : List PatchLine) (rest : List ℕ) → SoFar lines said rest → (length rest == 0) ≡ true → Say lines said
all_read lines said rest so_far ended =
    subst (λ ls. Say ls said) (sym (so_far.parts ∙ ap (λ ls. so_far.front ++ ls) (none_left rest ended) ∙ append-nil so_far.front)) so_far.say

-- what the lines make is what the text gives
pub gives_table : (text : List ℕ) (m : Module) (said : List PatchLine) (r : Result PatchTable (End PatchFault)) → Say (lines_of text) said → Gives r (outcome m said) → GivesBy r (patch_text text m)
gives_table text m said (Ok table) say gives = (said, say, sym gives)
gives_table text m said (Err ends.Memory) say gives = tt
gives_table text m said (Err (ends.Fault f)) say gives = (said, say, sym gives)

typed_push : (lines : List PatchLine) (x : PatchLine) → AllByRecursion typed_line lines → typed_line x → AllByRecursion typed_line (lines ++ x ∷ [])
typed_push [] x all is = (is, tt)
typed_push (l ∷ lines) x all is = (all.0, typed_push lines x all.1 is)

pub typed_more : (lines more : List PatchLine) (x : PatchLine) → AllByRecursion typed_line lines → typed_line x → more ≡ lines ++ x ∷ [] → AllByRecursion typed_line more
typed_more lines more x all is same = subst (AllByRecursion typed_line) (sym same) (typed_push lines x all is)

-- a member of a list of which all have a property has it
all_at : {A : Type 0} (P : A → Type 0) (xs : List A) (k : ℕ) (x : A) → k < length xs → get_or xs k x ≡ x → AllByRecursion P xs → P x
all_at P [] k x within is all = absurd (omega arith)
all_at P (y ∷ xs) zero x within is all = subst P is all.0
all_at P (y ∷ xs) (suc k) x within is all = all_at P xs k x (omega arith) is all.1

pub all_member : {A : Type 0} (P : A → Type 0) (xs : List A) (x : A) → AllByRecursion P xs → Contains xs x → P x
all_member P xs x all member = all_at P xs member.0 x member.1 member.2 all

-- the law of tables: a module can take what lines give
abbrev pub TablesFit : Type 0
TablesFit = (m : Module) (lines : List PatchLine) (table : PatchTable) → typed_module m → AllByRecursion typed_line lines → outcome m lines ≡ Ok table → table_ok m table

pub taken_tables : TablesFit → (m : Module) (said : List PatchLine) (r : Result PatchTable (End PatchFault)) → typed_module m → AllByRecursion typed_line said → Gives r (outcome m said) → IfOk r (table_ok m)
taken_tables fit m said (Ok table) typed all gives = fit m said table typed all gives
taken_tables fit m said (Err e) typed all gives = tt
