-- The table of the lines from what the passes find.
use Rattle.std.proofs.Common.{◌≡◌, ℕ, Bool, Option, Some, None, Result, Ok, Err, List, [], sym, ap, ◌∙◌, refl, subst}
use Rattle.std.specs.Option.{option_or}
use mathlib.Core.Path.{fun_ext}
use Rattle.gr_base.specs.declared.end.End.{End}
use Rattle.gr_base.specs.declared.end.End.TheVariants as ends
use Rattle.gt_model.specs.declared.modules.Module.{Module}
use Rattle.sym_expr.specs.declared.patches.Function.{Function}
use Rattle.sym_expr.specs.declared.patches.Insert.{Insert}
use Rattle.sym_expr.specs.declared.patches.PatchTable.{PatchTable}
use Rattle.patch_lines.specs.declared.fault.PatchFault.{PatchFault}
use Rattle.patch_lines.specs.declared.line.PatchLine.{PatchLine}
use Rattle.patch_lines.specs.Answers.{EndIs, EndTells, Gives}
use Rattle.patch_lines.specs.Building.{functions_in, inserts_in, outcome, outcome_with, table_of, table_with, table_without}
use Rattle.patch_lines.specs.Faults.{first_pass, is_name_in, second_pass}

pub made : (m : Module) (f : List ℕ → Bool) (ls : List PatchLine) (inserts : List Insert) (functions : List Function) → second_pass m f [] ls ≡ None → inserts ≡ inserts_in m f ls → functions ≡ functions_in m f ls
    → outcome_with m f ls ≡ Ok (record { inserts = inserts; functions = functions })
made m f ls inserts functions none i g =
    ap (λ o. table_without o (table_with m f ls)) none
    ∙ ap (λ (x : List Insert). let t : Result PatchTable PatchFault = Ok (record { inserts = x; functions = functions_in m f ls }) in t) (sym i)
    ∙ ap (λ (x : List Function). let t : Result PatchTable PatchFault = Ok (record { inserts = inserts; functions = x }) in t) (sym g)

pub refused : (m : Module) (f : List ℕ → Bool) (ls : List PatchLine) (fault : PatchFault) → second_pass m f [] ls ≡ Some fault → outcome_with m f ls ≡ Err fault
refused m f ls fault some = ap (λ o. table_without o (table_with m f ls)) some

pub as_outcome : (m : Module) (f : List ℕ → Bool) (ls : List PatchLine) → first_pass m [] ls ≡ None → ((q : List ℕ) → f q ≡ is_name_in ls q) → outcome_with m f ls ≡ outcome m ls
as_outcome m f ls none known =
    ap (λ g. outcome_with m g ls) (fun_ext known)
    ∙ ap (λ o. table_without (option_or o (second_pass m (is_name_in ls) [] ls)) (table_of m ls)) (sym none)

pub first_refuses : (m : Module) (ls : List PatchLine) (e : End PatchFault) → EndTells e (first_pass m [] ls) → EndIs e (outcome m ls)
first_refuses m ls ends.Memory tells = tt
first_refuses m ls (ends.Fault f) tells = ap (λ o. table_without (option_or o (second_pass m (is_name_in ls) [] ls)) (table_of m ls)) tells
