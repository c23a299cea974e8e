-- The module of a repaired IR that a job asks for is the repaired one, and so is its text.
use Rattle.std.proofs.Common.{◌≡◌, ℕ, List, map, slice_get, Option, Some, None, Result, Ok, Err, refl, sym, ◌∙◌, ap, subst, Bool, if◌then◌else◌}
use Rattle.std.specs.Option.{option_map, option_map_or}
use Rattle.std.specs.Str.{bytes_eq}
use Rattle.std.proofs.lemmas.Option.{slice_get-map}
use Rattle.std.proofs.lemmas.Slice.Eq.{bytes_eq-Decides}
use Rattle.aux_tables.specs.ModuleTables.{tables_of}
use Rattle.aux_types.specs.Gives.{◌>>=◌, Fails, Gives}
use Rattle.edge_repair.specs.Repaired.{repaired, repaired_module}
use Rattle.gr_base.specs.declared.end.End.{End}
use Rattle.gr_base.specs.declared.end.End.TheVariants as ends
use Rattle.gt_model.specs.declared.ir.Ir.{Ir}
use Rattle.gt_model.specs.declared.modules.Module.{Module}
use Rattle.ir_check.specs.Faults.{check_fault}
use Rattle.node_arena.specs.declared.fault.CheckFault.TheVariants.{NoModule}
use Rattle.sym_expr.specs.declared.patches.PatchTable.{PatchTable}
use Rattle.sym_expr.specs.Tables.{Tables}
use Rattle.taken_ids.specs.Faults.{id_fault}
use Rattle.command_words.specs.Picked.{Picked}
use Rattle.jobs.specs.declared.verdict.Finished.{Finished}
use Rattle.jobs.specs.declared.verdict.Refusal.{Refusal}
use Rattle.jobs.specs.declared.verdict.Refusal.TheVariants.{Check, Rewrite}
use Rattle.jobs.specs.Modules.{checked_module, linked_up, module_in, profile_of, program_module, unless}
use Rattle.jobs.specs.Printing.{text_free, text_written}
use Rattle.jobs.specs.Rewriting.{repaired_free}
use Rattle.jobs.proofs.Programs.{bind_gave, linked_same, unless_gave}

there : (o : Option Module) (count : ℕ) (m : Module) → option_map_or Ok o (Err (Check (NoModule count))) ≡ Ok m → o ≡ Some m
there (Some x) count m e = cc
there None count m e = absurd cc

-- the module that is asked for is the one of its ordinal
pub module_of : (asked : Picked) (ir : Ir) (m : Module) → program_module asked ir ≡ Ok m → slice_get ir.modules asked.settings.ordinal ≡ Some m
module_of asked ir m e =
    let check : Module → Result Module Refusal = λ x. checked_module (profile_of asked) x in
    let pick : Ir → Result Module Refusal = λ x. module_in asked.settings.ordinal x >>= check in
    let first = bind_gave (linked_up ir) pick m e in
    let same = linked_same ir first.0 first.1 in
    let second = bind_gave (module_in asked.settings.ordinal first.0) check m first.2 in
    let checks = unless_gave Check (check_fault (profile_of asked) second.0) second.0 m second.2 in
    let found = there (slice_get first.0.modules asked.settings.ordinal) _ second.0 second.1 in
    subst (λ (x : Module). slice_get ir.modules asked.settings.ordinal ≡ Some x) checks.1
    (subst (λ (x : Ir). slice_get x.modules asked.settings.ordinal ≡ Some second.0) same found)

-- where a module stands in an IR, the repaired one stands in the repaired IR
repaired_there : (ir : Ir) (m : Module) (t : Tables) (p : PatchTable) (k : ℕ) → slice_get ir.modules k ≡ Some m
    → slice_get (repaired ir m t p).modules k ≡ Some (repaired_module m t p)
repaired_there ir m t p k e =
    let change : Module → Module = λ x. if bytes_eq x.uuid m.uuid then repaired_module x t p else x in
    let own = (bytes_eq-Decides m.uuid m.uuid).1 refl in
    slice_get-map change ir.modules k ∙ ap (option_map change) e ∙ ap (λ (b : Bool). Some (if b then repaired_module m t p else m)) own

one_some : {A : Type 0} (o : Option A) (a b : A) → o ≡ Some a → o ≡ Some b → a ≡ b
one_some o a b x y = cc

-- so it is the module that is asked for in what was repaired
repaired_one : (asked : Picked) (ir new : Ir) (m found : Module) (p : PatchTable) → program_module asked ir ≡ Ok m
    → repaired_free ir m p ≡ Ok new → program_module asked new ≡ Ok found → found ≡ repaired_module m (tables_of m) p
repaired_one asked ir new m found p before free after =
    let made = unless_gave Rewrite (id_fault ir m p) (repaired ir m (tables_of m) p) new free in
    let k = asked.settings.ordinal in
    let old = repaired_there ir m (tables_of m) p k (module_of asked ir m before) in
    let its = subst (λ (x : Ir). slice_get x.modules k ≡ Some (repaired_module m (tables_of m) p)) made.1 old in
    one_some (slice_get new.modules k) found (repaired_module m (tables_of m) p) (module_of asked new found after) its

-- where no fault was found in repairing, there is none in the text
free_text : {F A B : Type 0} (refusal : F → Refusal) (fault : Option F) (value made : A) (other : B) → unless refusal fault value ≡ Ok made → unless refusal fault other ≡ Ok other
free_text refusal None value made other e = refl
free_text refusal (Some f) value made other e = absurd cc

-- the text of the module that is asked for in what was repaired is that of the repaired module
pub text_of_repaired : (asked : Picked) (ir new : Ir) (m found : Module) (p : PatchTable) (made : Finished) → program_module asked ir ≡ Ok m
    → repaired_free ir m p ≡ Ok new → program_module asked new ≡ Ok found → made ≡ text_written found → text_free ir m p ≡ Ok made
text_of_repaired asked ir new m found p made before free after its =
    let one = repaired_one asked ir new m found p before free after in
    free_text Rewrite (id_fault ir m p) (repaired ir m (tables_of m) p) new (text_written (repaired_module m (tables_of m) p)) free
    ∙ ap (λ (x : Module). Ok (text_written x)) (sym one) ∙ ap Ok (sym its)

-- where repairing stops, so does the text
pub text_stops : {F A B : Type 0} (refusal : F → Refusal) (fault : Option F) (value : A) (other : B) (end : End Refusal)
    → Fails end (unless refusal fault value) → Fails end (unless refusal fault other)
text_stops refusal None value other ends.Memory h = tt
text_stops refusal None value other (ends.Fault x) h = absurd cc
text_stops refusal (Some f) value other ends.Memory h = tt
text_stops refusal (Some f) value other (ends.Fault x) h = let same : refusal f ≡ x = cc in ap Err same
