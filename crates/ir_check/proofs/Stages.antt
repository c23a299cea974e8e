-- The checks, one after another, up to the first that finds something.
use Rattle.std.proofs.Common.{◌≡◌, List, Option, None, Some, Ok, Err, refl, sym, ap, ◌∙◌, subst}
use Rattle.std.specs.Option.{option_or}
use Rattle.std.specs.Str.{bytes_eq}
use Rattle.indexmap.specs.IndexMap.{get}
use Rattle.aux_tables.specs.ModuleTables.{tables_of}
use Rattle.aux_types.specs.Gives.{Fails}
use Rattle.gr_base.specs.declared.end.End.{End}
use Rattle.gr_base.specs.declared.end.End.TheVariants as ends
use Rattle.gt_model.specs.declared.tables.Aux.{Aux}
use Rattle.ir_check.specs.Faults.{first, check_fault, not_a64, thread_local, large, contents_long, block_outside, overlap, code_align, no_entry, aux_fault, aux_faults, bad_places, faults_of_exprs}
use Rattle.ir_check.specs.Outcomes.{Stops}
use Rattle.ir_check.specs.Part.{IsPart, is_past_in}
use Rattle.ir_check.specs.PartFaults.{part_fault}
use Rattle.ir_check.specs.Report.{checked, report_of, unless}
use Rattle.ir_check.specs.Spans.{first_in}
use Rattle.ir_check.specs.TablesRead.{bad_place_of}
use Rattle.ir_check.specs.declared.part.LoadedPart.{LoadedPart}
use Rattle.ir_check.specs.declared.profile.Profile.{Profile}
use Rattle.ir_check.specs.declared.report.CheckReport.{CheckReport}
use Rattle.ir_check.proofs.FoundBlocks.{loaded}
use Rattle.ir_check.proofs.Whole.{part_is, places_are, aux_are}
use Rattle.node_arena.specs.Arenas.{Arenas, module_at}
use Rattle.node_arena.specs.Plain.{ir_of, plain_module}
use Rattle.node_arena.specs.declared.fault.CheckFault.{CheckFault}
use Rattle.node_arena.specs.declared.ids.ModuleId.{ModuleId}

-- what a check of a list of checks answers, and the rest behind it
seven : {F : Type 0} (a b c d e f g rest : Option F)
    → option_or a (option_or b (option_or c (option_or d (option_or e (option_or f (option_or g rest))))))
    ≡ option_or (option_or a (option_or b (option_or c (option_or d (option_or e (option_or f g)))))) rest
seven None None None None None None g rest = refl
seven None None None None None (Some x) g rest = refl
seven None None None None (Some x) f g rest = refl
seven None None None (Some x) e f g rest = refl
seven None None (Some x) d e f g rest = refl
seven None (Some x) c d e f g rest = refl
seven (Some x) b c d e f g rest = refl

-- the faults that are found, stage by stage
stages : (g : Arenas) (m : ModuleId) (profile : Profile) (p : LoadedPart) → IsPart g m p
    → check_fault profile (plain_module g (module_at g m))
    ≡ option_or (not_a64 profile (plain_module g (module_at g m)))
    (option_or (part_fault g m p)
    (option_or (first_in aux_fault (module_at g m).aux)
    (option_or (first_in (bad_place_of (is_past_in (get bytes_eq p.sizes) (get bytes_eq p.sites))) (module_at g m).aux)
    (first (faults_of_exprs profile.plain (plain_module g (module_at g m)) (tables_of (plain_module g (module_at g m))))))))
stages g m profile p is =
    let M = plain_module g (module_at g m) in
    let E = first (faults_of_exprs profile.plain M (tables_of M)) in
    let B = option_or (first (bad_places (loaded g m) M.aux)) E in
    ap (option_or (not_a64 profile M)) (
    seven (thread_local M) (large M) (contents_long M) (block_outside M) (overlap M) (code_align M) (no_entry M) (option_or (first (aux_faults M.aux)) B)
    ∙ ap (λ (o : Option CheckFault). option_or o (option_or (first (aux_faults M.aux)) B)) (sym (part_is g m p is))
    ∙ ap (option_or (part_fault g m p)) (
    ap (λ (o : Option CheckFault). option_or o B) (sym (aux_are M.aux))
    ∙ ap (λ (o : Option CheckFault). option_or (first_in aux_fault M.aux) (option_or o E)) (sym (places_are g m p is M.aux))
    )
    )

-- what is found behind a check that finds nothing
behind : {F : Type 0} (o rest : Option F) → o ≡ None → option_or o rest ≡ rest
behind {F} o rest none = ap (λ (x : Option F). option_or x rest) none

behind_part : (g : Arenas) (m : ModuleId) (profile : Profile) (p : LoadedPart) → IsPart g m p
    → None ≡ not_a64 profile (plain_module g (module_at g m)) → None ≡ part_fault g m p
    → check_fault profile (plain_module g (module_at g m))
    ≡ option_or (first_in aux_fault (module_at g m).aux)
    (option_or (first_in (bad_place_of (is_past_in (get bytes_eq p.sizes) (get bytes_eq p.sites))) (module_at g m).aux)
    (first (faults_of_exprs profile.plain (plain_module g (module_at g m)) (tables_of (plain_module g (module_at g m))))))
behind_part g m profile p is kind part =
    stages g m profile p is
    ∙ behind (not_a64 profile (plain_module g (module_at g m))) _ (sym kind)
    ∙ behind (part_fault g m p) _ (sym part)

behind_tables : (g : Arenas) (m : ModuleId) (profile : Profile) (p : LoadedPart) → IsPart g m p
    → None ≡ not_a64 profile (plain_module g (module_at g m)) → None ≡ part_fault g m p
    → first_in aux_fault (module_at g m).aux ≡ None
    → check_fault profile (plain_module g (module_at g m))
    ≡ option_or (first_in (bad_place_of (is_past_in (get bytes_eq p.sizes) (get bytes_eq p.sites))) (module_at g m).aux)
    (first (faults_of_exprs profile.plain (plain_module g (module_at g m)) (tables_of (plain_module g (module_at g m)))))
behind_tables g m profile p is kind part read = behind_part g m profile p is kind part ∙ behind (first_in aux_fault (module_at g m).aux) _ read

behind_places : (g : Arenas) (m : ModuleId) (profile : Profile) (p : LoadedPart) → IsPart g m p
    → None ≡ not_a64 profile (plain_module g (module_at g m)) → None ≡ part_fault g m p
    → first_in aux_fault (module_at g m).aux ≡ None
    → first_in (bad_place_of (is_past_in (get bytes_eq p.sizes) (get bytes_eq p.sites))) (module_at g m).aux ≡ None
    → check_fault profile (plain_module g (module_at g m))
    ≡ first (faults_of_exprs profile.plain (plain_module g (module_at g m)) (tables_of (plain_module g (module_at g m))))
behind_places g m profile p is kind part read places =
    behind_tables g m profile p is kind part read
    ∙ behind (first_in (bad_place_of (is_past_in (get bytes_eq p.sizes) (get bytes_eq p.sites))) (module_at g m).aux) _ places

stops_first : (end : End CheckFault) (o rest : Option CheckFault) → Stops end o → Stops end (option_or o rest)
stops_first ends.Memory o rest stops = tt
stops_first (ends.Fault f) o rest stops = ap (λ (x : Option CheckFault). option_or x rest) stops

fails : (report : CheckReport) (end : End CheckFault) (o found : Option CheckFault) → found ≡ o → Stops end o → Fails end (unless report found)
fails report ends.Memory o found same stops = tt
fails report (ends.Fault f) o found same stops = ap (unless report) (same ∙ stops)

-- the part has a fault
pub at_part : (g : Arenas) (m : ModuleId) (profile : Profile) (p : LoadedPart) → IsPart g m p
    → None ≡ not_a64 profile (plain_module g (module_at g m))
    → (f : CheckFault) → Some f ≡ part_fault g m p
    → checked profile (ir_of g) (plain_module g (module_at g m)) ≡ Err f
at_part g m profile p is kind f found =
    let M = plain_module g (module_at g m) in
    fails (report_of (ir_of g) M) (ends.Fault f) _ (check_fault profile M)
    (stages g m profile p is ∙ behind (not_a64 profile M) _ (sym kind))
    (stops_first (ends.Fault f) (part_fault g m p) _ (sym found))

-- the checks of the tables end
pub at_tables : (g : Arenas) (m : ModuleId) (profile : Profile) (p : LoadedPart) → IsPart g m p
    → None ≡ not_a64 profile (plain_module g (module_at g m)) → None ≡ part_fault g m p
    → (tables : List Aux) → tables ≡ (module_at g m).aux
    → (end : End CheckFault) → Stops end (first_in aux_fault tables)
    → Fails end (checked profile (ir_of g) (plain_module g (module_at g m)))
at_tables g m profile p is kind part tables same end stops =
    let M = plain_module g (module_at g m) in
    fails (report_of (ir_of g) M) end _ (check_fault profile M) (behind_part g m profile p is kind part)
    (stops_first end (first_in aux_fault (module_at g m).aux) _ (subst (λ (ts : List Aux). Stops end (first_in aux_fault ts)) same stops))

-- the checks of the Places in them end
pub at_places : (g : Arenas) (m : ModuleId) (profile : Profile) (p : LoadedPart) → IsPart g m p
    → None ≡ not_a64 profile (plain_module g (module_at g m)) → None ≡ part_fault g m p
    → (tables : List Aux) → tables ≡ (module_at g m).aux → first_in aux_fault tables ≡ None
    → (end : End CheckFault) → Stops end (first_in (bad_place_of (is_past_in (get bytes_eq p.sizes) (get bytes_eq p.sites))) tables)
    → Fails end (checked profile (ir_of g) (plain_module g (module_at g m)))
at_places g m profile p is kind part tables same read end stops =
    let M = plain_module g (module_at g m) in
    let past = is_past_in (get bytes_eq p.sizes) (get bytes_eq p.sites) in
    fails (report_of (ir_of g) M) end _ (check_fault profile M)
    (behind_tables g m profile p is kind part (ap (first_in aux_fault) (sym same) ∙ read))
    (stops_first end (first_in (bad_place_of past) (module_at g m).aux) _ (subst (λ (ts : List Aux). Stops end (first_in (bad_place_of past) ts)) same stops))

-- the checks of the expressions end
pub at_exprs : (g : Arenas) (m : ModuleId) (profile : Profile) (p : LoadedPart) → IsPart g m p
    → None ≡ not_a64 profile (plain_module g (module_at g m)) → None ≡ part_fault g m p
    → (tables : List Aux) → tables ≡ (module_at g m).aux → first_in aux_fault tables ≡ None
    → first_in (bad_place_of (is_past_in (get bytes_eq p.sizes) (get bytes_eq p.sites))) tables ≡ None
    → (end : End CheckFault) → Stops end (first (faults_of_exprs profile.plain (plain_module g (module_at g m)) (tables_of (plain_module g (module_at g m)))))
    → Fails end (checked profile (ir_of g) (plain_module g (module_at g m)))
at_exprs g m profile p is kind part tables same read places end stops =
    let M = plain_module g (module_at g m) in
    let past = is_past_in (get bytes_eq p.sizes) (get bytes_eq p.sites) in
    fails (report_of (ir_of g) M) end _ (check_fault profile M)
    (behind_places g m profile p is kind part (ap (first_in aux_fault) (sym same) ∙ read) (ap (first_in (bad_place_of past)) (sym same) ∙ places)) stops

-- nothing is found
pub at_end : (g : Arenas) (m : ModuleId) (profile : Profile) (p : LoadedPart) → IsPart g m p
    → None ≡ not_a64 profile (plain_module g (module_at g m)) → None ≡ part_fault g m p
    → (tables : List Aux) → tables ≡ (module_at g m).aux → first_in aux_fault tables ≡ None
    → first_in (bad_place_of (is_past_in (get bytes_eq p.sizes) (get bytes_eq p.sites))) tables ≡ None
    → first (faults_of_exprs profile.plain (plain_module g (module_at g m)) (tables_of (plain_module g (module_at g m)))) ≡ None
    → (report : CheckReport) → report ≡ report_of (ir_of g) (plain_module g (module_at g m))
    → checked profile (ir_of g) (plain_module g (module_at g m)) ≡ Ok report
at_end g m profile p is kind part tables same read places exprs report counted =
    let M = plain_module g (module_at g m) in
    let past = is_past_in (get bytes_eq p.sizes) (get bytes_eq p.sites) in
    ap (unless (report_of (ir_of g) M)) (behind_places g m profile p is kind part (ap (first_in aux_fault) (sym same) ∙ read) (ap (first_in (bad_place_of past)) (sym same) ∙ places) ∙ exprs)
    ∙ sym (ap Ok counted)
