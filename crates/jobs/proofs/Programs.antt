-- The module that passed its checks has a program that can be laid out and linked.
use Rattle.std.proofs.Common.{◌≡◌, ◌↔◌, ◌≤◌, ◌<◌, ◌^◌, List, [], ◌∷◌, length, Option, Some, None, Result, Ok, Err, not, refl, sym, ◌∙◌, ap, subst, arith}
use Rattle.std.specs.Prelude.{Contains, IfOk}
use Rattle.std.specs.Option.{option_map, option_or}
use Rattle.std.specs.Result.{IsErrAnd}
use Rattle.std.proofs.lemmas.List.Concat.{length-flat_map}
use Rattle.std.proofs.lemmas.List.Filters.{sum_by-filter_both}
use Rattle.aux_tables.specs.ModuleTables.{tables_of}
use Rattle.aux_types.specs.Gives.{◌>>=◌, Fails, Gives}
use Rattle.gr_base.specs.declared.end.End.{End}
use Rattle.gr_base.specs.declared.end.End.TheVariants as ends
use Rattle.gt_model.specs.declared.ir.Ir.{Ir}
use Rattle.gt_model.specs.declared.modules.Module.{Module}
use Rattle.gt_model.specs.declared.modules.Section.{Section}
use Rattle.gt_model.specs.Linked.{linked, well_linked, link_fault as fault_of_links}
use Rattle.gt_model.specs.Ordered.{ordered}
use Rattle.gt_model.specs.Typed.{typed}
use Rattle.ir_check.specs.declared.profile.Profile.{Profile}
use Rattle.ir_check.specs.declared.report.CheckReport.{CheckReport}
use Rattle.ir_check.specs.Faults.{aux_faults, bad_places, block_outside, check_fault, code_align, contents_long, first, large, no_entry, not_a64, overlap, thread_local}
use Rattle.ir_check.specs.Report.{checked, report_of, unless as reported}
use Rattle.node_arena.specs.Checking as arena
use Rattle.sym_expr.specs.Linkable.{formed, linkable}
use Rattle.sym_expr.specs.declared.program.Program.{Program}
use Rattle.sym_expr.specs.Modules.{intervals_of, is_loaded, loaded_intervals, loaded_sections}
use Rattle.jobs.specs.declared.verdict.Refusal.{Refusal}
use Rattle.jobs.specs.declared.verdict.Refusal.TheVariants.{Check}
use Rattle.jobs.specs.Modules.{checked_module, linked_up, module_in, profile_of, program_module, unless}
use Rattle.command_words.specs.Picked.{Picked}
use Rattle.jobs.specs.Stages.{Answers, exactly}
use Rattle.jobs.proofs.Binding.{bind_ok}

-- two steps give a value only where both do
pub bind_gave : {A B F : Type 0} (known : Result A F) (f : A → Result B F) (y : B) → (known >>= f) ≡ Ok y → (x : A) × (known ≡ Ok x) × (f x ≡ Ok y)
bind_gave (Ok x) f y e = (x, refl, e)
bind_gave (Err r) f y e = absurd cc

pub unless_gave : {F T : Type 0} (refusal : F → Refusal) (fault : Option F) (value made : T) → unless refusal fault value ≡ Ok made → (fault ≡ None) × (value ≡ made)
unless_gave refusal None value made e = (refl, cc)
unless_gave refusal (Some f) value made e = absurd cc

map_none : {A B : Type 0} (f : A → B) (o : Option A) → option_map f o ≡ None → o ≡ None
map_none f None e = refl
map_none f (Some x) e = absurd cc

-- the IR of a graph is the one that was linked up
pub linked_same : (ir other : Ir) → linked_up ir ≡ Ok other → other ≡ ir
linked_same ir other e = sym (unless_gave Check (option_map arena.check_fault (fault_of_links ir)) ir other e).1

-- a call that fails as what is known does
pub gives_stops : {X Y : Type 0} (view : X → Y) (r : Result X (End Refusal)) (known : Result Y Refusal) (end : End Refusal)
    → Fails end known → IsErrAnd r (λ e. e ≡ end) → Gives view r known
gives_stops view (Ok x) known end h w = absurd w
gives_stops view (Err e) known end h w = subst (λ (x : End Refusal). Fails x known) (sym w) h

-- a call that fails as what is known does answers it
pub fails_exactly : {T : Type 0} (known : Result T Refusal) (end : End Refusal) → Fails end known → Answers (exactly known) (Err end)
fails_exactly known (ends.Fault refusal) h = sym h
fails_exactly known ends.Memory h = tt

-- where the checks of the module stop, all stops
pub load_stops : (asked : Picked) (ir x : Ir) (m : Module) (profile : Profile) (end : End Refusal) → linked_up ir ≡ Ok x → module_in asked.settings.ordinal x ≡ Ok m
    → profile ≡ profile_of asked → Fails end (checked_module profile m) → Fails end (program_module asked ir)
load_stops asked ir x m profile end links picks same fails =
    let check : Module → Result Module Refusal = λ m. checked_module (profile_of asked) m in
    let pick : Ir → Result Module Refusal = λ x. module_in asked.settings.ordinal x >>= check in
    let whole = bind_ok (linked_up ir) pick x links ∙ bind_ok (module_in asked.settings.ordinal x) check m picks in
    subst (λ (r : Result Module Refusal). Fails end r) (sym whole) (subst (λ (p : Profile). Fails end (checked_module p m)) same fails)

-- of a module that is loaded neither the links nor the checks found a fault
pub passes : (asked : Picked) (ir : Ir) (m : Module) → program_module asked ir ≡ Ok m → (fault_of_links ir ≡ None) × (check_fault (profile_of asked) m ≡ None)
passes asked ir m e =
    let check : Module → Result Module Refusal = λ x. checked_module (profile_of asked) x in
    let pick : Ir → Result Module Refusal = λ x. module_in asked.settings.ordinal x >>= check in
    let first = bind_gave (linked_up ir) pick m e in
    let links = unless_gave Check (option_map arena.check_fault (fault_of_links ir)) ir first.0 first.1 in
    let second = bind_gave (module_in asked.settings.ordinal first.0) check m first.2 in
    let checks = unless_gave Check (check_fault (profile_of asked) second.0) second.0 m second.2 in
    (map_none arena.check_fault (fault_of_links ir) links.0, subst (λ (x : Module). check_fault (profile_of asked) x ≡ None) checks.1 checks.0)

-- no Place of a table is past the size of what it names
or_none : {A : Type 0} (a b : Option A) → option_or a b ≡ None → b ≡ None
or_none None b e = e
or_none (Some x) b e = absurd cc

first_none : {A : Type 0} (xs : List A) → first xs ≡ None → xs ≡ []
first_none [] e = refl
first_none (x ∷ rest) e = absurd cc

placed_where_checked : (profile : Profile) (m : Module) → check_fault profile m ≡ None → bad_places (loaded_intervals m) m.aux ≡ []
placed_where_checked profile m e =
    let e1 = or_none (not_a64 profile m) _ e in
    let e2 = or_none (thread_local m) _ e1 in
    let e3 = or_none (large m) _ e2 in
    let e4 = or_none (contents_long m) _ e3 in
    let e5 = or_none (block_outside m) _ e4 in
    let e6 = or_none (overlap m) _ e5 in
    let e7 = or_none (code_align m) _ e6 in
    let e8 = or_none (no_entry m) _ e7 in
    let e9 = or_none (first (aux_faults m.aux)) _ e8 in
    first_none (bad_places (loaded_intervals m) m.aux) (left_none (first (bad_places (loaded_intervals m) m.aux)) _ e9)
  where
    left_none : {A : Type 0} (a b : Option A) → option_or a b ≡ None → a ≡ None
    left_none None b e = refl
    left_none (Some x) b e = absurd cc

pub loaded_placed : (asked : Picked) (ir : Ir) (m : Module) → program_module asked ir ≡ Ok m → bad_places (loaded_intervals m) m.aux ≡ []
loaded_placed asked ir m e = placed_where_checked (profile_of asked) m (passes asked ir m e).1

-- so it has a program
pub loaded_linkable : (asked : Picked) (ir : Ir) (m : Module) → program_module asked ir ≡ Ok m
    → ((ir : Ir) → (fault_of_links ir ≡ None) ↔ linked ir)
    → ((profile : Profile) (ir : Ir) (m : Module) (report : CheckReport) → checked profile ir m ≡ Ok report → well_linked ir → ordered ir → Contains ir.modules m → linkable ir m (tables_of m))
    → typed ir → ordered ir → Contains ir.modules m → linkable ir m (tables_of m)
loaded_linkable asked ir m e links programs values order member =
    let p = passes asked ir m e in
    programs (profile_of asked) ir m (report_of ir m) (ap (reported (report_of ir m)) p.1) (record { values = values; links = (links ir).0 p.0 }) order member

-- the loaded intervals are some of the intervals
loaded_few : (m : Module) → length (loaded_intervals m) ≤ length (intervals_of m.sections)
loaded_few m =
    let both = sum_by-filter_both is_loaded (λ (s : Section). not (is_loaded s)) (λ (s : Section). refl) (λ (s : Section). length s.intervals) m.sections in
    let loaded = length-flat_map (λ (s : Section). s.intervals) (loaded_sections m) in
    let all = length-flat_map (λ (s : Section). s.intervals) m.sections in
    omega arith

-- the loaded intervals are few where all are
pub few_loaded : (m : Module) → length (intervals_of m.sections) < 2 ^ 39 → length (loaded_intervals m) < 2 ^ 39
few_loaded m few = let loaded = loaded_few m in omega arith

-- a module that has a program is formed, where its intervals are few
pub linkable_formed : (ir : Ir) (m : Module) → linkable ir m (tables_of m) → length (intervals_of m.sections) < 2 ^ 39 → formed ir m (tables_of m)
linkable_formed ir m l few =
    let loaded = loaded_few m in
    let f = l.faultless in
    let small = f.small in
    record {
      linked = l.linked;
      in_order = l.in_order;
      member = l.member;
      faultless = record {
        no_thread_local = f.no_thread_local;
        small = omega arith;
        no_long = f.no_long;
        inside = f.inside;
        apart = f.apart;
        straight = f.straight;
        entered = f.entered;
        exprs = f.exprs;
      };
      few = omega arith;
    }

-- what holds of the program that a call gives
pub given_by : {E : Type 0} (P : Program → Type 0) {p : Program} → P p → (r : Result Program E) → IfOk r (λ g. g ≡ p) → IfOk r P
given_by P its (Ok g) same = subst P (sym same) its
given_by P its (Err e) same = tt
