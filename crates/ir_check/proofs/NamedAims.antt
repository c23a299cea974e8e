-- What the symbols of a module name, as they are looked up among the loaded blocks, and what is wrong with its expressions by that.
use Rattle.std.proofs.Common.{◌≡◌, ℕ, List, [], ◌∷◌, map, Option, refl, ap, ◌∙◌}
use Rattle.std.specs.Prelude.{unwrap_or}
use Rattle.std.specs.Option.{option_map_or}
use Rattle.std.specs.Str.{bytes_eq}
use Rattle.gt_model.specs.declared.symbols.Payload.{Payload}
use Rattle.gt_model.specs.declared.symbols.Payload.TheVariants as payloads
use Rattle.ir_check.specs.AtGraph.{faults_at, interval_ids, loaded_ids}
use Rattle.ir_check.specs.Faults.{faults_of_exprs, first}
use Rattle.ir_check.specs.Keyed.{value_at}
use Rattle.ir_check.specs.Sites.{aim_at, payload_aim, aim_entry, aim_in}
use Rattle.ir_check.specs.Spans.{first_in}
use Rattle.ir_check.specs.declared.profile.Plain.{Plain}
use Rattle.ir_check.specs.declared.sites.Site.{Site}
use Rattle.ir_check.proofs.FoundBlocks.{found_in, aim_is}
use Rattle.ir_check.proofs.Whole.{exprs_are}
use Rattle.aux_tables.specs.ModuleTables.{tables_of}
use Rattle.node_arena.specs.Arenas.{Arenas, module_at, symbol_at}
use Rattle.node_arena.specs.Plain.{plain_module, plain_payload}
use Rattle.node_arena.specs.declared.fault.CheckFault.{CheckFault}
use Rattle.node_arena.specs.declared.ids.IntervalId.{IntervalId}
use Rattle.node_arena.specs.declared.ids.ModuleId.{ModuleId}
use Rattle.node_arena.specs.declared.ids.SymbolId.{SymbolId}
use Rattle.sym_expr.specs.declared.aim.Aim.{Aim}
use Rattle.sym_expr.specs.declared.aim.Aim.TheVariants as aims
use Rattle.sym_expr.specs.Expressions.{symbol_aim}
use Rattle.sym_expr.specs.Tables.{Tables}

map_same : {A B : Type 0} (f h : A → B) → ((x : A) → f x ≡ h x) → (xs : List A) → map f xs ≡ map h xs
map_same f h same [] = refl
map_same {A} {B} f h same (x ∷ xs) = ap (λ (y : B). y ∷ map f xs) (same x) ∙ ap (λ (ys : List B). h x ∷ ys) (map_same f h same xs)

payload_same : (f h : List ℕ → Option Site) → ((id : List ℕ) → f id ≡ h id) → (p : Payload) → payload_aim f p ≡ payload_aim h p
payload_same f h same payloads.Nothing = refl
payload_same f h same (payloads.Value value) = refl
payload_same f h same (payloads.Referent id) = ap (λ (o : Option Site). option_map_or aim_at o aims.Undefined) (same id)

entry_same : (g : Arenas) (f h : List ℕ → Option Site) → ((id : List ℕ) → f id ≡ h id) → (id : SymbolId) → aim_entry g f id ≡ aim_entry g h id
entry_same g f h same id = ap (λ (a : Aim). ((symbol_at g id).uuid, a)) (payload_same f h same (plain_payload g (symbol_at g id).payload))

-- aims by what is found are those of the module's symbols
pub aims_are : (g : Arenas) (m : ModuleId) (sites : List ℕ → Option Site) (found : List ℕ → Option Aim) → ((id : List ℕ) → sites id ≡ found_in g m id)
    → ((id : List ℕ) → found id ≡ value_at bytes_eq id (map (aim_entry g sites) (module_at g m).symbols)) → (id : List ℕ) → aim_in found id ≡ symbol_aim (plain_module g (module_at g m)) id
aims_are g m sites found same are id =
    ap (λ (o : Option Aim). unwrap_or o aims.Undefined)
    (are id ∙ ap (λ (entries : List (List ℕ × Aim)). value_at bytes_eq id entries) (map_same (aim_entry g sites) (aim_entry g (found_in g m)) (entry_same g sites (found_in g m) same) (module_at g m).symbols))
    ∙ aim_is g m id

-- what is found along the loaded intervals is the first thing that is wrong with an expression
pub exprs_found : (g : Arenas) (m : ModuleId) (allowed : Plain) (sites : List ℕ → Option Site) (found : List ℕ → Option Aim) (t : Tables) (ids : List IntervalId) (o : Option CheckFault) → ((id : List ℕ) → sites id ≡ found_in g m id)
    → ((id : List ℕ) → found id ≡ value_at bytes_eq id (map (aim_entry g sites) (module_at g m).symbols)) → t ≡ tables_of (plain_module g (module_at g m)) → ids ≡ interval_ids g (loaded_ids g m) → o ≡ first_in (faults_at allowed (aim_in found) t g) ids
    → o ≡ first (faults_of_exprs allowed (plain_module g (module_at g m)) (tables_of (plain_module g (module_at g m))))
exprs_found g m allowed sites found t ids o same are tables listed fault =
    fault
    ∙ ap (λ (xs : List IntervalId). first_in (faults_at allowed (aim_in found) t g) xs) listed
    ∙ exprs_are g m allowed (aim_in found) t (aims_are g m sites found same are)
    ∙ ap (λ (u : Tables). first (faults_of_exprs allowed (plain_module g (module_at g m)) u)) tables
