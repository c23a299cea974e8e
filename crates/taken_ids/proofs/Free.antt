-- Without a fault the identifiers of the patches' intervals and blocks are free.
use Rattle.std.proofs.Common.{◌≡◌, ◌≢◌, ℕ, suc, Bool, true, false, ◌||◌, List, [], ◌∷◌, ◌++◌, length, map, Option, Some, None, refl, sym, ap, subst, ◌∙◌, append_assoc}
use Rattle.std.specs.Prelude.{Contains}
use Rattle.std.specs.List.{AllByRecursion, flat_map, list_any}
use Rattle.std.specs.Option.{option_map}
use Rattle.std.specs.Str.{bytes_eq}
use Rattle.std.proofs.lemmas.List.Folds.{list_any-append}
use Rattle.gt_model.specs.declared.ir.Ir.{Ir}
use Rattle.gt_model.specs.declared.modules.Module.{Module}
use Rattle.gt_model.specs.Linked.{repeated}
use Rattle.gt_model.specs.Nodes.{nodes, ids}
use Rattle.sym_expr.specs.declared.patches.Function.{Function}
use Rattle.sym_expr.specs.declared.patches.PatchTable.{PatchTable}
use Rattle.sym_expr.specs.declared.patches.PatchWord.{PatchWord}
use Rattle.sym_expr.specs.Derived.{derived, function_text, interval_text}
use Rattle.sym_expr.specs.Patches.{function_blocks}
use Rattle.sym_expr.specs.Points.{code_blocks}
use Rattle.sym_expr.specs.TableOk.{ids_ok, new_ids}
use Rattle.sym_expr.specs.TableOk.{block_ids as table_block_ids}
use Rattle.sym_expr.specs.Targets.{function_block_id}
use Rattle.module_program.specs.Graphs.{patched_in}
use Rattle.taken_ids.specs.declared.fault.RewriteFault.TheVariants.{IdTaken}
use Rattle.taken_ids.specs.Faults.{id_fault, taken_ids}
use Rattle.taken_ids.specs.Identifiers.{block_ids, derived_ids, function_ids, labels, part_ids, symbol_id}
use Rattle.taken_ids.specs.Named.{named_ids}
use Rattle.taken_ids.proofs.Repeats.{Apart, all_back, all_front, all_join, all_map, apart_across, apart_back, apart_front, apart_join, held_in, none_repeated, or-false, pairs_apart}

no_fault : (o : Option (List ℕ)) → option_map IdTaken o ≡ None → o ≡ None
no_fault None h = refl
no_fault (Some id) h = absurd (cc)

same_blocks : (m : Module) (f : Function) (k : ℕ) (bs : List (List PatchWord)) → block_ids m.uuid f.name k (length bs) ≡ table_block_ids m f k bs
same_blocks m f k [] = refl
same_blocks m f k (b ∷ bs) = ap (λ l. function_block_id m f k ∷ l) (same_blocks m f (suc k) bs)

-- a function's interval and blocks, and the others of its identifiers
abbrev placed : Module → Function → List (List ℕ)
placed m f = derived m.uuid (interval_text f.name) ∷ table_block_ids m f 0 (function_blocks f)

abbrev others : Module → Function → List (List ℕ)
others m f = symbol_id m.uuid f.name ∷ map (symbol_id m.uuid) (labels f) ++ derived m.uuid (function_text f.name) ∷ []

both : (m : Module) (f : Function) → function_ids m.uuid f ≡ placed m f ++ others m f
both m f =
    let symbols = symbol_id m.uuid f.name ∷ map (symbol_id m.uuid) (labels f) in
    let itself : List (List ℕ) = derived m.uuid (function_text f.name) ∷ [] in
    ap (λ (l : List (List ℕ)). ((derived m.uuid (interval_text f.name) ∷ l) ++ symbols) ++ itself) (same_blocks m f 0 (function_blocks f))
    ∙ append_assoc (placed m f) symbols itself

-- what holds of all holds of the intervals and blocks
all_placed : (P : List ℕ → Type 0) (m : Module) (fs : List Function) → AllByRecursion P (flat_map (function_ids m.uuid) fs) → AllByRecursion P (flat_map (placed m) fs)
all_placed P m [] all = tt
all_placed P m (f ∷ fs) all =
    let rest = flat_map (function_ids m.uuid) fs in
    let here = subst (AllByRecursion P) (both m f) (all_front P (function_ids m.uuid f) rest all) in
    all_join P (placed m f) (flat_map (placed m) fs) (all_front P (placed m f) (others m f) here) (all_placed P m fs (all_back P (function_ids m.uuid f) rest all))

apart_placed : (m : Module) (fs : List Function) → Apart (flat_map (function_ids m.uuid) fs) → Apart (flat_map (placed m) fs)
apart_placed m [] apart = tt
apart_placed m (f ∷ fs) apart =
    let rest = flat_map (function_ids m.uuid) fs in
    let here = subst Apart (both m f) (apart_front (function_ids m.uuid f) rest apart) in
    let across = subst (AllByRecursion (λ (x : List ℕ). AllByRecursion (λ y. x ≢ y) rest)) (both m f) (apart_across (function_ids m.uuid f) rest apart) in
    apart_join (placed m f) (flat_map (placed m) fs) (apart_front (placed m f) (others m f) here) (apart_placed m fs (apart_back (function_ids m.uuid f) rest apart))
    (all_map (λ (x : List ℕ). AllByRecursion (λ y. x ≢ y) rest) (λ (x : List ℕ). AllByRecursion (λ y. x ≢ y) (flat_map (placed m) fs)) (placed m f) (λ x k. all_placed (λ y. x ≢ y) m fs k)
    (all_front (λ (x : List ℕ). AllByRecursion (λ y. x ≢ y) rest) (placed m f) (others m f) across))

not_held : (ir : Ir) (m : Module) (id : List ℕ) → list_any (bytes_eq id) (taken_ids ir m) ≡ false → Contains (ids (nodes ir)) id → ⊥
not_held ir m id free held =
    let apart = or-false (list_any (bytes_eq id) (ids (nodes ir))) (list_any (bytes_eq id) (named_ids m)) (sym (list_any-append (bytes_eq id) (ids (nodes ir)) (named_ids m)) ∙ free) in
    let there : list_any (bytes_eq id) (ids (nodes ir)) ≡ true = held_in id (ids (nodes ir)) held in
    absurd (cc (apart.0, there))

pub free_without_fault : (ir : Ir) (m : Module) (p : PatchTable) → id_fault ir m p ≡ None → ids_ok ir m p
free_without_fault ir m p h =
    let taken = taken_ids ir m in
    let parts = flat_map (part_ids m.uuid) (code_blocks (patched_in m p)) in
    let functions = flat_map (function_ids m.uuid) p.functions in
    let none = none_repeated taken (derived_ids m p) (no_fault (repeated taken (derived_ids m p)) h) in
    record {
      distinct = pairs_apart (new_ids m p) (apart_placed m p.functions (apart_back parts functions none.1));
      free =
          all_map (λ (id : List ℕ). list_any (bytes_eq id) taken ≡ false) (λ (id : List ℕ). Contains (ids (nodes ir)) id → ⊥) (new_ids m p) (λ id k. not_held ir m id k)
          (all_placed (λ (id : List ℕ). list_any (bytes_eq id) taken ≡ false) m p.functions (all_back (λ (id : List ℕ). list_any (bytes_eq id) taken ≡ false) parts functions none.0));
    }
