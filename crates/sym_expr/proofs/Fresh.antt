-- The identifiers that patches bring are those of no node.
use Rattle.std.proofs.Common.{◌≡◌, ℕ, suc, ◌+◌, ◌≤◌, ◌⊎◌, inl, inr, Bool, true, false, List, [], ◌∷◌, refl, sym, ap, subst, arith}
use Rattle.std.specs.Prelude.{Contains}
use Rattle.std.specs.List.{AllByRecursion as Every, flat_map}
use Rattle.std.specs.Str.{bytes_eq}
use Rattle.gt_model.specs.declared.ir.Ir.{Ir}
use Rattle.gt_model.specs.declared.modules.Module.{Module}
use Rattle.gt_model.specs.Nodes.{ids, nodes}
use Rattle.sym_expr.specs.declared.patches.Function.{Function}
use Rattle.sym_expr.specs.declared.patches.PatchTable.{PatchTable}
use Rattle.sym_expr.specs.declared.program.Stretch.{Stretch}
use Rattle.sym_expr.specs.Derived.{derived, interval_text}
use Rattle.sym_expr.specs.Patches.{function_blocks}
use Rattle.sym_expr.specs.Program.{function_stretch}
use Rattle.sym_expr.specs.TableOk.{block_ids, ids_ok, new_ids}
use Rattle.sym_expr.specs.WellMade.{block_id}
use Rattle.sym_expr.proofs.Counts.{one, once, same_id, times, times_flat}
use Rattle.sym_expr.proofs.Functions.{ids_of}
use Rattle.sym_expr.proofs.Holders.{held}
use Rattle.sym_expr.proofs.Lists.{every_all, flat_of_map}
use Rattle.sym_expr.proofs.Sections.{brought}

-- what stands nowhere in a list
absent : (id : List ℕ) (xs : List (List ℕ)) → (Contains xs id → ⊥) → times id xs ≡ 0
absent id [] h = refl
absent id (x ∷ xs) h = at (bytes_eq id x) refl (absent id xs (λ c. h (suc c.0, (let within = c.1 in omega (arith, within)), c.2)))
  where
    at : (b : Bool) → bytes_eq id x ≡ b → times id xs ≡ 0 → one b + times id xs ≡ 0
    at true is rest = absurd (h (0, omega arith, sym (same_id id x is)))
    at false is rest = omega (arith, rest)

either_absent : (id : List ℕ) (all xs : List (List ℕ)) → Every (λ x. Contains all x → ⊥) xs → (times id xs ≡ 0) ⊎ (times id all ≡ 0)
either_absent id all [] h = inl refl
either_absent id all (x ∷ xs) h = at (bytes_eq id x) refl (either_absent id all xs h.1)
  where
    at : (b : Bool) → bytes_eq id x ≡ b → (times id xs ≡ 0) ⊎ (times id all ≡ 0) → (one b + times id xs ≡ 0) ⊎ (times id all ≡ 0)
    at true is o = let P : List ℕ → Type 0 = λ z. times z all ≡ 0 in inr (subst P (sym (same_id id x is)) (absent x all h.0))
    at false is (inl e) = inl (omega (arith, e))
    at false is (inr e) = inr e

-- an identifier isn't both new and a node's
pub new_or_held : (ir : Ir) (m : Module) (p : PatchTable) → ids_ok ir m p → (id : List ℕ) → (times id (new_ids m p) ≡ 0) ⊎ (held id (nodes ir) ≡ 0)
new_or_held ir m p h id = either_absent id (ids (nodes ir)) (new_ids m p) h.free

pub new_once : (ir : Ir) (m : Module) (p : PatchTable) → ids_ok ir m p → (id : List ℕ) → times id (new_ids m p) ≤ 1
new_once ir m p h id = once (new_ids m p) h.distinct id

-- what the new ones have of an identifier, and the old ones
pub both_once : (ir : Ir) (m : Module) (p : PatchTable) → ids_ok ir m p → (id : List ℕ) (old new : ℕ) → old ≤ held id (nodes ir) → old ≤ 1 → new ≤ times id (new_ids m p) → old + new ≤ 1
both_once ir m p h id old new a b c = at (new_or_held ir m p h id)
  where
    at : (times id (new_ids m p) ≡ 0) ⊎ (held id (nodes ir) ≡ 0) → old + new ≤ 1
    at (inl e) = omega (arith, a, b, c, e)
    at (inr e) = let most = new_once ir m p h id in omega (arith, a, b, c, e, most)

-- ---- those of functions

abbrev pub stretch_id : Stretch → List (List ℕ)
stretch_id s = s.id ∷ []

abbrev pub piece_ids : Stretch → List (List ℕ)
piece_ids s = flat_map block_id s.pieces

pub intervals_new : (m : Module) (p : PatchTable) (id : List ℕ) → times id (flat_map stretch_id (brought m p)) ≤ times id (new_ids m p)
intervals_new m p id =
    let same = ap (times id) (flat_of_map (function_stretch m p) stretch_id p.functions) in
    let each = times_flat id (λ (f : Function). derived m.uuid (interval_text f.name) ∷ []) (λ (f : Function). derived m.uuid (interval_text f.name) ∷ block_ids m f 0 (function_blocks f)) p.functions
    (every_all (λ (f : Function). times id (derived m.uuid (interval_text f.name) ∷ []) ≤ times id (derived m.uuid (interval_text f.name) ∷ block_ids m f 0 (function_blocks f))) (λ f. omega arith) p.functions) in
    omega (arith, same, each)

pub blocks_new : (m : Module) (p : PatchTable) (id : List ℕ) → times id (flat_map piece_ids (brought m p)) ≤ times id (new_ids m p)
blocks_new m p id =
    let same = ap (times id) (flat_of_map (function_stretch m p) piece_ids p.functions) in
    let each = times_flat id (λ (f : Function). piece_ids (function_stretch m p f)) (λ (f : Function). derived m.uuid (interval_text f.name) ∷ block_ids m f 0 (function_blocks f)) p.functions
    (every_all (λ (f : Function). times id (piece_ids (function_stretch m p f)) ≤ times id (derived m.uuid (interval_text f.name) ∷ block_ids m f 0 (function_blocks f)))
    (λ f. let e = ap (times id) (ids_of m p f 0 0 (function_blocks f)) in omega (arith, e)) p.functions) in
    omega (arith, same, each)
