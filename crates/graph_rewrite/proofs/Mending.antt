-- A rewritten IR with its edges and tables mended is the repaired one.
use Rattle.std.proofs.Common.{◌≡◌, ℕ, zero, suc, List, [], ◌∷◌, map, Some, refl, sym, ap, ◌∙◌}
use Rattle.std.specs.Prelude.{slice_get, slice_set, if◌then◌else◌}
use Rattle.std.specs.Str.{bytes_eq}
use Rattle.std.proofs.lemmas.Option.{same_Some}
use Rattle.aux_tables.specs.ModuleTables.{tables_of}
use Rattle.edge_repair.specs.Edges.{repaired_cfg}
use Rattle.edge_repair.specs.Repaired.{repaired, repaired_module}
use Rattle.graph_rewrite.specs.declared.moved.Moved.{Moved}
use Rattle.graph_rewrite.specs.Applied.{IsApplied}
use Rattle.graph_rewrite.specs.Moved.{mended, moved_of}
use Rattle.gt_model.specs.declared.ir.Ir.{Ir}
use Rattle.gt_model.specs.declared.modules.Module.{Module}
use Rattle.node_arena.specs.Arenas.{Arenas}
use Rattle.node_arena.specs.declared.ids.ModuleId.{ModuleId}
use Rattle.node_arena.specs.Plain.{ir_of}
use Rattle.rewrite.specs.Rewritten.{rewritten, rewritten_module}
use Rattle.sym_expr.specs.declared.patches.PatchTable.{PatchTable}

set_there : (ms : List Module) (k : ℕ) (m new : Module) → slice_get ms k ≡ Some m → slice_get (slice_set ms k new) k ≡ Some new
set_there [] k m new at = absurd (cc)
set_there (x ∷ xs) zero m new at = refl
set_there (x ∷ xs) (suc k) m new at = set_there xs k m new at

set_twice : (ms : List Module) (k : ℕ) (a b : Module) → slice_set (slice_set ms k a) k b ≡ slice_set ms k b
set_twice [] k a b = refl
set_twice (x ∷ xs) zero a b = refl
set_twice (x ∷ xs) (suc k) a b = ap (λ (l : List Module). x ∷ l) (set_twice xs k a b)

-- each module of an identifier changed
abbrev changed : (Module → Module) → List ℕ → List Module → List Module
changed f id ms = map (λ (x : Module). if bytes_eq x.uuid id then f x else x) ms

module _ (ir : Ir) (k : ℕ) (m : Module) (p : PatchTable) (at : slice_get ir.modules k ≡ Some m) (set : (f : Module → Module) → slice_set ir.modules k (f m) ≡ changed f m.uuid ir.modules) where
  rewriting : slice_set ir.modules k (rewritten_module m (tables_of m) p) ≡ (rewritten ir m.uuid (tables_of m) p).modules
  rewriting = set (λ (x : Module). rewritten_module x (tables_of m) p)

  there : slice_get (rewritten ir m.uuid (tables_of m) p).modules k ≡ Some (rewritten_module m (tables_of m) p)
  there = ap (λ (ms : List Module). slice_get ms k) (sym rewriting) ∙ set_there ir.modules k m (rewritten_module m (tables_of m) p) at

  modules : slice_set (rewritten ir m.uuid (tables_of m) p).modules k (repaired_module m (tables_of m) p) ≡ (repaired ir m (tables_of m) p).modules
  modules =
      ap (λ (ms : List Module). slice_set ms k (repaired_module m (tables_of m) p)) (sym rewriting)
      ∙ set_twice ir.modules k (rewritten_module m (tables_of m) p) (repaired_module m (tables_of m) p)
      ∙ set (λ (x : Module). repaired_module x (tables_of m) p)

  is_repaired : (now : Ir) (n : Module) (moved : Moved) → now ≡ rewritten ir m.uuid (tables_of m) p → slice_get now.modules k ≡ Some n → moved ≡ moved_of ir m p
      → mended now k n moved ≡ repaired ir m (tables_of m) p
  is_repaired now n moved graph found moves =
      let is_new : n ≡ rewritten_module m (tables_of m) p = same_Some n (rewritten_module m (tables_of m) p) (sym found ∙ ap (λ (x : Ir). slice_get x.modules k) graph ∙ there) in
      ap (λ (x : Moved). mended now k n x) moves
      ∙ ap (λ (x : Ir). mended x k n (moved_of ir m p)) graph
      ∙ ap (λ (x : Module). mended (rewritten ir m.uuid (tables_of m) p) k x (moved_of ir m p)) is_new
      ∙ ap (λ (ms : List Module). record ir { modules = ms; cfg = repaired_cfg m (tables_of m) p ir.cfg }) modules

-- the graph's own IR, once its module was rewritten
pub mended_is_repaired : (g : Arenas) (id : ModuleId) (moved : Moved) (ir : Ir) (m n : Module) (p : PatchTable) → IsApplied g id moved ir m p
    → ((f : Module → Module) → slice_set ir.modules id.index (f m) ≡ changed f m.uuid ir.modules) → slice_get (ir_of g).modules id.index ≡ Some n
    → mended (ir_of g) id.index n moved ≡ repaired ir m (tables_of m) p
mended_is_repaired g id moved ir m n p applied set found = is_repaired ir id.index m p applied.place set (ir_of g) n moved applied.graph found applied.moves
