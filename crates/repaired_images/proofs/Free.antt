-- Identifiers that patches derive are apart, and no node of the IR has one.
use Rattle.std.proofs.Common.{◌≡◌, ℕ, inr, List, ◌++◌, map, Option, Some, None, refl, sym, subst}
use Rattle.std.specs.Prelude.{Contains}
use Rattle.std.specs.List.{flat_map}
use Rattle.std.specs.Option.{option_map}
use Rattle.std.proofs.lemmas.Option.{none-some}
use Rattle.aux_tables.specs.ModuleTables.{tables_of}
use Rattle.gt_model.specs.declared.intervals.Interval.{Interval}
use Rattle.gt_model.specs.declared.ir.Ir.{Ir}
use Rattle.gt_model.specs.declared.modules.Module.{Module}
use Rattle.gt_model.specs.declared.symbols.Symbol.{Symbol}
use Rattle.gt_model.specs.Linked.{repeated}
use Rattle.gt_model.specs.Nodes.{ids, nodes}
use Rattle.sym_expr.specs.declared.patches.PatchTable.{PatchTable}
use Rattle.sym_expr.specs.declared.program.CodeBlock.{CodeBlock}
use Rattle.sym_expr.specs.Modules.{loaded_intervals}
use Rattle.sym_expr.specs.Points.{code_blocks}
use Rattle.sym_expr.specs.Program.{program}
use Rattle.taken_ids.specs.declared.fault.RewriteFault.TheVariants.{IdTaken}
use Rattle.taken_ids.specs.Faults.{id_fault, taken_ids}
use Rattle.taken_ids.specs.Identifiers.{derived_ids, function_ids, part_ids}
use Rattle.taken_ids.specs.Named.{named_ids}
use Rattle.taken_ids.specs.NodeIds.{interval_ids, module_ids, section_ids, symbol_id}
use Rattle.repaired_images.proofs.Apart.{Apart, none_repeated}
use Rattle.repaired_images.proofs.Blocks.{in_section, loaded_inside}
use Rattle.repaired_images.proofs.Lists.{In, in_back, in_contained, in_flat, in_front, in_map}
use Rattle.repaired_images.proofs.NodeLists.{of_ir}

-- what the patches derive, no node has
pub record IsFree (ir : Ir) (m : Module) (p : PatchTable) : Type 0 where
  pub apart : Apart (derived_ids m p)
  pub unheld : (z : List ℕ) → In z (derived_ids m p) → In z (ids (nodes ir)) → ⊥

no_fault : (o : Option (List ℕ)) → option_map IdTaken o ≡ None → o ≡ None
no_fault None h = refl
no_fault (Some id) h = absurd (none-some (IdTaken id) (sym h))

pub free_of : (ir : Ir) (m : Module) (p : PatchTable) → id_fault ir m p ≡ None → IsFree ir m p
free_of ir m p h =
    let none = none_repeated (taken_ids ir m) (derived_ids m p) (no_fault (repeated (taken_ids ir m) (derived_ids m p)) h) in
    record { apart = none.0; unheld = λ z k l. none.1 z k (in_front z (ids (nodes ir)) (named_ids m) l) }

pub part_derived : (m : Module) (p : PatchTable) (b : CodeBlock) (z : List ℕ) → In b (code_blocks (program m (tables_of m) p)) → In z (part_ids m.uuid b) → In z (derived_ids m p)
part_derived m p b z h k =
    in_front z (flat_map (part_ids m.uuid) (code_blocks (program m (tables_of m) p))) (flat_map (function_ids m.uuid) p.functions)
    (in_flat (part_ids m.uuid) b z (code_blocks (program m (tables_of m) p)) h k)

pub function_derived : (m : Module) (p : PatchTable) (z : List ℕ) → In z (flat_map (function_ids m.uuid) p.functions) → In z (derived_ids m p)
function_derived m p z k = in_back z (flat_map (part_ids m.uuid) (code_blocks (program m (tables_of m) p))) (flat_map (function_ids m.uuid) p.functions) k

-- ---- identifiers of nodes

module_held : (ir : Ir) (m : Module) (z : List ℕ) → Contains ir.modules m → In z (module_ids m) → In z (ids (nodes ir))
module_held ir m z h k = subst (In z) (sym (of_ir ir)) (inr (in_flat module_ids m z ir.modules (in_contained m ir.modules h) k))

pub interval_held : (ir : Ir) (m : Module) (i : Interval) (z : List ℕ) → Contains ir.modules m → In i (loaded_intervals m) → In z (interval_ids i) → In z (ids (nodes ir))
interval_held ir m i z h k l =
    let inside = loaded_inside m i k in
    let there : In z (flat_map section_ids m.sections) = in_flat section_ids inside.section z m.sections inside.outer (in_section z i inside.section inside.inner l) in
    module_held ir m z h (inr (in_back z (m.proxies ++ map symbol_id m.symbols) (flat_map section_ids m.sections) there))

pub symbol_held : (ir : Ir) (m : Module) (s : Symbol) → Contains ir.modules m → In s m.symbols → In s.uuid (ids (nodes ir))
symbol_held ir m s h k =
    let there : In s.uuid (m.proxies ++ map symbol_id m.symbols) = in_back s.uuid m.proxies (map symbol_id m.symbols) (in_map symbol_id s m.symbols k) in
    module_held ir m s.uuid h (inr (in_front s.uuid (m.proxies ++ map symbol_id m.symbols) (flat_map section_ids m.sections) there))
