-- Why the identifiers that patches derive aren't free.
use Rattle.std.specs.Prelude.{ℕ, List, ◌++◌, Option}
use Rattle.std.specs.Option.{option_map}
use Rattle.gt_model.specs.declared.ir.Ir.{Ir}
use Rattle.gt_model.specs.declared.modules.Module.{Module}
use Rattle.gt_model.specs.Linked.{repeated}
use Rattle.gt_model.specs.Nodes.{nodes, ids}
use Rattle.sym_expr.specs.declared.patches.PatchTable.{PatchTable}
use Rattle.taken_ids.specs.declared.fault.RewriteFault.{RewriteFault}
use Rattle.taken_ids.specs.declared.fault.RewriteFault.TheVariants.{IdTaken}
use Rattle.taken_ids.specs.Identifiers.{derived_ids}
use Rattle.taken_ids.specs.Named.{named_ids}

-- the identifiers that nodes hold, and those that the module's tables name
abbrev pub taken_ids : Ir → Module → List (List ℕ)
taken_ids ir m = ids (nodes ir) ++ named_ids m

-- the first of these identifiers that is taken or was derived before
abbrev pub first_taken : List (List ℕ) → List (List ℕ) → Option RewriteFault
first_taken taken derived = option_map IdTaken (repeated taken derived)

-- the first derived identifier that a node holds, that a table of the module names, or that was derived before
abbrev pub id_fault : Ir → Module → PatchTable → Option RewriteFault
id_fault ir m p = first_taken (taken_ids ir m) (derived_ids m p)
