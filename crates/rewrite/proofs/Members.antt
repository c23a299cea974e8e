-- The rewritten module is in the rewritten IR.
use Rattle.std.proofs.Common.{List, map, ap, subst, ◌∙◌, arith}
use Rattle.std.specs.Prelude.{Contains, if◌then◌else◌}
use Rattle.std.specs.Str.{bytes_eq}
use Rattle.std.proofs.lemmas.List.{get_or-map, length-map}
use Rattle.gt_model.specs.declared.ir.Ir.{Ir}
use Rattle.gt_model.specs.declared.modules.Module.{Module}
use Rattle.rewrite.specs.Rewritten.{rewritten, rewritten_module}
use Rattle.sym_expr.specs.declared.patches.PatchTable.{PatchTable}
use Rattle.sym_expr.specs.Tables.{Tables}
use Rattle.sym_expr.proofs.Counts.{id_same}

contains_map : {X Y : Type 0} (f : X → Y) (xs : List X) (x : X) → Contains xs x → Contains (map f xs) (f x)
contains_map f xs x h = (h.0, omega (arith, h.1, length-map xs f), get_or-map f xs h.0 x (f x) h.1 ∙ ap f h.2)

pub member : (ir : Ir) (m : Module) (t : Tables) (p : PatchTable) → Contains ir.modules m → Contains (rewritten ir m.uuid t p).modules (rewritten_module m t p)
member ir m t p h =
    subst (Contains (rewritten ir m.uuid t p).modules)
    (ap (λ x. if x then rewritten_module m t p else m) (id_same m.uuid))
    (contains_map (λ (n : Module). if bytes_eq n.uuid m.uuid then rewritten_module n t p else n) ir.modules m h)
