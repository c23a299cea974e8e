-- Every module can take no patches, and the program of a formed module as it stands is well made.
use Rattle.std.proofs.Common.{◌≢◌, ℕ, ◌+◌, ◌^◌, ◌≤◌, ◌<◌, List, [], length, arith}
use Rattle.std.specs.Prelude.{AllPairs}
use Rattle.gt_model.specs.declared.ir.Ir.{Ir}
use Rattle.gt_model.specs.declared.modules.Module.{Module}
use Rattle.sym_expr.specs.Linkable.{formed}
use Rattle.sym_expr.specs.Modules.{loaded_intervals}
use Rattle.sym_expr.specs.Patches.{no_patches}
use Rattle.sym_expr.specs.Program.{program}
use Rattle.sym_expr.specs.TableOk.{ids_ok, table_ok}
use Rattle.sym_expr.specs.Tables.{Tables}
use Rattle.sym_expr.specs.WellMade.{well_made}
use Rattle.sym_expr.proofs.Counts.{apart}
use Rattle.sym_expr.proofs.Made.{made, most_stretches}

none_apart : AllPairs (λ (a later : List ℕ). a ≢ later) []
none_apart = apart [] (λ id. omega arith)

pub none_fit : (m : Module) → table_ok m no_patches
none_fit m = record {
  typed = record { inserts = tt; words = tt; names = tt };
  inserts = tt;
  distinct = none_apart;
  new = tt;
  bodies = tt;
  words = tt;
  few = omega arith;
}

pub none_taken : (ir : Ir) (m : Module) → ids_ok ir m no_patches
none_taken ir m = record { distinct = none_apart; free = tt }

pub plain_made : (ir : Ir) (m : Module) (t : Tables) → formed ir m t → well_made (program m t no_patches)
plain_made ir m t h =
    let most = most_stretches ir m t no_patches h in
    made ir m t no_patches h (few (length (program m t no_patches).stretches) (length (loaded_intervals m)) most h.few) (none_fit m) (none_taken ir m)
  where
    few : (all is : ℕ) → all ≤ is + 0 → is < 2 ^ 40 → all < 2 ^ 40
    few all is a b = omega arith
