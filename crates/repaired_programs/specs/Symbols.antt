-- Symbols that a program can look up.
use Rattle.std.specs.Prelude.{IsSome}
use Rattle.gt_model.specs.declared.modules.Module.{Module}
use Rattle.gt_model.specs.declared.symbols.Payload.{Payload}
use Rattle.gt_model.specs.declared.symbols.Payload.TheVariants as payloads
use Rattle.sym_expr.specs.Modules.{block_of, blocks_of, loaded_intervals}

-- it stands for no block, or for a block of a loaded section
abbrev pub IsLoadedPayload : Module → Payload → Type 0
IsLoadedPayload m payloads.Nothing = Unit {0}
IsLoadedPayload m (payloads.Value value) = Unit {0}
IsLoadedPayload m (payloads.Referent id) = IsSome (block_of id (blocks_of (loaded_intervals m)))
