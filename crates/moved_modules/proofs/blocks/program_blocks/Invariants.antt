use Rattle.std.proofs.Common.{◌≡◌, [], take}
use Rattle.std.specs.List.{flat_map}
use Rattle.std.specs.Option.{unwrap_or}
use Rattle.std.specs.Str.{bytes_eq}
use Rattle.indexmap.specs.IndexMap.{get}
use Rattle.moved_modules.specs.Moved.{is_patched, moved_block}
use Rattle.moved_modules.proofs.Kept.{made}
use Rattle.sym_expr.specs.declared.program.Stretch.{Stretch}
use Rattle.sym_expr.specs.Points.{code_of}
use Rattle.moved_modules.proofs.blocks.program_blocks.Given as goal

abbrev pub invariant-loop-stretch : goal.invariant-loop-stretch
invariant-loop-stretch l = l.blocks.items ≡ made (moved_block l.module (λ id. unwrap_or (get bytes_eq l.targets id) [])) is_patched code_of (flat_map (λ (s : Stretch). s.pieces) (take l.stretch-index l.stretch-items))
