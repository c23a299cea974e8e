use Rattle.std.proofs.Common.{◌≡◌, ◌++◌, [], take}
use Rattle.std.specs.Option.{unwrap_or}
use Rattle.std.specs.Str.{bytes_eq}
use Rattle.indexmap.specs.IndexMap.{get}
use Rattle.moved_modules.specs.Moved.{is_patched, moved_block}
use Rattle.moved_modules.proofs.Kept.{made}
use Rattle.sym_expr.specs.Points.{code_of}
use Rattle.moved_modules.proofs.blocks.push_stretch.Given as goal

abbrev pub invariant-loop-piece : goal.invariant-loop-piece
invariant-loop-piece l = l.blocks.items ≡ l.initial.blocks.items ++ made (moved_block l.module (λ id. unwrap_or (get bytes_eq l.targets id) [])) is_patched code_of (take l.piece-index l.piece-items)
