use Rattle.std.proofs.Common.{◌≡◌, ℕ, [], take, nat_eq}
use Rattle.std.specs.Option.{unwrap_or}
use Rattle.indexmap.specs.IndexMap.{get}
use Rattle.sym_expr.specs.Patches.{inserted_at}
use Rattle.link_image.proofs.words.words_by_offset.Given as goal

abbrev pub invariant-loop-offset : goal.invariant-loop-offset
invariant-loop-offset l = (offset : ℕ) → unwrap_or (get nat_eq l.map offset) [] ≡ inserted_at offset (take l.offset-index l.inserted)
