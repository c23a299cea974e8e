use Rattle.std.proofs.Common.{◌≡◌, ℕ, [], take, nat_eq}
use Rattle.std.specs.Option.{unwrap_or}
use Rattle.indexmap.specs.IndexMap.{get}
use Rattle.sym_expr.specs.Patches.{inserted_at}
use Rattle.block_parts.specs.Words.{numbered}
use Rattle.taken_ids.proofs.words.words_by_offset.Given as goal

abbrev pub invariant-loop-offset : goal.invariant-loop-offset
invariant-loop-offset l = record {
  number : l.k ≡ l.offset-index;
  known : (at : ℕ) → unwrap_or (get nat_eq l.map at) [] ≡ inserted_at at (numbered 0 (take l.offset-index l.words));
}
