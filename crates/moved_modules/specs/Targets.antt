-- What the operands of inserted words name.
use Rattle.std.specs.Prelude.{ℕ, List, map, Option, slice_get}
use Rattle.std.specs.Option.{option_and_then}
use Rattle.block_parts.specs.declared.words.Origin.{Origin}
use Rattle.block_parts.specs.declared.words.Origin.TheVariants.{Own, Inserted}
use Rattle.moved_modules.specs.declared.moved.WordFrom.{WordFrom}
use Rattle.moved_modules.specs.declared.moved.WordFrom.TheVariants.{Old, Insert}
use Rattle.module_program.specs.Inserting.{inserted_among}
use Rattle.rewrite.specs.Exprs.{news_of}
use Rattle.sym_expr.specs.declared.patches.Insert.{Insert as PatchInsert}
use Rattle.sym_expr.specs.declared.patches.PatchTable.{PatchTable}
use Rattle.sym_expr.specs.declared.patches.PatchTarget.{PatchTarget}
use Rattle.sym_expr.specs.declared.patches.PatchWord.{PatchWord}

-- of the words that some inserts put into a block
abbrev pub targets_among : List PatchInsert → List ℕ → List (Option PatchTarget)
targets_among inserts block = map (λ (w : ℕ × PatchWord). w.1.target) (inserted_among inserts block)

-- of the words that the patches insert in a block
abbrev pub targets_in : PatchTable → List ℕ → List (Option PatchTarget)
targets_in p block = map (λ (w : PatchWord). w.target) (news_of p block)

-- where a word comes from, of a block in which words with these targets are inserted
abbrev pub word_from : List (Option PatchTarget) → Origin → WordFrom
word_from targets (Own offset) = Old offset
word_from targets (Inserted k) = Insert (option_and_then (λ (t : Option PatchTarget). t) (slice_get targets k))
