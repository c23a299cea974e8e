-- How many words a block has.
use Rattle.std.proofs.Common.{◌≡◌, ◌+◌, length, sym, ap, ◌∙◌}
use Rattle.std.proofs.lemmas.List.{length-map}
use Rattle.block_parts.specs.declared.words.PatchedWord.{PatchedWord}
use Rattle.block_parts.specs.Words.{patched_words}
use Rattle.rewrite.proofs.Below.{length-all_words}
use Rattle.block_parts.proofs.Same.{same}
use Rattle.sym_expr.specs.declared.program.CodeBlock.{CodeBlock}
use Rattle.sym_expr.specs.declared.program.Program.{Program}
use Rattle.sym_expr.specs.declared.program.Word.{Word}
use Rattle.sym_expr.specs.Images.{all_words}
use Rattle.sym_expr.specs.WellMade.{IsCode}

pub counted : (g : Program) (b : CodeBlock) → IsCode g b → length (patched_words b) ≡ length b.own + length b.inserted
counted g b is =
    sym (length-map (patched_words b) (λ (w : PatchedWord). w.word))
    ∙ ap length (same b)
    ∙ length-map (all_words b) (λ (w : Word). w.word)
    ∙ length-all_words g b is
