use Rattle.std.proofs.Common.{◌++◌, ap, ◌∙◌}
use Rattle.std.specs.List.{flat_map}
use Rattle.block_parts.specs.declared.words.PatchedWord.{PatchedWord}
use Rattle.block_parts.specs.Words.{patched_words}
use Rattle.new_intervals.proofs.Bytes.{same_bytes}
use Rattle.sym_expr.specs.Images.{all_words, bytes_of}
use Rattle.new_intervals.proofs.contents.push_code.Goals as goal

pub returns : goal.returns
returns c =
    let b = c.args.block.now in
    let old = c.args.out.now.items in
    c.in_ok-push_words.ensures
    ∙ ap (λ ws. old ++ flat_map (λ (w : PatchedWord). bytes_of 4 w.word) ws) (c.as_slice.ensures.value ∙ c.in_ok-words.ensures)
    ∙ ap (λ l. old ++ l) (same_bytes (patched_words b) (all_words b) (c.words_are_of_images.ensures b))
