-- The parts of a block end no later than its words.
use Rattle.std.proofs.Common.{◌≡◌, ℕ, ◌+◌, ◌*◌, ◌<◌, ◌^◌, List, [], ◌∷◌, length, ap, arith}
use Rattle.std.specs.List.{AllByRecursion, flat_map}
use Rattle.std.proofs.lemmas.List.{length-append}
use Rattle.block_parts.specs.declared.parts.Part.{Part}
use Rattle.block_parts.specs.declared.words.PatchedWord.{PatchedWord}
use Rattle.block_parts.specs.Parts.{cut_words, parts, parts_from}
use Rattle.block_parts.specs.Words.{patched_words}
use Rattle.new_intervals.specs.Blocks.{EndsAt}
use Rattle.sym_expr.specs.declared.program.CodeBlock.{CodeBlock}

abbrev words_of : Part → List PatchedWord
words_of q = q.words

pub ends : (at start : ℕ) (cuts : List (List PatchedWord)) → at + start + 4 * length (flat_map words_of (parts_from start cuts)) < 2 ^ 63 → AllByRecursion (EndsAt at) (parts_from start cuts)
ends at start [] lt = tt
ends at start (words ∷ rest) lt =
    let next : ℕ = start + 4 * length words in
    let behind : List PatchedWord = flat_map words_of (parts_from next rest) in
    let parts = length-append words behind in
    (omega (arith, parts), ends at next rest (omega (arith, parts)))

pub parts_end : (at : ℕ) (b : CodeBlock) → flat_map words_of (parts b) ≡ patched_words b → at + 4 * length (patched_words b) < 2 ^ 63 → AllByRecursion (EndsAt at) (parts b)
parts_end at b all lt =
    let same = ap (λ (ws : List PatchedWord). length ws) all in
    ends at 0 (cut_words (patched_words b)) (omega (arith, same))
