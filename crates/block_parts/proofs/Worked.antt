-- Parts of small blocks: evaluated, and cited by nothing.
use Rattle.std.proofs.Common.{refl, ◌≡◌}
use Rattle.std.specs.Prelude.{ℕ, List, [], ◌∷◌, None, map, replicate}
use Rattle.a64_inst.specs.Rows.{table}
use Rattle.block_parts.specs.declared.parts.Part.{Part}
use Rattle.block_parts.specs.declared.words.Origin.{Origin}
use Rattle.block_parts.specs.declared.words.Origin.TheVariants.{Own, Inserted}
use Rattle.block_parts.specs.declared.words.PatchedWord.{PatchedWord}
use Rattle.block_parts.specs.Parts.{parts}
use Rattle.sym_expr.specs.declared.program.CodeBlock.{CodeBlock}
use Rattle.sym_expr.specs.declared.program.Word.{Word}

abbrev word : ℕ → Word
word n = record { word = n; target = None }

abbrev block : List ℕ → List (ℕ × ℕ) → CodeBlock
block own inserted = record { id = replicate 16 5; offset = 0; own = map word own; inserted = map (λ (w : ℕ × ℕ). (w.0, word w.1)) inserted }

-- the start of each part, and where its words come from
abbrev seen : CodeBlock → List (ℕ × List Origin)
seen b = map (λ (q : Part). (q.start, map (λ (w : PatchedWord). w.origin) q.words)) (parts b)

-- a call, and a word inserted behind it
behind_call : seen (block (0x94000000 ∷ []) ((4, 0x91000800) ∷ [])) ≡ (0, Own 0 ∷ []) ∷ (4, Inserted 0 ∷ []) ∷ []
unfolding table
behind_call = refl

-- a call inserted before two words
before_words : seen (block (0xd2800ba8 ∷ 0xd4000001 ∷ []) ((0, 0x94000000) ∷ [])) ≡ (0, Inserted 0 ∷ []) ∷ (4, Own 0 ∷ Own 4 ∷ []) ∷ []
unfolding table
before_words = refl

-- words that aren't control words cut nothing
no_control : seen (block (0xd1000529 ∷ 0xb5ffffe9 ∷ []) ((0, 0x91000400) ∷ [])) ≡ (0, Inserted 0 ∷ Own 0 ∷ Own 4 ∷ []) ∷ []
unfolding table
no_control = refl

-- a control word of the block's own that no inserted word follows stays inside its part
own_control : seen (block (0xb4000020 ∷ 0xd503201f ∷ []) ((4, 0xd503201f) ∷ (8, 0xd65f03c0) ∷ [])) ≡ (0, Own 0 ∷ []) ∷ (4, Inserted 0 ∷ Own 4 ∷ Inserted 1 ∷ []) ∷ []
unfolding table
own_control = refl

-- several at one offset in the order of the patches
in_order : seen (block (0xd503201f ∷ []) ((4, 1) ∷ (0, 2) ∷ (4, 3) ∷ [])) ≡ (0, Inserted 1 ∷ Own 0 ∷ Inserted 0 ∷ Inserted 2 ∷ []) ∷ []
unfolding table
in_order = refl

-- a block without words is one part, and what is inserted in it makes its words
without_words : seen (block [] []) ≡ (0, []) ∷ []
without_words = refl

filled_by_patches : seen (block [] ((0, 0xd65f03c0) ∷ (0, 0xd503201f) ∷ [])) ≡ (0, Inserted 0 ∷ []) ∷ (4, Inserted 1 ∷ []) ∷ []
unfolding table
filled_by_patches = refl
