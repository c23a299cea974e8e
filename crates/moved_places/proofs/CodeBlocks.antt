-- What is kept of a code block says where its offsets go.
use Rattle.std.proofs.Common.{◌≡◌, ℕ, ◌+◌, ◌-◌, ◌*◌, ◌/◌, ◌%◌, cond, eqb, Some, List, [], ◌∷◌, ◌++◌, length, map, append-nil, refl, sym, ap, ◌∙◌, arith}
use Rattle.std.specs.Prelude.{slice_get}
use Rattle.std.specs.List.{flat_map}
use Rattle.std.specs.Option.{option_map}
use Rattle.std.proofs.Math.Path.{fun_ext}
use Rattle.aux_codec.specs.declared.value.Place.{Place}
use Rattle.block_parts.specs.declared.parts.Part.{Part}
use Rattle.block_parts.specs.declared.words.PatchedWord.{PatchedWord}
use Rattle.block_parts.specs.Parts.{parts}
use Rattle.block_parts.specs.Words.{patched_words}
use Rattle.gt_model.specs.declared.modules.Module.{Module}
use Rattle.moved_places.specs.declared.kept.BlockMoves.{BlockMoves}
use Rattle.moved_places.specs.Blocks.{further, own_places, part_places, place_kept}
use Rattle.moved_places.proofs.OwnWords.{all_entries, all_keys, all_places, among, as_many, by_number, entry_place, look, multiples, offsets_of, own_offsets}
use Rattle.rewrite.specs.Blocks.{part_size}
use Rattle.rewrite.specs.Identifiers.{last_part, part_id}
use Rattle.rewrite.specs.Places.{code_place, end_place, place_among}
use Rattle.sym_expr.specs.declared.program.CodeBlock.{CodeBlock}

-- its words and its end are kept
pub record HasMoves (m : Module) (b : CodeBlock) (made : BlockMoves) : Type 0 where
  pub words : made.words ≡ flat_map (part_places m b.id) (parts b)
  pub end : made.end ≡ end_place m b

module _ (m : Module) (b : CodeBlock) (made : BlockMoves) (whole : flat_map (λ (q : Part). q.words) (parts b) ≡ patched_words b) (h : HasMoves m b made) where
  words_same : made.words ≡ map entry_place (all_entries m b.id (parts b))
  words_same = h.words ∙ sym (all_places m b.id (parts b))

  offsets_same : map (λ (e : ℕ × Place). e.0) (all_entries m b.id (parts b)) ≡ multiples 0 (length b.own)
  offsets_same = all_keys m b.id (parts b) ∙ ap own_offsets whole ∙ offsets_of b

  count_same : length made.words ≡ length b.own
  count_same = ap length words_same ∙ as_many (all_entries m b.id (parts b)) (length b.own) offsets_same

  word_same : (offset : ℕ) → option_map (further (offset % 4)) (slice_get made.words (offset / 4)) ≡ place_among m b.id (offset - offset % 4) (offset % 4) (parts b)
  word_same offset =
      let es = all_entries m b.id (parts b) in
      let start : 0 + 4 * (offset / 4) ≡ offset - offset % 4 = omega arith in
      ap (λ l. option_map (further (offset % 4)) (slice_get l (offset / 4))) words_same
      ∙ sym (ap (option_map (further (offset % 4))) (by_number es 0 (length b.own) (offset / 4) offsets_same))
      ∙ ap (λ k. option_map (further (offset % 4)) (look k es)) start
      ∙ sym (among m b.id (offset - offset % 4) (offset % 4) (parts b))

  place_same : (offset : ℕ) → place_kept made offset ≡ code_place m b offset
  place_same offset =
      ap (λ n. cond (eqb offset (4 * n)) (Some made.end) (option_map (further (offset % 4)) (slice_get made.words (offset / 4)))) count_same
      ∙ ap (λ (p : Place). cond (eqb offset (4 * length b.own)) (Some p) (option_map (further (offset % 4)) (slice_get made.words (offset / 4)))) h.end
      ∙ ap (cond (eqb offset (4 * length b.own)) (Some (end_place m b))) (word_same offset)

  pub moves_same : place_kept made ≡ code_place m b
  moves_same = fun_ext place_same

-- ---- loops

pub last_is : (qs : List Part) (q : Part) → last_part (qs ++ q ∷ []) ≡ q
last_is [] q = refl
last_is (p ∷ []) q = refl
last_is (p ∷ next ∷ rest) q = last_is (next ∷ rest) q

-- a place by its parts
abbrev pub place_of : List ℕ → ℕ → Place
place_of id n = record { id = id; offset = n }

-- the end of the last of several parts
abbrev pub end_of : Module → List ℕ → List Part → Place
end_of m block qs = place_of (part_id m block (last_part qs)) (part_size (last_part qs))

-- a word before others
pub own_first : (id : List ℕ) (depth : ℕ) (w : PatchedWord) (ws : List PatchedWord) → own_places id depth (w ∷ ws) ≡ own_places id depth (w ∷ []) ++ own_places id (depth + 4) ws
own_first id depth w ws = simp append-nil
