use Rattle.std.proofs.Common.{◌≡◌, ℕ, ◌*◌, ◌<◌, ◌^◌, List, [], ◌∷◌, ◌++◌, length, take, ap, sym, ◌∙◌, append-nil}
use Rattle.std.specs.Prelude.{slice_get}
use Rattle.std.specs.List.{flat_map}
use Rattle.std.proofs.lemmas.List.{take_all}
use Rattle.std.proofs.lemmas.List.Concat.{flat_map-append}
use Rattle.aux_codec.specs.declared.value.Place.{Place}
use Rattle.block_parts.specs.declared.parts.Part.{Part}
use Rattle.block_parts.specs.declared.words.PatchedWord.{PatchedWord}
use Rattle.block_parts.specs.Parts.{parts}
use Rattle.moved_places.specs.Blocks.{own_places, part_places}
use Rattle.moved_places.proofs.CodeBlocks.{end_of, last_is, moves_same, place_of}
use Rattle.moved_places.proofs.Lists.{all_at, taken}
use Rattle.rewrite.specs.Blocks.{part_size}
use Rattle.rewrite.specs.Identifiers.{last_part, part_id}
use Rattle.moved_places.proofs.blocks.block_moves.Goals as goal

pub loop-part-preserved : goal.loop-part-preserved
loop-part-preserved c =
    let m = c.args.module.now in
    let b = c.args.block.now in
    let items = c.as_slice-part-items.result.now in
    let i = c.loop-part.part-index in
    let x : Part = c.part-item.result in
    let f : Part → List Place = part_places m b.id in
    let flat = flat_map f (take i items) in
    let size : ℕ = c.in_ok-offset.offset in
    let more = taken items i x c.loop-part-test.true c.part-item.is in
    record {
      words =
          c.in_ok-offset.ensures.places
          ∙ ap (λ (l : List Place). l ++ own_places c.in_ok-id.id 0 c.as_slice.result.now) c.loop-part.invariant.words
          ∙ ap (λ (ws : List PatchedWord). flat ++ own_places c.in_ok-id.id 0 ws) c.as_slice.ensures
          ∙ ap (λ (k : List ℕ). flat ++ own_places k 0 x.words) c.in_ok-id.ensures
          ∙ sym (ap (flat_map f) more ∙ flat_map-append f (take i items) (x ∷ []) ∙ ap (λ l. flat ++ l) (append-nil (f x)));
      near = c.in_ok-offset.ensures.near c.loop-part.invariant.near;
      end =
          ap (λ (k : List ℕ). place_of k size) c.in_ok-id.ensures
          ∙ ap (place_of (part_id m b.id x)) (c.in_ok-offset.ensures.size ∙ ap (λ (ws : List PatchedWord). 4 * length ws) c.as_slice.ensures)
          ∙ sym (ap (λ (q : Part). place_of (part_id m b.id q) (part_size q)) (ap last_part more ∙ last_is (take i items) x));
    }

pub invariant_of-result : goal.invariant_of-result
invariant_of-result c = record {
  near = λ k w e. all_at (λ (v : Place). v.offset < 2 ^ 62) c.loop-part.words.items k w c.loop-part.invariant.near (sym (ap (λ (l : List Place). slice_get l k) c.from_vec.ensures) ∙ e);
}

pub returns : goal.returns
returns c =
    let m = c.args.module.now in
    let b = c.args.block.now in
    let items = c.as_slice-part-items.result.now in
    let all : take c.loop-part.part-index items ≡ parts b = take_all c.loop-part.part-index items c.loop-part-test.false ∙ c.as_slice-part-items.ensures ∙ c.in_ok-parts.ensures in
    moves_same m b (record {
      words = c.from_vec.result;
      end = c.loop-part.end;
      near = λ k w e. all_at (λ (v : Place). v.offset < 2 ^ 62) c.loop-part.words.items k w c.loop-part.invariant.near (sym (ap (λ (l : List Place). slice_get l k) c.from_vec.ensures) ∙ e);
    }) (c.parts_have_all_words.ensures b) (record {
      words = c.from_vec.ensures ∙ c.loop-part.invariant.words ∙ ap (flat_map (part_places m b.id)) all;
      end = c.loop-part.invariant.end ∙ ap (end_of m b.id) all;
    })
