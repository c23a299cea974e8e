-- The own words of a patched block stand in order, at multiples of 4.
use Rattle.std.proofs.Common.{◌≡◌, ℕ, zero, suc, ◌+◌, ◌*◌, ◌<◌, Bool, true, false, cond, eqb, Option, Some, None, List, [], ◌∷◌, ◌++◌, length, filter, find, map, refl, sym, ap, ◌∙◌, inl, inr, arith}
use Rattle.std.specs.Prelude.{slice_get}
use Rattle.std.specs.List.{flat_map}
use Rattle.std.specs.Option.{option_map, option_or}
use Rattle.std.proofs.lemmas.Bool.{cond-true, cond-false, cases_Bool}
use Rattle.std.proofs.lemmas.Bool.Decides.{nat_tests}
use Rattle.std.proofs.lemmas.List.{length-map, map-append}
use Rattle.std.proofs.lemmas.List.Concat.{flat_map-append}
use Rattle.std.proofs.lemmas.List.Folds.{find-append}
use Rattle.aux_codec.specs.declared.value.Place.{Place}
use Rattle.block_parts.specs.declared.parts.Part.{Part}
use Rattle.block_parts.specs.declared.words.Origin.{Origin}
use Rattle.block_parts.specs.declared.words.Origin.TheVariants.{Own, Inserted}
use Rattle.block_parts.specs.declared.words.PatchedWord.{PatchedWord}
use Rattle.block_parts.specs.Words.{inserted, is_inserted_from, numbered, own, patched_words, words_from}
use Rattle.gt_model.specs.declared.modules.Module.{Module}
use Rattle.moved_places.specs.Blocks.{further, own_places, part_places}
use Rattle.moved_places.proofs.Lists.{map_or}
use Rattle.rewrite.specs.Identifiers.{part_id}
use Rattle.rewrite.specs.Places.{depth_of, is_own, place_among, place_in}
use Rattle.sym_expr.specs.declared.program.CodeBlock.{CodeBlock}
use Rattle.sym_expr.specs.declared.program.Word.{Word}
use Rattle.sym_expr.specs.Patches.{inserted_at}

-- ---- their offsets

abbrev origin_offset : Origin → List ℕ
origin_offset (Own at) = at ∷ []
origin_offset (Inserted k) = []

abbrev word_offset : PatchedWord → List ℕ
word_offset w = origin_offset w.origin

abbrev pub own_offsets : List PatchedWord → List ℕ
own_offsets ws = flat_map word_offset ws

-- so many multiples of 4 from an offset on
abbrev pub multiples : ℕ → ℕ → List ℕ
multiples at zero = []
multiples at (suc n) = at ∷ multiples (at + 4) n

none_inserted : (at k : ℕ) (ws : List (ℕ × Word)) → own_offsets (inserted_at at (numbered k ws)) ≡ []
none_inserted at k [] = refl
none_inserted at k (w ∷ ws) =
    let rest = filter (λ (v : ℕ × PatchedWord). eqb at v.0) (numbered (suc k) ws) in
    let first : ℕ × PatchedWord = (w.0, inserted k w.1) in
    elim (cases_Bool (eqb at w.0)) [
      | inl here ↦ ap (λ (l : List (ℕ × PatchedWord)). own_offsets (map (λ (v : ℕ × PatchedWord). v.1) l)) (cond-true (eqb at w.0) (first ∷ rest) rest here) ∙ none_inserted at (suc k) ws
      | inr off ↦ ap (λ (l : List (ℕ × PatchedWord)). own_offsets (map (λ (v : ℕ × PatchedWord). v.1) l)) (cond-false (eqb at w.0) (first ∷ rest) rest off) ∙ none_inserted at (suc k) ws
    ]

offsets_from : (ins : List (ℕ × Word)) (at : ℕ) (ws : List Word) → own_offsets (words_from (numbered 0 ins) at ws) ≡ multiples at (length ws)
offsets_from ins at [] = none_inserted at 0 ins
offsets_from ins at (w ∷ ws) =
    flat_map-append word_offset (inserted_at at (numbered 0 ins)) (own at w ∷ words_from (numbered 0 ins) (at + 4) ws)
    ∙ ap (λ l. l ++ (at ∷ own_offsets (words_from (numbered 0 ins) (at + 4) ws))) (none_inserted at 0 ins)
    ∙ ap (λ l. at ∷ l) (offsets_from ins (at + 4) ws)

pub offsets_of : (b : CodeBlock) → own_offsets (patched_words b) ≡ multiples 0 (length b.own)
offsets_of b = offsets_from b.inserted 0 b.own

-- ---- with their places

abbrev origin_entry : List ℕ → ℕ → Origin → List (ℕ × Place)
origin_entry id depth (Own at) = (at, record { id = id; offset = depth }) ∷ []
origin_entry id depth (Inserted k) = []

abbrev pub entries : List ℕ → ℕ → List PatchedWord → List (ℕ × Place)
entries id depth [] = []
entries id depth (w ∷ ws) = origin_entry id depth w.origin ++ entries id (depth + 4) ws

abbrev offset_of : ℕ × Place → ℕ
offset_of e = e.0

abbrev pub entry_place : ℕ × Place → Place
entry_place e = e.1

origin_key : (id : List ℕ) (depth : ℕ) (o : Origin) → map offset_of (origin_entry id depth o) ≡ origin_offset o
origin_key id depth (Own at) = refl
origin_key id depth (Inserted k) = refl

origin_value : (id : List ℕ) (depth : ℕ) (o : Origin) → map entry_place (origin_entry id depth o) ≡ cond (is_inserted_from o) [] (record { id = id; offset = depth } ∷ [])
origin_value id depth (Own at) = refl
origin_value id depth (Inserted k) = refl

keys : (id : List ℕ) (depth : ℕ) (ws : List PatchedWord) → map offset_of (entries id depth ws) ≡ own_offsets ws
keys id depth [] = refl
keys id depth (w ∷ ws) =
    map-append offset_of (origin_entry id depth w.origin) (entries id (depth + 4) ws)
    ∙ ap (λ l. l ++ map offset_of (entries id (depth + 4) ws)) (origin_key id depth w.origin)
    ∙ ap (λ l. origin_offset w.origin ++ l) (keys id (depth + 4) ws)

places : (id : List ℕ) (depth : ℕ) (ws : List PatchedWord) → map entry_place (entries id depth ws) ≡ own_places id depth ws
places id depth [] = refl
places id depth (w ∷ ws) =
    map-append entry_place (origin_entry id depth w.origin) (entries id (depth + 4) ws)
    ∙ ap (λ l. l ++ map entry_place (entries id (depth + 4) ws)) (origin_value id depth w.origin)
    ∙ ap (λ l. cond (is_inserted_from w.origin) [] (record { id = id; offset = depth } ∷ []) ++ l) (places id (depth + 4) ws)

-- those of several parts
abbrev part_entries : Module → List ℕ → Part → List (ℕ × Place)
part_entries m block q = entries (part_id m block q) 0 q.words

abbrev pub all_entries : Module → List ℕ → List Part → List (ℕ × Place)
all_entries m block qs = flat_map (part_entries m block) qs

pub all_keys : (m : Module) (block : List ℕ) (qs : List Part) → map offset_of (all_entries m block qs) ≡ own_offsets (flat_map (λ (q : Part). q.words) qs)
all_keys m block [] = refl
all_keys m block (q ∷ qs) =
    map-append offset_of (part_entries m block q) (all_entries m block qs)
    ∙ ap (λ l. l ++ map offset_of (all_entries m block qs)) (keys (part_id m block q) 0 q.words)
    ∙ ap (λ l. own_offsets q.words ++ l) (all_keys m block qs)
    ∙ sym (flat_map-append word_offset q.words (flat_map (λ (p : Part). p.words) qs))

pub all_places : (m : Module) (block : List ℕ) (qs : List Part) → map entry_place (all_entries m block qs) ≡ flat_map (part_places m block) qs
all_places m block [] = refl
all_places m block (q ∷ qs) =
    map-append entry_place (part_entries m block q) (all_entries m block qs)
    ∙ ap (λ l. l ++ map entry_place (all_entries m block qs)) (places (part_id m block q) 0 q.words)
    ∙ ap (λ l. part_places m block q ++ l) (all_places m block qs)

-- ---- looked up by their offsets

abbrev has_offset : ℕ → ℕ × Place → Bool
has_offset at e = eqb at e.0

abbrev pub look : ℕ → List (ℕ × Place) → Option Place
look at es = option_map entry_place (find (has_offset at) es)

abbrev deeper : List ℕ → ℕ → ℕ → Place
deeper id from depth = record { id = id; offset = from + depth }

deeper_first : (id : List ℕ) (depth : ℕ) → Some (record { id = id; offset = depth }) ≡ Some (deeper id depth 0)
deeper_first id depth = let e : depth ≡ depth + 0 = omega arith in ap (λ (n : ℕ). Some (record { id = id; offset = n })) e

deeper_next : (id : List ℕ) (from : ℕ) (o : Option ℕ) → option_map (deeper id (from + 4)) o ≡ option_map (deeper id from) (option_map (λ depth. depth + 4) o)
deeper_next id from None = refl
deeper_next id from (Some depth) = let e : from + 4 + depth ≡ from + (depth + 4) = omega arith in ap (λ (n : ℕ). Some (record { id = id; offset = n })) e

look_in : (at : ℕ) (id : List ℕ) (from : ℕ) (ws : List PatchedWord) → look at (entries id from ws) ≡ option_map (deeper id from) (depth_of at ws)
look_in at id from [] = refl
look_in at id from (w ∷ ws) = by_origin w.origin (look_in at id (from + 4) ws)
  where
    by_origin : (o : Origin) → look at (entries id (from + 4) ws) ≡ option_map (deeper id (from + 4)) (depth_of at ws)
        → look at (origin_entry id from o ++ entries id (from + 4) ws) ≡ option_map (deeper id from) (cond (is_own at o) (Some 0) (option_map (λ depth. depth + 4) (depth_of at ws)))
    by_origin (Own k) rest =
        let first : ℕ × Place = (k, record { id = id; offset = from }) in
        elim (cases_Bool (eqb at k)) [
          | inl here ↦
              ap (option_map entry_place) (cond-true (eqb at k) (Some first) (find (has_offset at) (entries id (from + 4) ws)) here)
              ∙ deeper_first id from
              ∙ sym (ap (option_map (deeper id from)) (cond-true (eqb at k) (Some 0) (option_map (λ depth. depth + 4) (depth_of at ws)) here))
          | inr off ↦
              ap (option_map entry_place) (cond-false (eqb at k) (Some first) (find (has_offset at) (entries id (from + 4) ws)) off)
              ∙ rest ∙ deeper_next id from (depth_of at ws)
              ∙ sym (ap (option_map (deeper id from)) (cond-false (eqb at k) (Some 0) (option_map (λ depth. depth + 4) (depth_of at ws)) off))
        ]
    by_origin (Inserted k) rest = rest ∙ deeper_next id from (depth_of at ws)

from_start : (id : List ℕ) (behind : ℕ) (o : Option ℕ) → option_map (λ depth. record { id = id; offset = depth + behind }) o ≡ option_map (further behind) (option_map (deeper id 0) o)
from_start id behind None = refl
from_start id behind (Some depth) = let e : depth + behind ≡ 0 + depth + behind = omega arith in ap (λ (n : ℕ). Some (record { id = id; offset = n })) e

pub among : (m : Module) (block : List ℕ) (at behind : ℕ) (qs : List Part) → place_among m block at behind qs ≡ option_map (further behind) (look at (all_entries m block qs))
among m block at behind [] = refl
among m block at behind (q ∷ qs) =
    let here : place_in m block at behind q ≡ option_map (further behind) (look at (part_entries m block q)) =
    from_start (part_id m block q) behind (depth_of at q.words) ∙ sym (ap (option_map (further behind)) (look_in at (part_id m block q) 0 q.words)) in
    ap (λ o. option_or o (place_among m block at behind qs)) here
    ∙ ap (option_or (option_map (further behind) (look at (part_entries m block q)))) (among m block at behind qs)
    ∙ sym (map_or (further behind) (look at (part_entries m block q)) (look at (all_entries m block qs)))
    ∙ sym (ap (option_map (further behind))
    (ap (option_map entry_place) (find-append (has_offset at) (part_entries m block q) (all_entries m block qs))
    ∙ map_or entry_place (find (has_offset at) (part_entries m block q)) (find (has_offset at) (all_entries m block qs))))

-- ---- at multiples of 4 they are found by number

here_yes : (at k : ℕ) → at ≡ k → eqb at k ≡ true
here_yes at k e = grind (arith, nat_tests)

here_no : (at k : ℕ) → k < at → eqb at k ≡ false
here_no at k e = grind (arith, nat_tests)

pub by_number : (es : List (ℕ × Place)) (at n j : ℕ) → map offset_of es ≡ multiples at n → look (at + 4 * j) es ≡ slice_get (map entry_place es) j
by_number [] at n zero e = refl
by_number [] at n (suc j) e = refl
by_number (x ∷ es) at zero j e = cc
by_number (x ∷ es) at (suc n) zero e =
    let key : x.0 ≡ at = cc in
    ap (option_map entry_place) (cond-true (eqb (at + 4 * 0) x.0) (Some x) (find (has_offset (at + 4 * 0)) es) (here_yes (at + 4 * 0) x.0 (omega arith)))
by_number (x ∷ es) at (suc n) (suc j) e =
    let key : x.0 ≡ at = cc in
    let rest : map offset_of es ≡ multiples (at + 4) n = cc in
    let next : at + 4 * suc j ≡ at + 4 + 4 * j = omega arith in
    ap (option_map entry_place) (cond-false (eqb (at + 4 * suc j) x.0) (Some x) (find (has_offset (at + 4 * suc j)) es) (here_no (at + 4 * suc j) x.0 (omega arith)))
    ∙ ap (λ k. look k es) next ∙ by_number es (at + 4) n j rest

multiples_count : (at n : ℕ) → length (multiples at n) ≡ n
multiples_count at zero = refl
multiples_count at (suc n) = ap suc (multiples_count (at + 4) n)

pub as_many : (es : List (ℕ × Place)) (n : ℕ) → map offset_of es ≡ multiples 0 n → length (map entry_place es) ≡ n
as_many es n e = length-map es entry_place ∙ sym (length-map es offset_of) ∙ ap length e ∙ multiples_count 0 n
