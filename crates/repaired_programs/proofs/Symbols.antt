-- A symbol that stands for a loaded block has one value in both programs.
use Rattle.std.proofs.Common.{◌≡◌, ℕ, suc, ◌+◌, ◌/◌, ◌%◌, ◌^◌, ℤ, Bool, true, false, List, [], ◌∷◌, length, map, Option, Some, None, refl, sym, ap, ◌∙◌, subst, arith}
use Rattle.std.specs.Prelude.{filter, find, IfSome, ◌==◌, if◌then◌else◌, unwrap_or}
use Rattle.std.specs.List.{AllByRecursion as Every, IsDistinct, flat_map, filter_map}
use Rattle.std.specs.Str.{bytes_eq}
use Rattle.std.proofs.lemmas.Bool.{both_ways, false_from_ne_true}
use Rattle.std.proofs.lemmas.Slice.Eq.{bytes_eq-Decides}
use Rattle.std.specs.Option.{option_map_or}
use Rattle.block_parts.specs.Parts.{parts}
use Rattle.gt_model.specs.declared.intervals.Block.{Block}
use Rattle.gt_model.specs.declared.intervals.Body.{Body}
use Rattle.gt_model.specs.declared.intervals.Body.TheVariants as bodies
use Rattle.gt_model.specs.declared.intervals.Interval.{Interval}
use Rattle.gt_model.specs.declared.modules.Module.{Module}
use Rattle.gt_model.specs.declared.symbols.Payload.{Payload}
use Rattle.gt_model.specs.declared.symbols.Payload.TheVariants as payloads
use Rattle.gt_model.specs.declared.symbols.Symbol.{Symbol}
use Rattle.rewrite.specs.Blocks.{part_size}
use Rattle.rewrite.specs.Identifiers.{last_part, part_id}
use Rattle.rewrite.specs.Symbols.{last_id, moved_symbol}
use Rattle.sym_expr.specs.declared.layout.Layout.{Layout}
use Rattle.sym_expr.specs.declared.patches.PatchTable.{PatchTable}
use Rattle.sym_expr.specs.declared.patches.PatchWord.{PatchWord}
use Rattle.sym_expr.specs.declared.program.CodeBlock.{CodeBlock}
use Rattle.sym_expr.specs.declared.program.Piece.{Piece}
use Rattle.sym_expr.specs.declared.program.Piece.TheVariants.{Code as CodePiece, Data as DataPiece, Gap}
use Rattle.sym_expr.specs.declared.program.Program.{Program}
use Rattle.sym_expr.specs.declared.program.Word.{Word}
use Rattle.sym_expr.specs.declared.target.Target.TheVariants.{Address, Code, Undefined}
use Rattle.sym_expr.specs.Images.{block_address, point_address, target_value, undefined_in}
use Rattle.sym_expr.specs.Modules.{block_of, blocks_of, id_of, is_code, loaded_intervals, size_of}
use Rattle.sym_expr.specs.Patches.{inserted_at, inserted_in, no_patches}
use Rattle.sym_expr.specs.Points.{code_at, code_blocks, code_of, code_size, ins}
use Rattle.sym_expr.specs.Program.{code_block, patched_word, piece}
use Rattle.sym_expr.specs.Tables.{Tables}
use Rattle.sym_expr.specs.Targets.{block_target, end_point, plus_offset, point, start_of, symbol_target}
use Rattle.sym_expr.specs.WellMade.{block_id}
use Rattle.repaired_programs.specs.Named.{IsOneTarget}
use Rattle.repaired_programs.proofs.Becomes.{IsFit, length-own_words, whole_code}
use Rattle.repaired_programs.proofs.Blocks.{IsCarried, IsHeld, IsIn, IsSplit}
use Rattle.repaired_programs.proofs.Ends.{codes_of_ids}
use Rattle.repaired_programs.proofs.Lists.{every_both, every_part, every_weaker}
use Rattle.repaired_programs.proofs.Points.{same_start}

-- ---- how many words are inserted at an offset

same_count : (m : Module) (p : PatchTable) (k : ℕ) (ws : List (ℕ × PatchWord))
    → length (inserted_at k (map (λ (w : ℕ × PatchWord). let v : ℕ × Word = (w.0, patched_word m p w.1) in v) ws)) ≡ length (inserted_at k ws)
same_count m p k [] = refl
same_count m p k (w ∷ ws) = either (k == w.0) (same_count m p k ws)
  where
    either : (x : Bool) → length (inserted_at k (map (λ (w : ℕ × PatchWord). let v : ℕ × Word = (w.0, patched_word m p w.1) in v) ws)) ≡ length (inserted_at k ws)
        → length (map (λ (v : ℕ × Word). v.1) (if x then (w.0, patched_word m p w.1) ∷ filter (λ (v : ℕ × Word). k == v.0) (map (λ (w : ℕ × PatchWord). let v : ℕ × Word = (w.0, patched_word m p w.1) in v) ws) else filter (λ (v : ℕ × Word). k == v.0) (map (λ (w : ℕ × PatchWord). let v : ℕ × Word = (w.0, patched_word m p w.1) in v) ws)))
        ≡ length (map (λ (v : ℕ × PatchWord). v.1) (if x then w ∷ filter (λ (v : ℕ × PatchWord). k == v.0) ws else filter (λ (v : ℕ × PatchWord). k == v.0) ws))
    either true e = ap suc e
    either false e = e

-- ---- code blocks are found by their identifiers, data blocks are none

abbrev pub FoundIn : List CodeBlock → Piece → Type 0
FoundIn bs (CodePiece b) = find (λ (c : CodeBlock). bytes_eq c.id b.id) bs ≡ Some b
FoundIn bs (DataPiece b) = find (λ (c : CodeBlock). bytes_eq c.id b.id) bs ≡ None
FoundIn bs (Gap bytes) = Unit {0}

turned : (a b : List ℕ) → bytes_eq a b ≡ false → bytes_eq b a ≡ false
turned a b h = false_from_ne_true (bytes_eq b a) (λ e. both_ways (bytes_eq a b) h ((bytes_eq-Decides a b).1 (sym ((bytes_eq-Decides b a).0 e))))

skip_piece : (b : CodeBlock) (bs : List CodeBlock) (x : Piece) → Every (λ y. bytes_eq b.id y ≡ false) (block_id x) → FoundIn bs x → FoundIn (b ∷ bs) x
skip_piece b bs (CodePiece c) h k = ap (λ x. if x then Some b else find (λ (d : CodeBlock). bytes_eq d.id c.id) bs) h.0 ∙ k
skip_piece b bs (DataPiece c) h k = ap (λ x. if x then Some b else find (λ (d : CodeBlock). bytes_eq d.id c.id) bs) h.0 ∙ k
skip_piece b bs (Gap bytes) h k = tt

not_in : (id : List ℕ) (bs : List CodeBlock) → Every (λ (c : CodeBlock). bytes_eq id c.id ≡ false) bs → find (λ (c : CodeBlock). bytes_eq c.id id) bs ≡ None
not_in id [] h = refl
not_in id (c ∷ cs) h = ap (λ x. if x then Some c else find (λ (d : CodeBlock). bytes_eq d.id id) cs) (turned id c.id h.0) ∙ not_in id cs h.1

pub pieces_found : (ps : List Piece) → IsDistinct bytes_eq (flat_map block_id ps) → Every (FoundIn (filter_map code_of ps)) ps
unfolding IsDistinct
pieces_found [] d = tt
pieces_found (CodePiece b ∷ ps) d =
    let bs : List CodeBlock = filter_map code_of ps in (
      ap (λ x. if x then Some b else find (λ (c : CodeBlock). bytes_eq c.id b.id) bs) ((bytes_eq-Decides b.id b.id).1 refl),
      every_weaker (λ x. Every (λ y. bytes_eq b.id y ≡ false) (block_id x) × FoundIn bs x) (FoundIn (b ∷ bs)) (λ x h. skip_piece b bs x h.0 h.1) ps
          (every_both (λ x. Every (λ y. bytes_eq b.id y ≡ false) (block_id x)) (FoundIn bs) ps (every_part block_id (λ y. bytes_eq b.id y ≡ false) ps d.0) (pieces_found ps d.1)),
    )
pieces_found (DataPiece b ∷ ps) d = (not_in b.id (filter_map code_of ps) (codes_of_ids (λ y. bytes_eq b.id y ≡ false) ps d.0), pieces_found ps d.1)
pieces_found (Gap bytes ∷ ps) d = (tt, pieces_found ps d)

-- ---- what stands for a block is there

no_symbol : (q : PatchTable) (at_end : Bool) (offset : ℤ) (b : Block) → undefined_in (block_target q at_end offset b) ≡ None
no_symbol q at_end offset b = either (is_code b)
  where
    either : (x : Bool) → undefined_in (if x then Code (if at_end then end_point q (id_of b) (size_of b) else start_of (id_of b)) else Address (id_of b) (plus_offset (if at_end then size_of b else 0) offset)) ≡ None
    either true = refl
    either false = refl

found_symbol : (q : PatchTable) (at_end : Bool) (offset : ℤ) (uuid : List ℕ) (o : Option Block) (b : Block) → o ≡ Some b → undefined_in (option_map_or (block_target q at_end offset) o (Undefined uuid)) ≡ None
found_symbol q at_end offset uuid o b e = ap (λ x. undefined_in (option_map_or (block_target q at_end offset) x (Undefined uuid))) e ∙ no_symbol q at_end offset b

-- ---- blocks of both programs

module _ (l : Layout) (m : Module) (p : PatchTable) (i : Interval) (g : Program) (n : Module) (new : Program) where
  abbrev blocks_now : List Block
  blocks_now = blocks_of (loaded_intervals n)

  record IsKeptCode (b : Block) : Type 0 where
    found : code_at g (id_of b) ≡ Some (code_block m p i b)
    split : IsSplit m (blocks_of (loaded_intervals n)) (code_block m p i b)
    start : point_address l new (start_of (id_of b)) ≡ point_address l g (start_of (id_of b))
    end : point_address l new (point (part_id m (id_of b) (last_part (parts (code_block m p i b)))) (part_size (last_part (parts (code_block m p i b)))) 0) ≡ point_address l g (point (id_of b) (code_size (code_block m p i b)) (length (ins (code_block m p i b) (code_size (code_block m p i b)))))

  record IsKeptData (b : Block) : Type 0 where
    none : code_at g (id_of b) ≡ None
    held : IsHeld (blocks_of (loaded_intervals n)) (id_of b) false (size_of b)
    address : block_address l new (id_of b) ≡ block_address l g (id_of b)

  abbrev HasOne : Block → Symbol → ℤ → Type 0
  HasOne b s offset = target_value l new (symbol_target n no_patches (moved_symbol m g s) offset) ≡ target_value l g (symbol_target m p s offset)

  abbrev symbol_on : List ℕ → List ℕ → Bool → List ℕ → Symbol
  symbol_on uuid name at_end id = record { uuid = uuid; name = name; at_end = at_end; payload = payloads.Referent id }

  code_start : (b : Block) (uuid name : List ℕ) (offset : ℤ) → is_code b ≡ true → IsIn (blocks_of (loaded_intervals m)) b → IsKeptCode b → HasOne b (symbol_on uuid name false (id_of b)) offset
  code_start b uuid name offset code own kept =
      let h = kept.split.first in
      ap (λ o. target_value l new (option_map_or (block_target no_patches false offset) o (Undefined uuid))) h.found
      ∙ ap (λ k. target_value l new (if k then Code (start_of (id_of h.block)) else Address (id_of h.block) (plus_offset 0 offset))) h.code
      ∙ ap (λ x. point_address l new (start_of x)) h.same
      ∙ kept.start
      ∙ sym (ap (λ o. target_value l g (option_map_or (block_target p false offset) o (Undefined uuid))) own ∙ ap (λ k. target_value l g (if k then Code (start_of (id_of b)) else Address (id_of b) (plus_offset 0 offset))) code)

  code_end : (b : Block) (uuid name : List ℕ) (offset : ℤ) → is_code b ≡ true → code_size (code_block m p i b) ≡ size_of b → IsIn (blocks_of (loaded_intervals m)) b → IsKeptCode b → HasOne b (symbol_on uuid name true (id_of b)) offset
  code_end b uuid name offset code size own kept =
      let c : CodeBlock = code_block m p i b in
      let last : List ℕ = part_id m (id_of b) (last_part (parts c)) in
      let h = kept.split.last in
      ap (λ o. target_value l new (option_map_or (block_target no_patches true offset) (block_of (option_map_or (last_id m) o (id_of b)) (blocks_of (loaded_intervals n))) (Undefined uuid))) kept.found
      ∙ ap (λ o. target_value l new (option_map_or (block_target no_patches true offset) o (Undefined uuid))) h.found
      ∙ ap (λ k. target_value l new (if k then Code (end_point no_patches (id_of h.block) (size_of h.block)) else Address (id_of h.block) (plus_offset (size_of h.block) offset))) h.code
      ∙ ap (λ x. point_address l new (point x (size_of h.block) 0)) h.same
      ∙ ap (λ k. point_address l new (point last k 0)) h.sized
      ∙ kept.end
      ∙ ap (λ k. point_address l g (point (id_of b) k (length (ins c k)))) size
      ∙ ap (λ j. point_address l g (point (id_of b) (size_of b) j)) (same_count m p (size_of b) (inserted_in p (id_of b)))
      ∙ sym (ap (λ o. target_value l g (option_map_or (block_target p true offset) o (Undefined uuid))) own ∙ ap (λ k. target_value l g (if k then Code (end_point p (id_of b) (size_of b)) else Address (id_of b) (plus_offset (size_of b) offset))) code)

  data_here : (b : Block) (uuid : List ℕ) (at_end : Bool) (offset : ℤ) → is_code b ≡ false → IsIn (blocks_of (loaded_intervals m)) b → IsKeptData b
      → target_value l new (option_map_or (block_target no_patches at_end offset) (block_of (id_of b) (blocks_of (loaded_intervals n))) (Undefined uuid)) ≡ target_value l g (option_map_or (block_target p at_end offset) (block_of (id_of b) (blocks_of (loaded_intervals m))) (Undefined uuid))
  data_here b uuid at_end offset code own kept =
      let h = kept.held in
      let place = λ (size : ℕ). plus_offset (if at_end then size else 0) offset in
      ap (λ o. target_value l new (option_map_or (block_target no_patches at_end offset) o (Undefined uuid))) h.found
      ∙ ap (λ k. target_value l new (if k then Code (if at_end then end_point no_patches (id_of h.block) (size_of h.block) else start_of (id_of h.block)) else Address (id_of h.block) (place (size_of h.block)))) h.code
      ∙ ap (λ x. target_value l new (Address x (place (size_of h.block)))) h.same
      ∙ ap (λ k. target_value l new (Address (id_of b) (place k))) h.sized
      ∙ ap (λ o. (unwrap_or o 0 + place (size_of b)) % 2 ^ 64) kept.address
      ∙ sym (ap (λ o. target_value l g (option_map_or (block_target p at_end offset) o (Undefined uuid))) own ∙ ap (λ k. target_value l g (if k then Code (if at_end then end_point p (id_of b) (size_of b) else start_of (id_of b)) else Address (id_of b) (place (size_of b)))) code)

  data_same : (b : Block) (uuid name : List ℕ) (at_end : Bool) (offset : ℤ) → is_code b ≡ false → IsIn (blocks_of (loaded_intervals m)) b → IsKeptData b → HasOne b (symbol_on uuid name at_end (id_of b)) offset
  data_same b uuid name false offset code own kept = data_here b uuid false offset code own kept
  data_same b uuid name true offset code own kept =
      ap (λ o. target_value l new (option_map_or (block_target no_patches true offset) (block_of (option_map_or (last_id m) o (id_of b)) (blocks_of (loaded_intervals n))) (Undefined uuid))) kept.none
      ∙ data_here b uuid true offset code own kept

  code_same : (b : Block) (uuid name : List ℕ) (at_end : Bool) (offset : ℤ) → is_code b ≡ true → code_size (code_block m p i b) ≡ size_of b → IsIn (blocks_of (loaded_intervals m)) b → IsKeptCode b → HasOne b (symbol_on uuid name at_end (id_of b)) offset
  code_same b uuid name false offset code size own kept = code_start b uuid name offset code own kept
  code_same b uuid name true offset code size own kept = code_end b uuid name offset code size own kept

  -- ---- what is seen of a piece of the program

  pub record IsSeen (x : Piece) : Type 0 where
    pub found : FoundIn (code_blocks g) x
    pub ends : IfSome (code_of x) (λ (b : CodeBlock). point_address l new (point (part_id m b.id (last_part (parts b))) (part_size (last_part (parts b))) 0) ≡ point_address l g (point b.id (code_size b) (length (ins b (code_size b)))))
    pub kept : Every (λ id. block_address l new id ≡ block_address l g id) (block_id x)

  body_same : (t : Tables) (offset : ℕ) (body : Body) → let b : Block = record { offset = offset; body = body } in IsFit m p i b → IsIn (blocks_of (loaded_intervals m)) b → IsCarried m p i (blocks_of (loaded_intervals n)) b body → IsSeen (piece m t p i b)
      → (uuid name : List ℕ) (at_end : Bool) (plus : ℤ) → HasOne b (symbol_on uuid name at_end (id_of b)) plus
  body_same t offset bodies.Bare fit own carried seen uuid name at_end plus = absurd (both_ways true fit.bodied refl)
  body_same t offset (bodies.Code id size decode_mode) fit own carried seen uuid name at_end plus =
      let b : Block = record { offset = offset; body = bodies.Code id size decode_mode } in
      let words = length-own_words m p i offset (size / 4) in
      let whole : size % 4 ≡ 0 = whole_code b fit.straight refl in
      code_same b uuid name at_end plus refl (omega (arith, words, whole)) own (record { found = seen.found; split = carried; start = same_start l g new id seen.kept.0; end = seen.ends })
  body_same t offset (bodies.Data id size) fit own carried seen uuid name at_end plus =
      data_same (record { offset = offset; body = bodies.Data id size }) uuid name at_end plus refl own (record { none = seen.found; held = carried; address = seen.kept.0 })

  -- no symbol is left without a meaning
  abbrev none_in : Block → Symbol → ℤ → Type 0
  none_in b s offset = undefined_in (symbol_target n no_patches (moved_symbol m g s) offset) ≡ None

  code_none : (b : Block) (uuid name : List ℕ) (at_end : Bool) (offset : ℤ) → IsKeptCode b → none_in b (symbol_on uuid name at_end (id_of b)) offset
  code_none b uuid name false offset kept = found_symbol no_patches false offset uuid (block_of (id_of b) (blocks_of (loaded_intervals n))) kept.split.first.block kept.split.first.found
  code_none b uuid name true offset kept =
      let last : List ℕ = part_id m (id_of b) (last_part (parts (code_block m p i b))) in
      ap (λ o. undefined_in (option_map_or (block_target no_patches true offset) (block_of (option_map_or (last_id m) o (id_of b)) (blocks_of (loaded_intervals n))) (Undefined uuid))) kept.found
      ∙ found_symbol no_patches true offset uuid (block_of last (blocks_of (loaded_intervals n))) kept.split.last.block kept.split.last.found

  data_none : (b : Block) (uuid name : List ℕ) (at_end : Bool) (offset : ℤ) → IsKeptData b → none_in b (symbol_on uuid name at_end (id_of b)) offset
  data_none b uuid name false offset kept = found_symbol no_patches false offset uuid (block_of (id_of b) (blocks_of (loaded_intervals n))) kept.held.block kept.held.found
  data_none b uuid name true offset kept =
      ap (λ o. undefined_in (option_map_or (block_target no_patches true offset) (block_of (option_map_or (last_id m) o (id_of b)) (blocks_of (loaded_intervals n))) (Undefined uuid))) kept.none
      ∙ found_symbol no_patches true offset uuid (block_of (id_of b) (blocks_of (loaded_intervals n))) kept.held.block kept.held.found

  body_none : (t : Tables) (offset : ℕ) (body : Body) → let b : Block = record { offset = offset; body = body } in IsFit m p i b → IsCarried m p i (blocks_of (loaded_intervals n)) b body → IsSeen (piece m t p i b)
      → (uuid name : List ℕ) (at_end : Bool) (plus : ℤ) → none_in b (symbol_on uuid name at_end (id_of b)) plus
  body_none t offset bodies.Bare fit carried seen uuid name at_end plus = absurd (both_ways true fit.bodied refl)
  body_none t offset (bodies.Code id size decode_mode) fit carried seen uuid name at_end plus =
      code_none (record { offset = offset; body = bodies.Code id size decode_mode }) uuid name at_end plus (record { found = seen.found; split = carried; start = same_start l g new id seen.kept.0; end = seen.ends })
  body_none t offset (bodies.Data id size) fit carried seen uuid name at_end plus =
      data_none (record { offset = offset; body = bodies.Data id size }) uuid name at_end plus (record { none = seen.found; held = carried; address = seen.kept.0 })

  -- a symbol on the block names one thing
  abbrev pub IsOne : Block → Type 0
  IsOne b = (s : Symbol) (offset : ℤ) → s.payload ≡ payloads.Referent (id_of b) → IsOneTarget l new g (symbol_target n no_patches (moved_symbol m g s) offset) (symbol_target m p s offset)

  pub block_same : (t : Tables) (b : Block) → IsFit m p i b → IsIn (blocks_of (loaded_intervals m)) b → IsCarried m p i (blocks_of (loaded_intervals n)) b b.body → IsSeen (piece m t p i b) → IsOne b
  block_same t b fit own carried seen s offset e =
      let P : Payload → Type 0 = λ x. let v : Symbol = record { uuid = s.uuid; name = s.name; at_end = s.at_end; payload = x } in IsOneTarget l new g (symbol_target n no_patches (moved_symbol m g v) offset) (symbol_target m p v offset) in
      let here : P (payloads.Referent (id_of b)) = record {
        value = body_same t b.offset b.body fit own carried seen s.uuid s.name s.at_end offset;
        undefined = body_none t b.offset b.body fit carried seen s.uuid s.name s.at_end offset ∙ sym (found_symbol p s.at_end offset s.uuid (block_of (id_of b) (blocks_of (loaded_intervals m))) b own);
      } in
      subst P (sym e) here
