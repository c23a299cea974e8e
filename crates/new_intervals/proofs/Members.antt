-- The pieces of an interval's blocks are found by their identifiers.
use Rattle.std.proofs.Common.{◌≡◌, ◌≢◌, ℕ, ◌+◌, ◌-◌, Bool, true, false, List, [], ◌∷◌, ◌++◌, map, find, Option, Some, refl, sym, ap, subst, ◌∙◌, inl, inr}
use Rattle.std.specs.Prelude.{◌==◌, if◌then◌else◌}
use Rattle.std.specs.List.{AllByRecursion as Every, flat_map}
use Rattle.std.specs.Option.{option_map_or}
use Rattle.std.specs.Str.{bytes_eq}
use Rattle.std.proofs.lemmas.Bool.{cases_Bool, cond-true, cond-false, false_from_ne_true}
use Rattle.std.proofs.lemmas.List.Concat.{flat_map-append}
use Rattle.std.proofs.lemmas.Slice.Eq.{bytes_eq-Decides}
use Rattle.block_parts.specs.Parts.{parts}
use Rattle.gt_model.specs.declared.intervals.Block.{Block}
use Rattle.gt_model.specs.declared.intervals.Body.{Body}
use Rattle.gt_model.specs.declared.intervals.Body.TheVariants as bodies
use Rattle.gt_model.specs.declared.intervals.Interval.{Interval}
use Rattle.gt_model.specs.declared.modules.Module.{Module}
use Rattle.new_intervals.specs.Blocks.{block_where, parts_in, parts_where}
use Rattle.new_intervals.specs.Knowing.{IsOfProgram}
use Rattle.new_intervals.specs.Whole.{block_in}
use Rattle.new_intervals.proofs.Lists.{Pairs, every_both, every_contained, every_of_map, every_weaker, flat_same, pairs_from, pairs_part}
use Rattle.rewrite.specs.Blocks.{new_block, new_blocks, part_block}
use Rattle.rewrite.specs.Offsets.{new_start}
use Rattle.sym_expr.specs.declared.patches.PatchTable.{PatchTable}
use Rattle.sym_expr.specs.declared.program.Piece.{Piece}
use Rattle.sym_expr.specs.declared.program.Piece.TheVariants.{Code as CodePiece, Data as DataPiece, Gap}
use Rattle.sym_expr.specs.declared.program.Stretch.{Stretch}
use Rattle.sym_expr.specs.Images.{is_block}
use Rattle.sym_expr.specs.Layouts.{least_from}
use Rattle.sym_expr.specs.Modules.{bytes_at, end_of, goes_before, id_of, in_order, is_code, put_in_order}
use Rattle.sym_expr.specs.Placing.{Placed, new_size, placed_from, step_of}
use Rattle.sym_expr.specs.Program.{code_block, data_block, gap, piece, pieces, stretch}
use Rattle.sym_expr.specs.Tables.{Tables}
use Rattle.sym_expr.specs.WellMade.{block_id, block_ids}

-- ---- what all blocks in order have, all have

either_put : (P : Block → Type 0) (b c : Block) (cs : List Block) (x : Bool) → (Every P (put_in_order b cs) → P b × Every P cs) → Every P (if x then c ∷ put_in_order b cs else b ∷ c ∷ cs) → P b × Every P (c ∷ cs)
either_put P b c cs true rest h = let both = rest h.1 in (both.0, (h.0, both.1))
either_put P b c cs false rest h = (h.0, h.1)

of_put : (P : Block → Type 0) (b : Block) (cs : List Block) → Every P (put_in_order b cs) → P b × Every P cs
of_put P b [] h = (h.0, tt)
of_put P b (c ∷ cs) h = either_put P b c cs (goes_before c b) (of_put P b cs) h

of_order : (P : Block → Type 0) (bs : List Block) → Every P (in_order bs) → Every P bs
of_order P [] h = tt
of_order P (b ∷ bs) h = let both = of_put P b (in_order bs) h in (both.0, of_order P bs both.1)

-- ---- the pieces of blocks

abbrev is_of : List ℕ → Piece → Bool
is_of id q = is_block id q

same_id : (id : List ℕ) → bytes_eq id id ≡ true
same_id id = (bytes_eq-Decides id id).1 refl

other_id : (a b : List ℕ) → a ≢ b → bytes_eq b a ≡ false
other_id a b differ = false_from_ne_true (bytes_eq b a) (λ e. differ (sym ((bytes_eq-Decides b a).0 e)))

gap_ids : (i : Interval) (from to : ℕ) (x : Bool) → flat_map block_id (if x then [] else Gap (bytes_at i from (to - from)) ∷ []) ≡ []
gap_ids i from to true = refl
gap_ids i from to false = refl

past_gap : (i : Interval) (from to : ℕ) (x : Bool) (id : List ℕ) (ps : List Piece) → find (is_of id) ((if x then [] else Gap (bytes_at i from (to - from)) ∷ []) ++ ps) ≡ find (is_of id) ps
past_gap i from to true id ps = refl
past_gap i from to false id ps = refl

either_id : (m : Module) (t : Tables) (p : PatchTable) (i : Interval) (b : Block) (x : Bool) → block_id (if x then CodePiece (code_block m p i b) else DataPiece (data_block m t p i b)) ≡ id_of b ∷ []
either_id m t p i b true = refl
either_id m t p i b false = refl

either_is : (m : Module) (t : Tables) (p : PatchTable) (i : Interval) (b : Block) (id : List ℕ) (x : Bool) → is_block id (if x then CodePiece (code_block m p i b) else DataPiece (data_block m t p i b)) ≡ bytes_eq id (id_of b)
either_is m t p i b id true = refl
either_is m t p i b id false = refl

module _ (m : Module) (t : Tables) (p : PatchTable) (i : Interval) where
  ids_are : (at : ℕ) (bs : List Block) → flat_map block_id (pieces m t p i at bs) ≡ map id_of bs
  ids_are at [] = gap_ids i at i.size (i.size - at == 0)
  ids_are at (b ∷ bs) =
      flat_map-append block_id (gap i at b.offset) (piece m t p i b ∷ pieces m t p i (end_of b) bs)
      ∙ ap (λ l. l ++ flat_map block_id (piece m t p i b ∷ pieces m t p i (end_of b) bs)) (gap_ids i at b.offset (b.offset - at == 0))
      ∙ ap (λ l. l ++ flat_map block_id (pieces m t p i (end_of b) bs)) (either_id m t p i b (is_code b))
      ∙ ap (λ l. id_of b ∷ l) (ids_are (end_of b) bs)

  abbrev Finds : ℕ → List Block → Block → Type 0
  Finds at bs c = find (is_of (id_of c)) (pieces m t p i at bs) ≡ Some (piece m t p i c)

  found_first : (at : ℕ) (b : Block) (bs : List Block) → Finds at (b ∷ bs) b
  found_first at b bs =
      past_gap i at b.offset (b.offset - at == 0) (id_of b) (piece m t p i b ∷ pieces m t p i (end_of b) bs)
      ∙ cond-true (is_block (id_of b) (piece m t p i b)) (Some (piece m t p i b)) (find (is_of (id_of b)) (pieces m t p i (end_of b) bs)) (either_is m t p i b (id_of b) (is_code b) ∙ same_id (id_of b))

  found_later : (at : ℕ) (b : Block) (bs : List Block) (c : Block) → (id_of b ≢ id_of c) × Finds (end_of b) bs c → Finds at (b ∷ bs) c
  found_later at b bs c h =
      past_gap i at b.offset (b.offset - at == 0) (id_of c) (piece m t p i b ∷ pieces m t p i (end_of b) bs)
      ∙ cond-false (is_block (id_of c) (piece m t p i b)) (Some (piece m t p i b)) (find (is_of (id_of c)) (pieces m t p i (end_of b) bs)) (either_is m t p i b (id_of c) (is_code b) ∙ other_id (id_of b) (id_of c) h.0)
      ∙ h.1

  all_found : (at : ℕ) (bs : List Block) → Pairs (λ (a later : List ℕ). a ≢ later) (map id_of bs) → Every (Finds at bs) bs
  all_found at [] apart = tt
  all_found at (b ∷ bs) apart = (
    found_first at b bs,
    every_weaker (λ c. (id_of b ≢ id_of c) × Finds (end_of b) bs c) (Finds at (b ∷ bs)) (found_later at b bs) bs
        (every_both (λ c. id_of b ≢ id_of c) (Finds (end_of b) bs) bs (every_of_map id_of (λ id. id_of b ≢ id) bs apart.0) (all_found (end_of b) bs apart.1)),
  )

-- ---- at their new offsets

placed_found : (id : List ℕ) (end : ℕ) (ps : List Piece) (q : Piece) → find (is_of id) ps ≡ Some q → (x : Placed) × (find (λ (y : Placed). is_block id y.piece) (placed_from end ps) ≡ Some x) × (x.piece ≡ q)
placed_found id end [] q e = cc
placed_found id end (p ∷ ps) q e =
    let x : Placed = record { at = least_from end (step_of p) 0; piece = p } in
    let next : ℕ = x.at + new_size p in
    let rest : Option Placed = find (λ (y : Placed). is_block id y.piece) (placed_from next ps) in
    elim (cases_Bool (is_block id p)) [
      | inl h ↦
          let one : Some p ≡ Some q = sym (cond-true (is_block id p) (Some p) (find (is_of id) ps) h) ∙ e in
          let same : p ≡ q = cc in
          (x, cond-true (is_block id p) (Some x) rest h, same)
      | inr h ↦
          let more = placed_found id next ps q (sym (cond-false (is_block id p) (Some p) (find (is_of id) ps) h) ∙ e) in
          (more.0, cond-false (is_block id p) (Some x) rest h ∙ more.1, more.2)
    ]

-- ---- what blocks become

module _ (m : Module) (t : Tables) (p : PatchTable) (i : Interval) where
  abbrev s : Stretch
  s = stretch m t p i

  of_code : (offset : ℕ) (uuid : List ℕ) (size decode_mode : ℕ) → let b : Block = record { offset = offset; body = bodies.Code uuid size decode_mode } in
      find (is_of uuid) s.pieces ≡ Some (CodePiece (code_block m p i b)) → block_where m (block_in s) b ≡ new_block m p i s b
  of_code offset uuid size decode_mode e =
      let b : Block = record { offset = offset; body = bodies.Code uuid size decode_mode } in
      let x = placed_found uuid 0 s.pieces (CodePiece (code_block m p i b)) e in
      let found : block_in s uuid ≡ Some x.0 = x.1 in
      let begun : new_start s uuid ≡ x.0.at = ap (λ (o : Option Placed). option_map_or (λ (y : Placed). y.at) o 0) found in
      ap (parts_where m uuid decode_mode) found
      ∙ ap (λ (q : Piece). parts_in m uuid decode_mode (record { at = x.0.at; piece = q })) x.2
      ∙ ap (λ (n : ℕ). map (part_block m uuid decode_mode n) (parts (code_block m p i b))) (sym begun)

  of_block : (offset : ℕ) (body : Body) → let b : Block = record { offset = offset; body = body } in find (is_of (id_of b)) s.pieces ≡ Some (piece m t p i b) → block_where m (block_in s) b ≡ new_block m p i s b
  of_block offset bodies.Bare e = refl
  of_block offset (bodies.Code uuid size decode_mode) e = of_code offset uuid size decode_mode e
  of_block offset (bodies.Data uuid size) e = refl

  -- all blocks of an interval of a program
  pub blocks_are : IsOfProgram s → flat_map (block_where m (block_in s)) i.blocks ≡ new_blocks m p i s
  blocks_are (g, made, there) =
      let ids : Pairs (λ (a later : List ℕ). a ≢ later) (flat_map block_id s.pieces) =
      every_contained (λ (x : Stretch). Pairs (λ (a later : List ℕ). a ≢ later) (flat_map block_id x.pieces)) g.stretches s
      (pairs_part (λ (x : Stretch). flat_map block_id x.pieces) (λ (a later : List ℕ). a ≢ later) g.stretches (pairs_from (λ (a later : List ℕ). a ≢ later) (block_ids g) made.apart)) there in
      let apart = subst (Pairs (λ (a later : List ℕ). a ≢ later)) (ids_are m t p i 0 (in_order i.blocks)) ids in
      let found : Every (Finds m t p i 0 (in_order i.blocks)) i.blocks = of_order (Finds m t p i 0 (in_order i.blocks)) i.blocks (all_found m t p i 0 (in_order i.blocks) apart) in
      flat_same (block_where m (block_in s)) (new_block m p i s) i.blocks
      (every_weaker (Finds m t p i 0 (in_order i.blocks)) (λ b. block_where m (block_in s) b ≡ new_block m p i s b) (λ b e. of_block b.offset b.body e) i.blocks found)
