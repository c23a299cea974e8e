-- The objects of a program: where they lie, that they share no byte, and that memory has their cells.
use Rattle.std.proofs.Common.{◌≡◌, ◌⊎◌, inl, inr, ℕ, ◌+◌, ◌*◌, ◌%◌, ◌^◌, ◌<◌, ◌≤◌, false, Option, Some, None, IsSome, List, [], length, replicate, refl, sym, ap, subst, ◌∙◌, arith, lit<}
use Rattle.std.specs.Prelude.{find, slice_index_or}
use Rattle.std.specs.Option.{option_map_or, option_and_then}
use Rattle.std.specs.List.{AllByRecursion as Every}
use Rattle.std.specs.Str.{bytes_eq}
use Rattle.std.proofs.lemmas.Bool.{false≢true}
use Rattle.std.proofs.lemmas.List.{length-replicate, get_or-replicate}
use Rattle.std.proofs.lemmas.List.Elements.{recursion_from_All}
use Rattle.sym_expr.specs.declared.layout.Layout.{Layout}
use Rattle.sym_expr.specs.declared.point.Point.{Point}
use Rattle.sym_expr.specs.declared.program.CodeBlock.{CodeBlock}
use Rattle.sym_expr.specs.declared.program.DataBlock.{DataBlock}
use Rattle.sym_expr.specs.declared.program.Filling.{Filling}
use Rattle.sym_expr.specs.declared.program.Piece.{Piece}
use Rattle.sym_expr.specs.declared.program.Piece.TheVariants.{Code as CodePiece, Data as DataPiece}
use Rattle.sym_expr.specs.declared.program.Program.{Program}
use Rattle.sym_expr.specs.declared.program.Word.{Word}
use Rattle.sym_expr.specs.declared.value.Object.{Object}
use Rattle.sym_expr.specs.declared.value.Object.TheVariants.{Block, Stack}
use Rattle.sym_expr.specs.Images.{inserted_below, is_block, link_fault, with_fillings}
use Rattle.sym_expr.specs.Layouts.{accepted}
use Rattle.sym_expr.specs.Placing.{Placed, new_size, shape_of}
use Rattle.sym_expr.specs.Points.{code_size, data_at, data_blocks, data_size, ins, object_alignment, word_at, word_in}
use Rattle.sym_expr.specs.States.{block_cells, object_cells}
use Rattle.sym_expr.specs.Values.{Cell, Byte, Blank, same_object}
use Rattle.sym_expr.specs.WellMade.{IsCode, IsData, IsInside as IsInsideBlock, IsPoint, well_made}
use Rattle.simulation.specs.Placement.{Placement, object_address, placement_of, point_address}
use Rattle.simulation.specs.Meant.{IsObject}
use Rattle.simulation.specs.Held.{HasCell, HasCells, size_of}
use Rattle.simulation.specs.Placed.{AreApart, IsInside}
use Rattle.placed_images.specs.Typed.{HasNearEntries, IsNearEntry, IsTyped, IsTypedData, IsTypedFilling}
use Rattle.placed_images.proofs.Below.{depth_most, below_more}
use Rattle.placed_images.proofs.Cells.{FillingStands, Stand, filling_stands, has_cell, stand_block, stand_length}
use Rattle.placed_images.proofs.Faults.{FillingFits, HasFit, all_fit}
use Rattle.placed_images.proofs.Found.{At, all_addressed, at_data, ids_same, same_ids}
use Rattle.placed_images.proofs.Lengths.{HasPiece, length-fillings}
use Rattle.placed_images.proofs.Lists.{SameOr, every_both, every_weaker, found_one}
use Rattle.placed_images.proofs.Loaded.{memory_of, pieces_loaded, stack_loaded}
use Rattle.placed_images.proofs.Memory.{holds_at}
use Rattle.placed_images.proofs.Multiples.{IsOnMultiple, OnMultiple, all_on_multiples}
use Rattle.placed_images.proofs.Points.{address, code_good, place, start_is}
use Rattle.placed_images.proofs.Spread.{Lies, OffEach, all_lie, pieces_two}
use Rattle.placed_images.proofs.Words.{room}

-- ---- kinds of pieces

data_same : (a b : DataBlock) → DataPiece a ≡ DataPiece b → a ≡ b
data_same a b e = cc

no_code : (a : DataBlock) (b : CodeBlock) → DataPiece a ≡ CodePiece b → ⊥
no_code a b e = cc

some_data : (o : Option DataBlock) → IsSome o → (d : DataBlock) × (o ≡ Some d)
some_data None some = absurd (false≢true some)
some_data (Some d) some = (d, refl)

turned : (a m b n : ℕ) → AreApart a m b n → AreApart b n a m
turned a m b n (inl e) = inr e
turned a m b n (inr e) = inl e

module _ (l : Layout) (g : Program) (well : well_made g) where
  abbrev pl : Placement
  pl = placement_of l g

  -- a data block where it stands
  record Stood (id : List ℕ) : Type 0 where
    block : DataBlock
    found : data_at g id ≡ Some block
    named : block.id ≡ id
    good : IsData g block
    at : At l g well id (DataPiece block)
    start : pl.block id ≡ at.place.at

  stood : (id : List ℕ) → IsObject g (Block id) → Stood id
  stood id is =
      let d = some_data (data_at g id) is in
      let both = found_one (λ (b : DataBlock). bytes_eq b.id id) (IsData g) (data_blocks g) d.0 well.datas d.1 in
      let at = at_data l g well id d.0 d.1 in
      record { block = d.0; found = d.1; named = same_ids d.0.id id both.0; good = both.1; at = at; start = start_is l g id at.place at.found }

  new_size_is : (id : List ℕ) (s : Stood id) → new_size s.at.place.piece ≡ data_size s.block
  new_size_is id s = ap new_size s.at.piece

  module _ (typed : IsTyped g) (close : HasNearEntries g) (laid : accepted l (shape_of g)) (none : link_fault g l ≡ None) where
    -- ---- cells

    -- what is known of the piece of a data block
    known : (id : List ℕ) (s : Stood id) → HasPiece l g (memory_of l g) (record { at = s.at.place.at; piece = DataPiece s.block }) × HasFit l g (record { at = s.at.place.at; piece = DataPiece s.block })
    known id s =
        let P : Piece → Type 0 = λ q. HasPiece l g (memory_of l g) (record { at = s.at.place.at; piece = q }) × HasFit l g (record { at = s.at.place.at; piece = q }) in
        subst P s.at.piece
        (found_one (λ (x : Placed). is_block id x.piece) (λ x. HasPiece l g (memory_of l g) x × HasFit l g x) (all_addressed l g) s.at.place
        (every_both (HasPiece l g (memory_of l g)) (HasFit l g) (all_addressed l g) (pieces_loaded l g well laid) (all_fit l g none)) s.at.found).1

    data_typed : (id : List ℕ) (s : Stood id) → IsTypedData s.block
    data_typed id s = (found_one (λ (b : DataBlock). bytes_eq b.id id) IsTypedData (data_blocks g) s.block typed.datas s.found).1

    data_close : (id : List ℕ) (s : Stood id) → Every (λ (f : ℕ × Filling). IsNearEntry g f.1) s.block.fillings
    data_close id s =
        (found_one (λ (b : DataBlock). bytes_eq b.id id) (λ (b : DataBlock). Every (λ (f : ℕ × Filling). IsNearEntry g f.1) b.fillings) (data_blocks g) s.block close s.found).1

    fillings_stand : (id : List ℕ) (s : Stood id) → Every (λ (f : ℕ × Filling). FillingStands pl g l f.1) s.block.fillings
    fillings_stand id s =
        let fs = s.block.fillings in
        every_weaker (λ (f : ℕ × Filling). (IsInsideBlock g s.block f × IsTypedFilling f.1) × (IsNearEntry g f.1 × FillingFits l g f.1)) (λ (f : ℕ × Filling). FillingStands pl g l f.1)
        (λ f h. filling_stands l g well laid f.1 h.0.0.1 h.0.1 h.1.0 h.1.1) fs
        (every_both (λ (f : ℕ × Filling). IsInsideBlock g s.block f × IsTypedFilling f.1) (λ (f : ℕ × Filling). IsNearEntry g f.1 × FillingFits l g f.1) fs
        (every_both (IsInsideBlock g s.block) (λ (f : ℕ × Filling). IsTypedFilling f.1) fs s.good.fillings (data_typed id s).fillings)
        (every_both (λ (f : ℕ × Filling). IsNearEntry g f.1) (λ (f : ℕ × Filling). FillingFits l g f.1) fs (data_close id s) (known id s).1))

    block_stands : (id : List ℕ) (s : Stood id) → Stand pl g (block_cells s.block) (with_fillings l g s.block.fillings s.block.bytes)
    block_stands id s = stand_block pl g l s.block.fillings s.block.bytes (recursion_from_All (λ b. b < 256) s.block.bytes (data_typed id s).bytes) (fillings_stand id s)

    cells_are : (id : List ℕ) (s : Stood id) → object_cells g pl.stack_size (Block id) ≡ block_cells s.block
    cells_are id s = ap (λ (o : Option DataBlock). option_map_or block_cells o []) s.found

    -- the size of a data block's object is that of its piece
    size_is : (id : List ℕ) (s : Stood id) → size_of pl g (Block id) ≡ new_size s.at.place.piece
    size_is id s =
        ap length (cells_are id s) ∙ stand_length pl g (block_cells s.block) (with_fillings l g s.block.fillings s.block.bytes) (block_stands id s)
        ∙ length-fillings l g s.block s.block.fillings s.good.fillings ∙ sym (new_size_is id s)

    stack_size_is : size_of pl g Stack ≡ l.stack_size
    stack_size_is = length-replicate l.stack_size (Byte 0)

    block_cell : (id : List ℕ) (s : Stood id) (k : ℕ) → k < length (object_cells g pl.stack_size (Block id)) → HasCell pl g (memory_of l g) (pl.block id + k) (slice_index_or (object_cells g pl.stack_size (Block id)) k Blank)
    block_cell id s k lt =
        let bytes = with_fillings l g s.block.fillings s.block.bytes in
        let P : List Cell → Type 0 = λ cs. k < length cs → HasCell pl g (memory_of l g) (pl.block id + k) (slice_index_or cs k Blank) in
        subst P (sym (cells_are id s))
        (λ inside. has_cell pl g (memory_of l g) (block_cells s.block) bytes (pl.block id) k (block_stands id s) (holds_at (memory_of l g) s.at.place.at (pl.block id) bytes (sym s.start) (known id s).0) inside) lt

    stack_cell : (k : ℕ) → k < length (replicate l.stack_size (Byte 0)) → HasCell pl g (memory_of l g) (l.stack_at + k) (slice_index_or (replicate l.stack_size (Byte 0)) k Blank)
    stack_cell k lt =
        let size = stack_size_is in
        let inside : k < l.stack_size = omega arith in
        let P : Cell → Type 0 = λ c. HasCell pl g (memory_of l g) (l.stack_at + k) c in
        subst P (sym (get_or-replicate l.stack_size k (Byte 0) Blank inside)) (record { byte = 0; mapped = stack_loaded l g k inside; means = (refl, lit< tt) })

    pub has_cells : HasCells pl g (memory_of l g) (object_cells g pl.stack_size)
    has_cells (Block id) is k lt = block_cell id (stood id is) k lt
    has_cells Stack is k lt = stack_cell k lt

    -- ---- places

    lies : (id : List ℕ) (s : Stood id) → Lies l s.at.place
    lies id s = (found_one (λ (x : Placed). is_block id x.piece) (Lies l) (all_addressed l g) s.at.place (all_lie l g laid) s.at.found).1

    block_inside : (id : List ℕ) (s : Stood id) → IsInside pl g (Block id)
    block_inside id s =
        let h = lies id s in
        let a = h.0 in
        let b = h.1 in
        let start = s.start in
        let size = size_is id s in
        record { low = omega arith; high = omega arith }

    pub is_inside : (low : 4096 ≤ l.stack_at) (high : l.stack_at + l.stack_size ≤ 2 ^ 47) (o : Object) → IsObject g o → IsInside pl g o
    is_inside low high (Block id) is = block_inside id (stood id is)
    is_inside low high Stack is = let size = stack_size_is in record { low = low; high = omega arith }

    pub is_aligned : (id : List ℕ) (d : DataBlock) → data_at g id ≡ Some d → pl.block id % object_alignment d ≡ 0
    is_aligned id d e =
        let at = at_data l g well id d e in
        let start = start_is l g id at.place at.found in
        let P : Piece → Type 0 = λ q. OnMultiple at.place.at q in
        ap (λ n. n % object_alignment d) start ∙ subst P at.piece (found_one (λ (x : Placed). is_block id x.piece) IsOnMultiple (all_addressed l g) at.place (all_on_multiples l g well laid) at.found).1

    -- ---- apart

    two : (a b : List ℕ) (x y : Placed) → find (λ (z : Placed). is_block a z.piece) (all_addressed l g) ≡ Some x → find (λ (z : Placed). is_block b z.piece) (all_addressed l g) ≡ Some y → SameOr OffEach x y
    two a b x y e f =
        (found_one (λ (z : Placed). is_block b z.piece) (SameOr OffEach x) (all_addressed l g) y
        (found_one (λ (z : Placed). is_block a z.piece) (λ z. Every (SameOr OffEach z) (all_addressed l g)) (all_addressed l g) x (pieces_two l g laid) e).1 f).1

    moved : (a b c d m n i j : ℕ) → a ≡ b → m ≡ n → c ≡ d → i ≡ j → AreApart b n d j → AreApart a m c i
    moved a b c d m n i j e f g h (inl x) = inl (omega arith)
    moved a b c d m n i j e f g h (inr x) = inr (omega arith)

    blocks_apart : (a b : List ℕ) (s : Stood a) (t : Stood b) → bytes_eq a b ≡ false → 0 < size_of pl g (Block a) → 0 < size_of pl g (Block b) → SameOr OffEach s.at.place t.at.place → AreApart (pl.block a) (size_of pl g (Block a)) (pl.block b) (size_of pl g (Block b))
    blocks_apart a b s t differ some other (inl e) =
        let one = data_same s.block t.block (sym s.at.piece ∙ ap (λ (x : Placed). x.piece) e ∙ t.at.piece) in
        let ids : a ≡ b = sym s.named ∙ ap (λ (d : DataBlock). d.id) one ∙ t.named in
        absurd (false≢true (sym differ ∙ ids_same a b ids))
    blocks_apart a b s t differ some other (inr off) =
        let m = size_is a s in
        let n = size_is b t in
        moved (pl.block a) s.at.place.at (pl.block b) t.at.place.at (size_of pl g (Block a)) (new_size s.at.place.piece) (size_of pl g (Block b)) (new_size t.at.place.piece) s.start m t.start n (off (omega arith) (omega arith))

    stack_apart : (a : List ℕ) (s : Stood a) → 0 < size_of pl g (Block a) → AreApart (pl.block a) (size_of pl g (Block a)) l.stack_at (size_of pl g Stack)
    stack_apart a s some =
        let m = size_is a s in
        moved (pl.block a) s.at.place.at l.stack_at l.stack_at (size_of pl g (Block a)) (new_size s.at.place.piece) (size_of pl g Stack) l.stack_size s.start m refl stack_size_is ((lies a s).2 (omega arith))

    pub are_apart : (o p : Object) → IsObject g o → IsObject g p → same_object o p ≡ false → 0 < size_of pl g o → 0 < size_of pl g p → AreApart (object_address pl o) (size_of pl g o) (object_address pl p) (size_of pl g p)
    are_apart (Block a) (Block b) is_a is_b differ some other =
        let s = stood a is_a in
        let t = stood b is_b in
        blocks_apart a b s t differ some other (two a b s.at.place t.at.place s.at.found t.at.found)
    are_apart (Block a) Stack is_a is_b differ some other = stack_apart a (stood a is_a) some
    are_apart Stack (Block b) is_a is_b differ some other = turned (pl.block b) (size_of pl g (Block b)) l.stack_at (size_of pl g Stack) (stack_apart b (stood b is_b) other)
    are_apart Stack Stack is_a is_b differ some other = absurd (false≢true (sym differ))

    -- ---- beside code

    -- the word at a point lies in its block
    word_inside : (p : Point) (w : Word) (is : IsPoint g p) → word_at g p ≡ Some w
        → ((place l g well p is).place.at ≤ point_address pl g p) × (point_address pl g p + 4 ≤ (place l g well p is).place.at + new_size (place l g well p is).place.piece)
    word_inside p w is e =
        let b = is.block in
        let here : word_at g p ≡ word_in b p = ap (λ (o : Option CodeBlock). option_and_then (λ c. word_in c p) o) is.found in
        let at = address l g well p is in
        let size : new_size (place l g well p is).place.piece ≡ new_size (CodePiece b) = ap new_size (place l g well p is).piece in
        let good = code_good l g well p.block b is.found in
        (omega arith, from size at good (room b p w is.whole (sym here ∙ e)))
      where
        from : new_size (place l g well p is).place.piece ≡ new_size (CodePiece is.block) → point_address pl g p ≡ (place l g well p is).place.at + (p.offset + (4 * inserted_below p.offset is.block + 4 * p.j)) → IsCode g is.block
            → (p.j + 1 ≤ length (ins is.block p.offset)) ⊎ (p.offset + 4 ≤ code_size is.block) → point_address pl g p + 4 ≤ (place l g well p is).place.at + new_size (place l g well p is).place.piece
        from size at good (inl more) = let most = depth_most g is.block p.offset (p.j + 1) good is.whole is.inside more in omega arith
        from size at good (inr more) =
            let whole = is.whole in
            let most = depth_most g is.block (p.offset + 4) 0 good (omega arith) more (omega arith) in
            let below = below_more g is.block good p.offset is.whole in
            let passed = is.passed in
            omega arith

    narrower : (a m at size word : ℕ) → at ≤ word → word + 4 ≤ at + size → AreApart a m at size → AreApart a m word 4
    narrower a m at size word low high (inl e) = inl (omega arith)
    narrower a m at size word low high (inr e) = inr (omega arith)

    beside_block : (a : List ℕ) (s : Stood a) (p : Point) (w : Word) (is : IsPoint g p) → 0 < size_of pl g (Block a) → word_at g p ≡ Some w → SameOr OffEach s.at.place (place l g well p is).place → AreApart (pl.block a) (size_of pl g (Block a)) (point_address pl g p) 4
    beside_block a s p w is some e (inl same) = absurd (no_code s.block is.block (sym s.at.piece ∙ ap (λ (x : Placed). x.piece) same ∙ (place l g well p is).piece))
    beside_block a s p w is some e (inr off) =
        let y = (place l g well p is).place in
        let inside = word_inside p w is e in
        let low = inside.0 in
        let high = inside.1 in
        let m = size_is a s in
        narrower (pl.block a) (size_of pl g (Block a)) y.at (new_size y.piece) (point_address pl g p) inside.0 inside.1
        (moved (pl.block a) s.at.place.at y.at y.at (size_of pl g (Block a)) (new_size s.at.place.piece) (new_size y.piece) (new_size y.piece) s.start m refl refl (off (omega arith) (omega arith)))

    beside_stack : (p : Point) (w : Word) (is : IsPoint g p) → word_at g p ≡ Some w → AreApart l.stack_at (size_of pl g Stack) (point_address pl g p) 4
    beside_stack p w is e =
        let y = (place l g well p is).place in
        let inside = word_inside p w is e in
        let low = inside.0 in
        let high = inside.1 in
        let h = (found_one (λ (x : Placed). is_block p.block x.piece) (Lies l) (all_addressed l g) y (all_lie l g laid) (place l g well p is).found).1 in
        let size = stack_size_is in
        narrower l.stack_at (size_of pl g Stack) y.at (new_size y.piece) (point_address pl g p) inside.0 inside.1
        (turned y.at (new_size y.piece) l.stack_at (size_of pl g Stack) (moved y.at y.at l.stack_at l.stack_at (new_size y.piece) (new_size y.piece) (size_of pl g Stack) l.stack_size refl refl refl size (h.2 (omega arith))))

    pub is_beside : (o : Object) (p : Point) (w : Word) → IsObject g o → 0 < size_of pl g o → IsPoint g p → word_at g p ≡ Some w → AreApart (object_address pl o) (size_of pl g o) (point_address pl g p) 4
    is_beside (Block a) p w is some is_p e =
        let s = stood a is in
        beside_block a s p w is_p some e (two a p.block s.at.place (place l g well p is_p).place s.at.found (place l g well p is_p).found)
    is_beside Stack p w is some is_p e = beside_stack p w is_p e
