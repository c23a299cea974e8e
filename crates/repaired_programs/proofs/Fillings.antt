-- The data of an interval where words are inserted says one thing in both programs.
use Rattle.std.proofs.Common.{◌≡◌, ℕ, ◌+◌, ◌-◌, ◌*◌, ◌<◌, ◌≤◌, true, false, List, [], ◌∷◌, ◌++◌, length, map, None, Some, refl, sym, ap, ◌∙◌, subst, inl, inr, arith}
use Rattle.std.specs.Prelude.{◌==◌, filter, find, if◌then◌else◌}
use Rattle.std.specs.List.{AllByRecursion as Every, AllZip, filter_map, flat_map, list_any}
use Rattle.std.specs.Option.{option_map, option_or}
use Rattle.std.proofs.lemmas.Bool.{both_ways, cases_lt}
use Rattle.std.proofs.lemmas.List.{append-nil}
use Rattle.block_parts.specs.declared.parts.Part.{Part}
use Rattle.block_parts.specs.Parts.{parts}
use Rattle.edge_repair.specs.Repaired.{repaired_module}
use Rattle.gt_model.specs.declared.exprs.Expr.{Expr}
use Rattle.gt_model.specs.declared.intervals.Block.{Block}
use Rattle.gt_model.specs.declared.intervals.Body.{Body}
use Rattle.gt_model.specs.declared.intervals.Body.TheVariants as bodies
use Rattle.gt_model.specs.declared.intervals.Interval.{Interval}
use Rattle.gt_model.specs.declared.modules.Module.{Module}
use Rattle.repaired_programs.specs.Intervals.{NamesOne, SaysOne}
use Rattle.repaired_programs.specs.Named.{IsOneFilling, IsOneStretch, piece_fillings, fillings_of}
use Rattle.repaired_programs.specs.Programs.{repaired_program}
use Rattle.repaired_programs.specs.Values.{IsOneMoved}
use Rattle.rewrite.specs.Blocks.{part_block}
use Rattle.rewrite.specs.Exprs.{moved_expr}
use Rattle.rewrite.specs.Offsets.{new_offset, old_size}
use Rattle.rewrite.specs.Places.{moved_tables}
use Rattle.rewrite.specs.Rewritten.{has_words, new_interval, stretched}
use Rattle.sym_expr.specs.declared.layout.Layout.{Layout}
use Rattle.sym_expr.specs.declared.patches.PatchTable.{PatchTable}
use Rattle.sym_expr.specs.declared.program.Filling.{Filling}
use Rattle.sym_expr.specs.declared.program.Piece.{Piece}
use Rattle.sym_expr.specs.declared.program.Piece.TheVariants.{Code as CodePiece, Data as DataPiece}
use Rattle.sym_expr.specs.declared.program.Program.{Program}
use Rattle.sym_expr.specs.declared.program.Stretch.{Stretch}
use Rattle.sym_expr.specs.Modules.{bytes_at, covers, end_of, in_order, size_of}
use Rattle.sym_expr.specs.Patches.{no_patches}
use Rattle.sym_expr.specs.Placing.{placed, placed_from}
use Rattle.sym_expr.specs.Program.{code_block, data_block, filling, filling_at, gap, piece, pieces, program, stretch}
use Rattle.sym_expr.specs.Tables.{Tables, expr_size}
use Rattle.repaired_programs.proofs.Becomes.{block_at, body_at, IsFit}
use Rattle.repaired_programs.proofs.Covered.{block_exprs, covers_high, covers_in, covers_low, covers_out, IsMovedBlock, kept_pass, none_covered, Rises}
use Rattle.repaired_programs.proofs.Found.{at_place, none_from}
use Rattle.repaired_programs.proofs.Lists.{every_both, every_filter}
use Rattle.repaired_programs.proofs.Quiet.{at_one, BothOr, filling_one, zip_option}
use Rattle.repaired_programs.proofs.Readings.{gap_fillings}
use Rattle.repaired_programs.proofs.Spots.{Behind, length-bytes_at, spots}
use Rattle.repaired_programs.proofs.Stands.{IsKnown, new_order}
use Rattle.repaired_programs.proofs.Walked.{all_over, brings_of, end_at, IsRoom, IsWalked, lowest, place_at, room_of, size_counted, size_kept, start, walk_on}

-- ---- fillings don't ask where gaps are

gap_only : (j : Interval) (from to : ℕ) → flat_map piece_fillings (gap j from to) ≡ []
gap_only j from to = ap (flat_map piece_fillings) (sym (append-nil (gap j from to))) ∙ gap_fillings (bytes_at j from (to - from)) (to - from == 0) []

fillings_any : (n : Module) (u : Tables) (j : Interval) (a b : ℕ) (bs : List Block) → flat_map piece_fillings (pieces n u no_patches j a bs) ≡ flat_map piece_fillings (pieces n u no_patches j b bs)
fillings_any n u j a b [] = gap_only j a j.size ∙ sym (gap_only j b j.size)
fillings_any n u j a b (x ∷ bs) =
    let rest : List Piece = piece n u no_patches j x ∷ pieces n u no_patches j (end_of x) bs in
    gap_fillings (bytes_at j a (x.offset - a)) (x.offset - a == 0) rest ∙ sym (gap_fillings (bytes_at j b (x.offset - b)) (x.offset - b == 0) rest)

-- code has none
parts_none : (n : Module) (u : Tables) (j : Interval) (m : Module) (id : List ℕ) (decode_mode place a : ℕ) (qs : List Part) (more : List Block)
    → flat_map piece_fillings (pieces n u no_patches j a (map (part_block m id decode_mode place) qs ++ more)) ≡ flat_map piece_fillings (pieces n u no_patches j 0 more)
parts_none n u j m id decode_mode place a [] more = fillings_any n u j a 0 more
parts_none n u j m id decode_mode place a (q ∷ qs) more =
    let b : Block = part_block m id decode_mode place q in
    let behind : List Block = map (part_block m id decode_mode place) qs ++ more in
    gap_fillings (bytes_at j a (b.offset - a)) (b.offset - a == 0) (CodePiece (code_block n no_patches j b) ∷ pieces n u no_patches j (end_of b) behind)
    ∙ parts_none n u j m id decode_mode place (end_of b) qs more

module _ (m : Module) (t : Tables) (p : PatchTable) (l : Layout) (i : Interval) (rises : Rises i.exprs) (exprs : Every (IsOneMoved m t p l i) i.exprs) where
  abbrev n : Module
  n = repaired_module m t p

  abbrev u : Tables
  u = moved_tables m t p

  abbrev new : Program
  new = repaired_program m t p

  abbrev g : Program
  g = program m t p

  abbrev s : Stretch
  s = stretch m t p i

  abbrev j : Interval
  j = stretched m p i (stretch m t p i)

  abbrev brought : List Expr
  brought = flat_map (brings_of m p) (placed (stretch m t p i))

  abbrev One : ℕ × Filling → ℕ × Filling → Type 0
  One a b = IsOneFilling l (repaired_program m t p) (program m t p) a b

  abbrev FillingsOne : List (ℕ × Filling) → List (ℕ × Filling) → Type 0
  FillingsOne xs ys = AllZip (IsOneFilling l (repaired_program m t p) (program m t p)) xs ys

  abbrev data_at_offset : ℕ → List ℕ → ℕ → Block
  data_at_offset offset uuid size = record { offset = offset; body = bodies.Data uuid size }

  -- ---- one data block

  abbrev IsGood : Block → Expr → Type 0
  IsGood b e = (covers e.at b ≡ true) × IsOneMoved m t p l i e

  expr_one : (b d : Block) → IsMovedBlock s b d → (e : Expr) → IsGood b e → BothOr (IsOneFilling l (repaired_program m t p) (program m t p)) (filling_at n u no_patches j d (moved_expr s e)) (filling_at m t p i b e)
  expr_one b d moved e h =
      let at : new_offset s e.at ≡ d.offset + (e.at - b.offset) = moved.inside e.at h.0 in
      let depth : new_offset s e.at - d.offset ≡ e.at - b.offset = omega (arith, at) in
      let size : ℕ = expr_size t i.uuid e.at in
      subst (λ k. BothOr (IsOneFilling l new g) (option_map (λ f. (k, f)) (filling n no_patches (expr_size u i.uuid (new_offset s e.at)) e.value)) (filling_at m t p i b e)) (sym depth)
      (subst (λ k. BothOr (IsOneFilling l new g) (option_map (λ f. (e.at - b.offset, f)) (filling n no_patches k e.value)) (filling_at m t p i b e)) (sym h.1.size)
      (at_one m t p l (e.at - b.offset) (filling n no_patches size e.value) (filling m p size e.value) (filling_one m t p l size e.value h.1.value)))

  exprs_one : (b d : Block) → IsMovedBlock s b d → (es : List Expr) → Every (IsGood b) es → FillingsOne (filter_map (filling_at n u no_patches j d) (map (moved_expr s) es)) (filter_map (filling_at m t p i b) es)
  exprs_one b d moved [] h = tt
  exprs_one b d moved (e ∷ es) h =
      zip_option (IsOneFilling l new g) (filling_at n u no_patches j d (moved_expr s e)) (filling_at m t p i b e) (filter_map (filling_at n u no_patches j d) (map (moved_expr s) es)) (filter_map (filling_at m t p i b) es)
      (expr_one b d moved e h.0) (exprs_one b d moved es h.1)

  data_one : (b d : Block) → IsMovedBlock s b d → Every (λ (e : Expr). covers e.at d ≡ false) brought → FillingsOne (data_block n u no_patches j d).fillings (data_block m t p i b).fillings
  data_one b d moved none =
      let own : List Expr = filter (λ (e : Expr). covers e.at b) i.exprs in
      let good : Every (IsGood b) own = every_both (λ (e : Expr). covers e.at b ≡ true) (IsOneMoved m t p l i) own (kept_pass (λ (e : Expr). covers e.at b) i.exprs) (every_filter (λ (e : Expr). covers e.at b) (IsOneMoved m t p l i) i.exprs exprs) in
      subst (λ es. FillingsOne (filter_map (filling_at n u no_patches j d) es) (data_block m t p i b).fillings) (sym (block_exprs s b d moved i.exprs brought rises none)) (exprs_one b d moved own good)

  -- ---- its place

  block_moved : (end at offset : ℕ) (uuid : List ℕ) (size : ℕ) (bs : List Block) → let b : Block = data_at_offset offset uuid size in IsRoom m t p i end at b bs → IsMovedBlock s b (data_at_offset (place_at m t p i end at b) uuid size)
  block_moved end at offset uuid size bs room =
      let b : Block = data_at_offset offset uuid size in
      let place : ℕ = place_at m t p i end at b in
      let d : Block = data_at_offset place uuid size in
      let next : ℕ = end_at m t p i end at b in
      let more : List Piece = pieces m t p i (end_of b) bs in
      let count : length (bytes_at i offset size) ≡ size = length-bytes_at i offset size in
      record {
        inside = λ a h. let both = covers_out a b h in room.inside a both.0 both.1;
        same = λ a.
            elim (cases_lt a offset) [
              | inl low ↦ covers_low (new_offset s a) d (room.before a low) ∙ sym (covers_low a b low)
              | inr ge ↦
                  elim (cases_lt a (offset + size)) [
                    | inl lt ↦
                        let same : new_offset s a ≡ place + (a - offset) = room.inside a ge lt in
                        covers_in (new_offset s a) d (omega (arith, same)) (omega (arith, same, ge, lt)) ∙ sym (covers_in a b ge lt)
                    | inr high ↦
                        let same = room.behind a high in
                        let low = lowest a (end_of b) next more in
                        covers_high (new_offset s a) d (omega (arith, same, low, count)) ∙ sym (covers_high a b high)
                  ]
            ];
      }

  block_alone : (end at offset : ℕ) (uuid : List ℕ) (size : ℕ) (bs : List Block) → let b : Block = data_at_offset offset uuid size in IsRoom m t p i end at b bs → Every (λ (e : Expr). covers e.at (data_at_offset (place_at m t p i end at b) uuid size) ≡ false) brought
  block_alone end at offset uuid size bs room =
      let b : Block = data_at_offset offset uuid size in
      let place : ℕ = place_at m t p i end at b in
      let d : Block = data_at_offset place uuid size in
      let next : ℕ = end_at m t p i end at b in
      let more : List Piece = pieces m t p i (end_of b) bs in
      let count : length (bytes_at i offset size) ≡ size = length-bytes_at i offset size in
      none_covered d brought
      (λ k h.
      let both = covers_out k d h in
      room.brings k both.0 ∙ none_from k next (flat_map (brings_of m p) (placed_from next more)) (all_over m p next more) (let lt = both.1 in omega (arith, lt, count)))

  -- ---- block by block

  abbrev now : ℕ → List Block → List (List (ℕ × Filling))
  now a bs = flat_map piece_fillings (pieces n u no_patches j a bs)

  abbrev before : ℕ → List Block → List (List (ℕ × Filling))
  before at bs = flat_map piece_fillings (pieces m t p i at bs)

  abbrev AllOne : List (List (ℕ × Filling)) → List (List (ℕ × Filling)) → Type 0
  AllOne xs ys = AllZip FillingsOne xs ys

  body_fillings : (end at a offset : ℕ) (body : Body) (more bs : List Block) → let b : Block = record { offset = offset; body = body } in IsFit m p i b → IsRoom m t p i end at b bs
      → AllOne (now 0 more) (before (end_of b) bs) → AllOne (now a (body_at m p i (place_at m t p i end at b) b body ++ more)) (piece_fillings (piece m t p i b) ++ before (end_of b) bs)
  body_fillings end at a offset bodies.Bare more bs fit room rest = absurd (both_ways true fit.bodied refl)
  body_fillings end at a offset (bodies.Code uuid size decode_mode) more bs fit room rest =
      let b : Block = record { offset = offset; body = bodies.Code uuid size decode_mode } in
      subst (λ xs. AllOne xs (before (end_of b) bs)) (sym (parts_none n u j m uuid decode_mode (place_at m t p i end at b) a (parts (code_block m p i b)) more)) rest
  body_fillings end at a offset (bodies.Data uuid size) more bs fit room rest =
      let b : Block = data_at_offset offset uuid size in
      let d : Block = data_at_offset (place_at m t p i end at b) uuid size in
      let own : List (ℕ × Filling) = (data_block n u no_patches j d).fillings in
      let same : now a (d ∷ more) ≡ own ∷ now 0 more =
      gap_fillings (bytes_at j a (d.offset - a)) (d.offset - a == 0) (DataPiece (data_block n u no_patches j d) ∷ pieces n u no_patches j (end_of d) more) ∙ ap (λ xs. own ∷ xs) (fillings_any n u j (end_of d) 0 more) in
      subst (λ xs. AllOne xs ((data_block m t p i b).fillings ∷ before (end_of b) bs)) (sym same) (data_one b d (block_moved end at offset uuid size bs room) (block_alone end at offset uuid size bs room), rest)

  blocks_fillings : (end at a : ℕ) (bs : List Block) → Behind at bs → Every (IsFit m p i) bs → IsWalked m t p i end at bs → AllOne (now a (flat_map (block_at m p i) (spots (piece m t p i) end at bs))) (before at bs)
  blocks_fillings end at a [] behind fit walked =
      subst (λ xs. AllOne xs (before at [])) (sym (gap_only j a j.size)) (subst (λ ys. AllOne [] ys) (sym (gap_only i at i.size)) tt)
  blocks_fillings end at a (b ∷ bs) behind fit walked =
      let size = size_kept m t p i b fit.0 in
      let room : IsRoom m t p i end at b bs = room_of m t p i end at b bs behind.0 size walked in
      let next : ℕ = end_at m t p i end at b in
      let more : List Block = flat_map (block_at m p i) (spots (piece m t p i) next (end_of b) bs) in
      let rest : AllOne (now 0 more) (before (end_of b) bs) = blocks_fillings next (end_of b) 0 bs behind.1 fit.1 (walk_on m t p i end at b bs size (size_counted m t p i b fit.0) room) in
      subst (λ ys. AllOne (now a (body_at m p i (place_at m t p i end at b) b b.body ++ more)) ys) (sym (gap_fillings (bytes_at i at (b.offset - at)) (b.offset - at == 0) (piece m t p i b ∷ pieces m t p i (end_of b) bs)))
      (body_fillings end at a b.offset b.body more bs fit.0 room rest)

  -- with its words, the interval says one thing
  pub stretched_says : IsKnown m t p i → list_any (has_words p) i.blocks ≡ true → NamesOne m t p l i → SaysOne m t p l i
  stretched_says known some words =
      let order : fillings_of (stretch n u no_patches j) ≡ now 0 (flat_map (block_at m p i) (spots (piece m t p i) 0 0 (in_order i.blocks))) = ap (now 0) (new_order m t p i known) in
      let here : AllOne (fillings_of (stretch n u no_patches j)) (fillings_of s) =
      subst (λ xs. AllOne xs (fillings_of s)) (sym order) (blocks_fillings 0 0 0 (in_order i.blocks) known.behind known.fit (start m t p i)) in
      record {
        words = words;
        fillings = subst (λ x. AllOne (fillings_of (stretch n u no_patches (if x then j else i))) (fillings_of s)) (sym some) here;
      }
