-- The words of an interval where words are inserted name one thing each in both programs.
use Rattle.std.proofs.Common.{◌≡◌, ℕ, ◌+◌, ◌-◌, ◌*◌, ◌/◌, ◌%◌, true, false, List, [], ◌∷◌, ◌++◌, length, map, refl, sym, ap, ◌∙◌, subst, arith}
use Rattle.std.specs.Prelude.{◌==◌, filter, find, IfSome, nat_lt, if◌then◌else◌}
use Rattle.std.specs.List.{AllByRecursion as Every, AllZip, flat_map, list_any}
use Rattle.std.specs.Option.{option_or}
use Rattle.std.specs.Str.{bytes_eq}
use Rattle.std.proofs.lemmas.Bool.{both_ways, le-ltb}
use Rattle.std.proofs.lemmas.List.{append-nil, append_assoc}
use Rattle.block_parts.specs.declared.parts.Part.{Part}
use Rattle.block_parts.specs.declared.words.PatchedWord.{PatchedWord}
use Rattle.block_parts.specs.Parts.{cut_words, parts_from}
use Rattle.block_parts.specs.Words.{patched_words}
use Rattle.edge_repair.specs.Repaired.{repaired_module}
use Rattle.gt_model.specs.declared.exprs.Expr.{Expr}
use Rattle.gt_model.specs.declared.intervals.Block.{Block}
use Rattle.gt_model.specs.declared.intervals.Body.{Body}
use Rattle.gt_model.specs.declared.intervals.Body.TheVariants as bodies
use Rattle.gt_model.specs.declared.intervals.Interval.{Interval}
use Rattle.gt_model.specs.declared.modules.Module.{Module}
use Rattle.repaired_programs.specs.Intervals.{AimsOne}
use Rattle.repaired_programs.specs.Named.{IsOneWord, piece_words, words_of}
use Rattle.repaired_programs.specs.Programs.{repaired_program}
use Rattle.rewrite.specs.Blocks.{part_block}
use Rattle.rewrite.specs.Exprs.{brought_in, moved_expr, news_of}
use Rattle.rewrite.specs.Places.{moved_tables}
use Rattle.rewrite.specs.Rewritten.{has_words, new_interval, stretched}
use Rattle.sym_expr.specs.declared.layout.Layout.{Layout}
use Rattle.sym_expr.specs.declared.patches.Insert.{Insert}
use Rattle.sym_expr.specs.declared.patches.PatchTable.{PatchTable}
use Rattle.sym_expr.specs.declared.patches.PatchWord.{PatchWord}
use Rattle.sym_expr.specs.declared.program.CodeBlock.{CodeBlock}
use Rattle.sym_expr.specs.declared.program.Piece.{Piece}
use Rattle.sym_expr.specs.declared.program.Piece.TheVariants.{Code as CodePiece, Data as DataPiece}
use Rattle.sym_expr.specs.declared.program.Program.{Program}
use Rattle.sym_expr.specs.declared.program.Stretch.{Stretch}
use Rattle.sym_expr.specs.declared.program.Word.{Word}
use Rattle.sym_expr.specs.Images.{all_words}
use Rattle.sym_expr.specs.Modules.{bytes_at, end_of, in_order, size_of}
use Rattle.sym_expr.specs.Patches.{inserted_in, no_patches}
use Rattle.sym_expr.specs.Placing.{placed, placed_from}
use Rattle.sym_expr.specs.Points.{code_of, code_size}
use Rattle.sym_expr.specs.Program.{code_block, data_block, expr_at, gap, own_words, piece, pieces, program, stretch}
use Rattle.sym_expr.specs.TableOk.{typed_patches}
use Rattle.sym_expr.specs.Tables.{Tables}
use Rattle.sym_expr.specs.WellMade.{IsCode, IsInserted}
use Rattle.repaired_programs.proofs.Bare.{AreNamed}
use Rattle.repaired_programs.proofs.Becomes.{block_at, body_at, count, cut_count, IsFit, length-own_words, whole_code}
use Rattle.repaired_programs.proofs.Bits.{words_one}
use Rattle.repaired_programs.proofs.Found.{at_place, below, by_found, find_append, none_from}
use Rattle.repaired_programs.proofs.Lists.{every_filter, every_flat, every_map, every_weaker}
use Rattle.repaired_programs.proofs.Moved.{all_words_have, HaveExprs, or_none}
use Rattle.repaired_programs.proofs.Points.{counted_first}
use Rattle.repaired_programs.proofs.Readings.{gap_words, quiet_from}
use Rattle.repaired_programs.proofs.Rewritten.{interval_new}
use Rattle.repaired_programs.proofs.Said.{own_append}
use Rattle.repaired_programs.proofs.Small.{HasBytes}
use Rattle.repaired_programs.proofs.Spots.{Behind}
use Rattle.repaired_programs.proofs.Sources.{AllValues, NamesOne, sources, words_there}
use Rattle.repaired_programs.proofs.Spots.{length-bytes_at, spots}
use Rattle.repaired_programs.proofs.Stands.{IsKnown, new_order}
use Rattle.repaired_programs.proofs.Walked.{all_over, brings_of, end_at, IsRoom, IsWalked, lowest, place_at, room_of, size_counted, size_kept, start, walk_on}
use Rattle.repaired_programs.proofs.Zipped.{zip_append}

-- ---- words of pieces don't ask where gaps are

gap_only : (j : Interval) (from to : ℕ) → flat_map piece_words (gap j from to) ≡ []
gap_only j from to = ap (flat_map piece_words) (sym (append-nil (gap j from to))) ∙ gap_words (bytes_at j from (to - from)) (to - from == 0) []

words_any : (n : Module) (u : Tables) (j : Interval) (a b : ℕ) (bs : List Block) → flat_map piece_words (pieces n u no_patches j a bs) ≡ flat_map piece_words (pieces n u no_patches j b bs)
words_any n u j a b [] = gap_only j a j.size ∙ sym (gap_only j b j.size)
words_any n u j a b (x ∷ bs) =
    let rest : List Piece = piece n u no_patches j x ∷ pieces n u no_patches j (end_of x) bs in
    gap_words (bytes_at j a (x.offset - a)) (x.offset - a == 0) rest ∙ sym (gap_words (bytes_at j b (x.offset - b)) (x.offset - b == 0) rest)

parts_own : (n : Module) (u : Tables) (j : Interval) (m : Module) (id : List ℕ) (decode_mode place a start : ℕ) (pss : List (List PatchedWord)) (more : List Block)
    → flat_map piece_words (pieces n u no_patches j a (map (part_block m id decode_mode place) (parts_from start pss) ++ more)) ≡ own_words n no_patches j (place + start) (count pss) ++ flat_map piece_words (pieces n u no_patches j 0 more)
parts_own n u j m id decode_mode place a start [] more = words_any n u j a 0 more
parts_own n u j m id decode_mode place a start (words ∷ pss) more =
    let q : Part = record { start = start; words = words } in
    let b : Block = part_block m id decode_mode place q in
    let behind : List Block = map (part_block m id decode_mode place) (parts_from (start + 4 * length words) pss) ++ more in
    let tail : List Word = flat_map piece_words (pieces n u no_patches j (end_of b) behind) in
    let last : List Word = flat_map piece_words (pieces n u no_patches j 0 more) in
    let whole : 4 * length words / 4 ≡ length words = omega arith in
    let next : place + (start + 4 * length words) ≡ place + start + 4 * length words = omega arith in
    gap_words (bytes_at j a (b.offset - a)) (b.offset - a == 0) (CodePiece (code_block n no_patches j b) ∷ pieces n u no_patches j (end_of b) behind)
    ∙ ap (λ l. l ++ tail) (quiet_from (code_block n no_patches j b) 0 (code_block n no_patches j b).own refl)
    ∙ ap (λ k. own_words n no_patches j (place + start) k ++ tail) whole
    ∙ ap (λ l. own_words n no_patches j (place + start) (length words) ++ l) (parts_own n u j m id decode_mode place (end_of b) (start + 4 * length words) pss more)
    ∙ ap (λ k. own_words n no_patches j (place + start) (length words) ++ (own_words n no_patches j k (count pss) ++ last)) next
    ∙ sym (append_assoc (own_words n no_patches j (place + start) (length words)) (own_words n no_patches j (place + start + 4 * length words) (count pss)) last)
    ∙ ap (λ l. l ++ last) (sym (own_append n no_patches j (place + start) (length words) (count pss)))

below_zero : (ws : List (ℕ × Word)) → below 0 ws ≡ 0
below_zero [] = refl
below_zero (w ∷ ws) =
    let here = counted_first (λ (w : ℕ × Word). nat_lt w.0 0) w ws false (le-ltb w.0 0 (omega arith)) in
    let rest = below_zero ws in
    omega (arith, here, rest)

-- ---- what the words of the patches aim at

aims_in : (m : Module) (t : Tables) (p : PatchTable) (l : Layout) (id : List ℕ) → Every (λ (x : Insert). Every (AimsOne m t p l) x.body) p.inserts → Every (λ (w : ℕ × PatchWord). AimsOne m t p l w.1) (inserted_in p id)
aims_in m t p l id h =
    let P : ℕ × PatchWord → Type 0 = λ w. AimsOne m t p l w.1 in
    every_flat (λ (x : Insert). map (λ (w : PatchWord). let v : ℕ × PatchWord = (x.offset, w) in v) x.body) P (filter (λ (x : Insert). bytes_eq x.block id) p.inserts)
    (every_filter (λ (x : Insert). bytes_eq x.block id) (λ (x : Insert). Every P (map (λ (w : PatchWord). let v : ℕ × PatchWord = (x.offset, w) in v) x.body)) p.inserts
    (every_weaker (λ (x : Insert). Every (AimsOne m t p l) x.body) (λ (x : Insert). Every P (map (λ (w : PatchWord). let v : ℕ × PatchWord = (x.offset, w) in v) x.body))
    (λ x k. every_map (λ (w : PatchWord). let v : ℕ × PatchWord = (x.offset, w) in v) P x.body k) p.inserts h))

module _ (m : Module) (t : Tables) (p : PatchTable) (l : Layout) (i : Interval) (values : AllValues m t p l i.exprs) (aims : Every (λ (x : Insert). Every (AimsOne m t p l) x.body) p.inserts) where
  abbrev n : Module
  n = repaired_module m t p

  abbrev u : Tables
  u = moved_tables m t p

  abbrev g : Program
  g = program m t p

  abbrev s : Stretch
  s = stretch m t p i

  abbrev j : Interval
  j = stretched m p i (stretch m t p i)

  abbrev brought : List Expr
  brought = flat_map (brings_of m p) (placed (stretch m t p i))

  abbrev Names : Word → Word → Type 0
  Names v w = NamesOne m t p l v w

  here : (k : ℕ) → expr_at k j ≡ option_or (find (at_place k) (map (moved_expr s) i.exprs)) (find (at_place k) brought)
  here k = by_found k (map (moved_expr s) i.exprs ++ brought) ∙ find_append (at_place k) (map (moved_expr s) i.exprs) brought

  abbrev code_at_offset : ℕ → List ℕ → ℕ → ℕ → Block
  code_at_offset offset uuid size decode_mode = record { offset = offset; body = bodies.Code uuid size decode_mode }

  block_has : (end at offset : ℕ) (uuid : List ℕ) (size decode_mode : ℕ) (bs : List Block) → let b : Block = code_at_offset offset uuid size decode_mode in IsFit m p i b → IsCode g (code_block m p i b) → IsRoom m t p i end at b bs
      → HaveExprs j i s m (news_of p uuid) offset (place_at m t p i end at b) (patched_words (code_block m p i b))
  block_has end at offset uuid size decode_mode bs fit code room =
      let b : Block = code_at_offset offset uuid size decode_mode in
      let c : CodeBlock = code_block m p i b in
      let place : ℕ = place_at m t p i end at b in
      let next : ℕ = end_at m t p i end at b in
      let more : List Piece = pieces m t p i (end_of b) bs in
      let rest : List Expr = flat_map (brings_of m p) (placed_from next more) in
      let words = length-own_words m p i offset (size / 4) in
      let whole_size : size % 4 ≡ 0 = whole_code b fit.straight refl in
      let all : code_size c ≡ size = omega (arith, words, whole_size) in
      let zero_below = below_zero c.inserted in
      all_words_have j i s m c.inserted (news_of p uuid) brought offset place (code_size c) next room.before (λ a ge lt. room.inside a ge (omega (arith, lt, all)))
      (λ a ge.
      let same = room.behind a (omega (arith, ge, all)) in
      let low = lowest a (end_of b) next more in
      omega (arith, same, low))
      (every_weaker (IsInserted g c) (λ (w : ℕ × Word). w.0 % 4 ≡ 0) (λ w k. k.0) c.inserted code.inserted) here (omega arith) 0 c.own place refl (omega arith) (omega (arith, zero_below))
      (λ k le lt.
      room.brings k le ∙ ap (λ o. option_or (find (at_place k) (brought_in m p place (CodePiece c))) o) (none_from k next rest (all_over m p next more) lt) ∙ or_none (find (at_place k) (brought_in m p place (CodePiece c))))

  block_named : (end at offset : ℕ) (uuid : List ℕ) (size decode_mode : ℕ) (bs : List Block) → let b : Block = code_at_offset offset uuid size decode_mode in IsFit m p i b → IsCode g (code_block m p i b) → IsRoom m t p i end at b bs
      → AllZip Names (own_words n no_patches j (place_at m t p i end at b) (length (patched_words (code_block m p i b)))) (all_words (code_block m p i b))
  block_named end at offset uuid size decode_mode bs fit code room =
      let b : Block = code_at_offset offset uuid size decode_mode in
      let c : CodeBlock = code_block m p i b in
      let same : offset ≡ offset + 0 = omega arith in
      words_there m t p l i s offset (news_of p uuid) j (place_at m t p i end at b) (patched_words c) (all_words c) (block_has end at offset uuid size decode_mode bs fit code room)
      (sources m t p l i s offset (news_of p uuid) c (inserted_in p uuid) (size / 4) refl (ap (λ k. own_words m p i k (size / 4)) same) refl (aims_in m t p l uuid aims) values)

  -- ---- block by block

  abbrev now : ℕ → List Block → List Word
  now a bs = flat_map piece_words (pieces n u no_patches j a bs)

  abbrev before : ℕ → List Block → List Word
  before at bs = flat_map piece_words (pieces m t p i at bs)

  body_words : (end at a offset : ℕ) (body : Body) (more bs : List Block) → let b : Block = record { offset = offset; body = body } in IsFit m p i b → IfSome (code_of (piece m t p i b)) (IsCode g) → IsRoom m t p i end at b bs
      → AllZip Names (now 0 more) (before (end_of b) bs) → AllZip Names (now a (body_at m p i (place_at m t p i end at b) b body ++ more)) (piece_words (piece m t p i b) ++ before (end_of b) bs)
  body_words end at a offset bodies.Bare more bs fit code room rest = absurd (both_ways true fit.bodied refl)
  body_words end at a offset (bodies.Code uuid size decode_mode) more bs fit code room rest =
      let b : Block = code_at_offset offset uuid size decode_mode in
      let c : CodeBlock = code_block m p i b in
      let place : ℕ = place_at m t p i end at b in
      let none : place + 0 ≡ place = omega arith in
      let same : now a (body_at m p i place b (bodies.Code uuid size decode_mode) ++ more) ≡ own_words n no_patches j place (length (patched_words c)) ++ now 0 more =
      parts_own n u j m uuid decode_mode place a 0 (cut_words (patched_words c)) more ∙ ap (λ k. own_words n no_patches j k (count (cut_words (patched_words c))) ++ now 0 more) none
      ∙ ap (λ k. own_words n no_patches j place k ++ now 0 more) (cut_count (patched_words c)) in
      subst (λ vs. AllZip Names vs (all_words c ++ before (end_of b) bs)) (sym same)
      (zip_append Names (own_words n no_patches j place (length (patched_words c))) (now 0 more) (all_words c) (before (end_of b) bs) (block_named end at offset uuid size decode_mode bs fit code room) rest)
  body_words end at a offset (bodies.Data uuid size) more bs fit code room rest =
      let b : Block = record { offset = offset; body = bodies.Data uuid size } in
      let d : Block = record { offset = place_at m t p i end at b; body = bodies.Data uuid size } in
      subst (λ vs. AllZip Names vs (before (end_of b) bs)) (sym (gap_words (bytes_at j a (d.offset - a)) (d.offset - a == 0) (DataPiece (data_block n u no_patches j d) ∷ pieces n u no_patches j (end_of d) more) ∙ words_any n u j (end_of d) 0 more)) rest

  blocks_words : (end at a : ℕ) (bs : List Block) → Behind at bs → Every (IsFit m p i) bs → Every (λ b. IfSome (code_of (piece m t p i b)) (IsCode g)) bs → IsWalked m t p i end at bs
      → AllZip Names (now a (flat_map (block_at m p i) (spots (piece m t p i) end at bs))) (before at bs)
  blocks_words end at a [] behind fit code walked =
      subst (λ vs. AllZip Names vs (before at [])) (sym (gap_only j a j.size)) (subst (λ ws. AllZip Names [] ws) (sym (gap_only i at i.size)) tt)
  blocks_words end at a (b ∷ bs) behind fit code walked =
      let size = size_kept m t p i b fit.0 in
      let counted = size_counted m t p i b fit.0 in
      let room : IsRoom m t p i end at b bs = room_of m t p i end at b bs behind.0 size walked in
      let next : ℕ = end_at m t p i end at b in
      let more : List Block = flat_map (block_at m p i) (spots (piece m t p i) next (end_of b) bs) in
      let rest : AllZip Names (now 0 more) (before (end_of b) bs) = blocks_words next (end_of b) 0 bs behind.1 fit.1 code.1 (walk_on m t p i end at b bs size counted room) in
      subst (λ ws. AllZip Names (now a (body_at m p i (place_at m t p i end at b) b b.body ++ more)) ws) (sym (gap_words (bytes_at i at (b.offset - at)) (b.offset - at == 0) (piece m t p i b ∷ pieces m t p i (end_of b) bs)))
      (body_words end at a b.offset b.body more bs fit.0 code.0 room rest)

  pub stretched_words : ((b : CodeBlock) → AreNamed b) → typed_patches p → IsKnown m t p i → HasBytes i → Every (λ b. IfSome (code_of (piece m t p i b)) (IsCode g)) (in_order i.blocks) → list_any (has_words p) i.blocks ≡ true
      → AllZip (IsOneWord l (repaired_program m t p) (program m t p)) (words_of (stretch (repaired_module m t p) (moved_tables m t p) no_patches (new_interval m t p i))) (words_of (stretch m t p i))
  stretched_words named typed known bytes code some =
      let ps : List Piece = (stretch n u no_patches j).pieces in
      let qs : List Piece = (stretch m t p i).pieces in
      let order : flat_map piece_words ps ≡ now 0 (flat_map (block_at m p i) (spots (piece m t p i) 0 0 (in_order i.blocks))) = ap (now 0) (new_order m t p i known) in
      let targets : AllZip Names (flat_map piece_words ps) (flat_map piece_words qs) =
      subst (λ vs. AllZip Names vs (flat_map piece_words qs)) (sym order) (blocks_words 0 0 0 (in_order i.blocks) known.behind known.fit code (start m t p i)) in
      let words : AllZip (IsOneWord l (repaired_program m t p) (program m t p)) (words_of (stretch n u no_patches j)) (words_of (stretch m t p i)) =
      words_one named m l (repaired_program m t p) g ps qs (interval_new named m t p i typed (known, bytes)) targets in
      subst (λ x. AllZip (IsOneWord l (repaired_program m t p) (program m t p)) (words_of (stretch n u no_patches (if x then j else i))) (words_of (stretch m t p i))) (sym some) words
