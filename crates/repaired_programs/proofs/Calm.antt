-- Where no words are inserted the bytes of an interval stay.
use Rattle.std.proofs.Common.{◌≡◌, ℕ, suc, ◌+◌, ◌-◌, ◌*◌, ◌/◌, ◌%◌, ◌≤◌, ◌<◌, Bool, true, false, List, [], ◌∷◌, ◌++◌, length, map, refl, sym, ap, ◌∙◌, subst, inl, inr, arith}
use Rattle.std.specs.Prelude.{◌==◌, if◌then◌else◌, nat_lt}
use Rattle.std.specs.List.{AllByRecursion as Every, list_any}
use Rattle.std.proofs.lemmas.Bool.{both_ways, cases_lt, eqb-true, le-ltb, lt-ltb, not-false}
use Rattle.gt_model.specs.declared.intervals.Block.{Block}
use Rattle.gt_model.specs.declared.intervals.Body.{Body}
use Rattle.gt_model.specs.declared.intervals.Body.TheVariants as bodies
use Rattle.gt_model.specs.declared.intervals.Interval.{Interval}
use Rattle.gt_model.specs.declared.ir.Ir.{Ir}
use Rattle.gt_model.specs.declared.modules.Module.{Module}
use Rattle.rewrite.specs.Offsets.{new_depth, new_offset, offset_among}
use Rattle.rewrite.specs.Rewritten.{has_words}
use Rattle.sym_expr.specs.declared.patches.PatchTable.{PatchTable}
use Rattle.sym_expr.specs.declared.patches.PatchWord.{PatchWord}
use Rattle.sym_expr.specs.declared.program.CodeBlock.{CodeBlock}
use Rattle.sym_expr.specs.declared.program.Piece.{Piece}
use Rattle.sym_expr.specs.declared.program.Piece.TheVariants.{Code as CodePiece, Data as DataPiece, Gap}
use Rattle.sym_expr.specs.declared.program.Program.{Program}
use Rattle.sym_expr.specs.declared.program.Word.{Word}
use Rattle.sym_expr.specs.Layouts.{least_from}
use Rattle.sym_expr.specs.Linkable.{formed}
use Rattle.sym_expr.specs.Modules.{bytes_at, end_of, id_of, in_order, loaded_intervals, size_of}
use Rattle.sym_expr.specs.Patches.{inserted_in}
use Rattle.sym_expr.specs.Placing.{new_size, placed_from}
use Rattle.sym_expr.specs.Points.{data_size}
use Rattle.sym_expr.specs.Program.{code_block, data_block, patched_word, piece, pieces, program, stretch}
use Rattle.sym_expr.specs.Tables.{alignment_entry, effective, Tables}
use Rattle.sym_expr.specs.WellMade.{IsCode, well_made}
use Rattle.repaired_programs.proofs.Becomes.{IsFit, length-own_words, whole_code}
use Rattle.repaired_programs.proofs.Found.{below, below_all}
use Rattle.repaired_programs.proofs.Known.{all_known, IsCounted}
use Rattle.repaired_programs.proofs.Lists.{every_weaker, none_of_any}
use Rattle.repaired_programs.proofs.Readings.{nil_of}
use Rattle.repaired_programs.proofs.Sorted.{each_in_order}
use Rattle.repaired_programs.proofs.Spots.{Behind, length-bytes_at, no_padding, place_of}
use Rattle.repaired_programs.proofs.Stands.{IsKnown}
use Rattle.repaired_programs.proofs.Walked.{end_at, IsRoom, IsWalked, place_at, room_of, size_counted, size_kept, start, walk_on}
use Rattle.repaired_programs.proofs.Walks.{step_divides}

-- a byte of a gap
gap_there : (i : Interval) (from to end a : ℕ) (x : Bool) (ps : List Piece) → (to - from == 0) ≡ x → from ≤ a → a < to → offset_among a from end (placed_from end ((if x then [] else Gap (bytes_at i from (to - from)) ∷ []) ++ ps)) ≡ end + (a - from)
gap_there i from to end a true ps e le lt = let none = eqb-true (to - from) 0 e in absurd (omega (arith, none, le, lt))
gap_there i from to end a false ps e le lt =
    let count = length-bytes_at i from (to - from) in
    let still = no_padding end 1 (omega arith) in
    let bytes : List ℕ = bytes_at i from (to - from) in
    let next : ℕ = least_from end 1 0 + length bytes in
    ap (λ c. if c then least_from end 1 0 + (a - from) else offset_among a (from + length bytes) next (placed_from next ps)) (lt-ltb a (from + length bytes) (omega (arith, count, lt, le)))
    ∙ ap (λ k. k + (a - from)) still

-- behind the last block
last_there : (i : Interval) (at a : ℕ) (x : Bool) → (i.size - at == 0) ≡ x → at ≤ a → a ≤ i.size → offset_among a at at (placed_from at (if x then [] else Gap (bytes_at i at (i.size - at)) ∷ [])) ≡ a
last_there i at a true e le most = let none = eqb-true (i.size - at) 0 e in omega (arith, none, le, most)
last_there i at a false e le most =
    let count = length-bytes_at i at (i.size - at) in
    let still = no_padding at 1 (omega arith) in
    let bytes : List ℕ = bytes_at i at (i.size - at) in
    let next : ℕ = least_from at 1 0 + length bytes in
    elim (cases_lt a i.size) [
      | inl lt ↦
          ap (λ c. if c then least_from at 1 0 + (a - at) else next) (lt-ltb a (at + length bytes) (omega (arith, count, lt, le)))
          ∙ omega (arith, still, le)
      | inr ge ↦
          ap (λ c. if c then least_from at 1 0 + (a - at) else next) (le-ltb a (at + length bytes) (omega (arith, count, ge, le)))
          ∙ omega (arith, still, count, ge, le, most)
    ]

module _ (m : Module) (t : Tables) (p : PatchTable) (i : Interval) where
  -- a block without inserted words stays at its offset, with its size, and so do its bytes
  record IsCalm (b : Block) : Type 0 where
    place : place_of b.offset (piece m t p i b) ≡ b.offset
    size : new_size (piece m t p i b) ≡ size_of b
    depth : (d : ℕ) → new_depth d (piece m t p i b) ≡ d

  none_inserted : (b : Block) → has_words p b ≡ false → length (code_block m p i b).inserted ≡ 0
  none_inserted b none =
      let zero_words : length (inserted_in p (id_of b)) ≡ 0 = eqb-true (length (inserted_in p (id_of b))) 0 (not-false (length (inserted_in p (id_of b)) == 0) none) in
      ap (λ ws. length (map (λ (w : ℕ × PatchWord). let v : ℕ × Word = (w.0, patched_word m p w.1) in v) ws)) (nil_of (inserted_in p (id_of b)) zero_words)

  body_calm : (offset : ℕ) (body : Body) → let b : Block = record { offset = offset; body = body } in IsFit m p i b → has_words p b ≡ false → IsCalm b
  body_calm offset bodies.Bare fit none = absurd (both_ways true fit.bodied refl)
  body_calm offset (bodies.Code uuid size decode_mode) fit none =
      let b : Block = record { offset = offset; body = bodies.Code uuid size decode_mode } in
      let c : CodeBlock = code_block m p i b in
      let zero_words = none_inserted b none in
      let words = length-own_words m p i offset (size / 4) in
      let whole : size % 4 ≡ 0 = whole_code b fit.straight refl in
      record {
        place = no_padding offset 1 (omega arith);
        size = omega (arith, zero_words, words, whole);
        depth = λ d. let most = below_all (d + 1) c.inserted in omega (arith, most, zero_words);
      }
  body_calm offset (bodies.Data uuid size) fit none =
      let count = length-bytes_at i offset size in
      let o = alignment_entry t uuid in
      record {
        place = no_padding offset (effective o (length (bytes_at i offset size)) offset) (step_divides o (length (bytes_at i offset size)) offset);
        size = count;
        depth = λ d. refl;
      }

  calm_from : (at : ℕ) (bs : List Block) → Behind at bs → Every (IsFit m p i) bs → Every (λ b. has_words p b ≡ false) bs → IsWalked m t p i at at bs → (a : ℕ) → at ≤ a → a ≤ i.size → new_offset (stretch m t p i) a ≡ a
  calm_from at [] behind fit none walked a le most = walked.beyond a le ∙ last_there i at a (i.size - at == 0) refl le most
  calm_from at (b ∷ bs) behind fit none walked a le most =
      let calm : IsCalm b = body_calm b.offset b.body fit.0 none.0 in
      let size = size_kept m t p i b fit.0 in
      let room : IsRoom m t p i at at b bs = room_of m t p i at at b bs behind.0 size walked in
      let level : at + (b.offset - at) ≡ b.offset = let low : at ≤ b.offset = behind.0 in omega (arith, low) in
      let place : place_at m t p i at at b ≡ b.offset = ap (λ k. place_of k (piece m t p i b)) level ∙ calm.place in
      let new_end : end_at m t p i at at b ≡ end_of b = let new_room = calm.size in omega (arith, place, new_room) in
      elim (cases_lt a b.offset) [
        | inl lt ↦ walked.beyond a le ∙ gap_there i at b.offset at a (b.offset - at == 0) (piece m t p i b ∷ pieces m t p i (end_of b) bs) refl le lt ∙ omega (arith, le)
        | inr ge ↦
            elim (cases_lt a (end_of b)) [
              | inl inside ↦
                  let here = room.inside a ge inside in
                  let depth = calm.depth (a - b.offset) in
                  omega (arith, here, depth, place, ge)
              | inr behind_it ↦
                  let next : IsWalked m t p i (end_of b) (end_of b) bs = subst (λ k. IsWalked m t p i k (end_of b) bs) new_end (walk_on m t p i at at b bs size (size_counted m t p i b fit.0) room) in
                  calm_from (end_of b) bs behind.1 fit.1 none.1 next a behind_it most
            ]
      ]

  pub calm_offset : IsKnown m t p i → list_any (has_words p) i.blocks ≡ false → (a : ℕ) → a ≤ i.size → new_offset (stretch m t p i) a ≡ a
  calm_offset known none a most =
      calm_from 0 (in_order i.blocks) known.behind known.fit (each_in_order (λ b. has_words p b ≡ false) i.blocks (none_of_any (has_words p) i.blocks none)) (start m t p i) a (omega arith) most
