-- How far new offsets and brought expressions have come at each block of an interval.
use Rattle.std.proofs.Common.{◌≡◌, ℕ, suc, ◌+◌, ◌-◌, ◌*◌, ◌/◌, ◌%◌, ◌≤◌, ◌<◌, Bool, true, false, List, [], ◌∷◌, ◌++◌, length, refl, ap, ◌∙◌, subst, inl, inr, arith}
use Rattle.std.specs.Prelude.{◌==◌, find, if◌then◌else◌, nat_lt}
use Rattle.std.specs.List.{AllByRecursion as Every, flat_map}
use Rattle.std.specs.Option.{option_or, option_to_list}
use Rattle.std.proofs.lemmas.Bool.{both_ways, cases_lt, eqb-true, le-ltb, lt-ltb}
use Rattle.block_parts.specs.declared.words.PatchedWord.{PatchedWord}
use Rattle.block_parts.specs.Words.{patched_words}
use Rattle.gt_model.specs.declared.exprs.Expr.{Expr}
use Rattle.gt_model.specs.declared.intervals.Block.{Block}
use Rattle.gt_model.specs.declared.intervals.Body.{Body}
use Rattle.gt_model.specs.declared.intervals.Body.TheVariants as bodies
use Rattle.gt_model.specs.declared.intervals.Interval.{Interval}
use Rattle.gt_model.specs.declared.modules.Module.{Module}
use Rattle.rewrite.specs.Exprs.{brought_from, brought_in, news_of, origin_expr}
use Rattle.rewrite.specs.Offsets.{new_depth, new_offset, offset_among, old_size}
use Rattle.sym_expr.specs.declared.patches.PatchTable.{PatchTable}
use Rattle.sym_expr.specs.declared.patches.PatchWord.{PatchWord}
use Rattle.sym_expr.specs.declared.program.Piece.{Piece}
use Rattle.sym_expr.specs.declared.program.Piece.TheVariants.{Code as CodePiece, Data as DataPiece, Gap}
use Rattle.sym_expr.specs.declared.program.Stretch.{Stretch}
use Rattle.sym_expr.specs.Layouts.{least_from}
use Rattle.sym_expr.specs.Modules.{bytes_at, end_of, in_order, size_of}
use Rattle.sym_expr.specs.Placing.{Placed, new_size, placed, placed_from}
use Rattle.sym_expr.specs.Program.{piece, pieces, stretch}
use Rattle.sym_expr.specs.Tables.{Tables}
use Rattle.repaired_programs.proofs.Becomes.{IsFit, length-own_words, whole_code}
use Rattle.repaired_programs.proofs.Found.{at_place, below_all, find_append, none_below}
use Rattle.repaired_programs.proofs.Known.{IsCountedPiece}
use Rattle.repaired_programs.proofs.Lists.{every_append, every_weaker}
use Rattle.repaired_programs.proofs.Moved.{origin_from}
use Rattle.repaired_programs.proofs.Spots.{length-bytes_at, no_padding, place_of}

-- ---- offsets

depth_small : (d : ℕ) (x : Piece) → d < old_size x → new_depth d x < new_size x
depth_small d (CodePiece b) lt = let most = below_all (d + 1) b.inserted in omega (arith, most, lt)
depth_small d (DataPiece b) lt = lt
depth_small d (Gap bytes) lt = lt

pub lowest : (a from end : ℕ) (ps : List Piece) → end ≤ offset_among a from end (placed_from end ps)
lowest a from end [] = omega arith
lowest a from end (p ∷ ps) =
    let place : ℕ = place_of end p in
    let rest = lowest a (from + old_size p) (place + new_size p) ps in
    either place (offset_among a (from + old_size p) (place + new_size p) (placed_from (place + new_size p) ps)) (new_depth (a - from) p) (nat_lt a (from + old_size p)) (omega arith) (omega (arith, rest))
  where
    either : (place other depth : ℕ) (x : Bool) → end ≤ place → end ≤ other → end ≤ (if x then place + depth else other)
    either place other depth true le more = omega (arith, le)
    either place other depth false le more = more

-- ---- gaps

module _ (i : Interval) where
  gap_offset : (from to end a : ℕ) (x : Bool) (ps : List Piece) → (to - from == 0) ≡ x → from ≤ to → to ≤ a
      → offset_among a from end (placed_from end ((if x then [] else Gap (bytes_at i from (to - from)) ∷ []) ++ ps)) ≡ offset_among a to (end + (to - from)) (placed_from (end + (to - from)) ps)
  gap_offset from to end a true ps e le past =
      let none = eqb-true (to - from) 0 e in
      let level : from ≡ to = omega (arith, none, le) in
      let same : end ≡ end + (to - from) = omega (arith, none) in
      ap (λ k. offset_among a k end (placed_from end ps)) level ∙ ap (λ k. offset_among a to k (placed_from k ps)) same
  gap_offset from to end a false ps e le past =
      let count = length-bytes_at i from (to - from) in
      let still = no_padding end 1 (omega arith) in
      let bytes : List ℕ = bytes_at i from (to - from) in
      let next : ℕ = least_from end 1 0 + length bytes in
      let level : from + length bytes ≡ to = omega (arith, count, le) in
      let same : next ≡ end + (to - from) = omega (arith, count, still) in
      ap (λ c. if c then least_from end 1 0 + (a - from) else offset_among a (from + length bytes) next (placed_from next ps)) (le-ltb a (from + length bytes) (omega (arith, level, past)))
      ∙ ap (λ k. offset_among a k next (placed_from next ps)) level
      ∙ ap (λ k. offset_among a to k (placed_from k ps)) same

  gap_inside : (from to end a : ℕ) (x : Bool) (ps : List Piece) → (to - from == 0) ≡ x → from ≤ a → a < to → offset_among a from end (placed_from end ((if x then [] else Gap (bytes_at i from (to - from)) ∷ []) ++ ps)) < end + (to - from)
  gap_inside from to end a true ps e le lt = let none = eqb-true (to - from) 0 e in absurd (omega (arith, none, le, lt))
  gap_inside from to end a false ps e le lt =
      let count = length-bytes_at i from (to - from) in
      let still = no_padding end 1 (omega arith) in
      let bytes : List ℕ = bytes_at i from (to - from) in
      let next : ℕ = least_from end 1 0 + length bytes in
      let value : offset_among a from end (placed_from end (Gap bytes ∷ ps)) ≡ least_from end 1 0 + (a - from) =
      ap (λ c. if c then least_from end 1 0 + (a - from) else offset_among a (from + length bytes) next (placed_from next ps)) (lt-ltb a (from + length bytes) (omega (arith, count, lt, le))) in
      omega (arith, value, still, le, lt)

-- ---- what is brought

brought_under : (m : Module) (news : List PatchWord) (at : ℕ) (ws : List PatchedWord) → Every (λ (e : Expr). e.at < at + 4 * length ws) (brought_from m news at ws)
brought_under m news at [] = tt
brought_under m news at (w ∷ ws) =
    let end : at + 4 + 4 * length ws ≡ at + 4 * suc (length ws) = omega arith in
    let P : Expr → Type 0 = λ e. e.at < at + 4 * suc (length ws) in
    every_append P (option_to_list (origin_expr m news at w.origin)) (brought_from m news (at + 4) ws)
    (every_weaker (λ (e : Expr). e.at ≡ at) P (λ e q. omega (arith, q)) (option_to_list (origin_expr m news at w.origin)) (origin_from m news at w.origin))
    (subst (λ k. Every (λ (e : Expr). e.at < k) (brought_from m news (at + 4) ws)) end (brought_under m news (at + 4) ws))

brought_over : (m : Module) (news : List PatchWord) (at : ℕ) (ws : List PatchedWord) → Every (λ (e : Expr). at ≤ e.at) (brought_from m news at ws)
brought_over m news at [] = tt
brought_over m news at (w ∷ ws) =
    let P : Expr → Type 0 = λ e. at ≤ e.at in
    every_append P (option_to_list (origin_expr m news at w.origin)) (brought_from m news (at + 4) ws)
    (every_weaker (λ (e : Expr). e.at ≡ at) P (λ e q. omega (arith, q)) (option_to_list (origin_expr m news at w.origin)) (origin_from m news at w.origin))
    (every_weaker (λ (e : Expr). at + 4 ≤ e.at) P (λ e q. omega (arith, q)) (brought_from m news (at + 4) ws) (brought_over m news (at + 4) ws))

module _ (m : Module) (p : PatchTable) where
  abbrev pub brings_of : Placed → List Expr
  brings_of x = brought_in m p x.at x.piece

  piece_under : (place : ℕ) (x : Piece) → IsCountedPiece x → Every (λ (e : Expr). e.at < place + new_size x) (brought_in m p place x)
  piece_under place (CodePiece b) counted =
      let same : place + 4 * length (patched_words b) ≡ place + new_size (CodePiece b) = ap (λ k. place + 4 * k) counted in
      subst (λ k. Every (λ (e : Expr). e.at < k) (brought_in m p place (CodePiece b))) same (brought_under m (news_of p b.id) place (patched_words b))
  piece_under place (DataPiece b) counted = tt
  piece_under place (Gap bytes) counted = tt

  piece_over : (place : ℕ) (x : Piece) → Every (λ (e : Expr). place ≤ e.at) (brought_in m p place x)
  piece_over place (CodePiece b) = brought_over m (news_of p b.id) place (patched_words b)
  piece_over place (DataPiece b) = tt
  piece_over place (Gap bytes) = tt

  pub all_over : (end : ℕ) (ps : List Piece) → Every (λ (e : Expr). end ≤ e.at) (flat_map brings_of (placed_from end ps))
  all_over end [] = tt
  all_over end (x ∷ ps) =
      let place : ℕ = place_of end x in
      let low : end ≤ place = omega arith in
      every_append (λ (e : Expr). end ≤ e.at) (brought_in m p place x) (flat_map brings_of (placed_from (place + new_size x) ps))
      (every_weaker (λ (e : Expr). place ≤ e.at) (λ (e : Expr). end ≤ e.at) (λ e q. omega (arith, q, low)) (brought_in m p place x) (piece_over place x))
      (every_weaker (λ (e : Expr). place + new_size x ≤ e.at) (λ (e : Expr). end ≤ e.at) (λ e q. omega (arith, q, low)) (flat_map brings_of (placed_from (place + new_size x) ps)) (all_over (place + new_size x) ps))

  gap_brings : (i : Interval) (from to end : ℕ) (x : Bool) (ps : List Piece) → (to - from == 0) ≡ x
      → flat_map brings_of (placed_from end ((if x then [] else Gap (bytes_at i from (to - from)) ∷ []) ++ ps)) ≡ flat_map brings_of (placed_from (end + (to - from)) ps)
  gap_brings i from to end true ps e = let none = eqb-true (to - from) 0 e in let same : end ≡ end + (to - from) = omega (arith, none) in ap (λ k. flat_map brings_of (placed_from k ps)) same
  gap_brings i from to end false ps e =
      let count = length-bytes_at i from (to - from) in
      let still = no_padding end 1 (omega arith) in
      let same : least_from end 1 0 + length (bytes_at i from (to - from)) ≡ end + (to - from) = omega (arith, count, still) in
      ap (λ k. flat_map brings_of (placed_from k ps)) same

-- ---- block by block

module _ (m : Module) (t : Tables) (p : PatchTable) (i : Interval) where
  abbrev s : Stretch
  s = stretch m t p i

  abbrev pub place_at : ℕ → ℕ → Block → ℕ
  place_at end at b = place_of (end + (b.offset - at)) (piece m t p i b)

  abbrev pub end_at : ℕ → ℕ → Block → ℕ
  end_at end at b = place_at end at b + new_size (piece m t p i b)

  -- the bytes below an old offset come below a new one, and the others are found among the blocks that follow
  pub record IsWalked (end at : ℕ) (bs : List Block) : Type 0 where
    pub before : (a : ℕ) → a < at → new_offset (stretch m t p i) a < end
    pub beyond : (a : ℕ) → at ≤ a → new_offset (stretch m t p i) a ≡ offset_among a at end (placed_from end (pieces m t p i at bs))
    pub brings : (k : ℕ) → end ≤ k → find (at_place k) (flat_map (brings_of m p) (placed (stretch m t p i))) ≡ find (at_place k) (flat_map (brings_of m p) (placed_from end (pieces m t p i at bs)))

  pub start : IsWalked 0 0 (in_order i.blocks)
  start = record { before = λ a lt. absurd (omega (arith, lt)); beyond = λ a le. refl; brings = λ k le. refl }

  -- one block, with its room
  pub record IsRoom (end at : ℕ) (b : Block) (bs : List Block) : Type 0 where
    pub before : (a : ℕ) → a < b.offset → new_offset (stretch m t p i) a < place_at end at b
    pub inside : (a : ℕ) → b.offset ≤ a → a < end_of b → new_offset (stretch m t p i) a ≡ place_at end at b + new_depth (a - b.offset) (piece m t p i b)
    pub behind : (a : ℕ) → end_of b ≤ a → new_offset (stretch m t p i) a ≡ offset_among a (end_of b) (end_at end at b) (placed_from (end_at end at b) (pieces m t p i (end_of b) bs))
    pub brings : (k : ℕ) → place_at end at b ≤ k
        → find (at_place k) (flat_map (brings_of m p) (placed (stretch m t p i))) ≡ option_or (find (at_place k) (brought_in m p (place_at end at b) (piece m t p i b))) (find (at_place k) (flat_map (brings_of m p) (placed_from (end_at end at b) (pieces m t p i (end_of b) bs))))

  pub room_of : (end at : ℕ) (b : Block) (bs : List Block) → at ≤ b.offset → old_size (piece m t p i b) ≡ size_of b → IsWalked end at (b ∷ bs) → IsRoom end at b bs
  room_of end at b bs le size h =
      let from : ℕ = end + (b.offset - at) in
      let x : Piece = piece m t p i b in
      let place : ℕ = place_at end at b in
      let next : ℕ = end_at end at b in
      let more : List Piece = pieces m t p i (end_of b) bs in
      let low : from ≤ place = omega arith in
      let last : b.offset + old_size x ≡ end_of b = ap (λ k. b.offset + k) size in
      let past : (a : ℕ) → b.offset ≤ a → new_offset s a ≡ (if nat_lt a (b.offset + old_size x) then place + new_depth (a - b.offset) x else offset_among a (b.offset + old_size x) next (placed_from next more)) =
      λ a ge. h.beyond a (omega (arith, ge, le)) ∙ gap_offset i at b.offset end a (b.offset - at == 0) (x ∷ more) refl le ge in
      record {
        before = λ a lt.
            elim (cases_lt a at) [
              | inl less ↦ let under = h.before a less in omega (arith, under, low)
              | inr ge ↦
                  let same = h.beyond a ge in
                  let under = gap_inside i at b.offset end a (b.offset - at == 0) (x ∷ more) refl ge lt in
                  omega (arith, same, under, low)
            ];
        inside = λ a ge lt. past a ge ∙ ap (λ c. if c then place + new_depth (a - b.offset) x else offset_among a (b.offset + old_size x) next (placed_from next more)) (lt-ltb a (b.offset + old_size x) (omega (arith, last, lt)));
        behind = λ a ge.
            past a (omega (arith, ge)) ∙ ap (λ c. if c then place + new_depth (a - b.offset) x else offset_among a (b.offset + old_size x) next (placed_from next more)) (le-ltb a (b.offset + old_size x) (omega (arith, last, ge)))
            ∙ ap (λ k. offset_among a k next (placed_from next more)) last;
        brings = λ k ge.
            h.brings k (omega (arith, ge, low)) ∙ ap (find (at_place k)) (gap_brings m p i at b.offset end (b.offset - at == 0) (x ∷ more) refl)
            ∙ find_append (at_place k) (brought_in m p place x) (flat_map (brings_of m p) (placed_from next more));
      }

  pub walk_on : (end at : ℕ) (b : Block) (bs : List Block) → old_size (piece m t p i b) ≡ size_of b → IsCountedPiece (piece m t p i b) → IsRoom end at b bs → IsWalked (end_at end at b) (end_of b) bs
  walk_on end at b bs size counted h =
      let x : Piece = piece m t p i b in
      let place : ℕ = place_at end at b in
      let next : ℕ = end_at end at b in
      let rest : List Expr = flat_map (brings_of m p) (placed_from next (pieces m t p i (end_of b) bs)) in
      record {
        before = λ a lt.
            elim (cases_lt a b.offset) [
              | inl less ↦ let under = h.before a less in omega (arith, under)
              | inr ge ↦
                  let same = h.inside a ge lt in
                  let small = depth_small (a - b.offset) x (omega (arith, size, ge, lt)) in
                  omega (arith, same, small)
            ];
        beyond = λ a ge. h.behind a ge;
        brings = λ k ge. h.brings k (omega (arith, ge)) ∙ ap (λ o. option_or o (find (at_place k) rest)) (none_below k next (brought_in m p place x) (piece_under m p place x counted) ge);
      }

-- ---- what is known of each block

module _ (m : Module) (t : Tables) (p : PatchTable) (i : Interval) where
  body_size : (offset : ℕ) (body : Body) → let b : Block = record { offset = offset; body = body } in IsFit m p i b → old_size (piece m t p i b) ≡ size_of b
  body_size offset bodies.Bare fit = absurd (both_ways true fit.bodied refl)
  body_size offset (bodies.Code uuid size decode_mode) fit =
      let words = length-own_words m p i offset (size / 4) in
      let whole_size : size % 4 ≡ 0 = whole_code (record { offset = offset; body = bodies.Code uuid size decode_mode }) fit.straight refl in
      omega (arith, words, whole_size)
  body_size offset (bodies.Data uuid size) fit = length-bytes_at i offset size

  body_counted : (offset : ℕ) (body : Body) → let b : Block = record { offset = offset; body = body } in IsFit m p i b → IsCountedPiece (piece m t p i b)
  body_counted offset bodies.Bare fit = absurd (both_ways true fit.bodied refl)
  body_counted offset (bodies.Code uuid size decode_mode) fit = fit.counted refl
  body_counted offset (bodies.Data uuid size) fit = tt

  pub size_kept : (b : Block) → IsFit m p i b → old_size (piece m t p i b) ≡ size_of b
  size_kept b fit = body_size b.offset b.body fit

  pub size_counted : (b : Block) → IsFit m p i b → IsCountedPiece (piece m t p i b)
  size_counted b fit = body_counted b.offset b.body fit
