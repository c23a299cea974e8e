-- The offsets of old and new expressions of an interval: no two are one.
use Rattle.std.proofs.Common.{◌≡◌, ◌≢◌, ℕ, ◌+◌, ◌-◌, ◌%◌, ◌<◌, ◌≤◌, inl, inr, List, [], ◌∷◌, length, ap, ◌∙◌, arith}
use Rattle.std.specs.Prelude.{if◌then◌else◌}
use Rattle.std.specs.List.{flat_map}
use Rattle.std.proofs.lemmas.Bool.{cases_lt, le-ltb, lt-ltb}
use Rattle.gt_model.specs.declared.exprs.Expr.{Expr}
use Rattle.gt_model.specs.declared.modules.Module.{Module}
use Rattle.block_parts.specs.Words.{patched_words}
use Rattle.rewrite.specs.Exprs.{brought_in, news_of}
use Rattle.rewrite.specs.Offsets.{new_depth, offset_among, old_size}
use Rattle.sym_expr.specs.declared.patches.PatchTable.{PatchTable}
use Rattle.sym_expr.specs.declared.program.Piece.{Piece}
use Rattle.sym_expr.specs.declared.program.Piece.TheVariants.{Code as CodePiece, Data as DataPiece, Gap}
use Rattle.sym_expr.specs.Layouts.{least_from}
use Rattle.sym_expr.specs.Placing.{Placed, new_size, placed_from, step_of}
use Rattle.sym_expr.specs.Points.{code_size}
use Rattle.rewritten_links.proofs.Ascending.{Ascend, ascend_both}
use Rattle.rewritten_links.proofs.Lists.{In, in_either}
use Rattle.rewritten_links.proofs.Stand.{OnFour, below_length, brought_ascends, own_apart, patched_most, stands_at}

-- ---- one piece

-- what a piece brings lies in it
pub piece_range : (m : Module) (p : PatchTable) (at : ℕ) (q : Piece) (y : Expr) → In y (brought_in m p at q) → (at ≤ y.at) × (y.at < at + new_size q)
piece_range m p at (CodePiece b) y h =
    let stands = stands_at m (news_of p b.id) at (patched_words b) y h in
    let within = stands.within in
    let place = stands.at in
    let most = patched_most b in
    (omega (arith, place), omega (arith, within, place, most))
piece_range m p at (DataPiece b) y h = absurd h
piece_range m p at (Gap bytes) y h = absurd h

piece_ascends : (m : Module) (p : PatchTable) (at : ℕ) (q : Piece) → Ascend (brought_in m p at q)
piece_ascends m p at (CodePiece b) = brought_ascends m (news_of p b.id) at (patched_words b)
piece_ascends m p at (DataPiece b) = tt
piece_ascends m p at (Gap bytes) = tt

depth_most : (a : ℕ) (q : Piece) → a < old_size q → new_depth a q < new_size q
depth_most a (CodePiece b) lt = let most = below_length (a + 1) b in omega (arith, most, lt)
depth_most a (DataPiece b) lt = lt
depth_most a (Gap bytes) lt = lt

-- ---- pieces one behind the other

abbrev first : ℕ → Piece → Placed
first end q = record { at = least_from end (step_of q) 0; piece = q }

abbrev next_end : ℕ → Piece → ℕ
next_end end q = least_from end (step_of q) 0 + new_size q

abbrev pub all_brought : Module → PatchTable → List Placed → List Expr
all_brought m p xs = flat_map (λ (x : Placed). brought_in m p x.at x.piece) xs

above_end : (m : Module) (p : PatchTable) (end : ℕ) (ps : List Piece) (y : Expr) → In y (all_brought m p (placed_from end ps)) → end ≤ y.at
above_end m p end [] y h = absurd h
above_end m p end (q ∷ ps) y h =
    elim (in_either y (brought_in m p (least_from end (step_of q) 0) q) (all_brought m p (placed_from (next_end end q) ps)) h) [
      | inl k ↦ (let range = piece_range m p (least_from end (step_of q) 0) q y k in let low = range.0 in omega (arith, low))
      | inr k ↦ (let low = above_end m p (next_end end q) ps y k in omega (arith, low))
    ]

pub all_ascend : (m : Module) (p : PatchTable) (end : ℕ) (ps : List Piece) → Ascend (all_brought m p (placed_from end ps))
all_ascend m p end [] = tt
all_ascend m p end (q ∷ ps) =
    ascend_both (next_end end q) (brought_in m p (least_from end (step_of q) 0) q) (all_brought m p (placed_from (next_end end q) ps)) (piece_ascends m p (least_from end (step_of q) 0) q) (all_ascend m p (next_end end q) ps)
    (λ x k. (piece_range m p (least_from end (step_of q) 0) q x k).1) (λ y k. above_end m p (next_end end q) ps y k)

pub here : (at from end : ℕ) (x : Placed) (xs : List Placed) → at < from + old_size x.piece → offset_among at from end (x ∷ xs) ≡ x.at + new_depth (at - from) x.piece
here at from end x xs lt =
    ap (λ t. if t then x.at + new_depth (at - from) x.piece else offset_among at (from + old_size x.piece) (x.at + new_size x.piece) xs) (lt-ltb at (from + old_size x.piece) lt)

pub later : (at from end : ℕ) (x : Placed) (xs : List Placed) → from + old_size x.piece ≤ at → offset_among at from end (x ∷ xs) ≡ offset_among at (from + old_size x.piece) (x.at + new_size x.piece) xs
later at from end x xs le =
    ap (λ t. if t then x.at + new_depth (at - from) x.piece else offset_among at (from + old_size x.piece) (x.at + new_size x.piece) xs) (le-ltb at (from + old_size x.piece) le)

behind : (a from end : ℕ) (ps : List Piece) → end ≤ offset_among a from end (placed_from end ps)
behind a from end [] = omega arith
behind a from end (q ∷ ps) =
    elim (cases_lt a (from + old_size q)) [
      | inl lt ↦ let e = here a from end (first end q) (placed_from (next_end end q) ps) lt in omega (arith, e)
      | inr le ↦
          let e = later a from end (first end q) (placed_from (next_end end q) ps) le in
          let rest = behind a (from + old_size q) (next_end end q) ps in
          omega (arith, e, rest)
    ]

-- ---- old and new

-- in code the offset is that of a word, and words are inserted before words
abbrev pub Suits : ℕ → ℕ → List Piece → Type 0
Suits a from [] = Unit {0}
Suits a from (CodePiece b ∷ ps) = (a < from + code_size b → (a - from) % 4 ≡ 0) × OnFour b.inserted × Suits a (from + code_size b) ps
Suits a from (DataPiece b ∷ ps) = Suits a (from + old_size (DataPiece b)) ps
Suits a from (Gap bytes ∷ ps) = Suits a (from + length bytes) ps

piece_cross : (m : Module) (p : PatchTable) (a from at : ℕ) (q : Piece) (ps : List Piece) (y : Expr) → Suits a from (q ∷ ps) → from ≤ a → a < from + old_size q → In y (brought_in m p at q) → y.at ≢ at + new_depth (a - from) q
piece_cross m p a from at (CodePiece b) ps y suits low lt h = own_apart m (news_of p b.id) at (a - from) b y (suits.0 lt) (omega (arith, low, lt)) suits.1 h
piece_cross m p a from at (DataPiece b) ps y suits low lt h = absurd h
piece_cross m p a from at (Gap bytes) ps y suits low lt h = absurd h

rest_suits : (a from : ℕ) (q : Piece) (ps : List Piece) → Suits a from (q ∷ ps) → Suits a (from + old_size q) ps
rest_suits a from (CodePiece b) ps h = h.2
rest_suits a from (DataPiece b) ps h = h
rest_suits a from (Gap bytes) ps h = h

pub cross : (m : Module) (p : PatchTable) (a from end : ℕ) (ps : List Piece) (y : Expr) → from ≤ a → Suits a from ps → In y (all_brought m p (placed_from end ps)) → y.at ≢ offset_among a from end (placed_from end ps)
cross m p a from end [] y low suits h = absurd h
cross m p a from end (q ∷ ps) y low suits h =
    let xs = placed_from (next_end end q) ps in
    elim (cases_lt a (from + old_size q)) [
      | inl lt ↦
          let e = here a from end (first end q) xs lt in
          let most = depth_most (a - from) q (omega (arith, low, lt)) in
          elim (in_either y (brought_in m p (least_from end (step_of q) 0) q) (all_brought m p xs) h) [
            | inl k ↦ (λ same. piece_cross m p a from (least_from end (step_of q) 0) q ps y suits low lt k (same ∙ e))
            | inr k ↦ (λ same. absurd (let above = above_end m p (next_end end q) ps y k in omega (arith, above, e, most, same)))
          ]
      | inr le ↦
          let e = later a from end (first end q) xs le in
          elim (in_either y (brought_in m p (least_from end (step_of q) 0) q) (all_brought m p xs) h) [
            | inl k ↦
                (λ same.
                absurd (
                let range = piece_range m p (least_from end (step_of q) 0) q y k in
                let high = range.1 in
                let low = behind a (from + old_size q) (next_end end q) ps in
                omega (arith, high, low, e, same)
                ))
            | inr k ↦ (λ same. cross m p a (from + old_size q) (next_end end q) ps y le (rest_suits a from q ps suits) k (same ∙ e))
          ]
    ]
