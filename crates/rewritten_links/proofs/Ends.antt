-- All that lies in an interval ends where the interval does.
use Rattle.std.proofs.Common.{◌≡◌, ℕ, ◌+◌, ◌-◌, ◌*◌, ◌<◌, ◌≤◌, inl, inr, List, [], ◌∷◌, length, Option, Some, None, refl, ap, arith, length-append}
use Rattle.std.specs.Prelude.{find, sum_by}
use Rattle.std.specs.List.{flat_map}
use Rattle.std.specs.Option.{option_map_or, option_to_list}
use Rattle.std.proofs.lemmas.Bool.{cases_lt}
use Rattle.std.proofs.lemmas.List.Sums.{sum_by-cons}
use Rattle.block_parts.specs.declared.parts.Part.{Part}
use Rattle.block_parts.specs.declared.words.PatchedWord.{PatchedWord}
use Rattle.block_parts.specs.Parts.{cut_words, parts, parts_from}
use Rattle.block_parts.specs.Words.{patched_words}
use Rattle.gt_model.specs.declared.exprs.Expr.{Expr}
use Rattle.gt_model.specs.declared.modules.Module.{Module}
use Rattle.rewrite.specs.Blocks.{part_size}
use Rattle.rewrite.specs.Exprs.{brought_in, patch_expr}
use Rattle.rewrite.specs.Functions.{exprs_from}
use Rattle.rewrite.specs.Offsets.{new_depth, new_offset, new_start, offset_among, old_size}
use Rattle.sym_expr.specs.declared.patches.PatchTable.{PatchTable}
use Rattle.sym_expr.specs.declared.patches.PatchWord.{PatchWord}
use Rattle.sym_expr.specs.declared.program.CodeBlock.{CodeBlock}
use Rattle.sym_expr.specs.declared.program.Piece.{Piece}
use Rattle.sym_expr.specs.declared.program.Piece.TheVariants.{Code as CodePiece, Data as DataPiece, Gap}
use Rattle.sym_expr.specs.declared.program.Stretch.{Stretch}
use Rattle.sym_expr.specs.Images.{is_block}
use Rattle.sym_expr.specs.Layouts.{least_from}
use Rattle.sym_expr.specs.Placing.{Placed, end_from, new_size, placed, placed_from, step_of, stretch_size}
use Rattle.rewritten_links.proofs.Lists.{In, found_in, in_either, out_flat}
use Rattle.rewritten_links.proofs.Parts.{HaveWords}
use Rattle.rewritten_links.proofs.Ranges.{all_brought, here, later, piece_range}
use Rattle.rewritten_links.proofs.Stand.{below_length, of_target, patched_most}

-- ---- pieces

end_grows : (a : ℕ) (ps : List Piece) → a ≤ end_from a ps
end_grows a [] = omega arith
end_grows a (q ∷ ps) = let rest = end_grows (least_from a (step_of q) 0 + new_size q) ps in omega (arith, rest)

pub piece_fits : (a : ℕ) (ps : List Piece) (q : Piece) → In q ps → new_size q ≤ end_from a ps
piece_fits a [] q h = absurd h
piece_fits a (r ∷ ps) q (inl e) =
    let rest = end_grows (least_from a (step_of r) 0 + new_size r) ps in
    let same = ap new_size e in
    omega (arith, rest, same)
piece_fits a (r ∷ ps) q (inr h) = piece_fits (least_from a (step_of r) 0 + new_size r) ps q h

placed_fits : (a : ℕ) (ps : List Piece) (x : Placed) → In x (placed_from a ps) → x.at + new_size x.piece ≤ end_from a ps
placed_fits a [] x h = absurd h
placed_fits a (q ∷ ps) x (inl e) =
    let rest = end_grows (least_from a (step_of q) 0 + new_size q) ps in
    let same = ap (λ (y : Placed). y.at + new_size y.piece) e in
    omega (arith, rest, same)
placed_fits a (q ∷ ps) x (inr h) = placed_fits (least_from a (step_of q) 0 + new_size q) ps x h

start_at : (s : Stretch) (o : Option Placed) → ((x : Placed) → o ≡ Some x → x.at ≤ stretch_size s) → option_map_or (λ (x : Placed). x.at) o 0 ≤ stretch_size s
start_at s None h = omega arith
start_at s (Some x) h = h x refl

pub start_fits : (s : Stretch) (id : List ℕ) → new_start s id ≤ stretch_size s
start_fits s id =
    start_at s (find (λ (x : Placed). is_block id x.piece) (placed s)) (λ x e.
    let found = found_in (λ (y : Placed). is_block id y.piece) x (placed s) e in
    let fits = placed_fits 0 s.pieces x found.0 in
    omega (arith, fits))

-- ---- expressions

depth_fits : (a : ℕ) (q : Piece) → a ≤ old_size q → new_depth a q ≤ new_size q
depth_fits a (CodePiece b) le = let most = below_length (a + 1) b in omega (arith, most, le)
depth_fits a (DataPiece b) le = le
depth_fits a (Gap bytes) le = le

offset_fits : (a from end : ℕ) (ps : List Piece) → offset_among a from end (placed_from end ps) ≤ end_from end ps
offset_fits a from end [] = omega arith
offset_fits a from end (q ∷ ps) =
    let x : Placed = record { at = least_from end (step_of q) 0; piece = q } in
    let next : ℕ = least_from end (step_of q) 0 + new_size q in
    elim (cases_lt a (from + old_size q)) [
      | inl lt ↦
          let e = here a from end x (placed_from next ps) lt in
          let most = depth_fits (a - from) q (omega (arith, lt)) in
          let rest = end_grows next ps in
          omega (arith, e, most, rest)
      | inr le ↦
          let e = later a from end x (placed_from next ps) le in
          let rest = offset_fits a (from + old_size q) next ps in
          omega (arith, e, rest)
    ]

pub moved_fits : (s : Stretch) (a : ℕ) → new_offset s a ≤ stretch_size s
moved_fits s a = offset_fits a 0 0 s.pieces

pub brought_fits : (m : Module) (p : PatchTable) (s : Stretch) (y : Expr) → In y (all_brought m p (placed s)) → y.at < stretch_size s
brought_fits m p s y h =
    let x = out_flat (λ (x : Placed). brought_in m p x.at x.piece) y (placed s) h in
    let range = piece_range m p x.0.at x.0.piece y x.2 in
    let high = range.1 in
    let fits = placed_fits 0 s.pieces x.0 x.1 in
    omega (arith, high, fits)

pub line_fits : (m : Module) (start : ℕ) (ws : List PatchWord) (y : Expr) → In y (exprs_from m start ws) → y.at < start + 4 * length ws
line_fits m start [] y h = absurd h
line_fits m start (w ∷ ws) y h =
    elim (in_either y (option_to_list (patch_expr m start w)) (exprs_from m (start + 4) ws) h) [
      | inl k ↦ (let at = of_target m start w.target y k in omega (arith, at))
      | inr k ↦ (let rest = line_fits m (start + 4) ws y k in omega (arith, rest))
    ]

-- ---- parts

part_end : (start : ℕ) (cuts : List (List PatchedWord)) (q : Part) → In q (parts_from start cuts) → q.start + part_size q ≤ start + 4 * length (flat_map (λ (r : Part). r.words) (parts_from start cuts))
part_end start [] q h = absurd h
part_end start (words ∷ rest) q (inl e) =
    let all = length-append words (flat_map (λ (r : Part). r.words) (parts_from (start + 4 * length words) rest)) in
    let place : q.start ≡ start = ap (λ (x : Part). x.start) e in
    let size : length q.words ≡ length words = ap (λ (x : Part). length x.words) e in
    omega (arith, all, place, size)
part_end start (words ∷ rest) q (inr h) =
    let all = length-append words (flat_map (λ (r : Part). r.words) (parts_from (start + 4 * length words) rest)) in
    let next = part_end (start + 4 * length words) rest q h in
    omega (arith, all, next)

pub part_fits : HaveWords → (b : CodeBlock) (q : Part) → In q (parts b) → q.start + part_size q ≤ new_size (CodePiece b)
part_fits words b q h =
    let among = part_end 0 (cut_words (patched_words b)) q h in
    let all = ap length (words b) in
    let most = patched_most b in
    omega (arith, among, all, most)

-- ---- one of several

pub one_of_sum : {A : Type 0} (f : A → ℕ) (x : A) (xs : List A) → In x xs → f x ≤ sum_by f xs
one_of_sum f x [] h = absurd h
one_of_sum f x (y ∷ xs) (inl e) =
    let all = sum_by-cons f y xs in
    let same = ap f e in
    omega (arith, all, same)
one_of_sum f x (y ∷ xs) (inr h) =
    let all = sum_by-cons f y xs in
    let rest = one_of_sum f x xs h in
    omega (arith, all, rest)
