-- Two points of one interval are as far from each other at their addresses as in the interval.
use Rattle.std.proofs.Common.{◌≡◌, ℕ, ◌+◌, Bool, true, false, ◌||◌, Option, Some, List, [], ◌∷◌, ◌++◌, pos, ◌-ℤ◌, refl, sym, ap, ◌∙◌, arith}
use Rattle.std.specs.Prelude.{find, if◌then◌else◌}
use Rattle.std.specs.Option.{option_map_or}
use Rattle.std.specs.List.{AllByRecursion as Every, list_any, flat_map, filter_map}
use Rattle.std.specs.Str.{bytes_eq}
use Rattle.std.proofs.lemmas.Bool.{or_parts, false≢true}
use Rattle.std.proofs.lemmas.Int.{ints}
use Rattle.std.proofs.lemmas.List.Elements.{filter_map-append}
use Rattle.std.proofs.lemmas.Option.{none-some}
use Rattle.sym_expr.specs.declared.layout.Layout.{Layout}
use Rattle.sym_expr.specs.declared.point.Point.{Point}
use Rattle.sym_expr.specs.declared.program.CodeBlock.{CodeBlock}
use Rattle.sym_expr.specs.declared.program.Piece.{Piece}
use Rattle.sym_expr.specs.declared.program.Piece.TheVariants.{Code as CodePiece, Data as DataPiece, Gap}
use Rattle.sym_expr.specs.declared.program.Program.{Program}
use Rattle.sym_expr.specs.declared.program.Stretch.{Stretch}
use Rattle.sym_expr.specs.Images.{addressed, depth, is_block}
use Rattle.sym_expr.specs.Layouts.{address_of}
use Rattle.sym_expr.specs.Placing.{Placed, new_size, placed_from}
use Rattle.sym_expr.specs.Points.{code_of, is_code_piece, stretch_of}
use Rattle.sym_expr.specs.Symbolic.{offset_in, point_offset}
use Rattle.sym_expr.specs.WellMade.{IsPoint, well_made}
use Rattle.simulation.specs.Placement.{placement_of, point_address}
use Rattle.simulation.specs.Meant.{AreSpaced}
use Rattle.placed_images.proofs.Found.{IsOnly, all_addressed, all_only, ids_same, same_ids, shifted, IsCodeOf}
use Rattle.placed_images.proofs.Lengths.{next_at}
use Rattle.placed_images.proofs.Lists.{some_is, every_part, found_one}
use Rattle.placed_images.proofs.Points.{start_is}

-- pieces without a code block of an identifier add none
none_in : (id : List ℕ) (ps : List Piece) (more : List CodeBlock) → list_any (is_code_piece id) ps ≡ false → find (IsCodeOf id) (filter_map code_of ps ++ more) ≡ find (IsCodeOf id) more
none_in id [] more e = refl
none_in id (CodePiece c ∷ ps) more e =
    let both = or_parts (bytes_eq c.id id) (list_any (is_code_piece id) ps) e in
    ap (λ x. if x then Some c else find (IsCodeOf id) (filter_map code_of ps ++ more)) both.0 ∙ none_in id ps more both.1
none_in id (DataPiece c ∷ ps) more e = none_in id ps more e
none_in id (Gap bytes ∷ ps) more e = none_in id ps more e

stretch_or : (id : List ℕ) (s : Stretch) (ss : List Stretch) (b : CodeBlock) (x : Bool) → list_any (is_code_piece id) s.pieces ≡ x
    → (list_any (is_code_piece id) s.pieces ≡ false → (t : Stretch) × (find (λ (t : Stretch). list_any (is_code_piece id) t.pieces) ss ≡ Some t))
    → (t : Stretch) × ((if x then Some s else find (λ (t : Stretch). list_any (is_code_piece id) t.pieces) ss) ≡ Some t)
stretch_or id s ss b true is rest = (s, refl)
stretch_or id s ss b false is rest = rest is

-- the interval of a code block that is found
pub some_stretch : (id : List ℕ) (ss : List Stretch) (b : CodeBlock) → find (IsCodeOf id) (filter_map code_of (flat_map (λ (s : Stretch). s.pieces) ss)) ≡ Some b
    → (s : Stretch) × (find (λ (s : Stretch). list_any (is_code_piece id) s.pieces) ss ≡ Some s)
some_stretch id [] b e = absurd (none-some b e)
some_stretch id (s ∷ ss) b e =
    let split = filter_map-append code_of s.pieces (flat_map (λ (t : Stretch). t.pieces) ss) in
    stretch_or id s ss b (list_any (is_code_piece id) s.pieces) refl (λ none. some_stretch id ss b (sym (none_in id s.pieces (filter_map code_of (flat_map (λ (t : Stretch). t.pieces) ss)) none) ∙ sym (ap (find (IsCodeOf id)) split) ∙ e))

-- ---- in the interval

module _ (all : List Placed) (id : List ℕ) where
  -- a code block of the identifier at an offset, and at its address
  record Offset (start : ℕ) (found : Option Placed) : Type 0 where
    at : ℕ
    offset : option_map_or (λ (x : Placed). x.at) found 0 ≡ at
    piece : Piece
    address : find (λ (y : Placed). is_block id y.piece) all ≡ Some (record { at = start + at; piece = piece })

  offset_or : (start : ℕ) (x : Placed) (rest : Option Placed) (b : Bool) → is_code_piece id x.piece ≡ b → (is_code_piece id x.piece ≡ true → Offset start (Some x)) → (is_code_piece id x.piece ≡ false → Offset start rest) → Offset start (if b then Some x else rest)
  offset_or start x rest true is here later = here is
  offset_or start x rest false is here later = later is

  is_named : (p : Piece) → is_code_piece id p ≡ true → is_block id p ≡ true
  is_named (CodePiece b) e = ids_same id b.id (sym (same_ids b.id id e))
  is_named (DataPiece b) e = absurd (false≢true e)
  is_named (Gap bytes) e = absurd (false≢true e)

  offset_here : (start at : ℕ) (p : Piece) → IsOnly all (record { at = start + at; piece = p }) → is_code_piece id p ≡ true → Offset start (Some (record { at = at; piece = p }))
  offset_here start at p only e = record { at = at; offset = refl; piece = p; address = only id (is_named p e) }

  rest_any : (x y : Bool) → (x || y) ≡ true → x ≡ false → y ≡ true
  rest_any true y e f = absurd (false≢true (sym f))
  rest_any false y e f = e

  some_offset : (start end : ℕ) (ps : List Piece) → Every (IsOnly all) (shifted start (placed_from end ps)) → list_any (is_code_piece id) ps ≡ true → Offset start (find (λ (x : Placed). is_code_piece id x.piece) (placed_from end ps))
  some_offset start end [] only e = absurd (false≢true e)
  some_offset start end (p ∷ ps) only e =
      let at = next_at end p in
      offset_or start (record { at = at; piece = p }) (find (λ (x : Placed). is_code_piece id x.piece) (placed_from (at + new_size p) ps)) (is_code_piece id p) refl
      (λ is. offset_here start at p only.0 is)
      (λ is. some_offset start (at + new_size p) ps only.1 (rest_any (is_code_piece id p) (list_any (is_code_piece id) ps) e is))

module _ (l : Layout) (g : Program) (well : well_made g) where
  -- the address of a point is that of its interval and its offset there
  record InStretch (p : Point) : Type 0 where
    stretch : Stretch
    found : stretch_of g p.block ≡ Some stretch
    address : point_address (placement_of l g) g p ≡ address_of l stretch.id + point_offset g p

  in_stretch : (p : Point) → IsPoint g p → InStretch p
  in_stretch p is =
      let all = all_addressed l g in
      let s = some_stretch p.block g.stretches is.block is.found in
      let only = found_one (λ (t : Stretch). list_any (is_code_piece p.block) t.pieces) (λ (t : Stretch). Every (IsOnly all) (addressed l t)) g.stretches s.0 (every_part (addressed l) (IsOnly all) g.stretches (all_only l g well)) s.1 in
      let o = some_offset all p.block (address_of l s.0.id) 0 s.0.pieces only.1 only.0 in
      let start = start_is l g p.block (record { at = address_of l s.0.id + o.at; piece = o.piece }) o.address in
      let one : point_offset g p ≡ offset_in g s.0 p = ap (λ (t : Option Stretch). option_map_or (λ u. offset_in g u p) t 0) s.1 in
      let two : offset_in g s.0 p ≡ o.at + depth g p = ap (λ n. n + depth g p) o.offset in
      record { stretch = s.0; found = s.1; address = omega arith }

  same_start : (p q : Point) (a : InStretch p) (b : InStretch q) → stretch_of g p.block ≡ stretch_of g q.block → address_of l a.stretch.id ≡ address_of l b.stretch.id
  same_start p q a b same = ap (λ (s : Stretch). address_of l s.id) (some_is a.stretch b.stretch (sym a.found ∙ same ∙ b.found))

  moved_alike : (a m n x y : ℕ) → x ≡ a + m → y ≡ a + n → pos x -ℤ pos y ≡ pos m -ℤ pos n
  moved_alike a m n x y e f = omega (arith, ints)

  pub spaced : (p q : Point) → IsPoint g p → IsPoint g q → stretch_of g p.block ≡ stretch_of g q.block → AreSpaced (placement_of l g) g p q
  spaced p q is_p is_q same =
      let a = in_stretch p is_p in
      let b = in_stretch q is_q in
      let start = same_start p q a b same in
      moved_alike (address_of l a.stretch.id) (point_offset g p) (point_offset g q) (point_address (placement_of l g) g p) (point_address (placement_of l g) g q) a.address (b.address ∙ ap (λ n. n + point_offset g q) (sym start))
