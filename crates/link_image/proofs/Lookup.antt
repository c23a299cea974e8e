-- What a linker finds of a block.
use Rattle.std.proofs.Common.{Bor, IsSome, ◌≡◌, ◌≢◌, ℕ, ◌+◌, ◌*◌, ◌^◌, ◌≤◌, true, false, eqb, ltb, Option, Some, None, List, [], ◌∷◌, ◌++◌, length, filter, find, map, refl, sym, ap, subst, ◌∙◌, inl, inr, arith}
use Rattle.std.specs.Option.{option_copied, option_map, option_map_or, unwrap_or}
use Rattle.std.specs.List.{AllByRecursion, AllPairs, flat_map, filter_map}
use Rattle.std.specs.List.Sorted.{IsNonDecreasing}
use Rattle.std.specs.Str.{bytes_eq}
use Rattle.std.proofs.lemmas.Bool.{cond-true, cond-false, cases_Bool, false_from_ne_true}
use Rattle.std.proofs.lemmas.Bool.Decides.{nat_tests}
use Rattle.std.proofs.lemmas.List.{length-map, map-append}
use Rattle.std.proofs.lemmas.Slice.Eq.{bytes_eq-Decides}
use Rattle.indexmap.specs.IndexMap.{get}
use Rattle.sym_expr.specs.declared.layout.Layout.{Layout}
use Rattle.sym_expr.specs.declared.point.Point.{Point}
use Rattle.sym_expr.specs.declared.program.CodeBlock.{CodeBlock}
use Rattle.sym_expr.specs.declared.program.Piece.{Piece}
use Rattle.sym_expr.specs.declared.program.Piece.TheVariants.{Code as CodePiece, Data as DataPiece, Gap}
use Rattle.sym_expr.specs.declared.program.Program.{Program}
use Rattle.sym_expr.specs.declared.program.Stretch.{Stretch}
use Rattle.sym_expr.specs.declared.program.Word.{Word}
use Rattle.sym_expr.specs.Images.{addressed, block_address, inserted_below, is_block, point_address}
use Rattle.sym_expr.specs.Layouts.{accepted, address_of, IsInside, least_from, placed as placed_spot, placed_stack}
use Rattle.sym_expr.specs.Placing.{Placed, placed, placed_from, end_from, new_size, shape_of, spot_of, step_of, stretch_size}
use Rattle.sym_expr.specs.Points.{code_at, code_of, code_size, ins, pieces_of}
use Rattle.sym_expr.specs.WellMade.{block_id, IsPoint, well_made}
use Rattle.link_image.specs.declared.blocks.BlockAt.{BlockAt}
use Rattle.link_image.specs.declared.linker.Linker.{Linker}
use Rattle.link_image.specs.Counts.{count_below}
use Rattle.link_image.specs.Ready.{all_addressed, Describes, HasInserted, IsReady, Keeps}
use Rattle.link_image.proofs.Lists.{Pairs, pairs_from, all_append, all_parts, found_has, flat_map-flat_map, find-map}

-- ---- the pieces, by their identifiers

eq_true : (a b : List ℕ) → bytes_eq a b ≡ true → bytes_eq b a ≡ true
eq_true a b e = (bytes_eq-Decides b a).1 (sym ((bytes_eq-Decides a b).0 e))

eq_false : (a b : List ℕ) → bytes_eq a b ≡ false → bytes_eq b a ≡ false
eq_false a b e = false_from_ne_true _ (λ t. let clash = sym e ∙ eq_true b a t in cc)

-- the identifier of a code block that is found is among those of the pieces
found_id : (P : List ℕ → Type 0) (id : List ℕ) (ps : List Piece) (b : CodeBlock) → AllByRecursion P (flat_map block_id ps)
    → find (λ (c : CodeBlock). bytes_eq c.id id) (filter_map code_of ps) ≡ Some b → P id
found_id P id [] b all e = cc
found_id P id (CodePiece c ∷ ps) b all e =
    elim (cases_Bool (bytes_eq c.id id)) [
      | inl same ↦ subst P ((bytes_eq-Decides c.id id).0 same) all.0
      | inr other ↦ found_id P id ps b all.1 (sym (cond-false (bytes_eq c.id id) (Some c) (find (λ (d : CodeBlock). bytes_eq d.id id) (filter_map code_of ps)) other) ∙ e)
    ]
found_id P id (DataPiece c ∷ ps) b all e = found_id P id ps b all.1 e
found_id P id (Gap bytes ∷ ps) b all e = found_id P id ps b all e

-- where identifiers are apart the block of one is the code block of it, if there is one
code_is_block : (id : List ℕ) (ps : List Piece) (b : CodeBlock) → Pairs (λ a later. a ≢ later) (flat_map block_id ps)
    → find (λ (c : CodeBlock). bytes_eq c.id id) (filter_map code_of ps) ≡ Some b → find (is_block id) ps ≡ Some (CodePiece b)
code_is_block id [] b apart e = cc
code_is_block id (CodePiece c ∷ ps) b apart e =
    elim (cases_Bool (bytes_eq c.id id)) [
      | inl same ↦
          let here = sym (cond-true (bytes_eq c.id id) (Some c) (find (λ (d : CodeBlock). bytes_eq d.id id) (filter_map code_of ps)) same) ∙ e in
          let one : c ≡ b = cc in
          cond-true (bytes_eq id c.id) (Some (CodePiece c)) (find (is_block id) ps) (eq_true c.id id same) ∙ ap (λ (d : CodeBlock). Some (CodePiece d)) one
      | inr other ↦
          cond-false (bytes_eq id c.id) (Some (CodePiece c)) (find (is_block id) ps) (eq_false c.id id other)
          ∙ code_is_block id ps b apart.1 (sym (cond-false (bytes_eq c.id id) (Some c) (find (λ (d : CodeBlock). bytes_eq d.id id) (filter_map code_of ps)) other) ∙ e)
    ]
code_is_block id (DataPiece c ∷ ps) b apart e =
    let differ : c.id ≢ id = found_id (λ later. c.id ≢ later) id ps b apart.0 e in
    cond-false (bytes_eq id c.id) (Some (DataPiece c)) (find (is_block id) ps) (false_from_ne_true _ (λ t. differ (sym ((bytes_eq-Decides id c.id).0 t))))
    ∙ code_is_block id ps b apart.1 e
code_is_block id (Gap bytes ∷ ps) b apart e = code_is_block id ps b apart e

-- ---- where they lie

shifted_pieces : (start at : ℕ) (ps : List Piece) → map (λ (x : Placed). x.piece) (map (λ (x : Placed). record x { at = start + x.at }) (placed_from at ps)) ≡ ps
shifted_pieces start at [] = refl
shifted_pieces start at (p ∷ ps) = ap (λ l. p ∷ l) (shifted_pieces start (least_from at (step_of p) 0 + new_size p) ps)

pieces_addressed : (l : Layout) (ss : List Stretch) → map (λ (x : Placed). x.piece) (flat_map (addressed l) ss) ≡ flat_map (λ (s : Stretch). s.pieces) ss
pieces_addressed l [] = refl
pieces_addressed l (s ∷ ss) =
    map-append (λ (x : Placed). x.piece) (addressed l s) (flat_map (addressed l) ss)
    ∙ ap (λ ps. ps ++ map (λ (x : Placed). x.piece) (flat_map (addressed l) ss)) (shifted_pieces (address_of l s.id) 0 s.pieces)
    ∙ ap (λ ps. s.pieces ++ ps) (pieces_addressed l ss)

-- a piece ends at an address or before it
abbrev pub EndsBy : ℕ → Placed → Type 0
EndsBy end x = x.at + new_size x.piece ≤ end

pub ends_from : (at : ℕ) (ps : List Piece) → (at ≤ end_from at ps) × AllByRecursion (EndsBy (end_from at ps)) (placed_from at ps)
ends_from at [] = (omega arith, tt)
ends_from at (p ∷ ps) =
    let rest = ends_from (least_from at (step_of p) 0 + new_size p) ps in
    let le = rest.0 in
    (omega arith, (le, rest.1))

shift_ends : (start end : ℕ) (xs : List Placed) → start + end ≤ 2 ^ 47 → AllByRecursion (EndsBy end) xs → AllByRecursion (EndsBy (2 ^ 47)) (map (λ (x : Placed). record x { at = start + x.at }) xs)
shift_ends start end [] le all = tt
shift_ends start end (x ∷ xs) le all = let here = all.0 in (omega arith, shift_ends start end xs le all.1)

all_end : (l : Layout) (ss : List Stretch) → AllByRecursion IsInside (map (placed_spot l) (map spot_of ss)) → AllByRecursion (EndsBy (2 ^ 47)) (flat_map (addressed l) ss)
all_end l [] inside = tt
all_end l (s ∷ ss) inside =
    let high = inside.0.high in
    all_append (EndsBy (2 ^ 47)) (addressed l s) (flat_map (addressed l) ss) (shift_ends (address_of l s.id) (stretch_size s) (placed s) high (ends_from 0 s.pieces).1) (all_end l ss inside.1)

-- ---- points

module _ (o : ℕ) where
  below_and_at : (ws : List (ℕ × Word)) → length (filter (λ (w : ℕ × Word). ltb w.0 o) ws) + length (filter (λ (w : ℕ × Word). eqb o w.0) ws) ≤ length ws
  below_and_at [] = omega arith
  below_and_at (w ∷ ws) =
      let rest = below_and_at ws in
      elim (cases_Bool (ltb w.0 o)) [
        | inl below ↦
            let off : eqb o w.0 ≡ false = grind (arith, nat_tests) in
            let a = ap length (cond-true (ltb w.0 o) (w ∷ filter (λ (v : ℕ × Word). ltb v.0 o) ws) (filter (λ (v : ℕ × Word). ltb v.0 o) ws) below) in
            let b = ap length (cond-false (eqb o w.0) (w ∷ filter (λ (v : ℕ × Word). eqb o v.0) ws) (filter (λ (v : ℕ × Word). eqb o v.0) ws) off) in
            omega arith
        | inr above ↦
            let a = ap length (cond-false (ltb w.0 o) (w ∷ filter (λ (v : ℕ × Word). ltb v.0 o) ws) (filter (λ (v : ℕ × Word). ltb v.0 o) ws) above) in
            elim (cases_Bool (eqb o w.0)) [
              | inl here ↦ let b = ap length (cond-true (eqb o w.0) (w ∷ filter (λ (v : ℕ × Word). eqb o v.0) ws) (filter (λ (v : ℕ × Word). eqb o v.0) ws) here) in omega arith
              | inr off ↦ let b = ap length (cond-false (eqb o w.0) (w ∷ filter (λ (v : ℕ × Word). eqb o v.0) ws) (filter (λ (v : ℕ × Word). eqb o v.0) ws) off) in omega arith
            ]
      ]

pub depth_most : (b : CodeBlock) (o j : ℕ) → o ≤ code_size b → j ≤ length (ins b o) → o + (4 * inserted_below o b + 4 * j) ≤ new_size (CodePiece b)
depth_most b o j within passed =
    let both = below_and_at o b.inserted in
    let same = length-map (filter (λ (w : ℕ × Word). eqb o w.0) b.inserted) (λ (w : ℕ × Word). w.1) in
    omega arith

-- where a point lies
pub record PlacedPoint (l : Layout) (g : Program) (p : Point) (b : CodeBlock) : Type 0 where
  pub place : Placed
  pub found : find (λ (x : Placed). is_block p.block x.piece) (all_addressed l g) ≡ Some place
  pub piece : place.piece ≡ CodePiece b
  pub address : point_address l g p ≡ place.at + (p.offset + (4 * inserted_below p.offset b + 4 * p.j))
  pub high : point_address l g p ≤ 2 ^ 47

pub point_placed : (l : Layout) (g : Program) (p : Point) → well_made g → accepted l (shape_of g) → (is : IsPoint g p) → PlacedPoint l g p is.block
point_placed l g p well laid is =
    let apart : Pairs (λ a later. a ≢ later) (flat_map block_id (pieces_of g)) = pairs_from _ _ (subst (AllPairs (λ a later. a ≢ later)) (sym (flat_map-flat_map block_id (λ (s : Stretch). s.pieces) g.stretches)) well.apart) in
    let piece = code_is_block p.block (pieces_of g) is.block apart is.found in
    let place = find-map (λ (x : Placed). x.piece) (is_block p.block) (all_addressed l g) (CodePiece is.block) (ap (find (is_block p.block)) (pieces_addressed l g.stretches) ∙ piece) in
    let x = place.0 in
    let spots = all_parts IsInside (map (placed_spot l) (map spot_of g.stretches)) (placed_stack l ∷ []) laid.inside in
    let ends : EndsBy (2 ^ 47) x = found_has (EndsBy (2 ^ 47)) (λ (y : Placed). is_block p.block y.piece) (all_addressed l g) x (all_end l g.stretches spots.0) place.1 in
    let size : new_size x.piece ≡ new_size (CodePiece is.block) = ap new_size place.2 in
    let deep = depth_most is.block p.offset p.j is.inside is.passed in
    let start : unwrap_or (block_address l g p.block) 0 ≡ x.at = ap (λ (o : Option Placed). unwrap_or (option_map (λ (y : Placed). y.at) o) 0) place.1 in
    let count : option_map_or (inserted_below p.offset) (code_at g p.block) 0 ≡ inserted_below p.offset is.block = ap (λ (o : Option CodeBlock). option_map_or (inserted_below p.offset) o 0) is.found in
    record {
      place = x;
      found = place.1;
      piece = place.2;
      address = omega arith;
      high = omega arith;
    }

-- what is kept of the block of a point
pub record Found (k : Linker) (p : Point) : Type 0 where
  pub block : BlockAt
  pub kept : get bytes_eq k.blocks p.block ≡ Some block
  pub sorted : IsNonDecreasing block.inserted
  pub address : block.at + (p.offset + (4 * count_below p.offset block.inserted + 4 * p.j)) ≡ point_address k.layout.now k.program.now p
  pub high : block.at + (p.offset + (4 * count_below p.offset block.inserted + 4 * p.j)) ≤ 2 ^ 47

pub kept_of : (x : Placed) (o : Option BlockAt) (f : Option Placed) → f ≡ Some x → Keeps f o → (b : BlockAt) × (o ≡ Some b) × Describes x b
kept_of x None None e h = cc
kept_of x None (Some y) e h = absurd h
kept_of x (Some b) None e h = cc
kept_of x (Some b) (Some y) e h = let same : y ≡ x = cc in (b, refl, subst (λ z. Describes z b) same h)

pub point_found : (k : Linker) (p : Point) → IsReady k → IsPoint k.program.now p → Found k p
point_found k p ready is =
    let at = point_placed k.layout.now k.program.now p ready.well ready.accepted is in
    let x = at.place in
    let kept = kept_of x (get bytes_eq k.blocks p.block) _ at.found (ready.blocks p.block) in
    let b = kept.0 in
    let inserted : HasInserted (CodePiece is.block) b.inserted = subst (λ q. HasInserted q b.inserted) at.piece kept.2.inserted in
    let start : b.at ≡ x.at = kept.2.at in
    let below = inserted.1 p.offset in
    let address = at.address in
    let high = at.high in
    record {
      block = b;
      kept = kept.1;
      sorted = inserted.0;
      address = omega arith;
      high = omega arith;
    }

-- the same of the block that a look-up answers
pub record PointAt (k : Linker) (p : Point) (b : BlockAt) : Type 0 where
  pub sorted : IsNonDecreasing b.inserted
  pub address : b.at + (p.offset + (4 * count_below p.offset b.inserted + 4 * p.j)) ≡ point_address k.layout.now k.program.now p
  pub high : b.at + (p.offset + (4 * count_below p.offset b.inserted + 4 * p.j)) ≤ 2 ^ 47

pub point_at : (k : Linker) (p : Point) → IsReady k → IsPoint k.program.now p → (o : Option (Bor BlockAt)) (b : Bor BlockAt) → option_copied o ≡ get bytes_eq k.blocks p.block → o ≡ Some b → PointAt k p b.now
point_at k p ready is o b value some =
    let f = point_found k p ready is in
    let kept = f.kept in
    let here : Some b.now ≡ get bytes_eq k.blocks p.block = sym (ap option_copied some) ∙ value in
    let same : f.block ≡ b.now = cc in
    subst (PointAt k p) same (record { sorted = f.sorted; address = f.address; high = f.high })

some_copied : (o : Option (Bor BlockAt)) (b : BlockAt) → option_copied o ≡ Some b → IsSome o
some_copied None b e = cc
some_copied (Some x) b e = refl

pub point_there : (k : Linker) (p : Point) → IsReady k → IsPoint k.program.now p → (o : Option (Bor BlockAt)) → option_copied o ≡ get bytes_eq k.blocks p.block → IsSome o
point_there k p ready is o value = let f = point_found k p ready is in some_copied o f.block (value ∙ f.kept)

address_kept : (f : Option Placed) (o : Option BlockAt) → Keeps f o → unwrap_or (option_map (λ (b : BlockAt). b.at) o) 0 ≡ unwrap_or (option_map (λ (x : Placed). x.at) f) 0
address_kept None None h = refl
address_kept None (Some b) h = absurd h
address_kept (Some x) None h = absurd h
address_kept (Some x) (Some b) h = h.at

pub block_at : (k : Linker) (id : List ℕ) → IsReady k → (o : Option (Bor BlockAt)) → option_copied o ≡ get bytes_eq k.blocks id
    → unwrap_or (option_map (λ (b : BlockAt). b.at) (option_copied o)) 0 ≡ unwrap_or (block_address k.layout.now k.program.now id) 0
block_at k id ready o value = ap (λ (o : Option BlockAt). unwrap_or (option_map (λ (b : BlockAt). b.at) o) 0) value ∙ address_kept _ (get bytes_eq k.blocks id) (ready.blocks id)
