-- A point at the end of a block goes on to a point of the same address.
use Rattle.std.proofs.Common.{◌≡◌, ℕ, ◌+◌, ◌≤◌, Bool, true, false, Option, Some, None, List, [], ◌∷◌, length, map, refl, sym, ap, subst, ◌∙◌, arith}
use Rattle.std.specs.Prelude.{find, ◌==◌, nat_le, if◌then◌else◌}
use Rattle.std.specs.Option.{option_map, option_and_then}
use Rattle.std.specs.List.{AllByRecursion as Every, list_any}
use Rattle.std.specs.Str.{bytes_eq}
use Rattle.std.proofs.lemmas.Bool.{and_parts, eqb-true, leb-true, cond-true, eq-eqb}
use Rattle.std.proofs.lemmas.Option.{none-some}
use Rattle.sym_expr.specs.declared.layout.Layout.{Layout}
use Rattle.sym_expr.specs.declared.point.Point.{Point}
use Rattle.sym_expr.specs.declared.program.CodeBlock.{CodeBlock}
use Rattle.sym_expr.specs.declared.program.DataBlock.{DataBlock}
use Rattle.sym_expr.specs.declared.program.Piece.{Piece}
use Rattle.sym_expr.specs.declared.program.Piece.TheVariants.{Code as CodePiece, Data as DataPiece, Gap}
use Rattle.sym_expr.specs.declared.program.Program.{Program}
use Rattle.sym_expr.specs.declared.program.Stretch.{Stretch}
use Rattle.sym_expr.specs.Images.{addressed, inserted_below, is_block}
use Rattle.sym_expr.specs.Layouts.{address_of, least_from}
use Rattle.sym_expr.specs.Placing.{Placed, new_size, placed_from}
use Rattle.sym_expr.specs.Points.{behind, code_at, code_size, data_size, first_code, follower, goes_on, ins, is_code_piece, is_passed, object_alignment, pieces_of, stretch_of}
use Rattle.sym_expr.specs.Tables.{effective, common_power}
use Rattle.sym_expr.specs.Targets.{start_of}
use Rattle.sym_expr.specs.WellMade.{IsPoint, IsTiled, well_made}
use Rattle.simulation.specs.Placement.{placement_of, point_address}
use Rattle.simulation.specs.Placed.{IsReached}
use Rattle.placed_images.proofs.Below.{below_none, depth_end}
use Rattle.placed_images.proofs.Found.{IsOnly, addressed_pieces, all_addressed, all_only, ids_same, piece_code, same_ids, shifted}
use Rattle.placed_images.proofs.Lists.{some_is, every_both, every_part, found_one}
use Rattle.placed_images.proofs.Points.{address, code_good, code_named, deep, place, start_is}

-- what a step of a search gives
and_then : {X Y : Type 0} (f : X → Option Y) (o : Option X) (y : Y) → option_and_then f o ≡ Some y → (x : X) × (o ≡ Some x) × (f x ≡ Some y)
and_then f None y e = absurd (none-some y e)
and_then f (Some x) y e = (x, refl, e)

mapped : {X Y : Type 0} (f : X → Y) (o : Option X) (y : Y) → option_map f o ≡ Some y → (x : X) × (o ≡ Some x) × (f x ≡ y)
mapped f None y e = absurd (none-some y e)
mapped f (Some x) y e = (x, refl, some_is (f x) y e)

only_if : {Y : Type 0} (b : Bool) (o : Option Y) (y : Y) → (if b then o else None) ≡ Some y → (b ≡ true) × (o ≡ Some y)
only_if true o y e = (refl, e)
only_if false o y e = absurd (none-some y e)

-- code and gaps stand where the piece before them ends, and so do empty data blocks
plain_next : (end : ℕ) → least_from end 1 0 ≡ end
plain_next end = omega arith

empty_step : (d : DataBlock) → data_size d ≡ 0 → object_alignment d ≡ 1
empty_step d none = from d.alignment
  where
    from : (entry : Option ℕ) → effective entry (data_size d) d.offset ≡ 1
    from None = refl
    from (Some e) = cond-true (data_size d == 0) 1 (if e == 0 then 1 else common_power 12 e d.offset) (eq-eqb (data_size d) 0 none)

empty_next : (d : DataBlock) (end : ℕ) → data_size d ≡ 0 → least_from end (object_alignment d) 0 + data_size d ≡ end
empty_next d end none =
    let e : least_from end (object_alignment d) 0 ≡ least_from end 1 0 = ap (λ m. least_from end m 0) (empty_step d none) in
    let f = plain_next end in
    omega arith

module _ (all : List Placed) (c : CodeBlock) where
  -- the block is found at an address
  abbrev IsAt : ℕ → Type 0
  IsAt at = find (λ (x : Placed). is_block c.id x.piece) all ≡ Some (record { at = at; piece = CodePiece c })

  at_same : (a b : ℕ) → a ≡ b → IsAt a → IsAt b
  at_same a b e h = subst IsAt e h

  -- where the next block begins, and that its address is the one where the pieces before it end if it begins at once
  abbrev IsNext : ℕ → ℕ → Type 0
  IsNext old at = (old ≤ c.offset) × (c.offset ≡ old → IsAt at)

  next_code : (start old end : ℕ) (ps : List Piece) → IsTiled old ps → Every (IsOnly all) (shifted start (placed_from end ps)) → first_code ps ≡ Some c → IsNext old (start + end)
  next_code start old end [] tiled only e = absurd (none-some c e)
  next_code start old end (CodePiece b ∷ ps) tiled only e =
      let same : b ≡ c = some_is b c e in
      let offset : c.offset ≡ old = ap (λ (d : CodeBlock). d.offset) (sym same) ∙ tiled.0 in
      let found = only.0 b.id (ids_same b.id b.id refl) in
      let P : CodeBlock → Type 0 = λ d. find (λ (x : Placed). is_block d.id x.piece) all ≡ Some (record { at = start + least_from end 1 0; piece = CodePiece d }) in
      (omega arith, (λ f. at_same (start + least_from end 1 0) (start + end) (ap (λ n. start + n) (plain_next end)) (subst P same found)))
  next_code start old end (DataPiece d ∷ ps) tiled only e =
      let both = only_if (data_size d == 0) (first_code ps) c e in
      let none = eqb-true (data_size d) 0 both.0 in
      let rest = next_code start (old + data_size d) (least_from end (object_alignment d) 0 + data_size d) ps tiled.1 only.1 both.1 in
      let le = rest.0 in
      (omega arith, (λ f. at_same (start + (least_from end (object_alignment d) 0 + data_size d)) (start + end) (ap (λ n. start + n) (empty_next d end none)) (rest.1 (omega arith))))
  next_code start old end (Gap bytes ∷ ps) tiled only e =
      let rest = next_code start (old + length bytes) (least_from end 1 0 + length bytes) ps tiled only.1 e in
      let le = rest.0 in (
        omega arith,
        (λ f.
            let none : length bytes ≡ 0 = omega arith in
            let plain = plain_next end in
            at_same (start + (least_from end 1 0 + length bytes)) (start + end) (omega arith) (rest.1 (omega arith))),
      )

  -- a block and the next one behind it
  record Behind (id : List ℕ) : Type 0 where
    first : CodeBlock
    at : ℕ
    named : bytes_eq first.id id ≡ true
    found : find (λ (x : Placed). is_block first.id x.piece) all ≡ Some (record { at = at; piece = CodePiece first })
    next : IsNext (first.offset + code_size first) (at + new_size (CodePiece first))

  behind_here : (id : List ℕ) (start old end : ℕ) (b : CodeBlock) (ps : List Piece) → bytes_eq b.id id ≡ true → IsTiled old (CodePiece b ∷ ps) → Every (IsOnly all) (shifted start (placed_from end (CodePiece b ∷ ps)))
      → first_code ps ≡ Some c → Behind id
  behind_here id start old end b ps is tiled only e =
      let at = least_from end 1 0 in
      let n = next_code start (old + code_size b) (at + new_size (CodePiece b)) ps tiled.2 only.1 e in
      let same : old + code_size b ≡ b.offset + code_size b = ap (λ n. n + code_size b) (sym tiled.0) in
      let sum : start + (at + new_size (CodePiece b)) ≡ start + at + new_size (CodePiece b) = omega arith in
      let P : ℕ → Type 0 = λ o. IsNext o (start + (at + new_size (CodePiece b))) in
      let Q : ℕ → Type 0 = λ a. IsNext (b.offset + code_size b) a in
      record { first = b; at = start + at; named = is; found = only.0 b.id (ids_same b.id b.id refl); next = subst Q sum (subst P same n) }

  behind_or : (id : List ℕ) (b : CodeBlock) (ps : List Piece) (x : Bool) → bytes_eq b.id id ≡ x → first_code (if x then ps else behind id ps) ≡ Some c → (bytes_eq b.id id ≡ true → first_code ps ≡ Some c → Behind id) → (first_code (behind id ps) ≡ Some c → Behind id) → Behind id
  behind_or id b ps true is e here rest = here is e
  behind_or id b ps false is e here rest = rest e

  behind_is : (id : List ℕ) (start old end : ℕ) (ps : List Piece) → IsTiled old ps → Every (IsOnly all) (shifted start (placed_from end ps)) → first_code (behind id ps) ≡ Some c → Behind id
  behind_is id start old end [] tiled only e = absurd (none-some c e)
  behind_is id start old end (CodePiece b ∷ ps) tiled only e =
      behind_or id b ps (bytes_eq b.id id) refl e (λ is f. behind_here id start old end b ps is tiled only f) (λ f. behind_is id start (old + code_size b) (least_from end 1 0 + new_size (CodePiece b)) ps tiled.2 only.1 f)
  behind_is id start old end (DataPiece d ∷ ps) tiled only e = behind_is id start (old + data_size d) (least_from end (object_alignment d) 0 + data_size d) ps tiled.1 only.1 e
  behind_is id start old end (Gap bytes ∷ ps) tiled only e = behind_is id start (old + length bytes) (least_from end 1 0 + length bytes) ps tiled only.1 e

image_or : {X Y : Type 0} (f : X → Y) (test : Y → Bool) (y x : X) (ys : List X) (b : Bool) → (find (λ z. test (f z)) ys ≡ Some x → find test (map f ys) ≡ Some (f x))
    → (if b then Some y else find (λ z. test (f z)) ys) ≡ Some x → (if b then Some (f y) else find test (map f ys)) ≡ Some (f x)
image_or f test y x ys true rest e = ap (λ z. Some (f z)) (some_is y x e)
image_or f test y x ys false rest e = rest e

-- a search among the images of a list, from one among the list
pub find_image : {X Y : Type 0} (f : X → Y) (test : Y → Bool) (xs : List X) (x : X) → find (λ z. test (f z)) xs ≡ Some x → find test (map f xs) ≡ Some (f x)
find_image f test [] x e = absurd (none-some x e)
find_image f test (y ∷ ys) x e = image_or f test y x ys (test (f y)) (find_image f test ys x) e

module _ (l : Layout) (g : Program) (well : well_made g) where
  -- a code block at an address is the code block of its identifier
  pub code_there : (c : CodeBlock) (at : ℕ) → IsAt (all_addressed l g) c at → code_at g c.id ≡ Some c
  code_there c at e =
      let pieces = find_image (λ (x : Placed). x.piece) (is_block c.id) (all_addressed l g) (record { at = at; piece = CodePiece c }) e in
      piece_code c.id (pieces_of g) c (ap (find (is_block c.id)) (sym (addressed_pieces l g.stretches)) ∙ pieces)

  -- the start of a code block at an address
  start_reached : (c : CodeBlock) (at : ℕ) → IsAt (all_addressed l g) c at → (p : Point) → point_address (placement_of l g) g p ≡ at → IsReached (placement_of l g) g p (start_of c.id)
  start_reached c at e p same =
      let found = code_there c at e in
      let start = start_is l g c.id (record { at = at; piece = CodePiece c }) e in
      let count = deep g c.id 0 c found in
      let none = below_none g c (code_good l g well c.id c found) in
      record {
        is_point = record { block = c; found = found; whole = refl; inside = omega arith; passed = omega arith };
        same = omega arith;
      }

  abbrev Known : Stretch → Type 0
  Known s = IsTiled 0 s.pieces × Every (IsOnly (all_addressed l g)) (addressed l s)

  stretch_known : (id : List ℕ) (s : Stretch) → stretch_of g id ≡ Some s → Known s
  stretch_known id s e =
      (found_one (λ (t : Stretch). list_any (is_code_piece id) t.pieces) Known g.stretches s
      (every_both (λ (t : Stretch). IsTiled 0 t.pieces) (λ (t : Stretch). Every (IsOnly (all_addressed l g)) (addressed l t)) g.stretches well.tiled (every_part (addressed l) (IsOnly (all_addressed l g)) g.stretches (all_only l g well))) e).1

  code_is : (a b : CodeBlock) → CodePiece a ≡ CodePiece b → a ≡ b
  code_is a b e = cc

  -- a block that begins where another ends stands there
  behind_at : (b c : CodeBlock) (id : List ℕ) (x : Placed) → find (λ (y : Placed). is_block id y.piece) (all_addressed l g) ≡ Some x → x.piece ≡ CodePiece b → b.id ≡ id → c.offset ≡ b.offset + code_size b
      → Behind (all_addressed l g) c b.id → IsAt (all_addressed l g) c (x.at + new_size (CodePiece b))
  behind_at b c id x found piece named begins h =
      let all = all_addressed l g in
      let P : List ℕ → Type 0 = λ other. find (λ (y : Placed). is_block other y.piece) all ≡ Some (record { at = h.at; piece = CodePiece h.first }) in
      let here = subst P (same_ids h.first.id b.id h.named ∙ named) h.found in
      let one : record { at = h.at; piece = CodePiece h.first } ≡ x = some_is (record { at = h.at; piece = CodePiece h.first }) x (sym here ∙ found) in
      let block : h.first ≡ b = code_is h.first b (ap (λ (y : Placed). y.piece) one ∙ piece) in
      let at : h.at ≡ x.at = ap (λ (y : Placed). y.at) one in
      let there = h.next.1 (begins ∙ ap (λ (d : CodeBlock). d.offset + code_size d) (sym block)) in
      at_same all c (h.at + new_size (CodePiece h.first)) (x.at + new_size (CodePiece b)) (ap (λ n. n + new_size (CodePiece h.first)) at ∙ ap (λ (d : CodeBlock). x.at + new_size (CodePiece d)) block) there

  -- the block behind a block that it begins at the end of
  follows : (b c : CodeBlock) (id : List ℕ) (x : Placed) → find (λ (y : Placed). is_block id y.piece) (all_addressed l g) ≡ Some x → x.piece ≡ CodePiece b → b.id ≡ id → follower g b ≡ Some c → IsAt (all_addressed l g) c (x.at + new_size (CodePiece b))
  follows b c id x found piece named e =
      let outer = and_then (λ (d : CodeBlock). if d.offset == b.offset + code_size b then Some d else None) (option_and_then (λ (s : Stretch). first_code (behind b.id s.pieces)) (stretch_of g b.id)) c e in
      let test = only_if (outer.0.offset == b.offset + code_size b) (Some outer.0) c outer.2 in
      let inner = and_then (λ (s : Stretch). first_code (behind b.id s.pieces)) (stretch_of g b.id) outer.0 outer.1 in
      let known = stretch_known b.id inner.0 inner.1 in
      let h = behind_is (all_addressed l g) outer.0 b.id (address_of l inner.0.id) 0 0 inner.0.pieces known.0 known.1 inner.2 in
      let P : CodeBlock → Type 0 = λ d. IsAt (all_addressed l g) d (x.at + new_size (CodePiece b)) in
      subst P (some_is outer.0 c test.1) (behind_at b outer.0 id x found piece named (eqb-true outer.0.offset (b.offset + code_size b) test.0) h)

  -- the address of the end of a block
  end_address : (p : Point) (is : IsPoint g p) → is_passed is.block p ≡ true → point_address (placement_of l g) g p ≡ (place l g well p is).place.at + new_size (CodePiece is.block)
  end_address p is e =
      let parts = and_parts (p.offset == code_size is.block) (nat_le (length (ins is.block p.offset)) p.j) e in
      let offset : p.offset ≡ code_size is.block = eqb-true p.offset (code_size is.block) parts.0 in
      let over = leb-true (length (ins is.block p.offset)) p.j parts.1 in
      let most = is.passed in
      let all : p.j ≡ length (ins is.block (code_size is.block)) = omega arith ∙ ap (λ o. length (ins is.block o)) offset in
      let depth = depth_end g is.block p.j (code_good l g well p.block is.block is.found) all in
      let same : inserted_below p.offset is.block ≡ inserted_below (code_size is.block) is.block = ap (λ o. inserted_below o is.block) offset in
      let at = address l g well p is in
      omega arith

  pub goes_on_is : (p q : Point) → IsPoint g p → goes_on g p ≡ Some q → IsReached (placement_of l g) g p q
  goes_on_is p q is e =
      let step = ap (λ (o : Option CodeBlock). option_and_then (λ b. if is_passed b p then option_map (λ (c : CodeBlock). start_of c.id) (follower g b) else None) o) is.found in
      let both = only_if (is_passed is.block p) (option_map (λ (c : CodeBlock). start_of c.id) (follower g is.block)) q (sym step ∙ e) in
      let next = mapped (λ (c : CodeBlock). start_of c.id) (follower g is.block) q both.1 in
      let P : Point → Type 0 = λ r. IsReached (placement_of l g) g p r in
      subst P next.2 (start_reached next.0 ((place l g well p is).place.at + new_size (CodePiece is.block)) (follows is.block next.0 p.block (place l g well p is).place (place l g well p is).found (place l g well p is).piece (code_named l g well p.block is.block is.found) next.1) p (end_address p is both.0))
