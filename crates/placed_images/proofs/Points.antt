-- The addresses of points: where they lie, and how far the next one is.
use Rattle.std.proofs.Common.{◌≡◌, ℕ, suc, ◌+◌, ◌*◌, ◌%◌, Bool, true, false, Option, Some, List, length, refl, ap, subst, ◌∙◌, arith}
use Rattle.std.specs.Prelude.{find, unwrap_or, nat_lt, if◌then◌else◌}
use Rattle.std.specs.Option.{option_map, option_map_or}
use Rattle.std.specs.Str.{bytes_eq}
use Rattle.std.proofs.lemmas.Bool.{ltb-false}
use Rattle.sym_expr.specs.declared.layout.Layout.{Layout}
use Rattle.sym_expr.specs.declared.point.Point.{Point}
use Rattle.sym_expr.specs.declared.program.CodeBlock.{CodeBlock}
use Rattle.sym_expr.specs.declared.program.Piece.{Piece}
use Rattle.sym_expr.specs.declared.program.Piece.TheVariants.{Code as CodePiece}
use Rattle.sym_expr.specs.declared.program.Program.{Program}
use Rattle.sym_expr.specs.Images.{inserted_below, is_block}
use Rattle.sym_expr.specs.Layouts.{accepted}
use Rattle.sym_expr.specs.Placing.{Placed, new_size, shape_of}
use Rattle.sym_expr.specs.Points.{after, after_in, code_at, code_blocks, ins}
use Rattle.sym_expr.specs.Targets.{point}
use Rattle.sym_expr.specs.WellMade.{IsCode, IsPoint, well_made}
use Rattle.simulation.specs.Placement.{placement_of, point_address}
use Rattle.simulation.specs.Placed.{IsAddress}
use Rattle.placed_images.proofs.Below.{below_more, depth_most}
use Rattle.placed_images.proofs.Found.{At, all_addressed, at_code, same_ids}
use Rattle.placed_images.proofs.Lists.{found_one}
use Rattle.placed_images.proofs.Multiples.{IsOnMultiple, OnMultiple, all_on_multiples}
use Rattle.placed_images.proofs.Spread.{Lies, all_lie}

-- where a block that is found stands
pub start_is : (l : Layout) (g : Program) (id : List ℕ) (x : Placed) → find (λ (y : Placed). is_block id y.piece) (all_addressed l g) ≡ Some x → (placement_of l g).block id ≡ x.at
start_is l g id x e = ap (λ (o : Option Placed). unwrap_or (option_map (λ (y : Placed). y.at) o) 0) e

-- how far a point of a block that is found stands behind its start
pub deep : (g : Program) (id : List ℕ) (o : ℕ) (b : CodeBlock) → code_at g id ≡ Some b → option_map_or (inserted_below o) (code_at g id) 0 ≡ inserted_below o b
deep g id o b e = ap (λ (c : Option CodeBlock). option_map_or (inserted_below o) c 0) e

module _ (l : Layout) (g : Program) (well : well_made g) where
  -- a code block that is found is as it should be
  pub code_good : (id : List ℕ) (b : CodeBlock) → code_at g id ≡ Some b → IsCode g b
  code_good id b e = (found_one (λ (c : CodeBlock). bytes_eq c.id id) (IsCode g) (code_blocks g) b well.codes e).1

  pub code_named : (id : List ℕ) (b : CodeBlock) → code_at g id ≡ Some b → b.id ≡ id
  code_named id b e = same_ids b.id id (found_one (λ (c : CodeBlock). bytes_eq c.id id) (IsCode g) (code_blocks g) b well.codes e).0

  -- the piece of a point's block
  pub place : (p : Point) → (is : IsPoint g p) → At l g well p.block (CodePiece is.block)
  place p is = at_code l g well p.block is.block is.found

  pub address : (p : Point) (is : IsPoint g p) → point_address (placement_of l g) g p ≡ (place p is).place.at + (p.offset + (4 * inserted_below p.offset is.block + 4 * p.j))
  address p is =
      let start = start_is l g p.block (place p is).place (place p is).found in
      let count = deep g p.block p.offset is.block is.found in
      omega arith

  -- four bytes further on is the next point
  after_address : (p : Point) (is : IsPoint g p) (x : Bool) → nat_lt p.j (length (ins is.block p.offset)) ≡ x
      → point_address (placement_of l g) g (if x then point p.block p.offset (suc p.j) else point p.block (p.offset + 4) 0) ≡ point_address (placement_of l g) g p + 4
  after_address p is true more = omega arith
  after_address p is false more =
      let over = ltb-false p.j (length (ins is.block p.offset)) more in
      let passed = is.passed in
      let here = deep g p.block p.offset is.block is.found in
      let there = deep g p.block (p.offset + 4) is.block is.found in
      let below = below_more g is.block (code_good p.block is.block is.found) p.offset is.whole in
      omega arith

  pub after_is : (p : Point) → IsPoint g p → point_address (placement_of l g) g (after g p) ≡ point_address (placement_of l g) g p + 4
  after_is p is =
      let one : after g p ≡ after_in is.block p = ap (λ (c : Option CodeBlock). option_map_or (λ b. after_in b p) c p) is.found in
      ap (point_address (placement_of l g) g) one ∙ after_address p is (nat_lt p.j (length (ins is.block p.offset))) refl

  module _ (laid : accepted l (shape_of g)) where
    pub point_lies : (p : Point) (is : IsPoint g p) → Lies l (place p is).place
    point_lies p is = (found_one (λ (x : Placed). is_block p.block x.piece) (Lies l) (all_addressed l g) (place p is).place (all_lie l g laid) (place p is).found).1

    code_four : (p : Point) (is : IsPoint g p) → (place p is).place.at % 4 ≡ 0
    code_four p is =
        let P : Piece → Type 0 = λ q. OnMultiple (place p is).place.at q in
        subst P (place p is).piece (found_one (λ (x : Placed). is_block p.block x.piece) IsOnMultiple (all_addressed l g) (place p is).place (all_on_multiples l g well laid) (place p is).found).1

    pub is_address : (p : Point) → IsPoint g p → IsAddress (point_address (placement_of l g) g p)
    is_address p is =
        let lies = point_lies p is in
        let low = lies.0 in
        let high = lies.1 in
        let size : new_size (place p is).place.piece ≡ new_size (CodePiece is.block) = ap new_size (place p is).piece in
        let most = depth_most g is.block p.offset p.j (code_good p.block is.block is.found) is.whole is.inside is.passed in
        let at = address p is in
        let four = code_four p is in
        let whole = is.whole in
        record { aligned = omega arith; low = omega arith; high = omega arith }
