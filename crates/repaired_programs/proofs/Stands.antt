-- The new blocks of an interval in order: what each block becomes, in the order of the blocks.
use Rattle.std.proofs.Common.{◌≡◌, ℕ, ◌+◌, ◌-◌, List, [], ◌∷◌, ◌++◌, map, refl, sym, ap, ◌∙◌, subst}
use Rattle.std.specs.List.{AllByRecursion as Every, IsDistinct, flat_map}
use Rattle.std.specs.Str.{bytes_eq}
use Rattle.gt_model.specs.declared.intervals.Block.{Block}
use Rattle.gt_model.specs.declared.intervals.Interval.{Interval}
use Rattle.gt_model.specs.declared.modules.Module.{Module}
use Rattle.rewrite.specs.Blocks.{new_block, new_blocks}
use Rattle.rewrite.specs.Offsets.{new_start}
use Rattle.sym_expr.specs.declared.patches.PatchTable.{PatchTable}
use Rattle.sym_expr.specs.declared.program.Piece.{Piece}
use Rattle.sym_expr.specs.Modules.{end_of, id_of, in_order}
use Rattle.sym_expr.specs.Placing.{new_size}
use Rattle.sym_expr.specs.Program.{piece, stretch}
use Rattle.sym_expr.specs.Tables.{Tables}
use Rattle.repaired_programs.proofs.Becomes.{becomes, block_at, IsFit, IsWithin, keep_turn, large, pass, turns, within}
use Rattle.repaired_programs.proofs.Lists.{every_all, every_both, every_map, every_weaker, Pairs}
use Rattle.repaired_programs.proofs.Sorted.{flat_order, IsBefore, IsInTurn, Stand}
use Rattle.repaired_programs.proofs.Spots.{all_apart, all_start, Behind, IsApart, IsLarge, place_of, spots}

-- ---- blocks and their spots

pub map_spots : (f : Block → Piece) (end at : ℕ) (bs : List Block) → map (λ (x : ℕ × Block). x.1) (spots f end at bs) ≡ bs
map_spots f end at [] = refl
map_spots f end at (b ∷ bs) = ap (λ l. b ∷ l) (map_spots f (place_of (end + (b.offset - at)) (f b) + new_size (f b)) (end_of b) bs)

every_spots : (P : Block → Type 0) (f : Block → Piece) (end at : ℕ) (bs : List Block) → Every P bs → Every (λ (x : ℕ × Block). P x.1) (spots f end at bs)
every_spots P f end at [] h = tt
every_spots P f end at (b ∷ bs) h = (h.0, every_spots P f (place_of (end + (b.offset - at)) (f b) + new_size (f b)) (end_of b) bs h.1)

-- ---- a block stands in the room of its piece

record IsRoomy (f : Block → Piece) (g : Block → List Block) (x : ℕ × Block) : Type 0 where
  inside : Every (IsWithin x.0 (x.0 + new_size (f x.1))) (g x.1)
  large : IsLarge f x.1

stand_of : (f : Block → Piece) (g : Block → List Block) (x y : ℕ × Block) → IsApart f x y → IsRoomy f g x → IsRoomy f g y → Stand g x.1 y.1
stand_of f g x y apart roomy_x roomy_y = record {
  past = λ before.
      every_weaker (IsWithin y.0 (y.0 + new_size (f y.1))) (λ v. Every (λ u. IsBefore u v) (g x.1))
      (λ v at_v. every_weaker (IsWithin x.0 (x.0 + new_size (f x.1))) (λ u. IsBefore u v) (λ u at_u. pass f x y u v apart roomy_x.large roomy_y.large before at_u at_v) (g x.1) roomy_x.inside)
      (g y.1) roomy_y.inside;
  front =
      every_weaker (IsWithin x.0 (x.0 + new_size (f x.1))) (λ u. Every (IsInTurn u) (g y.1))
      (λ u at_u. every_weaker (IsWithin y.0 (y.0 + new_size (f y.1))) (IsInTurn u) (λ v at_v. keep_turn f x y u v apart at_u at_v) (g y.1) roomy_y.inside)
      (g x.1) roomy_x.inside;
}

all_stand : (f : Block → Piece) (g : Block → List Block) (xs : List (ℕ × Block)) → Pairs (IsApart f) xs → Every (IsRoomy f g) xs → Pairs (Stand g) (map (λ (x : ℕ × Block). x.1) xs)
all_stand f g [] h k = tt
all_stand f g (x ∷ xs) h k = (
  every_map (λ (y : ℕ × Block). y.1) (Stand g x.1) xs
      (every_weaker (λ y. IsApart f x y × IsRoomy f g y) (λ y. Stand g x.1 y.1) (λ y l. stand_of f g x y l.0 k.0 l.1) xs (every_both (IsApart f x) (IsRoomy f g) xs h.0 k.1)),
  all_stand f g xs h.1 k.1,
)

flat_same : (g : Block → List Block) (h : ℕ × Block → List Block) (xs : List (ℕ × Block)) → Every (λ x. g x.1 ≡ h x) xs → flat_map g (map (λ (x : ℕ × Block). x.1) xs) ≡ flat_map h xs
flat_same g h [] k = refl
flat_same g h (x ∷ xs) k = ap (λ l. l ++ flat_map g (map (λ (y : ℕ × Block). y.1) xs)) k.0 ∙ ap (λ l. h x ++ l) (flat_same g h xs k.1)

-- ---- of an interval

-- what is known of an interval
pub record IsKnown (m : Module) (t : Tables) (p : PatchTable) (i : Interval) : Type 0 where
  pub behind : Behind 0 (in_order i.blocks)
  pub fit : Every (IsFit m p i) (in_order i.blocks)
  pub distinct : IsDistinct bytes_eq (map id_of (in_order i.blocks))

-- the blocks of an interval with their new places
abbrev pub spots_of : Module → Tables → PatchTable → Interval → List (ℕ × Block)
spots_of m t p i = spots (piece m t p i) 0 0 (in_order i.blocks)

own_turns : (m : Module) (t : Tables) (p : PatchTable) (i : Interval) (b : Block) → Pairs IsInTurn (new_block m p i (stretch m t p i) b)
own_turns m t p i b =
    let place : ℕ = new_start (stretch m t p i) (id_of b) in
    subst (Pairs IsInTurn) (sym (becomes m p i (stretch m t p i) b place refl)) (turns m p i (place, b))

abbrev IsAsAt : Module → Tables → PatchTable → Interval → ℕ × Block → Type 0
IsAsAt m t p i x = new_block m p i (stretch m t p i) x.1 ≡ block_at m p i x

roomy_of : (m : Module) (t : Tables) (p : PatchTable) (i : Interval) (x : ℕ × Block) → IsAsAt m t p i x → IsFit m p i x.1 → IsRoomy (piece m t p i) (new_block m p i (stretch m t p i)) x
roomy_of m t p i x same fit = record {
  inside = subst (Every (IsWithin x.0 (x.0 + new_size (piece m t p i x.1)))) (sym same) (within m t p i x.0 x.1 fit);
  large = large m t p i x.1 fit;
}

pub new_order : (m : Module) (t : Tables) (p : PatchTable) (i : Interval) → IsKnown m t p i → in_order (new_blocks m p i (stretch m t p i)) ≡ flat_map (block_at m p i) (spots_of m t p i)
new_order m t p i known =
    let f : Block → Piece = piece m t p i in
    let g : Block → List Block = new_block m p i (stretch m t p i) in
    let bs : List Block = in_order i.blocks in
    let xs : List (ℕ × Block) = spots f 0 0 bs in
    let start = all_start m t p i 0 0 bs known.distinct in
    let same : Every (IsAsAt m t p i) xs =
    every_weaker (λ (x : ℕ × Block). new_start (stretch m t p i) (id_of x.1) ≡ x.0) (IsAsAt m t p i) (λ x e. becomes m p i (stretch m t p i) x.1 x.0 e) xs start in
    let fits : Every (λ (x : ℕ × Block). IsFit m p i x.1) xs = every_spots (IsFit m p i) f 0 0 bs known.fit in
    let roomy : Every (IsRoomy f g) xs =
    every_weaker (λ x. IsAsAt m t p i x × IsFit m p i x.1) (IsRoomy f g) (λ x h. roomy_of m t p i x h.0 h.1) xs (every_both (IsAsAt m t p i) (λ (x : ℕ × Block). IsFit m p i x.1) xs same fits) in
    let apart = all_apart f 0 0 bs known.behind (every_weaker (IsFit m p i) (IsLarge f) (λ b h. large m t p i b h) bs known.fit) in
    let stand : Pairs (Stand g) bs = subst (Pairs (Stand g)) (map_spots f 0 0 bs) (all_stand f g xs apart roomy) in
    flat_order g i.blocks (every_all (λ b. Pairs IsInTurn (g b)) (λ b. own_turns m t p i b) i.blocks) stand
    ∙ ap (flat_map g) (sym (map_spots f 0 0 bs))
    ∙ flat_same g (block_at m p i) xs same
