-- The parts of a program with patches: its pieces, interval by interval and block by block, and their identifiers.
use Rattle.std.proofs.Common.{◌≡◌, ℕ, ◌+◌, ◌-◌, ◌≤◌, Bool, true, false, List, [], ◌∷◌, ◌++◌, map, refl, ap, ◌∙◌, arith}
use Rattle.std.specs.Prelude.{◌==◌, if◌then◌else◌}
use Rattle.std.specs.List.{AllByRecursion as Every, flat_map}
use Rattle.std.proofs.lemmas.List.Concat.{flat_map-append}
use Rattle.gt_model.specs.declared.intervals.Block.{Block}
use Rattle.gt_model.specs.declared.intervals.Interval.{Interval}
use Rattle.gt_model.specs.declared.ir.Ir.{Ir}
use Rattle.gt_model.specs.declared.modules.Module.{Module}
use Rattle.gt_model.specs.Nodes.{nodes}
use Rattle.sym_expr.specs.declared.patches.PatchTable.{PatchTable}
use Rattle.sym_expr.specs.declared.program.Piece.{Piece}
use Rattle.sym_expr.specs.declared.program.Piece.TheVariants.{Gap}
use Rattle.sym_expr.specs.declared.program.Stretch.{Stretch}
use Rattle.sym_expr.specs.Linkable.{formed}
use Rattle.sym_expr.specs.Modules.{bytes_at, end_of, loaded_intervals, loaded_sections}
use Rattle.sym_expr.specs.Points.{pieces_of}
use Rattle.sym_expr.specs.Program.{gap, piece, pieces, program, stretch, entry_of}
use Rattle.sym_expr.specs.TableOk.{ids_ok, new_ids}
use Rattle.sym_expr.specs.Tables.{Tables}
use Rattle.sym_expr.specs.WellMade.{block_id}
use Rattle.sym_expr.proofs.Counts.{times, times_append}
use Rattle.sym_expr.proofs.Fresh.{blocks_new, both_once, intervals_new, piece_ids, stretch_id}
use Rattle.sym_expr.proofs.Holders.{block_ids_of, held, interval_id_of}
use Rattle.sym_expr.proofs.Listed.{ids_are}
use Rattle.sym_expr.proofs.Lists.{every_append, every_back, flat_flat}
use Rattle.sym_expr.proofs.Sections.{both_parts, brought, entry_times, extra, once_extra}
use Rattle.sym_expr.proofs.Sound.{blocks_held, held_once, intervals_held}

-- ---- pieces

gap_each : (P : Piece → Type 0) → ((bytes : List ℕ) → P (Gap bytes)) → (bytes : List ℕ) (b : Bool) → Every P (if b then [] else Gap bytes ∷ [])
gap_each P h bytes true = tt
gap_each P h bytes false = (h bytes, tt)

-- what holds of gaps and of each block holds of all pieces of an interval
pub pieces_each : (P : Piece → Type 0) → ((bytes : List ℕ) → P (Gap bytes)) → (m : Module) (t : Tables) (p : PatchTable) (i : Interval) (at : ℕ) (bs : List Block) → Every (λ b. P (piece m t p i b)) bs → Every P (pieces m t p i at bs)
pieces_each P gaps m t p i at [] h = gap_each P gaps (bytes_at i at (i.size - at)) (i.size - at == 0)
pieces_each P gaps m t p i at (b ∷ bs) h =
    every_append P (gap i at b.offset) (piece m t p i b ∷ pieces m t p i (end_of b) bs) (gap_each P gaps (bytes_at i at (b.offset - at)) (b.offset - at == 0))
    (h.0, pieces_each P gaps m t p i (end_of b) bs h.1)

pub blocks_each : (P : Piece → Type 0) (m : Module) (t : Tables) (p : PatchTable) (i : Interval) (at : ℕ) (bs : List Block) → Every P (pieces m t p i at bs) → Every (λ b. P (piece m t p i b)) bs
blocks_each P m t p i at [] h = tt
blocks_each P m t p i at (b ∷ bs) h =
    let rest = every_back P (gap i at b.offset) (piece m t p i b ∷ pieces m t p i (end_of b) bs) h in
    (rest.0, blocks_each P m t p i (end_of b) bs rest.1)

pub every_unmap : {X Y : Type 0} (f : X → Y) (P : Y → Type 0) (xs : List X) → Every P (map f xs) → Every (λ x. P (f x)) xs
every_unmap f P [] h = tt
every_unmap f P (x ∷ xs) h = (h.0, every_unmap f P xs h.1)

-- ---- identifiers

pub extra_once : (ir : Ir) (m : Module) (t : Tables) → formed ir m t → extra m (loaded_sections m) 1 ≤ 1
extra_once ir m t h =
    let most = entry_times m (loaded_sections m) in
    let less = blocks_held ir m t h (entry_of m) in
    let one = held_once ir m t h (entry_of m) in
    omega (arith, most, less, one)

kept_once : (key : Stretch → List (List ℕ)) (own : Interval → List (List ℕ)) (ir : Ir) (m : Module) (t : Tables) (p : PatchTable) → formed ir m t → ids_ok ir m p → (id : List ℕ)
    → flat_map key (map (stretch m t p) (loaded_intervals m)) ≡ flat_map own (loaded_intervals m) → times id (flat_map own (loaded_intervals m)) ≤ held id (nodes ir) → times id (flat_map key (brought m p)) ≤ times id (new_ids m p)
    → times id (flat_map key (program m t p).stretches) ≤ 1
kept_once key own ir m t p h ok id same old new =
    let size : List Stretch → ℕ = λ ss. times id (flat_map key ss) in
    let joined : (xs ys : List Stretch) → size (xs ++ ys) ≡ size xs + size ys = λ xs ys. ap (times id) (flat_map-append key xs ys) ∙ times_append id (flat_map key xs) (flat_map key ys) in
    let both = both_parts size refl joined m t p (loaded_sections m) in
    let few = once_extra m (loaded_sections m) (size (brought m p)) (extra_once ir m t h) in
    let one = held_once ir m t h id in
    let all = both_once ir m p ok id (times id (flat_map own (loaded_intervals m))) (extra m (loaded_sections m) (size (brought m p))) old (omega (arith, old, one)) (omega (arith, few, new)) in
    let e = ap (times id) same in
    omega (arith, both, all, e)

own_intervals : (m : Module) (t : Tables) (p : PatchTable) (is : List Interval) → flat_map stretch_id (map (stretch m t p) is) ≡ flat_map interval_id_of is
own_intervals m t p [] = refl
own_intervals m t p (i ∷ is) = ap (λ l. i.uuid ∷ l) (own_intervals m t p is)

pub intervals_once : (ir : Ir) (m : Module) (t : Tables) (p : PatchTable) → formed ir m t → ids_ok ir m p → (id : List ℕ) → times id (flat_map stretch_id (program m t p).stretches) ≤ 1
intervals_once ir m t p h ok id = kept_once stretch_id interval_id_of ir m t p h ok id (own_intervals m t p (loaded_intervals m)) (intervals_held ir m t h id) (intervals_new m p id)

pub blocks_once : (ir : Ir) (m : Module) (t : Tables) (p : PatchTable) → formed ir m t → ids_ok ir m p → (id : List ℕ) → times id (flat_map piece_ids (program m t p).stretches) ≤ 1
blocks_once ir m t p h ok id = kept_once piece_ids block_ids_of ir m t p h ok id (ids_are m t p (loaded_intervals m)) (blocks_held ir m t h id) (blocks_new m p id)

pub pieces_once : (ir : Ir) (m : Module) (t : Tables) (p : PatchTable) → formed ir m t → ids_ok ir m p → (id : List ℕ) → times id (flat_map block_id (pieces_of (program m t p))) ≤ 1
pieces_once ir m t p h ok id =
    let same = ap (times id) (flat_flat (λ (s : Stretch). s.pieces) block_id (program m t p).stretches) in
    let most = blocks_once ir m t p h ok id in
    omega (arith, same, most)
