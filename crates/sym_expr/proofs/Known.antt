-- The blocks of a module and of the functions of patches are blocks of the program.
use Rattle.std.proofs.Common.{◌≡◌, ◌≢◌, ℕ, ◌+◌, ◌≤◌, ◌<◌, Bool, true, false, nat_eq, List, [], ◌∷◌, length, map, get_or, Some, ap, subst, arith}
use Rattle.std.specs.Prelude.{filter, is_some, if◌then◌else◌}
use Rattle.std.specs.List.{AllByRecursion as Every}
use Rattle.gt_model.specs.declared.intervals.Block.{Block}
use Rattle.gt_model.specs.declared.intervals.Interval.{Interval}
use Rattle.gt_model.specs.declared.ir.Ir.{Ir}
use Rattle.gt_model.specs.declared.modules.Module.{Module}
use Rattle.sym_expr.specs.declared.patches.Function.{Function}
use Rattle.sym_expr.specs.declared.patches.PatchTable.{PatchTable}
use Rattle.sym_expr.specs.declared.patches.PatchWord.{PatchWord}
use Rattle.sym_expr.specs.declared.program.Piece.{Piece}
use Rattle.sym_expr.specs.declared.program.Stretch.{Stretch}
use Rattle.sym_expr.specs.declared.program.Word.{Word}
use Rattle.sym_expr.specs.Linkable.{formed, is_crooked}
use Rattle.sym_expr.specs.Modules.{blocks_of, id_of, in_order, loaded_intervals, loaded_sections, size_of}
use Rattle.sym_expr.specs.Patches.{function_blocks, inserted_at, inserted_in}
use Rattle.sym_expr.specs.Points.{code_at, pieces_of}
use Rattle.sym_expr.specs.Program.{code_block, function_stretch, patched_word, piece, program, stretch}
use Rattle.sym_expr.specs.TableOk.{function_words, ids_ok, table_ok}
use Rattle.sym_expr.specs.Tables.{Tables}
use Rattle.sym_expr.specs.Targets.{function_block_id}
use Rattle.sym_expr.proofs.Aims.{AllThere, IsKnownBlock, IsKnownFunction}
use Rattle.sym_expr.proofs.Found.{IsFoundIn, pieces_found}
use Rattle.sym_expr.proofs.Functions.{function_size, nth_block, piece_at}
use Rattle.sym_expr.proofs.Lists.{every_both, every_flat, every_part, every_weaker}
use Rattle.sym_expr.proofs.Orders.{each_from_order}
use Rattle.sym_expr.proofs.Parts.{blocks_each, every_unmap, pieces_once}
use Rattle.sym_expr.proofs.Sections.{brought_parts, entered_once, own_parts}
use Rattle.sym_expr.proofs.Sound.{IsSound, all_sound}
use Rattle.sym_expr.proofs.There.{IsKnown, there}
use Rattle.sym_expr.proofs.Tiles.{own_size, piece_code, piece_data, straight_code}

-- ---- blocks of the module

abbrev with_word : Module → PatchTable → ℕ × PatchWord → ℕ × Word
with_word m p w = (w.0, patched_word m p w.1)

as_many : (m : Module) (p : PatchTable) (o : ℕ) (ws : List (ℕ × PatchWord)) → length (inserted_at o ws) ≤ length (inserted_at o (map (with_word m p) ws))
as_many m p o [] = omega arith
as_many m p o (w ∷ ws) = at (nat_eq o w.0) (as_many m p o ws)
  where
    filtered : List (ℕ × PatchWord)
    filtered = filter (λ (w : ℕ × PatchWord). nat_eq o w.0) ws

    kept : List (ℕ × Word)
    kept = filter (λ (w : ℕ × Word). nat_eq o w.0) (map (with_word m p) ws)

    at : (b : Bool) → length (inserted_at o ws) ≤ length (inserted_at o (map (with_word m p) ws))
        → length (map (λ (w : ℕ × PatchWord). w.1) (if b then w ∷ filtered else filtered)) ≤ length (map (λ (w : ℕ × Word). w.1) (if b then with_word m p w ∷ kept else kept))
    at true h = omega (arith, h)
    at false h = h

is_known : (m : Module) (t : Tables) (p : PatchTable) (i : Interval) (b : Block) → IsFoundIn (pieces_of (program m t p)) (piece m t p i b) → is_crooked b ≡ false → IsKnown (program m t p) p b
is_known m t p i b h k = record {
  code = λ e.
      let straight = straight_code b k e in
      let P : Piece → Type 0 = IsFoundIn (pieces_of (program m t p)) in
      record { block = code_block m p i b; found = (subst P (piece_code m t p i b e) h).0; size = own_size m p i b straight; whole = straight.size; passed = as_many m p (size_of b) (inserted_in p (id_of b)) };
  other = λ e.
      let P : Piece → Type 0 = IsFoundIn (pieces_of (program m t p)) in
      ap is_some (subst P (piece_data m t p i b e) h).1;
}

known_in : (m : Module) (t : Tables) (p : PatchTable) (i : Interval) (bs : List Block) → Every (λ b. IsFoundIn (pieces_of (program m t p)) (piece m t p i b)) bs → Every (λ b. is_crooked b ≡ false) bs → Every (IsKnown (program m t p) p) bs
known_in m t p i [] h k = tt
known_in m t p i (b ∷ bs) h k = (is_known m t p i b h.0 k.0, known_in m t p i bs h.1 k.1)

known_each : (m : Module) (t : Tables) (p : PatchTable) (is : List Interval) → Every (IsSound t) is → Every (λ (s : Stretch). Every (IsFoundIn (pieces_of (program m t p))) s.pieces) (map (stretch m t p) is) → Every (λ (i : Interval). Every (IsKnown (program m t p) p) i.blocks) is
known_each m t p [] h k = tt
known_each m t p (i ∷ is) h k = (
  each_from_order (IsKnown (program m t p) p) i.blocks (known_in m t p i (in_order i.blocks) (blocks_each (IsFoundIn (pieces_of (program m t p))) m t p i 0 (in_order i.blocks) k.0) h.0.straight),
  known_each m t p is h.1 k.1,
)

all_found : (ir : Ir) (m : Module) (t : Tables) (p : PatchTable) → formed ir m t → ids_ok ir m p → Every (λ (s : Stretch). Every (IsFoundIn (pieces_of (program m t p))) s.pieces) (program m t p).stretches
all_found ir m t p h ok = every_part (λ (s : Stretch). s.pieces) (IsFoundIn (pieces_of (program m t p))) (program m t p).stretches (pieces_found (pieces_of (program m t p)) (pieces_once ir m t p h ok))

pub all_known : (ir : Ir) (m : Module) (t : Tables) (p : PatchTable) → formed ir m t → ids_ok ir m p → Every (IsKnown (program m t p) p) (blocks_of (loaded_intervals m))
all_known ir m t p h ok =
    every_flat (λ (i : Interval). i.blocks) (IsKnown (program m t p) p) (loaded_intervals m)
    (known_each m t p (loaded_intervals m) (all_sound ir m t h) (own_parts (λ (s : Stretch). Every (IsFoundIn (pieces_of (program m t p))) s.pieces) m t p (loaded_sections m) (all_found ir m t p h ok)))

pub symbols_there : (ir : Ir) (m : Module) (t : Tables) (p : PatchTable) → formed ir m t → ids_ok ir m p → AllThere (program m t p) m p
symbols_there ir m t p h ok = there (program m t p) p m (all_known ir m t p h ok)

-- ---- blocks of functions

known_block : (m : Module) (t : Tables) (p : PatchTable) (f : Function) → Every (IsFoundIn (pieces_of (program m t p))) (function_stretch m p f).pieces → (k : ℕ) → k < length (function_blocks f) → IsKnownBlock (program m t p) m f k
known_block m t p f h k within =
    let one = nth_block (IsFoundIn (pieces_of (program m t p))) m p f 0 0 (function_blocks f) k h within in
    let words = get_or (function_blocks f) k [] in
    let same : 0 + k ≡ k = omega arith in
    let Q : ℕ → Type 0 = λ n. code_at (program m t p) (function_block_id m f n) ≡ Some (piece_at m p f n one.0 words) in
    record {
      block = piece_at m p f k one.0 words;
      found = subst Q same one.1.0;
      size = function_size m p f k one.0 words;
    }

pub functions_known : (ir : Ir) (m : Module) (t : Tables) (p : PatchTable) → formed ir m t → ids_ok ir m p → table_ok m p → Every (IsKnownFunction (program m t p) m) p.functions
functions_known ir m t p h ok accepted =
    let P : Stretch → Type 0 = λ (s : Stretch). Every (IsFoundIn (pieces_of (program m t p))) s.pieces in
    let found = every_unmap (function_stretch m p) P p.functions (brought_parts P m t p (loaded_sections m) (entered_once m h.faultless.entered) (all_found ir m t p h ok)) in
    every_both (λ (f : Function). function_words f ≢ []) (λ f. (k : ℕ) → k < length (function_blocks f) → IsKnownBlock (program m t p) m f k) p.functions accepted.bodies
    (every_weaker (λ f. P (function_stretch m p f)) (λ f. (k : ℕ) → k < length (function_blocks f) → IsKnownBlock (program m t p) m f k) (λ f found. known_block m t p f found) p.functions found)
