-- The bytes of each loaded interval keep their order.
use Rattle.std.proofs.Common.{◌≡◌, ℕ, zero, suc, ◌+◌, ◌*◌, ◌<◌, ◌≤◌, List, [], ◌∷◌, length, refl, sym, ap, ◌∙◌, arith}
use Rattle.std.specs.Prelude.{sum_by}
use Rattle.std.specs.List.{AllByRecursion as Every, flat_map}
use Rattle.std.proofs.lemmas.List.{length-append}
use Rattle.std.proofs.lemmas.List.Sums.{sum_by-cons}
use Rattle.gt_model.specs.declared.intervals.Interval.{Interval}
use Rattle.gt_model.specs.declared.ir.Ir.{Ir}
use Rattle.gt_model.specs.declared.modules.Module.{Module}
use Rattle.rewrite.specs.Contents.{old_contents, old_piece_bytes, word_bytes}
use Rattle.rewrite.specs.Offsets.{new_offset, old_size}
use Rattle.rewrite.specs.Rooms.{old_length}
use Rattle.sym_expr.specs.declared.patches.PatchTable.{PatchTable}
use Rattle.sym_expr.specs.declared.program.Piece.{Piece}
use Rattle.sym_expr.specs.declared.program.Piece.TheVariants.{Code as CodePiece, Data as DataPiece, Gap}
use Rattle.sym_expr.specs.declared.program.Stretch.{Stretch}
use Rattle.sym_expr.specs.declared.program.Word.{Word}
use Rattle.sym_expr.specs.Linkable.{formed}
use Rattle.sym_expr.specs.Modules.{bytes_at, loaded_intervals}
use Rattle.sym_expr.specs.Program.{stretch}
use Rattle.sym_expr.specs.Tables.{Tables}
use Rattle.repaired_images.proofs.Lists.{In, of_every}

length_words : (ws : List Word) → length (flat_map word_bytes ws) ≡ 4 * length ws
length_words [] = refl
length_words (w ∷ ws) =
    let both = length-append (word_bytes w) (flat_map word_bytes ws) in
    let rest = length_words ws in
    omega (arith, both, rest)

length_piece : (q : Piece) → length (old_piece_bytes q) ≡ old_size q
length_piece (CodePiece b) = length_words b.own
length_piece (DataPiece b) = refl
length_piece (Gap bytes) = refl

length_pieces : (ps : List Piece) → length (flat_map old_piece_bytes ps) ≡ sum_by old_size ps
length_pieces [] = refl
length_pieces (q ∷ ps) =
    let both = length-append (old_piece_bytes q) (flat_map old_piece_bytes ps) in
    let all = sum_by-cons old_size q ps in
    let here = length_piece q in
    let rest = length_pieces ps in
    omega (arith, both, all, here, rest)

length_bytes : (i : Interval) (at n : ℕ) → length (bytes_at i at n) ≡ n
length_bytes i at zero = refl
length_bytes i at (suc n) = ap suc (length_bytes i (at + 1) n)

-- bytes keep their order, and pieces have those that an interval had
abbrev pub KeepOrder : Type 0
KeepOrder = (s : Stretch) (a b : ℕ) → a < b → b ≤ old_length s → new_offset s a < new_offset s b

abbrev pub HaveOlds : Type 0
HaveOlds = (ir : Ir) (m : Module) (t : Tables) (p : PatchTable) → formed ir m t → Every (λ (i : Interval). old_contents (stretch m t p i) ≡ bytes_at i 0 i.size) (loaded_intervals m)

old_room : HaveOlds → (ir : Ir) (m : Module) (t : Tables) (p : PatchTable) (i : Interval) → formed ir m t → In i (loaded_intervals m) → old_length (stretch m t p i) ≡ i.size
old_room olds ir m t p i h k =
    let bytes = of_every (λ (j : Interval). old_contents (stretch m t p j) ≡ bytes_at j 0 j.size) i (loaded_intervals m) (olds ir m t p h) k in
    sym (length_pieces (stretch m t p i).pieces) ∙ ap length bytes ∙ length_bytes i 0 i.size

-- bytes of an interval keep their order
abbrev pub Grows : Module → Tables → PatchTable → Interval → Type 0
Grows m t p i = (a b : ℕ) → a < b → b ≤ i.size → new_offset (stretch m t p i) a < new_offset (stretch m t p i) b

pub all_grow : KeepOrder → HaveOlds → (ir : Ir) (m : Module) (t : Tables) (p : PatchTable) (i : Interval) → formed ir m t → In i (loaded_intervals m) → Grows m t p i
all_grow order olds ir m t p i h k a b lt le =
    let room = old_room olds ir m t p i h k in
    order (stretch m t p i) a b lt (omega (arith, room, le))
