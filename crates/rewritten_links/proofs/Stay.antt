-- The Places of a table stay apart where a module is rewritten.
use Rattle.std.proofs.Common.{◌≡◌, ℕ, zero, suc, ◌+◌, ◌*◌, ◌<◌, ◌≤◌, ◌⊎◌, inl, inr, false, List, [], ◌∷◌, length, None, Some, refl, sym, ap, subst, ◌∙◌, arith}
use Rattle.std.specs.Prelude.{Contains, sum_by}
use Rattle.std.specs.List.{AllByRecursion as Every, flat_map}
use Rattle.std.specs.Str.{bytes_eq}
use Rattle.std.proofs.lemmas.List.{length-append}
use Rattle.std.proofs.lemmas.List.Sums.{sum_by-cons}
use Rattle.aux_codec.specs.declared.value.Place.{Place}
use Rattle.aux_codec.specs.Places.{IsInjectiveOn, places_of}
use Rattle.aux_codec.specs.Value.{Value}
use Rattle.aux_tables.specs.ModuleTables.{table_value, tables_of}
use Rattle.gt_model.specs.declared.intervals.Interval.{Interval}
use Rattle.gt_model.specs.declared.ir.Ir.{Ir}
use Rattle.gt_model.specs.declared.modules.Module.{Module}
use Rattle.gt_model.specs.declared.tables.Aux.{Aux}
use Rattle.ir_check.specs.Faults.{bad_places, is_past}
use Rattle.rewrite.specs.Contents.{old_contents, old_piece_bytes, word_bytes}
use Rattle.rewrite.specs.Offsets.{new_offset, old_size}
use Rattle.rewrite.specs.Places.{moved_place}
use Rattle.rewrite.specs.Rooms.{old_length}
use Rattle.sym_expr.specs.declared.patches.PatchTable.{PatchTable}
use Rattle.sym_expr.specs.declared.program.CodeBlock.{CodeBlock}
use Rattle.sym_expr.specs.declared.program.Piece.{Piece}
use Rattle.sym_expr.specs.declared.program.Piece.TheVariants.{Code as CodePiece, Data as DataPiece, Gap}
use Rattle.sym_expr.specs.declared.program.Stretch.{Stretch}
use Rattle.sym_expr.specs.declared.program.Word.{Word}
use Rattle.sym_expr.specs.Linkable.{formed}
use Rattle.sym_expr.specs.Modules.{bytes_at, loaded_intervals}
use Rattle.sym_expr.specs.Points.{code_blocks, code_size}
use Rattle.sym_expr.specs.Program.{program, stretch}
use Rattle.sym_expr.specs.Tables.{Tables}
use Rattle.taken_ids.specs.Faults.{id_fault}
use Rattle.taken_ids.specs.Identifiers.{function_ids, part_ids}
use Rattle.taken_ids.specs.Named.{named_ids}
use Rattle.rewritten_links.proofs.Apart.{same_id}
use Rattle.rewritten_links.proofs.Homes.{HasHome, comes_from}
use Rattle.rewritten_links.proofs.Lists.{In, found_in, in_back, in_contained, of_every}
use Rattle.rewritten_links.proofs.Parts.{HaveWords}
use Rattle.rewritten_links.proofs.Places.{Grows, IsFree, IsPlace, Lies, apart_places, free_of}
use Rattle.rewritten_links.proofs.Sizes.{in_code, in_interval}
use Rattle.rewritten_links.proofs.Tables.{named_in, not_past}

-- ---- how many bytes an interval had

length_words : (ws : List Word) → length (flat_map word_bytes ws) ≡ 4 * length ws
length_words [] = refl
length_words (w ∷ ws) =
    let both = length-append (word_bytes w) (flat_map word_bytes ws) in
    let rest = length_words ws in
    omega (arith, both, rest)

length_piece : (q : Piece) → length (old_piece_bytes q) ≡ old_size q
length_piece (CodePiece b) = length_words b.own
length_piece (DataPiece b) = refl
length_piece (Gap bytes) = refl

length_pieces : (ps : List Piece) → length (flat_map old_piece_bytes ps) ≡ sum_by old_size ps
length_pieces [] = refl
length_pieces (q ∷ ps) =
    let both = length-append (old_piece_bytes q) (flat_map old_piece_bytes ps) in
    let all = sum_by-cons old_size q ps in
    let here = length_piece q in
    let rest = length_pieces ps in
    omega (arith, both, all, here, rest)

pub length_bytes : (i : Interval) (at n : ℕ) → length (bytes_at i at n) ≡ n
length_bytes i at zero = refl
length_bytes i at (suc n) = ap suc (length_bytes i (at + 1) n)

-- bytes keep their order, and pieces have those that an interval had
abbrev pub KeepOrder : Type 0
KeepOrder = (s : Stretch) (a b : ℕ) → a < b → b ≤ old_length s → new_offset s a < new_offset s b

abbrev pub HaveOlds : Type 0
HaveOlds = (ir : Ir) (m : Module) (t : Tables) (p : PatchTable) → formed ir m t → Every (λ (i : Interval). old_contents (stretch m t p i) ≡ bytes_at i 0 i.size) (loaded_intervals m)

pub old_room : HaveOlds → (ir : Ir) (m : Module) (t : Tables) (p : PatchTable) (i : Interval) → formed ir m t → In i (loaded_intervals m) → old_length (stretch m t p i) ≡ i.size
old_room olds ir m t p i h k =
    let bytes = of_every (λ (j : Interval). old_contents (stretch m t p j) ≡ bytes_at j 0 j.size) i (loaded_intervals m) (olds ir m t p h) k in
    sym (length_pieces (stretch m t p i).pieces) ∙ ap length bytes ∙ length_bytes i 0 i.size

all_grow : KeepOrder → HaveOlds → (ir : Ir) (m : Module) (t : Tables) (p : PatchTable) (i : Interval) → formed ir m t → In i (loaded_intervals m) → Grows m t p i
all_grow order olds ir m t p i h k a b lt le =
    let room = old_room olds ir m t p i h k in
    order (stretch m t p i) a b lt (omega (arith, room, le))

-- ---- the Places of a table

from_home : (ir : Ir) (m : Module) (p : PatchTable) (at : Place) (b : CodeBlock) → formed ir m (tables_of m) → IsFree ir m p → In at.id (named_ids m) → is_past (loaded_intervals m) at ≡ false → b.id ≡ at.id
    → HasHome m p b ⊎ In b.id (flat_map (function_ids m.uuid) p.functions) → at.offset ≤ code_size b
from_home ir m p at b h free named past e (inl home) = in_code ir m (tables_of m) p b at h home e past
from_home ir m p at b h free named past e (inr new) =
    let derived = in_back b.id (flat_map (part_ids m.uuid) (code_blocks (program m (tables_of m) p))) (flat_map (function_ids m.uuid) p.functions) new in
    absurd (free.unnamed b.id derived (subst (λ z. In z (named_ids m)) (sym e) named))

lies_there : (ir : Ir) (m : Module) (p : PatchTable) (at : Place) → formed ir m (tables_of m) → IsFree ir m p → In at.id (named_ids m) → is_past (loaded_intervals m) at ≡ false → Lies m (tables_of m) p at
lies_there ir m p at h free named past = record {
  code = λ b e.
      let found = found_in (λ (c : CodeBlock). bytes_eq c.id at.id) b (code_blocks (program m (tables_of m) p)) e in
      from_home ir m p at b h free named past (same_id b.id at.id found.1) (comes_from m (tables_of m) p b found.0);
  interval = λ i e. in_interval m i at e past;
}

place_of : (ir : Ir) (m : Module) (p : PatchTable) (a : Aux) (x : Value) (at : Place) → formed ir m (tables_of m) → IsFree ir m p → bad_places (loaded_intervals m) m.aux ≡ [] → Contains m.aux a → table_value a ≡ Some x → Contains (places_of x) at
    → IsPlace m p at
place_of ir m p a x at h free none k e l =
    let table = in_contained a m.aux k in
    let place = in_contained at (places_of x) l in
    let named = named_in m a x at table e place in
    record { lies = lies_there ir m p at h free named (not_past (loaded_intervals m) m.aux a x at none table e place); named = named }

pub stay : HaveWords → KeepOrder → HaveOlds → (ir : Ir) (m : Module) (p : PatchTable) (a : Aux) (x : Value) → formed ir m (tables_of m) → id_fault ir m p ≡ None → bad_places (loaded_intervals m) m.aux ≡ [] → Contains m.aux a → table_value a ≡ Some x
    → IsInjectiveOn (moved_place m (tables_of m) p) x
stay words order olds ir m p a x h no_fault none k e one other in_one in_other same =
    let free = free_of ir m p no_fault in
    apart_places ir m p free words (λ i l. all_grow order olds ir m (tables_of m) p i h l) one other (place_of ir m p a x one h free none k e in_one) (place_of ir m p a x other h free none k e in_other) same
