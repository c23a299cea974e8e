-- The program of a module and of patches has numbers of their types.
use Rattle.std.proofs.Common.{ℕ, zero, suc, ◌+◌, ◌-◌, ◌*◌, ◌/◌, ◌^◌, ◌<◌, ℤ, pos, Bool, true, false, Option, Some, None, IfSome, List, [], ◌∷◌, length, map, arith, lit<}
use Rattle.std.specs.Prelude.{filter, find, ◌==◌, if◌then◌else◌, slice_index}
use Rattle.std.specs.Int.{w32, from_le_bytes}
use Rattle.std.specs.Option.{option_map, option_map_or, option_and_then}
use Rattle.std.specs.List.{AllByRecursion as Every, flat_map, filter_map}
use Rattle.std.specs.Str.{bytes_eq}
use Rattle.std.proofs.lemmas.List.Elements.{All-contains, All-from_recursion}
use Rattle.gt_model.specs.declared.exprs.Expr.{Expr}
use Rattle.gt_model.specs.declared.exprs.ExprValue.{ExprValue}
use Rattle.gt_model.specs.declared.exprs.ExprValue.TheVariants as values
use Rattle.gt_model.specs.declared.intervals.Block.{Block}
use Rattle.gt_model.specs.declared.intervals.Interval.{Interval}
use Rattle.gt_model.specs.declared.ir.Ir.{Ir}
use Rattle.gt_model.specs.declared.modules.Module.{Module}
use Rattle.gt_model.specs.declared.modules.Section.{Section}
use Rattle.gt_model.specs.declared.symbols.Payload.{Payload}
use Rattle.gt_model.specs.declared.symbols.Payload.TheVariants as payloads
use Rattle.gt_model.specs.declared.symbols.Symbol.{Symbol}
use Rattle.gt_model.specs.Typed.{AreBytes, typed_interval, typed_module, typed_section}
use Rattle.sym_expr.specs.declared.patches.FunLine.{FunLine}
use Rattle.sym_expr.specs.declared.patches.FunLine.TheVariants as lines
use Rattle.sym_expr.specs.declared.patches.Function.{Function}
use Rattle.sym_expr.specs.declared.patches.Insert.{Insert}
use Rattle.sym_expr.specs.declared.patches.PatchTable.{PatchTable}
use Rattle.sym_expr.specs.declared.patches.PatchTarget.{PatchTarget}
use Rattle.sym_expr.specs.declared.patches.PatchWord.{PatchWord}
use Rattle.sym_expr.specs.declared.patches.SymbolName.{SymbolName}
use Rattle.sym_expr.specs.declared.patches.SymbolName.TheVariants as names
use Rattle.sym_expr.specs.declared.point.Point.{Point}
use Rattle.sym_expr.specs.declared.program.Word.{Word}
use Rattle.sym_expr.specs.declared.difference.DifferenceForm.{DifferenceForm}
use Rattle.sym_expr.specs.declared.program.Filling.{Filling}
use Rattle.sym_expr.specs.declared.program.Filling.TheVariants.{Difference, Entry}
use Rattle.sym_expr.specs.declared.program.Piece.{Piece}
use Rattle.sym_expr.specs.declared.program.Piece.TheVariants.{Code as CodePiece, Data as DataPiece, Gap}
use Rattle.sym_expr.specs.declared.program.Stretch.{Stretch}
use Rattle.sym_expr.specs.declared.target.Target.{Target}
use Rattle.sym_expr.specs.declared.target.Target.TheVariants.{Address, Code, Undefined}
use Rattle.sym_expr.specs.Differences.{form_of}
use Rattle.sym_expr.specs.Linkable.{formed}
use Rattle.sym_expr.specs.Modules.{blocks_of, byte_at, bytes_at, covers, end_of, id_of, in_order, intervals_of, is_code, is_loaded, loaded_intervals, loaded_sections, size_of, word_of, block_of}
use Rattle.sym_expr.specs.Patches.{add_word, begins, cut, function_blocks, inserted_in, is_control, with_starts}
use Rattle.sym_expr.specs.Points.{code_of, data_of, pieces_of}
use Rattle.sym_expr.specs.Program.{code_block, code_target, data_block, difference_in, expr_at, filling, filling_at, function_pieces, function_stretch, gap, has_entry, own_words, patched_word, piece, pieces, program, section_stretches, stretch}
use Rattle.sym_expr.specs.Tables.{Tables, expr_size}
use Rattle.sym_expr.specs.TableOk.{function_words, line_words, typed_patches, typed_word}
use Rattle.sym_expr.specs.Targets.{block_target, end_point, first_target, name_target, old_target, patch_target, payload_target, plus_offset, points_of_name, start_of, symbol_target}
use Rattle.placed_images.specs.Typed.{IsTyped, IsTypedCode, IsTypedData, IsTypedFilling, IsTypedTarget, IsTypedWord}
use Rattle.placed_images.proofs.Lists.{every_all, every_append, every_back, every_choice, every_filter, every_flat, every_front, every_map, every_part, every_weaker}
use Rattle.placed_images.proofs.Numbers.{rest_small}

-- ---- its intervals: those of the loaded sections, and the functions

either : {X : Type 0} (P : X → Type 0) (xs : List X) (x : Bool) → Every P xs → Every P (if x then xs else [])
either P xs true h = h
either P xs false h = tt

-- what holds of each loaded interval and of each function holds of the intervals of sections
parts_each : (P : Stretch → Type 0) (m : Module) (t : Tables) (p : PatchTable) (ss : List Section) → Every (λ i. P (stretch m t p i)) (intervals_of ss) → Every (λ f. P (function_stretch m p f)) p.functions → Every P (flat_map (section_stretches m t p) ss)
parts_each P m t p [] own new = tt
parts_each P m t p (s ∷ ss) own new =
    every_append P (section_stretches m t p s) (flat_map (section_stretches m t p) ss)
    (every_append P (map (stretch m t p) s.intervals) (if has_entry m s then map (function_stretch m p) p.functions else [])
    (every_map (stretch m t p) P s.intervals (every_front (λ i. P (stretch m t p i)) s.intervals (intervals_of ss) own))
    (either P (map (function_stretch m p) p.functions) (has_entry m s) (every_map (function_stretch m p) P p.functions new)))
    (parts_each P m t p ss (every_back (λ i. P (stretch m t p i)) s.intervals (intervals_of ss) own) new)

-- what holds of the pieces of each holds of those of the program
pub pieces_each : (P : Piece → Type 0) (m : Module) (t : Tables) (p : PatchTable) → Every (λ i. Every P (pieces m t p i 0 (in_order i.blocks))) (loaded_intervals m) → Every (λ f. Every P (function_stretch m p f).pieces) p.functions → Every P (pieces_of (program m t p))
pieces_each P m t p own new = every_flat (λ (s : Stretch). s.pieces) P (program m t p).stretches (parts_each (λ (s : Stretch). Every P s.pieces) m t p (loaded_sections m) own new)

loaded_either : (P : Interval → Type 0) (s : Section) (ss : List Section) (b : Bool) → Every P s.intervals → Every (λ (s : Section). Every P s.intervals) ss → Every (λ (s : Section). Every P s.intervals) (if b then s ∷ ss else ss)
loaded_either P s ss true h k = (h, k)
loaded_either P s ss false h k = k

loaded_kept : (P : Interval → Type 0) (ss : List Section) → Every (λ (s : Section). Every P s.intervals) ss → Every (λ (s : Section). Every P s.intervals) (filter is_loaded ss)
loaded_kept P [] h = tt
loaded_kept P (s ∷ ss) h = loaded_either P s (filter is_loaded ss) (is_loaded s) h.0 (loaded_kept P ss h.1)

-- each loaded interval of a formed module has numbers of their types
pub intervals_typed : (ir : Ir) (m : Module) (t : Tables) → formed ir m t → Every typed_interval (loaded_intervals m)
intervals_typed ir m t h =
    let whole : typed_module m = All-contains typed_module ir.modules m (All-from_recursion typed_module ir.modules h.linked.values.modules) h.member in
    every_flat (λ (s : Section). s.intervals) typed_interval (filter is_loaded m.sections)
    (loaded_kept typed_interval m.sections (every_weaker typed_section (λ (s : Section). Every typed_interval s.intervals) (λ s l. l.intervals) m.sections whole.sections))

-- ---- bytes and words

index_small : (bs : List ℕ) (k : ℕ) → AreBytes bs → slice_index bs k < 256
index_small [] k h = lit< tt
index_small (b ∷ bs) zero h = h.0
index_small (b ∷ bs) (suc k) h = index_small bs k h.1

bytes_small : (i : Interval) (at n : ℕ) → AreBytes i.contents → AreBytes (bytes_at i at n)
bytes_small i at zero h = tt
bytes_small i at (suc n) h = (index_small i.contents at h, bytes_small i (at + 1) n h)

four_small : (a b c d : ℕ) → a < 256 → b < 256 → c < 256 → d < 256 → from_le_bytes w32 (a ∷ b ∷ c ∷ d ∷ []) < 2 ^ 32
four_small a b c d ha hb hc hd = omega arith

word_small : (i : Interval) (at : ℕ) → AreBytes i.contents → word_of i at < 2 ^ 32
word_small i at h =
    four_small (byte_at i at) (byte_at i (at + 1)) (byte_at i (at + 1 + 1)) (byte_at i (at + 1 + 1 + 1)) (index_small i.contents at h) (index_small i.contents (at + 1) h) (index_small i.contents (at + 1 + 1) h) (index_small i.contents (at + 1 + 1 + 1) h)

-- ---- targets

offset_small : (n : ℕ) (offset : ℤ) → plus_offset n offset < 2 ^ 64
offset_small n offset = rest_small _ (2 ^ 64) (lit< tt)

block_typed : (a b : Target) (x : Bool) → IsTypedTarget a → IsTypedTarget b → IsTypedTarget (if x then a else b)
block_typed a b true h k = h
block_typed a b false h k = k

found_typed : (p : PatchTable) (s : Symbol) (offset : ℤ) (o : Option Block) → IsTypedTarget (option_map_or (block_target p s.at_end offset) o (Undefined s.uuid))
found_typed p s offset None = tt
found_typed p s offset (Some b) =
    block_typed (Code (if s.at_end then end_point p (id_of b) (size_of b) else start_of (id_of b))) (Address (id_of b) (plus_offset (if s.at_end then size_of b else 0) offset)) (is_code b) tt (offset_small (if s.at_end then size_of b else 0) offset)

payload_typed : (p : PatchTable) (blocks : List Block) (s : Symbol) (offset : ℤ) (v : Payload) → IsTypedTarget (payload_target p blocks s offset v)
payload_typed p blocks s offset payloads.Nothing = tt
payload_typed p blocks s offset (payloads.Value n) = offset_small n offset
payload_typed p blocks s offset (payloads.Referent id) = found_typed p s offset (block_of id blocks)

named_typed : (m : Module) (p : PatchTable) (id : List ℕ) (offset : ℤ) (o : Option Symbol) → IsTypedTarget (option_map_or (λ s. symbol_target m p s offset) o (Undefined id))
named_typed m p id offset None = tt
named_typed m p id offset (Some s) = payload_typed p (blocks_of (loaded_intervals m)) s offset s.payload

old_typed : (m : Module) (p : PatchTable) (id : List ℕ) (offset : ℤ) → IsTypedTarget (old_target m p id offset)
old_typed m p id offset = named_typed m p id offset (find (λ (s : Symbol). bytes_eq s.uuid id) m.symbols)

-- ---- blocks

target_typed : (m : Module) (p : PatchTable) (v : ExprValue) → IfSome (code_target m p v) IsTypedTarget
target_typed m p values.Nothing = tt
target_typed m p (values.AddrConst offset None) = tt
target_typed m p (values.AddrConst offset (Some id)) = old_typed m p id offset
target_typed m p (values.AddrAddr scale offset first second) = tt

expr_typed : (m : Module) (p : PatchTable) (o : Option Expr) → IfSome (option_and_then (λ (e : Expr). code_target m p e.value) o) IsTypedTarget
expr_typed m p None = tt
expr_typed m p (Some e) = target_typed m p e.value

words_typed : (m : Module) (p : PatchTable) (i : Interval) (at n : ℕ) → AreBytes i.contents → Every IsTypedWord (own_words m p i at n)
words_typed m p i at zero h = tt
words_typed m p i at (suc n) h = ((word_small i at h, expr_typed m p (expr_at at i)), words_typed m p i (at + 4) n h)

form_typed : (a b : Target) (f : DifferenceForm) (x : Bool) → IsTypedTarget a → IsTypedTarget b → IsTypedFilling (if x then Entry f.size f.scale a b else Difference f.size a b)
form_typed a b f true h k = (h, k)
form_typed a b f false h k = (h, k)

forms_typed : (a b : Target) (o : Option DifferenceForm) → IsTypedTarget a → IsTypedTarget b → IfSome (option_map (difference_in a b) o) IsTypedFilling
forms_typed a b None h k = tt
forms_typed a b (Some f) h k = form_typed a b f f.is_entry h k

filling_typed : (m : Module) (p : PatchTable) (size : ℕ) (v : ExprValue) → IfSome (filling m p size v) IsTypedFilling
filling_typed m p size values.Nothing = tt
filling_typed m p size (values.AddrConst offset None) = tt
filling_typed m p size (values.AddrConst offset (Some id)) = old_typed m p id offset
filling_typed m p size (values.AddrAddr scale offset None second) = tt
filling_typed m p size (values.AddrAddr scale offset (Some a) None) = tt
filling_typed m p size (values.AddrAddr scale offset (Some a) (Some b)) = forms_typed (old_target m p a offset) (old_target m p b (pos 0)) (form_of size scale) (old_typed m p a offset) (old_typed m p b (pos 0))

placed_typed : (at : ℕ) (o : Option Filling) → IfSome o IsTypedFilling → IfSome (option_map (λ f. (at, f)) o) (λ (f : ℕ × Filling). IsTypedFilling f.1)
placed_typed at None h = tt
placed_typed at (Some f) h = h

-- a piece of such numbers
abbrev IsTypedPiece : Piece → Type 0
IsTypedPiece (CodePiece b) = IsTypedCode b
IsTypedPiece (DataPiece b) = IsTypedData b
IsTypedPiece (Gap bytes) = Unit {0}

-- the words of patches
first_typed : (points : List Point) → IsTypedTarget (first_target points)
first_typed [] = tt
first_typed (at ∷ rest) = tt

name_typed : (m : Module) (p : PatchTable) (s : SymbolName) (offset : ℤ) → IsTypedTarget (name_target m p s offset)
name_typed m p (names.Old id) offset = old_typed m p id offset
name_typed m p (names.New name) offset = first_typed (points_of_name m p name)

patched_typed : (m : Module) (p : PatchTable) (w : PatchWord) → typed_word w → IsTypedWord (patched_word m p w)
patched_typed m p w h = (h.word, at w.target)
  where
    at : (o : Option PatchTarget) → IfSome (option_map (patch_target m p) o) IsTypedTarget
    at None = tt
    at (Some t) = name_typed m p t.symbol t.offset

-- a word at an offset of a block
abbrev Takes : Module → PatchTable → ℕ × PatchWord → Type 0
Takes m p w = IsTypedWord (patched_word m p w.1)

put_typed : (m : Module) (p : PatchTable) (i : Insert) → Every typed_word i.body → Every (Takes m p) (map (λ (w : PatchWord). (i.offset, w)) i.body)
put_typed m p i h = every_map (λ (w : PatchWord). let v : ℕ × PatchWord = (i.offset, w) in v) (Takes m p) i.body (every_weaker typed_word (λ w. IsTypedWord (patched_word m p w)) (patched_typed m p) i.body h)

inserted_typed : (m : Module) (p : PatchTable) (id : List ℕ) → Every (λ (i : Insert). Every typed_word i.body) p.inserts → Every (λ (w : ℕ × Word). IsTypedWord w.1) (map (λ (w : ℕ × PatchWord). (w.0, patched_word m p w.1)) (inserted_in p id))
inserted_typed m p id h =
    let put : Insert → List (ℕ × PatchWord) = λ i. map (λ (w : PatchWord). (i.offset, w)) i.body in
    every_map (λ (w : ℕ × PatchWord). let v : ℕ × Word = (w.0, patched_word m p w.1) in v) (λ (w : ℕ × Word). IsTypedWord w.1) (inserted_in p id)
    (every_flat put (Takes m p) (filter (λ (i : Insert). bytes_eq i.block id) p.inserts)
    (every_filter (λ (i : Insert). bytes_eq i.block id) (λ (i : Insert). Every (Takes m p) (put i)) p.inserts
    (every_weaker (λ (i : Insert). Every typed_word i.body) (λ (i : Insert). Every (Takes m p) (put i)) (put_typed m p) p.inserts h)))

piece_typed : (m : Module) (t : Tables) (p : PatchTable) → Every (λ (i : Insert). Every typed_word i.body) p.inserts → (i : Interval) (b : Block) (x : Bool) → typed_interval i → IsTypedPiece (if x then CodePiece (code_block m p i b) else DataPiece (data_block m t p i b))
piece_typed m t p put i b true h = record { own = words_typed m p i b.offset (size_of b / 4) h.contents; inserted = inserted_typed m p (id_of b) put }
piece_typed m t p put i b false h = record {
  bytes = All-from_recursion (λ n. n < 256) (bytes_at i b.offset (size_of b)) (bytes_small i b.offset (size_of b) h.contents);
  fillings = every_choice (filling_at m t p i b) (λ (f : ℕ × Filling). IsTypedFilling f.1) (filter (λ (e : Expr). covers e.at b) i.exprs)
      (every_all (λ e. IfSome (filling_at m t p i b e) (λ (f : ℕ × Filling). IsTypedFilling f.1))
      (λ e. placed_typed (e.at - b.offset) (filling m p (expr_size t i.uuid e.at) e.value) (filling_typed m p (expr_size t i.uuid e.at) e.value)) (filter (λ (e : Expr). covers e.at b) i.exprs));
}

gap_typed : (bytes : List ℕ) (x : Bool) → Every IsTypedPiece (if x then [] else Gap bytes ∷ [])
gap_typed bytes true = tt
gap_typed bytes false = (tt, tt)

pieces_typed : (m : Module) (t : Tables) (p : PatchTable) → Every (λ (i : Insert). Every typed_word i.body) p.inserts → (i : Interval) (at : ℕ) (bs : List Block) → typed_interval i → Every IsTypedPiece (pieces m t p i at bs)
pieces_typed m t p put i at [] h = gap_typed (bytes_at i at (i.size - at)) (i.size - at == 0)
pieces_typed m t p put i at (b ∷ bs) h =
    every_append IsTypedPiece (gap i at b.offset) (piece m t p i b ∷ pieces m t p i (end_of b) bs) (gap_typed (bytes_at i at (b.offset - at)) (b.offset - at == 0)) (piece_typed m t p put i b (is_code b) h, pieces_typed m t p put i (end_of b) bs h)

-- ---- functions

starts_each : (x : Bool) (ls : List FunLine) → Every typed_word (flat_map line_words ls) → Every (λ (w : Bool × PatchWord). typed_word w.1) (with_starts x ls)
starts_each x [] h = tt
starts_each x (lines.Label name ∷ rest) h = starts_each true rest h
starts_each x (lines.Word w ∷ rest) h = (h.0, starts_each (is_control w.word) rest h.1)

add_each : (w : PatchWord) (x : Bool) (bs : List (List PatchWord)) → typed_word w → Every (Every typed_word) bs → Every (Every typed_word) (add_word w x bs)
add_each w true bs h k = ((h, tt), k)
add_each w false [] h k = ((h, tt), tt)
add_each w false (b ∷ bs) h k = ((h, k.0), k.1)

cut_each : (ws : List (Bool × PatchWord)) → Every (λ (w : Bool × PatchWord). typed_word w.1) ws → Every (Every typed_word) (cut ws)
cut_each [] h = tt
cut_each ((x, w) ∷ rest) h = add_each w (begins rest) (cut rest) h.0 (cut_each rest h.1)

function_typed : (m : Module) (p : PatchTable) (f : Function) (k at : ℕ) (bs : List (List PatchWord)) → Every (Every typed_word) bs → Every IsTypedPiece (function_pieces m p f k at bs)
function_typed m p f k at [] h = tt
function_typed m p f k at (b ∷ bs) h = (
  record { own = every_map (patched_word m p) IsTypedWord b (every_weaker typed_word (λ w. IsTypedWord (patched_word m p w)) (patched_typed m p) b h.0); inserted = tt },
  function_typed m p f (suc k) (at + 4 * length b) bs h.1,
)

functions_typed : (m : Module) (p : PatchTable) → Every (λ f. Every typed_word (function_words f)) p.functions → Every (λ f. Every IsTypedPiece (function_stretch m p f).pieces) p.functions
functions_typed m p h =
    every_weaker (λ f. Every typed_word (function_words f)) (λ f. Every IsTypedPiece (function_stretch m p f).pieces) (λ f k. function_typed m p f 0 0 (function_blocks f) (cut_each (with_starts true f.body) (starts_each true f.body k))) p.functions h

codes_typed : (ps : List Piece) → Every IsTypedPiece ps → Every IsTypedCode (filter_map code_of ps)
codes_typed [] h = tt
codes_typed (CodePiece b ∷ ps) h = (h.0, codes_typed ps h.1)
codes_typed (DataPiece b ∷ ps) h = codes_typed ps h.1
codes_typed (Gap bytes ∷ ps) h = codes_typed ps h.1

datas_typed : (ps : List Piece) → Every IsTypedPiece ps → Every IsTypedData (filter_map data_of ps)
datas_typed [] h = tt
datas_typed (CodePiece b ∷ ps) h = datas_typed ps h.1
datas_typed (DataPiece b ∷ ps) h = (h.0, datas_typed ps h.1)
datas_typed (Gap bytes ∷ ps) h = datas_typed ps h.1

pub program_typed : (ir : Ir) (m : Module) (t : Tables) (p : PatchTable) → formed ir m t → typed_patches p → IsTyped (program m t p)
program_typed ir m t p h typed =
    let bodies : List PatchWord = flat_map (λ (i : Insert). i.body) p.inserts in
    let more : List PatchWord = flat_map function_words p.functions in
    let put = every_part (λ (i : Insert). i.body) typed_word p.inserts (every_front typed_word bodies more typed.words) in
    let new = every_part function_words typed_word p.functions (every_back typed_word bodies more typed.words) in
    let own = every_weaker typed_interval (λ i. Every IsTypedPiece (pieces m t p i 0 (in_order i.blocks))) (λ i k. pieces_typed m t p put i 0 (in_order i.blocks) k) (loaded_intervals m) (intervals_typed ir m t h) in
    let all = pieces_each IsTypedPiece m t p own (functions_typed m p new) in
    record { codes = codes_typed (pieces_of (program m t p)) all; datas = datas_typed (pieces_of (program m t p)) all }
