-- The values of a rewritten IR are of their types.
use Rattle.std.proofs.Common.{◌≡◌, ℕ, zero, suc, ◌+◌, ◌-◌, ◌*◌, ◌/◌, ◌^◌, ◌<◌, ◌≤◌, inl, inr, Bool, true, false, List, [], ◌∷◌, ◌++◌, length, map, get_or, replicate, Option, Some, None, refl, sym, ap, subst, ◌∙◌, arith, length-append}
use Rattle.std.specs.Prelude.{IfSome, IsUtf8, ◌==◌, if◌then◌else◌}
use Rattle.std.specs.List.{AllByRecursion as Every, flat_map, list_any}
use Rattle.std.specs.Option.{option_map, option_map_or}
use Rattle.std.specs.Str.{bytes_eq}
use Rattle.std.proofs.lemmas.Bool.{cases_Bool}
use Rattle.std.proofs.lemmas.Nat.{mod_below}
use Rattle.std.proofs.lemmas.Option.{none-some, same_Some}
use Rattle.aux_tables.specs.ModuleTables.{tables_of}
use Rattle.block_parts.specs.declared.parts.Part.{Part}
use Rattle.block_parts.specs.Parts.{parts}
use Rattle.gt_model.specs.declared.exprs.Expr.{Expr}
use Rattle.gt_model.specs.declared.intervals.Block.{Block}
use Rattle.gt_model.specs.declared.intervals.Body.{Body}
use Rattle.gt_model.specs.declared.intervals.Body.TheVariants as bodies
use Rattle.gt_model.specs.declared.intervals.Interval.{Interval}
use Rattle.gt_model.specs.declared.ir.Ir.{Ir}
use Rattle.gt_model.specs.declared.modules.Module.{Module}
use Rattle.gt_model.specs.declared.modules.Section.{Section}
use Rattle.gt_model.specs.declared.symbols.Payload.{Payload}
use Rattle.gt_model.specs.declared.symbols.Payload.TheVariants as payloads
use Rattle.gt_model.specs.declared.symbols.Symbol.{Symbol}
use Rattle.gt_model.specs.Typed.{AreBytes, IsI64, IsId, IsU64, typed, typed_block, typed_expr, typed_interval, typed_module, typed_payload, typed_section, typed_symbol}
use Rattle.rewrite.specs.Blocks.{new_block, new_blocks, part_block, part_size}
use Rattle.rewrite.specs.Contents.{bytes_from, piece_bytes, word_bytes}
use Rattle.rewrite.specs.Exprs.{brought_in, moved_expr, new_exprs}
use Rattle.rewrite.specs.Functions.{blocks_from, exprs_from, function_interval}
use Rattle.rewrite.specs.Identifiers.{last_part, part_id, symbol_id}
use Rattle.rewrite.specs.Offsets.{new_offset, new_start}
use Rattle.rewrite.specs.Rewritten.{has_words, new_interval, new_intervals, new_section, rewritten, rewritten_module, stretched}
use Rattle.rewrite.specs.Symbols.{end_payload, function_symbols, holder, last_id, moved_symbol, name_symbol, names_of, new_symbols}
use Rattle.sym_expr.specs.declared.patches.Function.{Function}
use Rattle.sym_expr.specs.declared.patches.Insert.{Insert}
use Rattle.sym_expr.specs.declared.patches.PatchTable.{PatchTable}
use Rattle.sym_expr.specs.declared.patches.PatchTarget.{PatchTarget}
use Rattle.sym_expr.specs.declared.patches.PatchWord.{PatchWord}
use Rattle.sym_expr.specs.declared.patches.SymbolName.{SymbolName}
use Rattle.sym_expr.specs.declared.patches.SymbolName.TheVariants as names
use Rattle.sym_expr.specs.declared.program.CodeBlock.{CodeBlock}
use Rattle.sym_expr.specs.declared.program.Piece.{Piece}
use Rattle.sym_expr.specs.declared.program.Piece.TheVariants.{Code as CodePiece, Data as DataPiece, Gap}
use Rattle.sym_expr.specs.declared.program.Program.{Program}
use Rattle.sym_expr.specs.declared.program.Word.{Word}
use Rattle.sym_expr.specs.Derived.{block_text, derived, interval_text, part_text, symbol_text}
use Rattle.sym_expr.specs.Images.{all_words, bytes_of}
use Rattle.sym_expr.specs.Layouts.{least_from}
use Rattle.sym_expr.specs.Linkable.{formed}
use Rattle.sym_expr.specs.Modules.{bytes_at, end_of, in_order, is_code, is_loaded, loaded_sections, size_of}
use Rattle.sym_expr.specs.Patches.{FunPlace, Start, End, function_blocks, name_in}
use Rattle.sym_expr.specs.Placing.{Placed, new_size, placed, placed_from, step_of, stretch_size}
use Rattle.sym_expr.specs.Points.{code_at, code_blocks}
use Rattle.sym_expr.specs.Program.{code_block, data_block, function_stretch, gap, has_entry, piece, pieces, program, section_stretches, stretch}
use Rattle.sym_expr.specs.TableOk.{function_words, new_names, patch_words, table_ok, typed_name, typed_word}
use Rattle.sym_expr.specs.Tables.{Tables}
use Rattle.sym_expr.specs.WellMade.{well_made}
use Rattle.rewritten_links.proofs.Apart.{same_id}
use Rattle.rewritten_links.proofs.Brought.{IsBrought, from_function, from_piece, out_offset}
use Rattle.rewritten_links.proofs.DerivedIds.{derived_is_id}
use Rattle.rewritten_links.proofs.Ends.{brought_fits, line_fits, moved_fits, one_of_sum, part_fits, piece_fits, start_fits}
use Rattle.rewritten_links.proofs.Homes.{into_order, of_piece}
use Rattle.rewritten_links.proofs.Lands.{every_append}
use Rattle.rewritten_links.proofs.Lists.{In, every_of, found_in, in_either, in_filter, in_flat, in_front, in_map, of_every, out_filter_map, out_flat, out_map}
use Rattle.rewritten_links.proofs.Names.{all_words as all_function_words, block_words}
use Rattle.rewritten_links.proofs.Parts.{HaveWords}
use Rattle.rewritten_links.proofs.Ranges.{all_brought}
use Rattle.rewritten_links.proofs.Whole.{alone, changed}

-- ---- identifiers

either_id : (b : Bool) (x y : List ℕ) → IsId x → IsId y → IsId (if b then x else y)
either_id true x y h k = h
either_id false x y h k = k

part_is_id : (m : Module) (block : List ℕ) (q : Part) → IsId block → IsId (part_id m block q)
part_is_id m block q h = either_id (q.start == 0) block (derived m.uuid (part_text block q.start)) h (derived_is_id m.uuid (part_text block q.start))

holder_is_id : (m : Module) (f : Function) (place : FunPlace) → IsId (holder m f place)
holder_is_id m f (Start k) = derived_is_id m.uuid (block_text f.name k)
holder_is_id m f End = derived_is_id m.uuid (block_text f.name (length (function_blocks f) - 1))

symbol_is_id : (m : Module) (name : SymbolName) → typed_name name → IsId (symbol_id m name)
symbol_is_id m (names.Old id) h = h
symbol_is_id m (names.New name) h = derived_is_id m.uuid (symbol_text name)

-- ---- symbols

end_is_id : (m : Module) (g : Program) (id : List ℕ) (o : Option CodeBlock) → code_at g id ≡ o → IsId id → IsId (option_map_or (last_id m) o id)
end_is_id m g id None e h = h
end_is_id m g id (Some b) e h =
    let found = found_in (λ (c : CodeBlock). bytes_eq c.id id) b (code_blocks g) e in
    part_is_id m b.id (last_part (parts b)) (subst IsId (sym (same_id b.id id found.1)) h)

payload_typed : (m : Module) (g : Program) (y : Payload) → typed_payload y → typed_payload (end_payload m g y)
payload_typed m g payloads.Nothing h = h
payload_typed m g (payloads.Value value) h = h
payload_typed m g (payloads.Referent id) h = end_is_id m g id (code_at g id) refl h

moved_typed : (m : Module) (g : Program) (s : Symbol) (x : Bool) → typed_symbol s → typed_symbol (if x then record s { payload = end_payload m g s.payload } else s)
moved_typed m g s true h = record { uuid = h.uuid; name = h.name; payload = payload_typed m g s.payload h.payload }
moved_typed m g s false h = h

some_mapped : {A B : Type 0} (f : A → B) (o : Option A) (y : B) → option_map f o ≡ Some y → (x : A) × (y ≡ f x)
some_mapped f None y e = absurd (none-some y e)
some_mapped f (Some x) y e = (x, sym (same_Some (f x) y e))

named_typed : (m : Module) (p : PatchTable) (f : Function) (s : Symbol) → Every IsUtf8 (new_names p) → In f p.functions → In s (function_symbols m f) → typed_symbol s
named_typed m p f s utf8 h k =
    let name = out_filter_map (λ name. option_map (name_symbol m f name) (name_in name f)) s (names_of f) k in
    let place = some_mapped (name_symbol m f name.0) (name_in name.0 f) s name.2 in
    let text = of_every IsUtf8 name.0 (new_names p) utf8 (in_flat names_of f name.0 p.functions h name.1) in
    subst typed_symbol (sym place.1) (record { uuid = derived_is_id m.uuid (symbol_text name.0); name = text; payload = holder_is_id m f place.0 })

symbols_typed : (m : Module) (g : Program) (p : PatchTable) → Every typed_symbol m.symbols → Every IsUtf8 (new_names p) → Every typed_symbol (new_symbols m g p)
symbols_typed m g p old utf8 =
    every_of typed_symbol (new_symbols m g p) (λ s h.
    elim (in_either s (map (moved_symbol m g) m.symbols) (flat_map (function_symbols m) p.functions) h) [
      | inl k ↦
          let y = out_map (moved_symbol m g) s m.symbols k in
          subst typed_symbol (sym y.2) (moved_typed m g y.0 y.0.at_end (of_every typed_symbol y.0 m.symbols old y.1))
      | inr k ↦
          let f = out_flat (function_symbols m) s p.functions k in
          named_typed m p f.0 s utf8 f.1 f.2
    ])

-- ---- bytes

four_bytes : (count n : ℕ) → AreBytes (bytes_of count n)
four_bytes zero n = tt
four_bytes (suc count) n = (mod_below n 256 (omega arith), four_bytes count (n / 256))

words_bytes : (ws : List Word) → AreBytes (flat_map word_bytes ws)
words_bytes [] = tt
words_bytes (w ∷ ws) = every_append (λ b. b < 256) (word_bytes w) (flat_map word_bytes ws) (four_bytes 4 w.word) (words_bytes ws)

line_bytes : (ws : List PatchWord) → AreBytes (flat_map (λ (w : PatchWord). bytes_of 4 w.word) ws)
line_bytes [] = tt
line_bytes (w ∷ ws) = every_append (λ b. b < 256) (bytes_of 4 w.word) (flat_map (λ (v : PatchWord). bytes_of 4 v.word) ws) (four_bytes 4 w.word) (line_bytes ws)

byte_below : (xs : List ℕ) → AreBytes xs → (k : ℕ) → get_or xs k 0 < 256
byte_below [] h k = omega arith
byte_below (x ∷ xs) h zero = h.0
byte_below (x ∷ xs) h (suc k) = byte_below xs h.1 k

run_bytes : (i : Interval) (at n : ℕ) → AreBytes i.contents → AreBytes (bytes_at i at n)
run_bytes i at zero h = tt
run_bytes i at (suc n) h = (byte_below i.contents h at, run_bytes i (at + 1) n h)

zero_bytes : (n : ℕ) → AreBytes (replicate n 0)
zero_bytes zero = tt
zero_bytes (suc n) = (omega arith, zero_bytes n)

-- the bytes of the piece are bytes
abbrev HasBytes : Piece → Type 0
HasBytes q = AreBytes (piece_bytes q)

gap_bytes : (i : Interval) (from to : ℕ) (x : Bool) → AreBytes i.contents → Every HasBytes (if x then [] else Gap (bytes_at i from (to - from)) ∷ [])
gap_bytes i from to true h = tt
gap_bytes i from to false h = (run_bytes i from (to - from) h, tt)

one_bytes : (m : Module) (t : Tables) (p : PatchTable) (i : Interval) (b : Block) (x : Bool) → AreBytes i.contents → HasBytes (if x then CodePiece (code_block m p i b) else DataPiece (data_block m t p i b))
one_bytes m t p i b true h = words_bytes (all_words (code_block m p i b))
one_bytes m t p i b false h = run_bytes i b.offset (size_of b) h

pieces_bytes : (m : Module) (t : Tables) (p : PatchTable) (i : Interval) (at : ℕ) (bs : List Block) → AreBytes i.contents → Every HasBytes (pieces m t p i at bs)
pieces_bytes m t p i at [] h = gap_bytes i at i.size (i.size - at == 0) h
pieces_bytes m t p i at (b ∷ bs) h =
    every_append HasBytes (gap i at b.offset) (piece m t p i b ∷ pieces m t p i (end_of b) bs) (gap_bytes i at b.offset (b.offset - at == 0) h)
    (one_bytes m t p i b (is_code b) h, pieces_bytes m t p i (end_of b) bs h)

placed_bytes : (from at : ℕ) (ps : List Piece) → Every HasBytes ps → AreBytes (bytes_from from (placed_from at ps))
placed_bytes from at [] h = tt
placed_bytes from at (q ∷ ps) h =
    let start : ℕ = least_from at (step_of q) 0 in
    let rest = bytes_from (start + new_size q) (placed_from (start + new_size q) ps) in
    every_append (λ b. b < 256) (replicate (start - from) 0 ++ piece_bytes q) rest (every_append (λ b. b < 256) (replicate (start - from) 0) (piece_bytes q) (zero_bytes (start - from)) h.0)
    (placed_bytes (start + new_size q) (start + new_size q) ps h.1)

-- ---- intervals

-- a number below 2 ^ 62 is one of 64 bits
small : (n most : ℕ) → n ≤ most → most < 2 ^ 62 → IsU64 n
small n most le lt = omega (arith, le, lt)

module _ (words : HaveWords) (m : Module) (t : Tables) (p : PatchTable) (i : Interval) (room : stretch_size (stretch m t p i) < 2 ^ 62) where
  part_typed : (b : Block) (uuid : List ℕ) (decode_mode : ℕ) (q : Part) → In (CodePiece (code_block m p i b)) (stretch m t p i).pieces → In q (parts (code_block m p i b)) → IsId uuid → IsU64 decode_mode
      → typed_block (part_block m uuid decode_mode (new_start (stretch m t p i) uuid) q)
  part_typed b uuid decode_mode q there among id mode =
      let s = stretch m t p i in
      let start = start_fits s uuid in
      let size = part_fits words (code_block m p i b) q among in
      let fits = piece_fits 0 s.pieces (CodePiece (code_block m p i b)) there in
      record {
        offset = omega (arith, start, size, fits, room);
        body = (part_is_id m uuid q id, small (part_size q) (stretch_size s) (omega (arith, size, fits)) room, mode);
      }

  body_typed : (offset : ℕ) (x : Body) → let b : Block = record { offset = offset; body = x } in In b i.blocks → typed_block b → (c : Block) → In c (new_block m p i (stretch m t p i) b) → typed_block c
  body_typed offset bodies.Bare h old c (inl e) = subst typed_block (sym e) old
  body_typed offset bodies.Bare h old c (inr k) = absurd k
  body_typed offset (bodies.Code uuid size decode_mode) h old c k =
      let b : Block = record { offset = offset; body = bodies.Code uuid size decode_mode } in
      let q = out_map (part_block m uuid decode_mode (new_start (stretch m t p i) uuid)) c (parts (code_block m p i b)) k in
      let there = of_piece m t p i 0 (in_order i.blocks) b (into_order b i.blocks h) in
      subst typed_block (sym q.2) (part_typed b uuid decode_mode q.0 there q.1 old.body.0 old.body.2)
  body_typed offset (bodies.Data uuid size) h old c (inl e) =
      subst typed_block (sym e) (record { offset = small (new_start (stretch m t p i) uuid) (stretch_size (stretch m t p i)) (start_fits (stretch m t p i) uuid) room; body = old.body })
  body_typed offset (bodies.Data uuid size) h old c (inr k) = absurd k

  blocks_typed : Every typed_block i.blocks → Every typed_block (new_blocks m p i (stretch m t p i))
  blocks_typed old =
      every_of typed_block (new_blocks m p i (stretch m t p i)) (λ c k.
      let b = out_flat (new_block m p i (stretch m t p i)) c i.blocks k in
      body_typed b.0.offset b.0.body b.1 (of_every typed_block b.0 i.blocks old b.1) c b.2)

target_typed : (m : Module) (p : PatchTable) (e : Expr) → table_ok m p → IsBrought m (patch_words p) e → IsU64 e.at → typed_expr e
target_typed m p e ok b at =
    let word = of_every typed_word b.word (patch_words p) ok.typed.words b.among in
    let target : typed_name b.target.symbol × IsI64 b.target.offset = subst (λ o. IfSome o (λ (x : PatchTarget). typed_name x.symbol × IsI64 x.offset)) b.has word.target in
    let place : IsU64 b.at = subst IsU64 (ap (λ (x : Expr). x.at) b.is) at in
    subst typed_expr (sym b.is) (record { at = place; value = (target.1, symbol_is_id m b.target.symbol target.0); flags = tt })

exprs_typed : (m : Module) (t : Tables) (p : PatchTable) (i : Interval) → table_ok m p → stretch_size (stretch m t p i) < 2 ^ 62 → Every typed_expr i.exprs → Every typed_expr (new_exprs m p i (stretch m t p i))
exprs_typed m t p i ok room old =
    let s = stretch m t p i in
    let news : List Expr = all_brought m p (placed s) in
    every_of typed_expr (new_exprs m p i s) (λ e h.
    elim (in_either e (map (moved_expr s) i.exprs) news (out_offset e (map (moved_expr s) i.exprs ++ news) h)) [
      | inl k ↦
          let y = out_map (moved_expr s) e i.exprs k in
          let was = of_every typed_expr y.0 i.exprs old y.1 in
          subst typed_expr (sym y.2) (record { at = small (new_offset s y.0.at) (stretch_size s) (moved_fits s y.0.at) room; value = was.value; flags = was.flags })
      | inr k ↦
          let x = out_flat (λ (x : Placed). brought_in m p x.at x.piece) e (placed s) k in
          let fits = brought_fits m p s e k in
          target_typed m p e ok (from_piece m p x.0.at x.0.piece e x.2) (small e.at (stretch_size s) (omega (arith, fits)) room)
    ])

either_typed : HaveWords → (m : Module) (t : Tables) (p : PatchTable) (i : Interval) (x : Bool) → table_ok m p → stretch_size (stretch m t p i) < 2 ^ 62 → typed_interval i → typed_interval (if x then stretched m p i (stretch m t p i) else i)
either_typed words m t p i true ok room h = record {
  uuid = h.uuid;
  blocks = blocks_typed words m t p i room h.blocks;
  exprs = exprs_typed m t p i ok room h.exprs;
  address = h.address;
  size = small (stretch_size (stretch m t p i)) (stretch_size (stretch m t p i)) (omega arith) room;
  contents = placed_bytes 0 0 (stretch m t p i).pieces (pieces_bytes m t p i 0 (in_order i.blocks) h.contents);
}
either_typed words m t p i false ok room h = h

-- ---- functions

length_one : {A B : Type 0} (f : A → List B) (x : A) (xs : List A) → In x xs → length (f x) ≤ length (flat_map f xs)
length_one f x [] h = absurd h
length_one f x (y ∷ xs) (inl e) =
    let all = length-append (f y) (flat_map f xs) in
    let same = ap (λ z. length (f z)) e in
    omega (arith, all, same)
length_one f x (y ∷ xs) (inr h) =
    let all = length-append (f y) (flat_map f xs) in
    let rest = length_one f x xs h in
    omega (arith, all, rest)

few_words : (m : Module) (p : PatchTable) (f : Function) → table_ok m p → In f p.functions → length (function_words f) ≤ 1048576
few_words m p f ok h =
    let one = length_one function_words f p.functions h in
    let all = length-append (flat_map (λ (i : Insert). i.body) p.inserts) (flat_map function_words p.functions) in
    let few = ok.few in
    omega (arith, one, all, few)

function_blocks_typed : (m : Module) (f : Function) (k at : ℕ) (bs : List (List PatchWord)) → at + 4 * block_words bs < 2 ^ 62 → Every typed_block (blocks_from m f k at bs)
function_blocks_typed m f k at [] lt = tt
function_blocks_typed m f k at (b ∷ bs) lt = (
  record { offset = omega (arith, lt); body = (derived_is_id m.uuid (block_text f.name k), (let size : 4 * length b < 2 ^ 64 = omega (arith, lt) in size), omega arith) },
  function_blocks_typed m f (suc k) (at + 4 * length b) bs (omega (arith, lt)),
)

function_typed : (m : Module) (p : PatchTable) (f : Function) → table_ok m p → In f p.functions → typed_interval (function_interval m f)
function_typed m p f ok h =
    let few = few_words m p f ok h in
    let count = all_function_words f in
    record {
      uuid = derived_is_id m.uuid (interval_text f.name);
      blocks = function_blocks_typed m f 0 0 (function_blocks f) (omega (arith, few, count));
      exprs = every_of typed_expr (exprs_from m 0 (function_words f)) (λ e k. let fits = line_fits m 0 (function_words f) e k in target_typed m p e ok (from_function m p f e h k) (omega (arith, fits, few)));
      address = omega arith;
      size = omega (arith, few);
      contents = line_bytes (function_words f);
    }

extra_typed : (m : Module) (p : PatchTable) (x : Bool) (j : Interval) → table_ok m p → In j (if x then map (function_interval m) p.functions else []) → typed_interval j
extra_typed m p true j ok h =
    let f = out_map (function_interval m) j p.functions h in
    subst typed_interval (sym f.2) (function_typed m p f.0 ok f.1)
extra_typed m p false j ok h = absurd h

-- ---- sections

stretch_there : (m : Module) (t : Tables) (p : PatchTable) (s : Section) (i : Interval) → In s (loaded_sections m) → In i s.intervals → In (stretch m t p i) (program m t p).stretches
stretch_there m t p s i h k =
    in_flat (section_stretches m t p) s (stretch m t p i) (loaded_sections m) h
    (in_front (stretch m t p i) (map (stretch m t p) s.intervals) (if has_entry m s then map (function_stretch m p) p.functions else []) (in_map (stretch m t p) i s.intervals k))

room_of : (m : Module) (t : Tables) (p : PatchTable) (s : Section) (i : Interval) → well_made (program m t p) → In s (loaded_sections m) → In i s.intervals → stretch_size (stretch m t p i) < 2 ^ 62
room_of m t p s i made h k =
    let one = one_of_sum stretch_size (stretch m t p i) (program m t p).stretches (stretch_there m t p s i h k) in
    let all = made.sizes in
    omega (arith, one, all)

intervals_typed : HaveWords → (m : Module) (t : Tables) (p : PatchTable) (s : Section) → table_ok m p → well_made (program m t p) → In s (loaded_sections m) → Every typed_interval s.intervals → Every typed_interval (new_intervals m t p s)
intervals_typed words m t p s ok made h old =
    every_of typed_interval (new_intervals m t p s) (λ j k.
    elim (in_either j (map (new_interval m t p) s.intervals) (if has_entry m s then map (function_interval m) p.functions else []) k) [
      | inl n ↦
          let i = out_map (new_interval m t p) j s.intervals n in
          subst typed_interval (sym i.2) (either_typed words m t p i.0 (list_any (has_words p) i.0.blocks) ok (room_of m t p s i.0 made h i.1) (of_every typed_interval i.0 s.intervals old i.1))
      | inr n ↦ extra_typed m p (has_entry m s) j ok n
    ])

section_typed : HaveWords → (m : Module) (t : Tables) (p : PatchTable) (s : Section) (x : Bool) → is_loaded s ≡ x → table_ok m p → well_made (program m t p) → In s m.sections → typed_section s → typed_section (if x then record s { intervals = new_intervals m t p s } else s)
section_typed words m t p s true e ok made h old = record {
  uuid = old.uuid;
  name = old.name;
  intervals = intervals_typed words m t p s ok made (in_filter is_loaded s m.sections e h) old.intervals;
  flags = old.flags;
}
section_typed words m t p s false e ok made h old = old

-- ---- the IR

module_typed : HaveWords → (m : Module) (t : Tables) (p : PatchTable) → table_ok m p → well_made (program m t p) → typed_module m → typed_module (rewritten_module m t p)
module_typed words m t p ok made h = record {
  uuid = h.uuid;
  binary_path = h.binary_path;
  preferred_addr = h.preferred_addr;
  rebase_delta = h.rebase_delta;
  file_format = h.file_format;
  isa = h.isa;
  name = h.name;
  symbols = symbols_typed m (program m t p) p h.symbols ok.typed.names;
  sections =
      every_of typed_section (map (new_section m t p) m.sections) (λ r k.
      let s = out_map (new_section m t p) r m.sections k in
      subst typed_section (sym s.2) (section_typed words m t p s.0 (is_loaded s.0) refl ok made s.1 (of_every typed_section s.0 m.sections h.sections s.1)));
  proxies = h.proxies;
  aux = h.aux;
  entry = h.entry;
  byte_order = h.byte_order;
}

pub stays_typed : HaveWords → (ir : Ir) (m : Module) (p : PatchTable) → formed ir m (tables_of m) → table_ok m p → well_made (program m (tables_of m) p) → typed (rewritten ir m.uuid (tables_of m) p)
stays_typed words ir m p h ok made =
    let old = h.linked.values in
    record {
      uuid = old.uuid;
      modules =
          every_of typed_module (map (changed m p) ir.modules) (λ y k.
          let x = out_map (changed m p) y ir.modules k in
          subst typed_module (sym x.2) (one_typed x.0 (of_every typed_module x.0 ir.modules old.modules x.1) (alone ir m h.linked.links h.member x.0 x.1)));
      aux = old.aux;
      version = old.version;
      cfg = old.cfg;
    }
  where
    one_typed : (x : Module) → typed_module x → (bytes_eq x.uuid m.uuid ≡ true → x ≡ m) → typed_module (changed m p x)
    one_typed x was only =
        elim (cases_Bool (bytes_eq x.uuid m.uuid)) [
          | inl e ↦
              let same : changed m p x ≡ rewritten_module m (tables_of m) p = ap (λ y. if y then rewritten_module x (tables_of m) p else x) e ∙ ap (λ (z : Module). rewritten_module z (tables_of m) p) (only e) in
              subst typed_module (sym same) (module_typed words m (tables_of m) p ok made (subst typed_module (only e) was))
          | inr e ↦ subst typed_module (sym (ap (λ y. if y then rewritten_module x (tables_of m) p else x) e)) was
        ]
