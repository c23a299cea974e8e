-- The interval of a function has the pieces of the function.
use Rattle.std.proofs.Common.{◌≡◌, ℕ, suc, ◌+◌, ◌-◌, ◌*◌, ◌^◌, ◌<◌, Bool, true, false, List, [], ◌∷◌, ◌++◌, length, map, refl, sym, ap, ◌∙◌, arith}
use Rattle.std.specs.Prelude.{◌==◌, if◌then◌else◌}
use Rattle.std.specs.List.{AllByRecursion as Every, flat_map}
use Rattle.std.proofs.lemmas.List.{append_assoc, append-nil, length-map}
use Rattle.block_parts.specs.declared.words.Origin.TheVariants.{Own}
use Rattle.block_parts.specs.declared.words.PatchedWord.{PatchedWord}
use Rattle.gt_model.specs.declared.intervals.Block.{Block}
use Rattle.gt_model.specs.declared.intervals.Body.TheVariants as bodies
use Rattle.gt_model.specs.declared.intervals.Interval.{Interval}
use Rattle.gt_model.specs.declared.modules.Module.{Module}
use Rattle.repaired_programs.specs.Pieces.{bare_piece, bare_word, new_pieces, plain_word}
use Rattle.rewrite.specs.Functions.{blocks_from, function_interval}
use Rattle.sym_expr.specs.declared.patches.FunLine.{FunLine}
use Rattle.sym_expr.specs.declared.patches.FunLine.TheVariants as lines
use Rattle.sym_expr.specs.declared.patches.Function.{Function}
use Rattle.sym_expr.specs.declared.patches.Insert.{Insert}
use Rattle.sym_expr.specs.declared.patches.PatchTable.{PatchTable}
use Rattle.sym_expr.specs.declared.patches.PatchWord.{PatchWord}
use Rattle.sym_expr.specs.declared.program.CodeBlock.{CodeBlock}
use Rattle.sym_expr.specs.declared.program.Piece.{Piece}
use Rattle.sym_expr.specs.declared.program.Piece.TheVariants.{Code as CodePiece, Gap}
use Rattle.sym_expr.specs.declared.program.Word.{Word}
use Rattle.sym_expr.specs.Images.{bytes_of}
use Rattle.sym_expr.specs.Modules.{bytes_at, in_order}
use Rattle.sym_expr.specs.Patches.{add_word, begins, cut, function_blocks, is_control, no_patches, with_starts}
use Rattle.sym_expr.specs.Placing.{placed_from}
use Rattle.sym_expr.specs.Program.{function_pieces, patched_word, pieces}
use Rattle.sym_expr.specs.TableOk.{function_words, line_words, typed_patches, typed_word}
use Rattle.sym_expr.specs.Tables.{Tables}
use Rattle.sym_expr.specs.Targets.{function_block_id}
use Rattle.repaired_programs.proofs.Bare.{code_bare, flat_of_map}
use Rattle.repaired_programs.proofs.Bytes.{advance, ahead_on, bytes_in, IsAhead, IsSmall, length-word_bytes, word_bytes}
use Rattle.repaired_programs.proofs.Functions.{all_words, block_words, function_order}
use Rattle.repaired_programs.proofs.Lists.{every_back, every_map, every_part, every_unmap, every_weaker}
use Rattle.repaired_programs.proofs.Still.{IsOnePart, quiet_new}

-- ---- the bytes of words of the patches

abbrev bytes_one : PatchWord → List ℕ
bytes_one w = bytes_of 4 w.word

abbrev bytes_brought : List PatchWord → List ℕ
bytes_brought ws = flat_map bytes_one ws

abbrev as_own : PatchWord → PatchedWord
as_own w = record { word = w.word; origin = Own 0 }

read_bytes : (ws : List PatchWord) → word_bytes (map as_own ws) ≡ bytes_brought ws
read_bytes ws = flat_of_map as_own bytes_in ws

length-brought : (ws : List PatchWord) → length (bytes_brought ws) ≡ 4 * length ws
length-brought ws = ap (λ (l : List ℕ). length l) (sym (read_bytes ws)) ∙ length-word_bytes (map as_own ws) ∙ ap (λ k. 4 * k) (length-map ws as_own)

plain_own : (m : Module) (p : PatchTable) (ws : List PatchWord) → map plain_word (map as_own ws) ≡ map bare_word (map (patched_word m p) ws)
plain_own m p [] = refl
plain_own m p (w ∷ ws) = ap (λ l. plain_word (as_own w) ∷ l) (plain_own m p ws)

abbrev pub IsShort : PatchWord → Type 0
IsShort w = w.word < 2 ^ 32

-- ---- cutting keeps them

added_bytes : (w : PatchWord) (x : Bool) (bs : List (List PatchWord)) → flat_map bytes_brought (add_word w x bs) ≡ bytes_one w ++ flat_map bytes_brought bs
added_bytes w true bs = ap (λ l. l ++ flat_map bytes_brought bs) (append-nil (bytes_one w))
added_bytes w false [] = ap (λ l. l ++ []) (append-nil (bytes_one w))
added_bytes w false (b ∷ bs) = append_assoc (bytes_one w) (bytes_brought b) (flat_map bytes_brought bs)

cut_bytes : (ws : List (Bool × PatchWord)) → flat_map bytes_brought (cut ws) ≡ bytes_brought (map (λ (w : Bool × PatchWord). w.1) ws)
cut_bytes [] = refl
cut_bytes ((start, w) ∷ rest) = added_bytes w (begins rest) (cut rest) ∙ ap (λ l. bytes_one w ++ l) (cut_bytes rest)

pub started : (fresh : Bool) (ls : List FunLine) → map (λ (w : Bool × PatchWord). w.1) (with_starts fresh ls) ≡ flat_map line_words ls
started fresh [] = refl
started fresh (lines.Label name ∷ rest) = started true rest
started fresh (lines.Word w ∷ rest) = ap (λ l. w ∷ l) (started (is_control w.word) rest)

block_bytes : (f : Function) → bytes_brought (function_words f) ≡ flat_map bytes_brought (function_blocks f)
block_bytes f = ap bytes_brought (sym (started true f.body)) ∙ sym (cut_bytes (with_starts true f.body))

added_short : (w : PatchWord) (x : Bool) (bs : List (List PatchWord)) → IsShort w → Every (Every IsShort) bs → Every (Every IsShort) (add_word w x bs)
added_short w true bs h k = ((h, tt), k)
added_short w false [] h k = ((h, tt), tt)
added_short w false (b ∷ bs) h k = ((h, k.0), k.1)

cut_short : (ws : List (Bool × PatchWord)) → Every (λ (w : Bool × PatchWord). IsShort w.1) ws → Every (Every IsShort) (cut ws)
cut_short [] h = tt
cut_short ((start, w) ∷ rest) h = added_short w (begins rest) (cut rest) h.0 (cut_short rest h.1)

blocks_short : (f : Function) → Every IsShort (function_words f) → Every (Every IsShort) (function_blocks f)
blocks_short f h =
    let ws : List (Bool × PatchWord) = with_starts true f.body in
    let words : Every IsShort (map (λ (w : Bool × PatchWord). w.1) ws) = rw (started true f.body) h in
    cut_short ws (every_unmap (λ (w : Bool × PatchWord). w.1) IsShort ws words)

-- ---- blocks one behind the other

blocks_bare : ((b : CodeBlock) → IsOnePart b) → (n : Module) (u : Tables) (j : Interval) (m : Module) (p : PatchTable) (f : Function) (k at : ℕ) (bs : List (List PatchWord)) → j.size ≡ at + 4 * block_words bs → IsAhead j at (flat_map bytes_brought bs) → Every (Every IsShort) bs
    → map bare_piece (pieces n u no_patches j at (blocks_from m f k at bs)) ≡ new_pieces m [] at (placed_from at (function_pieces m p f k at bs))
blocks_bare one n u j m p f k at [] e h short =
    let none : j.size - at ≡ 0 = omega (arith, e) in
    ap (λ k. map bare_piece (if k == 0 then [] else Gap (bytes_at j at k) ∷ [])) none
blocks_bare one n u j m p f k at (b ∷ bs) e h short =
    let next : ℕ = at + 4 * length b in
    let c : Block = record { offset = at; body = bodies.Code (function_block_id m f k) (4 * length b) 0 } in
    let q : CodeBlock = record { id = function_block_id m f k; offset = at; own = map (patched_word m p) b; inserted = [] } in
    let words : List PatchedWord = map as_own b in
    let rest : List ℕ = flat_map bytes_brought bs in
    let more : List Piece = function_pieces m p f (suc k) next bs in
    let count = length-map b as_own in
    let own = length-map b (patched_word m p) in
    let size = length-brought b in
    let here : IsAhead j at (word_bytes words ++ rest) = ahead_on j at at (bytes_brought b ++ rest) (word_bytes words ++ rest) refl (ap (λ l. l ++ rest) (sym (read_bytes b))) h in
    let behind : IsAhead j next rest = ahead_on j (at + length (bytes_brought b)) next rest rest (omega (arith, size)) refl (advance j at (bytes_brought b) rest h) in
    let end : at + 4 * length q.own ≡ next = omega (arith, own) in
    let first = λ (ws : List Word). CodePiece (record { id = function_block_id m f k; offset = at; own = ws; inserted = [] }) in
    code_bare n u j at c words [] rest (blocks_from m f (suc k) next bs) refl (omega (arith, count)) (omega arith) here (every_map as_own IsSmall b short.0)
    ∙ ap (λ ws. first ws ∷ map bare_piece (pieces n u no_patches j next (blocks_from m f (suc k) next bs))) (plain_own m p b)
    ∙ ap (λ l. first (map bare_word (map (patched_word m p) b)) ∷ l) (blocks_bare one n u j m p f (suc k) next bs (omega (arith, e)) behind short.1)
    ∙ ap (λ x. first (map bare_word (map (patched_word m p) b)) ∷ new_pieces m [] x (placed_from x more)) (sym end)
    ∙ sym (quiet_new one m [] q more refl)

pub function_bare : ((b : CodeBlock) → IsOnePart b) → (n : Module) (u : Tables) (m : Module) (p : PatchTable) (f : Function) → Every IsShort (function_words f)
    → map bare_piece (pieces n u no_patches (function_interval m f) 0 (in_order (function_interval m f).blocks)) ≡ new_pieces m [] 0 (placed_from 0 (function_pieces m p f 0 0 (function_blocks f)))
function_bare one n u m p f short =
    let words = all_words f in
    ap (λ bs. map bare_piece (pieces n u no_patches (function_interval m f) 0 bs)) (function_order m f)
    ∙ blocks_bare one n u (function_interval m f) m p f 0 0 (function_blocks f) (omega (arith, words)) (record { front = []; size = refl; whole = block_bytes f }) (blocks_short f short)

pub functions_short : (p : PatchTable) → typed_patches p → Every (λ (f : Function). Every IsShort (function_words f)) p.functions
functions_short p h =
    every_part function_words IsShort p.functions
    (every_weaker typed_word IsShort (λ w l. l.word) (flat_map function_words p.functions)
    (every_back typed_word (flat_map (λ (i : Insert). i.body) p.inserts) (flat_map function_words p.functions) h.words))
