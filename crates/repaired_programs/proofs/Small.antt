-- The words of a patched block are numbers of 32 bits.
use Rattle.std.proofs.Common.{◌≡◌, ℕ, zero, suc, ◌+◌, ◌*◌, ◌/◌, ◌^◌, ◌<◌, List, [], ◌∷◌, map, get_or, arith}
use Rattle.std.specs.Prelude.{filter, ◌==◌}
use Rattle.std.specs.Int.{w32, from_le_bytes}
use Rattle.std.specs.List.{AllByRecursion as Every, flat_map}
use Rattle.std.specs.Str.{bytes_eq}
use Rattle.block_parts.specs.declared.words.PatchedWord.{PatchedWord}
use Rattle.block_parts.specs.Words.{numbered, own, patched_words, words_from}
use Rattle.gt_model.specs.declared.intervals.Block.{Block}
use Rattle.gt_model.specs.declared.intervals.Interval.{Interval}
use Rattle.gt_model.specs.declared.ir.Ir.{Ir}
use Rattle.gt_model.specs.declared.modules.Module.{Module}
use Rattle.gt_model.specs.declared.modules.Section.{Section}
use Rattle.gt_model.specs.Typed.{AreBytes, typed_interval, typed_module, typed_section}
use Rattle.sym_expr.specs.declared.patches.Insert.{Insert}
use Rattle.sym_expr.specs.declared.patches.PatchTable.{PatchTable}
use Rattle.sym_expr.specs.declared.patches.PatchWord.{PatchWord}
use Rattle.sym_expr.specs.declared.program.Word.{Word}
use Rattle.sym_expr.specs.Linkable.{formed}
use Rattle.sym_expr.specs.Modules.{byte_at, id_of, is_loaded, loaded_intervals, loaded_sections, size_of, word_of}
use Rattle.sym_expr.specs.Patches.{inserted_at, inserted_in}
use Rattle.sym_expr.specs.Program.{code_block, own_words, patched_word}
use Rattle.sym_expr.specs.TableOk.{function_words, typed_patches, typed_word}
use Rattle.sym_expr.specs.Tables.{Tables}
use Rattle.repaired_programs.proofs.Bytes.{IsSmall}
use Rattle.repaired_programs.proofs.Lists.{every_append, every_contained, every_filter, every_flat, every_front, every_map, every_part, every_weaker}

-- ---- own words

byte_below : (xs : List ℕ) → AreBytes xs → (k : ℕ) → get_or xs k 0 < 256
byte_below [] h k = omega arith
byte_below (x ∷ xs) h zero = h.0
byte_below (x ∷ xs) h (suc k) = byte_below xs h.1 k

word_small : (i : Interval) → AreBytes i.contents → (at : ℕ) → word_of i at < 2 ^ 32
word_small i h at =
    let a : ℕ = byte_at i at in
    let b : ℕ = byte_at i (at + 1) in
    let c : ℕ = byte_at i (at + 1 + 1) in
    let d : ℕ = byte_at i (at + 1 + 1 + 1) in
    let value : from_le_bytes w32 (a ∷ b ∷ c ∷ d ∷ []) ≡ a + 256 * (b + 256 * (c + 256 * d)) = omega arith in
    let small_a : a < 256 = byte_below i.contents h at in
    let small_b : b < 256 = byte_below i.contents h (at + 1) in
    let small_c : c < 256 = byte_below i.contents h (at + 1 + 1) in
    let small_d : d < 256 = byte_below i.contents h (at + 1 + 1 + 1) in
    omega (arith, value, small_a, small_b, small_c, small_d)

abbrev IsShort : Word → Type 0
IsShort w = w.word < 2 ^ 32

own_short : (m : Module) (p : PatchTable) (i : Interval) → AreBytes i.contents → (at n : ℕ) → Every IsShort (own_words m p i at n)
own_short m p i h at zero = tt
own_short m p i h at (suc n) = (word_small i h at, own_short m p i h (at + 4) n)

-- ---- inserted words

abbrev AreShort : Insert → Type 0
AreShort x = Every (λ (w : PatchWord). w.word < 2 ^ 32) x.body

inserts_short : (p : PatchTable) → typed_patches p → Every AreShort p.inserts
inserts_short p h =
    every_part (λ (x : Insert). x.body) (λ (w : PatchWord). w.word < 2 ^ 32) p.inserts
    (every_weaker typed_word (λ (w : PatchWord). w.word < 2 ^ 32) (λ w l. l.word) (flat_map (λ (x : Insert). x.body) p.inserts)
    (every_front typed_word (flat_map (λ (x : Insert). x.body) p.inserts) (flat_map function_words p.functions) h.words))

abbrev IsShortAt : ℕ × PatchWord → Type 0
IsShortAt w = w.1.word < 2 ^ 32

inserted_short : (p : PatchTable) (block : List ℕ) → typed_patches p → Every IsShortAt (inserted_in p block)
inserted_short p block h =
    every_flat (λ (x : Insert). map (λ (w : PatchWord). (x.offset, w)) x.body) IsShortAt (filter (λ (x : Insert). bytes_eq x.block block) p.inserts)
    (every_weaker AreShort (λ (x : Insert). Every IsShortAt (map (λ (w : PatchWord). (x.offset, w)) x.body))
    (λ x l. every_map (λ (w : PatchWord). let v : ℕ × PatchWord = (x.offset, w) in v) IsShortAt x.body l) (filter (λ (x : Insert). bytes_eq x.block block) p.inserts)
    (every_filter (λ (x : Insert). bytes_eq x.block block) AreShort p.inserts (inserts_short p h)))

abbrev IsSmallAt : ℕ × PatchedWord → Type 0
IsSmallAt w = IsSmall w.1

numbered_small : (k : ℕ) (ws : List (ℕ × Word)) → Every (λ (w : ℕ × Word). IsShort w.1) ws → Every IsSmallAt (numbered k ws)
numbered_small k [] h = tt
numbered_small k (w ∷ ws) h = (h.0, numbered_small (suc k) ws h.1)

at_small : (offset : ℕ) (news : List (ℕ × PatchedWord)) → Every IsSmallAt news → Every IsSmall (inserted_at offset news)
at_small offset news h =
    every_map (λ (w : ℕ × PatchedWord). w.1) IsSmall (filter (λ (w : ℕ × PatchedWord). offset == w.0) news) (every_filter (λ (w : ℕ × PatchedWord). offset == w.0) IsSmallAt news h)

from_small : (news : List (ℕ × PatchedWord)) (offset : ℕ) (ws : List Word) → Every IsSmallAt news → Every IsShort ws → Every IsSmall (words_from news offset ws)
from_small news offset [] h k = at_small offset news h
from_small news offset (w ∷ ws) h k = every_append IsSmall (inserted_at offset news) (own offset w ∷ words_from news (offset + 4) ws) (at_small offset news h) (k.0, from_small news (offset + 4) ws h k.1)

-- ---- of a block

pub block_small : (m : Module) (p : PatchTable) (i : Interval) (b : Block) → typed_patches p → AreBytes i.contents → Every IsSmall (patched_words (code_block m p i b))
block_small m p i b h k =
    from_small (numbered 0 (code_block m p i b).inserted) 0 (code_block m p i b).own
    (numbered_small 0 (code_block m p i b).inserted (every_map (λ (w : ℕ × PatchWord). let v : ℕ × Word = (w.0, patched_word m p w.1) in v) (λ (w : ℕ × Word). IsShort w.1) (inserted_in p (id_of b)) (inserted_short p (id_of b) h)))
    (own_short m p i k b.offset (size_of b / 4))

abbrev pub HasBytes : Interval → Type 0
HasBytes i = AreBytes i.contents

pub all_bytes : (ir : Ir) (m : Module) (t : Tables) → formed ir m t → Every HasBytes (loaded_intervals m)
all_bytes ir m t h =
    every_flat (λ (s : Section). s.intervals) HasBytes (loaded_sections m)
    (every_weaker typed_section (λ (s : Section). Every HasBytes s.intervals) (λ s l. every_weaker typed_interval HasBytes (λ i k. k.contents) s.intervals l.intervals) (loaded_sections m)
    (every_filter is_loaded typed_section m.sections (every_contained typed_module ir.modules m h.linked.values.modules h.member).sections))
