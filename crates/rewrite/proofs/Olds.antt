-- The pieces of an interval have its bytes.
use Rattle.std.proofs.Common.{◌≡◌, ℕ, zero, suc, ◌+◌, ◌-◌, ◌*◌, ◌/◌, ◌%◌, ◌<◌, ◌≤◌, Bool, true, false, List, [], ◌∷◌, ◌++◌, get_or, refl, sym, ap, ◌∙◌, arith}
use Rattle.std.specs.Prelude.{◌==◌, if◌then◌else◌}
use Rattle.std.specs.Int.{w32, from_le_bytes}
use Rattle.std.specs.List.{AllByRecursion as Every, flat_map}
use Rattle.std.proofs.lemmas.Bool.{eqb-true}
use Rattle.std.proofs.lemmas.List.{append-nil}
use Rattle.std.proofs.lemmas.List.Concat.{flat_map-append}
use Rattle.gt_model.specs.declared.intervals.Block.{Block}
use Rattle.gt_model.specs.declared.intervals.Interval.{Interval}
use Rattle.gt_model.specs.declared.ir.Ir.{Ir}
use Rattle.gt_model.specs.declared.modules.Module.{Module}
use Rattle.gt_model.specs.Typed.{AreBytes, typed_interval}
use Rattle.rewrite.specs.Contents.{old_contents, old_piece_bytes, word_bytes}
use Rattle.sym_expr.specs.declared.patches.PatchTable.{PatchTable}
use Rattle.sym_expr.specs.declared.program.Piece.TheVariants.{Code as CodePiece, Data as DataPiece, Gap}
use Rattle.sym_expr.specs.Images.{bytes_of}
use Rattle.sym_expr.specs.Linkable.{formed, is_crooked}
use Rattle.sym_expr.specs.Modules.{byte_at, bytes_at, end_of, in_order, is_code, loaded_intervals, size_of, word_of}
use Rattle.sym_expr.specs.Program.{code_block, data_block, gap, own_words, piece, pieces, stretch}
use Rattle.sym_expr.specs.Tables.{Tables}
use Rattle.sym_expr.proofs.Lists.{every_both, every_weaker}
use Rattle.sym_expr.proofs.Orders.{Behind}
use Rattle.sym_expr.proofs.Sound.{IsSound, all_sound, loaded_each, module_typed, typed_of}
use Rattle.sym_expr.proofs.Tiles.{straight_code}

-- ---- a word and its four bytes

digit : (n a m : ℕ) → n ≡ a + 256 * m → a < 256 → (n % 256 ≡ a) × (n / 256 ≡ m)
digit n a m e lt = (omega arith, omega arith)

digits : (k n a m : ℕ) (rest : List ℕ) → n ≡ a + 256 * m → a < 256 → bytes_of k m ≡ rest → bytes_of (suc k) n ≡ a ∷ rest
digits k n a m rest e lt h =
    let both = digit n a m e lt in
    ap (λ x. x ∷ bytes_of k (n / 256)) both.0 ∙ ap (λ x. a ∷ bytes_of k x) both.1 ∙ ap (λ l. a ∷ l) h

four_bytes : (n a b c d : ℕ) → n ≡ a + 256 * (b + 256 * (c + 256 * d)) → a < 256 → b < 256 → c < 256 → d < 256 → bytes_of 4 n ≡ a ∷ b ∷ c ∷ d ∷ []
four_bytes n a b c d e ha hb hc hd =
    digits 3 n a (b + 256 * (c + 256 * d)) (b ∷ c ∷ d ∷ []) e ha
    (digits 2 (b + 256 * (c + 256 * d)) b (c + 256 * d) (c ∷ d ∷ []) refl hb
    (digits 1 (c + 256 * d) c d (d ∷ []) refl hc
    (digits 0 d d 0 [] (omega arith) hd refl)))

byte_below : (xs : List ℕ) → AreBytes xs → (k : ℕ) → get_or xs k 0 < 256
byte_below [] h k = omega arith
byte_below (x ∷ xs) h zero = h.0
byte_below (x ∷ xs) h (suc k) = byte_below xs h.1 k

abbrev HasBytes : Interval → Type 0
HasBytes i = AreBytes i.contents

word_same : (i : Interval) (at : ℕ) → HasBytes i → bytes_of 4 (word_of i at) ≡ bytes_at i at 4
word_same i at h =
    let a : ℕ = byte_at i at in
    let b : ℕ = byte_at i (at + 1) in
    let c : ℕ = byte_at i (at + 1 + 1) in
    let d : ℕ = byte_at i (at + 1 + 1 + 1) in
    let value : from_le_bytes w32 (a ∷ b ∷ c ∷ d ∷ []) ≡ a + 256 * (b + 256 * (c + 256 * d)) = omega arith in
    four_bytes (word_of i at) a b c d value (byte_below i.contents h at) (byte_below i.contents h (at + 1)) (byte_below i.contents h (at + 1 + 1)) (byte_below i.contents h (at + 1 + 1 + 1))

-- ---- runs of bytes

bytes_split : (i : Interval) (at a n : ℕ) → bytes_at i at (a + n) ≡ bytes_at i at a ++ bytes_at i (at + a) n
bytes_split i at zero n =
    let all : zero + n ≡ n = omega arith in
    let place : at ≡ at + zero = omega arith in
    ap (λ k. bytes_at i at k) all ∙ ap (λ k. bytes_at i k n) place
bytes_split i at (suc a) n =
    let all : suc a + n ≡ suc (a + n) = omega arith in
    let place : at + 1 + a ≡ at + suc a = omega arith in
    ap (λ k. bytes_at i at k) all
    ∙ ap (λ l. byte_at i at ∷ l) (bytes_split i (at + 1) a n)
    ∙ ap (λ k. byte_at i at ∷ (bytes_at i (at + 1) a ++ bytes_at i k n)) place

words_same : (m : Module) (p : PatchTable) (i : Interval) (at n : ℕ) → HasBytes i → flat_map word_bytes (own_words m p i at n) ≡ bytes_at i at (4 * n)
words_same m p i at zero h = refl
words_same m p i at (suc n) h =
    let all : 4 + 4 * n ≡ 4 * suc n = omega arith in
    ap (λ l. l ++ flat_map word_bytes (own_words m p i (at + 4) n)) (word_same i at h)
    ∙ ap (λ l. bytes_at i at 4 ++ l) (words_same m p i (at + 4) n h)
    ∙ sym (bytes_split i at 4 (4 * n))
    ∙ ap (λ k. bytes_at i at k) all

-- ---- pieces

gap_same : (i : Interval) (from to : ℕ) (x : Bool) → (to - from == 0) ≡ x → flat_map old_piece_bytes (if x then [] else Gap (bytes_at i from (to - from)) ∷ []) ≡ bytes_at i from (to - from)
gap_same i from to true e = ap (λ k. bytes_at i from k) (sym (eqb-true (to - from) 0 e))
gap_same i from to false e = append-nil (bytes_at i from (to - from))

piece_same : (m : Module) (t : Tables) (p : PatchTable) (i : Interval) (b : Block) (x : Bool) → is_code b ≡ x → is_crooked b ≡ false → HasBytes i
    → old_piece_bytes (if x then CodePiece (code_block m p i b) else DataPiece (data_block m t p i b)) ≡ bytes_at i b.offset (size_of b)
piece_same m t p i b true e straight h =
    let whole = (straight_code b straight e).size in
    let all : 4 * (size_of b / 4) ≡ size_of b = omega (arith, whole) in
    words_same m p i b.offset (size_of b / 4) h ∙ ap (λ k. bytes_at i b.offset k) all
piece_same m t p i b false e straight h = refl

pieces_same : (m : Module) (t : Tables) (p : PatchTable) (i : Interval) (at : ℕ) (bs : List Block) → Behind at bs → Every (λ b. end_of b ≤ i.size) bs → Every (λ b. is_crooked b ≡ false) bs → HasBytes i
    → flat_map old_piece_bytes (pieces m t p i at bs) ≡ bytes_at i at (i.size - at)
pieces_same m t p i at [] behind inside straight h = gap_same i at i.size (i.size - at == 0) refl
pieces_same m t p i at (b ∷ bs) behind inside straight h =
    let rest : List ℕ = flat_map old_piece_bytes (pieces m t p i (end_of b) bs) in
    let start : at + (b.offset - at) ≡ b.offset = omega (arith, behind.0) in
    let sizes : b.offset - at + (size_of b + (i.size - end_of b)) ≡ i.size - at = omega (arith, behind.0, inside.0) in
    flat_map-append old_piece_bytes (gap i at b.offset) (piece m t p i b ∷ pieces m t p i (end_of b) bs)
    ∙ ap (λ l. l ++ (old_piece_bytes (piece m t p i b) ++ rest)) (gap_same i at b.offset (b.offset - at == 0) refl)
    ∙ ap (λ l. bytes_at i at (b.offset - at) ++ (l ++ rest)) (piece_same m t p i b (is_code b) refl straight.0 h)
    ∙ ap (λ l. bytes_at i at (b.offset - at) ++ (bytes_at i b.offset (size_of b) ++ l)) (pieces_same m t p i (end_of b) bs behind.1 inside.1 straight.1 h)
    ∙ ap (λ l. bytes_at i at (b.offset - at) ++ l) (sym (bytes_split i b.offset (size_of b) (i.size - end_of b)))
    ∙ ap (λ k. bytes_at i at (b.offset - at) ++ bytes_at i k (size_of b + (i.size - end_of b))) (sym start)
    ∙ sym (bytes_split i at (b.offset - at) (size_of b + (i.size - end_of b)))
    ∙ ap (λ k. bytes_at i at k) sizes

abbrev HasOlds : Module → Tables → PatchTable → Interval → Type 0
HasOlds m t p i = old_contents (stretch m t p i) ≡ bytes_at i 0 i.size

interval_same : (m : Module) (t : Tables) (p : PatchTable) (i : Interval) → IsSound t i × typed_interval i → HasOlds m t p i
interval_same m t p i h =
    let all : i.size - 0 ≡ i.size = omega arith in
    pieces_same m t p i 0 (in_order i.blocks) h.0.laid.behind h.0.laid.inside h.0.straight h.1.contents ∙ ap (λ k. bytes_at i 0 k) all

pub olds : (ir : Ir) (m : Module) (t : Tables) (p : PatchTable) → formed ir m t → Every (λ (i : Interval). old_contents (stretch m t p i) ≡ bytes_at i 0 i.size) (loaded_intervals m)
olds ir m t p h =
    every_weaker (λ i. IsSound t i × typed_interval i) (HasOlds m t p) (interval_same m t p) (loaded_intervals m)
    (every_both (IsSound t) typed_interval (loaded_intervals m) (all_sound ir m t h) (loaded_each typed_interval m (module_typed m (typed_of ir m t h))))
