-- The bytes of items, and how many there are.
use Rattle.std.proofs.Common.{◌≡◌, ℕ, zero, suc, ◌+◌, ◌/◌, ◌%◌, ◌^◌, ◌≤◌, cond, Option, Some, None, IsSome, Result, Ok, Err, OnOk, List, [], ◌∷◌, ◌++◌, length, take, sum_by, refl, sym, ap, subst, ◌∙◌, inl, inr, arith}
use Rattle.std.specs.Int.{byte_at, bytes_low_first}
use Rattle.std.specs.Option.{option_or}
use Rattle.std.specs.List.{cons_option}
use Rattle.std.specs.Result.{is_ok}
use Rattle.std.proofs.Math.Nat.{div-div-eq-div-mul, div-one, pow-suc}
use Rattle.std.proofs.lemmas.List.{length-append, length-replicate}
use Rattle.std.proofs.lemmas.List.Sums.{sum_by-cons}
use Rattle.asm_lines.specs.declared.line.AsmItem.{AsmItem}
use Rattle.asm_lines.specs.declared.line.AsmItem.TheVariants as items
use Rattle.asm_modules.specs.declared.module.AsmLabel.{AsmLabel}
use Rattle.asm_modules.specs.Places.{item_size}
use Rattle.asm_modules.specs.Valid.{IsEntry}
use Rattle.sym_expr.specs.declared.layout.Layout.{Layout}
use Rattle.sym_expr.specs.declared.link_fault.LinkFault.{LinkFault}
use Rattle.sym_expr.specs.Differences.{difference_form}
use Rattle.sym_expr.specs.Images.{bytes_of, first_fault, fit_or}
use Rattle.asm_link.specs.Linked.{bytes_with, item_bytes, items_bytes}
use Rattle.asm_link.specs.Values.{item_value}

-- ---- numbers as bytes

byte_low : (i n : ℕ) → n / 256 ^ i % 256 ≡ byte_at i n
byte_low zero n = ap (λ m. m % 256) (div-one n)
byte_low (suc i) n = refl

bytes_from_low : (k i n : ℕ) → bytes_of k (n / 256 ^ i) ≡ bytes_low_first i k n
bytes_from_low zero i n = refl
bytes_from_low (suc k) i n =
    ap (λ b. b ∷ bytes_of k (n / 256 ^ i / 256)) (byte_low i n)
    ∙ ap (λ m. byte_at i n ∷ bytes_of k m) (div-div-eq-div-mul n (256 ^ i) 256 ∙ ap (λ d. n / d) (sym (pow-suc 256 i)))
    ∙ ap (λ bs. byte_at i n ∷ bs) (bytes_from_low k (suc i) n)

bytes_low : (k n : ℕ) → bytes_of k n ≡ bytes_low_first 0 k n
bytes_low k n = ap (bytes_of k) (sym (div-one n)) ∙ bytes_from_low k 0 n

take_low : (k i m n : ℕ) → k ≤ m → take k (bytes_low_first i m n) ≡ bytes_low_first i k n
take_low zero i m n le = refl
take_low (suc k) i zero n le = absurd (omega arith)
take_low (suc k) i (suc m) n le = ap (λ bs. byte_at i n ∷ bs) (take_low k (suc i) m n (omega arith))

-- the low bytes of a number of eight
pub low_bytes : (size n : ℕ) → size ≤ 8 → take size (bytes_low_first 0 8 n) ≡ bytes_of size n
low_bytes size n le = take_low size 0 8 n le ∙ sym (bytes_low size n)

length-bytes_of : (k n : ℕ) → length (bytes_of k n) ≡ k
length-bytes_of zero n = refl
length-bytes_of (suc k) n = ap suc (length-bytes_of k (n / 256))

-- ---- entries of tables

pub entry_size : (size scale : ℕ) → IsEntry size scale → size ≤ 8
entry_size size scale (inl ((inl e), s)) = omega arith
entry_size size scale (inl ((inr e), s)) = omega arith
entry_size size scale (inr (e, s)) = omega arith

form_is : (size scale m n : ℕ) → size ≡ m → scale ≡ n → IsSome (difference_form m n) → IsSome (difference_form size scale)
form_is size scale m n a b some = subst (λ k. IsSome (difference_form k scale)) (sym a) (subst (λ k. IsSome (difference_form m k)) (sym b) some)

-- an entry has a form
pub entry_form : (size scale : ℕ) → IsEntry size scale → IsSome (difference_form size scale)
entry_form size scale (inl ((inl a), (inl b))) = form_is size scale 1 1 a b refl
entry_form size scale (inl ((inl a), (inr b))) = form_is size scale 1 4 a b refl
entry_form size scale (inl ((inr a), (inl b))) = form_is size scale 2 1 a b refl
entry_form size scale (inl ((inr a), (inr b))) = form_is size scale 2 4 a b refl
entry_form size scale (inr (a, b)) = form_is size scale 4 4 a b refl

-- ---- how many bytes there are

length-with : (item : AsmItem) (value : ℕ) → length (bytes_with item value) ≡ item_size item
length-with (items.Bytes bytes) value = refl
length-with (items.Zero count) value = length-replicate count 0
length-with (items.Quad e) value = length-bytes_of 8 value
length-with (items.QuadDiff first second offset) value = length-bytes_of 8 value
length-with (items.WordDiff first second offset) value = length-bytes_of 4 value
length-with (items.Entry size scale first second) value = length-bytes_of size value
length-with (items.Word word target) value = length-bytes_of 4 value

pub length-items : (l : Layout) (labels : List AsmLabel) (at : ℕ) (xs : List AsmItem) → length (items_bytes l labels at xs) ≡ sum_by item_size xs
length-items l labels at [] = refl
length-items l labels at (x ∷ xs) =
    omega (arith, length-append (item_bytes l labels at x) (items_bytes l labels (at + item_size x) xs), length-with x (fit_or 0 (item_value l labels at x)), length-items l labels (at + item_size x) xs, sum_by-cons item_size x xs)

-- ---- the first fault

pub first_fault-option : (o : Option LinkFault) (rest : List LinkFault) → first_fault (cons_option o rest) ≡ option_or o (first_fault rest)
first_fault-option None rest = refl
first_fault-option (Some f) rest = refl

pub first_fault-append : (xs ys : List LinkFault) → first_fault (xs ++ ys) ≡ option_or (first_fault xs) (first_fault ys)
first_fault-append [] ys = refl
first_fault-append (x ∷ xs) ys = refl

-- bytes that a call adds where it is Ok
pub added : {T E : Type 0} (r : Result T E) (new out bytes wanted : List ℕ) → new ≡ cond (is_ok r) (out ++ bytes) out → bytes ≡ wanted → OnOk r (new ≡ out ++ wanted)
added (Ok x) new out bytes wanted e same = e ∙ ap (λ bs. out ++ bs) same
added (Err f) new out bytes wanted e same = tt
