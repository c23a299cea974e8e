-- Numbers as bytes, bytes with others over them, and the first of several faults.
use Rattle.std.proofs.Common.{◌≡◌, ℕ, zero, suc, ◌+◌, ◌-◌, ◌/◌, ◌%◌, ◌^◌, ◌<◌, ◌≤◌, eqb, Option, Some, None, IsSome, IfNone, get_or, List, [], ◌∷◌, ◌++◌, length, take, drop, find, refl, sym, ap, subst, ◌∙◌, inl, inr, append_assoc, arith, lit≤}
use Rattle.std.specs.Option.{option_or}
use Rattle.std.specs.List.{AllByRecursion, cons_option, filter_map}
use Rattle.std.specs.Int.{byte_at, bytes_low_first}
use Rattle.std.proofs.Math.Nat.{div-div-eq-div-mul, div-one, pow-suc}
use Rattle.std.proofs.lemmas.Bool.{and_parts, cases_Bool, cond-false, eqb-true}
use Rattle.std.proofs.lemmas.List.{append-nil, drop-drop, drop_all, take_all, length-append, length-take, length-drop}
use borrow.Rule.Slice.PartMut.{put_mid}
use Rattle.sym_expr.specs.declared.difference.DifferenceForm.{DifferenceForm}
use Rattle.sym_expr.specs.declared.difference.TheConstants.{DIFFERENCE_FORMS}
use Rattle.sym_expr.specs.declared.layout.Layout.{Layout}
use Rattle.sym_expr.specs.declared.link_fault.LinkFault.{LinkFault}
use Rattle.sym_expr.specs.declared.program.Filling.{Filling}
use Rattle.sym_expr.specs.declared.program.Filling.TheVariants.{Pointer, Difference, Entry}
use Rattle.sym_expr.specs.declared.program.Program.{Program}
use Rattle.sym_expr.specs.Differences.{has}
use Rattle.sym_expr.specs.Images.{bytes_of, filling_size, filling_value, first_fault, fit_or, overlaid, with_fillings}
use Rattle.sym_expr.specs.WellMade.{IsFilling}
use Rattle.link_image.proofs.Lists.{split_before}

-- ---- numbers as bytes

byte_low : (i n : ℕ) → n / 256 ^ i % 256 ≡ byte_at i n
byte_low zero n = ap (λ m. m % 256) (div-one n)
byte_low (suc i) n = refl

bytes_from_low : (k i n : ℕ) → bytes_of k (n / 256 ^ i) ≡ bytes_low_first i k n
bytes_from_low zero i n = refl
bytes_from_low (suc k) i n =
    ap (λ b. b ∷ bytes_of k (n / 256 ^ i / 256)) (byte_low i n)
    ∙ ap (λ m. byte_at i n ∷ bytes_of k m) (div-div-eq-div-mul n (256 ^ i) 256 ∙ ap (λ d. n / d) (sym (pow-suc 256 i)))
    ∙ ap (λ bs. byte_at i n ∷ bs) (bytes_from_low k (suc i) n)

bytes_low : (k n : ℕ) → bytes_of k n ≡ bytes_low_first 0 k n
bytes_low k n = ap (bytes_of k) (sym (div-one n)) ∙ bytes_from_low k 0 n

take_low : (k i m n : ℕ) → k ≤ m → take k (bytes_low_first i m n) ≡ bytes_low_first i k n
take_low zero i m n le = refl
take_low (suc k) i zero n le = absurd (omega arith)
take_low (suc k) i (suc m) n le = ap (λ bs. byte_at i n ∷ bs) (take_low k (suc i) m n (omega arith))

-- the low bytes of a number of eight
pub low_bytes : (size n : ℕ) → size ≤ 8 → take size (bytes_low_first 0 8 n) ≡ bytes_of size n
low_bytes size n le = take_low size 0 8 n le ∙ sym (bytes_low size n)

pub length-bytes_of : (k n : ℕ) → length (bytes_of k n) ≡ k
length-bytes_of zero n = refl
length-bytes_of (suc k) n = ap suc (length-bytes_of k (n / 256))

-- ---- bytes over others

pub length-overlaid : (at : ℕ) (new bytes : List ℕ) → at + length new ≤ length bytes → length (overlaid at new bytes) ≡ length bytes
length-overlaid at new bytes le =
    omega (arith, length-append (take at bytes ++ new) (drop (at + length new) bytes), length-append (take at bytes) new, length-take at bytes, length-drop (at + length new) bytes)

pub overlaid-put : (at size n : ℕ) (xs ys : List ℕ) → ys ≡ bytes_of size n → put_mid at (at + size - at) xs ys ≡ overlaid at (bytes_of size n) xs
overlaid-put at size n xs ys is =
    let k : at + size - at ≡ size = omega arith in
    ap (λ m. put_mid at m xs ys) k
    ∙ ap (put_mid at size xs) is
    ∙ ap (λ l. take at xs ++ (bytes_of size n ++ l)) (drop-drop size at xs ∙ ap (λ m. drop (at + m) xs) (sym (length-bytes_of size n)))
    ∙ sym (append_assoc (take at xs) (bytes_of size n) (drop (at + length (bytes_of size n)) xs))

-- ---- the sizes of fillings

form_most : (size scale : ℕ) (forms : List DifferenceForm) → AllByRecursion (λ (f : DifferenceForm). f.size ≤ 8) forms → IsSome (find (has size scale) forms) → size ≤ 8
form_most size scale [] all some = cc
form_most size scale (f ∷ fs) all some =
    elim (cases_Bool (has size scale f)) [
      | inl is ↦ subst (λ n. n ≤ 8) (eqb-true f.size size (and_parts (eqb f.size size) (eqb f.scale scale) is).0) all.0
      | inr not_is ↦ form_most size scale fs all.1 (subst IsSome (cond-false (has size scale f) (Some f) (find (has size scale) fs) not_is) some)
    ]

forms_most : AllByRecursion (λ (f : DifferenceForm). f.size ≤ 8) DIFFERENCE_FORMS
forms_most = (lit≤ tt, (lit≤ tt, (lit≤ tt, (lit≤ tt, (lit≤ tt, (lit≤ tt, (lit≤ tt, tt)))))))

pub filling_most : (g : Program) (f : Filling) → IsFilling g f → filling_size f ≤ 8
filling_most g (Pointer target) is = lit≤ tt
filling_most g (Difference size p q) is = form_most size 1 DIFFERENCE_FORMS forms_most is.0
filling_most g (Entry size scale p q) is = form_most size scale DIFFERENCE_FORMS forms_most is.0

-- ---- the first fault

pub first_fault-option : (o : Option LinkFault) (rest : List LinkFault) → first_fault (cons_option o rest) ≡ option_or o (first_fault rest)
first_fault-option None rest = refl
first_fault-option (Some f) rest = refl

pub first_fault-append : (xs ys : List LinkFault) → first_fault (xs ++ ys) ≡ option_or (first_fault xs) (first_fault ys)
first_fault-append [] ys = refl
first_fault-append (x ∷ xs) ys = refl

-- ---- fillings from the last on

pub written : (n : ℕ) (new old : List ℕ) → n ≡ length old → length new ≡ length old → take n (new ++ drop (length new) old) ≡ new
written n new old all same =
    ap (λ l. take n (new ++ l)) (drop_all (length new) old (omega arith)) ∙ ap (take n) (append-nil new) ∙ take_all n new (omega arith)

none_both : (o first : Option LinkFault) → option_or o first ≡ None → (o ≡ None) × (first ≡ None)
none_both None first e = (refl, e)
none_both (Some f) first e = cc

if_none : {P : Type 0} (o : Option LinkFault) → o ≡ None → IfNone o P → P
if_none None e h = h
if_none (Some f) e h = cc

module _ (ff : ℕ × Filling → Option LinkFault) (fs : List (ℕ × Filling)) (left : ℕ) (x : ℕ × Filling) (o first : Option LinkFault) where
  pub fault_before : 0 < left → left ≤ length fs → x ≡ get_or fs (left - 1) x → o ≡ ff x → first ≡ first_fault (filter_map ff (drop left fs))
      → option_or o first ≡ first_fault (filter_map ff (drop (left - 1) fs))
  fault_before some within is here behind =
      ap (λ p. option_or p first) here ∙ ap (option_or (ff x)) behind ∙ sym (first_fault-option (ff x) (filter_map ff (drop left fs)))
      ∙ sym (ap (λ gs. first_fault (filter_map ff gs)) (split_before fs left x some within is))

  pub bytes_before : (l : Layout) (g : Program) (old new base : List ℕ) → 0 < left → left ≤ length fs → x ≡ get_or fs (left - 1) x
      → IfNone o (new ≡ overlaid x.0 (bytes_of (filling_size x.1) (fit_or 0 (filling_value l g x.1))) old)
      → (first ≡ None → old ≡ with_fillings l g (drop left fs) base) → option_or o first ≡ None → new ≡ with_fillings l g (drop (left - 1) fs) base
  bytes_before l g old new base some within is wrote behind none =
      let both = none_both o first none in
      if_none o both.0 wrote ∙ ap (overlaid x.0 (bytes_of (filling_size x.1) (fit_or 0 (filling_value l g x.1)))) (behind both.1)
      ∙ sym (ap (λ gs. with_fillings l g gs base) (split_before fs left x some within is))
