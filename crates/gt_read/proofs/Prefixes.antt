-- The letters of the prefix, one after another.
use Rattle.std.proofs.Common.{◌≡◌, ◌<◌, ◌≤◌, ◌+◌, ℕ, Bool, true, false, cond, eqb, List, [], ◌∷◌, drop, length, get_or, Option, Some, None, refl, sym, ap, ◌∙◌, arith}
use Rattle.std.proofs.Math.Seq.{drop-length}
use Rattle.std.proofs.lemmas.List.{drop_more, drop_all}
use Rattle.std.proofs.lemmas.Bool.{eqb-true, ltb-false, lt-ltb, le-ltb}
use Rattle.std.specs.Prelude.{nat_lt, ◌++◌}
use Rattle.std.specs.Option.{option_map}
use Rattle.gt_read.specs.declared.fault.FormatFault.{FormatFault}
use Rattle.gt_read.specs.declared.fault.FormatFault.TheVariants.{Prefix}
use Rattle.gt_read.specs.File.{letters, differs_at, or_else, prefix_fault, version_byte, body_of}

first_differs : (c b : ℕ) (cs bs : List ℕ) (at : ℕ) → eqb b c ≡ false → differs_at (c ∷ cs) (b ∷ bs) at ≡ Some at
first_differs c b cs bs at e = ap (λ t. cond t (differs_at cs bs (at + 1)) (Some at)) e

first_same : (c b : ℕ) (cs bs : List ℕ) (at : ℕ) → eqb b c ≡ true → differs_at (c ∷ cs) (b ∷ bs) at ≡ differs_at cs bs (at + 1)
first_same c b cs bs at e = ap (λ t. cond t (differs_at cs bs (at + 1)) (Some at)) e

module _ (ls bs : List ℕ) (at : ℕ) (more : at < length ls) where
  pub cut : at ≡ length bs → differs_at (drop at ls) (drop at bs) at ≡ Some at
  cut e = ap (λ cs. differs_at cs (drop at bs) at) (drop_more ls at 0 more) ∙ ap (λ n. differs_at (get_or ls at 0 ∷ drop (at + 1) ls) (drop n bs) at) e
      ∙ ap (λ xs. differs_at (get_or ls at 0 ∷ drop (at + 1) ls) xs at) (drop-length bs)

  module _ (there : at < length bs) where
    both : differs_at (drop at ls) (drop at bs) at ≡ differs_at (get_or ls at 0 ∷ drop (at + 1) ls) (get_or bs at 0 ∷ drop (at + 1) bs) at
    both = λ i. differs_at (drop_more ls at 0 more i) (drop_more bs at 0 there i) at

    pub other : eqb (get_or bs at 0) (get_or ls at 0) ≡ false → differs_at (drop at ls) (drop at bs) at ≡ Some at
    other e = both ∙ first_differs (get_or ls at 0) (get_or bs at 0) (drop (at + 1) ls) (drop (at + 1) bs) at e

    pub further : eqb (get_or bs at 0) (get_or ls at 0) ≡ true → differs_at (drop (at + 1) ls) (drop (at + 1) bs) (at + 1) ≡ differs_at (drop at ls) (drop at bs) at
    further e = sym (both ∙ first_same (get_or ls at 0) (get_or bs at 0) (drop (at + 1) ls) (drop (at + 1) bs) at e)

pub ended : (ls bs : List ℕ) (at : ℕ) → length ls ≤ at → differs_at (drop at ls) (drop at bs) at ≡ None
ended ls bs at le = ap (λ cs. differs_at cs (drop at bs) at) (drop_all at ls le)

abbrev pub rest_fault : List ℕ → Option ℕ
rest_fault bytes = cond (nat_lt (length bytes) 8) (Some (length bytes)) None

pub found : (bytes : List ℕ) (at : ℕ) → differs_at letters bytes 0 ≡ Some at → Some (Prefix at) ≡ prefix_fault bytes
unfolding prefix_fault
found bytes at e = sym (ap (λ d. option_map Prefix (or_else d (rest_fault bytes))) e)

pub short : (bytes : List ℕ) → differs_at letters bytes 0 ≡ None → length bytes < 8 → Some (Prefix (length bytes)) ≡ prefix_fault bytes
unfolding prefix_fault
short bytes e lt = sym (ap (λ d. option_map Prefix (or_else d (rest_fault bytes))) e ∙ ap (λ t. option_map Prefix (cond t (Some (length bytes)) None)) (lt-ltb _ _ lt))

pub sound : (bytes : List ℕ) → differs_at letters bytes 0 ≡ None → 8 ≤ length bytes → ◌≡◌ {A = Option FormatFault} None (prefix_fault bytes)
unfolding prefix_fault
sound bytes e le = sym (ap (λ d. option_map Prefix (or_else d (rest_fault bytes))) e ∙ ap (λ t. option_map Prefix (cond t (Some (length bytes)) None)) (le-ltb _ _ le))

-- bytes with the letters, three more and the rest
pub record HasPrefix (bytes : List ℕ) : Type 0 where
  pub first : ℕ
  pub second : ℕ
  pub version : ℕ
  pub body : List ℕ
  pub whole : bytes ≡ letters ++ first ∷ second ∷ version ∷ body
  pub version_is : version_byte bytes ≡ version
  pub body_is : body_of bytes ≡ body
  pub long : 8 ≤ length bytes

letters_then : (ls bs : List ℕ) (at : ℕ) → differs_at ls bs at ≡ None → (rest : List ℕ) × (bs ≡ ls ++ rest)
letters_then [] bs at e = (bs, refl)
letters_then (c ∷ cs) [] at e = absurd cc
letters_then (c ∷ cs) (b ∷ bs) at e = by (letters_then cs bs (at + 1)) (eqb b c) refl
  where
    by : (differs_at cs bs (at + 1) ≡ None → (rest : List ℕ) × (bs ≡ cs ++ rest)) → (t : Bool) → eqb b c ≡ t → (rest : List ℕ) × (b ∷ bs ≡ c ∷ cs ++ rest)
    by more true is =
        let r = more (sym (first_same c b cs bs at is) ∙ e) in
        (r.0, λ i. eqb-true b c is i ∷ r.1 i)
    by more false is = let no : ◌≡◌ {A = Option ℕ} (Some at) None = sym (first_differs c b cs bs at is) ∙ e in absurd cc

three_more : (bytes rest : List ℕ) → bytes ≡ letters ++ rest → 8 ≤ length bytes → HasPrefix bytes
three_more bytes [] e le = let same : length bytes ≡ 5 = ap (λ (xs : List ℕ). length xs) e in absurd (omega arith)
three_more bytes (a ∷ []) e le = let same : length bytes ≡ 6 = ap (λ (xs : List ℕ). length xs) e in absurd (omega arith)
three_more bytes (a ∷ b ∷ []) e le = let same : length bytes ≡ 7 = ap (λ (xs : List ℕ). length xs) e in absurd (omega arith)
three_more bytes (a ∷ b ∷ v ∷ rest) e le = record {
  first = a;
  second = b;
  version = v;
  body = rest;
  whole = e;
  version_is = ap version_byte e;
  body_is = ap body_of e;
  long = le;
}

pub has_prefix : (bytes : List ℕ) → prefix_fault bytes ≡ None → HasPrefix bytes
unfolding prefix_fault
has_prefix bytes e = by (differs_at letters bytes 0) refl
  where
    by : (d : Option ℕ) → differs_at letters bytes 0 ≡ d → HasPrefix bytes
    by (Some at) is = let no : ◌≡◌ {A = Option FormatFault} (Some (Prefix at)) None = sym (ap (λ d. option_map Prefix (or_else d (rest_fault bytes))) is) ∙ e in absurd cc
    by None is = long (nat_lt (length bytes) 8) refl
      where
        long : (t : Bool) → nat_lt (length bytes) 8 ≡ t → HasPrefix bytes
        long true at =
            let no : ◌≡◌ {A = Option FormatFault} (Some (Prefix (length bytes))) None =
            sym (ap (λ d. option_map Prefix (or_else d (rest_fault bytes))) is ∙ ap (λ t. option_map Prefix (cond t (Some (length bytes)) None)) at) ∙ e in absurd cc
        long false at = let r = letters_then letters bytes 0 is in three_more bytes r.0 r.1 (ltb-false _ _ at)
