-- Whether a word is a name.
use Rattle.std.proofs.Common.{◌≡◌, ℕ, zero, suc, ◌<◌, Bool, true, false, List, [], ◌∷◌, ◌++◌, refl, sym, ap, subst, ◌∙◌, inl, inr, arith, ◌≤◌, length, ◌+◌, ◌==◌, cond, length-append}
use Rattle.std.specs.List.{list_all, flat_map}
use Rattle.std.proofs.lemmas.Bool.{cases_eq}
use Rattle.asm_lines.specs.declared.run.Class.TheVariants.{Bare}
use Rattle.asm_lines.specs.Labels.{IsBare, IsName, begins_bare, belongs, escaped, quoted}
use Rattle.asm_lines.proofs.Decisions.{Decided, as_well, both_decided, passes, same_word}
use Rattle.asm_lines.proofs.Escapes.{itself, no_code, not_itself, nothing_written, one_escaped, other_code}
use Rattle.asm_lines.proofs.Searches.{either_with, headed, split_with}

-- ---- names between quotes

-- the first byte that is written, and what stands behind it
abbrev Written : List ℕ → Type 0
Written text = (b : ℕ) × (behind : List ℕ) × (text ≡ escaped b ++ behind)

some_length : (b : ℕ) (f g h : Bool) → 0 < length (cond f (92 ∷ 34 ∷ []) (cond g (92 ∷ 92 ∷ []) (cond h (92 ∷ 110 ∷ []) (b ∷ []))))
some_length b true g h = omega arith
some_length b false true h = omega arith
some_length b false false true = omega arith
some_length b false false false = omega arith

shorter : (b : ℕ) (text behind : List ℕ) → text ≡ escaped b ++ behind → length behind < length text
shorter b text behind e =
    let whole : length text ≡ length (escaped b) + length behind = ap (λ (l : List ℕ). length l) e ∙ length-append (escaped b) behind in
    let some : 0 < length (escaped b) = some_length b (b == 34) (b == 92) (b == 10) in
    omega arith

coded : (c d : ℕ) (rest : List ℕ) → c ≡ 92 → Decided (Written (c ∷ d ∷ rest))
coded c d rest slash =
    elim (cases_eq d 110) [
      | inl e ↦ inl (10, rest, whole 110 e)
      | inr n ↦ elim (cases_eq d 34) [
        | inl e ↦ inl (34, rest, whole 34 e)
        | inr q ↦ elim (cases_eq d 92) [
          | inl e ↦ inl (92, rest, whole 92 e)
          | inr s ↦ inr (λ x. other_code (d ∷ rest) rest d refl n q s x.0 x.1 (sym (ap (λ (b : ℕ). b ∷ d ∷ rest) slash) ∙ x.2))
        ]
      ]
    ]
  where
    whole : (code : ℕ) → d ≡ code → c ∷ d ∷ rest ≡ 92 ∷ code ∷ rest
    whole code e = ap (λ (b : ℕ). b ∷ d ∷ rest) slash ∙ ap (λ (b : ℕ). 92 ∷ b ∷ rest) e

written : (text : List ℕ) → Decided (Written text)
written [] = inr (λ x. nothing_written [] refl x.0 x.1 x.2)
written (c ∷ rest) =
    elim (cases_eq c 92) [
      | inl slash ↦ behind_slash rest slash
      | inr s ↦ elim (cases_eq c 34) [
        | inl q ↦ inr (λ x. not_itself (c ∷ rest) rest c refl s (inl q) x.0 x.1 x.2)
        | inr q ↦ elim (cases_eq c 10) [
          | inl n ↦ inr (λ x. not_itself (c ∷ rest) rest c refl s (inr n) x.0 x.1 x.2)
          | inr n ↦ inl (c, rest, itself (c ∷ rest) rest c refl q s n)
        ]
      ]
    ]
  where
    behind_slash : (rest : List ℕ) → c ≡ 92 → Decided (Written (c ∷ rest))
    behind_slash [] slash = inr (λ x. no_code [] refl x.0 x.1 (sym (ap (λ (b : ℕ). b ∷ []) slash) ∙ x.2))
    behind_slash (d ∷ more) slash = coded c d more slash

abbrev IsWrittenAs : (List ℕ → Type 0) → List ℕ → Type 0
IsWrittenAs P text = (name : List ℕ) × (text ≡ flat_map escaped name) × P name

nothing_more : (P : List ℕ → Type 0) → ((name : List ℕ) → Decided (P name)) → (text : List ℕ) → length text ≡ 0 → Decided (IsWrittenAs P text)
nothing_more P decide [] e = as_well (λ p. ([], refl, p)) back (decide []) where
  back : IsWrittenAs P [] → P []
  back ([], is, p) = p
  back (b ∷ name, is, p) = absurd (nothing_written [] refl b (flat_map escaped name) is)
nothing_more P decide (c ∷ text) e = absurd (omega (arith, e))

written_within : (n : ℕ) (P : List ℕ → Type 0) → ((name : List ℕ) → Decided (P name)) → (text : List ℕ) → length text ≤ n → Decided (IsWrittenAs P text)
written_within zero P decide text le = nothing_more P decide text (omega arith)
written_within (suc n) P decide [] le = nothing_more P decide [] refl
written_within (suc n) P decide (c ∷ text) le =
    elim (written (c ∷ text)) [
      | inl x ↦
          let less = shorter x.0 (c ∷ text) x.1 x.2 in
          as_well (longer x) (shorten x) (written_within n (λ name. P (x.0 ∷ name)) (λ name. decide (x.0 ∷ name)) x.1 (omega arith))
      | inr none ↦ inr (λ y. refuse none y.0 y.1)
    ]
  where
    longer : (x : Written (c ∷ text)) → IsWrittenAs (λ name. P (x.0 ∷ name)) x.1 → IsWrittenAs P (c ∷ text)
    longer x y = (x.0 ∷ y.0, x.2 ∙ ap (λ (l : List ℕ). escaped x.0 ++ l) y.1, y.2)

    fits : (x : Written (c ∷ text)) (name : List ℕ) → c ∷ text ≡ flat_map escaped name → P name → IsWrittenAs (λ name. P (x.0 ∷ name)) x.1
    fits x [] is p = absurd cc
    fits x (b ∷ name) is p =
        let one = one_escaped b x.0 (flat_map escaped name) x.1 (sym is ∙ x.2) in
        (name, sym one.1, subst (λ (m : ℕ). P (m ∷ name)) one.0 p)

    shorten : (x : Written (c ∷ text)) → IsWrittenAs P (c ∷ text) → IsWrittenAs (λ name. P (x.0 ∷ name)) x.1
    shorten x y = fits x y.0 y.1 y.2

    refuse : (Written (c ∷ text) → ⊥) → (name : List ℕ) → c ∷ text ≡ flat_map escaped name → ⊥
    refuse none [] is = cc
    refuse none (b ∷ name) is = none (b, flat_map escaped name, is)

written_with : (P : List ℕ → Type 0) → ((name : List ℕ) → Decided (P name)) → (text : List ℕ) → Decided (IsWrittenAs P text)
written_with P decide text = written_within (length text) P decide text (omega arith)

-- ---- names

bare : (word : List ℕ) → Decided (IsBare word)
bare [] = inr (λ h. h)
bare (b ∷ bytes) = both_decided (passes (begins_bare b)) (passes (list_all (λ c. belongs Bare c) bytes))

module _ (P : List ℕ → Type 0) (decide : (name : List ℕ) → Decided (P name)) where
  bare_with : (word : List ℕ) → Decided ((name : List ℕ) × (IsBare word × (word ≡ name)) × P name)
  bare_with word = as_well (λ x. (word, (x.0, refl), x.1)) (λ x. (x.1.0, subst P (sym x.1.1) x.2)) (both_decided (bare word) (decide word))

  abbrev Closed : List ℕ → Type 0
  Closed text = (front : List ℕ) × (rest : List ℕ) × (text ≡ front ++ rest) × ((rest ≡ 34 ∷ []) × IsWrittenAs P front)

  closed_with : (text : List ℕ) → Decided (Closed text)
  closed_with = split_with (λ front rest. (rest ≡ 34 ∷ []) × IsWrittenAs P front) (λ front rest. both_decided (same_word rest (34 ∷ [])) (written_with P decide front))

  quoted_with : (word : List ℕ) → Decided ((name : List ℕ) × (word ≡ quoted name) × P name)
  quoted_with word = as_well to back (headed 34 Closed closed_with word) where
    to : (text : List ℕ) × (word ≡ 34 ∷ text) × Closed text → (name : List ℕ) × (word ≡ quoted name) × P name
    to (text, whole, (front, rest, parts, (last, (name, is, holds)))) =
        let inside : text ≡ flat_map escaped name ++ 34 ∷ [] = parts ∙ ap (λ (l : List ℕ). l ++ rest) is ∙ ap (λ (l : List ℕ). flat_map escaped name ++ l) last in
        (name, whole ∙ ap (λ (l : List ℕ). 34 ∷ l) inside, holds)

    back : (name : List ℕ) × (word ≡ quoted name) × P name → (text : List ℕ) × (word ≡ 34 ∷ text) × Closed text
    back (name, e, holds) = (flat_map escaped name ++ 34 ∷ [], e, (flat_map escaped name, 34 ∷ [], refl, (refl, (name, refl, holds))))

  -- a name that the word is, with a property that is decided of each
  pub name_with : (word : List ℕ) → Decided ((name : List ℕ) × IsName word name × P name)
  name_with word = either_with (λ name. IsBare word × (word ≡ name)) (λ name. word ≡ quoted name) P (bare_with word) (quoted_with word)
