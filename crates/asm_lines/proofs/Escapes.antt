-- Bytes as they are written between quotes.
use Rattle.std.proofs.Common.{◌≡◌, ◌≢◌, ◌⊎◌, ℕ, ◌==◌, Bool, true, false, cond, List, [], ◌∷◌, ◌++◌, length, Option, Some, None, refl, sym, ap, subst, ◌∙◌, append_assoc, inl, inr, arith}
use Rattle.std.specs.List.{flat_map}
use Rattle.std.proofs.lemmas.Bool.{ne_eqb}
use Rattle.std.proofs.lemmas.Bool.Decides.{Decides-eqb}
use Rattle.std.proofs.lemmas.List.{append-nil}
use Rattle.asm_lines.specs.Labels.{escaped}

pub heads : (a b : ℕ) (xs ys : List ℕ) → a ∷ xs ≡ b ∷ ys → a ≡ b
heads a b xs ys e = cc

pub tails : (a b : ℕ) (xs ys : List ℕ) → a ∷ xs ≡ b ∷ ys → xs ≡ ys
tails a b xs ys e = cc

bool_cases : (g : Bool) → (g ≡ true) ⊎ (g ≡ false)
bool_cases true = inl refl
bool_cases false = inr refl

unequal : (a b : ℕ) → (a == b) ≡ false → a ≢ b
unequal a b e same = let t = (Decides-eqb a b).1 same in cc

abbrev Plain : ℕ → Type 0
Plain b = (b ≢ 34) × (b ≢ 92) × (b ≢ 10)

abbrev View : ℕ → Type 0
View b = (b ≡ 34) ⊎ ((b ≡ 92) ⊎ ((b ≡ 10) ⊎ Plain b))

view : (b : ℕ) → View b
view b = elim (bool_cases (b == 34)) [
  | inl e ↦ inl ((Decides-eqb b 34).0 e)
  | inr e ↦ elim (bool_cases (b == 92)) [
    | inl f ↦ inr (inl ((Decides-eqb b 92).0 f))
    | inr f ↦ elim (bool_cases (b == 10)) [
      | inl g ↦ inr (inr (inl ((Decides-eqb b 10).0 g)))
      | inr g ↦ inr (inr (inr (unequal b 34 e, unequal b 92 f, unequal b 10 g)))
    ]
  ]
]

escaped_by : (b : ℕ) (f g h : Bool) → f ≡ false → g ≡ false → h ≡ false → cond f (92 ∷ 34 ∷ []) (cond g (92 ∷ 92 ∷ []) (cond h (92 ∷ 110 ∷ []) (b ∷ []))) ≡ b ∷ []
escaped_by b true g h e k l = cc
escaped_by b false true h e k l = cc
escaped_by b false false true e k l = cc
escaped_by b false false false e k l = refl

pub plain : (b : ℕ) → b ≢ 34 → b ≢ 92 → b ≢ 10 → escaped b ≡ b ∷ []
plain b e f g = escaped_by b (b == 34) (b == 92) (b == 10) (ne_eqb b 34 e) (ne_eqb b 92 f) (ne_eqb b 10 g)

-- what a written byte is, and what stands behind it
abbrev behind_backslash : List ℕ → Option (ℕ × List ℕ)
behind_backslash [] = None
behind_backslash (c ∷ rest) = Some (cond (c == 110) 10 c, rest)

abbrev decoded : List ℕ → Option (ℕ × List ℕ)
decoded [] = None
decoded (c ∷ rest) = cond (c == 92) (behind_backslash rest) (Some (c, rest))

own : (b : ℕ) (x : List ℕ) (g : Bool) → g ≡ false → cond g (behind_backslash x) (Some (b, x)) ≡ Some (b, x)
own b x true e = cc
own b x false e = refl

decodes : (b : ℕ) (x : List ℕ) → decoded (escaped b ++ x) ≡ Some (b, x)
decodes b x = elim (view b) [
  | inl e ↦ subst (λ (n : ℕ). decoded (escaped n ++ x) ≡ Some (n, x)) (sym e) refl
  | inr v ↦ elim v [
    | inl e ↦ subst (λ (n : ℕ). decoded (escaped n ++ x) ≡ Some (n, x)) (sym e) refl
    | inr w ↦ elim w [
      | inl e ↦ subst (λ (n : ℕ). decoded (escaped n ++ x) ≡ Some (n, x)) (sym e) refl
      | inr p ↦ ap (λ (t : List ℕ). decoded (t ++ x)) (plain b p.0 p.1 p.2) ∙ own b x (b == 92) (ne_eqb b 92 p.1)
    ]
  ]
]

pairs : (p q : ℕ × List ℕ) → Some p ≡ Some q → p ≡ q
pairs p q e = cc

pub one_escaped : (a b : ℕ) (x y : List ℕ) → escaped a ++ x ≡ escaped b ++ y → (a ≡ b) × (x ≡ y)
one_escaped a b x y e =
    let same : (a, x) ≡ (b, y) = pairs (a, x) (b, y) (sym (decodes a x) ∙ ap decoded e ∙ decodes b y) in
    (ap (λ (p : ℕ × List ℕ). p.0) same, ap (λ (p : ℕ × List ℕ). p.1) same)

none_is : (p : ℕ × List ℕ) → None ≡ Some p → ⊥
none_is p e = cc

pub nothing_written : (text : List ℕ) → length text ≡ 0 → (b : ℕ) (behind : List ℕ) → text ≡ escaped b ++ behind → ⊥
nothing_written [] e b behind is = none_is (b, behind) (ap decoded is ∙ decodes b behind)
nothing_written (c ∷ text) e b behind is = absurd (omega (arith, e))

pub no_code : (text : List ℕ) → length text ≡ 0 → (b : ℕ) (behind : List ℕ) → 92 ∷ text ≡ escaped b ++ behind → ⊥
no_code [] e b behind is = none_is (b, behind) (ap decoded is ∙ decodes b behind)
no_code (c ∷ text) e b behind is = absurd (omega (arith, e))

-- a backslash before another byte writes none
pub other_code : (text rest : List ℕ) (code : ℕ) → text ≡ code ∷ rest → code ≢ 110 → code ≢ 34 → code ≢ 92 → (b : ℕ) (behind : List ℕ) → 92 ∷ text ≡ escaped b ++ behind → ⊥
other_code text rest code e n q s b behind is =
    let whole : 92 ∷ code ∷ rest ≡ escaped b ++ behind = ap (λ (t : List ℕ). 92 ∷ t) (sym e) ∙ is in
    elim (view b) [
      | inl v ↦ q (second 34 (whole ∙ ap (λ (n : ℕ). escaped n ++ behind) v))
      | inr w ↦ elim w [
        | inl v ↦ s (second 92 (whole ∙ ap (λ (n : ℕ). escaped n ++ behind) v))
        | inr x ↦ elim x [
          | inl v ↦ n (second 110 (whole ∙ ap (λ (n : ℕ). escaped n ++ behind) v))
          | inr p ↦ p.1 (sym (heads 92 b (code ∷ rest) behind (whole ∙ ap (λ (t : List ℕ). t ++ behind) (plain b p.0 p.1 p.2))))
        ]
      ]
    ]
  where
    second : (d : ℕ) → 92 ∷ code ∷ rest ≡ 92 ∷ d ∷ behind → code ≡ d
    second d f = heads code d rest behind (tails 92 92 (code ∷ rest) (d ∷ behind) f)

-- neither a quote nor the end of a line is written as itself
pub not_itself : (text rest : List ℕ) (first : ℕ) → text ≡ first ∷ rest → first ≢ 92 → ((first ≡ 34) ⊎ (first ≡ 10)) → (b : ℕ) (behind : List ℕ) → text ≡ escaped b ++ behind → ⊥
not_itself text rest first e s q b behind is =
    let whole : first ∷ rest ≡ escaped b ++ behind = sym e ∙ is in
    elim (view b) [
      | inl v ↦ s (heads first 92 rest (34 ∷ behind) (whole ∙ ap (λ (n : ℕ). escaped n ++ behind) v))
      | inr w ↦ elim w [
        | inl v ↦ s (heads first 92 rest (92 ∷ behind) (whole ∙ ap (λ (n : ℕ). escaped n ++ behind) v))
        | inr x ↦ elim x [
          | inl v ↦ s (heads first 92 rest (110 ∷ behind) (whole ∙ ap (λ (n : ℕ). escaped n ++ behind) v))
          | inr p ↦
              let same : first ≡ b = heads first b rest behind (whole ∙ ap (λ (t : List ℕ). t ++ behind) (plain b p.0 p.1 p.2)) in
              elim q [ inl f ↦ p.0 (sym same ∙ f) | inr f ↦ p.2 (sym same ∙ f) ]
        ]
      ]
    ]

pub itself : (text rest : List ℕ) (first : ℕ) → text ≡ first ∷ rest → first ≢ 34 → first ≢ 92 → first ≢ 10 → text ≡ escaped first ++ rest
itself text rest first e q s n = e ∙ ap (λ (t : List ℕ). t ++ rest) (sym (plain first q s n))

-- ---- whole names

no_quote : (d : ℕ) (r y : List ℕ) → escaped d ++ r ≡ 34 ∷ y → ⊥
no_quote d r y e = not_itself (34 ∷ y) y 34 refl (λ f. absurd (omega (arith, f))) (inl refl) d r (sym e)

-- what was read of a name is its front
pub follows : (done more x y : List ℕ) → flat_map escaped done ++ x ≡ flat_map escaped more ++ 34 ∷ y → (later : List ℕ) × (more ≡ done ++ later) × (x ≡ flat_map escaped later ++ 34 ∷ y)
follows [] more x y e = (more, refl, e)
follows (d ∷ done) [] x y e = absurd (no_quote d (flat_map escaped done ++ x) y (sym (append_assoc (escaped d) (flat_map escaped done) x) ∙ e))
follows (d ∷ done) (m ∷ more) x y e =
    let left = append_assoc (escaped d) (flat_map escaped done) x in
    let right = append_assoc (escaped m) (flat_map escaped more) (34 ∷ y) in
    let one = one_escaped d m (flat_map escaped done ++ x) (flat_map escaped more ++ 34 ∷ y) (sym left ∙ e ∙ right) in
    let rest = follows done more x y one.1 in
    (rest.0, ap (λ (n : ℕ). n ∷ more) (sym one.0) ∙ ap (λ (t : List ℕ). d ∷ t) rest.1, rest.2)

-- so far these bytes were read into the name
abbrev pub AreRead : (before name text rest : List ℕ) → Type 0
AreRead before name text rest = (done : List ℕ) × (name ≡ before ++ done) × (text ≡ flat_map escaped done ++ rest)

pub one_more : (before name text rest behind longer : List ℕ) (byte : ℕ) → AreRead before name text rest → rest ≡ escaped byte ++ behind → longer ≡ name ++ byte ∷ [] → AreRead before longer text behind
one_more before name text rest behind longer byte h e l = (
  h.0 ++ byte ∷ [],
  l ∙ ap (λ (t : List ℕ). t ++ byte ∷ []) h.1 ∙ append_assoc before h.0 (byte ∷ []),
  h.2 ∙ ap (λ (t : List ℕ). flat_map escaped h.0 ++ t) e ∙ sym (append_assoc (flat_map escaped h.0) (escaped byte) behind) ∙ ap (λ (t : List ℕ). t ++ behind) (sym (flat_snoc h.0)),
)
  where
    flat_snoc : (done : List ℕ) → flat_map escaped (done ++ byte ∷ []) ≡ flat_map escaped done ++ escaped byte
    flat_snoc [] = append-nil (escaped byte)
    flat_snoc (d ∷ done) = ap (λ (t : List ℕ). escaped d ++ t) (flat_snoc done) ∙ sym (append_assoc (escaped d) (flat_map escaped done) (escaped byte))

pub closed : (before name text rest behind : List ℕ) → AreRead before name text rest → rest ≡ 34 ∷ behind → (more : List ℕ) × (name ≡ before ++ more) × (text ≡ flat_map escaped more ++ 34 ∷ behind)
closed before name text rest behind h e = (h.0, h.1, h.2 ∙ ap (λ (t : List ℕ). flat_map escaped h.0 ++ t) e)

-- where no written byte follows, the whole name was read
pub whole_name : (before name text rest : List ℕ) → AreRead before name text rest → ((b : ℕ) (behind : List ℕ) → rest ≡ escaped b ++ behind → ⊥) → (more other : List ℕ) → text ≡ flat_map escaped more ++ 34 ∷ other → (rest ≡ 34 ∷ other) × (name ≡ before ++ more)
whole_name before name text rest h stops more other e =
    let f = follows h.0 more rest other (sym h.2 ∙ e) in
    by_later f.0 f.1 f.2
  where
    by_later : (later : List ℕ) → more ≡ h.0 ++ later → rest ≡ flat_map escaped later ++ 34 ∷ other → (rest ≡ 34 ∷ other) × (name ≡ before ++ more)
    by_later [] same is = (is, h.1 ∙ ap (λ (t : List ℕ). before ++ t) (sym (same ∙ append-nil h.0)))
    by_later (l ∷ later) same is = absurd (stops l (flat_map escaped later ++ 34 ∷ other) (is ∙ append_assoc (escaped l) (flat_map escaped later) (34 ∷ other)))
