-- Lists of keys and values in which no key comes twice, as maps.
use Rattle.std.proofs.Common.{◌≡◌, ◌≢◌, ℕ, Bool, true, false, cond, ◌&&◌, nat_eq, List, [], ◌∷◌, ◌++◌, Option, Some, refl, sym, ap, ◌∙◌, inl, inr}
use Rattle.std.specs.Prelude.{find}
use Rattle.std.specs.Bool.{Decides}
use Rattle.std.specs.Option.{option_map}
use Rattle.std.specs.Map.{lookup}
use Rattle.std.specs.Str.{bytes_eq}
use Rattle.std.proofs.lemmas.Bool.{cases_Bool, cond-false}
use Rattle.std.proofs.lemmas.Bool.Decides.{Decides-like, Decides-and, Decides-eqb}
use Rattle.std.proofs.lemmas.Slice.Eq.{bytes_eq-Decides}
use Rattle.indexmap.specs.IndexMap.{insert_entry}

-- no entry has the key
abbrev pub Lacks : {K V : Type 0} → K → List (K × V) → Type 0
Lacks key [] = Unit {0}
Lacks key (e ∷ es) = (key ≢ e.0) × Lacks key es

abbrev pub OwnKeys : {K V : Type 0} → List (K × V) → Type 0
OwnKeys [] = Unit {0}
OwnKeys (e ∷ es) = Lacks e.0 es × OwnKeys es

lacks_in : {K V : Type 0} (key : K) (xs : List (K × V)) (e : K × V) (ys : List (K × V)) → Lacks key (xs ++ e ∷ ys) → key ≢ e.0
lacks_in key [] e ys h = h.0
lacks_in key (x ∷ xs) e ys h = lacks_in key xs e ys h.1

unlike : {K : Type 0} (eq : K → K → Bool) → ((a b : K) → Decides (eq a b) (a ≡ b)) → (a b : K) → b ≢ a → eq a b ≡ false
unlike eq decides a b differ = elim (cases_Bool (eq a b)) [
  | inl h ↦ absurd (differ (sym ((decides a b).0 h)))
  | inr h ↦ h
]

-- a key that comes later goes last
pub insert_last : {K V : Type 0} (eq : K → K → Bool) → ((a b : K) → Decides (eq a b) (a ≡ b)) → (xs : List (K × V)) (key : K) (value : V) (ys : List (K × V))
    → OwnKeys (xs ++ (key, value) ∷ ys) → insert_entry eq xs key value ≡ xs ++ (key, value) ∷ []
insert_last eq decides [] key value ys own = refl
insert_last {K} {V} eq decides (x ∷ xs) key value ys own =
    cond-false (eq key x.0) ((x.0, value) ∷ xs) (x ∷ insert_entry eq xs key value) (unlike eq decides key x.0 (lacks_in x.0 xs (key, value) ys own.0))
    ∙ ap (λ (zs : List (K × V)). x ∷ zs) (insert_last eq decides xs key value ys own.1)

flipped : {K : Type 0} (eq : K → K → Bool) → ((a b : K) → Decides (eq a b) (a ≡ b)) → (a b : K) → eq a b ≡ eq b a
flipped eq decides a b = elim (cases_Bool (eq a b)) [
  | inl h ↦ h ∙ sym ((decides b a).1 (sym ((decides a b).0 h)))
  | inr h ↦ elim (cases_Bool (eq b a)) [
    | inl k ↦ (decides a b).1 (sym ((decides b a).0 k)) ∙ sym k
    | inr k ↦ h ∙ sym k
  ]
]

map_cond : {A B : Type 0} (f : A → B) (t : Bool) (x : A) (o : Option A) → option_map f (cond t (Some x) o) ≡ cond t (Some (f x)) (option_map f o)
map_cond f true x o = refl
map_cond f false x o = refl

-- what a map finds is the value of the first entry with the key
pub lookup_is : {K V : Type 0} (eq : K → K → Bool) → ((a b : K) → Decides (eq a b) (a ≡ b)) → (key : K) (es : List (K × V))
    → lookup (eq key) es ≡ option_map (λ (e : K × V). e.1) (find (λ (e : K × V). eq e.0 key) es)
lookup_is eq decides key [] = refl
lookup_is {K} {V} eq decides key (e ∷ es) =
    ap (λ (t : Bool). cond t (Some e.1) (lookup (eq key) es)) (flipped eq decides key e.0)
    ∙ ap (λ (o : Option V). cond (eq e.0 key) (Some e.1) o) (lookup_is eq decides key es)
    ∙ sym (map_cond (λ (e : K × V). e.1) (eq e.0 key) e (find (λ (e : K × V). eq e.0 key) es))

-- an identifier and an offset as a key
abbrev pub place_eq : List ℕ × ℕ → List ℕ × ℕ → Bool
place_eq a b = bytes_eq a.0 b.0 && nat_eq a.1 b.1

pair_same : (a b : List ℕ × ℕ) → (a.0 ≡ b.0) × (a.1 ≡ b.1) → a ≡ b
pair_same a b h = ap (λ (x : List ℕ). let p : List ℕ × ℕ = (x, a.1) in p) h.0 ∙ ap (λ (n : ℕ). let p : List ℕ × ℕ = (b.0, n) in p) h.1

pub place_eq-Decides : (a b : List ℕ × ℕ) → Decides (place_eq a b) (a ≡ b)
place_eq-Decides a b =
    Decides-like (place_eq a b) (pair_same a b) (λ e. (ap (λ (p : List ℕ × ℕ). p.0) e, ap (λ (p : List ℕ × ℕ). p.1) e))
    (Decides-and (bytes_eq a.0 b.0) (nat_eq a.1 b.1) (bytes_eq-Decides a.0 b.0) (Decides-eqb a.1 b.1))
