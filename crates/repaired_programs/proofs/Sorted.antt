-- Blocks in order, each of which becomes several: where these come one behind the other, they are in order too.
use Rattle.std.proofs.Common.{◌≡◌, ◌≤◌, ◌<◌, Bool, true, false, not, List, [], ◌∷◌, ◌++◌, refl, ap, ◌∙◌, inl, inr, arith}
use Rattle.std.specs.Prelude.{◌==◌, ◌&&◌, ◌||◌, if◌then◌else◌}
use Rattle.std.specs.List.{AllByRecursion as Every, flat_map}
use Rattle.std.proofs.lemmas.Bool.{cases_lt, lt-ltb, le-ltb, eq-eqb, ne_eqb}
use Rattle.gt_model.specs.declared.intervals.Block.{Block}
use Rattle.sym_expr.specs.Modules.{end_of, goes_before, in_order, is_empty, put_in_order, size_of}
use Rattle.repaired_programs.proofs.Lists.{every_all, every_append, every_flat, every_weaker, Pairs}

abbrev pub IsBefore : Block → Block → Type 0
IsBefore x y = goes_before x y ≡ true

-- the second isn't before the first
abbrev pub IsInTurn : Block → Block → Type 0
IsInTurn x y = goes_before y x ≡ false

-- ---- what holds of blocks holds of them in order

either_kept : (P : Block → Type 0) (b c : Block) (x : Bool) (bs cs : List Block) → P b → P c → Every P bs → Every P cs → Every P (if x then c ∷ bs else b ∷ c ∷ cs)
either_kept P b c true bs cs h k l n = (k, l)
either_kept P b c false bs cs h k l n = (h, (k, n))

put_each : (P : Block → Type 0) (b : Block) (cs : List Block) → P b → Every P cs → Every P (put_in_order b cs)
put_each P b [] h k = (h, tt)
put_each P b (c ∷ cs) h k = either_kept P b c (goes_before c b) (put_in_order b cs) cs h k.0 (put_each P b cs h k.1) k.1

pub each_in_order : (P : Block → Type 0) (bs : List Block) → Every P bs → Every P (in_order bs)
each_in_order P [] h = tt
each_in_order P (b ∷ bs) h = put_each P b (in_order bs) h.0 (each_in_order P bs h.1)

either_back : (P : Block → Type 0) (b c : Block) (x : Bool) (bs cs : List Block) → (Every P bs → P b × Every P cs) → Every P (if x then c ∷ bs else b ∷ c ∷ cs) → P b × Every P (c ∷ cs)
either_back P b c true bs cs f h = let both = f h.1 in (both.0, (h.0, both.1))
either_back P b c false bs cs f h = h

put_back : (P : Block → Type 0) (b : Block) (cs : List Block) → Every P (put_in_order b cs) → P b × Every P cs
put_back P b [] h = h
put_back P b (c ∷ cs) h = either_back P b c (goes_before c b) (put_in_order b cs) cs (put_back P b cs) h

pub each_from_order : (P : Block → Type 0) (bs : List Block) → Every P (in_order bs) → Every P bs
each_from_order P [] h = tt
each_from_order P (b ∷ bs) h =
    let both = put_back P b (in_order bs) h in
    (both.0, each_from_order P bs both.1)

-- ---- several put among others

abbrev put_all : List Block → List Block → List Block
put_all [] ys = ys
put_all (x ∷ xs) ys = put_in_order x (put_all xs ys)

order_append : (xs ys : List Block) → in_order (xs ++ ys) ≡ put_all xs (in_order ys)
order_append [] ys = refl
order_append (x ∷ xs) ys = ap (put_in_order x) (order_append xs ys)

put_front : (x : Block) (ys : List Block) → Every (IsInTurn x) ys → put_in_order x ys ≡ x ∷ ys
put_front x [] h = refl
put_front x (y ∷ ys) h = ap (λ b. if b then y ∷ put_in_order x ys else x ∷ y ∷ ys) h.0

all_front : (xs ys : List Block) → Pairs IsInTurn xs → Every (λ x. Every (IsInTurn x) ys) xs → put_all xs ys ≡ xs ++ ys
all_front [] ys h k = refl
all_front (x ∷ xs) ys h k = ap (put_in_order x) (all_front xs ys h.1 k.1) ∙ put_front x (xs ++ ys) (every_append (IsInTurn x) xs ys h.0 k.0)

put_past : (x : Block) (zs ys : List Block) → Every (λ z. IsBefore z x) zs → put_in_order x (zs ++ ys) ≡ zs ++ put_in_order x ys
put_past x [] ys h = refl
put_past x (z ∷ zs) ys h = ap (λ b. if b then z ∷ put_in_order x (zs ++ ys) else x ∷ z ∷ (zs ++ ys)) h.0 ∙ ap (λ l. z ∷ l) (put_past x zs ys h.1)

all_past : (xs zs ys : List Block) → Every (λ x. Every (λ z. IsBefore z x) zs) xs → put_all xs (zs ++ ys) ≡ zs ++ put_all xs ys
all_past [] zs ys h = refl
all_past (x ∷ xs) zs ys h = ap (put_in_order x) (all_past xs zs ys h.1) ∙ put_past x zs (put_all xs ys) h.0

-- blocks that follow one another are in order
pub sorted : (bs : List Block) → Pairs IsInTurn bs → in_order bs ≡ bs
sorted [] h = refl
sorted (b ∷ bs) h = ap (put_in_order b) (sorted bs h.1) ∙ put_front b bs h.0

-- ---- blocks that become several

-- what the first becomes stands before what the second becomes
pub record Stand (f : Block → List Block) (x y : Block) : Type 0 where
  pub past : IsBefore x y → Every (λ v. Every (λ u. IsBefore u v) (f x)) (f y)
  pub front : Every (λ u. Every (IsInTurn u) (f y)) (f x)

front_all : (f : Block → List Block) (us ys : List Block) → Every (λ y. Every (λ u. Every (IsInTurn u) (f y)) us) ys → Every (λ u. Every (IsInTurn u) (flat_map f ys)) us
front_all f [] ys h = tt
front_all f (u ∷ us) ys h = (
  every_flat f (IsInTurn u) ys (every_weaker (λ y. Every (λ w. Every (IsInTurn w) (f y)) (u ∷ us)) (λ y. Every (IsInTurn u) (f y)) (λ y k. k.0) ys h),
  front_all f us ys (every_weaker (λ y. Every (λ w. Every (IsInTurn w) (f y)) (u ∷ us)) (λ y. Every (λ w. Every (IsInTurn w) (f y)) us) (λ y k. k.1) ys h),
)

abbrev IsPut : (Block → List Block) → Block → List Block → List Block → Type 0
IsPut f b cs ds = (put_all (f b) (flat_map f cs) ≡ flat_map f ds) × Pairs (Stand f) cs

either_put : (f : Block → List Block) (b c : Block) (cs : List Block) (x : Bool) → goes_before c b ≡ x → Pairs IsInTurn (f b) → (Pairs (Stand f) (put_in_order b cs) → IsPut f b cs (put_in_order b cs))
    → Pairs (Stand f) (if x then c ∷ put_in_order b cs else b ∷ c ∷ cs) → IsPut f b (c ∷ cs) (if x then c ∷ put_in_order b cs else b ∷ c ∷ cs)
either_put f b c cs true e own rest h =
    let both = put_back (Stand f c) b cs h.0 in
    let next = rest h.1 in
    (all_past (f b) (f c) (flat_map f cs) (both.0.past e) ∙ ap (λ l. f c ++ l) next.0, (both.1, next.1))
either_put f b c cs false e own rest h =
    (all_front (f b) (flat_map f (c ∷ cs)) own (front_all f (f b) (c ∷ cs) (every_weaker (Stand f b) (λ y. Every (λ u. Every (IsInTurn u) (f y)) (f b)) (λ y k. k.front) (c ∷ cs) h.0)), h.1)

put_flat : (f : Block → List Block) (b : Block) (cs : List Block) → Pairs IsInTurn (f b) → Pairs (Stand f) (put_in_order b cs) → IsPut f b cs (put_in_order b cs)
put_flat f b [] own h = (all_front (f b) [] own (every_all (λ u. Every (IsInTurn u) []) (λ u. tt) (f b)), tt)
put_flat f b (c ∷ cs) own h = either_put f b c cs (goes_before c b) refl own (put_flat f b cs own) h

pub flat_order : (f : Block → List Block) (bs : List Block) → Every (λ b. Pairs IsInTurn (f b)) bs → Pairs (Stand f) (in_order bs) → in_order (flat_map f bs) ≡ flat_map f (in_order bs)
flat_order f [] own h = refl
flat_order f (b ∷ bs) own h =
    let both = put_flat f b (in_order bs) own.0 h in
    order_append (f b) (flat_map f bs) ∙ ap (put_all (f b)) (flat_order f bs own.1 both.1) ∙ both.0

-- ---- what order numbers give

pub before_lt : (u v : Block) → u.offset < v.offset → IsBefore u v
before_lt u v lt = ap (λ x. x || ((u.offset == v.offset) && (is_empty u && not (is_empty v)))) (lt-ltb u.offset v.offset lt)

pub before_empty : (u v : Block) → u.offset ≡ v.offset → size_of u ≡ 0 → (size_of v ≡ 0 → ⊥) → IsBefore u v
before_empty u v same none some =
    ap (λ x. x || ((u.offset == v.offset) && (is_empty u && not (is_empty v)))) (le-ltb u.offset v.offset (omega (arith, same)))
    ∙ ap (λ x. x && (is_empty u && not (is_empty v))) (eq-eqb u.offset v.offset same)
    ∙ ap (λ x. x && not (is_empty v)) (eq-eqb (size_of u) 0 none)
    ∙ ap not (ne_eqb (size_of v) 0 some)

turn_above : (x y : Block) → x.offset < y.offset → IsInTurn x y
turn_above x y lt =
    ap (λ b. b || ((y.offset == x.offset) && (is_empty y && not (is_empty x)))) (le-ltb y.offset x.offset (omega (arith, lt)))
    ∙ ap (λ b. b && (is_empty y && not (is_empty x))) (ne_eqb y.offset x.offset (λ e. omega (arith, e, lt)))

turn_level : (x y : Block) → x.offset ≡ y.offset → size_of x ≡ 0 → IsInTurn x y
turn_level x y same none =
    ap (λ b. b || ((y.offset == x.offset) && (is_empty y && not (is_empty x)))) (le-ltb y.offset x.offset (omega (arith, same)))
    ∙ ap (λ b. (y.offset == x.offset) && (is_empty y && not b)) (eq-eqb (size_of x) 0 none)
    ∙ none_of (y.offset == x.offset) (is_empty y)
  where
    none_of : (a b : Bool) → (a && (b && false)) ≡ false
    none_of true true = refl
    none_of true false = refl
    none_of false b = refl

-- a block that begins behind the end of another isn't before it
pub in_turn : (x y : Block) → end_of x ≤ y.offset → IsInTurn x y
in_turn x y le =
    elim (cases_lt x.offset y.offset) [
      | inl lt ↦ turn_above x y lt
      | inr ge ↦ turn_level x y (omega (arith, le, ge)) (omega (arith, le, ge))
    ]
