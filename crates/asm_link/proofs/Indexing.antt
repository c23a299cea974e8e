-- Steps of the loops that index intervals and labels, and what is looked up.
use Rattle.std.proofs.Common.{◌≡◌, ℕ, ◌-◌, ◌<◌, ◌≤◌, ◌^◌, Bool, true, false, ◌&&◌, cond, eqb, Option, Some, None, List, [], ◌∷◌, length, get_or, drop, find, refl, sym, ap, ◌∙◌, arith}
use Rattle.std.specs.Option.{option_map, option_map_or, unwrap_or}
use Rattle.std.specs.List.{AllByRecursion}
use Rattle.std.specs.Str.{bytes_eq}
use Rattle.asm_lines.specs.declared.line.AsmName.{AsmName}
use Rattle.asm_modules.specs.declared.module.AsmAt.{AsmAt}
use Rattle.asm_modules.specs.declared.module.AsmAt.TheVariants as ats
use Rattle.asm_modules.specs.declared.module.AsmLabel.{AsmLabel}
use Rattle.asm_modules.specs.Faults.{ordinal_of}
use Rattle.asm_modules.specs.Valid.{is_named}
use Rattle.sym_expr.specs.declared.layout.Layout.{Layout}
use Rattle.sym_expr.specs.declared.layout.PlaceAt.{PlaceAt}
use Rattle.sym_expr.specs.Layouts.{place_in}
use Rattle.asm_link.specs.Kept.{has_name, label_by, value_by, FitsBy}
use Rattle.asm_link.specs.Values.{at_value, label_value}
use Rattle.asm_link.proofs.Lists.{at_item, split_before}

-- one more place, before those that are put in
pub place_before : (places : List PlaceAt) (left : ℕ) (p : PlaceAt) (id : List ℕ) (old new : Option ℕ) → 0 < left → left ≤ length places → p ≡ get_or places (left - 1) p
    → new ≡ cond (bytes_eq p.interval id) (Some p.at) old → old ≡ place_in (drop left places) id → new ≡ place_in (drop (left - 1) places) id
place_before places left p id old new some within is put so_far =
    put ∙ ap (cond (bytes_eq p.interval id) (Some p.at)) so_far ∙ sym (ap (λ ps. place_in ps id) (split_before places left p some within is))

map_cond : {X Y : Type 0} (f : X → Y) (v : Bool) (x : X) (o : Option X) → cond v (Some (f x)) (option_map f o) ≡ option_map f (cond v (Some x) o)
map_cond f true x o = refl
map_cond f false x o = refl

-- one more label, before those that are put in
pub label_before : (kept : List ℕ → Option ℕ) (labels : List AsmLabel) (left : ℕ) (label : AsmLabel) (at : ℕ) (q : List ℕ) (k : ℕ) (old new : Option ℕ)
    → 0 < left → left ≤ length labels → label ≡ get_or labels (left - 1) label → at ≡ value_by kept label.at
    → new ≡ cond (bytes_eq q label.name && eqb k label.ordinal) (Some at) old → old ≡ label_by kept (drop left labels) q k → new ≡ label_by kept (drop (left - 1) labels) q k
label_before kept labels left label at q k old new some within is at_is put so_far =
    put ∙ ap (λ a. cond (has_name q k label) (Some a) old) at_is
    ∙ ap (cond (has_name q k label) (Some (value_by kept label.at))) so_far
    ∙ map_cond (λ (x : AsmLabel). value_by kept x.at) (has_name q k label) label (find (has_name q k) (drop left labels))
    ∙ sym (ap (λ xs. label_by kept xs q k) (split_before labels left label some within is))

-- what holds of all holds of the one before a place
pub fits_before : (kept : List ℕ → Option ℕ) (labels : List AsmLabel) (left : ℕ) (label : AsmLabel) → 0 < left → left ≤ length labels → label ≡ get_or labels (left - 1) label
    → AllByRecursion (FitsBy kept) labels → value_by kept label.at < 2 ^ 64
fits_before kept labels left label some within is all = at_item (FitsBy kept) labels (left - 1) label (omega arith) is all

-- ---- what is looked up

pub value_same : (f g : List ℕ → Option ℕ) → ((id : List ℕ) → f id ≡ g id) → (at : AsmAt) → value_by f at ≡ value_by g at
value_same f g same (ats.Absolute value) = refl
value_same f g same (ats.Inside uuid offset) = let e = ap (λ (o : Option ℕ). unwrap_or o 0) (same uuid) in omega arith

map_same : {X Y : Type 0} (f g : X → Y) → ((x : X) → f x ≡ g x) → (o : Option X) → option_map f o ≡ option_map g o
map_same f g same None = refl
map_same f g same (Some x) = ap Some (same x)

pub label_same : (f g : List ℕ → Option ℕ) → ((id : List ℕ) → f id ≡ g id) → (labels : List AsmLabel) (q : List ℕ) (k : ℕ) → label_by f labels q k ≡ label_by g labels q k
label_same f g same labels q k =
    map_same (λ (x : AsmLabel). value_by f x.at) (λ (x : AsmLabel). value_by g x.at) (λ x. value_same f g same x.at) (find (has_name q k) labels)

pub all_fit_same : (f g : List ℕ → Option ℕ) → ((id : List ℕ) → f id ≡ g id) → (labels : List AsmLabel) → AllByRecursion (FitsBy g) labels → AllByRecursion (FitsBy f) labels
all_fit_same f g same labels all = each labels all
  where
    each : (xs : List AsmLabel) → AllByRecursion (FitsBy g) xs → AllByRecursion (FitsBy f) xs
    each [] all = tt
    each (x ∷ xs) all = let e = value_same f g same x.at in let lt = all.0 in (omega arith, each xs all.1)

-- the address of a place is the one that its layout gives
pub at_is : (l : Layout) (at : AsmAt) → value_by (place_in l.places) at ≡ at_value l at
at_is l (ats.Absolute value) = refl
at_is l (ats.Inside uuid offset) = refl

map_or : {X : Type 0} (f g : X → ℕ) → ((x : X) → f x ≡ g x) → (o : Option X) → unwrap_or (option_map f o) 0 ≡ option_map_or g o 0
map_or f g same None = refl
map_or f g same (Some x) = same x

pub label_is : (l : Layout) (labels : List AsmLabel) (name : AsmName) → unwrap_or (label_by (place_in l.places) labels name.name (ordinal_of name)) 0 ≡ label_value l labels name
label_is l labels name =
    map_or (λ (x : AsmLabel). value_by (place_in l.places) x.at) (λ (x : AsmLabel). at_value l x.at) (λ x. at_is l x.at) (find (is_named name) labels)
