-- Values by key, one entry more at the front.
use Rattle.std.proofs.Common.{◌≡◌, ℕ, ◌+◌, ◌<◌, Bool, true, false, cond, List, ◌∷◌, length, get_or, drop, Option, Some, refl, sym, ap, ◌∙◌, add-one, drop-cons}
use Rattle.std.specs.Prelude.{find}
use Rattle.std.specs.Option.{option_map}
use Rattle.ir_check.specs.Keyed.{value_at}

map_cond : {A B : Type 0} (f : A → B) (t : Bool) (x : A) (o : Option A) → option_map f (cond t (Some x) o) ≡ cond t (Some (f x)) (option_map f o)
map_cond f true x o = refl
map_cond f false x o = refl

pub value_at-cons : {K V : Type 0} (eq : K → K → Bool) (key : K) (e : K × V) (entries : List (K × V)) → value_at eq key (e ∷ entries) ≡ cond (eq e.0 key) (Some e.1) (value_at eq key entries)
value_at-cons {K} {V} eq key e entries = map_cond (λ (e : K × V). e.1) (eq e.0 key) e (find (λ (e : K × V). eq e.0 key) entries)

-- the entry at a place, before those behind it
pub value_at-drop : {K V : Type 0} (eq : K → K → Bool) (key : K) (entries : List (K × V)) (i : ℕ) (e : K × V) → i < length entries → e ≡ get_or entries i e
    → value_at eq key (drop i entries) ≡ cond (eq e.0 key) (Some e.1) (value_at eq key (drop (i + 1) entries))
value_at-drop {K} {V} eq key entries i e within is =
    let here : drop i entries ≡ get_or entries i e ∷ drop (i + 1) entries = rw add-one (drop-cons entries i e within) in
    ap (value_at eq key) here
    ∙ value_at-cons eq key (get_or entries i e) (drop (i + 1) entries)
    ∙ ap (λ (x : K × V). cond (eq x.0 key) (Some x.1) (value_at eq key (drop (i + 1) entries))) (sym is)
