-- Steps of reading: what one that did not fail says.
use Rattle.std.proofs.Common.{◌≡◌, ℕ, Bool, true, false, cond, eqb, List, [], ◌∷◌, Result, Ok, Err, refl, ap, inl, inr, ◌⊎◌}
use Rattle.std.proofs.lemmas.Bool.{eqb-true}
use Rattle.aux_types.specs.Gives.{◌>>=◌}
use Rattle.aux_types.specs.Reading.{expect}

-- the value of a step that did not fail
pub bind_ok : {A B F : Type 0} (r : Result A F) (f : A → Result B F) (y : B) → (r >>= f) ≡ Ok y → (x : A) × (r ≡ Ok x) × (f x ≡ Ok y)
bind_ok (Ok x) f y e = (x, refl, e)
bind_ok (Err d) f y e = absurd cc

abbrev done : {A F : Type 0} → A → Result A F
done x = Ok x

pub ok_is : {A F : Type 0} (x y : A) → done {F = F} x ≡ done y → x ≡ y
ok_is x y e = cc

abbrev failed : {A F : Type 0} → F → Result A F
failed e = Err e

-- a value is no fault
pub no_fault : {A F : Type 0} (x : A) (e : F) → done {F = F} x ≡ Err e → ⊥
no_fault x e h = cc

pub err_is : {A F : Type 0} (d e : F) → failed {A = A} d ≡ failed e → d ≡ e
err_is d e h = cc

-- the fault of two steps is the first one's or the second one's
pub bind_err : {A B F : Type 0} (r : Result A F) (f : A → Result B F) (e : F) → (r >>= f) ≡ Err e → (r ≡ Err e) ⊎ ((x : A) × (r ≡ Ok x) × (f x ≡ Err e))
bind_err (Ok x) f e h = inr (x, refl, h)
bind_err {B = B} {F = F} (Err d) f e h = inl (ap (λ (x : F). Err x) (err_is {A = B} d e h))

-- a test that did not fail
pub guard_ok : {A F : Type 0} (b : Bool) (d : F) (x y : A) → cond b (Ok x) (Err d) ≡ Ok y → (b ≡ true) × (x ≡ y)
guard_ok true d x y e = (refl, cc)
guard_ok false d x y e = absurd cc

-- which way a test went
pub chosen : {A : Type 0} (b : Bool) (x y z : A) → cond b x y ≡ z → ((b ≡ true) × (x ≡ z)) ⊎ ((b ≡ false) × (y ≡ z))
chosen true x y z e = inl (refl, e)
chosen false x y z e = inr (refl, e)

pub expect_takes : (total byte : ℕ) (bytes rest : List ℕ) → expect total byte bytes ≡ Ok rest → bytes ≡ byte ∷ rest
expect_takes total byte [] rest e = absurd cc
expect_takes total byte (b ∷ bytes) rest e =
    let g = guard_ok (eqb b byte) _ bytes rest e in
    let same : b ≡ byte = eqb-true b byte g.0 in
    cc
