-- What is read as a unit or a number is that, and it is read again.
use Rattle.std.proofs.Common.{◌≡◌, ℕ, zero, suc, ◌+◌, ◌-◌, ◌^◌, ◌<◌, ◌≤◌, Bool, true, false, cond, ltb, eqb, List, [], ◌∷◌, ◌++◌, length, get_or, take, drop, ◌⊎◌, Result, Ok, Err, refl, sym, ap, subst, ◌∙◌, append_assoc, arith, inl, inr}
use Rattle.std.specs.Int.{Width, w16, w32, w64, byte_len, from_le_bytes, to_le_bytes}
use Rattle.std.specs.Str.{is_utf8, IsUtf8}
use Rattle.std.proofs.lemmas.Bool.{cases_lt, ltb-false, le-ltb, eqb-true}
use Rattle.std.proofs.lemmas.List.{take_at, drop_at, take-append-drop, length-append, length-take, get_or-drop, get_or-take, get_or_past}
use Rattle.std.proofs.lemmas.Nat.{le_bytes_2, le_bytes_4, le_bytes_8, from_le_bytes-to_le_bytes_2, from_le_bytes-to_le_bytes_4, from_le_bytes-to_le_bytes_8}
use Rattle.std.proofs.lemmas.Str.{is_utf8-from_IsUtf8, IsUtf8-from_is_utf8}
use Rattle.gr_base.specs.declared.aux_fault.AuxFault.{AuxFault}
use Rattle.gr_base.specs.declared.aux_fault.AuxFault.TheVariants.{Short, BadBool, BadUtf8}
use Rattle.aux_types.specs.Gives.{◌>>=◌}
use Rattle.aux_codec.specs.declared.value.Place.{Place}
use Rattle.aux_codec.specs.Reading.{Read, place, unit, number, byte, truth, string, offset}

-- the value of a step that did not fail
pub bind_ok : {A B F : Type 0} (r : Result A F) (f : A → Result B F) (y : B) → (r >>= f) ≡ Ok y → (x : A) × (r ≡ Ok x) × (f x ≡ Ok y)
bind_ok (Ok x) f y e = (x, refl, e)
bind_ok (Err d) f y e = absurd cc

abbrev done : {A : Type 0} → A → Result A AuxFault
done x = Ok x

pub ok_is : {A : Type 0} (x y : A) → done x ≡ done y → x ≡ y
ok_is x y e = cc

abbrev failed : {A : Type 0} → AuxFault → Result A AuxFault
failed e = Err e

pub err_is : {A : Type 0} (d e : AuxFault) → failed {A = A} d ≡ failed e → d ≡ e
err_is d e h = cc

-- a value is no fault
pub no_value : {A : Type 0} (x : A) (e : AuxFault) → done x ≡ Err e → ⊥
no_value x e h = cc

-- the fault of two steps is the first one's or the second one's
pub bind_err : {A B : Type 0} (r : Result A AuxFault) (f : A → Result B AuxFault) (e : AuxFault) → (r >>= f) ≡ Err e → (r ≡ Err e) ⊎ ((x : A) × (r ≡ Ok x) × (f x ≡ Err e))
bind_err (Ok x) f e h = inr (x, refl, h)
bind_err {B = B} (Err d) f e h = inl (ap (λ (x : AuxFault). Err x) (err_is {A = B} d e h))

-- a test that did not fail
pub guard_ok : {A : Type 0} (b : Bool) (d : AuxFault) (x y : A) → cond b (Ok x) (Err d) ≡ Ok y → (b ≡ true) × (x ≡ y)
guard_ok true d x y e = (refl, cc)
guard_ok false d x y e = absurd cc

-- a test for a fault that did not come
pub no_fault : {A : Type 0} (b : Bool) (d : AuxFault) (r : Result A AuxFault) (y : A) → cond b (Err d) r ≡ Ok y → (b ≡ false) × (r ≡ Ok y)
no_fault true d r y e = absurd cc
no_fault false d r y e = (refl, e)

-- which way a test went
pub chosen : {A : Type 0} (b : Bool) (x y z : A) → cond b x y ≡ z → ((b ≡ true) × (x ≡ z)) ⊎ ((b ≡ false) × (y ≡ z))
chosen true x y z e = inl (refl, e)
chosen false x y z e = inr (refl, e)

abbrev pub IsBytes : List ℕ → Type 0
IsBytes bytes = (i : ℕ) → get_or bytes i 0 < 256

pub IsBytes-drop : (n : ℕ) (bytes : List ℕ) → IsBytes bytes → IsBytes (drop n bytes)
IsBytes-drop n bytes h i = rw get_or-drop (h (n + i))

pub IsBytes-take : (n : ℕ) (bytes : List ℕ) → IsBytes bytes → IsBytes (take n bytes)
IsBytes-take n bytes h i =
    elim (cases_lt i n) [
      | inl lt ↦ rw (get_or-take n bytes i 0 lt) (h i)
      | inr le ↦ rw (get_or_past (take n bytes) i 0 (omega (arith, length-take n bytes))) (omega arith)
    ]

-- what a reader took from the front, and what is left
pub record Takes (bytes text rest : List ℕ) : Type 0 where
  pub parts : bytes ≡ text ++ rest
  pub left : IsBytes rest

pub Takes-then : (a x b y c : List ℕ) → Takes a x b → Takes b y c → Takes a (x ++ y) c
Takes-then a x b y c p q = record { parts = p.parts ∙ ap (λ (t : List ℕ). x ++ t) q.parts ∙ sym (append_assoc x y c); left = q.left }

-- ---- units

-- a unit that was read, which are bytes too
pub record TakesUnit (size : ℕ) (bytes : List ℕ) (x : List ℕ × List ℕ) : Type 0 where
  pub takes : Takes bytes x.0 x.1
  pub sized : length x.0 ≡ size
  pub fits : IsBytes x.0

pub unit_takes : (total size : ℕ) (bytes : List ℕ) (x : List ℕ × List ℕ) → IsBytes bytes → unit total size bytes ≡ Ok x → TakesUnit size bytes x
unit_takes total size bytes x fits e =
    let g = no_fault (ltb (length bytes) size) (Short (place total bytes)) (Ok (take size bytes, drop size bytes)) x e in
    let long : size ≤ length bytes = ltb-false _ _ g.0 in
    let is : ◌≡◌ {A = List ℕ × List ℕ} (take size bytes, drop size bytes) x = ok_is (take size bytes, drop size bytes) x g.1 in
    subst (TakesUnit size bytes) is (record {
      takes = record { parts = sym (take-append-drop size bytes); left = IsBytes-drop size bytes fits };
      sized = omega (arith, length-take size bytes);
      fits = IsBytes-take size bytes fits;
    })

pub unit_again : (total : ℕ) (front rest : List ℕ) (size : ℕ) → length front ≡ size → unit total size (front ++ rest) ≡ Ok (front, rest)
unit_again total front rest size len =
    let long : ltb (length (front ++ rest)) size ≡ false = le-ltb _ _ (omega (arith, length-append front rest)) in
    rw (long, take_at front rest size len, drop_at front rest size len) refl

-- ---- numbers

pub record IsWide (w : Width) (limit : ℕ) : Type 0 where
  pub len : (n : ℕ) → length (to_le_bytes w n) ≡ byte_len w
  pub back : (bytes : List ℕ) → length bytes ≡ byte_len w → IsBytes bytes → to_le_bytes w (from_le_bytes w bytes) ≡ bytes
  pub again : (n : ℕ) → n < limit → from_le_bytes w (to_le_bytes w n) ≡ n
  pub below : (bytes : List ℕ) → IsBytes bytes → from_le_bytes w bytes < limit

pub wide16 : IsWide w16 (2 ^ 16)
wide16 = record {
  len = λ n. refl;
  back = λ bytes len fits. le_bytes_2 bytes _ len fits refl;
  again = λ n lt. from_le_bytes-to_le_bytes_2 n lt;
  below = λ bytes fits. omega (arith, fits 0, fits 1);
}

pub wide32 : IsWide w32 (2 ^ 32)
wide32 = record {
  len = λ n. refl;
  back = λ bytes len fits. le_bytes_4 bytes _ len fits refl;
  again = λ n lt. from_le_bytes-to_le_bytes_4 n lt;
  below = λ bytes fits. omega (arith, fits 0, fits 1, fits 2, fits 3);
}

pub wide64 : IsWide w64 (2 ^ 64)
wide64 = record {
  len = λ n. refl;
  back = λ bytes len fits. le_bytes_8 bytes _ len fits refl;
  again = λ n lt. from_le_bytes-to_le_bytes_8 n lt;
  below = λ bytes fits. omega (arith, fits 0, fits 1, fits 2, fits 3, fits 4, fits 5, fits 6, fits 7);
}

pub number_takes : (total : ℕ) (w : Width) (limit : ℕ) (wide : IsWide w limit) (bytes : List ℕ) (x : ℕ × List ℕ) → IsBytes bytes → number total w bytes ≡ Ok x → Takes bytes (to_le_bytes w x.0) x.1 × (x.0 < limit)
number_takes total w limit wide bytes x fits e =
    let u = bind_ok (unit total (byte_len w) bytes) (λ front. Ok (from_le_bytes w front.0, front.1)) x e in
    let t = unit_takes total (byte_len w) bytes u.0 fits u.1 in
    let is : ◌≡◌ {A = ℕ × List ℕ} (from_le_bytes w u.0.0, u.0.1) x = ok_is (from_le_bytes w u.0.0, u.0.1) x u.2 in
    subst (λ (y : ℕ × List ℕ). Takes bytes (to_le_bytes w y.0) y.1 × (y.0 < limit)) is
    (rw (wide.back u.0.0 t.sized t.fits) t.takes, wide.below u.0.0 t.fits)

pub number_again : (total : ℕ) (w : Width) (limit : ℕ) (wide : IsWide w limit) (n : ℕ) (rest : List ℕ) → n < limit → number total w (to_le_bytes w n ++ rest) ≡ Ok (n, rest)
number_again total w limit wide n rest lt =
    rw (unit_again total (to_le_bytes w n) rest (byte_len w) (wide.len n), wide.again n lt) refl

-- ---- bytes, truth values, texts and offsets

IsBytes-rest : (b : ℕ) (bytes : List ℕ) → IsBytes (b ∷ bytes) → IsBytes bytes
IsBytes-rest b bytes h i = h (suc i)

pub byte_takes : (total : ℕ) (bytes : List ℕ) (x : ℕ × List ℕ) → IsBytes bytes → byte total bytes ≡ Ok x → Takes bytes (x.0 ∷ []) x.1 × (x.0 < 2 ^ 8)
byte_takes total [] x fits e = absurd cc
byte_takes total (b ∷ bytes) x fits e =
    let is : ◌≡◌ {A = ℕ × List ℕ} (b, bytes) x = ok_is (b, bytes) x e in
    subst (λ (y : ℕ × List ℕ). Takes (b ∷ bytes) (y.0 ∷ []) y.1 × (y.0 < 2 ^ 8)) is (record { parts = refl; left = IsBytes-rest b bytes fits }, fits 0)

pub truth_takes : (total : ℕ) (bytes : List ℕ) (x : Bool × List ℕ) → IsBytes bytes → truth total bytes ≡ Ok x → Takes bytes (cond x.0 1 0 ∷ []) x.1
truth_takes total [] x fits e = absurd cc
truth_takes total (b ∷ bytes) x fits e =
    elim (chosen (eqb b 0) (Ok (false, bytes)) (cond (eqb b 1) (Ok (true, bytes)) (Err (BadBool (place total (b ∷ bytes))))) (Ok x) e) [
      | inl h ↦
          let is : ◌≡◌ {A = Bool × List ℕ} (false, bytes) x = ok_is (false, bytes) x h.1 in
          subst (λ (y : Bool × List ℕ). Takes (b ∷ bytes) (cond y.0 1 0 ∷ []) y.1) is (record { parts = ap (λ (n : ℕ). n ∷ bytes) (eqb-true b 0 h.0); left = IsBytes-rest b bytes fits })
      | inr h ↦
          let k = guard_ok (eqb b 1) (BadBool (place total (b ∷ bytes))) (true, bytes) x h.1 in
          subst (λ (y : Bool × List ℕ). Takes (b ∷ bytes) (cond y.0 1 0 ∷ []) y.1) k.1 (record { parts = ap (λ (n : ℕ). n ∷ bytes) (eqb-true b 1 k.0); left = IsBytes-rest b bytes fits })
    ]

pub truth_again : (total : ℕ) (b : Bool) (rest : List ℕ) → truth total (cond b 1 0 ∷ rest) ≡ Ok (b, rest)
truth_again total true rest = refl
truth_again total false rest = refl

pub string_takes : (total : ℕ) (bytes : List ℕ) (x : List ℕ × List ℕ) → IsBytes bytes → string total bytes ≡ Ok x → Takes bytes (to_le_bytes w64 (length x.0) ++ x.0) x.1 × IsUtf8 x.0 × (length x.0 < 2 ^ 64)
unfolding string
string_takes total bytes x fits e =
    let n = bind_ok (number total w64 bytes) (λ n. unit total n.0 n.1 >>= λ text. cond (is_utf8 text.0) (Ok text) (Err (BadUtf8 (place total n.1)))) x e in
    let t = bind_ok (unit total n.0.0 n.0.1) (λ text. cond (is_utf8 text.0) (Ok text) (Err (BadUtf8 (place total n.0.1)))) x n.2 in
    let g = guard_ok (is_utf8 t.0.0) (BadUtf8 (place total n.0.1)) t.0 x t.2 in
    let size = number_takes total w64 (2 ^ 64) wide64 bytes n.0 fits n.1 in
    let content = unit_takes total n.0.0 n.0.1 t.0 size.0.left t.1 in
    let both = Takes-then bytes (to_le_bytes w64 n.0.0) n.0.1 t.0.0 t.0.1 size.0 content.takes in
    subst (λ (y : List ℕ × List ℕ). Takes bytes (to_le_bytes w64 (length y.0) ++ y.0) y.1 × IsUtf8 y.0 × (length y.0 < 2 ^ 64)) g.1
    (rw content.sized both, IsUtf8-from_is_utf8 t.0.0 g.0, omega (arith, content.sized, size.1))

pub string_again : (total : ℕ) (text rest : List ℕ) → IsUtf8 text → length text < 2 ^ 64 → string total ((to_le_bytes w64 (length text) ++ text) ++ rest) ≡ Ok (text, rest)
unfolding string
string_again total text rest utf8 lt =
    ap (string total) (append_assoc (to_le_bytes w64 (length text)) text rest) ∙ rw (number_again total w64 (2 ^ 64) wide64 (length text) (text ++ rest) lt, unit_again total text rest (length text) refl, is_utf8-from_IsUtf8 text utf8) refl

pub offset_takes : (total : ℕ) (bytes : List ℕ) (x : Place × List ℕ) → IsBytes bytes → offset total bytes ≡ Ok x → Takes bytes (x.0.id ++ to_le_bytes w64 x.0.offset) x.1 × (length x.0.id ≡ 16) × (x.0.offset < 2 ^ 64)
unfolding offset
offset_takes total bytes x fits e =
    let id = bind_ok (unit total 16 bytes) (λ id. number total w64 id.1 >>= λ n. Ok (record { id = id.0; offset = n.0 }, n.1)) x e in
    let n = bind_ok (number total w64 id.0.1) (λ n. Ok (record { id = id.0.0; offset = n.0 }, n.1)) x id.2 in
    let made : Place × List ℕ = (record { id = id.0.0; offset = n.0.0 }, n.0.1) in
    let t = unit_takes total 16 bytes id.0 fits id.1 in
    let u = number_takes total w64 (2 ^ 64) wide64 id.0.1 n.0 t.takes.left n.1 in
    subst (λ (y : Place × List ℕ). Takes bytes (y.0.id ++ to_le_bytes w64 y.0.offset) y.1 × (length y.0.id ≡ 16) × (y.0.offset < 2 ^ 64)) (ok_is made x n.2)
    (Takes-then bytes id.0.0 id.0.1 (to_le_bytes w64 n.0.0) n.0.1 t.takes u.0, t.sized, u.1)

pub offset_again : (total : ℕ) (p : Place) (rest : List ℕ) → length p.id ≡ 16 → p.offset < 2 ^ 64 → offset total ((p.id ++ to_le_bytes w64 p.offset) ++ rest) ≡ Ok (p, rest)
unfolding offset
offset_again total p rest len lt =
    ap (offset total) (append_assoc p.id (to_le_bytes w64 p.offset) rest) ∙ rw (unit_again total p.id (to_le_bytes w64 p.offset ++ rest) 16 len, number_again total w64 (2 ^ 64) wide64 p.offset rest lt) refl
