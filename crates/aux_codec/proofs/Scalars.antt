-- The two laws of a value with no types inside its type: what is read is spelled so, and it is read again.
use Rattle.std.proofs.Common.{◌≡◌, ℕ, ℤ, ◌^◌, ◌<◌, List, [], ◌∷◌, ◌++◌, length, cond, Bool, Result, Ok, Err, refl, sym, ap, subst, ◌∙◌, append_assoc, arith}
use Rattle.std.proofs.Math.Facts.{Fits-of_lt, Fits-of_z, Fits-lt-pow, sfits_to_z}
use Rattle.std.specs.Prelude.{FitsSigned}
use mir.Val.{bits}
use Rattle.std.specs.Int.{Width, w8, w16, w32, w64, to_le_bytes, cast_signed, cast_unsigned}
use Rattle.std.proofs.lemmas.Int.{of_z-to_z, to_z-of_z}
use Rattle.aux_types.specs.declared.name.Scalar.{Scalar}
use Rattle.aux_types.specs.declared.name.Scalar.TheVariants as s
use Rattle.aux_types.specs.Gives.{◌>>=◌}
use Rattle.aux_codec.specs.declared.value.Place.{Place}
use Rattle.aux_codec.specs.Value.{Value, Str, Truth, Id, Number, Signed, At, Four, Eight}
use Rattle.aux_codec.specs.Spelling.{ScalarHasType, scalar_spelling}
use Rattle.aux_codec.specs.Reading.{Read, unit, number, byte, truth, string, offset, scalar_at}
use Rattle.aux_codec.proofs.Units.{IsBytes, Takes, bind_ok, ok_is, IsWide, wide16, wide32, wide64, unit_takes, unit_again, number_takes, number_again, byte_takes, truth_takes, truth_again, string_takes, string_again, offset_takes, offset_again}

-- a value that was read: its bytes stood there, and it has its type
abbrev pub TakesScalar : Scalar → List ℕ → Value × List ℕ → Type 0
TakesScalar k bytes x = Takes bytes (scalar_spelling k x.0) x.1 × ScalarHasType k x.0

-- what is read, made into a value
module _ (A : Type 0) (k : Scalar) (bytes : List ℕ) (read : Read A) (made : A → Value) (x : Value × List ℕ) where
  step : ((y : A × List ℕ) → read ≡ Ok y → TakesScalar k bytes (made y.0, y.1)) → (read >>= λ y. Ok (made y.0, y.1)) ≡ Ok x → TakesScalar k bytes x
  step takes e =
      let y = bind_ok read (λ y. Ok (made y.0, y.1)) x e in
      subst (TakesScalar k bytes) (ok_is (made y.0.0, y.0.1) x y.2) (takes y.0 y.1)

signed_takes : (w : Width) (limit : ℕ) (wide : IsWide w limit) → ((n : ℕ) → n < limit → n < 2 ^ bits w) → (total : ℕ) (bytes : List ℕ) (y : ℕ × List ℕ) → IsBytes bytes → number total w bytes ≡ Ok y
    → Takes bytes (to_le_bytes w (cast_unsigned w (cast_signed w y.0))) y.1 × FitsSigned w (cast_signed w y.0)
signed_takes w limit wide fits_bits total bytes y fits e =
    let t = number_takes total w limit wide bytes y fits e in
    let lt = fits_bits y.0 t.1 in
    (rw (of_z-to_z w y.0 lt) t.0, sfits_to_z (Fits-of_lt lt))

pub scalar_takes : (total : ℕ) (k : Scalar) (bytes : List ℕ) (x : Value × List ℕ) → IsBytes bytes → scalar_at total k bytes ≡ Ok x → TakesScalar k bytes x
scalar_takes total s.Str bytes x fits e = step (List ℕ) s.Str bytes (string total bytes) Str x (λ y h. let t = string_takes total bytes y fits h in (t.0, (t.1, t.2))) e
scalar_takes total s.Bool bytes x fits e = step Bool s.Bool bytes (truth total bytes) Truth x (λ y h. (truth_takes total bytes y fits h, tt)) e
scalar_takes total s.Id bytes x fits e = step (List ℕ) s.Id bytes (unit total 16 bytes) Id x (λ y h. let t = unit_takes total 16 bytes y fits h in (t.takes, t.sized)) e
scalar_takes total s.Addr bytes x fits e = step ℕ s.Addr bytes (number total w64 bytes) Number x (λ y h. number_takes total w64 (2 ^ 64) wide64 bytes y fits h) e
scalar_takes total s.Offset bytes x fits e = step Place s.Offset bytes (offset total bytes) At x (λ y h. let t = offset_takes total bytes y fits h in (t.0, (t.1, t.2))) e
scalar_takes total s.I8 bytes x fits e =
    step ℕ s.I8 bytes (byte total bytes) (λ n. Signed (cast_signed w8 n)) x (λ y h.
    let t = byte_takes total bytes y fits h in (rw (of_z-to_z w8 y.0 t.1) t.0, sfits_to_z (Fits-of_lt t.1))) e
scalar_takes total s.I16 bytes x fits e = step ℕ s.I16 bytes (number total w16 bytes) (λ n. Signed (cast_signed w16 n)) x (λ y h. signed_takes w16 (2 ^ 16) wide16 (λ n lt. lt) total bytes y fits h) e
scalar_takes total s.I32 bytes x fits e = step ℕ s.I32 bytes (number total w32 bytes) (λ n. Signed (cast_signed w32 n)) x (λ y h. signed_takes w32 (2 ^ 32) wide32 (λ n lt. lt) total bytes y fits h) e
scalar_takes total s.I64 bytes x fits e = step ℕ s.I64 bytes (number total w64 bytes) (λ n. Signed (cast_signed w64 n)) x (λ y h. signed_takes w64 (2 ^ 64) wide64 (λ n lt. lt) total bytes y fits h) e
scalar_takes total s.U8 bytes x fits e = step ℕ s.U8 bytes (byte total bytes) Number x (λ y h. byte_takes total bytes y fits h) e
scalar_takes total s.U16 bytes x fits e = step ℕ s.U16 bytes (number total w16 bytes) Number x (λ y h. number_takes total w16 (2 ^ 16) wide16 bytes y fits h) e
scalar_takes total s.U32 bytes x fits e = step ℕ s.U32 bytes (number total w32 bytes) Number x (λ y h. number_takes total w32 (2 ^ 32) wide32 bytes y fits h) e
scalar_takes total s.U64 bytes x fits e = step ℕ s.U64 bytes (number total w64 bytes) Number x (λ y h. number_takes total w64 (2 ^ 64) wide64 bytes y fits h) e
scalar_takes total s.Four bytes x fits e = step ℕ s.Four bytes (number total w32 bytes) Four x (λ y h. number_takes total w32 (2 ^ 32) wide32 bytes y fits h) e
scalar_takes total s.Eight bytes x fits e = step ℕ s.Eight bytes (number total w64 bytes) Eight x (λ y h. number_takes total w64 (2 ^ 64) wide64 bytes y fits h) e

pub scalar_again : (total : ℕ) (k : Scalar) (x : Value) (rest : List ℕ) → ScalarHasType k x → scalar_at total k (scalar_spelling k x ++ rest) ≡ Ok (x, rest)
scalar_again total s.Str (Str text) rest h = rw (string_again total text rest h.0 h.1) refl
scalar_again total s.Bool (Truth b) rest h = rw (truth_again total b rest) refl
scalar_again total s.Id (Id id) rest h = rw (unit_again total id rest 16 h) refl
scalar_again total s.Addr (Number n) rest h = rw (number_again total w64 (2 ^ 64) wide64 n rest h) refl
scalar_again total s.Offset (At p) rest h = rw (offset_again total p rest h.0 h.1) refl
scalar_again total s.I8 (Signed z) rest h = ap (λ (z : ℤ). Ok (Signed z, rest)) (to_z-of_z w8 z h)
scalar_again total s.I16 (Signed z) rest h = rw (number_again total w16 (2 ^ 16) wide16 (cast_unsigned w16 z) rest (Fits-lt-pow (Fits-of_z h)), to_z-of_z w16 z h) refl
scalar_again total s.I32 (Signed z) rest h = rw (number_again total w32 (2 ^ 32) wide32 (cast_unsigned w32 z) rest (Fits-lt-pow (Fits-of_z h)), to_z-of_z w32 z h) refl
scalar_again total s.I64 (Signed z) rest h = rw (number_again total w64 (2 ^ 64) wide64 (cast_unsigned w64 z) rest (Fits-lt-pow (Fits-of_z h)), to_z-of_z w64 z h) refl
scalar_again total s.U8 (Number n) rest h = refl
scalar_again total s.U16 (Number n) rest h = rw (number_again total w16 (2 ^ 16) wide16 n rest h) refl
scalar_again total s.U32 (Number n) rest h = rw (number_again total w32 (2 ^ 32) wide32 n rest h) refl
scalar_again total s.U64 (Number n) rest h = rw (number_again total w64 (2 ^ 64) wide64 n rest h) refl
scalar_again total s.Four (Four n) rest h = rw (number_again total w32 (2 ^ 32) wide32 n rest h) refl
scalar_again total s.Eight (Eight n) rest h = rw (number_again total w64 (2 ^ 64) wide64 n rest h) refl
scalar_again total _ _ rest h = absurd h
