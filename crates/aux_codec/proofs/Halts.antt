-- Where a reader halts: the bytes before that place call for more, and a final fault stays whatever follows.
use Rattle.std.proofs.Common.{◌≡◌, ℕ, zero, suc, ◌^◌, ◌<◌, Bool, true, false, cond, ltb, eqb, List, [], ◌∷◌, ◌++◌, length, take, drop, Result, Ok, Err, refl, sym, ap, subst, ◌∙◌, ◌⊎◌, inl, inr, append_assoc, arith}
use Rattle.std.specs.Int.{Width, w8, w16, w32, w64, byte_len, from_le_bytes, to_le_bytes, cast_signed}
use Rattle.std.specs.Str.{is_utf8}
use Rattle.std.proofs.lemmas.Bool.{ltb-true, lt-ltb}
use Rattle.std.proofs.lemmas.Str.{IsUtf8-nil, is_utf8-from_IsUtf8}
use Rattle.gr_base.specs.declared.aux_fault.AuxFault.{AuxFault}
use Rattle.gr_base.specs.declared.aux_fault.AuxFault.TheVariants.{Short, Rest, BadBool, BadUtf8}
use Rattle.aux_types.specs.declared.name.Scalar.{Scalar}
use Rattle.aux_types.specs.declared.name.Scalar.TheVariants as s
use Rattle.aux_types.specs.Gives.{◌>>=◌}
use Rattle.aux_codec.specs.declared.value.Place.{Place}
use Rattle.aux_codec.specs.Value.{Value, Str, Truth, Id, Number, Signed, At, Four, Eight}
use Rattle.aux_codec.specs.Faults.{place_of, IsFinal}
use Rattle.aux_codec.specs.Reading.{Read, place, unit, number, byte, truth, string, offset, scalar_at}
use Rattle.aux_codec.proofs.Units.{IsBytes, Takes, chosen, wide64, bind_err, no_value, err_is, unit_takes, unit_again, number_takes, number_again}

-- any fault but that of bytes left over
abbrev pub IsOfValue : AuxFault → Type 0
IsOfValue (Rest n) = ⊥
IsOfValue _ = Unit {0}

pub record Halts {A : Type 0} (reader : ℕ → List ℕ → Result A AuxFault) (total : ℕ) (bytes : List ℕ) (fault : AuxFault) : Type 0 where
  pub front : List ℕ
  pub rest : List ℕ
  pub parts : bytes ≡ front ++ rest
  pub kind : ℕ → AuxFault
  pub placed : (n : ℕ) → place_of (kind n) ≡ n
  pub of_value : (n : ℕ) → IsOfValue (kind n)
  pub at : fault ≡ kind (place total rest)
  pub short : (n : ℕ) → reader n front ≡ Err (Short (place n []))
  pub stays : IsFinal fault → (more : List ℕ) (n : ℕ) → reader n (bytes ++ more) ≡ Err (kind (place n (rest ++ more)))

-- a reader that does the same
pub same_reader : {A : Type 0} (one other : ℕ → List ℕ → Result A AuxFault) (total : ℕ) (bytes : List ℕ) (fault : AuxFault) → ((n : ℕ) (b : List ℕ) → one n b ≡ other n b) → Halts one total bytes fault → Halts other total bytes fault
same_reader one other total bytes fault same h = record {
  front = h.front;
  rest = h.rest;
  parts = h.parts;
  kind = h.kind;
  placed = h.placed;
  of_value = h.of_value;
  at = h.at;
  short = λ n. sym (same n h.front) ∙ h.short n;
  stays = λ final more n. sym (same n (bytes ++ more)) ∙ h.stays final more n;
}

module _ {A B : Type 0} (first : ℕ → List ℕ → Result A AuxFault) (next : ℕ → List ℕ → A → Result B AuxFault) (total : ℕ) (bytes : List ℕ) (fault : AuxFault) where
  -- the first step halts
  pub first_halts : Halts first total bytes fault → Halts (λ n b. first n b >>= next n b) total bytes fault
  first_halts h = record {
    front = h.front;
    rest = h.rest;
    parts = h.parts;
    kind = h.kind;
    placed = h.placed;
    of_value = h.of_value;
    at = h.at;
    short = λ n. rw (h.short n) refl;
    stays = λ final more n. rw (h.stays final more n) refl;
  }

module _ {A B : Type 0} (first : ℕ → List ℕ → Result A AuxFault) (next : ℕ → List ℕ → A → Result B AuxFault) (found : List ℕ → A) (taken left bytes : List ℕ) (total : ℕ) (fault : AuxFault) where
  -- the second step halts, behind what the first took
  pub second_halts : bytes ≡ taken ++ left → ((other : List ℕ) (n : ℕ) → first n (taken ++ other) ≡ Ok (found other)) → Halts (λ n b. next n (taken ++ b) (found b)) total left fault → Halts (λ n b. first n b >>= next n b) total bytes fault
  second_halts parts again h = record {
    front = taken ++ h.front;
    rest = h.rest;
    parts = parts ∙ ap (λ (b : List ℕ). taken ++ b) h.parts ∙ sym (append_assoc taken h.front h.rest);
    kind = h.kind;
    placed = h.placed;
    of_value = h.of_value;
    at = h.at;
    short = λ n. rw (again h.front n) (h.short n);
    stays = λ final more n.
        let whole : bytes ++ more ≡ taken ++ (left ++ more) = ap (λ (b : List ℕ). b ++ more) parts ∙ append_assoc taken left more in
        ap (λ (b : List ℕ). first n b >>= next n b) whole ∙ rw (again (left ++ more) n) (h.stays final more n);
  }

-- a value is made of what was read
pub mapped : {A B : Type 0} (first : ℕ → List ℕ → Result A AuxFault) (make : A → B) (total : ℕ) (bytes : List ℕ) (fault : AuxFault) → Halts first total bytes fault → Halts (λ n b. first n b >>= λ x. Ok (make x)) total bytes fault
mapped first make total bytes fault h = first_halts first (λ n b x. Ok (make x)) total bytes fault h

-- ---- units

pub unit_halts : (total size : ℕ) (bytes : List ℕ) (fault : AuxFault) → unit total size bytes ≡ Err fault → Halts (λ n b. unit n size b) total bytes fault
unit_halts total size bytes fault e =
    elim (chosen (ltb (length bytes) size) (Err (Short (place total bytes))) (Ok (take size bytes, drop size bytes)) (Err fault) e) [
      | inl h ↦
          let at = sym (err_is {A = List ℕ × List ℕ} (Short (place total bytes)) fault h.1) in
          let less : length bytes < size = ltb-true _ _ h.0 in
          let some : ltb 0 size ≡ true = lt-ltb 0 size (omega arith) in
          record {
            front = [];
            rest = bytes;
            parts = refl;
            kind = Short;
            placed = λ n. refl;
            of_value = λ n. tt;
            at = at;
            short = λ n. rw some refl;
            stays = λ final more n. absurd (subst IsFinal at final);
          }
      | inr h ↦ absurd (no_value (take size bytes, drop size bytes) fault h.1)
    ]

pub number_halts : (total : ℕ) (w : Width) (bytes : List ℕ) (fault : AuxFault) → number total w bytes ≡ Err fault → Halts (λ n b. number n w b) total bytes fault
number_halts total w bytes fault e =
    elim (bind_err (unit total (byte_len w) bytes) (λ front. Ok (from_le_bytes w front.0, front.1)) fault e) [
      | inl h ↦ mapped (λ n b. unit n (byte_len w) b) (λ front. (from_le_bytes w front.0, front.1)) total bytes fault (unit_halts total (byte_len w) bytes fault h)
      | inr h ↦ absurd (no_value (from_le_bytes w h.0.0, h.0.1) fault h.2)
    ]

pub byte_halts : (total : ℕ) (bytes : List ℕ) (fault : AuxFault) → byte total bytes ≡ Err fault → Halts byte total bytes fault
byte_halts total [] fault e =
    let at = sym (err_is {A = ℕ × List ℕ} (Short (place total [])) fault e) in
    record { front = []; rest = []; parts = refl; kind = Short; placed = λ n. refl; of_value = λ n. tt; at = at; short = λ n. refl; stays = λ final more n. absurd (subst IsFinal at final) }
byte_halts total (b ∷ bytes) fault e = absurd (no_value (b, bytes) fault e)

pub truth_halts : (total : ℕ) (bytes : List ℕ) (fault : AuxFault) → truth total bytes ≡ Err fault → Halts truth total bytes fault
truth_halts total [] fault e =
    let at = sym (err_is {A = Bool × List ℕ} (Short (place total [])) fault e) in
    record { front = []; rest = []; parts = refl; kind = Short; placed = λ n. refl; of_value = λ n. tt; at = at; short = λ n. refl; stays = λ final more n. absurd (subst IsFinal at final) }
truth_halts total (b ∷ bytes) fault e =
    elim (chosen (eqb b 0) (Ok (false, bytes)) (cond (eqb b 1) (Ok (true, bytes)) (Err (BadBool (place total (b ∷ bytes))))) (Err fault) e) [
      | inl h ↦ absurd (no_value (false, bytes) fault h.1)
      | inr h ↦
          elim (chosen (eqb b 1) (Ok (true, bytes)) (Err (BadBool (place total (b ∷ bytes)))) (Err fault) h.1) [
            | inl k ↦ absurd (no_value (true, bytes) fault k.1)
            | inr k ↦ record {
              front = [];
              rest = b ∷ bytes;
              parts = refl;
              kind = BadBool;
              placed = λ n. refl;
              of_value = λ n. tt;
              at = sym (err_is {A = Bool × List ℕ} (BadBool (place total (b ∷ bytes))) fault k.1);
              short = λ n. refl;
              stays = λ final more n. rw (h.0, k.0) refl;
            }
          ]
    ]

-- ---- texts and offsets

-- a text that isn't UTF-8 has a byte
has_byte : (size : ℕ) (text : List ℕ) → length text ≡ size → is_utf8 text ≡ false → ltb 0 size ≡ true
has_byte size [] e bad = absurd (let is : true ≡ false = sym (is_utf8-from_IsUtf8 [] IsUtf8-nil) ∙ bad in cc)
has_byte size (b ∷ text) e bad = lt-ltb 0 size (omega (arith, e))

abbrev text_or_fault : ℕ → List ℕ → List ℕ × List ℕ → Read (List ℕ)
text_or_fault n bytes text = cond (is_utf8 text.0) (Ok text) (Err (BadUtf8 (place n bytes)))

content_halts : (total size : ℕ) (bytes : List ℕ) (fault : AuxFault) → IsBytes bytes → (unit total size bytes >>= text_or_fault total bytes) ≡ Err fault → Halts (λ n b. unit n size b >>= text_or_fault n b) total bytes fault
content_halts total size bytes fault fits e =
    elim (bind_err (unit total size bytes) (text_or_fault total bytes) fault e) [
      | inl h ↦ first_halts (λ n b. unit n size b) text_or_fault total bytes fault (unit_halts total size bytes fault h)
      | inr h ↦
          let p = unit_takes total size bytes h.0 fits h.1 in
          elim (chosen (is_utf8 h.0.0) (Ok h.0) (Err (BadUtf8 (place total bytes))) (Err fault) h.2) [
            | inl k ↦ absurd (no_value h.0 fault k.1)
            | inr k ↦ record {
              front = [];
              rest = bytes;
              parts = refl;
              kind = BadUtf8;
              placed = λ n. refl;
              of_value = λ n. tt;
              at = sym (err_is {A = List ℕ × List ℕ} (BadUtf8 (place total bytes)) fault k.1);
              short = λ n. rw (has_byte size h.0.0 p.sized k.0) refl;
              stays = λ final more n.
                  let whole : bytes ++ more ≡ h.0.0 ++ (h.0.1 ++ more) = ap (λ (b : List ℕ). b ++ more) p.takes.parts ∙ append_assoc h.0.0 h.0.1 more in
                  let again : unit n size (bytes ++ more) ≡ Ok (h.0.0, h.0.1 ++ more) = ap (unit n size) whole ∙ unit_again n h.0.0 (h.0.1 ++ more) size p.sized in
                  rw (again, k.0) refl;
            }
          ]
    ]

pub string_halts : (total : ℕ) (bytes : List ℕ) (fault : AuxFault) → IsBytes bytes → string total bytes ≡ Err fault → Halts string total bytes fault
unfolding string
string_halts total bytes fault fits e =
    elim (bind_err (number total w64 bytes) (λ n. unit total n.0 n.1 >>= text_or_fault total n.1) fault e) [
      | inl h ↦ first_halts (λ n b. number n w64 b) (λ n b size. unit n size.0 size.1 >>= text_or_fault n size.1) total bytes fault (number_halts total w64 bytes fault h)
      | inr h ↦
          let p = number_takes total w64 (2 ^ 64) wide64 bytes h.0 fits h.1 in
          second_halts (λ n b. number n w64 b) (λ n b size. unit n size.0 size.1 >>= text_or_fault n size.1) (λ b. (h.0.0, b)) (to_le_bytes w64 h.0.0) h.0.1 bytes total fault p.0.parts
          (λ other n. number_again n w64 (2 ^ 64) wide64 h.0.0 other p.1) (content_halts total h.0.0 h.0.1 fault p.0.left h.2)
    ]

abbrev with_offset : List ℕ → ℕ × List ℕ → Place × List ℕ
with_offset id n = (record { id = id; offset = n.0 }, n.1)

pub offset_halts : (total : ℕ) (bytes : List ℕ) (fault : AuxFault) → IsBytes bytes → offset total bytes ≡ Err fault → Halts offset total bytes fault
unfolding offset
offset_halts total bytes fault fits e =
    elim (bind_err (unit total 16 bytes) (λ id. number total w64 id.1 >>= λ n. Ok (with_offset id.0 n)) fault e) [
      | inl h ↦ first_halts (λ n b. unit n 16 b) (λ n b id. number n w64 id.1 >>= λ m. Ok (with_offset id.0 m)) total bytes fault (unit_halts total 16 bytes fault h)
      | inr h ↦
          let p = unit_takes total 16 bytes h.0 fits h.1 in
          elim (bind_err (number total w64 h.0.1) (λ n. Ok (with_offset h.0.0 n)) fault h.2) [
            | inl k ↦
                second_halts (λ n b. unit n 16 b) (λ n b id. number n w64 id.1 >>= λ m. Ok (with_offset id.0 m)) (λ b. (h.0.0, b)) h.0.0 h.0.1 bytes total fault p.takes.parts (λ other n. unit_again n h.0.0 other 16 p.sized)
                (mapped (λ n b. number n w64 b) (with_offset h.0.0) total h.0.1 fault (number_halts total w64 h.0.1 fault k))
            | inr k ↦ absurd (no_value (with_offset h.0.0 k.0) fault k.2)
          ]
    ]

-- ---- a value of a type with no types inside it

module _ {A : Type 0} (read : ℕ → List ℕ → Read A) (made : A → Value) (total : ℕ) (bytes : List ℕ) (fault : AuxFault) where
  abbrev made_of : A × List ℕ → Read Value
  made_of x = Ok (made x.0, x.1)

  made_halts : (read total bytes ≡ Err fault → Halts read total bytes fault) → (read total bytes >>= made_of) ≡ Err fault → Halts (λ n b. read n b >>= made_of) total bytes fault
  made_halts halts e =
      elim (bind_err (read total bytes) made_of fault e) [
        | inl h ↦ first_halts read (λ n b x. made_of x) total bytes fault (halts h)
        | inr h ↦ absurd (no_value (made h.0.0, h.0.1) fault h.2)
      ]

pub scalar_halts : (total : ℕ) (k : Scalar) (bytes : List ℕ) (fault : AuxFault) → IsBytes bytes → scalar_at total k bytes ≡ Err fault → Halts (λ n b. scalar_at n k b) total bytes fault
scalar_halts total s.Str bytes fault fits e = made_halts string Str total bytes fault (λ h. string_halts total bytes fault fits h) e
scalar_halts total s.Bool bytes fault fits e = made_halts truth Truth total bytes fault (λ h. truth_halts total bytes fault h) e
scalar_halts total s.Id bytes fault fits e = made_halts (λ n b. unit n 16 b) Id total bytes fault (λ h. unit_halts total 16 bytes fault h) e
scalar_halts total s.Addr bytes fault fits e = made_halts (λ n b. number n w64 b) Number total bytes fault (λ h. number_halts total w64 bytes fault h) e
scalar_halts total s.Offset bytes fault fits e = made_halts offset At total bytes fault (λ h. offset_halts total bytes fault fits h) e
scalar_halts total s.I8 bytes fault fits e = made_halts byte (λ n. Signed (cast_signed w8 n)) total bytes fault (λ h. byte_halts total bytes fault h) e
scalar_halts total s.I16 bytes fault fits e = made_halts (λ n b. number n w16 b) (λ n. Signed (cast_signed w16 n)) total bytes fault (λ h. number_halts total w16 bytes fault h) e
scalar_halts total s.I32 bytes fault fits e = made_halts (λ n b. number n w32 b) (λ n. Signed (cast_signed w32 n)) total bytes fault (λ h. number_halts total w32 bytes fault h) e
scalar_halts total s.I64 bytes fault fits e = made_halts (λ n b. number n w64 b) (λ n. Signed (cast_signed w64 n)) total bytes fault (λ h. number_halts total w64 bytes fault h) e
scalar_halts total s.U8 bytes fault fits e = made_halts byte Number total bytes fault (λ h. byte_halts total bytes fault h) e
scalar_halts total s.U16 bytes fault fits e = made_halts (λ n b. number n w16 b) Number total bytes fault (λ h. number_halts total w16 bytes fault h) e
scalar_halts total s.U32 bytes fault fits e = made_halts (λ n b. number n w32 b) Number total bytes fault (λ h. number_halts total w32 bytes fault h) e
scalar_halts total s.U64 bytes fault fits e = made_halts (λ n b. number n w64 b) Number total bytes fault (λ h. number_halts total w64 bytes fault h) e
scalar_halts total s.Four bytes fault fits e = made_halts (λ n b. number n w32 b) Four total bytes fault (λ h. number_halts total w32 bytes fault h) e
scalar_halts total s.Eight bytes fault fits e = made_halts (λ n b. number n w64 b) Eight total bytes fault (λ h. number_halts total w64 bytes fault h) e
