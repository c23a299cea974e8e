-- The two laws: what is read is spelled so, and what is spelled so is read.
use Rattle.std.proofs.Common.{◌≡◌, ℕ, ◌+◌, ◌≤◌, true, eqb, List, [], ◌++◌, length, drop, Result, Ok, Err, refl, sym, ap, subst, ◌∙◌, eq-eqb, ◌⊎◌, inl, inr, arith}
use Rattle.std.specs.Prelude.{nat_eq, IfOk}
use Rattle.std.specs.List.{flat_map, starts_with}
use Rattle.std.proofs.lemmas.Bool.{eqb-true, cases_lt}
use Rattle.std.proofs.lemmas.Bool.Decides.{Decides-eqb}
use Rattle.std.proofs.lemmas.List.{append-nil, get_or_past, length-append, length-drop, drop_all}
use Rattle.std.proofs.lemmas.List.Elements.{All-weaker}
use Rattle.std.proofs.lemmas.Slice.Eq.{starts_is}
use Rattle.gr_base.specs.declared.end.End.{End}
use Rattle.bare_image.specs.declared.fault.ImageFault.{ImageFault}
use Rattle.bare_image.specs.declared.image.Image.{Image}
use Rattle.bare_image.specs.declared.image.Segment.{Segment}
use Rattle.bare_image.specs.Spelling.{magic, word, segment, spelling}
use Rattle.bare_image.specs.Valid.{AreBytes, IsSegment, image_ok, image_bytes}
use Rattle.bare_image.specs.Reading.{◌>>=◌, kept, field_at, is_entry, is_stack_address, is_stack_size, is_count, segments_at, image_of, image_fault, Gives}
use Rattle.bare_image.proofs.Places.{IsBytes, bind_ok, kept_ok, StandsAt-from, field_stands, field_again}
use Rattle.bare_image.proofs.RuleTests.{entry_says, entry_passes, stack_says, stack_address_passes, stack_size_passes, count_says, count_passes}
use Rattle.bare_image.proofs.Segments.{segments_stand, segments_again, AreApart-from_next, AreNext-from_apart}

-- the steps behind each field
abbrev made : (entry stack_at stack_size : ℕ) → List Segment → Image
made entry stack_at stack_size segments = record { entry = entry; stack_at = stack_at; stack_size = stack_size; segments = segments }

abbrev at_end : List ℕ → (entry stack_at stack_size : ℕ) → List Segment × ℕ → Result Image ImageFault
at_end bytes entry stack_at stack_size segments = kept (eqb segments.1 (length bytes)) (made entry stack_at stack_size segments.0) segments.1

abbrev behind_count : List ℕ → (entry stack_at stack_size : ℕ) → ℕ → Result Image ImageFault
behind_count bytes entry stack_at stack_size count = segments_at stack_at stack_size 4096 stack_size bytes count 40 >>= at_end bytes entry stack_at stack_size

abbrev behind_size : List ℕ → (entry stack_at : ℕ) → ℕ → Result Image ImageFault
behind_size bytes entry stack_at stack_size = field_at is_count bytes 32 >>= behind_count bytes entry stack_at stack_size

abbrev behind_address : List ℕ → (entry : ℕ) → ℕ → Result Image ImageFault
behind_address bytes entry stack_at = field_at (is_stack_size stack_at) bytes 24 >>= behind_size bytes entry stack_at

abbrev behind_entry : List ℕ → ℕ → Result Image ImageFault
behind_entry bytes entry = field_at is_stack_address bytes 16 >>= behind_address bytes entry

abbrev behind_magic : List ℕ → List ℕ → Result Image ImageFault
behind_magic bytes letters = field_at is_entry bytes 8 >>= behind_entry bytes

magic_stands : (bytes : List ℕ) → starts_with nat_eq bytes magic ≡ true → bytes ≡ magic ++ drop 8 bytes
magic_stands bytes e = (starts_is Decides-eqb bytes magic (starts_with nat_eq bytes magic) refl).0 e

magic_again : (bytes rest : List ℕ) → bytes ≡ magic ++ rest → starts_with nat_eq bytes magic ≡ true
magic_again bytes rest e = (starts_is Decides-eqb bytes magic (starts_with nat_eq bytes magic) refl).1 rest e

ok_is : (x y : Image) → ◌≡◌ {A = Result Image ImageFault} (Ok x) (Ok y) → x ≡ y
ok_is x y e = cc

-- what is read is spelled so
pub image_found : (bytes : List ℕ) (image : Image) → IsBytes bytes → image_of bytes ≡ Ok image → image_bytes image bytes
unfolding image_of word
image_found bytes image fits e =
    let m = bind_ok (kept (starts_with nat_eq bytes magic) magic 0) (behind_magic bytes) image e in
    let letters = magic_stands bytes (kept_ok (starts_with nat_eq bytes magic) magic m.0 0 m.1).0 in
    let a = bind_ok (field_at is_entry bytes 8) (behind_entry bytes) image m.2 in
    let b = bind_ok (field_at is_stack_address bytes 16) (behind_address bytes a.0) image a.2 in
    let c = bind_ok (field_at (is_stack_size b.0) bytes 24) (behind_size bytes a.0 b.0) image b.2 in
    let d = bind_ok (field_at is_count bytes 32) (behind_count bytes a.0 b.0 c.0) image c.2 in
    let s = bind_ok (segments_at b.0 c.0 4096 c.0 bytes d.0 40) (at_end bytes a.0 b.0 c.0) image d.2 in
    let k = kept_ok (eqb s.0.1 (length bytes)) (made a.0 b.0 c.0 s.0.0) image s.0.1 s.2 in
    let entry = field_stands is_entry bytes 8 a.0 fits a.1 in
    let address = field_stands is_stack_address bytes 16 b.0 fits b.1 in
    let size = field_stands (is_stack_size b.0) bytes 24 c.0 fits c.1 in
    let count = field_stands is_count bytes 32 d.0 fits d.1 in
    let stack = stack_says b.0 c.0 address.1 size.1 in
    let segments = segments_stand b.0 c.0 bytes 4096 c.0 d.0 40 s.0.0 s.0.1 fits count.0.within s.1 in
    let apart = AreApart-from_next b.0 c.0 4096 c.0 s.0.0 (omega arith) stack.size_most segments.3 in
    let end : drop s.0.1 bytes ≡ [] = drop_all s.0.1 bytes (omega (arith, eqb-true _ _ k.0)) in
    let e40 : drop 40 bytes ≡ flat_map segment s.0.0 = segments.2 ∙ ap (λ (r : List ℕ). flat_map segment s.0.0 ++ r) end ∙ append-nil (flat_map segment s.0.0) in
    let e32 : drop 32 bytes ≡ word (length s.0.0) ++ flat_map segment s.0.0 = count.0.parts ∙ ap (λ (r : List ℕ). word d.0 ++ r) e40 ∙ ap (λ (n : ℕ). word n ++ flat_map segment s.0.0) (sym segments.0) in
    let e24 = size.0.parts ∙ ap (λ (r : List ℕ). word c.0 ++ r) e32 in
    let e16 = address.0.parts ∙ ap (λ (r : List ℕ). word b.0 ++ r) e24 in
    let e8 = entry.0.parts ∙ ap (λ (r : List ℕ). word a.0 ++ r) e16 in
    let e0 : bytes ≡ spelling (made a.0 b.0 c.0 s.0.0) = letters ∙ ap (λ (r : List ℕ). magic ++ r) e8 in
    let ok : image_ok (made a.0 b.0 c.0 s.0.0) = record {
      entry_fits = entry.2;
      entry_aligned = entry_says a.0 entry.1;
      stack = stack;
      count = omega (arith, segments.0, count_says d.0 count.1);
      segments = apart.each;
      ascending = apart.ascending;
      loaded = apart.most;
    } in
    subst (λ (x : Image). image_bytes x bytes) k.1 (record { ok = ok; spelled = e0 })

-- what is spelled so is read
pub image_again : (bytes : List ℕ) (image : Image) → image_bytes image bytes → image_of bytes ≡ Ok image
unfolding image_of word
image_again bytes image h =
    let ok = h.ok in
    let stack = ok.stack in
    let all = flat_map segment image.segments in
    let r32 : List ℕ = word (length image.segments) ++ all in
    let r24 : List ℕ = word image.stack_size ++ r32 in
    let r16 : List ℕ = word image.stack_at ++ r24 in
    let r8 : List ℕ = word image.entry ++ r16 in
    let e8 : drop 8 bytes ≡ r8 = sym (StandsAt-from bytes 0 magic r8 (omega arith) h.spelled).1 in
    let e16 : drop 16 bytes ≡ r16 = sym (StandsAt-from bytes 8 (word image.entry) r16 (omega arith) e8).1 in
    let e24 : drop 24 bytes ≡ r24 = sym (StandsAt-from bytes 16 (word image.stack_at) r24 (omega arith) e16).1 in
    let e32 : drop 32 bytes ≡ r32 = sym (StandsAt-from bytes 24 (word image.stack_size) r32 (omega arith) e24).1 in
    let p32 = StandsAt-from bytes 32 (word (length image.segments)) all (omega arith) e32 in
    let e40 : drop 40 bytes ≡ all ++ [] = sym p32.1 ∙ sym (append-nil all) in
    let next = AreNext-from_apart image.stack_at image.stack_size 4096 image.stack_size image.segments (record {
      each = ok.segments;
      above = All-weaker (IsSegment image.stack_at image.stack_size) (λ s. 4096 ≤ s.at) (λ s i. i.low) image.segments ok.segments;
      ascending = ok.ascending;
      most = ok.loaded;
    }) in
    let end : eqb (40 + length all) (length bytes) ≡ true = eq-eqb (40 + length all) (length bytes) (omega (arith, ap length e40, length-drop 40 bytes, length-append all [], p32.0.within)) in
    rw (
      magic_again bytes r8 h.spelled,
      field_again is_entry bytes 8 image.entry r16 ok.entry_fits (entry_passes image.entry ok.entry_aligned) e8,
      field_again is_stack_address bytes 16 image.stack_at r24 (omega (arith, stack.end_high)) (stack_address_passes image.stack_at image.stack_size stack) e16,
      field_again (is_stack_size image.stack_at) bytes 24 image.stack_size r32 (omega (arith, stack.size_most)) (stack_size_passes image.stack_at image.stack_size stack) e24,
      field_again is_count bytes 32 (length image.segments) all (omega (arith, ok.count)) (count_passes (length image.segments) ok.count) e32,
      segments_again image.stack_at image.stack_size bytes 4096 image.stack_size 40 image.segments [] next e40,
      end,
    ) refl

pub gives_found : (bytes : List ℕ) (result : Result Image (End ImageFault)) → IsBytes bytes → Gives (λ image. image) result (image_of bytes) → IfOk result (λ image. image_bytes image bytes)
gives_found bytes (Ok image) fits e = image_found bytes image fits e
gives_found bytes (Err x) fits e = tt

ok_is_apart : (image : Image) (place : ℕ) (read : Result Image ImageFault) → read ≡ Ok image → read ≡ Err (record { place = place }) → ⊥
ok_is_apart image place read e f = absurd cc

pub apart : (bytes : List ℕ) (image : Image) (place : ℕ) → image_bytes image bytes → image_fault bytes place → ⊥
apart bytes image place spelled fault = ok_is_apart image place (image_of bytes) (image_again bytes image spelled) fault

pub one_image : (a b : Image) (bytes : List ℕ) → image_bytes a bytes → image_bytes b bytes → a ≡ b
one_image a b bytes p q = ok_is a b (sym (image_again bytes a p) ∙ image_again bytes b q)

IsBytes-from_all : (bytes : List ℕ) → AreBytes bytes → IsBytes bytes
IsBytes-from_all bytes all i =
    elim (cases_lt i (length bytes)) [
      | inl lt ↦ all i 0 lt
      | inr le ↦ rw (get_or_past bytes i 0 le) (omega arith)
    ]

pub reading_found : (bytes : List ℕ) (image : Image) → AreBytes bytes → image_of bytes ≡ Ok image → image_bytes image bytes
reading_found bytes image are e = image_found bytes image (IsBytes-from_all bytes are) e

either : (bytes : List ℕ) (read : Result Image ImageFault) → image_of bytes ≡ read → IsBytes bytes → ((image : Image) × image_bytes image bytes) ⊎ ((place : ℕ) × image_fault bytes place)
either bytes (Ok image) e fits = inl (image, image_found bytes image fits e)
either bytes (Err fault) e fits = inr (fault.place, e)

pub image_or_fault : (bytes : List ℕ) → AreBytes bytes → ((image : Image) × image_bytes image bytes) ⊎ ((place : ℕ) × image_fault bytes place)
image_or_fault bytes are = either bytes (image_of bytes) refl (IsBytes-from_all bytes are)
