-- Segments one after the other, each by what the ones before have taken; and what that says of all of them.
use Rattle.std.proofs.Common.{◌≡◌, ℕ, zero, suc, ◌+◌, ◌^◌, ◌<◌, ◌≤◌, leb, List, [], ◌∷◌, ◌++◌, length, drop, Result, Ok, All, refl, sym, ap, subst, ◌∙◌, append_assoc, add_assoc, arith}
use Rattle.std.specs.Prelude.{AllPairs}
use Rattle.std.specs.List.{flat_map}
use Rattle.std.proofs.lemmas.Bool.{le-leb, leb-true}
use Rattle.std.proofs.lemmas.List.{length-append}
use Rattle.std.proofs.lemmas.List.Elements.{All-nil, All-cons, All-head, All-tail, All-weaker, All-from_get_or}
use Rattle.std.proofs.lemmas.List.Kept.{AllPairs-cons}
use Rattle.std.proofs.lemmas.List.Sums.{sum_by-cons}
use Rattle.bare_image.specs.declared.fault.ImageFault.{ImageFault}
use Rattle.bare_image.specs.declared.image.Segment.{Segment}
use Rattle.bare_image.specs.Spelling.{word, segment}
use Rattle.bare_image.specs.Valid.{AreBytes, IsSegment, end_of, loaded}
use Rattle.bare_image.specs.Reading.{◌>>=◌, field_at, content_at, is_length, segment_at, segments_at}
use Rattle.bare_image.proofs.Places.{IsBytes, bind_ok, StandsAt, StandsAt-from, StandsAt-then, field_stands, field_again, content_stands, content_again}
use Rattle.bare_image.proofs.RuleTests.{IsLength, length_says, length_passes}

-- a segment behind what is taken
pub record IsNext (stack_at stack_size least taken : ℕ) (s : Segment) : Type 0 where
  pub bytes : AreBytes s.bytes
  pub above : least ≤ s.at
  pub fits : s.at < 2 ^ 64
  pub length : IsLength stack_at stack_size s.at taken (length s.bytes)

abbrev pub AreNext : (stack_at stack_size least taken : ℕ) → List Segment → Type 0
AreNext stack_at stack_size least taken [] = Unit {0}
AreNext stack_at stack_size least taken (s ∷ segments) = IsNext stack_at stack_size least taken s × AreNext stack_at stack_size (end_of s) (taken + length s.bytes) segments

ok_is : {A : Type 0} (x y : A) → ◌≡◌ {A = Result A ImageFault} (Ok x) (Ok y) → x ≡ y
ok_is x y e = cc

module _ (stack_at stack_size : ℕ) where
  pub segment_stands : (bytes : List ℕ) (least taken place : ℕ) (s : Segment) → IsBytes bytes → segment_at stack_at stack_size least taken bytes place ≡ Ok s → StandsAt bytes place (segment s) × IsNext stack_at stack_size least taken s
  unfolding segment_at word
  segment_stands bytes least taken place s fits e =
      let a = bind_ok (field_at (leb least) bytes place) (λ at. field_at (is_length stack_at stack_size at taken) bytes (place + 8) >>= λ n. content_at bytes (place + 16) n >>= λ content. Ok (record { at = at; bytes = content })) s e in
      let b = bind_ok (field_at (is_length stack_at stack_size a.0 taken) bytes (place + 8)) (λ n. content_at bytes (place + 16) n >>= λ content. Ok (record { at = a.0; bytes = content })) s a.2 in
      let c = bind_ok (content_at bytes (place + 16) b.0) (λ content. Ok (record { at = a.0; bytes = content })) s b.2 in
      let at = field_stands (leb least) bytes place a.0 fits a.1 in
      let n = field_stands (is_length stack_at stack_size a.0 taken) bytes (place + 8) b.0 fits b.1 in
      let content = content_stands bytes (place + 16) b.0 c.0 fits c.1 in
      let there : StandsAt bytes (place + 8 + 8) c.0 = rw (add_assoc place 8 8) content.0 in
      let both : StandsAt bytes (place + 8) (word (length c.0) ++ c.0) = StandsAt-then bytes (place + 8) (word (length c.0)) c.0 (rw content.1 n.0) there in
      let all = StandsAt-then bytes place (word a.0) (word (length c.0) ++ c.0) at.0 both in
      let made : Segment = record { at = a.0; bytes = c.0 } in
      let next : IsNext stack_at stack_size least taken made = record {
        bytes = All-from_get_or (λ x. x < 256) c.0 0 (λ i h. content.2 i);
        above = leb-true _ _ at.1;
        fits = at.2;
        length = rw content.1 (length_says stack_at stack_size a.0 taken b.0 n.1);
      } in
      subst (λ (x : Segment). StandsAt bytes place (segment x) × IsNext stack_at stack_size least taken x) (ok_is made s c.2) (all, next)

  pub segment_again : (bytes : List ℕ) (least taken place : ℕ) (s : Segment) (rest : List ℕ) → IsNext stack_at stack_size least taken s → drop place bytes ≡ segment s ++ rest → segment_at stack_at stack_size least taken bytes place ≡ Ok s
  unfolding segment_at word
  segment_again bytes least taken place s rest next e =
      let after_at : List ℕ = (word (length s.bytes) ++ s.bytes) ++ rest in
      let e0 : drop place bytes ≡ word s.at ++ after_at = e ∙ append_assoc (word s.at) (word (length s.bytes) ++ s.bytes) rest in
      let p0 = StandsAt-from bytes place (word s.at) after_at (omega arith) e0 in
      let e1 : drop (place + 8) bytes ≡ word (length s.bytes) ++ (s.bytes ++ rest) = sym p0.1 ∙ append_assoc (word (length s.bytes)) s.bytes rest in
      let p1 = StandsAt-from bytes (place + 8) (word (length s.bytes)) (s.bytes ++ rest) (omega arith) e1 in
      let e2 : drop (place + 16) bytes ≡ s.bytes ++ rest = ap (λ (k : ℕ). drop k bytes) (sym (add_assoc place 8 8)) ∙ sym p1.1 in
      let l = next.length in
      rw (
        field_again (leb least) bytes place s.at after_at next.fits (le-leb least s.at next.above) e0,
        field_again (is_length stack_at stack_size s.at taken) bytes (place + 8) (length s.bytes) (s.bytes ++ rest) (omega (arith, l.high)) (length_passes stack_at stack_size s.at taken (length s.bytes) l) e1,
        content_again bytes (place + 16) s.bytes rest (omega (arith, l.some)) e2,
      ) refl

  pub segments_stand : (bytes : List ℕ) (least taken count place : ℕ) (segments : List Segment) (end : ℕ) → IsBytes bytes → place ≤ length bytes → segments_at stack_at stack_size least taken bytes count place ≡ Ok (segments, end)
      → (length segments ≡ count) × (end ≤ length bytes) × (drop place bytes ≡ flat_map segment segments ++ drop end bytes) × AreNext stack_at stack_size least taken segments
  unfolding segments_at word
  segments_stand bytes least taken zero place segments end fits within e =
      let same : ◌≡◌ {A = List Segment × ℕ} ([], place) (segments, end) = ok_is ([], place) (segments, end) e in
      subst (λ (x : List Segment × ℕ). (length x.0 ≡ 0) × (x.1 ≤ length bytes) × (drop place bytes ≡ flat_map segment x.0 ++ drop x.1 bytes) × AreNext stack_at stack_size least taken x.0) same (refl, within, refl, tt)
  segments_stand bytes least taken (suc count) place segments end fits within e =
      let a = bind_ok (segment_at stack_at stack_size least taken bytes place) (λ first. segments_at stack_at stack_size (first.at + length first.bytes) (taken + length first.bytes) bytes count (place + (16 + length first.bytes)) >>= λ others. Ok (first ∷ others.0, others.1)) (segments, end) e in
      let first = a.0 in
      let b = bind_ok (segments_at stack_at stack_size (first.at + length first.bytes) (taken + length first.bytes) bytes count (place + (16 + length first.bytes))) (λ others. Ok (first ∷ others.0, others.1)) (segments, end) a.2 in
      let stands = segment_stands bytes least taken place first fits a.1 in
      let len : length (segment first) ≡ 16 + length first.bytes = omega (arith, length-append (word first.at) (word (length first.bytes) ++ first.bytes), length-append (word (length first.bytes)) first.bytes) in
      let next_place : place + (16 + length first.bytes) ≤ length bytes = omega (arith, stands.0.within, len) in
      let others = segments_stand bytes (first.at + length first.bytes) (taken + length first.bytes) count (place + (16 + length first.bytes)) b.0.0 b.0.1 fits next_place b.1 in
      let there : drop place bytes ≡ segment first ++ drop (place + (16 + length first.bytes)) bytes = stands.0.parts ∙ ap (λ (k : ℕ). segment first ++ drop (place + k) bytes) len in
      let spelled : drop place bytes ≡ flat_map segment (first ∷ b.0.0) ++ drop b.0.1 bytes = there ∙ ap (λ (r : List ℕ). segment first ++ r) others.2 ∙ sym (append_assoc (segment first) (flat_map segment b.0.0) (drop b.0.1 bytes)) in
      subst (λ (x : List Segment × ℕ). (length x.0 ≡ suc count) × (x.1 ≤ length bytes) × (drop place bytes ≡ flat_map segment x.0 ++ drop x.1 bytes) × AreNext stack_at stack_size least taken x.0) (ok_is (first ∷ b.0.0, b.0.1) (segments, end) b.2)
      (ap suc others.0, others.1, spelled, (stands.1, others.3))

  pub segments_again : (bytes : List ℕ) (least taken place : ℕ) (segments : List Segment) (rest : List ℕ) → AreNext stack_at stack_size least taken segments → drop place bytes ≡ flat_map segment segments ++ rest
      → segments_at stack_at stack_size least taken bytes (length segments) place ≡ Ok (segments, place + length (flat_map segment segments))
  unfolding segments_at word
  segments_again bytes least taken place [] rest next e = ap (λ (k : ℕ). Ok ([], k)) (omega arith)
  segments_again bytes least taken place (s ∷ segments) rest next e =
      let e0 : drop place bytes ≡ segment s ++ (flat_map segment segments ++ rest) = e ∙ append_assoc (segment s) (flat_map segment segments) rest in
      let len : length (segment s) ≡ 16 + length s.bytes = omega (arith, length-append (word s.at) (word (length s.bytes) ++ s.bytes), length-append (word (length s.bytes)) s.bytes) in
      let p0 = StandsAt-from bytes place (segment s) (flat_map segment segments ++ rest) (omega arith) e0 in
      let e1 : drop (place + (16 + length s.bytes)) bytes ≡ flat_map segment segments ++ rest = ap (λ (k : ℕ). drop (place + k) bytes) (sym len) ∙ sym p0.1 in
      let others = segments_again bytes (s.at + length s.bytes) (taken + length s.bytes) (place + (16 + length s.bytes)) segments rest next.1 e1 in
      let end : place + (16 + length s.bytes) + length (flat_map segment segments) ≡ place + length (flat_map segment (s ∷ segments)) = omega (arith, len, length-append (segment s) (flat_map segment segments)) in
      rw (segment_again bytes least taken place s (flat_map segment segments ++ rest) next.0 e0, others) (ap (λ (k : ℕ). Ok (s ∷ segments, k)) end)

  -- what segments one after the other are altogether
  pub record AreApart (least taken : ℕ) (segments : List Segment) : Type 0 where
    pub each : All (IsSegment stack_at stack_size) segments
    pub above : All (λ s. least ≤ s.at) segments
    pub ascending : AllPairs (λ s later. end_of s ≤ later.at) segments
    pub most : taken + loaded segments ≤ 2 ^ 24

  pub AreApart-from_next : (least taken : ℕ) (segments : List Segment) → 4096 ≤ least → taken ≤ 2 ^ 24 → AreNext stack_at stack_size least taken segments → AreApart least taken segments
  AreApart-from_next least taken [] low few next = record {
    each = All-nil (IsSegment stack_at stack_size);
    above = All-nil (λ s. least ≤ s.at);
    ascending = λ i j d lt in'. absurd (omega arith);
    most = omega arith;
  }
  AreApart-from_next least taken (s ∷ segments) low few next =
      let n = next.0 in
      let l = n.length in
      let others = AreApart-from_next (end_of s) (taken + length s.bytes) segments (omega (arith, n.above)) l.most next.1 in
      record {
        each = All-cons (IsSegment stack_at stack_size) s segments (record { bytes = n.bytes; some = l.some; low = omega (arith, n.above); high = l.high; off_stack = l.off_stack }) others.each;
        above = All-cons (λ x. least ≤ x.at) s segments n.above (All-weaker (λ x. end_of s ≤ x.at) (λ x. least ≤ x.at) (λ x h. omega (arith, n.above)) segments others.above);
        ascending = AllPairs-cons (λ x later. end_of x ≤ later.at) s segments others.above others.ascending;
        most = omega (arith, others.most, sum_by-cons (λ (x : Segment). length x.bytes) s segments);
      }

  pub AreNext-from_apart : (least taken : ℕ) (segments : List Segment) → AreApart least taken segments → AreNext stack_at stack_size least taken segments
  AreNext-from_apart least taken [] apart = tt
  AreNext-from_apart least taken (s ∷ segments) apart =
      let here = All-head (IsSegment stack_at stack_size) s segments apart.each in
      let above = All-head (λ x. least ≤ x.at) s segments apart.above in
      let sum = sum_by-cons (λ (x : Segment). length x.bytes) s segments in
      let most = apart.most in (
        record {
          bytes = here.bytes;
          above = above;
          fits = omega (arith, here.high);
          length = record { some = here.some; high = here.high; off_stack = here.off_stack; most = omega (arith, sum, most) };
        },
        AreNext-from_apart (end_of s) (taken + length s.bytes) segments (record {
          each = All-tail (IsSegment stack_at stack_size) s segments apart.each;
          above = λ k d lt. apart.ascending 0 (suc k) d (omega arith) (omega arith);
          ascending = λ i j d lt in'. apart.ascending (suc i) (suc j) d (omega arith) (omega arith);
          most = omega (arith, sum, most);
        }),
      )
