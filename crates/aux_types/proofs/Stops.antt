-- Where a reader stops: what stood before begins what it reads, and it stops there at the same token whatever follows.
use Rattle.std.proofs.Common.{◌≡◌, ℕ, zero, suc, ◌+◌, ◌-◌, ◌<◌, Bool, true, false, cond, eqb, List, [], ◌∷◌, ◌++◌, length, take, drop, Result, Ok, Err, refl, sym, ap, subst, ◌∙◌, ◌⊎◌, inl, inr, append_assoc, arith}
use Rattle.std.specs.List.{prefix_len}
use Rattle.std.proofs.lemmas.List.{append-nil}
use Rattle.aux_types.specs.declared.fault.TypeFault.{TypeFault}
use Rattle.aux_types.specs.declared.fault.TypeFault.TheVariants.{NotAType, Deep}
use Rattle.aux_types.specs.Faults.{place_of, SameToken}
use Rattle.aux_types.specs.Gives.{◌>>=◌}
use Rattle.aux_types.specs.Names.{is_word_byte}
use Rattle.aux_types.specs.Reading.{word, expect, separator}
use Rattle.aux_types.proofs.Steps.{chosen, no_fault, err_is}
use Rattle.aux_types.proofs.Words.{EndsWord}

-- ---- tokens

ends_head : (b : ℕ) (one other : List ℕ) → EndsWord (b ∷ one) → EndsWord (b ∷ other)
ends_head b one other e =
    elim (chosen (is_word_byte b) (1 + prefix_len is_word_byte one) 0 0 e) [
      | inl h ↦ absurd (omega (arith, h.1))
      | inr h ↦ rw h.0 refl
    ]

-- whether a word goes on is seen from the token
pub ends_alike : (front one other : List ℕ) → SameToken one other → EndsWord (front ++ one) → EndsWord (front ++ other)
ends_alike [] [] other same e = rw same e
ends_alike [] (b ∷ one) [] same e = absurd same
ends_alike [] (b ∷ one) (d ∷ other) same e = subst (λ (x : ℕ). EndsWord (x ∷ other)) (sym same.0) (ends_head b one other e)
ends_alike (b ∷ front) one other same e = ends_head b (front ++ one) (front ++ other) e

pub same_word : (one other : List ℕ) → SameToken one other → word other ≡ word one
same_word [] other same = ap word same
same_word (b ∷ one) [] same = absurd same
same_word (b ∷ one) (d ∷ other) same = same.1

-- ---- readers

-- a reader of a text of so many bytes stops in these, with this fault
pub record Stops {A : Type 0} (Whole : List ℕ → Type 0) (reader : ℕ → List ℕ → Result A TypeFault) (total : ℕ) (bytes : List ℕ) (fault : TypeFault) : Type 0 where
  pub front : List ℕ
  pub rest : List ℕ
  pub parts : bytes ≡ front ++ rest
  pub kind : ℕ → TypeFault
  pub placed : (n : ℕ) → place_of (kind n) ≡ n
  pub at : fault ≡ kind (total - length rest)
  pub more : List ℕ
  pub whole : Whole (front ++ more)
  pub stays : (other : List ℕ) (n : ℕ) → SameToken rest other → reader n (front ++ other) ≡ Err (kind (n - length other))

module _ {A B : Type 0} (Whole Then : List ℕ → Type 0) (first : ℕ → List ℕ → Result A TypeFault) (next : ℕ → A → Result B TypeFault) (total : ℕ) (bytes : List ℕ) (fault : TypeFault) where
  -- the first step stops
  pub first_stops : Stops Whole first total bytes fault → ((text : List ℕ) → Whole text → (tail : List ℕ) × Then (text ++ tail)) → Stops Then (λ n b. first n b >>= next n) total bytes fault
  first_stops h follow =
      let t = follow (h.front ++ h.more) h.whole in record {
        front = h.front;
        rest = h.rest;
        parts = h.parts;
        kind = h.kind;
        placed = h.placed;
        at = h.at;
        more = h.more ++ t.0;
        whole = subst Then (append_assoc h.front h.more t.0) t.1;
        stays = λ other n same. rw (h.stays other n same) refl;
      }

module _ {A B : Type 0} (Whole Then : List ℕ → Type 0) (first : ℕ → List ℕ → Result A TypeFault) (next : ℕ → A → Result B TypeFault) (found : List ℕ → A) (taken left bytes : List ℕ) (total : ℕ) (fault : TypeFault) where
  -- the second step stops, behind what the first took
  pub second_stops : bytes ≡ taken ++ left
      → ((other : List ℕ) (n : ℕ) → (EndsWord left → EndsWord other) → first n (taken ++ other) ≡ Ok (found other))
      → Stops Whole (λ n b. next n (found b)) total left fault
      → ((text : List ℕ) → Whole text → (tail : List ℕ) × Then (taken ++ (text ++ tail))) → Stops Then (λ n b. first n b >>= next n) total bytes fault
  second_stops parts again h follow =
      let t = follow (h.front ++ h.more) h.whole in
      let joined : taken ++ ((h.front ++ h.more) ++ t.0) ≡ (taken ++ h.front) ++ (h.more ++ t.0) = simp append_assoc in
      record {
        front = taken ++ h.front;
        rest = h.rest;
        parts = parts ∙ ap (λ (b : List ℕ). taken ++ b) h.parts ∙ sym (append_assoc taken h.front h.rest);
        kind = h.kind;
        placed = h.placed;
        at = h.at;
        more = h.more ++ t.0;
        whole = subst Then joined t.1;
        stays = λ other n same.
            let ends : EndsWord left → EndsWord (h.front ++ other) = λ e. ends_alike h.front h.rest other same (subst EndsWord h.parts e) in
            ap (λ (b : List ℕ). first n b >>= next n) (append_assoc taken h.front other) ∙ rw (again (h.front ++ other) n ends) (h.stays other n same);
      }

-- a value is made of what was read
pub mapped : {A B : Type 0} (Whole : List ℕ → Type 0) (first : ℕ → List ℕ → Result A TypeFault) (make : A → B) (total : ℕ) (bytes : List ℕ) (fault : TypeFault) → Stops Whole first total bytes fault → Stops Whole (λ n b. first n b >>= λ x. Ok (make x)) total bytes fault
mapped Whole first make total bytes fault h = first_stops Whole Whole first (λ n x. Ok (make x)) total bytes fault h (λ text w. ([], subst Whole (sym (append-nil text)) w))

-- a reader that does the same
pub same_reader : {A : Type 0} (Whole : List ℕ → Type 0) (one other : ℕ → List ℕ → Result A TypeFault) (total : ℕ) (bytes : List ℕ) (fault : TypeFault) → ((n : ℕ) (b : List ℕ) → one n b ≡ other n b) → Stops Whole one total bytes fault → Stops Whole other total bytes fault
same_reader Whole one other total bytes fault same h = record {
  front = h.front;
  rest = h.rest;
  parts = h.parts;
  kind = h.kind;
  placed = h.placed;
  at = h.at;
  more = h.more;
  whole = h.whole;
  stays = λ text n alike. sym (same n (h.front ++ text)) ∙ h.stays text n alike;
}

-- ---- single bytes

no_mark : (byte n : ℕ) (bytes other : List ℕ) (b : ℕ) → eqb b byte ≡ false → SameToken (b ∷ bytes) other → expect n byte other ≡ Err (NotAType (n - length other))
no_mark byte n bytes [] b differs same = absurd same
no_mark byte n bytes (d ∷ other) b differs same = rw (same.0, differs) refl

pub expect_stops : (byte total : ℕ) (bytes : List ℕ) (fault : TypeFault) → expect total byte bytes ≡ Err fault → Stops (λ text. text ≡ byte ∷ []) (λ n b. expect n byte b) total bytes fault
expect_stops byte total [] fault e = record {
  front = [];
  rest = [];
  parts = refl;
  kind = NotAType;
  placed = λ n. refl;
  at = sym (err_is {A = List ℕ} (NotAType (total - 0)) fault e);
  more = byte ∷ [];
  whole = refl;
  stays = λ other n same. rw same refl;
}
expect_stops byte total (b ∷ bytes) fault e =
    elim (chosen (eqb b byte) (Ok bytes) (Err (NotAType (total - length (b ∷ bytes)))) (Err fault) e) [
      | inl h ↦ absurd (no_fault bytes fault h.1)
      | inr h ↦ record {
        front = [];
        rest = b ∷ bytes;
        parts = refl;
        kind = NotAType;
        placed = λ n. refl;
        at = sym (err_is {A = List ℕ} (NotAType (total - length (b ∷ bytes))) fault h.1);
        more = byte ∷ [];
        whole = refl;
        stays = λ other n same. no_mark byte n bytes other b h.0 same;
      }
    ]

no_separator : (n : ℕ) (bytes other : List ℕ) (b : ℕ) → eqb b 44 ≡ false → eqb b 62 ≡ false → SameToken (b ∷ bytes) other → separator n other ≡ Err (NotAType (n - length other))
no_separator n bytes [] b comma close same = absurd same
no_separator n bytes (d ∷ other) b comma close same = rw (same.0, comma, close) refl

pub separator_stops : (total : ℕ) (bytes : List ℕ) (fault : TypeFault) → separator total bytes ≡ Err fault → Stops (λ text. text ≡ 62 ∷ []) separator total bytes fault
separator_stops total [] fault e = record {
  front = [];
  rest = [];
  parts = refl;
  kind = NotAType;
  placed = λ n. refl;
  at = sym (err_is {A = Bool × List ℕ} (NotAType (total - 0)) fault e);
  more = 62 ∷ [];
  whole = refl;
  stays = λ other n same. rw same refl;
}
separator_stops total (b ∷ bytes) fault e =
    elim (chosen (eqb b 44) (Ok (true, bytes)) (cond (eqb b 62) (Ok (false, bytes)) (Err (NotAType (total - length (b ∷ bytes))))) (Err fault) e) [
      | inl h ↦ absurd (no_fault (true, bytes) fault h.1)
      | inr h ↦
          elim (chosen (eqb b 62) (Ok (false, bytes)) (Err (NotAType (total - length (b ∷ bytes)))) (Err fault) h.1) [
            | inl k ↦ absurd (no_fault (false, bytes) fault k.1)
            | inr k ↦ record {
              front = [];
              rest = b ∷ bytes;
              parts = refl;
              kind = NotAType;
              placed = λ n. refl;
              at = sym (err_is {A = Bool × List ℕ} (NotAType (total - length (b ∷ bytes))) fault k.1);
              more = 62 ∷ [];
              whole = refl;
              stays = λ other n same. no_separator n bytes other b h.0 k.0 same;
            }
          ]
    ]
