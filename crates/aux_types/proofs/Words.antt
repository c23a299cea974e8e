-- The words of names: which one a word is, and that no other word names the same.
use Rattle.std.proofs.Common.{◌≡◌, ℕ, suc, ◌+◌, ◌⊎◌, Bool, true, false, eqb, List, [], ◌∷◌, ◌++◌, length, Some, None, refl, sym, subst, ◌∙◌, inl, inr, arith, rules}
use Rattle.std.specs.List.{find, prefix_len}
use Rattle.std.specs.Str.{bytes_eq}
use Rattle.std.proofs.lemmas.List.{take-append-drop, take_at, drop_at}
use Rattle.std.proofs.lemmas.List.Folds.{prefix_len-append}
use Rattle.std.proofs.lemmas.Slice.Eq.{bytes_eq-Decides}
use Rattle.aux_types.specs.declared.name.Scalar.{Scalar}
use Rattle.aux_types.specs.declared.name.Scalar.TheVariants as s
use Rattle.aux_types.specs.declared.name.Container.{Container}
use Rattle.aux_types.specs.declared.name.Container.TheVariants as c
use Rattle.aux_types.specs.declared.name.TheConstants.{SCALARS, CONTAINERS}
use Rattle.aux_types.specs.Names.{scalar_text, container_text, scalar_named, container_named, is_word_byte}
use Rattle.aux_types.specs.Reading.{word, after_word}
use Rattle.aux_types.proofs.Steps.{chosen}

find_passes : {X : Type 0} (p : X → Bool) (xs : List X) (x : X) → find p xs ≡ Some x → p x ≡ true
find_passes p [] x e = absurd cc
find_passes p (y ∷ ys) x e =
    elim (chosen (p y) (Some y) (find p ys) (Some x) e) [
      | inl h ↦ let same : y ≡ x = cc in subst (λ z. p z ≡ true) same h.0
      | inr h ↦ find_passes p ys x h.1
    ]

pub scalar_is : (w : List ℕ) (k : Scalar) → scalar_named w ≡ Some k → scalar_text k ≡ w
unfolding scalar_named
scalar_is w k e = (bytes_eq-Decides (scalar_text k) w).0 (find_passes (λ j. bytes_eq (scalar_text j) w) SCALARS k e)

pub container_is : (w : List ℕ) (k : Container) → container_named w ≡ Some k → container_text k ≡ w
unfolding container_named
container_is w k e = (bytes_eq-Decides (container_text k) w).0 (find_passes (λ j. bytes_eq (container_text j) w) CONTAINERS k e)

pub scalar_again : (k : Scalar) → scalar_named (scalar_text k) ≡ Some k
unfolding scalar_named
scalar_again s.Str = refl
scalar_again s.Bool = refl
scalar_again s.Id = refl
scalar_again s.Addr = refl
scalar_again s.Offset = refl
scalar_again s.I8 = refl
scalar_again s.I16 = refl
scalar_again s.I32 = refl
scalar_again s.I64 = refl
scalar_again s.U8 = refl
scalar_again s.U16 = refl
scalar_again s.U32 = refl
scalar_again s.U64 = refl
scalar_again s.Four = refl
scalar_again s.Eight = refl

pub container_again : (k : Container) → container_named (container_text k) ≡ Some k
unfolding container_named
container_again c.Sequence = refl
container_again c.Set = refl
container_again c.Mapping = refl
container_again c.Tuple = refl
container_again c.Variant = refl

pub container_no_scalar : (k : Container) → scalar_named (container_text k) ≡ None
unfolding scalar_named
container_no_scalar c.Sequence = refl
container_no_scalar c.Set = refl
container_no_scalar c.Mapping = refl
container_no_scalar c.Tuple = refl
container_no_scalar c.Variant = refl

-- each byte of it belongs to a word
abbrev pub IsWord : List ℕ → Type 0
IsWord w = prefix_len is_word_byte w ≡ length w

pub scalar_word : (k : Scalar) → IsWord (scalar_text k)
scalar_word s.Str = refl
scalar_word s.Bool = refl
scalar_word s.Id = refl
scalar_word s.Addr = refl
scalar_word s.Offset = refl
scalar_word s.I8 = refl
scalar_word s.I16 = refl
scalar_word s.I32 = refl
scalar_word s.I64 = refl
scalar_word s.U8 = refl
scalar_word s.U16 = refl
scalar_word s.U32 = refl
scalar_word s.U64 = refl
scalar_word s.Four = refl
scalar_word s.Eight = refl

pub container_word : (k : Container) → IsWord (container_text k)
container_word c.Sequence = refl
container_word c.Set = refl
container_word c.Mapping = refl
container_word c.Tuple = refl
container_word c.Variant = refl

pub word_parts : (bytes : List ℕ) → bytes ≡ word bytes ++ after_word bytes
word_parts bytes = sym (take-append-drop (prefix_len is_word_byte bytes) bytes)

-- no word goes on here
abbrev pub EndsWord : List ℕ → Type 0
EndsWord rest = prefix_len is_word_byte rest ≡ 0

either : (x : Bool) → (x ≡ true) ⊎ (x ≡ false)
either true = inl refl
either false = inr refl

pub after_ends : (bytes : List ℕ) → EndsWord (after_word bytes)
after_ends [] = refl
after_ends (b ∷ bytes) =
    elim (either (is_word_byte b)) [
      | inl h ↦
          let one : 1 + prefix_len is_word_byte bytes ≡ suc (prefix_len is_word_byte bytes) = omega arith in
          rw (h, one) (after_ends bytes)
      | inr h ↦ rw (h, h) refl
    ]

eqb-refl : (n : ℕ) → eqb n n ≡ true
eqb-refl n = search rules

word_len : (w rest : List ℕ) → IsWord w → EndsWord rest → prefix_len is_word_byte (w ++ rest) ≡ length w
word_len w rest h e =
    prefix_len-append is_word_byte w rest ∙ rw (h, eqb-refl, e) (omega arith)

pub word_again : (w rest : List ℕ) → IsWord w → EndsWord rest → word (w ++ rest) ≡ w
word_again w rest h e = rw (word_len w rest h e) (take_at w rest (length w) refl)

pub after_word_again : (w rest : List ℕ) → IsWord w → EndsWord rest → after_word (w ++ rest) ≡ rest
after_word_again w rest h e = rw (word_len w rest h e) (drop_at w rest (length w) refl)
