-- Whether a word is a label.
use Rattle.std.proofs.Common.{◌≡◌, ◌⊎◌, ℕ, ◌<◌, Option, Some, None, List, [], ◌∷◌, inl, inr, ◌^◌, ◌≢◌, slice_index}
use Rattle.std.specs.Str.{IsUtf8}
use Rattle.std.proofs.lemmas.Bool.{cases_eq}
use Rattle.asm_lines.specs.declared.line.AsmName.{AsmName}
use Rattle.asm_lines.specs.Labels.{AreOrdinal, IsLabel, IsName, IsOrdinal}
use Rattle.asm_lines.proofs.Decisions.{Decided, as_well, both_decided, either_decided, less, none_decided, same_word, utf8_decided}
use Rattle.asm_lines.proofs.DecidedNames.{name_with}
use Rattle.asm_lines.proofs.DecidedNumbers.{decimal_with}
use Rattle.asm_lines.proofs.Searches.{headed, split_with}

-- ---- ordinals

ordinal_digits : (digits : List ℕ) → Decided ((k : ℕ) × AreOrdinal digits k)
ordinal_digits digits = as_well
    (λ x. (x.0, (x.1, x.2.0, x.2.1)))
    (λ x. (x.0, x.1.0, (x.1.1, x.1.2)))
    (decimal_with (λ k. (slice_index digits 0 ≢ 48) × (k < 2 ^ 64)) (λ k. both_decided (none_decided (cases_eq (slice_index digits 0) 48)) (less k (2 ^ 64))) digits)

ordinal : (word : List ℕ) → Decided ((ordinal : Option ℕ) × IsOrdinal word ordinal)
ordinal word = as_well to back (either_decided (same_word word []) (headed 35 (λ digits. (k : ℕ) × AreOrdinal digits k) ordinal_digits word)) where
  to : (word ≡ []) ⊎ ((digits : List ℕ) × (word ≡ 35 ∷ digits) × ((k : ℕ) × AreOrdinal digits k)) → (ordinal : Option ℕ) × IsOrdinal word ordinal
  to (inl e) = (None, e)
  to (inr x) = (Some x.2.0, (x.0, x.1, x.2.1))

  back : (ordinal : Option ℕ) × IsOrdinal word ordinal → (word ≡ []) ⊎ ((digits : List ℕ) × (word ≡ 35 ∷ digits) × ((k : ℕ) × AreOrdinal digits k))
  back (None, e) = inl e
  back (Some k, x) = inr (x.0, x.1, (k, x.2))

-- ---- labels

pub label : (word : List ℕ) → Decided ((name : AsmName) × IsLabel word name)
label word = as_well
    (λ x. (record { name = x.3.0.0; ordinal = x.3.1.0 }, record { spelling = x.0; ordinal = x.1; parts = x.2; name_is = x.3.0.1; utf8 = x.3.0.2; ordinal_is = x.3.1.1 }))
    (λ x. (x.1.spelling, x.1.ordinal, x.1.parts, ((x.0.name, x.1.name_is, x.1.utf8), (x.0.ordinal, x.1.ordinal_is))))
    (split_with (λ spelling rest. ((name : List ℕ) × IsName spelling name × IsUtf8 name) × ((o : Option ℕ) × IsOrdinal rest o)) (λ spelling rest. both_decided (name_with (λ name. IsUtf8 name) utf8_decided spelling) (ordinal rest)) word)
