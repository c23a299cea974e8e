-- Words are those of a job, or exactly one index is at fault.
use Rattle.std.proofs.Common.{◌≡◌, ◌⊎◌, ◌<◌, ◌+◌, ℕ, zero, suc, List, [], length, take, Bool, true, false, refl, inl, inr, sym, ◌∙◌, subst, arith, below_more}
use Rattle.std.specs.Prelude.{slice_index_or}
use Rattle.command_words.specs.Words.{FineBelow, WordsOk, Usage, is_fine, is_short}

either : (b : Bool) → (b ≡ true) ⊎ (b ≡ false)
either true = inl refl
either false = inr refl

both : (b : Bool) → b ≡ true → b ≡ false → ⊥
both b good bad = let same : true ≡ false = sym good ∙ bad in absurd cc

pub ok_no_usage : (words : List (List ℕ)) (index : ℕ) → WordsOk words → Usage words index → ⊥
ok_no_usage words index ok usage =
    elim usage.breaks [
      | inl h ↦ both (is_fine (take index words) (slice_index_or words index [])) (ok.fine index h.0) h.1
      | inr h ↦ both (is_short words) h.1 ok.whole
    ]

not_before : (words : List (List ℕ)) (a b : ℕ) → Usage words a → Usage words b → a < b → ⊥
not_before words a b x y lt =
    elim x.breaks [
      | inl h ↦ both (is_fine (take a words) (slice_index_or words a [])) (y.fine a lt) h.1
      | inr h ↦ elim y.breaks [
        | inl k ↦ let one = h.0 in let two = k.0 in omega arith
        | inr k ↦ let one = h.0 in let two = k.0 in omega arith
      ]
    ]

pub one_usage : (words : List (List ℕ)) (a b : ℕ) → Usage words a → Usage words b → a ≡ b
one_usage words a b x y =
    let low = not_before words a b x y in
    let high = not_before words b a y x in
    omega arith

look : (words : List (List ℕ)) (left index : ℕ) → index + left ≡ length words → FineBelow words index → WordsOk words ⊎ ((at : ℕ) × Usage words at)
look words zero index e fine =
    let whole : index ≡ length words = omega arith in
    elim (either (is_short words)) [
      | inl short ↦ inr (index, record { fine = fine; breaks = inr (whole, short) })
      | inr full ↦ inl (record { fine = subst (λ (n : ℕ). FineBelow words n) whole fine; whole = full })
    ]
look words (suc left) index e fine =
    let inside : index < length words = omega arith in
    let rest : index + 1 + left ≡ length words = omega arith in
    elim (either (is_fine (take index words) (slice_index_or words index []))) [
      | inl good ↦ look words left (index + 1) rest (below_more _ _ fine good)
      | inr bad ↦ inr (index, record { fine = fine; breaks = inl (inside, bad) })
    ]

pub ok_or_usage : (words : List (List ℕ)) → WordsOk words ⊎ ((index : ℕ) × Usage words index)
ok_or_usage words =
    look words (length words) 0 (omega arith) (λ k below. absurd (omega arith))
