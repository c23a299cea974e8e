-- Which row of a table reads a word.
use Rattle.std.proofs.Common.{◌≡◌, ℕ, ◌%◌, ◌^◌, ◌<◌, Bool, true, ◌&&◌, cond, List, [], ◌∷◌, ◌++◌, Option, Some, refl, sym, ap, ◌∙◌, arith, inl, inr}
use Rattle.std.proofs.lemmas.Bool.{and_parts, cases_Bool, cond-false, cond-true}
use Rattle.std.proofs.Math.Nat.{mod-eq_of_lt}
use Rattle.a64_inst.specs.declared.inst.Inst.{Inst}
use Rattle.a64_inst.specs.Parts.{Part, meets, at_fields, joined, fit_parts}
use Rattle.a64_inst.specs.Rows.{Row}
use Rattle.a64_inst.specs.Reserved.{names_word}
use Rattle.a64_inst.specs.Table.{read_rows, word_of, fields_fit}
use Rattle.a64_inst.proofs.Splitting.{is_sound, values_at, applied, at_fields-applied, joined-below, joined-read, read-joined}
use Rattle.a64_inst.proofs.Apart.{are_apart, not_both}

-- each of these rows is apart from the parts
abbrev pub are_clear : List Row → List Part → Bool
are_clear [] parts = true
are_clear (r ∷ rows) parts = is_sound 32 r.parts && (are_apart 32 r.parts parts && are_clear rows parts)

pub past_clear : (before rows : List Row) (parts : List Part) (word : ℕ) → are_clear before parts ≡ true → is_sound 32 parts ≡ true → meets 32 parts word ≡ true → read_rows (before ++ rows) word ≡ read_rows rows word
past_clear [] rows parts word clear sound met = refl
past_clear (r ∷ before) rows parts word clear sound met =
    let a = and_parts (is_sound 32 r.parts) (are_apart 32 r.parts parts && are_clear before parts) clear in
    let b = and_parts (are_apart 32 r.parts parts) (are_clear before parts) a.1 in
    let others = past_clear before rows parts word b.1 sound met in
    elim (cases_Bool (meets 32 r.parts word)) [
      | inl h ↦ absurd (not_both 32 r.parts parts word (omega arith) a.0 sound b.0 h met)
      | inr h ↦ cond-false (meets 32 r.parts word) (Some (at_fields 32 r.parts r.inst word)) (read_rows (before ++ rows) word) h ∙ others
    ]

-- a word that is joined by a row's parts is read by that row, where the rows before it are apart from it
pub read_again : (before : List Row) (r : Row) (after : List Row) (values : List ℕ) → are_clear before r.parts ≡ true → is_sound 32 r.parts ≡ true → fit_parts r.parts values ≡ true
    → read_rows (before ++ r ∷ after) (joined 32 r.parts values) ≡ Some (applied r.parts r.inst values)
read_again before r after values clear sound fit =
    let word = joined 32 r.parts values in
    let whole : word % 2 ^ 32 ≡ word = mod-eq_of_lt (joined-below 32 r.parts values sound fit) in
    let read = joined-read 32 r.parts values word sound fit whole in
    past_clear before (r ∷ after) r.parts word clear sound read.0
    ∙ cond-true (meets 32 r.parts word) (Some (at_fields 32 r.parts r.inst word)) (read_rows after word) read.0
    ∙ ap (λ (i : Inst). Some i) (at_fields-applied 32 r.parts r.inst word ∙ ap (applied r.parts r.inst) read.1)

-- what the row reads has the row's word
pub record IsFaithful (r : Row) : Type 0 where
  pub sound : is_sound 32 r.parts ≡ true
  pub word : (word : ℕ) → word_of (at_fields 32 r.parts r.inst word) ≡ joined 32 r.parts (values_at 32 r.parts word)
  pub fit : (word : ℕ) → fields_fit (at_fields 32 r.parts r.inst word) ≡ fit_parts r.parts (values_at 32 r.parts word)
  pub named : (word : ℕ) → names_word (at_fields 32 r.parts r.inst word) ≡ true

abbrev pub AreFaithful : List Row → Type 0
AreFaithful [] = Unit {0}
AreFaithful (r ∷ rows) = IsFaithful r × AreFaithful rows

-- an instruction, its word, and that it has one
abbrev IsRead : ℕ → Inst → Type 0
IsRead word i = (word_of i ≡ word) × (fields_fit i ≡ true) × (names_word i ≡ true)

some_inst : (i j : Inst) → Some i ≡ Some j → i ≡ j
some_inst i j e = cc

pub read_is : (rows : List Row) (word : ℕ) (i : Inst) → AreFaithful rows → word < 2 ^ 32 → read_rows rows word ≡ Some i → IsRead word i
read_is [] word i faithful small e = absurd cc
read_is (r ∷ rows) word i faithful small e =
    elim (cases_Bool (meets 32 r.parts word)) [
      | inl h ↦
          let mine = sym (cond-true (meets 32 r.parts word) (Some (at_fields 32 r.parts r.inst word)) (read_rows rows word) h) ∙ e in
          let same : at_fields 32 r.parts r.inst word ≡ i = some_inst _ _ mine in
          let back = read-joined 32 r.parts word faithful.0.sound h in
          let whole : word_of (at_fields 32 r.parts r.inst word) ≡ word = faithful.0.word word ∙ back.0 ∙ mod-eq_of_lt small in
          let fit : fields_fit (at_fields 32 r.parts r.inst word) ≡ true = faithful.0.fit word ∙ back.1 in
          rw (← same) ((whole, fit, faithful.0.named word))
      | inr h ↦ read_is rows word i faithful.1 small (sym (cond-false (meets 32 r.parts word) (Some (at_fields 32 r.parts r.inst word)) (read_rows rows word) h) ∙ e)
    ]

-- the rows that have no fixed bit unlike those of the parts
abbrev pub among : List Part → List Row → List Row
among parts [] = []
among parts (r ∷ rows) = cond (is_sound 32 r.parts && are_apart 32 r.parts parts) (among parts rows) (r ∷ among parts rows)

-- these rows alone read a word that has the fixed bits of the parts
pub read_among : (parts : List Part) (rows : List Row) (word : ℕ) → is_sound 32 parts ≡ true → meets 32 parts word ≡ true → read_rows rows word ≡ read_rows (among parts rows) word
read_among parts [] word sound met = refl
read_among parts (r ∷ rows) word sound met =
    let others = read_among parts rows word sound met in
    elim (cases_Bool (is_sound 32 r.parts && are_apart 32 r.parts parts)) [
      | inl h ↦
          let a = and_parts (is_sound 32 r.parts) (are_apart 32 r.parts parts) h in
          let dropped : among parts (r ∷ rows) ≡ among parts rows = cond-true (is_sound 32 r.parts && are_apart 32 r.parts parts) (among parts rows) (r ∷ among parts rows) h in
          let away : read_rows (r ∷ rows) word ≡ read_rows rows word =
          elim (cases_Bool (meets 32 r.parts word)) [
            | inl m ↦ absurd (not_both 32 r.parts parts word (omega arith) a.0 sound a.1 m met)
            | inr m ↦ cond-false (meets 32 r.parts word) (Some (at_fields 32 r.parts r.inst word)) (read_rows rows word) m
          ] in
          away ∙ others ∙ ap (λ (rs : List Row). read_rows rs word) (sym dropped)
      | inr h ↦
          let kept : among parts (r ∷ rows) ≡ r ∷ among parts rows = cond-false (is_sound 32 r.parts && are_apart 32 r.parts parts) (among parts rows) (r ∷ among parts rows) h in
          let with_first : read_rows (r ∷ rows) word ≡ read_rows (r ∷ among parts rows) word = ap (λ (o : Option Inst). cond (meets 32 r.parts word) (Some (at_fields 32 r.parts r.inst word)) o) others in
          with_first ∙ ap (λ (rs : List Row). read_rows rs word) (sym kept)
    ]
