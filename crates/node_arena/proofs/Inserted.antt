-- An identifier that is put after another.
use Rattle.std.proofs.Common.{◌≡◌, ℕ, ◌+◌, ◌<◌, ◌≤◌, Bool, true, false, eqb, Option, Some, None, List, [], ◌∷◌, ◌++◌, length, get_or, take, drop, refl, sym, ap, ◌∙◌, append_assoc}
use Rattle.std.specs.Prelude.{if◌then◌else◌, insert}
use Rattle.std.proofs.lemmas.List.{drop_more, take_more, take_all, drop_all}
use Rattle.std.proofs.lemmas.List.Edits.{insert_end}
use Rattle.node_arena.specs.declared.ids.BlockId.{BlockId}
use Rattle.node_arena.specs.Changes.{placed_after}

pub placed_last : (ids : List BlockId) (id : BlockId) → placed_after ids None id ≡ ids ++ id ∷ []
placed_last [] id = refl
placed_last (b ∷ bs) id = ap (λ (l : List BlockId). b ∷ l) (placed_last bs id)

pub inserted_last : (ids : List BlockId) (id : BlockId) → insert ids (length ids) id ≡ placed_after ids None id
inserted_last ids id = insert_end ids id ∙ sym (placed_last ids id)

-- the first identifiers are others
abbrev pub after_others : BlockId → ℕ → List BlockId → BlockId → List BlockId
after_others a k ids id = take k ids ++ placed_after (drop k ids) (Some a) id

pub others_none : (a : BlockId) (ids : List BlockId) (k : ℕ) (id : BlockId) → length ids ≤ k → after_others a k ids id ≡ insert ids (length ids) id
others_none a ids k id h = rw (take_all k ids h, drop_all k ids h) (sym (insert_end ids id))

module _ (a d : BlockId) (ids : List BlockId) (k : ℕ) (id : BlockId) (within : k < length ids) where
  chosen : (b : Bool) → eqb (get_or ids k d).index a.index ≡ b
      → after_others a k ids id ≡ take k ids ++ (if b then get_or ids k d ∷ id ∷ drop (k + 1) ids else get_or ids k d ∷ placed_after (drop (k + 1) ids) (Some a) id)
  chosen b e =
      ap (λ (bs : List BlockId). take k ids ++ placed_after bs (Some a) id) (drop_more ids k d within)
      ∙ ap (λ (t : Bool). take k ids ++ (if t then get_or ids k d ∷ id ∷ drop (k + 1) ids else get_or ids k d ∷ placed_after (drop (k + 1) ids) (Some a) id)) e

  pub others_more : eqb (get_or ids k d).index a.index ≡ false → after_others a k ids id ≡ after_others a (k + 1) ids id
  others_more e =
      chosen false e ∙ sym (append_assoc (take k ids) (get_or ids k d ∷ []) (placed_after (drop (k + 1) ids) (Some a) id))
      ∙ ap (λ (bs : List BlockId). bs ++ placed_after (drop (k + 1) ids) (Some a) id) (sym (take_more ids k d within))

  pub others_found : eqb (get_or ids k d).index a.index ≡ true → after_others a k ids id ≡ insert ids (k + 1) id
  others_found e =
      chosen true e ∙ sym (append_assoc (take k ids) (get_or ids k d ∷ []) (id ∷ drop (k + 1) ids))
      ∙ ap (λ (bs : List BlockId). bs ++ id ∷ drop (k + 1) ids) (sym (take_more ids k d within))
