-- The parts of a block: their identifiers, and where the block's own words stand in them.
use Rattle.std.proofs.Common.{◌≡◌, ℕ, ◌+◌, ◌-◌, ◌*◌, ◌≤◌, ◌⊎◌, inl, inr, Bool, true, false, List, [], ◌∷◌, length, map, drop, refl, sym, ap, subst, ◌∙◌, arith}
use Rattle.std.specs.Prelude.{if◌then◌else◌}
use Rattle.std.proofs.lemmas.Bool.{ne_eqb}
use Rattle.block_parts.specs.declared.parts.Part.{Part}
use Rattle.block_parts.specs.declared.words.PatchedWord.{PatchedWord}
use Rattle.block_parts.specs.Parts.{cut_words, is_cut, part, parts, parts_from, put_first}
use Rattle.block_parts.specs.Words.{own, patched_words}
use Rattle.gt_model.specs.declared.modules.Module.{Module}
use Rattle.rewrite.specs.Identifiers.{last_part, part_id}
use Rattle.sym_expr.specs.declared.program.CodeBlock.{CodeBlock}
use Rattle.sym_expr.specs.Derived.{derived, part_text}
use Rattle.taken_ids.specs.Identifiers.{part_id as later_id, part_ids}
use Rattle.repaired_images.proofs.Lists.{In}

-- ---- each part but the first begins behind a word

-- there is a first part, and where others follow it has a word
pub record HasFirst (cuts : List (List PatchedWord)) : Type 0 where
  pub first : List PatchedWord
  pub rest : List (List PatchedWord)
  pub both : cuts ≡ first ∷ rest
  pub some : (rest ≡ []) ⊎ (1 ≤ length first)

put_shape : (w : PatchedWord) (cuts : List (List PatchedWord)) → HasFirst cuts → HasFirst (put_first w cuts)
put_shape w cuts h = record { first = w ∷ h.first; rest = h.rest; both = ap (put_first w) h.both; some = inr (omega arith) }

either_shape : (w : PatchedWord) (b : Bool) (cuts : List (List PatchedWord)) → HasFirst cuts → HasFirst (if b then (w ∷ []) ∷ cuts else put_first w cuts)
either_shape w true cuts h = record { first = w ∷ []; rest = cuts; both = refl; some = inr (omega arith) }
either_shape w false cuts h = put_shape w cuts h

pub shape : (ws : List PatchedWord) → HasFirst (cut_words ws)
shape [] = record { first = []; rest = []; both = refl; some = inl refl }
shape (w ∷ []) = record { first = w ∷ []; rest = []; both = refl; some = inl refl }
shape (w ∷ next ∷ rest) = either_shape w (is_cut w next) (cut_words (next ∷ rest)) (shape (next ∷ rest))

later_each : (m : Module) (block : List ℕ) (start : ℕ) (cuts : List (List PatchedWord)) → 1 ≤ start → map (part_id m block) (parts_from start cuts) ≡ map (later_id m.uuid block) (parts_from start cuts)
later_each m block start [] h = refl
later_each m block start (words ∷ rest) h =
    ap (λ b. (if b then block else derived m.uuid (part_text block start)) ∷ map (part_id m block) (parts_from (start + 4 * length words) rest)) (ne_eqb start 0 (λ e. omega (arith, e, h)))
    ∙ ap (λ l. derived m.uuid (part_text block start) ∷ l) (later_each m block (start + 4 * length words) rest (omega (arith, h)))

later_parts : (m : Module) (block : List ℕ) (first : List PatchedWord) (rest : List (List PatchedWord)) → (rest ≡ []) ⊎ (1 ≤ length first)
    → map (part_id m block) (parts_from (0 + 4 * length first) rest) ≡ map (later_id m.uuid block) (parts_from (0 + 4 * length first) rest)
later_parts m block first rest (inl none) =
    let P : List (List PatchedWord) → Type 0 = λ l. map (part_id m block) (parts_from (0 + 4 * length first) l) ≡ map (later_id m.uuid block) (parts_from (0 + 4 * length first) l) in
    subst P (sym none) refl
later_parts m block first rest (inr some) = later_each m block (0 + 4 * length first) rest (omega (arith, some))

-- the first part keeps the identifier, and the others have those that are derived
pub ids_of_parts : (m : Module) (b : CodeBlock) → map (part_id m b.id) (parts b) ≡ b.id ∷ part_ids m.uuid b
ids_of_parts m b =
    let h = shape (patched_words b) in
    let P : List (List PatchedWord) → Type 0 = λ l. map (part_id m b.id) (parts_from 0 l) ≡ b.id ∷ map (later_id m.uuid b.id) (drop 1 (parts_from 0 l)) in
    subst P (sym h.both) (ap (λ l. b.id ∷ l) (later_parts m b.id h.first h.rest h.some))

last_in : (q : Part) (qs : List Part) → In (last_part (q ∷ qs)) (q ∷ qs)
last_in q [] = inl refl
last_in q (next ∷ rest) = inr (last_in next rest)

pub last_is_part : (b : CodeBlock) → In (last_part (parts b)) (parts b)
last_is_part b =
    let h = shape (patched_words b) in
    let P : List (List PatchedWord) → Type 0 = λ l. In (last_part (parts_from 0 l)) (parts_from 0 l) in
    subst P (sym h.both) (last_in (part 0 h.first) (parts_from (0 + 4 * length h.first) h.rest))
