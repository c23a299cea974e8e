-- Later parts of a block have identifiers of their own, since the first has a word where another follows.
use Rattle.std.proofs.Common.{◌≡◌, ℕ, zero, suc, ◌+◌, ◌*◌, ◌<◌, ◌≤◌, Bool, true, false, cond, eqb, List, [], ◌∷◌, ◌++◌, length, drop, map, refl, sym, ap, ◌∙◌, inl, inr, arith}
use Rattle.std.specs.Prelude.{if◌then◌else◌}
use Rattle.std.specs.List.{AllByRecursion}
use Rattle.std.proofs.lemmas.Bool.{cond-false}
use Rattle.std.proofs.lemmas.Bool.Decides.{nat_tests}
use Rattle.block_parts.specs.declared.parts.Part.{Part}
use Rattle.block_parts.specs.declared.words.PatchedWord.{PatchedWord}
use Rattle.block_parts.specs.Parts.{cut_words, is_cut, parts, parts_from, put_first}
use Rattle.block_parts.specs.Words.{patched_words}
use Rattle.edge_repair.specs.Edges.{later_parts}
use Rattle.gt_model.specs.declared.modules.Module.{Module}
use Rattle.rewrite.specs.Identifiers.{part_id}
use Rattle.sym_expr.specs.declared.program.CodeBlock.{CodeBlock}
use Rattle.sym_expr.specs.Derived.{derived, part_text}
use Rattle.taken_ids.specs.Identifiers.{part_ids}

-- the first has a word where others follow
abbrev HasFirst : List (List PatchedWord) → Type 0
HasFirst [] = Unit {0}
HasFirst (words ∷ []) = Unit {0}
HasFirst (words ∷ next ∷ rest) = 0 < length words

alone : (w : PatchedWord) (ps : List (List PatchedWord)) → HasFirst ((w ∷ []) ∷ ps)
alone w [] = tt
alone w (p ∷ ps) = omega arith

put : (w : PatchedWord) (ps : List (List PatchedWord)) → HasFirst (put_first w ps)
put w [] = tt
put w (words ∷ []) = tt
put w (words ∷ p ∷ ps) = omega arith

either : (w : PatchedWord) (b : Bool) (ps : List (List PatchedWord)) → HasFirst (if b then (w ∷ []) ∷ ps else put_first w ps)
either w true ps = alone w ps
either w false ps = put w ps

has_first : (ws : List PatchedWord) → HasFirst (cut_words ws)
has_first [] = tt
has_first (w ∷ []) = tt
has_first (w ∷ next ∷ rest) = either w (is_cut w next) (cut_words (next ∷ rest))

starts_from : (from least : ℕ) (ps : List (List PatchedWord)) → least ≤ from → AllByRecursion (λ (q : Part). least ≤ q.start) (parts_from from ps)
starts_from from least [] le = tt
starts_from from least (words ∷ ps) le = (le, starts_from (from + 4 * length words) least ps (omega arith))

later_start : (ps : List (List PatchedWord)) → HasFirst ps → AllByRecursion (λ (q : Part). 1 ≤ q.start) (drop 1 (parts_from 0 ps))
later_start [] h = tt
later_start (words ∷ []) h = tt
later_start (words ∷ p ∷ ps) h = starts_from (0 + 4 * length words) 1 (p ∷ ps) (omega arith)

not_first : (n : ℕ) → 1 ≤ n → eqb n 0 ≡ false
not_first n h = grind (arith, nat_tests)

own_ids : (m : Module) (block : List ℕ) (qs : List Part) → AllByRecursion (λ (q : Part). 1 ≤ q.start) qs
    → map (part_id m block) qs ≡ map (λ (q : Part). derived m.uuid (part_text block q.start)) qs
own_ids m block [] all = refl
own_ids m block (q ∷ qs) all =
    ap (λ (id : List ℕ). id ∷ map (part_id m block) qs) (cond-false (eqb q.start 0) block (derived m.uuid (part_text block q.start)) (not_first q.start all.0))
    ∙ ap (λ l. derived m.uuid (part_text block q.start) ∷ l) (own_ids m block qs all.1)

pub same_parts : (m : Module) (b : CodeBlock) → later_parts m b ≡ part_ids m.uuid b
same_parts m b = own_ids m b.id (drop 1 (parts b)) (later_start (cut_words (patched_words b)) (has_first (patched_words b)))
