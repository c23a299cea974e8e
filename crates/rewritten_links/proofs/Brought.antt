-- The expressions of a rewritten interval: old ones, and those of words that the patches insert, each with a target.
use Rattle.std.proofs.Common.{◌≡◌, ℕ, zero, suc, ◌+◌, ◌⊎◌, inl, inr, Bool, true, false, List, [], ◌∷◌, ◌++◌, map, Option, Some, None, slice_get, refl, sym, ap, subst, ◌∙◌}
use Rattle.std.specs.Prelude.{filter, nat_lt, if◌then◌else◌}
use Rattle.std.specs.List.{flat_map}
use Rattle.std.specs.Option.{option_and_then, option_map, option_to_list}
use Rattle.std.specs.Str.{bytes_eq}
use Rattle.std.proofs.lemmas.Option.{none-some, same_Some}
use Rattle.block_parts.specs.declared.words.Origin.{Origin}
use Rattle.block_parts.specs.declared.words.Origin.TheVariants.{Own, Inserted}
use Rattle.block_parts.specs.declared.words.PatchedWord.{PatchedWord}
use Rattle.block_parts.specs.Words.{patched_words}
use Rattle.gt_model.specs.declared.exprs.Expr.{Expr}
use Rattle.gt_model.specs.declared.intervals.Interval.{Interval}
use Rattle.gt_model.specs.declared.modules.Module.{Module}
use Rattle.rewrite.specs.Exprs.{brought_from, brought_in, by_offset, moved_expr, new_exprs, news_of, origin_expr, patch_expr, put_by_offset, target_expr}
use Rattle.rewrite.specs.Functions.{exprs_from}
use Rattle.sym_expr.specs.declared.patches.Function.{Function}
use Rattle.sym_expr.specs.declared.patches.Insert.{Insert}
use Rattle.sym_expr.specs.declared.patches.PatchTable.{PatchTable}
use Rattle.sym_expr.specs.declared.patches.PatchTarget.{PatchTarget}
use Rattle.sym_expr.specs.declared.patches.PatchWord.{PatchWord}
use Rattle.sym_expr.specs.declared.program.Piece.{Piece}
use Rattle.sym_expr.specs.declared.program.Piece.TheVariants.{Code as CodePiece, Data as DataPiece, Gap}
use Rattle.sym_expr.specs.declared.program.Stretch.{Stretch}
use Rattle.sym_expr.specs.Patches.{inserted_in}
use Rattle.sym_expr.specs.Placing.{Placed, placed}
use Rattle.sym_expr.specs.TableOk.{function_words, patch_words}
use Rattle.rewritten_links.proofs.Lists.{In, in_back, in_either, in_flat, in_front, out_filter, out_flat, out_map}

-- ---- by their offsets, the same expressions

out_put : (x e : Expr) (t : Bool) (es ds : List Expr) (f : Expr) → (In x ds → (x ≡ e) ⊎ In x es) → In x (if t then f ∷ ds else e ∷ f ∷ es) → (x ≡ e) ⊎ In x (f ∷ es)
out_put x e true es ds f h (inl d) = inr (inl d)
out_put x e true es ds f h (inr k) =
    elim (h k) [
      | inl d ↦ inl d
      | inr l ↦ inr (inr l)
    ]
out_put x e false es ds f h k = k

pub put_out : (x e : Expr) (es : List Expr) → In x (put_by_offset e es) → (x ≡ e) ⊎ In x es
put_out x e [] h = h
put_out x e (f ∷ es) h = out_put x e (nat_lt f.at e.at) es (put_by_offset e es) f (put_out x e es) h

pub out_offset : (x : Expr) (es : List Expr) → In x (by_offset es) → In x es
out_offset x [] h = absurd h
out_offset x (e ∷ es) h = past (out_offset x es) (put_out x e (by_offset es) h)
  where
    past : (In x (by_offset es) → In x es) → (x ≡ e) ⊎ In x (by_offset es) → (x ≡ e) ⊎ In x es
    past f (inl d) = inl d
    past f (inr k) = inr (f k)

-- ---- what words bring

-- the expression of a target of one of these words
pub record IsBrought (m : Module) (news : List PatchWord) (x : Expr) : Type 0 where
  pub at : ℕ
  pub word : PatchWord
  pub among : In word news
  pub target : PatchTarget
  pub has : word.target ≡ Some target
  pub is : x ≡ target_expr m at target

of_target : (m : Module) (at : ℕ) (news : List PatchWord) (w : PatchWord) (o : Option PatchTarget) (x : Expr) → In w news → w.target ≡ o → In x (option_to_list (option_map (target_expr m at) o)) → IsBrought m news x
of_target m at news w None x h e k = absurd k
of_target m at news w (Some t) x h e (inl d) = record { at = at; word = w; among = h; target = t; has = e; is = d }
of_target m at news w (Some t) x h e (inr k) = absurd k

got_in : (news : List PatchWord) (k : ℕ) (w : PatchWord) → slice_get news k ≡ Some w → In w news
got_in [] k w e = absurd (none-some w e)
got_in (v ∷ news) zero w e = inl (sym (same_Some v w e))
got_in (v ∷ news) (suc k) w e = inr (got_in news k w e)

of_word : (m : Module) (news : List PatchWord) (at : ℕ) (o : Option PatchWord) (x : Expr) → ((w : PatchWord) → o ≡ Some w → In w news) → In x (option_to_list (option_and_then (patch_expr m at) o)) → IsBrought m news x
of_word m news at None x f h = absurd h
of_word m news at (Some w) x f h = of_target m at news w w.target x (f w refl) refl h

of_origin : (m : Module) (news : List PatchWord) (at : ℕ) (o : Origin) (x : Expr) → In x (option_to_list (origin_expr m news at o)) → IsBrought m news x
of_origin m news at (Own offset) x h = absurd h
of_origin m news at (Inserted k) x h = of_word m news at (slice_get news k) x (got_in news k) h

from_words : (m : Module) (news : List PatchWord) (at : ℕ) (ws : List PatchedWord) (x : Expr) → In x (brought_from m news at ws) → IsBrought m news x
from_words m news at [] x h = absurd h
from_words m news at (w ∷ ws) x h =
    elim (in_either x (option_to_list (origin_expr m news at w.origin)) (brought_from m news (at + 4) ws) h) [
      | inl k ↦ of_origin m news at w.origin x k
      | inr k ↦ from_words m news (at + 4) ws x k
    ]

-- an inserted word is a word of the patches
abbrev second : ℕ × PatchWord → PatchWord
second w = w.1

new_word : (p : PatchTable) (block : List ℕ) (w : PatchWord) → In w (news_of p block) → In w (patch_words p)
new_word p block w h =
    let pair = out_map second w (inserted_in p block) h in
    let insert = out_flat (λ (i : Insert). map (λ (v : PatchWord). (i.offset, v)) i.body) pair.0 (filter (λ (i : Insert). bytes_eq i.block block) p.inserts) pair.1 in
    let kept = out_filter (λ (i : Insert). bytes_eq i.block block) insert.0 p.inserts insert.1 in
    let own = out_map (λ (v : PatchWord). let x : ℕ × PatchWord = (insert.0.offset, v) in x) pair.0 insert.0.body insert.2 in
    let same : w ≡ own.0 = pair.2 ∙ ap second own.2 in
    in_front w (flat_map (λ (i : Insert). i.body) p.inserts) (flat_map function_words p.functions)
    (in_flat (λ (i : Insert). i.body) insert.0 w p.inserts kept.0 (subst (λ v. In v insert.0.body) (sym same) own.1))

in_patches : (m : Module) (p : PatchTable) (block : List ℕ) (x : Expr) → IsBrought m (news_of p block) x → IsBrought m (patch_words p) x
in_patches m p block x h = record { at = h.at; word = h.word; among = new_word p block h.word h.among; target = h.target; has = h.has; is = h.is }

pub from_piece : (m : Module) (p : PatchTable) (at : ℕ) (q : Piece) (x : Expr) → In x (brought_in m p at q) → IsBrought m (patch_words p) x
from_piece m p at (CodePiece b) x h = in_patches m p b.id x (from_words m (news_of p b.id) at (patched_words b) x h)
from_piece m p at (DataPiece b) x h = absurd h
from_piece m p at (Gap bytes) x h = absurd h

-- an expression of a rewritten interval is an old one that moved, or a new one
pub from_interval : (m : Module) (p : PatchTable) (i : Interval) (s : Stretch) (x : Expr) → In x (new_exprs m p i s) → ((e : Expr) × In e i.exprs × (x ≡ moved_expr s e)) ⊎ IsBrought m (patch_words p) x
from_interval m p i s x h =
    let news : List Expr = flat_map (λ (y : Placed). brought_in m p y.at y.piece) (placed s) in
    elim (in_either x (map (moved_expr s) i.exprs) news (out_offset x (map (moved_expr s) i.exprs ++ news) h)) [
      | inl k ↦ inl (out_map (moved_expr s) x i.exprs k)
      | inr k ↦
          let y = out_flat (λ (y : Placed). brought_in m p y.at y.piece) x (placed s) k in
          inr (from_piece m p y.0.at y.0.piece x y.2)
    ]

from_lines : (m : Module) (at : ℕ) (news ws : List PatchWord) (x : Expr) → ((w : PatchWord) → In w ws → In w news) → In x (exprs_from m at ws) → IsBrought m news x
from_lines m at news [] x f h = absurd h
from_lines m at news (w ∷ ws) x f h =
    elim (in_either x (option_to_list (patch_expr m at w)) (exprs_from m (at + 4) ws) h) [
      | inl k ↦ of_target m at news w w.target x (f w (inl refl)) refl k
      | inr k ↦ from_lines m (at + 4) news ws x (λ v l. f v (inr l)) k
    ]

-- so is each of a function's
pub from_function : (m : Module) (p : PatchTable) (f : Function) (x : Expr) → In f p.functions → In x (exprs_from m 0 (function_words f)) → IsBrought m (patch_words p) x
from_function m p f x h k =
    from_lines m 0 (patch_words p) (function_words f) x (λ w l. in_back w (flat_map (λ (i : Insert). i.body) p.inserts) (flat_map function_words p.functions) (in_flat function_words f w p.functions h l)) k
