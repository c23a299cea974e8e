-- Patches that a module can take have words that name what there is.
use Rattle.std.proofs.Common.{◌≡◌, ◌+◌, ◌<◌, ◌^◌, false, List, [], ◌∷◌, ◌++◌, length, Option, Some, None, arith}
use Rattle.std.specs.Prelude.{IfSome, MatchOption, sum_by}
use Rattle.std.specs.List.{AllByRecursion as Every, flat_map}
use Rattle.std.proofs.lemmas.List.{length-append}
use Rattle.std.proofs.lemmas.List.Sums.{sum_by-cons}
use Rattle.gt_model.specs.declared.modules.Module.{Module}
use Rattle.module_program.specs.Knowing.{HasGoodLines, HasGoodWords, IsGoodLine, NamesKnown}
use Rattle.sym_expr.specs.declared.patches.FunLine.{FunLine}
use Rattle.sym_expr.specs.declared.patches.FunLine.TheVariants as lines
use Rattle.sym_expr.specs.declared.patches.Function.{Function}
use Rattle.sym_expr.specs.declared.patches.Insert.{Insert}
use Rattle.sym_expr.specs.declared.patches.PatchTable.{PatchTable}
use Rattle.sym_expr.specs.declared.patches.PatchTarget.{PatchTarget}
use Rattle.sym_expr.specs.declared.patches.PatchWord.{PatchWord}
use Rattle.sym_expr.specs.TableOk.{IsNamed, IsTarget, IsWord, function_words, is_aimed, line_words, table_ok}

front : {X : Type 0} (P : X → Type 0) (xs ys : List X) → Every P (xs ++ ys) → Every P xs
front P [] ys h = tt
front P (x ∷ xs) ys h = (h.0, front P xs ys h.1)

back : {X : Type 0} (P : X → Type 0) (xs ys : List X) → Every P (xs ++ ys) → Every P ys
back P [] ys h = h
back P (x ∷ xs) ys h = back P xs ys h.1

names_known : (m : Module) (p : PatchTable) (w : PatchWord) → IsWord m p w → NamesKnown m p w
names_known m p w h = at w.target h
  where
    at : (o : Option PatchTarget) → MatchOption o (is_aimed w.word ≡ false) (IsTarget m p w.word) → IfSome o (λ (t : PatchTarget). IsNamed m p t.symbol)
    at None k = tt
    at (Some t) k = k.named

each_known : (m : Module) (p : PatchTable) (ws : List PatchWord) → Every (IsWord m p) ws → Every (NamesKnown m p) ws
each_known m p [] h = tt
each_known m p (w ∷ ws) h = (names_known m p w h.0, each_known m p ws h.1)

inserts_good : (m : Module) (p : PatchTable) (xs : List Insert) → Every (IsWord m p) (flat_map (λ (x : Insert). x.body) xs) → Every (HasGoodWords m p) xs
inserts_good m p [] h = tt
inserts_good m p (x ∷ xs) h = (
  each_known m p x.body (front (IsWord m p) x.body (flat_map (λ (x : Insert). x.body) xs) h),
  inserts_good m p xs (back (IsWord m p) x.body (flat_map (λ (x : Insert). x.body) xs) h),
)

lines_good : (m : Module) (p : PatchTable) (ls : List FunLine) → Every (IsWord m p) (flat_map line_words ls) → Every (IsGoodLine m p) ls
lines_good m p [] h = tt
lines_good m p (lines.Label name ∷ rest) h = (tt, lines_good m p rest h)
lines_good m p (lines.Word w ∷ rest) h = (names_known m p w h.0, lines_good m p rest h.1)

functions_good : (m : Module) (p : PatchTable) (fs : List Function) → Every (IsWord m p) (flat_map function_words fs) → Every (HasGoodLines m p) fs
functions_good m p [] h = tt
functions_good m p (f ∷ fs) h = (
  lines_good m p f.body (front (IsWord m p) (function_words f) (flat_map function_words fs) h),
  functions_good m p fs (back (IsWord m p) (function_words f) (flat_map function_words fs) h),
)

pub words_good : (m : Module) (p : PatchTable) → table_ok m p → Every (HasGoodWords m p) p.inserts
words_good m p h = inserts_good m p p.inserts (front (IsWord m p) (flat_map (λ (x : Insert). x.body) p.inserts) (flat_map function_words p.functions) h.words)

pub all_lines_good : (m : Module) (p : PatchTable) → table_ok m p → Every (HasGoodLines m p) p.functions
all_lines_good m p h = functions_good m p p.functions (back (IsWord m p) (flat_map (λ (x : Insert). x.body) p.inserts) (flat_map function_words p.functions) h.words)

body_sum : (xs : List Insert) → sum_by (λ (x : Insert). length x.body) xs ≡ length (flat_map (λ (x : Insert). x.body) xs)
body_sum [] = omega arith
body_sum (x ∷ xs) =
    let sum = sum_by-cons (λ (x : Insert). length x.body) x xs in
    let all = length-append x.body (flat_map (λ (x : Insert). x.body) xs) in
    let rest = body_sum xs in
    omega (arith, sum, all, rest)

pub few_words : (m : Module) (p : PatchTable) → table_ok m p → sum_by (λ (x : Insert). length x.body) p.inserts < 2 ^ 64
few_words m p h =
    let same = body_sum p.inserts in
    let all = length-append (flat_map (λ (x : Insert). x.body) p.inserts) (flat_map function_words p.functions) in
    let few = h.few in
    omega (arith, same, all, few)
