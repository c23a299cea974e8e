-- The words of a function name in its interval what they name in the function.
use Rattle.std.proofs.Common.{◌≡◌, ℕ, ◌+◌, ◌≤◌, ◌<◌, Bool, List, [], ◌∷◌, ◌++◌, length, map, Option, Some, None, refl, sym, ap, ◌∙◌, subst, arith}
use Rattle.std.specs.Prelude.{◌==◌, find, IfSome, if◌then◌else◌}
use Rattle.std.specs.List.{AllByRecursion as Every, AllZip}
use Rattle.std.specs.Option.{option_and_then, option_map, option_to_list}
use Rattle.std.proofs.lemmas.Bool.{eq-eqb, ne_eqb}
use Rattle.gt_model.specs.declared.exprs.Expr.{Expr}
use Rattle.gt_model.specs.declared.intervals.Interval.{Interval}
use Rattle.gt_model.specs.declared.modules.Module.{Module}
use Rattle.repaired_programs.specs.Named.{IsOneTarget, NameOne}
use Rattle.rewrite.specs.Exprs.{target_expr}
use Rattle.rewrite.specs.Functions.{exprs_from}
use Rattle.rewrite.specs.Identifiers.{symbol_id}
use Rattle.sym_expr.specs.declared.layout.Layout.{Layout}
use Rattle.sym_expr.specs.declared.patches.PatchTable.{PatchTable}
use Rattle.sym_expr.specs.declared.patches.PatchTarget.{PatchTarget}
use Rattle.sym_expr.specs.declared.patches.PatchWord.{PatchWord}
use Rattle.sym_expr.specs.declared.program.Program.{Program}
use Rattle.sym_expr.specs.declared.program.Word.{Word}
use Rattle.sym_expr.specs.Patches.{no_patches}
use Rattle.sym_expr.specs.Program.{code_target, expr_at, own_words, patched_word}
use Rattle.sym_expr.specs.Targets.{old_target, patch_target}

module _ (l : Layout) (new g : Program) (n m : Module) (p : PatchTable) where
  -- what a word of the patches names is one in both
  abbrev pub AimsOne : PatchWord → Type 0
  AimsOne w = IfSome w.target (λ (x : PatchTarget). IsOneTarget l new g (old_target n no_patches (symbol_id m x.symbol) x.offset) (patch_target m p x))

  abbrev pub at_place : ℕ → Expr → Bool
  at_place k e = k == e.at

  none_before : (k at : ℕ) (ws : List PatchWord) → k < at → find (at_place k) (exprs_from m at ws) ≡ None
  none_before k at [] lt = refl
  none_before k at (w ∷ ws) lt = either w.target (none_before k (at + 4) ws (omega (arith, lt)))
    where
      either : (o : Option PatchTarget) → find (at_place k) (exprs_from m (at + 4) ws) ≡ None → find (at_place k) (option_to_list (option_map (target_expr m at) o) ++ exprs_from m (at + 4) ws) ≡ None
      either None rest = rest
      either (Some x) rest = ap (λ c. if c then Some (target_expr m at x) else find (at_place k) (exprs_from m (at + 4) ws)) (ne_eqb k at (λ e. omega (arith, e, lt))) ∙ rest

  past : (k at : ℕ) (o : Option PatchTarget) (es : List Expr) → at < k → find (at_place k) (option_to_list (option_map (target_expr m at) o) ++ es) ≡ find (at_place k) es
  past k at None es lt = refl
  past k at (Some x) es lt = ap (λ c. if c then Some (target_expr m at x) else find (at_place k) es) (ne_eqb k at (λ e. omega (arith, e, lt)))

  here : (at : ℕ) (o : Option PatchTarget) (ws : List PatchWord) → find (at_place at) (option_to_list (option_map (target_expr m at) o) ++ exprs_from m (at + 4) ws) ≡ option_map (target_expr m at) o
  here at None ws = none_before at (at + 4) ws (omega arith)
  here at (Some x) ws = ap (λ c. if c then Some (target_expr m at x) else find (at_place at) (exprs_from m (at + 4) ws)) (eq-eqb at at refl)

  -- from an offset on the interval has the expressions of these words
  abbrev pub HasExprs : Interval → ℕ → List PatchWord → Type 0
  HasExprs j at ws = (k : ℕ) → at ≤ k → expr_at k j ≡ find (at_place k) (exprs_from m at ws)

  abbrev pub NamesOne : Word → Word → Type 0
  NamesOne v w = NameOne l new g v.target w.target

  one_word : (at : ℕ) (o : Option PatchTarget) → IfSome o (λ (x : PatchTarget). IsOneTarget l new g (old_target n no_patches (symbol_id m x.symbol) x.offset) (patch_target m p x))
      → NameOne l new g (option_and_then (λ (e : Expr). code_target n no_patches e.value) (option_map (target_expr m at) o)) (option_map (patch_target m p) o)
  one_word at None h = tt
  one_word at (Some x) h = h

  next_exprs : (j : Interval) (at : ℕ) (w : PatchWord) (ws : List PatchWord) → HasExprs j at (w ∷ ws) → HasExprs j (at + 4) ws
  next_exprs j at w ws h k le = h k (omega (arith, le)) ∙ past k at w.target (exprs_from m (at + 4) ws) (omega (arith, le))

  pub words_named : (j : Interval) (at : ℕ) (ws : List PatchWord) → HasExprs j at ws → Every AimsOne ws → AllZip NamesOne (own_words n no_patches j at (length ws)) (map (patched_word m p) ws)
  words_named j at [] h aims = tt
  words_named j at (w ∷ ws) h aims =
      let first : expr_at at j ≡ option_map (target_expr m at) w.target = h at (omega arith) ∙ here at w.target ws in (
        subst (λ o. NameOne l new g (option_and_then (λ (e : Expr). code_target n no_patches e.value) o) (option_map (patch_target m p) w.target)) (sym first) (one_word at w.target aims.0),
        words_named j (at + 4) ws (next_exprs j at w ws h) aims.1,
      )
