-- Words of a patched block name in the new interval what they name in the block, by where they come from.
use Rattle.std.proofs.Common.{◌≡◌, ℕ, zero, suc, ◌+◌, Bool, true, false, List, [], ◌∷◌, ◌++◌, length, map, get_or, Option, Some, None, refl, sym, ap, ◌∙◌, subst, arith}
use Rattle.std.specs.Prelude.{◌==◌, filter, find, IfSome, if◌then◌else◌, slice_get}
use Rattle.std.specs.List.{AllByRecursion as Every, AllZip}
use Rattle.std.specs.Option.{option_and_then, option_map}
use Rattle.std.proofs.lemmas.List.{append_assoc, get_or-append-add, length-append}
use Rattle.std.proofs.lemmas.Option.{none-some, same_Some, slice_get-get_or}
use Rattle.block_parts.specs.declared.words.Origin.{Origin}
use Rattle.block_parts.specs.declared.words.PatchedWord.{PatchedWord}
use Rattle.block_parts.specs.Words.{inserted, numbered, own, patched_words, words_from}
use Rattle.edge_repair.specs.Repaired.{repaired_module}
use Rattle.gt_model.specs.declared.exprs.Expr.{Expr}
use Rattle.gt_model.specs.declared.intervals.Interval.{Interval}
use Rattle.gt_model.specs.declared.modules.Module.{Module}
use Rattle.repaired_programs.specs.Intervals.{AimsOne}
use Rattle.repaired_programs.specs.Named.{IsOneTarget, NameOne}
use Rattle.repaired_programs.specs.Programs.{repaired_program}
use Rattle.repaired_programs.specs.Values.{IsOneValue}
use Rattle.rewrite.specs.Exprs.{moved_expr, patch_expr, target_expr}
use Rattle.rewrite.specs.Identifiers.{symbol_id}
use Rattle.sym_expr.specs.declared.layout.Layout.{Layout}
use Rattle.sym_expr.specs.declared.patches.PatchTable.{PatchTable}
use Rattle.sym_expr.specs.declared.patches.PatchTarget.{PatchTarget}
use Rattle.sym_expr.specs.declared.patches.PatchWord.{PatchWord}
use Rattle.sym_expr.specs.declared.program.CodeBlock.{CodeBlock}
use Rattle.sym_expr.specs.declared.program.Program.{Program}
use Rattle.sym_expr.specs.declared.program.Stretch.{Stretch}
use Rattle.sym_expr.specs.declared.program.Word.{Word}
use Rattle.sym_expr.specs.declared.target.Target.{Target}
use Rattle.sym_expr.specs.Images.{all_words, words_from as image_words}
use Rattle.sym_expr.specs.Patches.{inserted_at, no_patches}
use Rattle.sym_expr.specs.Points.{ins}
use Rattle.sym_expr.specs.Program.{code_target, expr_at, own_word, own_words, patched_word, program}
use Rattle.sym_expr.specs.Tables.{Tables}
use Rattle.sym_expr.specs.Targets.{old_target, patch_target}
use Rattle.repaired_programs.proofs.Moved.{HaveExprs, word_expr}
use Rattle.repaired_programs.proofs.Quiet.{code_one}
use Rattle.repaired_programs.proofs.Zipped.{zip_append}

module _ (m : Module) (t : Tables) (p : PatchTable) (l : Layout) where
  abbrev n : Module
  n = repaired_module m t p

  abbrev new : Program
  new = repaired_program m t p

  abbrev g : Program
  g = program m t p

  abbrev pub NamesOne : Word → Word → Type 0
  NamesOne v w = NameOne l new g v.target w.target

  abbrev named_now : Option Expr → Option Target
  named_now o = option_and_then (λ (e : Expr). code_target n no_patches e.value) o

  abbrev named_before : Option Expr → Option Target
  named_before o = option_and_then (λ (e : Expr). code_target m p e.value) o

  abbrev pub AllValues : List Expr → Type 0
  AllValues es = Every (λ (e : Expr). IsOneValue m t p l e.value) es

  found_value : (k : ℕ) (es : List Expr) → AllValues es → NameOne l new g (named_now (find (λ (e : Expr). k == e.at) es)) (named_before (find (λ (e : Expr). k == e.at) es))
  found_value k [] h = tt
  found_value k (e ∷ es) h = either (k == e.at) (found_value k es h.1)
    where
      either : (x : Bool) → NameOne l new g (named_now (find (λ (e : Expr). k == e.at) es)) (named_before (find (λ (e : Expr). k == e.at) es))
          → NameOne l new g (named_now (if x then Some e else find (λ (e : Expr). k == e.at) es)) (named_before (if x then Some e else find (λ (e : Expr). k == e.at) es))
      either true rest = code_one m t p l e.value h.0
      either false rest = rest

  moved_value : (s : Stretch) (a b : Option Expr) → a ≡ b → NameOne l new g (named_now b) (named_before b) → NameOne l new g (named_now (option_map (moved_expr s) a)) (named_before b)
  moved_value s None None e h = h
  moved_value s None (Some y) e h = absurd (none-some y e)
  moved_value s (Some x) None e h = absurd (none-some x (sym e))
  moved_value s (Some x) (Some y) e h = let P : Expr → Type 0 = λ z. NameOne l new g (code_target n no_patches z.value) (code_target m p y.value) in subst P (same_Some y x (sym e)) h

  module _ (i : Interval) (s : Stretch) (base : ℕ) (news : List PatchWord) where
    abbrev exp_of : ℕ → Origin → Option Expr
    exp_of at o = word_expr i s m news base at o

    -- wherever a word stands, its expression names what the other word names
    abbrev pub Src : PatchedWord → Word → Type 0
    Src w v = (at : ℕ) → NameOne l new g (named_now (exp_of at w.origin)) v.target

    own_source : (o : ℕ) → AllValues i.exprs → Src (own o (own_word m p i (base + o))) (own_word m p i (base + o))
    own_source o h at = moved_value s (expr_at (base + o) i) (expr_at (base + o) i) refl (found_value (base + o) i.exprs h)

    abbrev NewsFrom : ℕ → List PatchWord → Type 0
    NewsFrom k [] = Unit {0}
    NewsFrom k (w ∷ ws) = (slice_get news k ≡ Some w) × NewsFrom (suc k) ws

    news_from : (front ws : List PatchWord) → news ≡ front ++ ws → NewsFrom (length front) ws
    news_from front [] e = tt
    news_from front (w ∷ ws) e =
        let last : length front ≡ length front + 0 = omega arith in
        let all = length-append front (w ∷ ws) in
        let next = length-append front (w ∷ []) in
        let one_more : length (front ++ w ∷ []) ≡ suc (length front) = omega (arith, next) in (
          ap (λ xs. slice_get xs (length front)) e
              ∙ slice_get-get_or (front ++ (w ∷ ws)) (length front) w (omega (arith, all))
              ∙ ap (λ x. Some x) (ap (λ k. get_or (front ++ (w ∷ ws)) k w) last ∙ get_or-append-add front (w ∷ ws) 0 w),
          subst (λ k. NewsFrom k ws) one_more (news_from (front ++ w ∷ []) ws (e ∙ sym (append_assoc front (w ∷ []) ws))),
        )

    new_source : (k : ℕ) (w : PatchWord) → slice_get news k ≡ Some w → AimsOne m t p l w → Src (inserted k (patched_word m p w)) (patched_word m p w)
    new_source k w e h at = subst (λ o. NameOne l new g (named_now (option_and_then (patch_expr m at) o)) (option_map (patch_target m p) w.target)) (sym e) (word w.target h)
      where
        word : (o : Option PatchTarget) → IfSome o (λ (x : PatchTarget). IsOneTarget l new g (old_target n no_patches (symbol_id m x.symbol) x.offset) (patch_target m p x))
            → NameOne l new g (named_now (option_map (target_expr m at) o)) (option_map (patch_target m p) o)
        word None h = tt
        word (Some x) h = h

    abbrev patched : ℕ × PatchWord → ℕ × Word
    patched w = (w.0, patched_word m p w.1)

    at_source : (o k : ℕ) (ws : List (ℕ × PatchWord)) → NewsFrom k (map (λ (w : ℕ × PatchWord). w.1) ws) → Every (λ (w : ℕ × PatchWord). AimsOne m t p l w.1) ws → AllZip Src (inserted_at o (numbered k (map patched ws))) (inserted_at o (map patched ws))
    at_source o k [] h aims = tt
    at_source o k (w ∷ ws) h aims = either (o == w.0) (at_source o (suc k) ws h.1 aims.1)
      where
        either : (x : Bool) → AllZip Src (inserted_at o (numbered (suc k) (map patched ws))) (inserted_at o (map patched ws))
            → AllZip Src (map (λ (v : ℕ × PatchedWord). v.1) (if x then (w.0, inserted k (patched_word m p w.1)) ∷ filter (λ (v : ℕ × PatchedWord). o == v.0) (numbered (suc k) (map patched ws)) else filter (λ (v : ℕ × PatchedWord). o == v.0) (numbered (suc k) (map patched ws))))
            (map (λ (v : ℕ × Word). v.1) (if x then patched w ∷ filter (λ (v : ℕ × Word). o == v.0) (map patched ws) else filter (λ (v : ℕ × Word). o == v.0) (map patched ws)))
        either true rest = (new_source k w.1 h.0 aims.0, rest)
        either false rest = rest

    from_source : (c : CodeBlock) (ws : List (ℕ × PatchWord)) (o count : ℕ) → c.inserted ≡ map patched ws → NewsFrom 0 (map (λ (w : ℕ × PatchWord). w.1) ws) → Every (λ (w : ℕ × PatchWord). AimsOne m t p l w.1) ws → AllValues i.exprs
        → AllZip Src (words_from (numbered 0 c.inserted) o (own_words m p i (base + o) count)) (image_words c o (own_words m p i (base + o) count))
    from_source c ws o zero e h aims values = subst (λ (xs : List (ℕ × Word)). AllZip Src (inserted_at o (numbered 0 xs)) (inserted_at o xs)) (sym e) (at_source o 0 ws h aims)
    from_source c ws o (suc count) e h aims values =
        let first = subst (λ (xs : List (ℕ × Word)). AllZip Src (inserted_at o (numbered 0 xs)) (inserted_at o xs)) (sym e) (at_source o 0 ws h aims) in
        let v : Word = own_word m p i (base + o) in
        let next : base + (o + 4) ≡ base + o + 4 = omega arith in
        let rest = subst (λ k. AllZip Src (words_from (numbered 0 c.inserted) (o + 4) (own_words m p i k count)) (image_words c (o + 4) (own_words m p i k count))) next (from_source c ws (o + 4) count e h aims values) in
        zip_append Src (inserted_at o (numbered 0 c.inserted)) (own o v ∷ words_from (numbered 0 c.inserted) (o + 4) (own_words m p i (base + o + 4) count))
        (ins c o) (v ∷ image_words c (o + 4) (own_words m p i (base + o + 4) count)) first (own_source o values, rest)

    abbrev HasThere : Interval → ℕ → List PatchedWord → Type 0
    HasThere j at ws = HaveExprs j i s m news base at ws

    -- the words that stand there name what the words of the block name
    pub words_there : (j : Interval) (at : ℕ) (ws : List PatchedWord) (vs : List Word) → HasThere j at ws → AllZip Src ws vs → AllZip NamesOne (own_words n no_patches j at (length ws)) vs
    words_there j at [] [] h k = tt
    words_there j at [] (v ∷ vs) h k = absurd k
    words_there j at (w ∷ ws) [] h k = absurd k
    words_there j at (w ∷ ws) (v ∷ vs) h k = (subst (λ o. NameOne l new g (named_now o) v.target) (sym h.0) (k.0 at), words_there j (at + 4) ws vs h.1 k.1)

    pub sources : (c : CodeBlock) (ws : List (ℕ × PatchWord)) (count : ℕ) → c.inserted ≡ map patched ws → c.own ≡ own_words m p i (base + 0) count → news ≡ map (λ (w : ℕ × PatchWord). w.1) ws → Every (λ (w : ℕ × PatchWord). AimsOne m t p l w.1) ws → AllValues i.exprs
        → AllZip Src (patched_words c) (all_words c)
    sources c ws count e own h aims values =
        subst (λ xs. AllZip Src (words_from (numbered 0 c.inserted) 0 xs) (image_words c 0 xs)) (sym own) (from_source c ws 0 count e (news_from [] (map (λ (w : ℕ × PatchWord). w.1) ws) h) aims values)
