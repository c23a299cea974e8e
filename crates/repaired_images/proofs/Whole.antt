-- All that a module and its patches name is one in both programs, so the intervals and the functions say one thing.
use Rattle.std.proofs.Common.{◌≡◌, ℕ, ◌+◌, ◌≤◌, ℤ, pos, inl, inr, Bool, true, false, List, [], length, map, Option, Some, None, refl, sym, ap, subst, arith}
use Rattle.std.specs.Prelude.{Contains, find, IfSome, if◌then◌else◌, IsSome, MatchOption}
use Rattle.std.specs.List.{AllByRecursion as Every, flat_map, list_any}
use Rattle.std.specs.Str.{bytes_eq}
use Rattle.std.proofs.lemmas.Bool.{both_ways}
use Rattle.aux_tables.specs.ModuleTables.{tables_of}
use Rattle.edge_repair.specs.Repaired.{repaired, repaired_module}
use Rattle.gt_model.specs.declared.exprs.Expr.{Expr}
use Rattle.gt_model.specs.declared.exprs.ExprValue.{ExprValue}
use Rattle.gt_model.specs.declared.exprs.ExprValue.TheVariants as values
use Rattle.gt_model.specs.declared.intervals.Interval.{Interval}
use Rattle.gt_model.specs.declared.ir.Ir.{Ir}
use Rattle.gt_model.specs.declared.modules.Module.{Module}
use Rattle.gt_model.specs.declared.symbols.Symbol.{Symbol}
use Rattle.gt_model.specs.References.{symbols_of}
use Rattle.repaired_images.specs.Sizes.{KeepsSize}
use Rattle.repaired_programs.specs.Intervals.{AimsOne, SaysOne}
use Rattle.repaired_programs.specs.Named.{IsOneTarget}
use Rattle.repaired_programs.specs.Programs.{repaired_program}
use Rattle.repaired_programs.specs.Values.{IsOneExpr, IsOneMoved, IsOneSum, IsOneValue}
use Rattle.rewrite.specs.Identifiers.{symbol_id}
use Rattle.rewrite.specs.Offsets.{new_offset}
use Rattle.rewrite.specs.Places.{moved_tables}
use Rattle.rewrite.specs.Rewritten.{has_words}
use Rattle.rewrite.specs.Symbols.{names_of}
use Rattle.sym_expr.specs.declared.layout.Layout.{Layout}
use Rattle.sym_expr.specs.declared.patches.Function.{Function}
use Rattle.sym_expr.specs.declared.patches.Insert.{Insert}
use Rattle.sym_expr.specs.declared.patches.PatchTable.{PatchTable}
use Rattle.sym_expr.specs.declared.patches.PatchTarget.{PatchTarget}
use Rattle.sym_expr.specs.declared.patches.PatchWord.{PatchWord}
use Rattle.sym_expr.specs.declared.patches.SymbolName.{SymbolName}
use Rattle.sym_expr.specs.declared.patches.SymbolName.TheVariants as names
use Rattle.sym_expr.specs.declared.program.CodeBlock.{CodeBlock}
use Rattle.sym_expr.specs.Linkable.{formed}
use Rattle.sym_expr.specs.Modules.{loaded_intervals}
use Rattle.sym_expr.specs.Patches.{no_patches}
use Rattle.sym_expr.specs.Program.{program, stretch}
use Rattle.sym_expr.specs.TableOk.{function_words, is_aimed, IsNamed, IsTarget, IsWord, patch_words, table_ok}
use Rattle.sym_expr.specs.Tables.{expr_size}
use Rattle.sym_expr.specs.Targets.{first_target, name_target, old_target, points_of_name}
use Rattle.taken_ids.specs.Identifiers.{derived_ids}
use Rattle.repaired_images.proofs.Apart.{id_same, same_id}
use Rattle.repaired_images.proofs.Free.{IsFree, symbol_held}
use Rattle.repaired_images.proofs.Inside.{expr_inside}
use Rattle.repaired_images.proofs.Lists.{every_of, found_in, In, in_back, in_contained, in_flat, in_front, in_map, of_every}
use Rattle.repaired_images.proofs.Named.{expr_held}
use Rattle.repaired_images.proofs.Olds.{old_one, SymbolsOne}

-- the repaired module is in the repaired IR
pub repaired_there : (ir : Ir) (m : Module) (p : PatchTable) → Contains ir.modules m → In (repaired_module m (tables_of m) p) (repaired ir m (tables_of m) p).modules
repaired_there ir m p k =
    let change : Module → Module = λ (x : Module). if bytes_eq x.uuid m.uuid then repaired_module x (tables_of m) p else x in
    let same : change m ≡ repaired_module m (tables_of m) p = ap (λ c. if c then repaired_module m (tables_of m) p else m) (id_same m.uuid m.uuid refl) in
    subst (λ (x : Module). In x (map change ir.modules)) same (in_map change m ir.modules (in_contained m ir.modules k))

-- the words of a block in which nothing is inserted
pub none_more : (b : CodeBlock) → b.inserted ≡ [] → length b.own + length b.inserted ≡ length b.own
none_more b e = let none : length b.inserted ≡ 0 = ap length e in omega (arith, none)

some_is : {X : Type 0} (o : Option X) → IsSome o → (x : X) × (o ≡ Some x)
some_is None k = absurd (both_ways true (sym k) refl)
some_is (Some x) k = (x, refl)

module _ (ir : Ir) (m : Module) (p : PatchTable) (l : Layout) (h : formed ir m (tables_of m)) (ok : table_ok m p) (free : IsFree ir m p) (loaded : SymbolsOne m p l)
    (news : (name : List ℕ) (offset : ℤ) → In name (flat_map names_of p.functions) → IsOneTarget l (repaired_program m (tables_of m) p) (program m (tables_of m) p) (old_target (repaired_module m (tables_of m) p) no_patches (symbol_id m (names.New name)) offset) (first_target (points_of_name m p name))) where
  abbrev OneSum : ℤ → List ℕ → Type 0
  OneSum offset id = IsOneSum m (tables_of m) p l offset id

  -- ---- words of the patches

  name_one : (s : SymbolName) (offset : ℤ) → IsNamed m p s
      → IsOneTarget l (repaired_program m (tables_of m) p) (program m (tables_of m) p) (old_target (repaired_module m (tables_of m) p) no_patches (symbol_id m s) offset) (name_target m p s offset)
  name_one (names.Old id) offset k =
      let s = some_is (find (λ (x : Symbol). bytes_eq x.uuid id) m.symbols) k in
      let found = found_in (λ (x : Symbol). bytes_eq x.uuid id) s.0 m.symbols s.1 in
      old_one ir m p l h free loaded id offset (λ d. free.unheld s.0.uuid (subst (λ z. In z (derived_ids m p)) (sym (same_id s.0.uuid id found.1)) d) (symbol_held ir m s.0 h.member found.0))
  name_one (names.New name) offset k = news name offset (in_contained name (flat_map names_of p.functions) k)

  word_one : (w : PatchWord) → IsWord m p w → AimsOne m (tables_of m) p l w
  word_one w k = by w.target k
    where
      by : (o : Option PatchTarget) → MatchOption o (is_aimed w.word ≡ false) (IsTarget m p w.word)
          → IfSome o (λ (x : PatchTarget). IsOneTarget l (repaired_program m (tables_of m) p) (program m (tables_of m) p) (old_target (repaired_module m (tables_of m) p) no_patches (symbol_id m x.symbol) x.offset) (name_target m p x.symbol x.offset))
      by None q = tt
      by (Some x) q = name_one x.symbol x.offset q.named

  aim : (w : PatchWord) → In w (patch_words p) → AimsOne m (tables_of m) p l w
  aim w k = word_one w (of_every (IsWord m p) w (patch_words p) ok.words k)

  abbrev bodies : List PatchWord
  bodies = flat_map (λ (x : Insert). x.body) p.inserts

  abbrev lines : List PatchWord
  lines = flat_map function_words p.functions

  pub inserts_aim : Every (λ (x : Insert). Every (AimsOne m (tables_of m) p l) x.body) p.inserts
  inserts_aim =
      every_of (λ (x : Insert). Every (AimsOne m (tables_of m) p l) x.body) p.inserts
      (λ x k. every_of (AimsOne m (tables_of m) p l) x.body (λ w q. aim w (in_front w bodies lines (in_flat (λ (x : Insert). x.body) x w p.inserts k q))))

  pub functions_aim : Every (λ (f : Function). Every (AimsOne m (tables_of m) p l) (function_words f)) p.functions
  functions_aim =
      every_of (λ (f : Function). Every (AimsOne m (tables_of m) p l) (function_words f)) p.functions
      (λ f k. every_of (AimsOne m (tables_of m) p l) (function_words f) (λ w q. aim w (in_back w bodies lines (in_flat function_words f w p.functions k q))))

  -- ---- expressions

  value_one : (x : ExprValue) → ((id : List ℕ) → In id (symbols_of x) → (offset : ℤ) → OneSum offset id) → IsOneValue m (tables_of m) p l x
  value_one values.Nothing k = tt
  value_one (values.AddrConst offset None) k = tt
  value_one (values.AddrConst offset (Some id)) k = k id (inl refl) offset
  value_one (values.AddrAddr scale offset None second) k = tt
  value_one (values.AddrAddr scale offset (Some id) None) k = tt
  value_one (values.AddrAddr scale offset (Some id) (Some other)) k = (k id (inl refl) offset, k other (inr (inl refl)) (pos 0))

  expr_value : (i : Interval) (e : Expr) → In i (loaded_intervals m) → In e i.exprs → IsOneValue m (tables_of m) p l e.value
  expr_value i e k q = value_one e.value (λ id n offset. old_one ir m p l h free loaded id offset (λ d. free.unheld id d (expr_held ir m (tables_of m) h i e id k q n)))

  -- ---- intervals

  abbrev Sized : Type 0
  Sized = Every (λ (i : Interval). Every (KeepsSize m (tables_of m) p i) i.exprs) (loaded_intervals m)

  abbrev Calm : Type 0
  Calm = Every (λ (i : Interval). list_any (has_words p) i.blocks ≡ false → (a : ℕ) → a ≤ i.size → new_offset (stretch m (tables_of m) p i) a ≡ a) (loaded_intervals m)

  abbrev Quiet : Type 0
  Quiet = Every (λ (i : Interval). list_any (has_words p) i.blocks ≡ false → Every (IsOneExpr m (tables_of m) p l i) i.exprs → SaysOne m (tables_of m) p l i) (loaded_intervals m)

  abbrev Stretched : Type 0
  Stretched = Every (λ (i : Interval). list_any (has_words p) i.blocks ≡ true → Every (IsOneMoved m (tables_of m) p l i) i.exprs → SaysOne m (tables_of m) p l i) (loaded_intervals m)

  moved_one : Sized → (i : Interval) (e : Expr) → In i (loaded_intervals m) → In e i.exprs → IsOneMoved m (tables_of m) p l i e
  moved_one sized i e k q = record {
    value = expr_value i e k q;
    size = of_every (KeepsSize m (tables_of m) p i) e i.exprs (of_every (λ (i : Interval). Every (KeepsSize m (tables_of m) p i) i.exprs) i (loaded_intervals m) sized k) q;
  }

  pub all_say : Sized → Calm → Quiet → Stretched → Every (SaysOne m (tables_of m) p l) (loaded_intervals m)
  all_say sized calm quiet stretched = every_of (SaysOne m (tables_of m) p l) (loaded_intervals m) (λ i k. by i k (list_any (has_words p) i.blocks) refl)
    where
      by : (i : Interval) → In i (loaded_intervals m) → (x : Bool) → list_any (has_words p) i.blocks ≡ x → SaysOne m (tables_of m) p l i
      by i k true e =
          of_every (λ (i : Interval). list_any (has_words p) i.blocks ≡ true → Every (IsOneMoved m (tables_of m) p l i) i.exprs → SaysOne m (tables_of m) p l i) i (loaded_intervals m) stretched k e
          (every_of (IsOneMoved m (tables_of m) p l i) i.exprs (λ x q. moved_one sized i x k q))
      by i k false e =
          let stays = of_every (λ (i : Interval). list_any (has_words p) i.blocks ≡ false → (a : ℕ) → a ≤ i.size → new_offset (stretch m (tables_of m) p i) a ≡ a) i (loaded_intervals m) calm k e in
          of_every (λ (i : Interval). list_any (has_words p) i.blocks ≡ false → Every (IsOneExpr m (tables_of m) p l i) i.exprs → SaysOne m (tables_of m) p l i) i (loaded_intervals m) quiet k e
          (every_of (IsOneExpr m (tables_of m) p l i) i.exprs
          (λ x q.
          let moved = moved_one sized i x k q in
          let lt = expr_inside ir m (tables_of m) h i k x q in
          record {
            value = moved.value;
            size = subst (λ a. expr_size (moved_tables m (tables_of m) p) i.uuid a ≡ expr_size (tables_of m) i.uuid x.at) (stays x.at (omega (arith, lt))) moved.size;
          }))
