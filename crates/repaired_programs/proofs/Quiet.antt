-- An interval without inserted words says one thing in both programs.
use Rattle.std.proofs.Common.{◌≡◌, ℕ, zero, suc, ◌+◌, ◌-◌, ◌/◌, Bool, true, false, List, [], ◌∷◌, length, map, Option, Some, None, refl, sym, ap, subst}
use Rattle.std.specs.Prelude.{pos, ◌==◌, filter, find, if◌then◌else◌}
use Rattle.std.specs.List.{AllByRecursion as Every, AllZip, cons_option, filter_map, flat_map, list_any}
use Rattle.std.specs.Option.{option_and_then, option_map}
use Rattle.std.proofs.lemmas.Bool.{eqb-true, not-false}
use Rattle.edge_repair.specs.Repaired.{repaired_module}
use Rattle.gt_model.specs.declared.exprs.Expr.{Expr}
use Rattle.gt_model.specs.declared.exprs.ExprValue.{ExprValue}
use Rattle.gt_model.specs.declared.exprs.ExprValue.TheVariants as values
use Rattle.gt_model.specs.declared.intervals.Block.{Block}
use Rattle.gt_model.specs.declared.intervals.Interval.{Interval}
use Rattle.gt_model.specs.declared.modules.Module.{Module}
use Rattle.repaired_programs.specs.Intervals.{SaysOne}
use Rattle.repaired_programs.specs.Named.{FillOne, IsOneFilling, IsOneStretch, IsOneTarget, NameOne, piece_fillings, piece_words}
use Rattle.repaired_programs.specs.Programs.{repaired_program}
use Rattle.repaired_programs.specs.Values.{IsOneExpr, IsOneValue}
use Rattle.rewrite.specs.Places.{moved_tables}
use Rattle.rewrite.specs.Rewritten.{has_words, stretched}
use Rattle.sym_expr.specs.declared.difference.DifferenceForm.{DifferenceForm}
use Rattle.sym_expr.specs.declared.layout.Layout.{Layout}
use Rattle.sym_expr.specs.declared.patches.PatchTable.{PatchTable}
use Rattle.sym_expr.specs.declared.patches.PatchWord.{PatchWord}
use Rattle.sym_expr.specs.declared.program.CodeBlock.{CodeBlock}
use Rattle.sym_expr.specs.declared.program.Filling.{Filling}
use Rattle.sym_expr.specs.declared.program.Filling.TheVariants.{Difference, Entry}
use Rattle.sym_expr.specs.declared.program.Piece.{Piece}
use Rattle.sym_expr.specs.declared.program.Piece.TheVariants.{Code as CodePiece, Data as DataPiece, Gap}
use Rattle.sym_expr.specs.declared.program.Program.{Program}
use Rattle.sym_expr.specs.declared.program.Word.{Word}
use Rattle.sym_expr.specs.declared.target.Target.{Target}
use Rattle.sym_expr.specs.Differences.{form_of}
use Rattle.sym_expr.specs.Images.{all_words}
use Rattle.sym_expr.specs.Modules.{bytes_at, covers, end_of, id_of, in_order, is_code, size_of}
use Rattle.sym_expr.specs.Patches.{inserted_in, no_patches}
use Rattle.sym_expr.specs.Program.{code_block, code_target, data_block, difference_in, filling, filling_at, own_words, patched_word, piece, pieces, program, stretch}
use Rattle.sym_expr.specs.Tables.{Tables, expr_size}
use Rattle.sym_expr.specs.Targets.{old_target}
use Rattle.repaired_programs.proofs.Bare.{AreNamed}
use Rattle.repaired_programs.proofs.Bits.{words_one}
use Rattle.repaired_programs.proofs.Lists.{none_of_any}
use Rattle.repaired_programs.proofs.Readings.{gap_fillings, gap_words, nil_of, quiet_from}
use Rattle.repaired_programs.proofs.Sorted.{each_in_order}
use Rattle.repaired_programs.proofs.Stands.{IsKnown}
use Rattle.repaired_programs.proofs.Still.{IsOnePart, still_bare}
use Rattle.repaired_programs.proofs.Zipped.{zip_append}

-- both have something of which R holds, or neither has
abbrev pub BothOr : {X : Type 0} → (X → X → Type 0) → Option X → Option X → Type 0
BothOr R None None = Unit {0}
BothOr R None (Some y) = ⊥
BothOr R (Some x) None = ⊥
BothOr R (Some x) (Some y) = R x y

pub zip_option : {X : Type 0} (R : X → X → Type 0) (a b : Option X) (xs ys : List X) → BothOr R a b → AllZip R xs ys → AllZip R (cons_option a xs) (cons_option b ys)
zip_option R None None xs ys h k = k
zip_option R None (Some y) xs ys h k = absurd h
zip_option R (Some x) None xs ys h k = absurd h
zip_option R (Some x) (Some y) xs ys h k = (h, k)

module _ (m : Module) (t : Tables) (p : PatchTable) (l : Layout) where
  abbrev n : Module
  n = repaired_module m t p

  abbrev u : Tables
  u = moved_tables m t p

  abbrev new : Program
  new = repaired_program m t p

  abbrev g : Program
  g = program m t p

  abbrev pub NamesOne : Word → Word → Type 0
  NamesOne v w = NameOne l new g v.target w.target

  -- ---- what expressions name

  pub code_one : (x : ExprValue) → IsOneValue m t p l x → NameOne l new g (code_target n no_patches x) (code_target m p x)
  code_one values.Nothing h = tt
  code_one (values.AddrConst offset None) h = tt
  code_one (values.AddrConst offset (Some id)) h = h
  code_one (values.AddrAddr scale offset first second) h = tt

  difference_one : (a b c d : Target) (f : DifferenceForm) → IsOneTarget l new g a b → IsOneTarget l new g c d → FillOne l new g (difference_in a c f) (difference_in b d f)
  difference_one a b c d f h k = either f.is_entry
    where
      either : (x : Bool) → FillOne l new g (if x then Entry f.size f.scale a c else Difference f.size a c) (if x then Entry f.size f.scale b d else Difference f.size b d)
      either true = (refl, refl, h, k)
      either false = (refl, h, k)

  form_one : (a b c d : Target) (o : Option DifferenceForm) → IsOneTarget l new g a b → IsOneTarget l new g c d → BothOr (FillOne l new g) (option_map (difference_in a c) o) (option_map (difference_in b d) o)
  form_one a b c d None h k = tt
  form_one a b c d (Some f) h k = difference_one a b c d f h k

  pub filling_one : (size : ℕ) (x : ExprValue) → IsOneValue m t p l x → BothOr (FillOne l new g) (filling n no_patches size x) (filling m p size x)
  filling_one size values.Nothing h = tt
  filling_one size (values.AddrConst offset None) h = tt
  filling_one size (values.AddrConst offset (Some id)) h = h
  filling_one size (values.AddrAddr scale offset None second) h = tt
  filling_one size (values.AddrAddr scale offset (Some a) None) h = tt
  filling_one size (values.AddrAddr scale offset (Some a) (Some b)) h =
      form_one (old_target n no_patches a offset) (old_target m p a offset) (old_target n no_patches b (pos 0)) (old_target m p b (pos 0)) (form_of size scale) h.0 h.1

  pub at_one : (at : ℕ) (a b : Option Filling) → BothOr (FillOne l new g) a b → BothOr (IsOneFilling l new g) (option_map (λ f. (at, f)) a) (option_map (λ f. (at, f)) b)
  at_one at None None h = tt
  at_one at None (Some y) h = absurd h
  at_one at (Some x) None h = absurd h
  at_one at (Some x) (Some y) h = record { at = refl; filling = h }

  -- ---- of an interval as it is

  module _ (i : Interval) where
    found_one : (k : ℕ) (es : List Expr) → Every (IsOneExpr m t p l i) es
        → NameOne l new g (option_and_then (λ (e : Expr). code_target n no_patches e.value) (find (λ (e : Expr). k == e.at) es)) (option_and_then (λ (e : Expr). code_target m p e.value) (find (λ (e : Expr). k == e.at) es))
    found_one k [] h = tt
    found_one k (e ∷ es) h = either (k == e.at) (found_one k es h.1)
      where
        either : (x : Bool) → NameOne l new g (option_and_then (λ (e : Expr). code_target n no_patches e.value) (find (λ (e : Expr). k == e.at) es)) (option_and_then (λ (e : Expr). code_target m p e.value) (find (λ (e : Expr). k == e.at) es))
            → NameOne l new g (option_and_then (λ (e : Expr). code_target n no_patches e.value) (if x then Some e else find (λ (e : Expr). k == e.at) es)) (option_and_then (λ (e : Expr). code_target m p e.value) (if x then Some e else find (λ (e : Expr). k == e.at) es))
        either true rest = code_one e.value h.0.value
        either false rest = rest

    own_one : Every (IsOneExpr m t p l i) i.exprs → (at k : ℕ) → AllZip NamesOne (own_words n no_patches i at k) (own_words m p i at k)
    own_one h at zero = tt
    own_one h at (suc k) = (found_one at i.exprs h, own_one h (at + 4) k)

    fillings_one : (b : Block) (es : List Expr) → Every (IsOneExpr m t p l i) es
        → AllZip (IsOneFilling l new g) (filter_map (filling_at n u no_patches i b) (filter (λ (e : Expr). covers e.at b) es)) (filter_map (filling_at m t p i b) (filter (λ (e : Expr). covers e.at b) es))
    fillings_one b [] h = tt
    fillings_one b (e ∷ es) h = either (covers e.at b) (fillings_one b es h.1)
      where
        one : BothOr (IsOneFilling l new g) (filling_at n u no_patches i b e) (filling_at m t p i b e)
        one =
            subst (λ k. BothOr (IsOneFilling l new g) (option_map (λ f. (e.at - b.offset, f)) (filling n no_patches k e.value)) (filling_at m t p i b e)) (sym h.0.size)
            (at_one (e.at - b.offset) (filling n no_patches (expr_size t i.uuid e.at) e.value) (filling m p (expr_size t i.uuid e.at) e.value) (filling_one (expr_size t i.uuid e.at) e.value h.0.value))

        either : (x : Bool) → AllZip (IsOneFilling l new g) (filter_map (filling_at n u no_patches i b) (filter (λ (e : Expr). covers e.at b) es)) (filter_map (filling_at m t p i b) (filter (λ (e : Expr). covers e.at b) es))
            → AllZip (IsOneFilling l new g) (filter_map (filling_at n u no_patches i b) (if x then e ∷ filter (λ (e : Expr). covers e.at b) es else filter (λ (e : Expr). covers e.at b) es)) (filter_map (filling_at m t p i b) (if x then e ∷ filter (λ (e : Expr). covers e.at b) es else filter (λ (e : Expr). covers e.at b) es))
        either true rest = zip_option (IsOneFilling l new g) (filling_at n u no_patches i b e) (filling_at m t p i b e) (filter_map (filling_at n u no_patches i b) (filter (λ (e : Expr). covers e.at b) es)) (filter_map (filling_at m t p i b) (filter (λ (e : Expr). covers e.at b) es)) one rest
        either false rest = rest

    abbrev piece_now : Block → Bool → Piece
    piece_now b x = if x then CodePiece (code_block n no_patches i b) else DataPiece (data_block n u no_patches i b)

    abbrev piece_before : Block → Bool → Piece
    piece_before b x = if x then CodePiece (code_block m p i b) else DataPiece (data_block m t p i b)

    none_inserted : (b : Block) → has_words p b ≡ false → (code_block m p i b).inserted ≡ []
    none_inserted b none =
        let zero_words : length (inserted_in p (id_of b)) ≡ 0 = eqb-true (length (inserted_in p (id_of b))) 0 (not-false (length (inserted_in p (id_of b)) == 0) none) in
        ap (map (λ (w : ℕ × PatchWord). let v : ℕ × Word = (w.0, patched_word m p w.1) in v)) (nil_of (inserted_in p (id_of b)) zero_words)

    piece_words_one : (b : Block) (x : Bool) → Every (IsOneExpr m t p l i) i.exprs → has_words p b ≡ false → AllZip NamesOne (piece_words (piece_now b x)) (piece_words (piece_before b x))
    piece_words_one b true h none =
        let own = own_one h b.offset (size_of b / 4) in
        subst (λ vs. AllZip NamesOne vs (all_words (code_block m p i b))) (sym (quiet_from (code_block n no_patches i b) 0 (code_block n no_patches i b).own refl))
        (subst (λ ws. AllZip NamesOne (own_words n no_patches i b.offset (size_of b / 4)) ws) (sym (quiet_from (code_block m p i b) 0 (code_block m p i b).own (none_inserted b none))) own)
    piece_words_one b false h none = tt

    piece_fillings_one : (b : Block) (x : Bool) → Every (IsOneExpr m t p l i) i.exprs → AllZip (AllZip (IsOneFilling l new g)) (piece_fillings (piece_now b x)) (piece_fillings (piece_before b x))
    piece_fillings_one b true h = tt
    piece_fillings_one b false h = (fillings_one b i.exprs h, tt)

    abbrev now : ℕ → List Block → List Piece
    now at bs = pieces n u no_patches i at bs

    abbrev before : ℕ → List Block → List Piece
    before at bs = pieces m t p i at bs

    all_words_one : (at : ℕ) (bs : List Block) → Every (IsOneExpr m t p l i) i.exprs → Every (λ b. has_words p b ≡ false) bs → AllZip NamesOne (flat_map piece_words (now at bs)) (flat_map piece_words (before at bs))
    all_words_one at [] h none = either (i.size - at == 0)
      where
        either : (x : Bool) → AllZip NamesOne (flat_map piece_words (if x then [] else Gap (bytes_at i at (i.size - at)) ∷ [])) (flat_map piece_words (if x then [] else Gap (bytes_at i at (i.size - at)) ∷ []))
        either true = tt
        either false = tt
    all_words_one at (b ∷ bs) h none =
        let bytes : List ℕ = bytes_at i at (b.offset - at) in
        let first : List Piece = piece n u no_patches i b ∷ now (end_of b) bs in
        let second : List Piece = piece m t p i b ∷ before (end_of b) bs in
        let rest = zip_append NamesOne (piece_words (piece n u no_patches i b)) (flat_map piece_words (now (end_of b) bs)) (piece_words (piece m t p i b)) (flat_map piece_words (before (end_of b) bs))
        (piece_words_one b (is_code b) h none.0) (all_words_one (end_of b) bs h none.1) in
        subst (λ vs. AllZip NamesOne vs (flat_map piece_words (before at (b ∷ bs)))) (sym (gap_words bytes (b.offset - at == 0) first))
        (subst (λ ws. AllZip NamesOne (flat_map piece_words first) ws) (sym (gap_words bytes (b.offset - at == 0) second)) rest)

    abbrev FillingsOne : List (ℕ × Filling) → List (ℕ × Filling) → Type 0
    FillingsOne xs ys = AllZip (IsOneFilling l new g) xs ys

    all_fillings_one : (at : ℕ) (bs : List Block) → Every (IsOneExpr m t p l i) i.exprs → AllZip (AllZip (IsOneFilling l new g)) (flat_map piece_fillings (now at bs)) (flat_map piece_fillings (before at bs))
    all_fillings_one at [] h = either (i.size - at == 0)
      where
        either : (x : Bool) → AllZip (AllZip (IsOneFilling l new g)) (flat_map piece_fillings (if x then [] else Gap (bytes_at i at (i.size - at)) ∷ [])) (flat_map piece_fillings (if x then [] else Gap (bytes_at i at (i.size - at)) ∷ []))
        either true = tt
        either false = tt
    all_fillings_one at (b ∷ bs) h =
        let bytes : List ℕ = bytes_at i at (b.offset - at) in
        let first : List Piece = piece n u no_patches i b ∷ now (end_of b) bs in
        let second : List Piece = piece m t p i b ∷ before (end_of b) bs in
        let rest = zip_append (AllZip (IsOneFilling l new g)) (piece_fillings (piece n u no_patches i b)) (flat_map piece_fillings (now (end_of b) bs)) (piece_fillings (piece m t p i b)) (flat_map piece_fillings (before (end_of b) bs))
        (piece_fillings_one b (is_code b) h) (all_fillings_one (end_of b) bs h) in
        subst (λ vs. AllZip (AllZip (IsOneFilling l new g)) vs (flat_map piece_fillings (before at (b ∷ bs)))) (sym (gap_fillings bytes (b.offset - at == 0) first))
        (subst (λ ws. AllZip (AllZip (IsOneFilling l new g)) (flat_map piece_fillings first) ws) (sym (gap_fillings bytes (b.offset - at == 0) second)) rest)

    pub quiet_one : ((b : CodeBlock) → AreNamed b) → ((b : CodeBlock) → IsOnePart b) → IsKnown m t p i → list_any (has_words p) i.blocks ≡ false → Every (IsOneExpr m t p l i) i.exprs → SaysOne m t p l i
    quiet_one named one known none h =
        let bs : List Block = in_order i.blocks in
        let none_in : Every (λ b. has_words p b ≡ false) bs = each_in_order (λ b. has_words p b ≡ false) i.blocks (none_of_any (has_words p) i.blocks none) in
        let here : IsOneStretch l new g (stretch n u no_patches i) (stretch m t p i) = record {
          words = words_one named m l new g (now 0 bs) (before 0 bs) (still_bare one m t p i n u (λ id. refl) 0 bs known.behind known.fit none_in) (all_words_one 0 bs h none_in);
          fillings = all_fillings_one 0 bs h;
        } in
        subst (λ x. IsOneStretch l new g (stretch n u no_patches (if x then stretched m p i (stretch m t p i) else i)) (stretch m t p i)) (sym none) here
