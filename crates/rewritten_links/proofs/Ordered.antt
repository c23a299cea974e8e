-- The expressions of a rewritten IR ascend.
use Rattle.std.proofs.Common.{◌≡◌, ◌≢◌, ℕ, ◌+◌, ◌-◌, ◌%◌, ◌<◌, ◌≤◌, inl, inr, Bool, true, false, ◌&&◌, not, List, [], ◌∷◌, ◌++◌, length, map, Option, Some, None, is_some, refl, sym, ap, subst, ◌∙◌, arith}
use Rattle.std.specs.Prelude.{filter, find, nat_le, nat_lt, ◌==◌, if◌then◌else◌}
use Rattle.std.specs.List.{list_any, zip}
use Rattle.std.specs.Option.{IsSomeAnd, option_map, option_map_or, option_to_list}
use Rattle.std.specs.Str.{bytes_eq}
use Rattle.std.proofs.lemmas.Bool.{and_from, and_parts, cases_Bool, cases_lt, eqb-true, false≢true, false_from_ne_true, le-leb, leb-true, lt-ltb, ltb-false, ltb-true, not-false}
use Rattle.std.proofs.lemmas.Option.{none-some, same_Some}
use Rattle.a64_inst.specs.Kinds.{operand_kind}
use Rattle.aux_tables.specs.ModuleTables.{tables_of}
use Rattle.gt_model.specs.declared.exprs.Expr.{Expr}
use Rattle.gt_model.specs.declared.intervals.Block.{Block}
use Rattle.gt_model.specs.declared.intervals.Interval.{Interval}
use Rattle.gt_model.specs.declared.ir.Ir.{Ir}
use Rattle.gt_model.specs.declared.modules.Module.{Module}
use Rattle.gt_model.specs.declared.modules.Section.{Section}
use Rattle.gt_model.specs.Ordered.{ordered, ordered_interval, ordered_module, ordered_section}
use Rattle.rewrite.specs.Exprs.{moved_expr, new_exprs, patch_expr}
use Rattle.rewrite.specs.Functions.{exprs_from, function_interval}
use Rattle.rewrite.specs.Offsets.{new_offset}
use Rattle.rewrite.specs.Rooms.{old_length}
use Rattle.rewrite.specs.Rewritten.{has_words, new_interval, new_intervals, new_section, rewritten, rewritten_module, stretched}
use Rattle.sym_expr.specs.declared.patches.Insert.{Insert}
use Rattle.sym_expr.specs.declared.patches.PatchTable.{PatchTable}
use Rattle.sym_expr.specs.declared.patches.PatchWord.{PatchWord}
use Rattle.sym_expr.specs.declared.program.Piece.{Piece}
use Rattle.sym_expr.specs.declared.program.Piece.TheVariants.{Code as CodePiece, Data as DataPiece, Gap}
use Rattle.sym_expr.specs.declared.program.Stretch.{Stretch}
use Rattle.sym_expr.specs.declared.program.Word.{Word}
use Rattle.sym_expr.specs.Expressions.{BadOperand, BadTarget, ExprFault, expr_fault, fits_block, fits_code, home, interval_faults, is_operand, is_sum, names_bad, symbol_aim, word_or_none, fits_data}
use Rattle.sym_expr.specs.Linkable.{blocks_outside, formed, is_crooked, is_overlap, overlaps_among, overlaps_in, passes}
use Rattle.sym_expr.specs.Modules.{block_of, blocks_of, bytes_at, covers, end_of, in_order, is_code, is_loaded, loaded_intervals, loaded_sections, size_of, word_of, id_of}
use Rattle.sym_expr.specs.Patches.{inserted_in}
use Rattle.sym_expr.specs.Placing.{placed}
use Rattle.sym_expr.specs.Points.{code_size, data_size}
use Rattle.sym_expr.specs.Program.{code_block, data_block, has_entry, patched_word, piece, pieces, stretch}
use Rattle.sym_expr.specs.TableOk.{IsInsert, IsSpot, function_words, table_ok}
use Rattle.sym_expr.specs.Tables.{Tables, expr_size}
use Rattle.rewritten_links.proofs.Ascending.{Ascend, ascend_both, ascend_of, differ_both, differ_of, offset_ascends, sorted_of}
use Rattle.rewritten_links.proofs.Homes.{out_order}
use Rattle.rewritten_links.proofs.Lists.{In, every_of, found_in, in_either, in_filter, in_filter_map, in_flat, of_every, out_filter, out_flat, out_map}
use Rattle.rewritten_links.proofs.Ranges.{Suits, all_ascend, all_brought, cross}
use Rattle.rewritten_links.proofs.Sizes.{not_crooked, whole_size}
use Rattle.rewritten_links.proofs.Stand.{OnFour, of_target, option_ascends}
use Rattle.rewritten_links.proofs.Stay.{HaveOlds, KeepOrder, old_room, length_bytes}
use Rattle.rewritten_links.proofs.Whole.{alone, changed}

-- ---- blocks in order, where none overlap

-- each block begins behind the end of the one before it
abbrev Behind : ℕ → List Block → Type 0
Behind at [] = Unit {0}
Behind at (b ∷ bs) = (at ≤ b.offset) × Behind (end_of b) bs

no_overlap : (b : Block) (bs : List Block) → ((x : Block × Block) → In x (zip (b ∷ bs) bs) → is_overlap x ≡ false) → Behind (end_of b) bs
no_overlap b [] h = tt
no_overlap b (c ∷ cs) h = (ltb-false c.offset (end_of b) (h (b, c) (inl refl)), no_overlap c cs (λ x k. h x (inr k)))

behind_of : (bs : List Block) → overlaps_among bs ≡ [] → Behind 0 bs
behind_of [] e = tt
behind_of (b ∷ bs) e = (omega arith, no_overlap b bs (λ x k. false_from_ne_true (is_overlap x) (λ d. subst (In x) e (in_filter is_overlap x (zip (b ∷ bs) bs) d k))))

-- ---- where an expression stands

no_operand : (b : Bool) (o : Option ExprFault) → (if not b then Some BadOperand else o) ≡ None → b ≡ true
no_operand true o e = refl
no_operand false o e = absurd (none-some BadOperand (sym e))

abbrev fault_at : Module → Tables → Interval → Expr → Option (ℕ × ExprFault)
fault_at m t i e = option_map (λ fault. (e.at, fault)) (expr_fault (symbol_aim m) (expr_size t i.uuid) i e)

no_fault : (at : ℕ) (o : Option ExprFault) → ((x : ℕ × ExprFault) → option_map (λ fault. let y : ℕ × ExprFault = (at, fault) in y) o ≡ Some x → ⊥) → o ≡ None
no_fault at None h = refl
no_fault at (Some fault) h = absurd (h (at, fault) refl)

operand : (ir : Ir) (m : Module) (t : Tables) (i : Interval) (e : Expr) → formed ir m t → In i (loaded_intervals m) → In e i.exprs → is_operand (expr_size t i.uuid) i e ≡ true
operand ir m t i e h k l =
    no_operand (is_operand (expr_size t i.uuid) i e) (if names_bad (symbol_aim m) (expr_size t i.uuid e.at) (word_or_none i e) e.value then Some BadTarget else None) (no_fault e.at (expr_fault (symbol_aim m) (expr_size t i.uuid) i e) (λ x d.
    subst (In x) h.faultless.exprs (in_flat (interval_faults m t) i x (loaded_intervals m) k (in_filter_map (fault_at m t i) e x i.exprs l d))))

at_home : (size : ℕ → ℕ) (i : Interval) (e : Expr) (o : Option Block) → home i e.at ≡ o → option_map_or (fits_block size i e) o false ≡ true → (b : Block) × (home i e.at ≡ Some b) × (fits_block size i e b ≡ true)
at_home size i e None d h = absurd (false≢true h)
at_home size i e (Some b) d h = (b, d, h)

-- a block has it, and where that is code it stands at a word
pub record Stands (i : Interval) (at : ℕ) : Type 0 where
  pub block : Block
  pub home : home i at ≡ Some block
  pub word : is_code block ≡ true → at % 4 ≡ 0

code_fits : (size : ℕ → ℕ) (i : Interval) (e : Expr) (b : Block) → fits_block size i e b ≡ true → is_code b ≡ true → e.at % 4 ≡ 0
code_fits size i e b h code =
    let fits : fits_code i e ≡ true = sym (ap (λ x. if x then fits_code i e else fits_data size i b e) code) ∙ h in
    let both = and_parts (is_sum e.value) ((e.at % 4 == 0) && is_some (operand_kind (word_of i e.at))) fits in
    eqb-true (e.at % 4) 0 (and_parts (e.at % 4 == 0) (is_some (operand_kind (word_of i e.at))) both.1).0

stands : (ir : Ir) (m : Module) (t : Tables) (i : Interval) (e : Expr) → formed ir m t → In i (loaded_intervals m) → In e i.exprs → Stands i e.at
stands ir m t i e h k l =
    let b = at_home (expr_size t i.uuid) i e (home i e.at) refl (operand ir m t i e h k l) in
    record { block = b.0; home = b.1; word = code_fits (expr_size t i.uuid) i e b.0 b.2 }

covered : (at : ℕ) (b : Block) → covers at b ≡ true → (b.offset ≤ at) × (at < end_of b)
covered at b h =
    let both = and_parts (nat_le b.offset at) (nat_lt at (end_of b)) h in
    (leb-true b.offset at both.0, ltb-true at (end_of b) both.1)

in_size : (ir : Ir) (m : Module) (t : Tables) (i : Interval) (at : ℕ) → formed ir m t → In i (loaded_intervals m) → Stands i at → at < i.size
in_size ir m t i at h k s =
    let found = found_in (covers at) s.block (in_order i.blocks) s.home in
    let among = out_order s.block i.blocks found.0 in
    let inside : passes i.size s.block ≡ false = false_from_ne_true (passes i.size s.block) (λ d.
    subst (In s.block) h.faultless.inside (in_flat blocks_outside i s.block (loaded_intervals m) k (in_filter (passes i.size) s.block i.blocks d among))) in
    let most = ltb-false i.size (end_of s.block) inside in
    let range = covered at s.block found.1 in
    let high = range.1 in
    omega (arith, most, high)

-- ---- the pieces suit it

suits_on : (a from to : ℕ) (ps : List Piece) → from ≡ to → Suits a to ps → Suits a from ps
suits_on a from to ps e h = subst (λ n. Suits a n ps) (sym e) h

gap_suits : (a from to : ℕ) (i : Interval) (x : Bool) (ps : List Piece) → (to - from == 0) ≡ x → from ≤ to → Suits a to ps → Suits a from ((if x then [] else Gap (bytes_at i from (to - from)) ∷ []) ++ ps)
gap_suits a from to i true ps e le h = let none = eqb-true (to - from) 0 e in suits_on a from to ps (omega (arith, none, le)) h
gap_suits a from to i false ps e le h = let count = length_bytes i from (to - from) in suits_on a (from + length (bytes_at i from (to - from))) to ps (omega (arith, count, le)) h

last_gap : (a from at to : ℕ) (i : Interval) (x : Bool) → Suits a from (if x then [] else Gap (bytes_at i at (to - at)) ∷ [])
last_gap a from at to i true = tt
last_gap a from at to i false = tt

-- words are inserted before words
spot_whole : (offset : ℕ) (o : Option Block) → IsSomeAnd o (IsSpot offset) → offset % 4 ≡ 0
spot_whole offset None h = absurd h
spot_whole offset (Some b) h = h.whole

on_four : (m : Module) (p : PatchTable) (i : Interval) (b : Block) → table_ok m p → OnFour (code_block m p i b).inserted
on_four m p i b ok w h =
    let pair = out_map (λ (v : ℕ × PatchWord). let x : ℕ × Word = (v.0, patched_word m p v.1) in x) w (inserted_in p (id_of b)) h in
    let insert = out_flat (λ (n : Insert). map (λ (v : PatchWord). let x : ℕ × PatchWord = (n.offset, v) in x) n.body) pair.0 (filter (λ (n : Insert). bytes_eq n.block (id_of b)) p.inserts) pair.1 in
    let kept = out_filter (λ (n : Insert). bytes_eq n.block (id_of b)) insert.0 p.inserts insert.1 in
    let own = out_map (λ (v : PatchWord). let x : ℕ × PatchWord = (insert.0.offset, v) in x) pair.0 insert.0.body insert.2 in
    let whole = spot_whole insert.0.offset (block_of insert.0.block (blocks_of (loaded_intervals m))) (of_every (IsInsert m) insert.0 p.inserts ok.inserts kept.0).spot in
    let same : w.0 ≡ insert.0.offset = ap (λ (x : ℕ × Word). x.0) pair.2 ∙ ap (λ (x : ℕ × PatchWord). x.0) own.2 in
    subst (λ n. n % 4 ≡ 0) (sym same) whole

module _ (m : Module) (t : Tables) (p : PatchTable) (i : Interval) (ok : table_ok m p) where
  abbrev Straight : List Block → Type 0
  Straight bs = (b : Block) → In b bs → is_crooked b ≡ false

  either_past : (a from : ℕ) (b : Block) (x : Bool) (ps : List Piece) → a ≤ from → (is_code b ≡ x) → ((to : ℕ) → a ≤ to → Suits a to ps) → Suits a from ((if x then CodePiece (code_block m p i b) else DataPiece (data_block m t p i b)) ∷ ps)
  either_past a from b true ps le code rest = (λ lt. let none : a - from ≡ 0 = omega (arith, le) in subst (λ n. n % 4 ≡ 0) (sym none) refl, on_four m p i b ok, rest (from + code_size (code_block m p i b)) (omega (arith, le)))
  either_past a from b false ps le code rest = rest (from + data_size (data_block m t p i b)) (omega (arith, le))

  gap_past : (a from at to : ℕ) (x : Bool) (ps : List Piece) → a ≤ from → ((n : ℕ) → a ≤ n → Suits a n ps) → Suits a from ((if x then [] else Gap (bytes_at i at (to - at)) ∷ []) ++ ps)
  gap_past a from at to true ps le rest = rest from le
  gap_past a from at to false ps le rest = rest (from + length (bytes_at i at (to - at))) (omega (arith, le))

  -- pieces behind the offset say nothing
  past_suits : (a from at : ℕ) (bs : List Block) → a ≤ from → Suits a from (pieces m t p i at bs)
  past_suits a from at [] le = last_gap a from at i.size i (i.size - at == 0)
  past_suits a from at (b ∷ bs) le =
      gap_past a from at b.offset (b.offset - at == 0) (piece m t p i b ∷ pieces m t p i (end_of b) bs) le (λ n l. either_past a n b (is_code b) (pieces m t p i (end_of b) bs) l refl (λ to k. past_suits a to (end_of b) bs k))

  code_place : (offset size : ℕ) (x : Bool) → x ≡ true → (x && not ((offset % 4 == 0) && (size % 4 == 0))) ≡ false → offset % 4 ≡ 0
  code_place offset size true e h = eqb-true (offset % 4) 0 (and_parts (offset % 4 == 0) (size % 4 == 0) (not-false ((offset % 4 == 0) && (size % 4 == 0)) h)).0
  code_place offset size false e h = absurd (false≢true e)

  -- where a block of code has the offset, it is that of a word
  abbrev WordIn : ℕ → List Block → Type 0
  WordIn a bs = (b : Block) → find (covers a) bs ≡ Some b → is_code b ≡ true → a % 4 ≡ 0

  in_block : (a : ℕ) (b : Block) (bs : List Block) → WordIn a (b ∷ bs) → is_code b ≡ true → is_crooked b ≡ false → a < end_of b → (a - b.offset) % 4 ≡ 0
  in_block a b bs word code straight lt =
      elim (cases_lt a b.offset) [
        | inl under ↦ let none : a - b.offset ≡ 0 = omega (arith, under) in subst (λ n. n % 4 ≡ 0) (sym none) refl
        | inr over ↦
            let has : covers a b ≡ true = and_from (nat_le b.offset a) (nat_lt a (end_of b)) (le-leb b.offset a over) (lt-ltb a (end_of b) lt) in
            let found : find (covers a) (b ∷ bs) ≡ Some b = ap (λ x. if x then Some b else find (covers a) bs) has in
            let whole = word b found code in
            let place = code_place b.offset (size_of b) (is_code b) code straight in
            omega (arith, over, whole, place)
      ]

  first_suits : (a : ℕ) (b : Block) (bs : List Block) (x : Bool) (ps : List Piece) → is_code b ≡ x → is_crooked b ≡ false → WordIn a (b ∷ bs) → Suits a (end_of b) ps → Suits a b.offset ((if x then CodePiece (code_block m p i b) else DataPiece (data_block m t p i b)) ∷ ps)
  first_suits a b bs true ps code straight word rest =
      let whole = whole_size m p i b code straight in
      (λ lt. in_block a b bs word code straight (omega (arith, lt, whole)), on_four m p i b ok, suits_on a (b.offset + code_size (code_block m p i b)) (end_of b) ps (omega (arith, whole)) rest)
  first_suits a b bs false ps code straight word rest =
      let count = length_bytes i b.offset (size_of b) in
      suits_on a (b.offset + data_size (data_block m t p i b)) (end_of b) ps (omega (arith, count)) rest

  pub pieces_suit : (a at : ℕ) (bs : List Block) → Behind at bs → Straight bs → WordIn a bs → Suits a at (pieces m t p i at bs)
  pieces_suit a at [] behind straight word = last_gap a at at i.size i (i.size - at == 0)
  pieces_suit a at (b ∷ bs) behind straight word =
      let rest : Suits a (end_of b) (pieces m t p i (end_of b) bs) = next_suits (covers a b) refl (pieces_suit a (end_of b) bs behind.1 (λ c k. straight c (inr k))) in
      gap_suits a at b.offset i (b.offset - at == 0) (piece m t p i b ∷ pieces m t p i (end_of b) bs) refl behind.0 (first_suits a b bs (is_code b) (pieces m t p i (end_of b) bs) refl (straight b (inl refl)) word rest)
    where
      next_suits : (x : Bool) → covers a b ≡ x → (WordIn a bs → Suits a (end_of b) (pieces m t p i (end_of b) bs)) → Suits a (end_of b) (pieces m t p i (end_of b) bs)
      next_suits true e f = let range = covered a b e in let high = range.1 in past_suits a (end_of b) (end_of b) bs (omega (arith, high))
      next_suits false e f = f (λ c found. word c (ap (λ x. if x then Some b else find (covers a) bs) e ∙ found))

empty_of : {A : Type 0} (ys : List A) → ((y : A) → In y ys → ⊥) → ys ≡ []
empty_of [] h = refl
empty_of (y ∷ ys) h = absurd (h y (inl refl))

interval_suits : (ir : Ir) (m : Module) (t : Tables) (p : PatchTable) (i : Interval) (a : ℕ) → formed ir m t → table_ok m p → In i (loaded_intervals m) → Stands i a → Suits a 0 (stretch m t p i).pieces
interval_suits ir m t p i a h ok k s =
    let none : overlaps_in i ≡ [] = empty_of (overlaps_in i) (λ x l. subst (In x) h.faultless.apart (in_flat overlaps_in i x (loaded_intervals m) k l)) in
    pieces_suit m t p i ok a 0 (in_order i.blocks) (behind_of (in_order i.blocks) none) (λ b l. not_crooked (loaded_intervals m) i b h.faultless.straight k (out_order b i.blocks l))
    (λ b found code. s.word (ap is_code (same_Some s.block b (sym s.home ∙ found)) ∙ code))

-- ---- an interval

moved_ascend : KeepOrder → (s : Stretch) (size : ℕ) (es : List Expr) → old_length s ≡ size → Ascend es → ((e : Expr) → In e es → e.at < size) → Ascend (map (moved_expr s) es)
moved_ascend order s size [] room h inside = tt
moved_ascend order s size (e ∷ es) room h inside = (
  λ f k.
      let old = out_map (moved_expr s) f es k in
      let lt = h.0 old.0 old.1 in
      let most = inside old.0 (inr old.1) in
      subst (λ (x : Expr). new_offset s e.at < x.at) (sym old.2) (order s e.at old.0.at lt (omega (arith, room, most))),
  moved_ascend order s size es room h.1 (λ f k. inside f (inr k)),
)

new_ascend : KeepOrder → HaveOlds → (ir : Ir) (m : Module) (t : Tables) (p : PatchTable) (i : Interval) → formed ir m t → table_ok m p → In i (loaded_intervals m) → Ascend i.exprs → Ascend (new_exprs m p i (stretch m t p i))
new_ascend order olds ir m t p i h ok k old =
    let s = stretch m t p i in
    let moved : List Expr = map (moved_expr s) i.exprs in
    let news : List Expr = all_brought m p (placed s) in
    let first = moved_ascend order s i.size i.exprs (old_room olds ir m t p i h k) old (λ e l. in_size ir m t i e.at h k (stands ir m t i e h k l)) in
    offset_ascends (moved ++ news) (differ_both moved news (differ_of moved first) (differ_of news (all_ascend m p 0 s.pieces)) (λ x y l n same.
    let e = out_map (moved_expr s) x i.exprs l in
    cross m p e.0.at 0 0 s.pieces y (omega arith) (interval_suits ir m t p i e.0.at h ok k (stands ir m t i e.0 h k e.1)) n (same ∙ ap (λ (z : Expr). z.at) e.2)))

lines_above : (m : Module) (start : ℕ) (ws : List PatchWord) (y : Expr) → In y (exprs_from m start ws) → start ≤ y.at
lines_above m start [] y h = absurd h
lines_above m start (w ∷ ws) y h =
    elim (in_either y (option_to_list (patch_expr m start w)) (exprs_from m (start + 4) ws) h) [
      | inl k ↦ (let at = of_target m start w.target y k in omega (arith, at))
      | inr k ↦ (let low = lines_above m (start + 4) ws y k in omega (arith, low))
    ]

lines_ascend : (m : Module) (start : ℕ) (ws : List PatchWord) → Ascend (exprs_from m start ws)
lines_ascend m start [] = tt
lines_ascend m start (w ∷ ws) =
    ascend_both (start + 4) (option_to_list (patch_expr m start w)) (exprs_from m (start + 4) ws) (option_ascends (patch_expr m start w)) (lines_ascend m (start + 4) ws)
    (λ x k. let at = of_target m start w.target x k in omega (arith, at)) (λ y k. lines_above m (start + 4) ws y k)

-- ---- the IR

module _ (order : KeepOrder) (olds : HaveOlds) (ir : Ir) (m : Module) (p : PatchTable) (h : formed ir m (tables_of m)) (ok : table_ok m p) where
  either_interval : (i : Interval) (x : Bool) → In i (loaded_intervals m) → ordered_interval i → ordered_interval (if x then stretched m p i (stretch m (tables_of m) p i) else i)
  either_interval i true k old = record { exprs = sorted_of (new_exprs m p i (stretch m (tables_of m) p i)) (new_ascend order olds ir m (tables_of m) p i h ok k (ascend_of i.exprs old.exprs)) }
  either_interval i false k old = old

  extra_ordered : (x : Bool) (j : Interval) → In j (if x then map (function_interval m) p.functions else []) → ordered_interval j
  extra_ordered true j k =
      let f = out_map (function_interval m) j p.functions k in
      subst ordered_interval (sym f.2) (record { exprs = sorted_of (exprs_from m 0 (function_words f.0)) (lines_ascend m 0 (function_words f.0)) })
  extra_ordered false j k = absurd k

  loaded_ordered : (s : Section) → In s m.sections → is_loaded s ≡ true → ordered_section s → (j : Interval) → In j (new_intervals m (tables_of m) p s) → ordered_interval j
  loaded_ordered s k loaded old j l =
      elim (in_either j (map (new_interval m (tables_of m) p) s.intervals) (if has_entry m s then map (function_interval m) p.functions else []) l) [
        | inl n ↦
            let i = out_map (new_interval m (tables_of m) p) j s.intervals n in
            let there = in_flat (λ (x : Section). x.intervals) s i.0 (loaded_sections m) (in_filter is_loaded s m.sections loaded k) i.1 in
            subst ordered_interval (sym i.2) (either_interval i.0 (list_any (has_words p) i.0.blocks) there (of_every ordered_interval i.0 s.intervals old.intervals i.1))
        | inr n ↦ extra_ordered (has_entry m s) j n
      ]

  either_ordered : (s : Section) (x : Bool) → is_loaded s ≡ x → In s m.sections → ordered_section s → ordered_section (if x then record s { intervals = new_intervals m (tables_of m) p s } else s)
  either_ordered s true loaded k old = record { intervals = every_of ordered_interval (new_intervals m (tables_of m) p s) (loaded_ordered s k loaded old) }
  either_ordered s false loaded k old = old

  module_ordered : ordered_module m → ordered_module (rewritten_module m (tables_of m) p)
  module_ordered old = record {
    sections =
        every_of ordered_section (map (new_section m (tables_of m) p) m.sections) (λ r k.
        let s = out_map (new_section m (tables_of m) p) r m.sections k in
        subst ordered_section (sym s.2) (either_ordered s.0 (is_loaded s.0) refl s.1 (of_every ordered_section s.0 m.sections old.sections s.1)));
    aux = old.aux;
  }

  one_ordered : (x : Module) → In x ir.modules → ordered_module (changed m p x)
  one_ordered x k =
      let old = of_every ordered_module x ir.modules h.in_order.modules k in
      elim (cases_Bool (bytes_eq x.uuid m.uuid)) [
        | inl e ↦
            let only = alone ir m h.linked.links h.member x k e in
            let same : changed m p x ≡ rewritten_module m (tables_of m) p = ap (λ y. if y then rewritten_module x (tables_of m) p else x) e ∙ ap (λ (z : Module). rewritten_module z (tables_of m) p) only in
            subst ordered_module (sym same) (module_ordered (subst ordered_module only old))
        | inr e ↦ subst ordered_module (sym (ap (λ y. if y then rewritten_module x (tables_of m) p else x) e)) old
      ]

  pub stays_ordered : ordered (rewritten ir m.uuid (tables_of m) p)
  stays_ordered = record {
    modules =
        every_of ordered_module (map (changed m p) ir.modules) (λ y k.
        let x = out_map (changed m p) y ir.modules k in
        subst ordered_module (sym x.2) (one_ordered x.0 x.1));
    aux = h.in_order.aux;
  }
