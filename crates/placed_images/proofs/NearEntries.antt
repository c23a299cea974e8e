-- In the program of a module and of patches, points of blocks of one interval lie in one interval.
use Rattle.std.proofs.Common.{◌≡◌, ◌≢◌, ◌⊎◌, inl, inr, ℕ, ◌-◌, Bool, true, false, ◌||◌, Option, Some, List, [], ◌∷◌, ◌++◌, map, refl, sym, ap, subst, ◌∙◌, append_assoc}
use Rattle.std.specs.Prelude.{find, ◌==◌, if◌then◌else◌, unwrap_or}
use Rattle.std.specs.Option.{option_map}
use Rattle.std.specs.List.{AllByRecursion as Every, flat_map, list_any}
use Rattle.std.specs.Str.{bytes_eq}
use Rattle.std.proofs.lemmas.Bool.{cond-false, false≢true, false_from_ne_true, or_cases}
use Rattle.std.proofs.lemmas.List.Concat.{flat_map-append}
use Rattle.std.proofs.lemmas.List.Folds.{list_any-append}
use Rattle.std.proofs.lemmas.Option.{none-some}
use Rattle.gt_model.specs.declared.intervals.Block.{Block}
use Rattle.gt_model.specs.declared.intervals.Interval.{Interval}
use Rattle.gt_model.specs.declared.modules.Module.{Module}
use Rattle.gt_model.specs.declared.modules.Section.{Section}
use Rattle.sym_expr.specs.declared.layout.Layout.{Layout}
use Rattle.sym_expr.specs.declared.patches.PatchTable.{PatchTable}
use Rattle.sym_expr.specs.declared.point.Point.{Point}
use Rattle.sym_expr.specs.declared.program.DataBlock.{DataBlock}
use Rattle.sym_expr.specs.declared.program.Piece.{Piece}
use Rattle.sym_expr.specs.declared.program.Piece.TheVariants.{Code as CodePiece, Data as DataPiece, Gap}
use Rattle.sym_expr.specs.declared.program.Program.{Program}
use Rattle.sym_expr.specs.declared.program.Stretch.{Stretch}
use Rattle.sym_expr.specs.Expressions.{interval_id}
use Rattle.sym_expr.specs.Images.{is_block}
use Rattle.sym_expr.specs.Modules.{blocks_of, bytes_at, end_of, has_id, id_of, in_order, interval_of, intervals_of, is_code, loaded_intervals, loaded_sections, put_in_order, goes_before}
use Rattle.sym_expr.specs.Placing.{Placed}
use Rattle.sym_expr.specs.Points.{is_code_piece, pieces_of, stretch_of}
use Rattle.sym_expr.specs.Program.{code_block, data_block, function_stretch, has_entry, piece, pieces, program, section_stretches, stretch}
use Rattle.sym_expr.specs.Tables.{Tables}
use Rattle.sym_expr.specs.WellMade.{IsPoint, block_id, block_ids, well_made}
use Rattle.placed_images.proofs.Found.{IsOnly, addressed_pieces, all_addressed, all_only, at_code, ids_differ, ids_same, same_ids}
use Rattle.placed_images.proofs.Lists.{some_is, Pairs, SameOr, each_two, every_back, every_front, every_map, every_part, every_weaker, found_one, pairs_across, pairs_back, pairs_from, pairs_front}
use Rattle.placed_images.proofs.Spaced.{some_stretch}

-- ---- a block with the identifier of a code block is one

abbrev IsCodeOnly : List ℕ → Piece → Type 0
IsCodeOnly id (CodePiece b) = Unit {0}
IsCodeOnly id (DataPiece b) = is_block id (DataPiece b) ≡ false
IsCodeOnly id (Gap bytes) = Unit {0}

-- no place matters
nowhere : Layout
nowhere = record { places = []; stack_at = 0; stack_size = 0 }

not_data : (a : DataBlock) (b : _) → DataPiece a ≡ CodePiece b → ⊥
not_data a b e = cc

module _ (g : Program) (well : well_made g) (p : Point) (is : IsPoint g p) where
  only_code : (at : ℕ) (q : Piece) → IsOnly (all_addressed nowhere g) (record { at = at; piece = q }) → IsCodeOnly p.block q
  only_code at (CodePiece b) h = tt
  only_code at (DataPiece b) h =
      false_from_ne_true (is_block p.block (DataPiece b)) (λ e.
      let place = at_code nowhere g well p.block is.block is.found in
      let same = some_is (record { at = at; piece = DataPiece b }) place.place (sym (h p.block e) ∙ place.found) in
      not_data b is.block (ap (λ (x : Placed). x.piece) same ∙ place.piece))
  only_code at (Gap bytes) h = tt

  all_code : Every (IsCodeOnly p.block) (pieces_of g)
  all_code =
      let P : List Piece → Type 0 = λ ps. Every (IsCodeOnly p.block) ps in
      subst P (addressed_pieces nowhere g.stretches)
      (every_map (λ (x : Placed). x.piece) (IsCodeOnly p.block) (all_addressed nowhere g)
      (every_weaker (IsOnly (all_addressed nowhere g)) (λ (x : Placed). IsCodeOnly p.block x.piece) (λ x h. only_code x.at x.piece h) (all_addressed nowhere g) (all_only nowhere g well)))

-- ---- the interval of a block

or_assoc : (x y z : Bool) → (x || (y || z)) ≡ (y || (x || z))
or_assoc true true z = refl
or_assoc true false z = refl
or_assoc false y z = refl

put_any : (f : Block → Bool) (b c : Block) (cs : List Block) (x : Bool) → list_any f (put_in_order b cs) ≡ (f b || list_any f cs) → list_any f (if x then c ∷ put_in_order b cs else b ∷ c ∷ cs) ≡ (f b || (f c || list_any f cs))
put_any f b c cs true rest = ap (λ y. f c || y) rest ∙ or_assoc (f c) (f b) (list_any f cs)
put_any f b c cs false rest = refl

any_put : (f : Block → Bool) (b : Block) (cs : List Block) → list_any f (put_in_order b cs) ≡ (f b || list_any f cs)
any_put f b [] = refl
any_put f b (c ∷ cs) = put_any f b c cs (goes_before c b) (any_put f b cs)

any_order : (f : Block → Bool) (bs : List Block) → list_any f (in_order bs) ≡ list_any f bs
any_order f [] = refl
any_order f (b ∷ bs) = any_put f b (in_order bs) ∙ ap (λ y. f b || y) (any_order f bs)

module _ (m : Module) (t : Tables) (p : PatchTable) (id : List ℕ) where
  gap_any : (bytes : List ℕ) (x : Bool) (ps : List Piece) → list_any (is_code_piece id) ((if x then [] else Gap bytes ∷ []) ++ ps) ≡ list_any (is_code_piece id) ps
  gap_any bytes true ps = refl
  gap_any bytes false ps = refl

  piece_any : (i : Interval) (b : Block) (x : Bool) → IsCodeOnly id (if x then CodePiece (code_block m p i b) else DataPiece (data_block m t p i b))
      → is_code_piece id (if x then CodePiece (code_block m p i b) else DataPiece (data_block m t p i b)) ≡ has_id id b
  piece_any i b true h = refl
  piece_any i b false h = sym (false_from_ne_true (has_id id b) (λ e. false≢true (sym h ∙ ids_same id (id_of b) (sym (same_ids (id_of b) id e)))))

  gap_rest : (bytes : List ℕ) (x : Bool) (ps : List Piece) → Every (IsCodeOnly id) ((if x then [] else Gap bytes ∷ []) ++ ps) → Every (IsCodeOnly id) ps
  gap_rest bytes true ps h = h
  gap_rest bytes false ps h = h.1

  pieces_any : (i : Interval) (at : ℕ) (bs : List Block) → Every (IsCodeOnly id) (pieces m t p i at bs) → list_any (is_code_piece id) (pieces m t p i at bs) ≡ list_any (has_id id) bs
  pieces_any i at [] h = last (i.size - at == 0)
    where
      last : (x : Bool) → list_any (is_code_piece id) (if x then [] else Gap (bytes_at i at (i.size - at)) ∷ []) ≡ false
      last true = refl
      last false = refl
  pieces_any i at (b ∷ bs) h =
      let rest = gap_rest (bytes_at i at (b.offset - at)) (b.offset - at == 0) (piece m t p i b ∷ pieces m t p i (end_of b) bs) h in
      gap_any (bytes_at i at (b.offset - at)) (b.offset - at == 0) (piece m t p i b ∷ pieces m t p i (end_of b) bs)
      ∙ ap (λ x. x || list_any (is_code_piece id) (pieces m t p i (end_of b) bs)) (piece_any i b (is_code b) rest.0) ∙ ap (λ x. has_id id b || x) (pieces_any i (end_of b) bs rest.1)

  interval_any : (i : Interval) → Every (IsCodeOnly id) (stretch m t p i).pieces → list_any (is_code_piece id) (stretch m t p i).pieces ≡ list_any (has_id id) i.blocks
  interval_any i h = pieces_any i 0 (in_order i.blocks) h ∙ any_order (has_id id) i.blocks

  -- ---- the interval that is found of a code block is the one of the module

  abbrev has : Stretch → Bool
  has s = list_any (is_code_piece id) s.pieces

  abbrev AreCode : List Stretch → Type 0
  AreCode ss = Every (λ (s : Stretch). Every (IsCodeOnly id) s.pieces) ss

  abbrev AreWithout : List Stretch → Type 0
  AreWithout ss = Every (λ (s : Stretch). has s ≡ false) ss

  abbrev named : Option Interval → List ℕ
  named o = unwrap_or (option_map (λ (i : Interval). i.uuid) o) []

  found_either : (i : Interval) (o : Option Interval) (u : Option Stretch) (s : Stretch) (x y : Bool) → x ≡ y → (u ≡ Some s → named o ≡ s.id) → (if x then Some (stretch m t p i) else u) ≡ Some s → named (if y then Some i else o) ≡ s.id
  found_either i o u s true true same rest e = ap (λ (v : Stretch). v.id) (some_is (stretch m t p i) s e)
  found_either i o u s true false same rest e = absurd (false≢true (sym same))
  found_either i o u s false true same rest e = absurd (false≢true same)
  found_either i o u s false false same rest e = rest e

  among : (is more : List Interval) (tail : List Stretch) (s : Stretch) → AreCode (map (stretch m t p) is) → (find has tail ≡ Some s → named (interval_of id more) ≡ s.id) → find has (map (stretch m t p) is ++ tail) ≡ Some s → named (interval_of id (is ++ more)) ≡ s.id
  among [] more tail s h rest e = rest e
  among (i ∷ is) more tail s h rest e =
      found_either i (interval_of id (is ++ more)) (find has (map (stretch m t p) is ++ tail)) s (has (stretch m t p i)) (list_any (has_id id) i.blocks) (interval_any i h.0) (among is more tail s h.1 rest) e

  skipped : (ss tail : List Stretch) → AreWithout ss → find has (ss ++ tail) ≡ find has tail
  skipped [] tail h = refl
  skipped (s ∷ ss) tail h = cond-false (has s) (Some s) (find has (ss ++ tail)) h.0 ∙ skipped ss tail h.1

  -- the functions, behind the section that has the entry
  abbrev brought : Section → List Stretch
  brought s = if has_entry m s then map (function_stretch m p) p.functions else []

  abbrev own : Section → List Stretch
  own s = map (stretch m t p) s.intervals

  abbrev all_of : List Section → List Stretch
  all_of ss = flat_map (section_stretches m t p) ss

  sections_found : (ss : List Section) (s : Stretch) → AreCode (all_of ss) → Every (λ c. AreWithout (brought c)) ss → find has (all_of ss) ≡ Some s → named (interval_of id (intervals_of ss)) ≡ s.id
  sections_found [] s h without e = absurd (none-some s e)
  sections_found (c ∷ cs) s h without e =
      let P : Stretch → Type 0 = λ (s : Stretch). Every (IsCodeOnly id) s.pieces in
      let first = every_front P (own c) (brought c) (every_front P (section_stretches m t p c) (all_of cs) h) in
      let rest = every_back P (section_stretches m t p c) (all_of cs) h in
      among c.intervals (intervals_of cs) (brought c ++ all_of cs) s first (λ f. sections_found cs s rest without.1 (sym (skipped (brought c) (all_of cs) without.0) ∙ f))
      (sym (ap (λ l. find has l) (append_assoc (own c) (brought c) (all_of cs))) ∙ e)

  -- ---- no function has a block of the identifier, where a block of the module has it

  abbrev ids_in : List Stretch → List (List ℕ)
  ids_in ss = flat_map (λ (s : Stretch). flat_map block_id s.pieces) ss

  abbrev is_in : List (List ℕ) → Bool
  is_in ids = list_any (λ x. bytes_eq x id) ids

  abbrev IsOther : List ℕ → Type 0
  IsOther x = x ≢ id

  at_one : (Q : List ℕ → Type 0) (xs : List (List ℕ)) → Every Q xs → is_in xs ≡ true → Q id
  at_one Q [] h e = absurd (false≢true e)
  at_one Q (x ∷ xs) h e = elim (or_cases (bytes_eq x id) (is_in xs) e) [ inl f ↦ subst Q (same_ids x id f) h.0 | inr f ↦ at_one Q xs h.1 f ]

  no_piece : (ps : List Piece) → Every IsOther (flat_map block_id ps) → list_any (is_code_piece id) ps ≡ false
  no_piece [] h = refl
  no_piece (CodePiece b ∷ ps) h = ap (λ x. x || list_any (is_code_piece id) ps) (ids_differ b.id id h.0) ∙ no_piece ps h.1
  no_piece (DataPiece b ∷ ps) h = no_piece ps h.1
  no_piece (Gap bytes ∷ ps) h = no_piece ps h

  without : (ss : List Stretch) → Every IsOther (ids_in ss) → AreWithout ss
  without ss h = every_weaker (λ (s : Stretch). Every IsOther (flat_map block_id s.pieces)) (λ (s : Stretch). has s ≡ false) (λ s k. no_piece s.pieces k) ss (every_part (λ (s : Stretch). flat_map block_id s.pieces) IsOther ss h)

  gap_ids : (bytes : List ℕ) (x : Bool) (ps : List Piece) → is_in (flat_map block_id ((if x then [] else Gap bytes ∷ []) ++ ps)) ≡ is_in (flat_map block_id ps)
  gap_ids bytes true ps = refl
  gap_ids bytes false ps = refl

  piece_ids : (i : Interval) (b : Block) (x : Bool) (ps : List Piece) → is_in (flat_map block_id ((if x then CodePiece (code_block m p i b) else DataPiece (data_block m t p i b)) ∷ ps)) ≡ (has_id id b || is_in (flat_map block_id ps))
  piece_ids i b true ps = refl
  piece_ids i b false ps = refl

  pieces_ids : (i : Interval) (at : ℕ) (bs : List Block) → is_in (flat_map block_id (pieces m t p i at bs)) ≡ list_any (has_id id) bs
  pieces_ids i at [] = last (i.size - at == 0)
    where
      last : (x : Bool) → is_in (flat_map block_id (if x then [] else Gap (bytes_at i at (i.size - at)) ∷ [])) ≡ false
      last true = refl
      last false = refl
  pieces_ids i at (b ∷ bs) =
      gap_ids (bytes_at i at (b.offset - at)) (b.offset - at == 0) (piece m t p i b ∷ pieces m t p i (end_of b) bs)
      ∙ piece_ids i b (is_code b) (pieces m t p i (end_of b) bs) ∙ ap (λ x. has_id id b || x) (pieces_ids i (end_of b) bs)

  intervals_ids : (is : List Interval) → is_in (ids_in (map (stretch m t p) is)) ≡ list_any (has_id id) (blocks_of is)
  intervals_ids [] = refl
  intervals_ids (i ∷ is) =
      list_any-append (λ x. bytes_eq x id) (flat_map block_id (stretch m t p i).pieces) (ids_in (map (stretch m t p) is))
      ∙ ap (λ x. x || is_in (ids_in (map (stretch m t p) is))) (pieces_ids i 0 (in_order i.blocks) ∙ any_order (has_id id) i.blocks)
      ∙ ap (λ x. list_any (has_id id) i.blocks || x) (intervals_ids is)
      ∙ sym (list_any-append (has_id id) i.blocks (blocks_of is))

  left_true : (x y : Bool) → x ≡ true → (x || y) ≡ true
  left_true true y e = refl
  left_true false y e = absurd (false≢true e)

  right_true : (x y : Bool) → y ≡ true → (x || y) ≡ true
  right_true true y e = refl
  right_true false y e = e

  ids_split : (xs ys : List Stretch) → ids_in (xs ++ ys) ≡ ids_in xs ++ ids_in ys
  ids_split xs ys = flat_map-append (λ (s : Stretch). flat_map block_id s.pieces) xs ys

  in_either : (xs ys : List Stretch) → is_in (ids_in (xs ++ ys)) ≡ (is_in (ids_in xs) || is_in (ids_in ys))
  in_either xs ys = ap is_in (ids_split xs ys) ∙ list_any-append (λ x. bytes_eq x id) (ids_in xs) (ids_in ys)

  -- the identifier is one of a block of these intervals
  abbrev pub IsOwn : List Interval → Type 0
  IsOwn is = list_any (has_id id) (blocks_of is) ≡ true

  own_cases : (c : Section) (cs : List Section) → IsOwn (intervals_of (c ∷ cs)) → IsOwn c.intervals ⊎ IsOwn (intervals_of cs)
  own_cases c cs e =
      or_cases (list_any (has_id id) (blocks_of c.intervals)) (list_any (has_id id) (blocks_of (intervals_of cs)))
      (sym (ap (λ l. list_any (has_id id) l) (flat_map-append (λ (i : Interval). i.blocks) c.intervals (intervals_of cs)) ∙ list_any-append (has_id id) (blocks_of c.intervals) (blocks_of (intervals_of cs))) ∙ e)

  own_in : (c : Section) → IsOwn c.intervals → is_in (ids_in (section_stretches m t p c)) ≡ true
  own_in c e = in_either (own c) (brought c) ∙ left_true (is_in (ids_in (own c))) (is_in (ids_in (brought c))) (intervals_ids c.intervals ∙ e)

  all_in : (cs : List Section) → IsOwn (intervals_of cs) → is_in (ids_in (all_of cs)) ≡ true
  all_in [] e = absurd (false≢true e)
  all_in (c ∷ cs) e = in_either (section_stretches m t p c) (all_of cs) ∙ elim (own_cases c cs e) [
    | inl f ↦ left_true (is_in (ids_in (section_stretches m t p c))) (is_in (ids_in (all_of cs))) (own_in c f)
    | inr f ↦ right_true (is_in (ids_in (section_stretches m t p c))) (is_in (ids_in (all_of cs))) (all_in cs f)
  ]

  abbrev Differ : List ℕ → List ℕ → Type 0
  Differ a later = a ≢ later

  -- the identifiers of the second are others, where the first have it
  behind : (xs ys : List (List ℕ)) → Pairs Differ (xs ++ ys) → is_in xs ≡ true → Every IsOther ys
  behind xs ys d e = every_weaker (λ y. id ≢ y) IsOther (λ y k f. k (sym f)) ys (at_one (λ x. Every (Differ x) ys) xs (pairs_across Differ xs ys d) e)

  -- and the other way round
  before : (xs ys : List (List ℕ)) → Pairs Differ (xs ++ ys) → is_in ys ≡ true → Every IsOther xs
  before xs ys d e = every_weaker (λ x. Every (Differ x) ys) IsOther (λ x k. at_one (Differ x) ys k e) xs (pairs_across Differ xs ys d)

  all_without : (cs : List Section) → Every IsOther (ids_in (all_of cs)) → Every (λ c. AreWithout (brought c)) cs
  all_without [] h = tt
  all_without (c ∷ cs) h =
      let P : List (List ℕ) → Type 0 = λ l. Every IsOther l in
      let both = subst P (ids_split (section_stretches m t p c) (all_of cs)) h in
      let first = subst P (ids_split (own c) (brought c)) (every_front IsOther (ids_in (section_stretches m t p c)) (ids_in (all_of cs)) both) in
      (without (brought c) (every_back IsOther (ids_in (own c)) (ids_in (brought c)) first), all_without cs (every_back IsOther (ids_in (section_stretches m t p c)) (ids_in (all_of cs)) both))

  others : (cs : List Section) → Pairs Differ (ids_in (all_of cs)) → IsOwn (intervals_of cs) → Every (λ c. AreWithout (brought c)) cs
  others [] d e = tt
  others (c ∷ cs) d e =
      let P : List (List ℕ) → Type 0 = λ l. Pairs Differ l in
      let both = subst P (ids_split (section_stretches m t p c) (all_of cs)) d in
      let first = subst P (ids_split (own c) (brought c)) (pairs_front Differ (ids_in (section_stretches m t p c)) (ids_in (all_of cs)) both) in
      let Q : List (List ℕ) → Type 0 = λ l. Every IsOther l in
      elim (own_cases c cs e) [
        | inl f ↦ (
          without (brought c) (behind (ids_in (own c)) (ids_in (brought c)) first (intervals_ids c.intervals ∙ f)),
          all_without cs (behind (ids_in (section_stretches m t p c)) (ids_in (all_of cs)) both (own_in c f)),
        )
        | inr f ↦ (
          without (brought c) (every_back IsOther (ids_in (own c)) (ids_in (brought c)) (subst Q (ids_split (own c) (brought c)) (before (ids_in (section_stretches m t p c)) (ids_in (all_of cs)) both (all_in cs f)))),
          others cs (pairs_back Differ (ids_in (section_stretches m t p c)) (ids_in (all_of cs)) both) f,
        )
      ]

-- ---- the interval of a point

module _ (m : Module) (t : Tables) (p : PatchTable) (well : well_made (program m t p)) where
  record Lies (at : Point) : Type 0 where
    stretch_it : Stretch
    found : stretch_of (program m t p) at.block ≡ Some stretch_it
    named : interval_id (loaded_intervals m) at.block ≡ stretch_it.id

  point_lies : (at : Point) → IsPoint (program m t p) at → IsOwn m t p at.block (loaded_intervals m) → Lies at
  point_lies at is own =
      let g = program m t p in
      let s = some_stretch at.block g.stretches is.block is.found in
      let code = every_part (λ (u : Stretch). u.pieces) (IsCodeOnly at.block) g.stretches (all_code g well at is) in
      let alone = others m t p at.block (loaded_sections m) (pairs_from (λ a later. a ≢ later) (block_ids g) well.apart) own in
      record { stretch_it = s.0; found = s.1; named = sections_found m t p at.block (loaded_sections m) s.0 code alone s.1 }

  abbrev IdsDiffer : Stretch → Stretch → Type 0
  IdsDiffer s u = s.id ≢ u.id

  same_or : (s u : Stretch) → s.id ≡ u.id → SameOr IdsDiffer s u → s ≡ u
  same_or s u e (inl same) = same
  same_or s u e (inr differ) = absurd (differ e)

  -- intervals of one identifier are one
  one_stretch : (at to : Point) (s u : Stretch) → stretch_of (program m t p) at.block ≡ Some s → stretch_of (program m t p) to.block ≡ Some u → s.id ≡ u.id → s ≡ u
  one_stretch at to s u e f same =
      let ss = (program m t p).stretches in
      let two = each_two IdsDiffer (λ a b h k. h (sym k)) ss (pairs_from IdsDiffer ss well.distinct) in
      let first = (found_one (λ (v : Stretch). list_any (is_code_piece at.block) v.pieces) (λ v. Every (SameOr IdsDiffer v) ss) ss s two e).1 in
      same_or s u same (found_one (λ (v : Stretch). list_any (is_code_piece to.block) v.pieces) (SameOr IdsDiffer s) ss u first f).1

  pub near_points : (at to : Point) → IsPoint (program m t p) at → IsPoint (program m t p) to → IsOwn m t p at.block (loaded_intervals m) → IsOwn m t p to.block (loaded_intervals m)
      → bytes_eq (interval_id (loaded_intervals m) at.block) (interval_id (loaded_intervals m) to.block) ≡ true
      → stretch_of (program m t p) at.block ≡ stretch_of (program m t p) to.block
  near_points at to is_at is_to own_at own_to same =
      let a = point_lies at is_at own_at in
      let b = point_lies to is_to own_to in
      let ids : a.stretch_it.id ≡ b.stretch_it.id = sym a.named ∙ same_ids (interval_id (loaded_intervals m) at.block) (interval_id (loaded_intervals m) to.block) same ∙ b.named in
      a.found ∙ ap (λ (s : Stretch). Some s) (one_stretch at to a.stretch_it b.stretch_it a.found b.found ids) ∙ sym b.found
