-- Names that patches bring stand for one thing in both programs.
use Rattle.std.proofs.Common.{◌≡◌, ◌≢◌, ℕ, zero, suc, ◌+◌, ◌-◌, ◌*◌, ◌<◌, ℤ, ◌⊎◌, inl, inr, Bool, true, false, List, [], ◌∷◌, ◌++◌, length, map, Option, Some, None, refl, sym, ap, subst, ◌∙◌, arith}
use Rattle.std.specs.Prelude.{Contains, find, IfSome, if◌then◌else◌, slice_index_or}
use Rattle.std.specs.List.{AllByRecursion as Every, cons_option, filter_map, flat_map}
use Rattle.std.specs.Option.{option_map, option_map_or}
use Rattle.std.specs.Str.{bytes_eq}
use Rattle.std.proofs.lemmas.Bool.{cases_Bool}
use Rattle.std.proofs.lemmas.List.{length-map}
use Rattle.std.proofs.lemmas.Option.{none-some}
use Rattle.aux_tables.specs.ModuleTables.{tables_of}
use Rattle.block_parts.specs.Parts.{part, parts}
use Rattle.block_parts.specs.Words.{patched_words}
use Rattle.edge_repair.specs.Repaired.{repaired, repaired_module}
use Rattle.gt_model.specs.declared.intervals.Block.{Block}
use Rattle.gt_model.specs.declared.intervals.Body.TheVariants as bodies
use Rattle.gt_model.specs.declared.intervals.Interval.{Interval}
use Rattle.gt_model.specs.declared.ir.Ir.{Ir}
use Rattle.gt_model.specs.declared.modules.Module.{Module}
use Rattle.gt_model.specs.declared.modules.Section.{Section}
use Rattle.gt_model.specs.declared.symbols.Symbol.{Symbol}
use Rattle.gt_model.specs.Linked.{linked}
use Rattle.repaired_programs.specs.Named.{IsOneTarget}
use Rattle.repaired_programs.specs.Programs.{repaired_program}
use Rattle.rewrite.specs.Blocks.{part_size}
use Rattle.rewrite.specs.Functions.{blocks_from, function_interval}
use Rattle.rewrite.specs.Identifiers.{last_part, new_symbol_id, part_id}
use Rattle.rewrite.specs.Rewritten.{new_interval, new_intervals, new_section}
use Rattle.rewrite.specs.Symbols.{function_symbols, moved_symbol, name_symbol, names_of}
use Rattle.sym_expr.specs.declared.layout.Layout.{Layout}
use Rattle.sym_expr.specs.declared.patches.FunLine.{FunLine}
use Rattle.sym_expr.specs.declared.patches.FunLine.TheVariants as lines
use Rattle.sym_expr.specs.declared.patches.Function.{Function}
use Rattle.sym_expr.specs.declared.patches.PatchTable.{PatchTable}
use Rattle.sym_expr.specs.declared.patches.PatchWord.{PatchWord}
use Rattle.sym_expr.specs.declared.point.Point.{Point}
use Rattle.sym_expr.specs.declared.program.CodeBlock.{CodeBlock}
use Rattle.sym_expr.specs.declared.program.Piece.{Piece}
use Rattle.sym_expr.specs.declared.program.Piece.TheVariants.{Code as CodePiece}
use Rattle.sym_expr.specs.declared.program.Program.{Program}
use Rattle.sym_expr.specs.declared.program.Stretch.{Stretch}
use Rattle.sym_expr.specs.declared.program.Word.{Word}
use Rattle.sym_expr.specs.declared.target.Target.TheVariants.{Code, Undefined}
use Rattle.sym_expr.specs.Images.{point_address, target_value, undefined_in}
use Rattle.sym_expr.specs.Linkable.{formed}
use Rattle.sym_expr.specs.Modules.{block_of, blocks_of, is_loaded, loaded_intervals, loaded_sections}
use Rattle.sym_expr.specs.Patches.{End, FunPlace, function_blocks, is_control, label_in, name_in, no_patches, place_behind, Start, with_starts}
use Rattle.sym_expr.specs.Points.{code_blocks, code_of, code_size, ins, pieces_of}
use Rattle.sym_expr.specs.Program.{function_pieces, function_stretch, has_entry, patched_word, program, section_stretches, stretch}
use Rattle.sym_expr.specs.TableOk.{function_words, line_labels}
use Rattle.sym_expr.specs.Targets.{block_target, first_target, function_block_id, old_target, place_point, point, points_of_name, start_of, symbol_target}
use Rattle.sym_expr.specs.WellMade.{block_id}
use Rattle.sym_expr.specs.WellMade as made
use Rattle.repaired_images.proofs.Apart.{same_id}
use Rattle.repaired_images.proofs.Distinct.{block_found, symbol_found}
use Rattle.repaired_images.proofs.Entered.{has_entry_section, HasEntry}
use Rattle.repaired_images.proofs.Lists.{In, in_back, in_either, in_filter, in_filter_map, in_flat, in_map, of_every}
use Rattle.repaired_images.proofs.Names.{has_block, IsWithin, name_found, name_within}

-- ---- a name that has a place is one of the function's

label_there : (q : List ℕ) (k : ℕ) (fresh : Bool) (ls : List FunLine) (x : FunPlace) → label_in q k fresh ls ≡ Some x → In q (flat_map line_labels ls)
label_there q k fresh [] x e = absurd (none-some x e)
label_there q k fresh (lines.Label name ∷ rest) x e =
    elim (cases_Bool (bytes_eq q name)) [
      | inl is ↦ inl (same_id q name is)
      | inr is_not ↦ inr (label_there q k true rest x (sym (ap (λ c. if c then Some (place_behind k (with_starts true rest)) else label_in q k true rest) is_not) ∙ e))
    ]
label_there q k fresh (lines.Word w ∷ rest) x e = label_there q (if fresh then suc k else k) (is_control w.word) rest x e

name_there : (q : List ℕ) (f : Function) (x : FunPlace) → name_in q f ≡ Some x → In q (names_of f)
name_there q f x e =
    elim (cases_Bool (bytes_eq q f.name)) [
      | inl is ↦ inl (same_id q f.name is)
      | inr is_not ↦ inr (label_there q 0 true f.body x (sym (ap (λ c. if c then Some (Start 0) else label_in q 0 true f.body) is_not) ∙ e))
    ]

-- ---- the first function that has it

abbrev FirstAt : Module → List ℕ → List Function → Type 0
FirstAt m q fs =
    (f : Function) × In f fs × ((x : FunPlace) × (name_in q f ≡ Some x) × (first_target (filter_map (λ (f : Function). option_map (place_point m f) (name_in q f)) fs) ≡ Code (place_point m f x)))

first_at : (m : Module) (q : List ℕ) (fs : List Function) → In q (flat_map names_of fs) → FirstAt m q fs
first_at m q [] h = absurd h
first_at m q (f ∷ fs) h = by (name_in q f) refl (λ none. first_at m q fs (past none (in_names h)))
  where
    in_names : In q (names_of f ++ flat_map names_of fs) → In q (names_of f) ⊎ In q (flat_map names_of fs)
    in_names k = in_either q (names_of f) (flat_map names_of fs) k

    past : name_in q f ≡ None → In q (names_of f) ⊎ In q (flat_map names_of fs) → In q (flat_map names_of fs)
    past none (inl k) = let x = name_found q f k in absurd (none-some x.0 (sym none ∙ x.1))
    past none (inr k) = k

    points : List Function → List Point
    points gs = filter_map (λ (f : Function). option_map (place_point m f) (name_in q f)) gs

    by : (o : Option FunPlace) → name_in q f ≡ o → (o ≡ None → FirstAt m q fs) → FirstAt m q (f ∷ fs)
    by (Some x) e rest = (f, inl refl, (x, e, ap (λ o. first_target (cons_option (option_map (place_point m f) o) (points fs))) e))
    by None e rest =
        let more = rest refl in
        (more.0, inr more.1, (more.2.0, more.2.1, ap (λ o. first_target (cons_option (option_map (place_point m f) o) (points fs))) e ∙ more.2.2))

-- ---- the blocks of a function, in both programs

-- the k-th block: its words, the block of the new interval, and the block of the program
record IsBlock (m : Module) (p : PatchTable) (f : Function) (k : ℕ) : Type 0 where
  words : List PatchWord
  at : ℕ
  got : slice_index_or (function_blocks f) k [] ≡ words
  now : In (record { offset = at; body = bodies.Code (function_block_id m f k) (4 * length words) 0 }) (function_interval m f).blocks
  before : In (CodePiece (record { id = function_block_id m f k; offset = at; own = map (patched_word m p) words; inserted = [] })) (function_stretch m p f).pieces

abbrev FromBlock : Module → PatchTable → Function → ℕ → ℕ → ℕ → List (List PatchWord) → Type 0
FromBlock m p f first at k bs =
    (words : List PatchWord) × (place : ℕ) × (slice_index_or bs k [] ≡ words)
    × In (record { offset = place; body = bodies.Code (function_block_id m f (first + k)) (4 * length words) 0 }) (blocks_from m f first at bs)
    × In (CodePiece (record { id = function_block_id m f (first + k); offset = place; own = map (patched_word m p) words; inserted = [] })) (function_pieces m p f first at bs)

from_block : (m : Module) (p : PatchTable) (f : Function) (first at k : ℕ) (bs : List (List PatchWord)) → k < length bs → FromBlock m p f first at k bs
from_block m p f first at k [] lt = absurd (omega (arith, lt))
from_block m p f first at zero (b ∷ bs) lt =
    let same : first ≡ first + zero = omega arith in (
      b,
      at,
      refl,
      inl (ap (λ x. record { offset = at; body = bodies.Code (function_block_id m f x) (4 * length b) 0 }) (sym same)),
      inl (ap (λ x. CodePiece (record { id = function_block_id m f x; offset = at; own = map (patched_word m p) b; inserted = [] })) (sym same)),
    )
from_block m p f first at (suc k) (b ∷ bs) lt =
    let next : ℕ = at + 4 * length b in
    let rest = from_block m p f (suc first) next k bs (omega (arith, lt)) in
    let same : suc first + k ≡ first + suc k = omega arith in (
      rest.0,
      rest.1,
      rest.2,
      inr (subst (λ x. In (record { offset = rest.1; body = bodies.Code (function_block_id m f x) (4 * length rest.0) 0 }) (blocks_from m f (suc first) next bs)) same rest.3),
      inr (subst (λ x. In (CodePiece (record { id = function_block_id m f x; offset = rest.1; own = map (patched_word m p) rest.0; inserted = [] })) (function_pieces m p f (suc first) next bs)) same rest.4),
    )

one_of : (m : Module) (p : PatchTable) (f : Function) (k : ℕ) → k < length (function_blocks f) → IsBlock m p f k
one_of m p f k lt =
    let x = from_block m p f 0 0 k (function_blocks f) lt in
    let same : 0 + k ≡ k = omega arith in
    record {
      words = x.0;
      at = x.1;
      got = x.2;
      now = subst (λ y. In (record { offset = x.1; body = bodies.Code (function_block_id m f y) (4 * length x.0) 0 }) (function_interval m f).blocks) same x.3;
      before = subst (λ y. In (CodePiece (record { id = function_block_id m f y; offset = x.1; own = map (patched_word m p) x.0; inserted = [] })) (function_stretch m p f).pieces) same x.4;
    }

-- ---- what the laws on points say

abbrev pub StartsStay : Module → PatchTable → Layout → Type 0
StartsStay m p l =
    Every (λ (id : List ℕ). point_address l (repaired_program m (tables_of m) p) (start_of id) ≡ point_address l (program m (tables_of m) p) (start_of id)) (made.block_ids (program m (tables_of m) p))

abbrev pub EndsStay : Module → PatchTable → Layout → Type 0
EndsStay m p l =
    Every (λ (b : CodeBlock). point_address l (repaired_program m (tables_of m) p) (point (part_id m b.id (last_part (parts b))) (part_size (last_part (parts b))) 0) ≡ point_address l (program m (tables_of m) p) (point b.id (code_size b) (length (ins b (code_size b)))))
    (code_blocks (program m (tables_of m) p))

abbrev pub AreWhole : Type 0
AreWhole = (b : CodeBlock) → b.inserted ≡ [] → parts b ≡ part 0 (patched_words b) ∷ []

module _ (ir : Ir) (m : Module) (p : PatchTable) (l : Layout) (h : formed ir m (tables_of m)) (bodied : (f : Function) → In f p.functions → function_words f ≢ []) (links : linked (repaired ir m (tables_of m) p))
    (there : Contains (repaired ir m (tables_of m) p).modules (repaired_module m (tables_of m) p)) (starts : StartsStay m p l) (ends : EndsStay m p l) (whole : AreWhole) (counted : (b : CodeBlock) → In b (code_blocks (program m (tables_of m) p)) → b.inserted ≡ [] → length (patched_words b) ≡ length b.own) where
  abbrev g : Program
  g = program m (tables_of m) p

  abbrev n : Module
  n = repaired_module m (tables_of m) p

  abbrev new : Program
  new = repaired_program m (tables_of m) p

  abbrev later : Ir
  later = repaired ir m (tables_of m) p

  -- ---- the section that has the functions

  piece_there : (f : Function) (x : Piece) → In f p.functions → In x (function_stretch m p f).pieces → (s : Stretch) × In s g.stretches × In x s.pieces
  piece_there f x k n =
      let e : HasEntry m = has_entry_section ir m (tables_of m) h in
      let own : In (function_stretch m p f) (if has_entry m e.section then map (function_stretch m p) p.functions else []) =
      subst (λ c. In (function_stretch m p f) (if c then map (function_stretch m p) p.functions else [])) (sym e.entry) (in_map (function_stretch m p) f p.functions k) in
      let all : In (function_stretch m p f) (section_stretches m (tables_of m) p e.section) = in_back (function_stretch m p f) (map (stretch m (tables_of m) p) e.section.intervals) (if has_entry m e.section then map (function_stretch m p) p.functions else []) own in
      (function_stretch m p f, in_flat (section_stretches m (tables_of m) p) e.section (function_stretch m p f) (loaded_sections m) (in_filter is_loaded e.section m.sections e.loaded e.among) all, n)

  block_there : (f : Function) (b : Block) → In f p.functions → In b (function_interval m f).blocks → In b (blocks_of (loaded_intervals n))
  block_there f b k q =
      let e : HasEntry m = has_entry_section ir m (tables_of m) h in
      let own : In (function_interval m f) (if has_entry m e.section then map (function_interval m) p.functions else []) =
      subst (λ c. In (function_interval m f) (if c then map (function_interval m) p.functions else [])) (sym e.entry) (in_map (function_interval m) f p.functions k) in
      let all : In (function_interval m f) (new_intervals m (tables_of m) p e.section) = in_back (function_interval m f) (map (new_interval m (tables_of m) p) e.section.intervals) (if has_entry m e.section then map (function_interval m) p.functions else []) own in
      let s : Section = record e.section { intervals = new_intervals m (tables_of m) p e.section } in
      let same : new_section m (tables_of m) p e.section ≡ s = ap (λ c. if c then s else e.section) e.loaded in
      let among : In s n.sections = subst (λ (x : Section). In x n.sections) same (in_map (new_section m (tables_of m) p) e.section m.sections e.among) in
      let loaded : In s (loaded_sections n) = in_filter is_loaded s n.sections e.loaded among in
      in_flat (λ (i : Interval). i.blocks) (function_interval m f) b (loaded_intervals n) (in_flat (λ (x : Section). x.intervals) s (function_interval m f) (loaded_sections n) loaded all) q

  -- ---- the points of a block

  abbrev Stays : Point → Type 0
  Stays at = point_address l new at ≡ point_address l g at

  start_stays : (f : Function) (k : ℕ) → In f p.functions → k < length (function_blocks f) → Stays (start_of (function_block_id m f k))
  start_stays f k q lt =
      let b = one_of m p f k lt in
      let c : CodeBlock = record { id = function_block_id m f k; offset = b.at; own = map (patched_word m p) b.words; inserted = [] } in
      let s = piece_there f (CodePiece c) q b.before in
      of_every (λ (id : List ℕ). Stays (start_of id)) c.id (made.block_ids g) starts
      (in_flat (λ (s : Stretch). flat_map block_id s.pieces) s.0 c.id g.stretches s.1 (in_flat block_id (CodePiece c) c.id s.0.pieces s.2 (inl refl)))

  end_stays : (f : Function) (k : ℕ) → In f p.functions → k < length (function_blocks f) → Stays (point (function_block_id m f k) (4 * length (slice_index_or (function_blocks f) k [])) 0)
  end_stays f k q lt =
      let b = one_of m p f k lt in
      let c : CodeBlock = record { id = function_block_id m f k; offset = b.at; own = map (patched_word m p) b.words; inserted = [] } in
      let s = piece_there f (CodePiece c) q b.before in
      let coded : In c (code_blocks g) = in_filter_map code_of (CodePiece c) c (pieces_of g) (in_flat (λ (s : Stretch). s.pieces) s.0 (CodePiece c) g.stretches s.1 s.2) refl in
      let one : point_address l new (point (part_id m c.id (last_part (parts c))) (part_size (last_part (parts c))) 0) ≡ point_address l g (point c.id (code_size c) 0) =
      of_every (λ (b : CodeBlock). point_address l new (point (part_id m b.id (last_part (parts b))) (part_size (last_part (parts b))) 0) ≡ point_address l g (point b.id (code_size b) (length (ins b (code_size b))))) c (code_blocks g) ends coded in
      let alone = whole c refl in
      let count : length (patched_words c) ≡ length c.own = counted c coded refl in
      let all : length c.own ≡ length b.words = length-map b.words (patched_word m p) in
      let size : 4 * length (patched_words c) ≡ 4 * length (slice_index_or (function_blocks f) k []) = ap (λ x. 4 * x) (count ∙ all ∙ ap (λ (ws : List PatchWord). length ws) (sym b.got)) in
      let old : code_size c ≡ 4 * length (slice_index_or (function_blocks f) k []) = ap (λ x. 4 * x) (all ∙ ap (λ (ws : List PatchWord). length ws) (sym b.got)) in
      sym (ap (λ qs. point_address l new (point (part_id m c.id (last_part qs)) (part_size (last_part qs)) 0)) alone ∙ ap (λ x. point_address l new (point c.id x 0)) size)
      ∙ one ∙ ap (λ x. point_address l g (point c.id x 0)) old

  -- ---- what the new symbol stands for

  block_now : (f : Function) (k : ℕ) → In f p.functions → (lt : k < length (function_blocks f)) → let b = one_of m p f k lt in
      block_of (function_block_id m f k) (blocks_of (loaded_intervals n)) ≡ Some (record { offset = b.at; body = bodies.Code (function_block_id m f k) (4 * length b.words) 0 })
  block_now f k q lt =
      let b = one_of m p f k lt in
      let x : Block = record { offset = b.at; body = bodies.Code (function_block_id m f k) (4 * length b.words) 0 } in
      block_found later n links there x (block_there f x q b.now)

  place_now : (f : Function) (name : List ℕ) (x : FunPlace) (offset : ℤ) → In f p.functions → IsWithin (length (function_blocks f)) x → symbol_target n no_patches (name_symbol m f name x) offset ≡ Code (place_point m f x)
  place_now f name (Start k) offset q within = ap (λ o. option_map_or (block_target no_patches false offset) o (Undefined (new_symbol_id m name))) (block_now f k q within)
  place_now f name End offset q within =
      let some = has_block f (bodied f q) in
      let k : ℕ = length (function_blocks f) - 1 in
      let lt : k < length (function_blocks f) = omega (arith, some) in
      let b = one_of m p f k lt in
      ap (λ o. option_map_or (block_target no_patches true offset) o (Undefined (new_symbol_id m name))) (block_now f k q lt)
      ∙ ap (λ (ws : List PatchWord). Code (point (function_block_id m f k) (4 * length ws) 0)) (sym b.got)

  place_stays : (f : Function) (x : FunPlace) → In f p.functions → IsWithin (length (function_blocks f)) x → Stays (place_point m f x)
  place_stays f (Start k) q within = start_stays f k q within
  place_stays f End q within = let some = has_block f (bodied f q) in end_stays f (length (function_blocks f) - 1) q (omega (arith, some))

  symbol_there : (f : Function) (name : List ℕ) (x : FunPlace) → In f p.functions → name_in name f ≡ Some x → In (name_symbol m f name x) n.symbols
  symbol_there f name x q e =
      let s : Symbol = name_symbol m f name x in
      in_back s (map (moved_symbol m g) m.symbols) (flat_map (function_symbols m) p.functions)
      (in_flat (function_symbols m) f s p.functions q (in_filter_map (λ y. option_map (name_symbol m f y) (name_in y f)) name s (names_of f) (name_there name f x e) (ap (option_map (name_symbol m f name)) e)))

  at_place : (f : Function) (name : List ℕ) (x : FunPlace) → In f p.functions → name_in name f ≡ Some x → IsWithin (length (function_blocks f)) x
  at_place f name x q e = subst (λ o. IfSome o (IsWithin (length (function_blocks f)))) e (name_within name f (bodied f q))

  -- a name of the patches names one thing
  pub new_one : (name : List ℕ) (offset : ℤ) → In name (flat_map names_of p.functions) → IsOneTarget l (repaired_program m (tables_of m) p) (program m (tables_of m) p) (old_target n no_patches (new_symbol_id m name) offset) (first_target (points_of_name m p name))
  new_one name offset k =
      let first = first_at m name p.functions k in
      let f = first.0 in
      let x = first.2.0 in
      let within = at_place f name x first.1 first.2.1 in
      let s : Symbol = name_symbol m f name x in
      let found : find (λ (y : Symbol). bytes_eq y.uuid (new_symbol_id m name)) n.symbols ≡ Some s = symbol_found later n links there s (symbol_there f name x first.1 first.2.1) in
      let now : old_target n no_patches (new_symbol_id m name) offset ≡ Code (place_point m f x) =
      ap (λ o. option_map_or (λ y. symbol_target n no_patches y offset) o (Undefined (new_symbol_id m name))) found ∙ place_now f name x offset first.1 within in
      record {
        value = ap (target_value l new) now ∙ place_stays f x first.1 within ∙ sym (ap (target_value l g) first.2.2);
        undefined = ap undefined_in now ∙ sym (ap undefined_in first.2.2);
      }
