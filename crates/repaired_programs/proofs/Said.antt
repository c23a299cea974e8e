-- The intervals of functions say what the functions say.
use Rattle.std.proofs.Common.{◌≡◌, ℕ, zero, suc, ◌+◌, ◌-◌, ◌*◌, ◌/◌, Bool, true, false, List, [], ◌∷◌, ◌++◌, length, map, refl, sym, ap, ◌∙◌, subst, arith}
use Rattle.std.specs.Prelude.{◌==◌, if◌then◌else◌}
use Rattle.std.specs.List.{AllByRecursion as Every, AllZip, flat_map}
use Rattle.std.proofs.lemmas.List.{append-nil, length-append, map-append}
use Rattle.edge_repair.specs.Repaired.{repaired_module}
use Rattle.gt_model.specs.declared.intervals.Block.{Block}
use Rattle.gt_model.specs.declared.intervals.Body.TheVariants as bodies
use Rattle.gt_model.specs.declared.intervals.Interval.{Interval}
use Rattle.gt_model.specs.declared.modules.Module.{Module}
use Rattle.repaired_programs.specs.Intervals.{BringsOne}
use Rattle.repaired_programs.specs.Named.{IsOneFilling, piece_fillings, piece_words}
use Rattle.repaired_programs.specs.Programs.{repaired_program}
use Rattle.rewrite.specs.Functions.{blocks_from, function_interval}
use Rattle.rewrite.specs.Places.{moved_tables}
use Rattle.sym_expr.specs.declared.layout.Layout.{Layout}
use Rattle.sym_expr.specs.declared.patches.Function.{Function}
use Rattle.sym_expr.specs.declared.patches.PatchTable.{PatchTable}
use Rattle.sym_expr.specs.declared.patches.PatchWord.{PatchWord}
use Rattle.sym_expr.specs.declared.program.CodeBlock.{CodeBlock}
use Rattle.sym_expr.specs.declared.program.Piece.{Piece}
use Rattle.sym_expr.specs.declared.program.Piece.TheVariants.{Code as CodePiece, Gap}
use Rattle.sym_expr.specs.declared.program.Program.{Program}
use Rattle.sym_expr.specs.declared.program.Word.{Word}
use Rattle.sym_expr.specs.Modules.{bytes_at, in_order}
use Rattle.sym_expr.specs.Patches.{add_word, begins, cut, function_blocks, no_patches, with_starts}
use Rattle.sym_expr.specs.Program.{code_block, function_pieces, gap, own_words, patched_word, pieces, program}
use Rattle.sym_expr.specs.TableOk.{function_words}
use Rattle.sym_expr.specs.Tables.{Tables}
use Rattle.sym_expr.specs.Targets.{function_block_id}
use Rattle.repaired_programs.proofs.Bare.{AreNamed}
use Rattle.repaired_programs.proofs.Bits.{words_one}
use Rattle.repaired_programs.proofs.Brought.{function_bare, IsShort, started}
use Rattle.repaired_programs.proofs.Functions.{all_words as all_block_words, block_words, function_order}
use Rattle.repaired_programs.proofs.Names.{AimsOne, NamesOne, words_named}
use Rattle.repaired_programs.proofs.Readings.{gap_fillings, gap_words, quiet_from}
use Rattle.repaired_programs.proofs.Still.{IsOnePart}

-- ---- own words one behind the other

pub own_append : (n : Module) (q : PatchTable) (j : Interval) (at a b : ℕ) → own_words n q j at (a + b) ≡ own_words n q j at a ++ own_words n q j (at + 4 * a) b
own_append n q j at zero b =
    let none : zero + b ≡ b = omega arith in
    let same : at ≡ at + 4 * zero = omega arith in
    ap (own_words n q j at) none ∙ ap (λ k. own_words n q j k b) same
own_append n q j at (suc a) b =
    let one : suc a + b ≡ suc (a + b) = omega arith in
    let same : at + 4 + 4 * a ≡ at + 4 * suc a = omega arith in
    let first = own_words n q j at 1 in
    ap (own_words n q j at) one
    ∙ ap (λ l. first ++ l) (own_append n q j (at + 4) a b ∙ ap (λ k. own_words n q j (at + 4) a ++ own_words n q j k b) same)

-- ---- the words of a function's blocks

abbrev flat : List (List PatchWord) → List PatchWord
flat bs = flat_map (λ (ws : List PatchWord). ws) bs

added_flat : (w : PatchWord) (x : Bool) (bs : List (List PatchWord)) → flat (add_word w x bs) ≡ w ∷ flat bs
added_flat w true bs = refl
added_flat w false [] = refl
added_flat w false (b ∷ bs) = refl

cut_flat : (ws : List (Bool × PatchWord)) → flat (cut ws) ≡ map (λ (w : Bool × PatchWord). w.1) ws
cut_flat [] = refl
cut_flat ((start, w) ∷ rest) = added_flat w (begins rest) (cut rest) ∙ ap (λ l. w ∷ l) (cut_flat rest)

flat_blocks : (f : Function) → flat (function_blocks f) ≡ function_words f
flat_blocks f = cut_flat (with_starts true f.body) ∙ started true f.body

flat_count : (bs : List (List PatchWord)) → length (flat bs) ≡ block_words bs
flat_count [] = refl
flat_count (b ∷ bs) = length-append b (flat bs) ∙ ap (λ k. length b + k) (flat_count bs)

module _ (n : Module) (u : Tables) (j : Interval) (m : Module) (p : PatchTable) (f : Function) where
  abbrev now : ℕ → ℕ → List (List PatchWord) → List Piece
  now k at bs = pieces n u no_patches j at (blocks_from m f k at bs)

  new_words : (k at : ℕ) (bs : List (List PatchWord)) → j.size ≡ at + 4 * block_words bs → flat_map piece_words (now k at bs) ≡ own_words n no_patches j at (block_words bs)
  new_words k at [] e =
      let none : j.size - at ≡ 0 = omega (arith, e) in
      ap (λ k. flat_map piece_words (if k == 0 then [] else Gap (bytes_at j at k) ∷ [])) none
  new_words k at (b ∷ bs) e =
      let c : Block = record { offset = at; body = bodies.Code (function_block_id m f k) (4 * length b) 0 } in
      let next : ℕ = at + 4 * length b in
      let whole : 4 * length b / 4 ≡ length b = omega arith in
      let more : List Word = flat_map piece_words (now (suc k) next bs) in
      gap_words (bytes_at j at (at - at)) (at - at == 0) (CodePiece (code_block n no_patches j c) ∷ now (suc k) next bs)
      ∙ ap (λ l. l ++ more) (quiet_from (code_block n no_patches j c) 0 (code_block n no_patches j c).own refl)
      ∙ ap (λ x. own_words n no_patches j at x ++ more) whole
      ∙ ap (λ l. own_words n no_patches j at (length b) ++ l) (new_words (suc k) next bs (omega (arith, e)))
      ∙ sym (own_append n no_patches j at (length b) (block_words bs))

  old_words : (k at : ℕ) (bs : List (List PatchWord)) → flat_map piece_words (function_pieces m p f k at bs) ≡ map (patched_word m p) (flat bs)
  old_words k at [] = refl
  old_words k at (b ∷ bs) =
      let own : List Word = map (patched_word m p) b in
      let more : List Word = flat_map piece_words (function_pieces m p f (suc k) (at + 4 * length b) bs) in
      ap (λ l. l ++ more) (quiet_from (record { id = function_block_id m f k; offset = at; own = own; inserted = [] }) 0 own refl)
      ∙ ap (λ l. own ++ l) (old_words (suc k) (at + 4 * length b) bs)
      ∙ sym (map-append (patched_word m p) b (flat bs))

  new_fillings : (k at : ℕ) (bs : List (List PatchWord)) → flat_map piece_fillings (now k at bs) ≡ []
  new_fillings k at [] = ap (flat_map piece_fillings) (sym (append-nil (gap j at j.size))) ∙ gap_fillings (bytes_at j at (j.size - at)) (j.size - at == 0) []
  new_fillings k at (b ∷ bs) =
      let c : Block = record { offset = at; body = bodies.Code (function_block_id m f k) (4 * length b) 0 } in
      gap_fillings (bytes_at j at (at - at)) (at - at == 0) (CodePiece (code_block n no_patches j c) ∷ now (suc k) (at + 4 * length b) bs)
      ∙ new_fillings (suc k) (at + 4 * length b) bs

  old_fillings : (k at : ℕ) (bs : List (List PatchWord)) → flat_map piece_fillings (function_pieces m p f k at bs) ≡ []
  old_fillings k at [] = refl
  old_fillings k at (b ∷ bs) = old_fillings (suc k) (at + 4 * length b) bs

pub function_one : ((b : CodeBlock) → AreNamed b) → ((b : CodeBlock) → IsOnePart b) → (m : Module) (t : Tables) (p : PatchTable) (l : Layout) (f : Function) → Every IsShort (function_words f)
    → Every (AimsOne l (repaired_program m t p) (program m t p) (repaired_module m t p) m p) (function_words f) → BringsOne m t p l f
function_one named one m t p l f short aims =
    let n : Module = repaired_module m t p in
    let u : Tables = moved_tables m t p in
    let new : Program = repaired_program m t p in
    let g : Program = program m t p in
    let j : Interval = function_interval m f in
    let bs : List (List PatchWord) = function_blocks f in
    let N : Word → Word → Type 0 = NamesOne l new g n m p in
    let ps : List Piece = pieces n u no_patches j 0 (in_order j.blocks) in
    let qs : List Piece = function_pieces m p f 0 0 bs in
    let order : ps ≡ pieces n u no_patches j 0 j.blocks = ap (λ l. pieces n u no_patches j 0 l) (function_order m f) in
    let count = all_block_words f in
    let size : j.size ≡ 0 + 4 * block_words bs = omega (arith, count) in
    let fresh : flat_map piece_words ps ≡ own_words n no_patches j 0 (length (function_words f)) = ap (flat_map piece_words) order ∙ new_words n u j m p f 0 0 bs size ∙ ap (own_words n no_patches j 0) count in
    let stale : flat_map piece_words qs ≡ map (patched_word m p) (function_words f) = old_words n u j m p f 0 0 bs ∙ ap (map (patched_word m p)) (flat_blocks f) in
    let names : AllZip N (own_words n no_patches j 0 (length (function_words f))) (map (patched_word m p) (function_words f)) = words_named l new g n m p j 0 (function_words f) (λ k le. refl) aims in
    let here : AllZip N (flat_map piece_words ps) (flat_map piece_words qs) =
    subst (λ vs. AllZip N vs (flat_map piece_words qs)) (sym fresh) (subst (λ ws. AllZip N (own_words n no_patches j 0 (length (function_words f))) ws) (sym stale) names) in
    record {
      words = words_one named m l new g ps qs (function_bare one n u m p f short) here;
      fillings =
          subst (λ xs. AllZip (AllZip (IsOneFilling l new g)) xs (flat_map piece_fillings qs)) (sym (ap (flat_map piece_fillings) order ∙ new_fillings n u j m p f 0 0 bs))
          (subst (λ ys. AllZip (AllZip (IsOneFilling l new g)) [] ys) (sym (old_fillings n u j m p f 0 0 bs)) tt);
    }
