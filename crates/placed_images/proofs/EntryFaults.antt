-- A module whose expressions have no fault has near entries alone.
use Rattle.std.proofs.Common.{◌≡◌, ℕ, suc, ◌+◌, ◌-◌, ◌*◌, ℤ, pos, Bool, true, false, ◌||◌, Option, Some, None, IfSome, List, [], ◌∷◌, length, refl, sym, ap, subst, ◌∙◌}
use Rattle.std.specs.Prelude.{filter, find, not, ◌==◌, ◌&&◌, if◌then◌else◌}
use Rattle.std.specs.Option.{option_map, option_map_or}
use Rattle.std.specs.List.{AllByRecursion as Every, filter_map, list_any}
use Rattle.std.specs.Str.{bytes_eq}
use Rattle.std.proofs.lemmas.Bool.{not-false, or_parts}
use Rattle.std.proofs.lemmas.Option.{none-some}
use Rattle.gt_model.specs.declared.exprs.Expr.{Expr}
use Rattle.gt_model.specs.declared.exprs.ExprValue.{ExprValue}
use Rattle.gt_model.specs.declared.exprs.ExprValue.TheVariants as values
use Rattle.gt_model.specs.declared.intervals.Block.{Block}
use Rattle.gt_model.specs.declared.intervals.Interval.{Interval}
use Rattle.gt_model.specs.declared.ir.Ir.{Ir}
use Rattle.gt_model.specs.declared.modules.Module.{Module}
use Rattle.gt_model.specs.declared.symbols.Payload.{Payload}
use Rattle.gt_model.specs.declared.symbols.Payload.TheVariants as payloads
use Rattle.gt_model.specs.declared.symbols.Symbol.{Symbol}
use Rattle.sym_expr.specs.declared.aim.Aim.TheVariants as aims
use Rattle.sym_expr.specs.declared.difference.DifferenceForm.{DifferenceForm}
use Rattle.sym_expr.specs.declared.patches.Function.{Function}
use Rattle.sym_expr.specs.declared.patches.PatchTable.{PatchTable}
use Rattle.sym_expr.specs.declared.patches.PatchWord.{PatchWord}
use Rattle.sym_expr.specs.declared.point.Point.{Point}
use Rattle.sym_expr.specs.declared.program.DataBlock.{DataBlock}
use Rattle.sym_expr.specs.declared.program.Filling.{Filling}
use Rattle.sym_expr.specs.declared.program.Filling.TheVariants.{Difference, Entry}
use Rattle.sym_expr.specs.declared.program.Piece.{Piece}
use Rattle.sym_expr.specs.declared.program.Piece.TheVariants.{Code as CodePiece, Data as DataPiece, Gap}
use Rattle.sym_expr.specs.declared.target.Target.{Target}
use Rattle.sym_expr.specs.declared.target.Target.TheVariants.{Number, Address, Code, Undefined}
use Rattle.sym_expr.specs.Differences.{form_of}
use Rattle.sym_expr.specs.Expressions.{BadOperand, BadTarget, ExprFault, aim_of, are_apart, are_mixed, expr_fault, expr_faults, interval_faults, interval_id, is_bad_difference, is_bad_sum, is_no_code, is_operand, names_bad, symbol_aim, word_or_none}
use Rattle.sym_expr.specs.Linkable.{formed}
use Rattle.sym_expr.specs.Modules.{block_of, blocks_of, bytes_at, covers, end_of, has_id, id_of, in_order, is_code, loaded_intervals, size_of}
use Rattle.sym_expr.specs.Patches.{function_blocks, no_patches}
use Rattle.sym_expr.specs.Points.{data_of, data_blocks, pieces_of}
use Rattle.sym_expr.specs.Program.{code_block, data_block, difference_in, filling, filling_at, function_pieces, function_stretch, gap, piece, pieces, program}
use Rattle.sym_expr.specs.Tables.{Tables, expr_size}
use Rattle.sym_expr.specs.Targets.{block_target, end_point, old_target, payload_target, plus_offset, start_of, symbol_target}
use Rattle.sym_expr.specs.WellMade.{IsData, IsFilling, IsInside, well_made}
use Rattle.placed_images.specs.Typed.{HasNearEntries, IsNearEntry}
use Rattle.placed_images.proofs.Faults.{none_of_filter_map, none_of_flat}
use Rattle.placed_images.proofs.Found.{same_ids}
use Rattle.placed_images.proofs.Lists.{every_all, every_append, every_both, every_choice, every_filter, every_weaker, found_one}
use Rattle.placed_images.proofs.NearEntries.{near_points}
use Rattle.placed_images.proofs.TypedPrograms.{pieces_each}

-- ---- no expression names what it may not

no_bad_target : (b c : Bool) → ◌≡◌ {A = Option ExprFault} (if not b then Some BadOperand else if c then Some BadTarget else None) None → c ≡ false
no_bad_target true true e = cc
no_bad_target true false e = refl
no_bad_target false c e = cc

-- a fault with its offset
abbrev placed_fault : ℕ → Option ExprFault → Option (ℕ × ExprFault)
placed_fault at o = option_map (λ fault. (at, fault)) o

no_mapped : (at : ℕ) (o : Option ExprFault) → placed_fault at o ≡ None → o ≡ None
no_mapped at None e = refl
no_mapped at (Some fault) e = cc

-- an expression of an interval names what it may
abbrev IsAllowed : Module → Tables → Interval → Expr → Type 0
IsAllowed m t i e = names_bad (symbol_aim m) (expr_size t i.uuid e.at) (word_or_none i e) e.value ≡ false

interval_allowed : (m : Module) (t : Tables) (i : Interval) → interval_faults m t i ≡ [] → Every (IsAllowed m t i) i.exprs
interval_allowed m t i h =
    let size : ℕ → ℕ = expr_size t i.uuid in
    every_weaker (λ (e : Expr). placed_fault e.at (expr_fault (symbol_aim m) size i e) ≡ None) (IsAllowed m t i)
    (λ e k. no_bad_target (is_operand size i e) (names_bad (symbol_aim m) (size e.at) (word_or_none i e) e.value) (no_mapped e.at (expr_fault (symbol_aim m) size i e) k)) i.exprs
    (none_of_filter_map (λ (e : Expr). placed_fault e.at (expr_fault (symbol_aim m) size i e)) i.exprs h)

all_allowed : (m : Module) (t : Tables) → expr_faults m t ≡ [] → Every (λ i. Every (IsAllowed m t i) i.exprs) (loaded_intervals m)
all_allowed m t h = every_weaker (λ i. interval_faults m t i ≡ []) (λ i. Every (IsAllowed m t i) i.exprs) (interval_allowed m t) (loaded_intervals m) (none_of_flat (interval_faults m t) (loaded_intervals m) h)

-- ---- what names code: a block of the module, whatever the offset and the patches

-- the block that a target of code is in
abbrev block_in : Target → List ℕ
block_in (Code at) = at.block
block_in _ = []

any_either : {X : Type 0} (test : X → Bool) (y : X) (ys : List X) (x : X) (b : Bool) → test y ≡ b → (find test ys ≡ Some x → list_any test ys ≡ true) → (if b then Some y else find test ys) ≡ Some x → list_any test (y ∷ ys) ≡ true
any_either test y ys x true is rest e = ap (λ a. a || list_any test ys) is
any_either test y ys x false is rest e = ap (λ a. a || list_any test ys) is ∙ rest e

any_found : {X : Type 0} (test : X → Bool) (xs : List X) (x : X) → find test xs ≡ Some x → list_any test xs ≡ true
any_found test [] x e = absurd (none-some x e)
any_found test (y ∷ ys) x e = any_either test y ys x (test y) refl (any_found test ys x) e

module _ (m : Module) (p : PatchTable) where
  abbrev old : List ℕ → ℤ → Target
  old id offset = old_target m p id offset

  -- the start or the end of a block, with these patches
  abbrev edge : PatchTable → Bool → Block → Point
  edge q at_end b = if at_end then end_point q (id_of b) (size_of b) else start_of (id_of b)

  edge_in : (q : PatchTable) (b : Block) (x : Bool) → (edge q x b).block ≡ id_of b
  edge_in q b true = refl
  edge_in q b false = refl

  -- a target of code is in a block, and the aim is that block's interval
  record IsInBlock (at : Point) (aim : Target) : Type 0 where
    aim_is : aim_of (loaded_intervals m) aim ≡ aims.Code (interval_id (loaded_intervals m) at.block)
    own : list_any (has_id at.block) (blocks_of (loaded_intervals m)) ≡ true

  block_either : (b : Block) (at from to : Point) (first second : ℕ) (x : Bool) → from.block ≡ id_of b → to.block ≡ id_of b → list_any (has_id (id_of b)) (blocks_of (loaded_intervals m)) ≡ true
      → (if x then Code from else Address (id_of b) first) ≡ Code at → IsInBlock at (if x then Code to else Address (id_of b) second)
  block_either b at from to first second true here there own e =
      let same : id_of b ≡ at.block = sym here ∙ ap block_in e in
      let P : List ℕ → Type 0 = λ id. list_any (has_id id) (blocks_of (loaded_intervals m)) ≡ true in
      record { aim_is = ap (λ id. aims.Code (interval_id (loaded_intervals m) id)) (there ∙ same); own = subst P same own }
  block_either b at from to first second false here there own e = cc

  found_in : (s : Symbol) (offset : ℤ) (at : Point) (id : List ℕ) (o : Option Block) → block_of id (blocks_of (loaded_intervals m)) ≡ o → option_map_or (block_target p s.at_end offset) o (Undefined s.uuid) ≡ Code at
      → IsInBlock at (option_map_or (block_target no_patches s.at_end (pos 0)) o (Undefined s.uuid))
  found_in s offset at id None is e = cc
  found_in s offset at id (Some b) is e =
      let size : ℕ = if s.at_end then size_of b else 0 in
      let blocks = blocks_of (loaded_intervals m) in
      let all : Every (λ (b : Block). Unit {0}) blocks = every_all (λ (b : Block). Unit {0}) (λ b. tt) blocks in
      let same : id ≡ id_of b = sym (same_ids (id_of b) id (found_one (has_id id) (λ (b : Block). Unit {0}) blocks b all is).0) in
      let P : List ℕ → Type 0 = λ id. list_any (has_id id) blocks ≡ true in
      block_either b at (edge p s.at_end b) (edge no_patches s.at_end b) (plus_offset size offset) (plus_offset size (pos 0)) (is_code b) (edge_in p b s.at_end) (edge_in no_patches b s.at_end) (subst P same (any_found (has_id id) blocks b is)) e

  payload_in : (s : Symbol) (offset : ℤ) (at : Point) (v : Payload) → payload_target p (blocks_of (loaded_intervals m)) s offset v ≡ Code at → IsInBlock at (payload_target no_patches (blocks_of (loaded_intervals m)) s (pos 0) v)
  payload_in s offset at payloads.Nothing e = cc
  payload_in s offset at (payloads.Value n) e = cc
  payload_in s offset at (payloads.Referent id) e = found_in s offset at id (block_of id (blocks_of (loaded_intervals m))) refl e

  named_in : (id : List ℕ) (offset : ℤ) (at : Point) (o : Option Symbol) → option_map_or (λ s. symbol_target m p s offset) o (Undefined id) ≡ Code at → IsInBlock at (option_map_or (λ s. symbol_target m no_patches s (pos 0)) o (Undefined id))
  named_in id offset at None e = cc
  named_in id offset at (Some s) e = payload_in s offset at s.payload e

  code_in : (id : List ℕ) (offset : ℤ) (at : Point) → old id offset ≡ Code at → IsInBlock at (old_target m no_patches id (pos 0))
  code_in id offset at e = named_in id offset at (find (λ (s : Symbol). bytes_eq s.uuid id) m.symbols) e

-- ---- entries

module _ (m : Module) (t : Tables) (p : PatchTable) (well : well_made (program m t p)) where
  -- a filling whose targets are there is near
  abbrev NearIf : Filling → Type 0
  NearIf f = IsFilling (program m t p) f → IsNearEntry (program m t p) f

  entry_near : (size scale : ℕ) (a b : List ℕ) (offset : ℤ) (x y : Target) → old_target m p a offset ≡ x → old_target m p b (pos 0) ≡ y → are_apart (symbol_aim m a) (symbol_aim m b) ≡ false → NearIf (Entry size scale x y)
  entry_near size scale a b offset (Number n) y e f apart is = tt
  entry_near size scale a b offset (Address id n) y e f apart is = tt
  entry_near size scale a b offset (Undefined s) y e f apart is = tt
  entry_near size scale a b offset (Code at) (Number n) e f apart is = tt
  entry_near size scale a b offset (Code at) (Address id n) e f apart is = tt
  entry_near size scale a b offset (Code at) (Undefined s) e f apart is = tt
  entry_near size scale a b offset (Code at) (Code to) e f apart is =
      let first = code_in m p a offset at e in
      let second = code_in m p b (pos 0) to f in
      let i = interval_id (loaded_intervals m) at.block in
      let j = interval_id (loaded_intervals m) to.block in
      let aims_are : are_apart (aims.Code i) (aims.Code j) ≡ false = sym (ap (λ z. are_apart z (symbol_aim m b)) first.aim_is ∙ ap (are_apart (aims.Code i)) second.aim_is) ∙ apart in
      near_points m t p well at to is.1 is.2 first.own second.own (not-false (bytes_eq i j) aims_are)

  form_near : (a b : List ℕ) (offset : ℤ) (f : DifferenceForm) (x : Bool) → (x && ((is_no_code (symbol_aim m a) || is_no_code (symbol_aim m b)) || are_apart (symbol_aim m a) (symbol_aim m b))) ≡ false
      → NearIf (if x then Entry f.size f.scale (old_target m p a offset) (old_target m p b (pos 0)) else Difference f.size (old_target m p a offset) (old_target m p b (pos 0)))
  form_near a b offset f false h is = tt
  form_near a b offset f true h is =
      entry_near f.size f.scale a b offset (old_target m p a offset) (old_target m p b (pos 0)) refl refl
      (or_parts (is_no_code (symbol_aim m a) || is_no_code (symbol_aim m b)) (are_apart (symbol_aim m a) (symbol_aim m b)) h).1 is

  forms_near : (a b : List ℕ) (offset : ℤ) (o : Option DifferenceForm) → option_map_or (is_bad_difference offset (symbol_aim m a) (symbol_aim m b)) o false ≡ false
      → IfSome (option_map (difference_in (old_target m p a offset) (old_target m p b (pos 0))) o) NearIf
  forms_near a b offset None h = tt
  forms_near a b offset (Some f) h =
      let first = symbol_aim m a in
      let second = symbol_aim m b in
      let last = f.is_entry && ((is_no_code first || is_no_code second) || are_apart first second) in
      form_near a b offset f f.is_entry (or_parts (are_mixed first second) last (or_parts (is_bad_sum 0 offset first) (are_mixed first second || last) h).1).1

  filling_near : (size word : ℕ) (v : ExprValue) → names_bad (symbol_aim m) size word v ≡ false → IfSome (filling m p size v) NearIf
  filling_near size word values.Nothing h = tt
  filling_near size word (values.AddrConst offset None) h = tt
  filling_near size word (values.AddrConst offset (Some id)) h = λ is. tt
  filling_near size word (values.AddrAddr scale offset None second) h = tt
  filling_near size word (values.AddrAddr scale offset (Some a) None) h = tt
  filling_near size word (values.AddrAddr scale offset (Some a) (Some b)) h = forms_near a b offset (form_of size scale) h

  -- ---- pieces

  abbrev NearPiece : Piece → Type 0
  NearPiece (CodePiece b) = Unit {0}
  NearPiece (DataPiece b) = Every (λ (f : ℕ × Filling). NearIf f.1) b.fillings
  NearPiece (Gap bytes) = Unit {0}

  placed_near : (at : ℕ) (o : Option Filling) → IfSome o NearIf → IfSome (option_map (λ f. (at, f)) o) (λ (f : ℕ × Filling). NearIf f.1)
  placed_near at None h = tt
  placed_near at (Some f) h = h

  piece_near : (i : Interval) (b : Block) (x : Bool) → Every (IsAllowed m t i) i.exprs → NearPiece (if x then CodePiece (code_block m p i b) else DataPiece (data_block m t p i b))
  piece_near i b true h = tt
  piece_near i b false h =
      every_choice (filling_at m t p i b) (λ (f : ℕ × Filling). NearIf f.1) (filter (λ (e : Expr). covers e.at b) i.exprs)
      (every_filter (λ (e : Expr). covers e.at b) (λ e. IfSome (filling_at m t p i b e) (λ (f : ℕ × Filling). NearIf f.1)) i.exprs
      (every_weaker (IsAllowed m t i) (λ e. IfSome (filling_at m t p i b e) (λ (f : ℕ × Filling). NearIf f.1))
      (λ e k. placed_near (e.at - b.offset) (filling m p (expr_size t i.uuid e.at) e.value) (filling_near (expr_size t i.uuid e.at) (word_or_none i e) e.value k)) i.exprs h))

  gap_near : (bytes : List ℕ) (x : Bool) → Every NearPiece (if x then [] else Gap bytes ∷ [])
  gap_near bytes true = tt
  gap_near bytes false = (tt, tt)

  pieces_near : (i : Interval) (at : ℕ) (bs : List Block) → Every (IsAllowed m t i) i.exprs → Every NearPiece (pieces m t p i at bs)
  pieces_near i at [] h = gap_near (bytes_at i at (i.size - at)) (i.size - at == 0)
  pieces_near i at (b ∷ bs) h =
      every_append NearPiece (gap i at b.offset) (piece m t p i b ∷ pieces m t p i (end_of b) bs) (gap_near (bytes_at i at (b.offset - at)) (b.offset - at == 0)) (piece_near i b (is_code b) h, pieces_near i (end_of b) bs h)

  datas_near : (ps : List Piece) → Every NearPiece ps → Every (λ (b : DataBlock). Every (λ (f : ℕ × Filling). NearIf f.1) b.fillings) (filter_map data_of ps)
  datas_near [] h = tt
  datas_near (CodePiece b ∷ ps) h = datas_near ps h.1
  datas_near (DataPiece b ∷ ps) h = (h.0, datas_near ps h.1)
  datas_near (Gap bytes ∷ ps) h = datas_near ps h.1

  block_near : (b : DataBlock) → IsData (program m t p) b → Every (λ (f : ℕ × Filling). NearIf f.1) b.fillings → Every (λ (f : ℕ × Filling). IsNearEntry (program m t p) f.1) b.fillings
  block_near b is h =
      every_weaker (λ (f : ℕ × Filling). IsInside (program m t p) b f × NearIf f.1) (λ (f : ℕ × Filling). IsNearEntry (program m t p) f.1) (λ f k. k.1 k.0.1) b.fillings (every_both (IsInside (program m t p) b) (λ (f : ℕ × Filling). NearIf f.1) b.fillings is.fillings h)

  -- no function has a data block
  function_near : (f : Function) (k at : ℕ) (bs : List (List PatchWord)) → Every NearPiece (function_pieces m p f k at bs)
  function_near f k at [] = tt
  function_near f k at (b ∷ bs) = (tt, function_near f (suc k) (at + 4 * length b) bs)

  all_near : expr_faults m t ≡ [] → HasNearEntries (program m t p)
  all_near h =
      let g = program m t p in
      let own = every_weaker (λ i. Every (IsAllowed m t i) i.exprs) (λ i. Every NearPiece (pieces m t p i 0 (in_order i.blocks))) (λ i k. pieces_near i 0 (in_order i.blocks) k) (loaded_intervals m) (all_allowed m t h) in
      let new = every_all (λ f. Every NearPiece (function_stretch m p f).pieces) (λ f. function_near f 0 0 (function_blocks f)) p.functions in
      every_weaker (λ (b : DataBlock). IsData g b × Every (λ (f : ℕ × Filling). NearIf f.1) b.fillings) (λ (b : DataBlock). Every (λ (f : ℕ × Filling). IsNearEntry g f.1) b.fillings) (λ b k. block_near b k.0 k.1) (data_blocks g)
      (every_both (IsData g) (λ (b : DataBlock). Every (λ (f : ℕ × Filling). NearIf f.1) b.fillings) (data_blocks g) well.datas (datas_near (pieces_of g) (pieces_each NearPiece m t p own new)))

pub near_entries : (ir : Ir) (m : Module) (t : Tables) (p : PatchTable) → well_made (program m t p) → formed ir m t → HasNearEntries (program m t p)
near_entries ir m t p well h = all_near m t p well h.faultless.exprs
