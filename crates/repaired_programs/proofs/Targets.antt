-- All symbols that stand for loaded blocks, numbers or nothing name one thing in both programs.
use Rattle.std.proofs.Common.{◌≡◌, ℕ, ℤ, Bool, true, false, List, [], ◌∷◌, ◌++◌, length, map, Option, Some, None, refl, sym, ap, ◌∙◌, subst}
use Rattle.std.specs.Prelude.{find, IfSome, IsSome, IsSomeAnd, if◌then◌else◌}
use Rattle.std.specs.List.{AllByRecursion as Every, IsDistinct, flat_map}
use Rattle.std.specs.Option.{option_map, option_map_or}
use Rattle.std.specs.Str.{bytes_eq}
use Rattle.std.proofs.lemmas.Bool.{both_ways}
use Rattle.std.proofs.lemmas.Option.{none-some}
use Rattle.std.proofs.lemmas.Map.Made.{IsDistinct-from_AllPairs}
use Rattle.std.proofs.lemmas.Slice.Eq.{bytes_eq-Decides}
use Rattle.block_parts.specs.Parts.{parts}
use Rattle.edge_repair.specs.Repaired.{repaired_module}
use Rattle.gt_model.specs.declared.intervals.Block.{Block}
use Rattle.gt_model.specs.declared.intervals.Interval.{Interval}
use Rattle.gt_model.specs.declared.ir.Ir.{Ir}
use Rattle.gt_model.specs.declared.modules.Module.{Module}
use Rattle.gt_model.specs.declared.symbols.Payload.{Payload}
use Rattle.gt_model.specs.declared.symbols.Payload.TheVariants as payloads
use Rattle.gt_model.specs.declared.symbols.Symbol.{Symbol}
use Rattle.repaired_programs.specs.Named.{IsOneTarget}
use Rattle.repaired_programs.specs.Programs.{repaired_program}
use Rattle.repaired_programs.specs.Symbols.{IsLoadedPayload}
use Rattle.rewrite.specs.Blocks.{part_size}
use Rattle.rewrite.specs.Identifiers.{last_part, part_id}
use Rattle.rewrite.specs.Places.{moved_tables}
use Rattle.rewrite.specs.Rewritten.{new_interval}
use Rattle.rewrite.specs.Symbols.{end_payload, function_symbols, moved_symbol}
use Rattle.sym_expr.specs.declared.layout.Layout.{Layout}
use Rattle.sym_expr.specs.declared.patches.PatchTable.{PatchTable}
use Rattle.sym_expr.specs.declared.program.CodeBlock.{CodeBlock}
use Rattle.sym_expr.specs.declared.program.Piece.{Piece}
use Rattle.sym_expr.specs.declared.program.Program.{Program}
use Rattle.sym_expr.specs.declared.program.Stretch.{Stretch}
use Rattle.sym_expr.specs.declared.target.Target.TheVariants.{Undefined}
use Rattle.sym_expr.specs.Images.{block_address, point_address, target_value, undefined_in}
use Rattle.sym_expr.specs.Linkable.{formed}
use Rattle.sym_expr.specs.Modules.{block_of, blocks_of, id_of, in_order, loaded_intervals}
use Rattle.sym_expr.specs.Patches.{no_patches}
use Rattle.sym_expr.specs.Points.{code_blocks, code_of, code_size, ins, pieces_of}
use Rattle.sym_expr.specs.Program.{piece, program, stretch}
use Rattle.sym_expr.specs.TableOk.{typed_patches}
use Rattle.sym_expr.specs.Tables.{Tables}
use Rattle.sym_expr.specs.Targets.{old_target, point, symbol_target}
use Rattle.sym_expr.specs.WellMade.{block_id, block_ids, IsCode, well_made}
use Rattle.repaired_programs.proofs.Addresses.{AreApart}
use Rattle.repaired_programs.proofs.Bare.{AreNamed}
use Rattle.repaired_programs.proofs.Becomes.{IsFit}
use Rattle.repaired_programs.proofs.Blocks.{all_blocks_in, AreCarried, carried, IsCarried, IsIn, of_olds}
use Rattle.repaired_programs.proofs.Ends.{flat_flat}
use Rattle.repaired_programs.proofs.Known.{all_known, IsCounted, of_intervals, pieces_back}
use Rattle.repaired_programs.proofs.Lists.{every_both, every_flat, every_kept, every_part, every_weaker}
use Rattle.repaired_programs.proofs.Rewritten.{blocks_at, ends_at}
use Rattle.repaired_programs.proofs.Sorted.{each_from_order}
use Rattle.repaired_programs.proofs.Stands.{IsKnown}
use Rattle.repaired_programs.proofs.Still.{IsOnePart}
use Rattle.repaired_programs.proofs.Symbols.{block_same, FoundIn, IsSeen, pieces_found}

module _ (ir : Ir) (m : Module) (t : Tables) (p : PatchTable) (l : Layout) (named : (b : CodeBlock) → AreNamed b) (one : (b : CodeBlock) → IsOnePart b) (count : (g : Program) (b : CodeBlock) → IsCode g b → IsCounted b)
    (h : formed ir m t) (typed : typed_patches p) (made : well_made (program m t p)) (plain : well_made (program m t no_patches)) (apart : AreApart (repaired_program m t p)) where
  abbrev g : Program
  g = program m t p

  abbrev n : Module
  n = repaired_module m t p

  abbrev u : Tables
  u = moved_tables m t p

  abbrev new : Program
  new = repaired_program m t p

  abbrev old_blocks : List Block
  old_blocks = blocks_of (loaded_intervals m)

  abbrev new_blocks : List Block
  new_blocks = blocks_of (loaded_intervals n)

  abbrev IsEnd : CodeBlock → Type 0
  IsEnd b = point_address l new (point (part_id m b.id (last_part (parts b))) (part_size (last_part (parts b))) 0) ≡ point_address l g (point b.id (code_size b) (length (ins b (code_size b))))

  abbrev IsKept : List ℕ → Type 0
  IsKept id = block_address l new id ≡ block_address l g id

  abbrev IsSeenAll : Piece → Type 0
  IsSeenAll x = (i : Interval) → IsSeen l m p i g n new x

  all_seen : Every IsSeenAll (pieces_of g)
  all_seen =
      let found : Every (FoundIn (code_blocks g)) (pieces_of g) =
      pieces_found (pieces_of g) (subst (IsDistinct bytes_eq) (sym (flat_flat (λ (s : Stretch). s.pieces) block_id g.stretches)) (IsDistinct-from_AllPairs bytes_eq-Decides (block_ids g) made.apart)) in
      let ends : Every (λ x. IfSome (code_of x) IsEnd) (pieces_of g) = every_kept code_of IsEnd (pieces_of g) (ends_at ir m t p l named one count h typed made apart) in
      let kept : Every (λ x. Every IsKept (block_id x)) (pieces_of g) =
      every_part block_id IsKept (pieces_of g)
      (subst (Every IsKept) (sym (flat_flat (λ (s : Stretch). s.pieces) block_id g.stretches)) (blocks_at ir m t p l named one count h typed made apart)) in
      every_weaker (λ x. FoundIn (code_blocks g) x × (IfSome (code_of x) IsEnd × Every IsKept (block_id x))) IsSeenAll
      (λ x k. λ i. record { found = k.0; ends = k.1.0; kept = k.1.1 }) (pieces_of g)
      (every_both (FoundIn (code_blocks g)) (λ x. IfSome (code_of x) IsEnd × Every IsKept (block_id x)) (pieces_of g) found
      (every_both (λ x. IfSome (code_of x) IsEnd) (λ x. Every IsKept (block_id x)) (pieces_of g) ends kept))

  abbrev IsOneOn : Block → Type 0
  IsOneOn b = (s : Symbol) (offset : ℤ) → s.payload ≡ payloads.Referent (id_of b) → IsOneTarget l new g (symbol_target n no_patches (moved_symbol m g s) offset) (symbol_target m p s offset)

  -- the blocks of an interval
  record IsReady (i : Interval) : Type 0 where
    known : IsKnown m t p i
    seen : Every IsSeenAll (stretch m t p i).pieces
    old : Every (IsIn old_blocks) i.blocks
    now : AreCarried m t p new_blocks i

  blocks_one : (i : Interval) → IsReady i → Every IsOneOn i.blocks
  blocks_one i k =
      let fit : Every (IsFit m p i) i.blocks = each_from_order (IsFit m p i) i.blocks k.known.fit in
      let seen : Every (λ b. IsSeenAll (piece m t p i b)) i.blocks =
      each_from_order (λ b. IsSeenAll (piece m t p i b)) i.blocks (pieces_back IsSeenAll m t p i 0 (in_order i.blocks) k.seen) in
      every_weaker (λ b. (IsFit m p i b × IsIn old_blocks b) × (IsCarried m p i new_blocks b b.body × IsSeenAll (piece m t p i b))) IsOneOn
      (λ b a. block_same l m p i g n new t b a.0.0 a.0.1 a.1.0 (a.1.1 i)) i.blocks
      (every_both (λ b. IsFit m p i b × IsIn old_blocks b) (λ b. IsCarried m p i new_blocks b b.body × IsSeenAll (piece m t p i b)) i.blocks
      (every_both (IsFit m p i) (IsIn old_blocks) i.blocks fit k.old)
      (every_both (λ (b : Block). IsCarried m p i new_blocks b b.body) (λ b. IsSeenAll (piece m t p i b)) i.blocks k.now seen))

  abbrev AreIn : Interval → Type 0
  AreIn i = Every (IsIn new_blocks) i.blocks

  ready : (i : Interval) → (IsKnown m t p i × Every IsSeenAll (stretch m t p i).pieces) × (Every (IsIn old_blocks) i.blocks × AreIn (new_interval m t p i)) → IsReady i
  ready i k = record { known = k.0.0; seen = k.0.1; old = k.1.0; now = carried one m t p new_blocks i (each_from_order (IsFit m p i) i.blocks k.0.0.fit) k.1.1 }

  all_ready : Every IsReady (loaded_intervals m)
  all_ready =
      let is : List Interval = loaded_intervals m in
      let known : Every (IsKnown m t p) is = all_known ir m t p count h made in
      let seen : Every (λ i. Every IsSeenAll (stretch m t p i).pieces) is = of_intervals (λ (s : Stretch). Every IsSeenAll s.pieces) m t p (every_part (λ (s : Stretch). s.pieces) IsSeenAll g.stretches all_seen) in
      let old : Every (λ (i : Interval). Every (IsIn old_blocks) i.blocks) is = every_part (λ (i : Interval). i.blocks) (IsIn old_blocks) is (all_blocks_in m t plain.apart) in
      let now : Every (λ i. AreIn (new_interval m t p i)) is =
      of_olds AreIn m t p m.sections (every_part (λ (i : Interval). i.blocks) (IsIn new_blocks) (loaded_intervals n) (all_blocks_in n u apart)) in
      every_weaker (λ i. (IsKnown m t p i × Every IsSeenAll (stretch m t p i).pieces) × (Every (IsIn old_blocks) i.blocks × AreIn (new_interval m t p i))) IsReady (λ i k. ready i k) is
      (every_both (λ i. IsKnown m t p i × Every IsSeenAll (stretch m t p i).pieces) (λ (i : Interval). Every (IsIn old_blocks) i.blocks × AreIn (new_interval m t p i)) is
      (every_both (IsKnown m t p) (λ i. Every IsSeenAll (stretch m t p i).pieces) is known seen)
      (every_both (λ (i : Interval). Every (IsIn old_blocks) i.blocks) (λ i. AreIn (new_interval m t p i)) is old now))

  all_one : Every IsOneOn old_blocks
  all_one = every_flat (λ (i : Interval). i.blocks) IsOneOn (loaded_intervals m) (every_weaker IsReady (λ (i : Interval). Every IsOneOn i.blocks) blocks_one (loaded_intervals m) all_ready)

  -- ---- symbols

  abbrev IsOneSymbol : Symbol → ℤ → Type 0
  IsOneSymbol s offset = IsOneTarget l new g (symbol_target n no_patches (moved_symbol m g s) offset) (symbol_target m p s offset)

  abbrev symbol_with : List ℕ → List ℕ → Bool → Payload → Symbol
  symbol_with uuid name at_end x = record { uuid = uuid; name = name; at_end = at_end; payload = x }

  some_is : {Y : Type 0} (x y : Y) → ◌≡◌ {A = Option Y} (Some x) (Some y) → x ≡ y
  some_is x y e = cc

  found_id : (id : List ℕ) (bs : List Block) (b : Block) → Every IsOneOn bs → block_of id bs ≡ Some b → (id_of b ≡ id) × IsOneOn b
  found_id id [] b k e = absurd (none-some b e)
  found_id id (c ∷ bs) b k e = either (bytes_eq (id_of c) id) refl e (λ f. found_id id bs b k.1 f)
    where
      either : (x : Bool) → bytes_eq (id_of c) id ≡ x → (if x then Some c else block_of id bs) ≡ Some b → (block_of id bs ≡ Some b → (id_of b ≡ id) × IsOneOn b) → (id_of b ≡ id) × IsOneOn b
      either true same f rest = let Q : Block → Type 0 = λ z. (id_of z ≡ id) × IsOneOn z in subst Q (some_is c b f) ((bytes_eq-Decides (id_of c) id).0 same, k.0)
      either false same f rest = rest f

  some_block : (o : Option Block) → IsSome o → (b : Block) × (o ≡ Some b)
  some_block None k = absurd (both_ways true (sym k) refl)
  some_block (Some b) k = (b, refl)

  symbol_one : (uuid name : List ℕ) (at_end : Bool) (x : Payload) (offset : ℤ) → IsLoadedPayload m x → IsOneSymbol (symbol_with uuid name at_end x) offset
  symbol_one uuid name true payloads.Nothing offset k = record { value = refl; undefined = refl }
  symbol_one uuid name false payloads.Nothing offset k = record { value = refl; undefined = refl }
  symbol_one uuid name true (payloads.Value value) offset k = record { value = refl; undefined = refl }
  symbol_one uuid name false (payloads.Value value) offset k = record { value = refl; undefined = refl }
  symbol_one uuid name at_end (payloads.Referent id) offset k =
      let b = some_block (block_of id old_blocks) k in
      let on = found_id id old_blocks b.0 all_one b.1 in
      on.1 (symbol_with uuid name at_end (payloads.Referent id)) offset (ap (λ x. payloads.Referent x) (sym on.0))

  each_one : (s : Symbol) (offset : ℤ) → IsLoadedPayload m s.payload → IsOneSymbol s offset
  each_one s offset k = symbol_one s.uuid s.name s.at_end s.payload offset k

  -- ---- by their identifiers

  abbrev has_uuid : List ℕ → Symbol → Bool
  has_uuid id s = bytes_eq s.uuid id

  moved_keeps : (s : Symbol) (x : Bool) → (if x then record s { payload = end_payload m g s.payload } else s).uuid ≡ s.uuid
  moved_keeps s true = refl
  moved_keeps s false = refl

  found_moved : (id : List ℕ) (ss more : List Symbol) (s : Symbol) → find (has_uuid id) ss ≡ Some s → find (has_uuid id) (map (moved_symbol m g) ss ++ more) ≡ Some (moved_symbol m g s)
  found_moved id [] more s e = absurd (none-some s e)
  found_moved id (x ∷ ss) more s e =
      ap (λ (k : List ℕ). if bytes_eq k id then Some (moved_symbol m g x) else find (has_uuid id) (map (moved_symbol m g) ss ++ more)) (moved_keeps x x.at_end)
      ∙ either (bytes_eq x.uuid id) e (λ f. found_moved id ss more s f)
    where
      either : (c : Bool) → (if c then Some x else find (has_uuid id) ss) ≡ Some s → (find (has_uuid id) ss ≡ Some s → find (has_uuid id) (map (moved_symbol m g) ss ++ more) ≡ Some (moved_symbol m g s))
          → (if c then Some (moved_symbol m g x) else find (has_uuid id) (map (moved_symbol m g) ss ++ more)) ≡ Some (moved_symbol m g s)
      either true f rest = ap (λ o. option_map (moved_symbol m g) o) f
      either false f rest = rest f

  named_one : (id : List ℕ) (offset : ℤ) (s : Symbol) → find (has_uuid id) m.symbols ≡ Some s → IsLoadedPayload m s.payload → IsOneTarget l new g (old_target n no_patches id offset) (old_target m p id offset)
  named_one id offset s e k =
      let now : old_target n no_patches id offset ≡ symbol_target n no_patches (moved_symbol m g s) offset =
      ap (λ o. option_map_or (λ x. symbol_target n no_patches x offset) o (Undefined id)) (found_moved id m.symbols (flat_map (function_symbols m) p.functions) s e) in
      let before : old_target m p id offset ≡ symbol_target m p s offset = ap (λ o. option_map_or (λ x. symbol_target m p x offset) o (Undefined id)) e in
      let one = each_one s offset k in
      record {
        value = ap (target_value l new) now ∙ one.value ∙ sym (ap (target_value l g) before);
        undefined = ap undefined_in now ∙ one.undefined ∙ sym (ap undefined_in before);
      }

  pub target_one : (id : List ℕ) (offset : ℤ) → IsSomeAnd (find (has_uuid id) m.symbols) (λ (s : Symbol). IsLoadedPayload m s.payload) → IsOneTarget l new g (old_target n no_patches id offset) (old_target m p id offset)
  target_one id offset k = either (find (has_uuid id) m.symbols) refl k
    where
      either : (o : Option Symbol) → find (has_uuid id) m.symbols ≡ o → IsSomeAnd o (λ (s : Symbol). IsLoadedPayload m s.payload) → IsOneTarget l new g (old_target n no_patches id offset) (old_target m p id offset)
      either None e f = absurd f
      either (Some s) e f = named_one id offset s e f
