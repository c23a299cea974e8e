-- The points that targets name keep their addresses in the program of a repaired module.
use Rattle.std.proofs.Common.{◌≡◌, ℕ, ◌+◌, ◌-◌, ◌*◌, Bool, true, false, List, [], ◌∷◌, ◌++◌, length, map, Option, Some, None, refl, sym, ap, ◌∙◌, subst}
use Rattle.std.specs.Prelude.{find, IfSome, ◌==◌, if◌then◌else◌}
use Rattle.std.specs.List.{AllByRecursion as Every, cons_option, IsDistinct, flat_map, filter_map}
use Rattle.std.specs.Str.{bytes_eq}
use Rattle.std.proofs.lemmas.List.Concat.{flat_map-append}
use Rattle.std.proofs.lemmas.Map.Made.{IsDistinct-from_AllPairs}
use Rattle.std.proofs.lemmas.Option.{none-some}
use Rattle.std.proofs.lemmas.Slice.Eq.{bytes_eq-Decides}
use Rattle.block_parts.specs.Parts.{parts}
use Rattle.gt_model.specs.declared.intervals.Block.{Block}
use Rattle.gt_model.specs.declared.intervals.Interval.{Interval}
use Rattle.gt_model.specs.declared.modules.Module.{Module}
use Rattle.gt_model.specs.declared.modules.Section.{Section}
use Rattle.repaired_programs.specs.Spots.{new_spots, old_spots, part_spot}
use Rattle.rewrite.specs.Blocks.{part_size}
use Rattle.rewrite.specs.Identifiers.{last_part, part_id}
use Rattle.sym_expr.specs.declared.layout.Layout.{Layout}
use Rattle.sym_expr.specs.declared.point.Point.{Point}
use Rattle.sym_expr.specs.declared.program.CodeBlock.{CodeBlock}
use Rattle.sym_expr.specs.declared.program.Piece.{Piece}
use Rattle.sym_expr.specs.declared.program.Piece.TheVariants.{Code as CodePiece, Data as DataPiece, Gap}
use Rattle.sym_expr.specs.declared.program.Program.{Program}
use Rattle.sym_expr.specs.declared.program.Stretch.{Stretch}
use Rattle.sym_expr.specs.Images.{block_address, point_address}
use Rattle.sym_expr.specs.Layouts.{address_of, least_from}
use Rattle.sym_expr.specs.Modules.{bytes_at, end_of, in_order, is_code, loaded_sections}
use Rattle.sym_expr.specs.Patches.{no_patches}
use Rattle.sym_expr.specs.Placing.{new_size, placed_from, step_of}
use Rattle.sym_expr.specs.Points.{code_at, code_blocks, code_of, code_size, ins, pieces_of}
use Rattle.sym_expr.specs.Program.{code_block, data_block, function_stretch, gap, has_entry, piece, pieces, program, section_stretches, stretch}
use Rattle.sym_expr.specs.Tables.{Tables}
use Rattle.sym_expr.specs.Targets.{point, start_of}
use Rattle.sym_expr.specs.WellMade.{block_id, block_ids, IsCode, well_made}
use Rattle.repaired_programs.proofs.Addresses.{AreAt}
use Rattle.repaired_programs.proofs.Known.{IsCounted}
use Rattle.repaired_programs.proofs.Lists.{every_all, every_append, every_back, every_both, every_flat, every_front, every_kept, every_map, every_part, every_weaker}
use Rattle.repaired_programs.proofs.Points.{IsQuiet, same_end_point, same_start}

-- ---- in a program without patches nothing is inserted

abbrev IsQuietPiece : Piece → Type 0
IsQuietPiece x = IfSome (code_of x) (λ (b : CodeBlock). b.inserted ≡ [])

keep_some : {Y : Type 0} (P : Y → Type 0) (o : Option Y) (ys : List Y) → IfSome o P → Every P ys → Every P (cons_option o ys)
keep_some P None ys h k = k
keep_some P (Some y) ys h k = (h, k)

every_filter_map : {X Y : Type 0} (f : X → Option Y) (P : Y → Type 0) (xs : List X) → Every (λ x. IfSome (f x) P) xs → Every P (filter_map f xs)
every_filter_map f P [] h = tt
every_filter_map f P (x ∷ xs) h = keep_some P (f x) (filter_map f xs) h.0 (every_filter_map f P xs h.1)

quiet_gap : (bytes : List ℕ) (x : Bool) → Every IsQuietPiece (if x then [] else Gap bytes ∷ [])
quiet_gap bytes true = tt
quiet_gap bytes false = (tt, tt)

quiet_piece : (n : Module) (u : Tables) (i : Interval) (b : Block) (x : Bool) → IsQuietPiece (if x then CodePiece (code_block n no_patches i b) else DataPiece (data_block n u no_patches i b))
quiet_piece n u i b true = refl
quiet_piece n u i b false = tt

quiet_pieces : (n : Module) (u : Tables) (i : Interval) (at : ℕ) (bs : List Block) → Every IsQuietPiece (pieces n u no_patches i at bs)
quiet_pieces n u i at [] = quiet_gap (bytes_at i at (i.size - at)) (i.size - at == 0)
quiet_pieces n u i at (b ∷ bs) =
    every_append IsQuietPiece (gap i at b.offset) (piece n u no_patches i b ∷ pieces n u no_patches i (end_of b) bs) (quiet_gap (bytes_at i at (b.offset - at)) (b.offset - at == 0))
    (quiet_piece n u i b (is_code b), quiet_pieces n u i (end_of b) bs)

abbrev IsQuietStretch : Stretch → Type 0
IsQuietStretch s = Every IsQuietPiece s.pieces

no_functions : (x : Bool) (n : Module) → Every IsQuietStretch (if x then map (function_stretch n no_patches) [] else [])
no_functions true n = tt
no_functions false n = tt

quiet_section : (n : Module) (u : Tables) (s : Section) → Every IsQuietStretch (section_stretches n u no_patches s)
quiet_section n u s =
    every_append IsQuietStretch (map (stretch n u no_patches) s.intervals) (if has_entry n s then map (function_stretch n no_patches) [] else [])
    (every_map (stretch n u no_patches) IsQuietStretch s.intervals (every_all (λ i. IsQuietStretch (stretch n u no_patches i)) (λ i. quiet_pieces n u i 0 (in_order i.blocks)) s.intervals))
    (no_functions (has_entry n s) n)

pub quiet_program : (n : Module) (u : Tables) → IsQuiet (program n u no_patches)
quiet_program n u =
    let g : Program = program n u no_patches in
    every_filter_map code_of (λ (b : CodeBlock). b.inserted ≡ []) (pieces_of g)
    (every_flat (λ (s : Stretch). s.pieces) IsQuietPiece g.stretches
    (every_flat (section_stretches n u no_patches) IsQuietStretch (loaded_sections n) (every_all (λ s. Every IsQuietStretch (section_stretches n u no_patches s)) (quiet_section n u) (loaded_sections n))))

-- ---- each code block is found by its identifier

pub codes_of_ids : (P : List ℕ → Type 0) (ps : List Piece) → Every P (flat_map block_id ps) → Every (λ (c : CodeBlock). P c.id) (filter_map code_of ps)
codes_of_ids P [] h = tt
codes_of_ids P (CodePiece b ∷ ps) h = (h.0, codes_of_ids P ps h.1)
codes_of_ids P (DataPiece b ∷ ps) h = codes_of_ids P ps h.1
codes_of_ids P (Gap bytes ∷ ps) h = codes_of_ids P ps h

abbrev IsIn : List CodeBlock → CodeBlock → Type 0
IsIn bs b = find (λ (c : CodeBlock). bytes_eq c.id b.id) bs ≡ Some b

skipped : (b c : CodeBlock) (bs : List CodeBlock) → bytes_eq b.id c.id ≡ false → IsIn bs c → IsIn (b ∷ bs) c
skipped b c bs h k = ap (λ x. if x then Some b else find (λ (d : CodeBlock). bytes_eq d.id c.id) bs) h ∙ k

codes_found : (ps : List Piece) → IsDistinct bytes_eq (flat_map block_id ps) → Every (IsIn (filter_map code_of ps)) (filter_map code_of ps)
unfolding IsDistinct
codes_found [] d = tt
codes_found (CodePiece b ∷ ps) d =
    let bs : List CodeBlock = filter_map code_of ps in (
      ap (λ x. if x then Some b else find (λ (c : CodeBlock). bytes_eq c.id b.id) bs) ((bytes_eq-Decides b.id b.id).1 refl),
      every_weaker (λ c. (bytes_eq b.id c.id ≡ false) × IsIn bs c) (IsIn (b ∷ bs)) (λ c h. skipped b c bs h.0 h.1) bs
          (every_both (λ (c : CodeBlock). bytes_eq b.id c.id ≡ false) (IsIn bs) bs (codes_of_ids (λ y. bytes_eq b.id y ≡ false) ps d.0) (codes_found ps d.1)),
    )
codes_found (DataPiece b ∷ ps) d = codes_found ps d.1
codes_found (Gap bytes ∷ ps) d = codes_found ps d

pub flat_flat : {X Y Z : Type 0} (f : X → List Y) (g : Y → List Z) (xs : List X) → flat_map g (flat_map f xs) ≡ flat_map (λ x. flat_map g (f x)) xs
flat_flat f g [] = refl
flat_flat f g (x ∷ xs) = flat_map-append g (f x) (flat_map f xs) ∙ ap (λ l. flat_map g (f x) ++ l) (flat_flat f g xs)

all_in : (g : Program) → well_made g → Every (λ (b : CodeBlock). code_at g b.id ≡ Some b) (code_blocks g)
all_in g made =
    codes_found (pieces_of g)
    (subst (IsDistinct bytes_eq) (sym (flat_flat (λ (s : Stretch). s.pieces) block_id g.stretches)) (IsDistinct-from_AllPairs bytes_eq-Decides (block_ids g) made.apart))

-- ---- ends

module _ (l : Layout) (m : Module) (g new : Program) (quiet : IsQuiet new) where
  -- the end of a block and that of its last part
  abbrev pub IsEnd : CodeBlock → Type 0
  IsEnd b = point_address l new (point (part_id m b.id (last_part (parts b))) (part_size (last_part (parts b))) 0) ≡ point_address l g (point b.id (code_size b) (length (ins b (code_size b))))

  record IsGood (b : CodeBlock) : Type 0 where
    code : IsCode g b
    counted : IsCounted b
    found : code_at g b.id ≡ Some b

  ends_in : (base end : ℕ) (ps : List Piece) → Every (λ x. IfSome (code_of x) IsGood) ps → Every (λ (e : List ℕ × ℕ). block_address l g e.0 ≡ Some (base + e.1)) (flat_map old_spots (placed_from end ps))
      → Every (λ (e : List ℕ × ℕ). block_address l new e.0 ≡ Some (base + e.1)) (flat_map (new_spots m) (placed_from end ps)) → Every (λ x. IfSome (code_of x) IsEnd) ps
  ends_in base end [] good old now = tt
  ends_in base end (CodePiece b ∷ ps) good old now =
      let at : ℕ = least_from end 1 0 in
      let next : ℕ = at + 4 * (length b.own + length b.inserted) in
      let P : List ℕ × ℕ → Type 0 = λ e. block_address l new e.0 ≡ Some (base + e.1) in (
        same_end_point l m g new b base at good.0.code good.0.counted good.0.found quiet old.0 (every_front P (map (part_spot m b.id at) (parts b)) (flat_map (new_spots m) (placed_from next ps)) now),
        ends_in base next ps good.1 old.1 (every_back P (map (part_spot m b.id at) (parts b)) (flat_map (new_spots m) (placed_from next ps)) now),
      )
  ends_in base end (DataPiece b ∷ ps) good old now = (tt, ends_in base (least_from end (step_of (DataPiece b)) 0 + new_size (DataPiece b)) ps good.1 old.1 now.1)
  ends_in base end (Gap bytes ∷ ps) good old now = (tt, ends_in base (least_from end 1 0 + length bytes) ps good.1 old now)

  ends_of : (ss : List Stretch) → Every (λ (s : Stretch). Every (λ x. IfSome (code_of x) IsGood) s.pieces) ss → Every (AreAt l g old_spots) ss → Every (AreAt l new (new_spots m)) ss → Every (λ (s : Stretch). Every (λ x. IfSome (code_of x) IsEnd) s.pieces) ss
  ends_of [] good old now = tt
  ends_of (s ∷ ss) good old now = (ends_in (address_of l s.id) 0 s.pieces good.0 old.0 now.0, ends_of ss good.1 old.1 now.1)

  pub all_ends : well_made g → ((b : CodeBlock) → IsCode g b → IsCounted b) → Every (AreAt l g old_spots) g.stretches → Every (AreAt l new (new_spots m)) g.stretches → Every IsEnd (code_blocks g)
  all_ends made count old now =
      let good : Every IsGood (code_blocks g) =
      every_weaker (λ b. IsCode g b × (code_at g b.id ≡ Some b)) IsGood (λ b h. record { code = h.0; counted = count b h.0; found = h.1 }) (code_blocks g)
      (every_both (IsCode g) (λ (b : CodeBlock). code_at g b.id ≡ Some b) (code_blocks g) made.codes (all_in g made)) in
      every_filter_map code_of IsEnd (pieces_of g)
      (every_flat (λ (s : Stretch). s.pieces) (λ x. IfSome (code_of x) IsEnd) g.stretches
      (ends_of g.stretches (every_part (λ (s : Stretch). s.pieces) (λ x. IfSome (code_of x) IsGood) g.stretches (every_kept code_of IsGood (pieces_of g) good)) old now))

-- ---- starts

pub all_starts : (l : Layout) (g new : Program) → Every (λ id. block_address l new id ≡ block_address l g id) (block_ids g) → Every (λ id. point_address l new (start_of id) ≡ point_address l g (start_of id)) (block_ids g)
all_starts l g new h =
    every_weaker (λ id. block_address l new id ≡ block_address l g id) (λ id. point_address l new (start_of id) ≡ point_address l g (start_of id)) (λ id e. same_start l g new id e) (block_ids g) h

-- the point where a program starts
first_or : (test : CodeBlock → Bool) (P : CodeBlock → Type 0) (y : CodeBlock) (ys : List CodeBlock) (x : CodeBlock) → P y → (b : Bool) → test y ≡ b → (find test ys ≡ Some x → (test x ≡ true) × P x) → (if b then Some y else find test ys) ≡ Some x → (test x ≡ true) × P x
first_or test P y ys x h true is rest f = let Q : CodeBlock → Type 0 = λ z. (test z ≡ true) × P z in subst Q (some_is y x f) (is, h)
  where
    some_is : (x y : CodeBlock) → ◌≡◌ {A = Option CodeBlock} (Some x) (Some y) → x ≡ y
    some_is x y e = cc
first_or test P y ys x h false is rest f = rest f

found_one : (test : CodeBlock → Bool) (P : CodeBlock → Type 0) (xs : List CodeBlock) (x : CodeBlock) → Every P xs → find test xs ≡ Some x → (test x ≡ true) × P x
found_one test P [] x h e = absurd (none-some x e)
found_one test P (y ∷ ys) x h e = first_or test P y ys x h.0 (test y) refl (λ f. found_one test P ys x h.1 f) e

pub same_entry : (l : Layout) (g new : Program) → well_made g → new.entry ≡ g.entry → Every (λ id. block_address l new id ≡ block_address l g id) (block_ids g) → point_address l new new.entry ≡ point_address l g g.entry
same_entry l g new made same kept =
    let id : List ℕ = made.entry.0 in
    let at : g.entry ≡ start_of id = made.entry.1 in
    let here = made.entry.2 in
    let K : List ℕ → Type 0 = λ id. block_address l new id ≡ block_address l g id in
    let codes : Every (λ (b : CodeBlock). K b.id) (code_blocks g) =
    codes_of_ids K (pieces_of g) (subst (Every K) (sym (flat_flat (λ (s : Stretch). s.pieces) block_id g.stretches)) kept) in
    let one = found_one (λ (b : CodeBlock). bytes_eq b.id g.entry.block) (λ (b : CodeBlock). K b.id) (code_blocks g) here.block codes here.found in
    let its : here.block.id ≡ g.entry.block = (bytes_eq-Decides here.block.id g.entry.block).0 one.0 in
    let of_id : g.entry.block ≡ id = ap (λ (p : Point). p.block) at in
    let known : K id = subst K (its ∙ of_id) one.1 in
    ap (point_address l new) (same ∙ at) ∙ same_start l g new id known ∙ sym (ap (point_address l g) at)
