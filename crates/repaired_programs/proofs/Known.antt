-- What the checks of a module, and its program, say of each loaded interval.
use Rattle.std.proofs.Common.{◌≡◌, ℕ, ◌+◌, ◌-◌, Bool, true, false, List, [], ◌∷◌, ◌++◌, length, map, refl, ap, ◌∙◌, subst, arith}
use Rattle.std.specs.Prelude.{IfSome, ◌==◌, if◌then◌else◌}
use Rattle.std.specs.List.{AllByRecursion as Every, IsDistinct, flat_map, list_any, zip}
use Rattle.std.specs.Str.{bytes_eq}
use Rattle.std.proofs.lemmas.Bool.{ltb-false}
use Rattle.std.proofs.lemmas.List.Concat.{flat_map-append}
use Rattle.std.proofs.lemmas.Map.Made.{IsDistinct-from_AllPairs}
use Rattle.std.proofs.lemmas.Slice.Eq.{bytes_eq-Decides}
use Rattle.block_parts.specs.Words.{patched_words}
use Rattle.gt_model.specs.declared.intervals.Block.{Block}
use Rattle.gt_model.specs.declared.intervals.Interval.{Interval}
use Rattle.gt_model.specs.declared.ir.Ir.{Ir}
use Rattle.gt_model.specs.declared.modules.Module.{Module}
use Rattle.gt_model.specs.declared.modules.Section.{Section}
use Rattle.gt_model.specs.Linked.{is_bare}
use Rattle.sym_expr.specs.declared.patches.PatchTable.{PatchTable}
use Rattle.sym_expr.specs.declared.program.CodeBlock.{CodeBlock}
use Rattle.sym_expr.specs.declared.program.Piece.{Piece}
use Rattle.sym_expr.specs.declared.program.Piece.TheVariants.{Code as CodePiece, Data as DataPiece, Gap}
use Rattle.sym_expr.specs.declared.program.Program.{Program}
use Rattle.sym_expr.specs.declared.program.Stretch.{Stretch}
use Rattle.sym_expr.specs.Linkable.{crooked_in, formed, is_crooked, is_overlap, overlaps_among, overlaps_in}
use Rattle.sym_expr.specs.Modules.{bytes_at, end_of, id_of, in_order, is_code, is_loaded, loaded_intervals, loaded_sections}
use Rattle.sym_expr.specs.Points.{code_of}
use Rattle.sym_expr.specs.Program.{code_block, data_block, function_stretch, gap, has_entry, piece, pieces, program, section_stretches, stretch}
use Rattle.sym_expr.specs.Tables.{Tables}
use Rattle.sym_expr.specs.WellMade.{block_id, IsCode, well_made}
use Rattle.repaired_programs.proofs.Becomes.{IsFit}
use Rattle.repaired_programs.proofs.Lists.{every_back, every_both, every_contained, every_filter, every_flat, every_front, every_kept, every_part, every_unmap, every_weaker, none_of_any, none_of_filter, none_of_flat}
use Rattle.repaired_programs.proofs.Sorted.{each_in_order}
use Rattle.repaired_programs.proofs.Spots.{Behind}
use Rattle.repaired_programs.proofs.Stands.{IsKnown}

-- ---- blocks one behind the other

chain_of : (b : Block) (bs : List Block) → Every (λ p. is_overlap p ≡ false) (zip (b ∷ bs) bs) → Behind (end_of b) bs
chain_of b [] h = tt
chain_of b (c ∷ cs) h = (ltb-false c.offset (end_of b) h.0, chain_of c cs h.1)

behind_of : (bs : List Block) → overlaps_among bs ≡ [] → Behind 0 bs
behind_of [] e = tt
behind_of (b ∷ bs) e = (omega arith, chain_of b bs (none_of_filter is_overlap (zip (b ∷ bs) bs) e))

-- ---- no bare block

abbrev HasNoBare : Interval → Type 0
HasNoBare i = list_any is_bare i.blocks ≡ false

whole_intervals : (ir : Ir) (m : Module) (t : Tables) → formed ir m t → Every HasNoBare (loaded_intervals m)
whole_intervals ir m t h =
    every_flat (λ (s : Section). s.intervals) HasNoBare (loaded_sections m)
    (every_filter is_loaded (λ (s : Section). Every HasNoBare s.intervals) m.sections
    (every_part (λ (s : Section). s.intervals) HasNoBare m.sections
    (every_contained (λ (x : Module). Every HasNoBare (flat_map (λ (s : Section). s.intervals) x.sections)) ir.modules m
    (every_part (λ (x : Module). flat_map (λ (s : Section). s.intervals) x.sections) HasNoBare ir.modules h.linked.links.no_bare) h.member)))

-- ---- what a program says of its intervals

-- the words of code blocks are counted, and blocks have identifiers of their own
abbrev pub IsCounted : CodeBlock → Type 0
IsCounted b = length (patched_words b) ≡ length b.own + length b.inserted

abbrev pub IsCountedPiece : Piece → Type 0
IsCountedPiece x = IfSome (code_of x) IsCounted

pub record IsTold (s : Stretch) : Type 0 where
  pub counted : Every IsCountedPiece s.pieces
  distinct : IsDistinct bytes_eq (flat_map block_id s.pieces)

distinct_front : (xs ys : List (List ℕ)) → IsDistinct bytes_eq (xs ++ ys) → IsDistinct bytes_eq xs
unfolding IsDistinct
distinct_front [] ys d = tt
distinct_front (x ∷ xs) ys d = (every_front (λ y. bytes_eq x y ≡ false) xs ys d.0, distinct_front xs ys d.1)

distinct_back : (xs ys : List (List ℕ)) → IsDistinct bytes_eq (xs ++ ys) → IsDistinct bytes_eq ys
unfolding IsDistinct
distinct_back [] ys d = d
distinct_back (x ∷ xs) ys d = distinct_back xs ys d.1

abbrev ids_in : Stretch → List (List ℕ)
ids_in s = flat_map block_id s.pieces

all_distinct : (ss : List Stretch) → IsDistinct bytes_eq (flat_map ids_in ss) → Every (λ s. IsDistinct bytes_eq (ids_in s)) ss
all_distinct [] d = tt
all_distinct (s ∷ ss) d = (distinct_front (ids_in s) (flat_map ids_in ss) d, all_distinct ss (distinct_back (ids_in s) (flat_map ids_in ss) d))

some_weaker : (g : Program) → ((b : CodeBlock) → IsCode g b → IsCounted b) → (x : Piece) → IfSome (code_of x) (IsCode g) → IsCountedPiece x
some_weaker g count (CodePiece b) h = count b h
some_weaker g count (DataPiece b) h = tt
some_weaker g count (Gap bytes) h = tt

pub all_told : (g : Program) → ((b : CodeBlock) → IsCode g b → IsCounted b) → well_made g → Every IsTold g.stretches
all_told g count made =
    every_weaker (λ s. Every IsCountedPiece s.pieces × IsDistinct bytes_eq (ids_in s)) IsTold (λ s h. record { counted = h.0; distinct = h.1 }) g.stretches
    (every_both (λ (s : Stretch). Every IsCountedPiece s.pieces) (λ s. IsDistinct bytes_eq (ids_in s)) g.stretches
    (every_part (λ (s : Stretch). s.pieces) IsCountedPiece g.stretches
    (every_weaker (λ x. IfSome (code_of x) (IsCode g)) IsCountedPiece (some_weaker g count) (flat_map (λ (s : Stretch). s.pieces) g.stretches)
    (every_kept code_of (IsCode g) (flat_map (λ (s : Stretch). s.pieces) g.stretches) made.codes)))
    (all_distinct g.stretches (IsDistinct-from_AllPairs bytes_eq-Decides (flat_map ids_in g.stretches) made.apart)))

pub of_intervals : (P : Stretch → Type 0) (m : Module) (t : Tables) (p : PatchTable) → Every P (program m t p).stretches → Every (λ i. P (stretch m t p i)) (loaded_intervals m)
of_intervals P m t p h =
    every_flat (λ (s : Section). s.intervals) (λ i. P (stretch m t p i)) (loaded_sections m)
    (every_weaker (λ s. Every P (section_stretches m t p s)) (λ (s : Section). Every (λ i. P (stretch m t p i)) s.intervals)
    (λ s k. every_unmap (stretch m t p) P s.intervals (every_front P (map (stretch m t p) s.intervals) (if has_entry m s then map (function_stretch m p) p.functions else []) k)) (loaded_sections m)
    (every_part (section_stretches m t p) P (loaded_sections m) h))

-- ---- from pieces to blocks

pub pieces_back : (P : Piece → Type 0) (m : Module) (t : Tables) (p : PatchTable) (i : Interval) (at : ℕ) (bs : List Block) → Every P (pieces m t p i at bs) → Every (λ b. P (piece m t p i b)) bs
pieces_back P m t p i at [] h = tt
pieces_back P m t p i at (b ∷ bs) h =
    let both = every_back P (gap i at b.offset) (piece m t p i b ∷ pieces m t p i (end_of b) bs) h in
    (both.0, pieces_back P m t p i (end_of b) bs both.1)

counted_block : (m : Module) (t : Tables) (p : PatchTable) (i : Interval) (b : Block) → IsCountedPiece (piece m t p i b) → is_code b ≡ true → IsCounted (code_block m p i b)
counted_block m t p i b h e = let P : Bool → Type 0 = λ x. IsCountedPiece (if x then CodePiece (code_block m p i b) else DataPiece (data_block m t p i b)) in subst P e h

no_id : (bytes : List ℕ) (b : Bool) → flat_map block_id (if b then [] else Gap bytes ∷ []) ≡ []
no_id bytes true = refl
no_id bytes false = refl

its_id : (m : Module) (t : Tables) (p : PatchTable) (i : Interval) (b : Block) (x : Bool) → block_id (if x then CodePiece (code_block m p i b) else DataPiece (data_block m t p i b)) ≡ id_of b ∷ []
its_id m t p i b true = refl
its_id m t p i b false = refl

pub ids_kept : (m : Module) (t : Tables) (p : PatchTable) (i : Interval) (at : ℕ) (bs : List Block) → flat_map block_id (pieces m t p i at bs) ≡ map id_of bs
ids_kept m t p i at [] = no_id (bytes_at i at (i.size - at)) (i.size - at == 0)
ids_kept m t p i at (b ∷ bs) =
    flat_map-append block_id (gap i at b.offset) (piece m t p i b ∷ pieces m t p i (end_of b) bs)
    ∙ (ap (λ l. l ++ (block_id (piece m t p i b) ++ flat_map block_id (pieces m t p i (end_of b) bs))) (no_id (bytes_at i at (b.offset - at)) (b.offset - at == 0))
    ∙ (ap (λ l. l ++ flat_map block_id (pieces m t p i (end_of b) bs)) (its_id m t p i b (is_code b))
    ∙ ap (λ l. id_of b ∷ l) (ids_kept m t p i (end_of b) bs)))

-- ---- all loaded intervals

record IsSound (m : Module) (t : Tables) (p : PatchTable) (i : Interval) : Type 0 where
  apart : overlaps_in i ≡ []
  straight : crooked_in i ≡ []
  bodied : HasNoBare i
  told : IsTold (stretch m t p i)

fit_of : (m : Module) (t : Tables) (p : PatchTable) (i : Interval) (b : Block) → (is_crooked b ≡ false) × (is_bare b ≡ false) → IsCountedPiece (piece m t p i b) → IsFit m p i b
fit_of m t p i b h k = record { straight = h.0; bodied = h.1; counted = counted_block m t p i b k }

known_of : (m : Module) (t : Tables) (p : PatchTable) (i : Interval) → IsSound m t p i → IsKnown m t p i
known_of m t p i h =
    let bs : List Block = in_order i.blocks in
    let plain : Every (λ b. (is_crooked b ≡ false) × (is_bare b ≡ false)) bs =
    each_in_order (λ b. (is_crooked b ≡ false) × (is_bare b ≡ false)) i.blocks
    (every_both (λ b. is_crooked b ≡ false) (λ b. is_bare b ≡ false) i.blocks (none_of_filter is_crooked i.blocks h.straight) (none_of_any is_bare i.blocks h.bodied)) in
    let counted = pieces_back IsCountedPiece m t p i 0 bs h.told.counted in
    record {
      behind = behind_of bs h.apart;
      fit =
          every_weaker (λ b. ((is_crooked b ≡ false) × (is_bare b ≡ false)) × IsCountedPiece (piece m t p i b)) (IsFit m p i) (λ b k. fit_of m t p i b k.0 k.1) bs
          (every_both (λ b. (is_crooked b ≡ false) × (is_bare b ≡ false)) (λ b. IsCountedPiece (piece m t p i b)) bs plain counted);
      distinct = subst (IsDistinct bytes_eq) (ids_kept m t p i 0 bs) h.told.distinct;
    }

sound_all : (m : Module) (t : Tables) (p : PatchTable) (is : List Interval) → Every (λ i. overlaps_in i ≡ []) is → Every (λ i. crooked_in i ≡ []) is → Every HasNoBare is → Every (λ i. IsTold (stretch m t p i)) is → Every (IsKnown m t p) is
sound_all m t p [] apart straight bodied told = tt
sound_all m t p (i ∷ is) apart straight bodied told =
    (known_of m t p i (record { apart = apart.0; straight = straight.0; bodied = bodied.0; told = told.0 }), sound_all m t p is apart.1 straight.1 bodied.1 told.1)

pub all_known : (ir : Ir) (m : Module) (t : Tables) (p : PatchTable) → ((g : Program) (b : CodeBlock) → IsCode g b → IsCounted b) → formed ir m t → well_made (program m t p) → Every (IsKnown m t p) (loaded_intervals m)
all_known ir m t p count h made =
    sound_all m t p (loaded_intervals m)
    (none_of_flat overlaps_in (loaded_intervals m) h.faultless.apart)
    (none_of_flat crooked_in (loaded_intervals m) h.faultless.straight)
    (whole_intervals ir m t h)
    (of_intervals IsTold m t p (all_told (program m t p) (count (program m t p)) made))
