-- How often identifiers of later parts stand among those that are derived.
use Rattle.std.proofs.Common.{◌≡◌, ℕ, ◌+◌, ◌-◌, ◌≤◌, Bool, true, false, List, [], ◌∷◌, ◌++◌, map, Option, Some, None, refl, ap, ◌∙◌, arith}
use Rattle.std.specs.Prelude.{◌==◌, if◌then◌else◌}
use Rattle.std.specs.List.{cons_option, flat_map, filter_map}
use Rattle.std.specs.Option.{option_map_or}
use Rattle.std.proofs.lemmas.List.Concat.{flat_map-append}
use Rattle.gt_model.specs.declared.intervals.Block.{Block}
use Rattle.gt_model.specs.declared.intervals.Interval.{Interval}
use Rattle.gt_model.specs.declared.modules.Module.{Module}
use Rattle.gt_model.specs.declared.modules.Section.{Section}
use Rattle.sym_expr.specs.declared.patches.PatchTable.{PatchTable}
use Rattle.sym_expr.specs.declared.program.CodeBlock.{CodeBlock}
use Rattle.sym_expr.specs.declared.program.Piece.{Piece}
use Rattle.sym_expr.specs.declared.program.Piece.TheVariants.{Code as CodePiece, Data as DataPiece, Gap}
use Rattle.sym_expr.specs.declared.program.Stretch.{Stretch}
use Rattle.sym_expr.specs.Modules.{bytes_at, end_of, goes_before, in_order, is_code, loaded_sections, put_in_order}
use Rattle.sym_expr.specs.Points.{code_blocks, code_of, pieces_of}
use Rattle.sym_expr.specs.Program.{code_block, data_block, function_stretch, gap, has_entry, piece, pieces, program, section_stretches, stretch}
use Rattle.sym_expr.specs.Tables.{Tables}
use Rattle.taken_ids.specs.Identifiers.{part_ids}
use Rattle.rewritten_links.proofs.Counts.{flat_less, times, times_append}

flat_flat : {X Y Z : Type 0} (f : X → List Y) (g : Y → List Z) (xs : List X) → flat_map g (flat_map f xs) ≡ flat_map (λ x. flat_map g (f x)) xs
flat_flat f g [] = refl
flat_flat f g (x ∷ xs) = flat_map-append g (f x) (flat_map f xs) ∙ ap (λ l. flat_map g (f x) ++ l) (flat_flat f g xs)

flat_of_map : {X Y Z : Type 0} (f : X → Y) (g : Y → List Z) (xs : List X) → flat_map g (map f xs) ≡ flat_map (λ x. g (f x)) xs
flat_of_map f g [] = refl
flat_of_map f g (x ∷ xs) = ap (λ l. g (f x) ++ l) (flat_of_map f g xs)

-- ---- of blocks, and of a piece

-- the identifiers of the later parts of a block, if it is code
abbrev pub later_of : Module → PatchTable → Interval → Block → List (List ℕ)
later_of m p i b = if is_code b then part_ids m.uuid (code_block m p i b) else []

abbrev pub later_in : Module → PatchTable → Interval → List (List ℕ)
later_in m p i = flat_map (later_of m p i) i.blocks

abbrev pub later_in_section : Module → PatchTable → Section → List (List ℕ)
later_in_section m p s = flat_map (later_in m p) s.intervals

abbrev piece_later : Module → Piece → List (List ℕ)
piece_later m q = option_map_or (part_ids m.uuid) (code_of q) []

abbrev stretch_later : Module → Stretch → List (List ℕ)
stretch_later m s = flat_map (piece_later m) s.pieces

kept_one : (m : Module) (o : Option CodeBlock) (rest : List CodeBlock) → flat_map (part_ids m.uuid) (cons_option o rest) ≡ option_map_or (part_ids m.uuid) o [] ++ flat_map (part_ids m.uuid) rest
kept_one m None rest = refl
kept_one m (Some b) rest = refl

of_pieces : (m : Module) (qs : List Piece) → flat_map (part_ids m.uuid) (filter_map code_of qs) ≡ flat_map (piece_later m) qs
of_pieces m [] = refl
of_pieces m (q ∷ qs) = kept_one m (code_of q) (filter_map code_of qs) ∙ ap (λ l. piece_later m q ++ l) (of_pieces m qs)

-- ---- of an interval

gap_later : (m : Module) (bytes : List ℕ) (x : Bool) → flat_map (piece_later m) (if x then [] else Gap bytes ∷ []) ≡ []
gap_later m bytes true = refl
gap_later m bytes false = refl

either_later : (m : Module) (t : Tables) (p : PatchTable) (i : Interval) (b : Block) (x : Bool) → piece_later m (if x then CodePiece (code_block m p i b) else DataPiece (data_block m t p i b)) ≡ (if x then part_ids m.uuid (code_block m p i b) else [])
either_later m t p i b true = refl
either_later m t p i b false = refl

pieces_later : (m : Module) (t : Tables) (p : PatchTable) (i : Interval) (at : ℕ) (bs : List Block) → flat_map (piece_later m) (pieces m t p i at bs) ≡ flat_map (later_of m p i) bs
pieces_later m t p i at [] = gap_later m (bytes_at i at (i.size - at)) (i.size - at == 0)
pieces_later m t p i at (b ∷ bs) =
    flat_map-append (piece_later m) (gap i at b.offset) (piece m t p i b ∷ pieces m t p i (end_of b) bs)
    ∙ ap (λ l. l ++ flat_map (piece_later m) (piece m t p i b ∷ pieces m t p i (end_of b) bs)) (gap_later m (bytes_at i at (b.offset - at)) (b.offset - at == 0))
    ∙ ap (λ l. l ++ flat_map (piece_later m) (pieces m t p i (end_of b) bs)) (either_later m t p i b (is_code b))
    ∙ ap (λ l. later_of m p i b ++ l) (pieces_later m t p i (end_of b) bs)

put_either : (id : List ℕ) (f : Block → List (List ℕ)) (b c : Block) (x : Bool) (bs cs : List Block) → times id (flat_map f bs) ≡ times id (f b) + times id (flat_map f cs)
    → times id (flat_map f (if x then c ∷ bs else b ∷ c ∷ cs)) ≡ times id (f b) + times id (flat_map f (c ∷ cs))
put_either id f b c true bs cs h =
    let first = times_append id (f c) (flat_map f bs) in
    let all = times_append id (f c) (flat_map f cs) in
    omega (arith, first, all, h)
put_either id f b c false bs cs h = times_append id (f b) (flat_map f (c ∷ cs))

put_times : (id : List ℕ) (f : Block → List (List ℕ)) (b : Block) (cs : List Block) → times id (flat_map f (put_in_order b cs)) ≡ times id (f b) + times id (flat_map f cs)
put_times id f b [] = times_append id (f b) []
put_times id f b (c ∷ cs) = put_either id f b c (goes_before c b) (put_in_order b cs) cs (put_times id f b cs)

times_in_order : (id : List ℕ) (f : Block → List (List ℕ)) (bs : List Block) → times id (flat_map f (in_order bs)) ≡ times id (flat_map f bs)
times_in_order id f [] = refl
times_in_order id f (b ∷ bs) =
    let here = put_times id f b (in_order bs) in
    let rest = times_in_order id f bs in
    let all = times_append id (f b) (flat_map f bs) in
    omega (arith, here, rest, all)

interval_later : (id : List ℕ) (m : Module) (t : Tables) (p : PatchTable) (i : Interval) → times id (stretch_later m (stretch m t p i)) ≡ times id (later_in m p i)
interval_later id m t p i = ap (times id) (pieces_later m t p i 0 (in_order i.blocks)) ∙ times_in_order id (later_of m p i) i.blocks

section_later : (id : List ℕ) (m : Module) (t : Tables) (p : PatchTable) (s : Section) → times id (later_in_section m p s) ≤ times id (flat_map (stretch_later m) (section_stretches m t p s))
section_later id m t p s =
    let extra : List Stretch = if has_entry m s then map (function_stretch m p) p.functions else [] in
    let both = ap (times id) (flat_map-append (stretch_later m) (map (stretch m t p) s.intervals) extra) ∙ times_append id (flat_map (stretch_later m) (map (stretch m t p) s.intervals)) (flat_map (stretch_later m) extra) in
    let own = ap (times id) (flat_of_map (stretch m t p) (stretch_later m) s.intervals) in
    let less = flat_less id (later_in m p) (λ (i : Interval). stretch_later m (stretch m t p i)) s.intervals (λ i h. let same = interval_later id m t p i in omega (arith, same)) in
    omega (arith, both, own, less)

-- the later parts of all blocks of loaded sections are derived
pub later_derived : (id : List ℕ) (m : Module) (t : Tables) (p : PatchTable) → times id (flat_map (later_in_section m p) (loaded_sections m)) ≤ times id (flat_map (part_ids m.uuid) (code_blocks (program m t p)))
later_derived id m t p =
    let all : flat_map (part_ids m.uuid) (code_blocks (program m t p)) ≡ flat_map (λ (s : Section). flat_map (stretch_later m) (section_stretches m t p s)) (loaded_sections m) =
    of_pieces m (pieces_of (program m t p)) ∙ flat_flat (λ (s : Stretch). s.pieces) (piece_later m) (program m t p).stretches ∙ flat_flat (section_stretches m t p) (stretch_later m) (loaded_sections m) in
    let same = ap (times id) all in
    let less = flat_less id (later_in_section m p) (λ (s : Section). flat_map (stretch_later m) (section_stretches m t p s)) (loaded_sections m) (λ s h. section_later id m t p s) in
    omega (arith, same, less)
