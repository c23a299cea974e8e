-- The code blocks of a program: each is a block of a loaded interval, or of a function of the patches.
use Rattle.std.proofs.Common.{◌≡◌, ℕ, suc, ◌+◌, ◌*◌, ◌⊎◌, inl, inr, Bool, true, false, List, [], ◌∷◌, ◌++◌, length, map, Some, refl, sym, ap, subst, ◌∙◌}
use Rattle.std.specs.Prelude.{◌==◌, ◌-◌, if◌then◌else◌}
use Rattle.std.specs.List.{flat_map}
use Rattle.std.proofs.lemmas.Option.{none-some, same_Some}
use Rattle.gt_model.specs.declared.intervals.Block.{Block}
use Rattle.gt_model.specs.declared.intervals.Interval.{Interval}
use Rattle.gt_model.specs.declared.modules.Module.{Module}
use Rattle.gt_model.specs.declared.modules.Section.{Section}
use Rattle.sym_expr.specs.declared.patches.Function.{Function}
use Rattle.sym_expr.specs.declared.patches.PatchTable.{PatchTable}
use Rattle.sym_expr.specs.declared.patches.PatchWord.{PatchWord}
use Rattle.sym_expr.specs.declared.program.CodeBlock.{CodeBlock}
use Rattle.sym_expr.specs.declared.program.Piece.{Piece}
use Rattle.sym_expr.specs.declared.program.Piece.TheVariants.{Code as CodePiece, Data as DataPiece, Gap}
use Rattle.sym_expr.specs.declared.program.Stretch.{Stretch}
use Rattle.sym_expr.specs.Derived.{derived, function_text, interval_text}
use Rattle.sym_expr.specs.Modules.{bytes_at, end_of, goes_before, in_order, is_code, loaded_intervals, loaded_sections, put_in_order}
use Rattle.sym_expr.specs.Patches.{function_blocks}
use Rattle.sym_expr.specs.Points.{code_blocks, code_of, pieces_of}
use Rattle.sym_expr.specs.Program.{code_block, data_block, function_pieces, function_stretch, gap, has_entry, piece, pieces, program, section_stretches, stretch}
use Rattle.sym_expr.specs.Tables.{Tables}
use Rattle.taken_ids.specs.Identifiers.{block_ids, function_ids, labels, symbol_id}
use Rattle.repaired_images.proofs.Lists.{In, in_back, in_either, in_flat, in_front, in_filter_map, in_map, out_filter_map, out_flat, out_map}

-- ---- blocks in order are those of the file

put_out : (x b : Block) (t : Bool) (cs ds : List Block) → (In x ds → (x ≡ b) ⊎ In x cs) → (c : Block) → In x (if t then c ∷ ds else b ∷ c ∷ cs) → (x ≡ b) ⊎ In x (c ∷ cs)
put_out x b true cs ds f c (inl e) = inr (inl e)
put_out x b true cs ds f c (inr h) = past (f h)
  where
    past : (x ≡ b) ⊎ In x cs → (x ≡ b) ⊎ In x (c ∷ cs)
    past (inl e) = inl e
    past (inr k) = inr (inr k)
put_out x b false cs ds f c (inl e) = inl e
put_out x b false cs ds f c (inr h) = inr h

out_put : (x b : Block) (cs : List Block) → In x (put_in_order b cs) → (x ≡ b) ⊎ In x cs
out_put x b [] h = h
out_put x b (c ∷ cs) h = put_out x b (goes_before c b) cs (put_in_order b cs) (out_put x b cs) c h

pub out_order : (x : Block) (bs : List Block) → In x (in_order bs) → In x bs
out_order x [] h = absurd h
out_order x (b ∷ bs) h = past (out_order x bs) (out_put x b (in_order bs) h)
  where
    past : (In x (in_order bs) → In x bs) → (x ≡ b) ⊎ In x (in_order bs) → (x ≡ b) ⊎ In x bs
    past f (inl e) = inl e
    past f (inr k) = inr (f k)

put_into : (x b : Block) (t : Bool) (cs ds : List Block) → ((x ≡ b) ⊎ In x cs → In x ds) → (c : Block) → (x ≡ b) ⊎ In x (c ∷ cs) → In x (if t then c ∷ ds else b ∷ c ∷ cs)
put_into x b true cs ds f c (inl e) = inr (f (inl e))
put_into x b true cs ds f c (inr (inl e)) = inl e
put_into x b true cs ds f c (inr (inr k)) = inr (f (inr k))
put_into x b false cs ds f c h = h

in_put : (x b : Block) (cs : List Block) → (x ≡ b) ⊎ In x cs → In x (put_in_order b cs)
in_put x b [] h = h
in_put x b (c ∷ cs) h = put_into x b (goes_before c b) cs (put_in_order b cs) (in_put x b cs) c h

pub into_order : (x : Block) (bs : List Block) → In x bs → In x (in_order bs)
into_order x [] h = absurd h
into_order x (b ∷ bs) (inl e) = in_put x b (in_order bs) (inl e)
into_order x (b ∷ bs) (inr k) = in_put x b (in_order bs) (inr (into_order x bs k))

-- ---- code among the pieces of an interval

either_code : (m : Module) (t : Tables) (p : PatchTable) (i : Interval) (b : Block) (c : CodeBlock) (x : Bool) → code_of (if x then CodePiece (code_block m p i b) else DataPiece (data_block m t p i b)) ≡ Some c → (x ≡ true) × (c ≡ code_block m p i b)
either_code m t p i b c true e = (refl, sym (same_Some (code_block m p i b) c e))
either_code m t p i b c false e = absurd (none-some c e)

-- the block of a loaded interval that a code block is
abbrev pub IsOf : Module → PatchTable → Interval → CodeBlock → Block → Type 0
IsOf m p i c b = (is_code b ≡ true) × (c ≡ code_block m p i b)

no_code_gap : (bytes : List ℕ) (x : Bool) (q : Piece) (c : CodeBlock) → In q (if x then [] else Gap bytes ∷ []) → code_of q ≡ Some c → ⊥
no_code_gap bytes true q c h e = h
no_code_gap bytes false q c (inl d) e = none-some c (ap code_of (sym d) ∙ e)
no_code_gap bytes false q c (inr h) e = h

pub piece_of : (m : Module) (t : Tables) (p : PatchTable) (i : Interval) (at : ℕ) (bs : List Block) (q : Piece) (c : CodeBlock) → In q (pieces m t p i at bs) → code_of q ≡ Some c → (b : Block) × In b bs × IsOf m p i c b
piece_of m t p i at [] q c h e = absurd (no_code_gap (bytes_at i at (i.size - at)) (i.size - at == 0) q c h e)
piece_of m t p i at (b ∷ bs) q c h e = from (piece_of m t p i (end_of b) bs q c) (in_either q (gap i at b.offset) (piece m t p i b ∷ pieces m t p i (end_of b) bs) h)
  where
    from : (In q (pieces m t p i (end_of b) bs) → code_of q ≡ Some c → (d : Block) × In d bs × IsOf m p i c d) → In q (gap i at b.offset) ⊎ In q (piece m t p i b ∷ pieces m t p i (end_of b) bs) → (d : Block) × In d (b ∷ bs) × IsOf m p i c d
    from more (inl k) = absurd (no_code_gap (bytes_at i at (b.offset - at)) (b.offset - at == 0) q c k e)
    from more (inr (inl d)) = (b, inl refl, either_code m t p i b c (is_code b) (ap code_of (sym d) ∙ e))
    from more (inr (inr k)) = let rest = more k e in (rest.0, inr rest.1, rest.2)

code_there : (m : Module) (t : Tables) (p : PatchTable) (i : Interval) (b : Block) → is_code b ≡ true → code_of (piece m t p i b) ≡ Some (code_block m p i b)
code_there m t p i b e = ap (λ x. code_of (if x then CodePiece (code_block m p i b) else DataPiece (data_block m t p i b))) e

pub of_piece : (m : Module) (t : Tables) (p : PatchTable) (i : Interval) (at : ℕ) (bs : List Block) (b : Block) → In b bs → In (piece m t p i b) (pieces m t p i at bs)
of_piece m t p i at [] b h = absurd h
of_piece m t p i at (c ∷ bs) b (inl e) = in_back (piece m t p i b) (gap i at c.offset) (piece m t p i c ∷ pieces m t p i (end_of c) bs) (inl (ap (piece m t p i) e))
of_piece m t p i at (c ∷ bs) b (inr h) = in_back (piece m t p i b) (gap i at c.offset) (piece m t p i c ∷ pieces m t p i (end_of c) bs) (inr (of_piece m t p i (end_of c) bs b h))

-- ---- blocks of functions

function_piece : (m : Module) (p : PatchTable) (f : Function) (k at : ℕ) (bs : List (List PatchWord)) (q : Piece) (c : CodeBlock) → In q (function_pieces m p f k at bs) → code_of q ≡ Some c → In c.id (block_ids m.uuid f.name k (length bs))
function_piece m p f k at [] q c h e = absurd h
function_piece m p f k at (b ∷ bs) q c (inl d) e = inl (ap (λ (x : CodeBlock). x.id) (sym (same_Some _ c (ap code_of (sym d) ∙ e))))
function_piece m p f k at (b ∷ bs) q c (inr h) e = inr (function_piece m p f (suc k) (at + 4 * length b) bs q c h e)

pub block_derived : (m : Module) (f : Function) (x : List ℕ) → In x (block_ids m.uuid f.name 0 (length (function_blocks f))) → In x (function_ids m.uuid f)
block_derived m f x h =
    let interval = derived m.uuid (interval_text f.name) in
    let blocks = block_ids m.uuid f.name 0 (length (function_blocks f)) in
    let symbols = symbol_id m.uuid f.name ∷ map (symbol_id m.uuid) (labels f) in
    in_front x ((interval ∷ blocks) ++ symbols) (derived m.uuid (function_text f.name) ∷ []) (in_front x (interval ∷ blocks) symbols (inr h))

-- ---- of a program

-- a block of a loaded interval
pub record HasHome (m : Module) (p : PatchTable) (c : CodeBlock) : Type 0 where
  pub interval : Interval
  pub loaded : In interval (loaded_intervals m)
  pub block : Block
  pub among : In block interval.blocks
  pub code : is_code block ≡ true
  pub is : c ≡ code_block m p interval block

abbrev Comes : Module → PatchTable → CodeBlock → Type 0
Comes m p c = HasHome m p c ⊎ In c.id (flat_map (function_ids m.uuid) p.functions)

from_interval : (m : Module) (t : Tables) (p : PatchTable) (s : Section) (r : Stretch) (q : Piece) (c : CodeBlock) → In s (loaded_sections m) → In r (map (stretch m t p) s.intervals) → In q r.pieces → code_of q ≡ Some c → HasHome m p c
from_interval m t p s r q c loaded h k e =
    let i = out_map (stretch m t p) r s.intervals h in
    let there = subst (λ (x : Stretch). In q x.pieces) i.2 k in
    let b = piece_of m t p i.0 0 (in_order i.0.blocks) q c there e in
    record {
      interval = i.0;
      loaded = in_flat (λ (x : Section). x.intervals) s i.0 (loaded_sections m) loaded i.1;
      block = b.0;
      among = out_order b.0 i.0.blocks b.1;
      code = b.2.0;
      is = b.2.1;
    }

from_function : (m : Module) (p : PatchTable) (x : Bool) (r : Stretch) (q : Piece) (c : CodeBlock) → In r (if x then map (function_stretch m p) p.functions else []) → In q r.pieces → code_of q ≡ Some c → In c.id (flat_map (function_ids m.uuid) p.functions)
from_function m p false r q c h k e = absurd h
from_function m p true r q c h k e =
    let f = out_map (function_stretch m p) r p.functions h in
    let there = subst (λ (x : Stretch). In q x.pieces) f.2 k in
    in_flat (function_ids m.uuid) f.0 c.id p.functions f.1 (block_derived m f.0 c.id (function_piece m p f.0 0 0 (function_blocks f.0) q c there e))

pub comes_from : (m : Module) (t : Tables) (p : PatchTable) (c : CodeBlock) → In c (code_blocks (program m t p)) → HasHome m p c ⊎ In c.id (flat_map (function_ids m.uuid) p.functions)
comes_from m t p c h =
    let q = out_filter_map code_of c (pieces_of (program m t p)) h in
    let r = out_flat (λ (x : Stretch). x.pieces) q.0 (program m t p).stretches q.1 in
    let s = out_flat (section_stretches m t p) r.0 (loaded_sections m) r.1 in
    at s.0 r.0 q.0 s.1 r.2 q.2 (in_either r.0 (map (stretch m t p) s.0.intervals) (if has_entry m s.0 then map (function_stretch m p) p.functions else []) s.2)
  where
    at : (s : Section) (r : Stretch) (q : Piece) → In s (loaded_sections m) → In q r.pieces → code_of q ≡ Some c → In r (map (stretch m t p) s.intervals) ⊎ In r (if has_entry m s then map (function_stretch m p) p.functions else []) → Comes m p c
    at s r q loaded k e (inl a) = inl (from_interval m t p s r q c loaded a k e)
    at s r q loaded k e (inr b) = inr (from_function m p (has_entry m s) r q c b k e)

-- the code blocks of loaded intervals are there
pub goes_there : (m : Module) (t : Tables) (p : PatchTable) (i : Interval) (b : Block) → In i (loaded_intervals m) → In b i.blocks → is_code b ≡ true → In (code_block m p i b) (code_blocks (program m t p))
goes_there m t p i b h k e =
    let s = out_flat (λ (x : Section). x.intervals) i (loaded_sections m) h in
    let own = in_front (stretch m t p i) (map (stretch m t p) s.0.intervals) (if has_entry m s.0 then map (function_stretch m p) p.functions else []) (in_map (stretch m t p) i s.0.intervals s.2) in
    let r = in_flat (section_stretches m t p) s.0 (stretch m t p i) (loaded_sections m) s.1 own in
    let q = in_flat (λ (x : Stretch). x.pieces) (stretch m t p i) (piece m t p i b) (program m t p).stretches r (of_piece m t p i 0 (in_order i.blocks) b (into_order b i.blocks k)) in
    in_filter_map code_of (piece m t p i b) (code_block m p i b) (pieces_of (program m t p)) q (code_there m t p i b e)
