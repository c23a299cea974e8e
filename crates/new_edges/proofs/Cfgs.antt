-- Edges and vertices by the code blocks of a program are those of the module and its patches.
use Rattle.std.proofs.Common.{◌≡◌, ℕ, suc, ◌+◌, ◌*◌, Bool, true, false, List, [], ◌∷◌, ◌++◌, length, map, drop, Option, Some, None, refl, sym, ap, ◌∙◌, append-nil, arith}
use Rattle.std.specs.Prelude.{◌==◌, if◌then◌else◌}
use Rattle.std.specs.List.{flat_map, filter_map}
use Rattle.std.specs.Option.{option_and_then, option_map, option_map_or, option_to_list}
use Rattle.std.proofs.lemmas.Bool.{eqb-true}
use Rattle.std.proofs.lemmas.List.Concat.{flat_map-append}
use Rattle.std.proofs.lemmas.List.Elements.{filter_map-append}
use Rattle.std.proofs.lemmas.List.Folds.{flat_map-map}
use Rattle.aux_tables.specs.ModuleTables.{tables_of}
use Rattle.block_parts.specs.declared.parts.Part.{Part}
use Rattle.block_parts.specs.declared.words.PatchedWord.{PatchedWord}
use Rattle.block_parts.specs.Parts.{part, parts}
use Rattle.block_parts.specs.Words.{numbered, patched_words, words_from}
use Rattle.edge_repair.specs.Edges.{edge_to, end_edges, later_parts, made_cfg, moved_edge, new_edges, new_vertices, next_edge, repaired_cfg, word_edge}
use Rattle.edge_repair.specs.Ends.{End, brought_by, function_ends, last_of, own_blocks, part_end, part_ends}
use Rattle.edge_repair.specs.Jumps.{fallthrough_label, has_row, is_last}
use Rattle.gt_model.specs.declared.edges.Cfg.{Cfg}
use Rattle.gt_model.specs.declared.edges.Edge.{Edge}
use Rattle.gt_model.specs.declared.intervals.Interval.{Interval}
use Rattle.gt_model.specs.declared.modules.Module.{Module}
use Rattle.gt_model.specs.declared.modules.Section.{Section}
use Rattle.new_edges.proofs.FunctionEnds.{function_edges_are, function_ids_are}
use Rattle.new_edges.proofs.OldEdges.{edges_same}
use Rattle.new_edges.specs.Blocks.{patched_block}
use Rattle.new_edges.specs.declared.blocks.PatchedBlock.{PatchedBlock}
use Rattle.new_edges.specs.Functions.{function_edges, function_ids}
use Rattle.new_edges.specs.Parts.{block_edges, later_ids}
use Rattle.new_edges.specs.Whole.{cfg_among, edges_among, old_edges, vertices_among}
use Rattle.rewrite.specs.Exprs.{news_of}
use Rattle.rewrite.specs.Identifiers.{part_id}
use Rattle.sym_expr.specs.declared.patches.Function.{Function}
use Rattle.sym_expr.specs.declared.patches.PatchTable.{PatchTable}
use Rattle.sym_expr.specs.declared.patches.PatchWord.{PatchWord}
use Rattle.sym_expr.specs.declared.program.CodeBlock.{CodeBlock}
use Rattle.sym_expr.specs.declared.program.Piece.{Piece}
use Rattle.sym_expr.specs.declared.program.Program.{Program}
use Rattle.sym_expr.specs.declared.program.Stretch.{Stretch}
use Rattle.sym_expr.specs.declared.program.Word.{Word}
use Rattle.sym_expr.specs.Modules.{intervals_of, loaded_intervals, loaded_sections}
use Rattle.sym_expr.specs.Patches.{function_blocks}
use Rattle.sym_expr.specs.Points.{code_blocks, code_of}
use Rattle.sym_expr.specs.Program.{function_pieces, function_stretch, has_entry, program, section_stretches, stretch}
use Rattle.sym_expr.specs.TableOk.{block_ids}
use Rattle.sym_expr.specs.Tables.{Tables}

-- ---- lists

pub flat_twice : {X Y Z : Type 0} (f : X → List Y) (g : Y → List Z) (xs : List X) → flat_map g (flat_map f xs) ≡ flat_map (λ x. flat_map g (f x)) xs
flat_twice f g [] = refl
flat_twice f g (x ∷ xs) = flat_map-append g (f x) (flat_map f xs) ∙ ap (λ l. flat_map g (f x) ++ l) (flat_twice f g xs)

pub flat_same : {X Y : Type 0} (f g : X → List Y) → ((x : X) → f x ≡ g x) → (xs : List X) → flat_map f xs ≡ flat_map g xs
flat_same f g h [] = refl
flat_same f g h (x ∷ xs) = ap (λ l. l ++ flat_map f xs) (h x) ∙ ap (λ l. g x ++ l) (flat_same f g h xs)

-- ---- blocks in which nothing is inserted

-- such a block is one part
abbrev OnePart : Type 0
OnePart = (b : CodeBlock) → b.inserted ≡ [] → parts b ≡ part 0 (patched_words b) ∷ []

own_last : (news : List PatchWord) (offset : ℕ) (ws : List Word) → option_and_then (λ (w : PatchedWord). brought_by news w.origin) (last_of (words_from [] offset ws)) ≡ None
own_last news offset [] = refl
own_last news offset (w ∷ []) = refl
own_last news offset (w ∷ v ∷ ws) = own_last news (offset + 4) (v ∷ ws)

none_brought : (news : List PatchWord) (b : CodeBlock) → b.inserted ≡ [] → option_and_then (λ (w : PatchedWord). brought_by news w.origin) (last_of (patched_words b)) ≡ None
none_brought news b none = ap (λ ins. option_and_then (λ (w : PatchedWord). brought_by news w.origin) (last_of (words_from (numbered 0 ins) 0 b.own))) none ∙ own_last news 0 b.own

nothing_next : (e : End) (x : Bool) → e.next ≡ None → (if x then None else option_map (edge_to e fallthrough_label) e.next) ≡ None
nothing_next e true h = refl
nothing_next e false h = ap (option_map (edge_to e fallthrough_label)) h

no_edges : (m : Module) (p : PatchTable) (e : End) → e.brought ≡ None → e.next ≡ None → end_edges m p e ≡ []
no_edges m p e h k =
    ap (λ o. option_to_list (option_and_then (word_edge m p e) o) ++ option_to_list (next_edge e)) h
    ∙ ap option_to_list (nothing_next e (option_map_or (has_row is_last) e.word false) k)

abbrev edges_from : Module → PatchTable → CodeBlock → List Edge
edges_from m p b = flat_map (end_edges m p) (part_ends m p b.id (parts b))

quiet_edges : (m : Module) (p : PatchTable) → OnePart → (b : CodeBlock) → b.inserted ≡ [] → edges_from m p b ≡ []
quiet_edges m p one b none =
    ap (λ qs. flat_map (end_edges m p) (part_ends m p b.id qs)) (one b none)
    ∙ ap (λ l. l ++ []) (no_edges m p (part_end m p b.id (part 0 (patched_words b)) None) (none_brought (news_of p b.id) b none) refl)

quiet_vertices : (m : Module) → OnePart → (b : CodeBlock) → b.inserted ≡ [] → later_parts m b ≡ []
quiet_vertices m one b none = ap (λ qs. map (part_id m b.id) (drop 1 qs)) (one b none)

-- ---- one block

empty_is : {A : Type 0} (xs : List A) → length xs ≡ 0 → xs ≡ []
empty_is [] h = refl
empty_is (x ∷ xs) h = absurd (omega (arith, h))

edges_by : (m : Module) (p : PatchTable) → OnePart → (b : CodeBlock) (t : Bool) → (length b.inserted == 0) ≡ t → flat_map (end_edges m p) (part_ends m p b.id (if t then [] else parts b)) ≡ edges_from m p b
edges_by m p one b true h = sym (quiet_edges m p one b (empty_is b.inserted (eqb-true (length b.inserted) 0 h)))
edges_by m p one b false h = refl

later_by : (m : Module) → OnePart → (b : CodeBlock) (t : Bool) → (length b.inserted == 0) ≡ t → map (part_id m b.id) (drop 1 (if t then [] else parts b)) ≡ later_parts m b
later_by m one b true h = sym (quiet_vertices m one b (empty_is b.inserted (eqb-true (length b.inserted) 0 h)))
later_by m one b false h = refl

-- ---- what the code blocks of a program have, where function blocks have nothing

abbrev Quiet : {A : Type 0} → (CodeBlock → List A) → Type 0
Quiet f = (b : CodeBlock) → b.inserted ≡ [] → f b ≡ []

abbrev in_stretch : {A : Type 0} → (CodeBlock → List A) → Stretch → List A
in_stretch f s = flat_map f (filter_map code_of s.pieces)

abbrev pieces : Stretch → List Piece
pieces s = s.pieces

by_stretch : {A : Type 0} (f : CodeBlock → List A) (ss : List Stretch) → flat_map f (filter_map code_of (flat_map pieces ss)) ≡ flat_map (in_stretch f) ss
by_stretch f [] = refl
by_stretch f (s ∷ ss) =
    ap (flat_map f) (filter_map-append code_of s.pieces (flat_map pieces ss))
    ∙ flat_map-append f (filter_map code_of s.pieces) (filter_map code_of (flat_map pieces ss))
    ∙ ap (λ l. in_stretch f s ++ l) (by_stretch f ss)

quiet_pieces : {A : Type 0} (f : CodeBlock → List A) → Quiet f → (m : Module) (p : PatchTable) (fun : Function) (k at : ℕ) (bs : List (List PatchWord)) → flat_map f (filter_map code_of (function_pieces m p fun k at bs)) ≡ []
quiet_pieces f quiet m p fun k at [] = refl
quiet_pieces f quiet m p fun k at (words ∷ rest) =
    ap (λ l. l ++ flat_map f (filter_map code_of (function_pieces m p fun (suc k) (at + 4 * length words) rest))) (quiet _ refl)
    ∙ quiet_pieces f quiet m p fun (suc k) (at + 4 * length words) rest

quiet_functions : {A : Type 0} (f : CodeBlock → List A) → Quiet f → (m : Module) (p : PatchTable) (fs : List Function) → flat_map (in_stretch f) (map (function_stretch m p) fs) ≡ []
quiet_functions f quiet m p [] = refl
quiet_functions f quiet m p (fun ∷ fs) =
    ap (λ l. l ++ flat_map (in_stretch f) (map (function_stretch m p) fs)) (quiet_pieces f quiet m p fun 0 0 (function_blocks fun))
    ∙ quiet_functions f quiet m p fs

quiet_either : {A : Type 0} (f : CodeBlock → List A) → Quiet f → (m : Module) (p : PatchTable) (t : Bool) → flat_map (in_stretch f) (if t then map (function_stretch m p) p.functions else []) ≡ []
quiet_either f quiet m p true = quiet_functions f quiet m p p.functions
quiet_either f quiet m p false = refl

abbrev in_interval : {A : Type 0} → (CodeBlock → List A) → Module → Tables → PatchTable → Interval → List A
in_interval f m t p i = in_stretch f (stretch m t p i)

one_section : {A : Type 0} (f : CodeBlock → List A) → Quiet f → (m : Module) (t : Tables) (p : PatchTable) (s : Section) → flat_map (in_stretch f) (section_stretches m t p s) ≡ flat_map (in_interval f m t p) s.intervals
one_section f quiet m t p s =
    let functions : List Stretch = if has_entry m s then map (function_stretch m p) p.functions else [] in
    flat_map-append (in_stretch f) (map (stretch m t p) s.intervals) functions
    ∙ ap (λ l. flat_map (in_stretch f) (map (stretch m t p) s.intervals) ++ l) (quiet_either f quiet m p (has_entry m s))
    ∙ append-nil (flat_map (in_stretch f) (map (stretch m t p) s.intervals))
    ∙ flat_map-map (in_stretch f) (stretch m t p) s.intervals

by_section : {A : Type 0} (f : CodeBlock → List A) → Quiet f → (m : Module) (t : Tables) (p : PatchTable) (ss : List Section) → flat_map (in_stretch f) (flat_map (section_stretches m t p) ss) ≡ flat_map (in_interval f m t p) (intervals_of ss)
by_section f quiet m t p [] = refl
by_section f quiet m t p (s ∷ ss) =
    flat_map-append (in_stretch f) (section_stretches m t p s) (flat_map (section_stretches m t p) ss)
    ∙ ap (λ l. l ++ flat_map (in_stretch f) (flat_map (section_stretches m t p) ss)) (one_section f quiet m t p s)
    ∙ ap (λ l. flat_map (in_interval f m t p) s.intervals ++ l) (by_section f quiet m t p ss)
    ∙ sym (flat_map-append (in_interval f m t p) s.intervals (intervals_of ss))

-- those of the module's own blocks
own_only : {A : Type 0} (f : CodeBlock → List A) → Quiet f → (m : Module) (t : Tables) (p : PatchTable) → flat_map f (code_blocks (program m t p)) ≡ flat_map f (own_blocks m t p)
own_only f quiet m t p =
    by_stretch f (flat_map (section_stretches m t p) (loaded_sections m))
    ∙ by_section f quiet m t p (loaded_sections m)
    ∙ sym (flat_twice (λ (i : Interval). filter_map code_of (stretch m t p i).pieces) f (loaded_intervals m))

-- ---- the whole

edges_are : (m : Module) (t : Tables) (p : PatchTable) → OnePart → edges_among m p (map patched_block (code_blocks (program m t p))) ≡ new_edges m t p
edges_are m t p one =
    let code = code_blocks (program m t p) in
    let own = own_blocks m t p in
    let of_block = λ (b : CodeBlock). part_ends m p b.id (parts b) in
    let of_function = λ (f : Function). function_ends m f 0 (function_blocks f) in
    let functions = flat_map (function_edges m p) p.functions in
    ap (λ l. l ++ functions)
    (flat_map-map (block_edges m p) patched_block code
    ∙ flat_same (λ (b : CodeBlock). block_edges m p (patched_block b)) (edges_from m p) (λ b. edges_by m p one b (length b.inserted == 0) refl) code
    ∙ own_only (edges_from m p) (quiet_edges m p one) m t p)
    ∙ ap (λ l. flat_map (edges_from m p) own ++ l) (flat_same (function_edges m p) (λ f. flat_map (end_edges m p) (of_function f)) (function_edges_are m p) p.functions)
    ∙ ap (λ l. l ++ flat_map (λ f. flat_map (end_edges m p) (of_function f)) p.functions) (sym (flat_twice of_block (end_edges m p) own))
    ∙ ap (λ l. flat_map (end_edges m p) (flat_map of_block own) ++ l) (sym (flat_twice of_function (end_edges m p) p.functions))
    ∙ sym (flat_map-append (end_edges m p) (flat_map of_block own) (flat_map of_function p.functions))

vertices_are : (m : Module) (t : Tables) (p : PatchTable) → OnePart → vertices_among m p (map patched_block (code_blocks (program m t p))) ≡ new_vertices m t p
vertices_are m t p one =
    let code = code_blocks (program m t p) in
    let own = own_blocks m t p in
    ap (λ l. l ++ flat_map (function_ids m p) p.functions)
    (flat_map-map (later_ids m) patched_block code
    ∙ flat_same (λ (b : CodeBlock). later_ids m (patched_block b)) (later_parts m) (λ b. later_by m one b (length b.inserted == 0) refl) code
    ∙ own_only (later_parts m) (quiet_vertices m one) m t p)
    ∙ ap (λ l. flat_map (later_parts m) own ++ l) (flat_same (function_ids m p) (λ f. block_ids m f 0 (function_blocks f)) (function_ids_are m p) p.functions)

abbrev cfg_with : List Edge → List (List ℕ) → Cfg
cfg_with edges vertices = record { edges = edges; vertices = vertices }

pub cfg_is : (m : Module) (t : Tables) (p : PatchTable) → OnePart → (old : Option Cfg) → cfg_among m p (map patched_block (code_blocks (program m t p))) old ≡ repaired_cfg m t p old
cfg_is m t p one None =
    let blocks = map patched_block (code_blocks (program m t p)) in
    ap (λ es. made_cfg es (vertices_among m p blocks)) (edges_are m t p one) ∙ ap (made_cfg (new_edges m t p)) (vertices_are m t p one)
cfg_is m t p one (Some c) =
    let g = program m t p in
    let blocks = map patched_block (code_blocks g) in
    ap (λ es. Some (cfg_with (es ++ edges_among m p blocks) (c.vertices ++ vertices_among m p blocks))) (edges_same m g c.edges)
    ∙ ap (λ es. Some (cfg_with (filter_map (moved_edge m g) c.edges ++ es) (c.vertices ++ vertices_among m p blocks))) (edges_are m t p one)
    ∙ ap (λ vs. Some (cfg_with (filter_map (moved_edge m g) c.edges ++ new_edges m t p) (c.vertices ++ vs))) (vertices_are m t p one)

-- the same of a module and patches that a context has
pub cfg_of_context : (m other : Module) (p patches : PatchTable) (blocks : List PatchedBlock) (g : Program) (old cfg : Option Cfg) → OnePart
    → other ≡ m → patches ≡ p → blocks ≡ map patched_block (code_blocks g) → g ≡ program m (tables_of m) p → cfg ≡ old → cfg_among other patches blocks cfg ≡ repaired_cfg m (tables_of m) p old
cfg_of_context m other p patches blocks g old cfg one same given listed whole was =
    ap (λ x. cfg_among x patches blocks cfg) same
    ∙ ap (λ x. cfg_among m x blocks cfg) given
    ∙ ap (λ x. cfg_among m p x cfg) (listed ∙ ap (λ (x : Program). map patched_block (code_blocks x)) whole)
    ∙ ap (cfg_among m p (map patched_block (code_blocks (program m (tables_of m) p)))) was
    ∙ cfg_is m (tables_of m) p one old
