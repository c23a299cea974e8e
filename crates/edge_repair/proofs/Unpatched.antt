-- Without patches edges and vertices stay.
use Rattle.std.proofs.Common.{◌≡◌, Bool, true, false, List, [], ◌∷◌, ◌++◌, Option, Some, None, length, refl, ap, ◌∙◌}
use Rattle.std.specs.Prelude.{find, drop, ◌==◌, map, if◌then◌else◌}
use Rattle.std.specs.List.{AllByRecursion as Every, cons_option, flat_map, filter_map}
use Rattle.std.specs.Option.{option_and_then, option_map, option_map_or, option_to_list}
use Rattle.std.specs.Str.{bytes_eq}
use Rattle.std.proofs.lemmas.List.{append-nil}
use Rattle.std.proofs.lemmas.List.Concat.{flat_map-append}
use Rattle.block_parts.proofs.Cuts.{whole}
use Rattle.block_parts.specs.declared.words.Origin.{Origin}
use Rattle.block_parts.specs.declared.words.Origin.TheVariants.{Own, Inserted}
use Rattle.block_parts.specs.declared.words.PatchedWord.{PatchedWord}
use Rattle.block_parts.specs.Parts.{part, parts}
use Rattle.block_parts.specs.Words.{patched_words}
use Rattle.edge_repair.specs.Edges.{end_edges, later_parts, made_cfg, moved_edge, new_edges, new_vertices, next_edge, repaired_cfg, split_edge, word_edge, edge_to}
use Rattle.edge_repair.specs.Ends.{End, brought_by, last_of, own_blocks, part_end, part_ends}
use Rattle.edge_repair.specs.Jumps.{fallthrough_label, has_row, is_last}
use Rattle.gt_model.specs.declared.edges.Cfg.{Cfg}
use Rattle.gt_model.specs.declared.edges.Edge.{Edge}
use Rattle.gt_model.specs.declared.intervals.Interval.{Interval}
use Rattle.gt_model.specs.declared.modules.Module.{Module}
use Rattle.rewrite.specs.Identifiers.{part_id}
use Rattle.rewrite.proofs.Unpatched.{all_quiet, stretch_quiet}
use Rattle.sym_expr.specs.declared.program.CodeBlock.{CodeBlock}
use Rattle.sym_expr.specs.Modules.{loaded_intervals}
use Rattle.sym_expr.specs.Patches.{no_patches}
use Rattle.sym_expr.specs.Points.{code_at, code_blocks, code_of}
use Rattle.sym_expr.specs.Program.{program, stretch}
use Rattle.sym_expr.specs.Tables.{Tables}
use Rattle.sym_expr.proofs.Lists.{every_all, every_filter_map, every_flat, found_one}

-- ---- lists

none_of_each : {X Y : Type 0} (f : X → List Y) (xs : List X) → Every (λ x. f x ≡ []) xs → flat_map f xs ≡ []
none_of_each f [] h = refl
none_of_each f (x ∷ xs) h = ap (λ l. l ++ flat_map f xs) h.0 ∙ none_of_each f xs h.1

every_after : {X : Type 0} (P Q : X → Type 0) → ((x : X) → P x → Q x) → (xs : List X) → Every P xs → Every Q xs
every_after P Q f [] h = tt
every_after P Q f (x ∷ xs) h = (f x h.0, every_after P Q f xs h.1)

all_kept : {X : Type 0} (f : X → Option X) → ((x : X) → f x ≡ Some x) → (xs : List X) → filter_map f xs ≡ xs
all_kept f h [] = refl
all_kept f h (x ∷ xs) = ap (λ o. cons_option o (filter_map f xs)) (h x) ∙ ap (λ l. x ∷ l) (all_kept f h xs)

-- ---- blocks in which nothing is inserted

abbrev IsQuietBlock : CodeBlock → Type 0
IsQuietBlock b = b.inserted ≡ []

own_quiet : (m : Module) (t : Tables) → Every IsQuietBlock (own_blocks m t no_patches)
own_quiet m t =
    every_flat (λ (i : Interval). filter_map code_of (stretch m t no_patches i).pieces) IsQuietBlock (loaded_intervals m)
    (every_all (λ i. Every IsQuietBlock (filter_map code_of (stretch m t no_patches i).pieces))
    (λ i. every_filter_map code_of IsQuietBlock (stretch m t no_patches i).pieces (stretch_quiet m t i)) (loaded_intervals m))

never_brought : (o : Origin) → brought_by [] o ≡ None
never_brought (Own offset) = refl
never_brought (Inserted k) = refl

none_brought : (x : Option PatchedWord) → option_and_then (λ (w : PatchedWord). brought_by [] w.origin) x ≡ None
none_brought None = refl
none_brought (Some w) = never_brought w.origin

nothing_next : (e : End) (x : Bool) → e.next ≡ None → (if x then None else option_map (edge_to e fallthrough_label) e.next) ≡ None
nothing_next e true h = refl
nothing_next e false h = ap (option_map (edge_to e fallthrough_label)) h

no_edges : (m : Module) (e : End) → e.brought ≡ None → e.next ≡ None → end_edges m no_patches e ≡ []
no_edges m e h k =
    ap (λ o. option_to_list (option_and_then (word_edge m no_patches e) o) ++ option_to_list (next_edge e)) h
    ∙ ap option_to_list (nothing_next e (option_map_or (has_row is_last) e.word false) k)

quiet_edges : (m : Module) (b : CodeBlock) → IsQuietBlock b → flat_map (end_edges m no_patches) (part_ends m no_patches b.id (parts b)) ≡ []
quiet_edges m b none =
    ap (λ qs. flat_map (end_edges m no_patches) (part_ends m no_patches b.id qs)) (whole b none)
    ∙ ap (λ l. l ++ []) (no_edges m (part_end m no_patches b.id (part 0 (patched_words b)) None) (none_brought (last_of (patched_words b))) refl)

pub quiet_vertices : (m : Module) (b : CodeBlock) → IsQuietBlock b → later_parts m b ≡ []
quiet_vertices m b none = ap (λ qs. map (part_id m b.id) (drop 1 qs)) (whole b none)

-- ---- the whole

flat_joined : {X Y Z : Type 0} (f : X → List Y) (g : Y → List Z) (xs : List X) → Every (λ x. flat_map g (f x) ≡ []) xs → flat_map g (flat_map f xs) ≡ []
flat_joined f g [] h = refl
flat_joined f g (x ∷ xs) h = flat_map-append g (f x) (flat_map f xs) ∙ ap (λ l. l ++ flat_map g (flat_map f xs)) h.0 ∙ flat_joined f g xs h.1

flat_twice : {X Y Z : Type 0} (f : X → List Y) (g : Y → List Z) (xs : List X) → Every (λ x. flat_map g (f x) ≡ []) xs → flat_map g (flat_map f xs ++ []) ≡ []
flat_twice f g xs h = ap (flat_map g) (append-nil (flat_map f xs)) ∙ flat_joined f g xs h

none_new : (m : Module) (t : Tables) → new_edges m t no_patches ≡ []
none_new m t =
    flat_twice (λ (b : CodeBlock). part_ends m no_patches b.id (parts b)) (end_edges m no_patches) (own_blocks m t no_patches)
    (every_after IsQuietBlock (λ b. flat_map (end_edges m no_patches) (part_ends m no_patches b.id (parts b)) ≡ []) (quiet_edges m) (own_blocks m t no_patches) (own_quiet m t))

no_vertices : (m : Module) (t : Tables) → new_vertices m t no_patches ≡ []
no_vertices m t =
    append-nil (flat_map (later_parts m) (own_blocks m t no_patches))
    ∙ none_of_each (later_parts m) (own_blocks m t no_patches) (every_after IsQuietBlock (λ b. later_parts m b ≡ []) (quiet_vertices m) (own_blocks m t no_patches) (own_quiet m t))

found_stays : (m : Module) (e : Edge) (bs : List CodeBlock) (o : Option CodeBlock) → Every IsQuietBlock bs → find (λ (b : CodeBlock). bytes_eq b.id e.source) bs ≡ o
    → option_map_or (λ (b : CodeBlock). if length b.inserted == 0 then Some e else split_edge m b e) o (Some e) ≡ Some e
found_stays m e bs None h k = refl
found_stays m e bs (Some b) h k =
    let it = found_one (λ (b : CodeBlock). bytes_eq b.id e.source) IsQuietBlock bs b h k in
    ap (λ l. if length l == 0 then Some e else split_edge m b e) it.1

edge_stays : (m : Module) (t : Tables) (e : Edge) → moved_edge m (program m t no_patches) e ≡ Some e
edge_stays m t e = found_stays m e (code_blocks (program m t no_patches)) (code_at (program m t no_patches) e.source) (all_quiet m t) refl

pub edges_stay : (m : Module) (t : Tables) (cfg : Option Cfg) → repaired_cfg m t no_patches cfg ≡ cfg
edges_stay m t None = ap (λ es. made_cfg es (new_vertices m t no_patches)) (none_new m t)
edges_stay m t (Some c) =
    ap (λ es. Some (record { edges = filter_map (moved_edge m (program m t no_patches)) c.edges ++ es; vertices = c.vertices ++ new_vertices m t no_patches })) (none_new m t)
    ∙ ap (λ vs. Some (record { edges = filter_map (moved_edge m (program m t no_patches)) c.edges ++ []; vertices = c.vertices ++ vs })) (no_vertices m t)
    ∙ ap (λ es. Some (record { edges = es; vertices = c.vertices ++ [] })) (append-nil (filter_map (moved_edge m (program m t no_patches)) c.edges) ∙ all_kept (moved_edge m (program m t no_patches)) (edge_stays m t) c.edges)
    ∙ ap (λ vs. Some (record { edges = c.edges; vertices = vs })) (append-nil c.vertices)
