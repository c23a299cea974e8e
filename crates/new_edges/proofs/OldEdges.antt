-- Old edges leave patched blocks as they leave the blocks of a program.
use Rattle.std.proofs.Common.{◌≡◌, ℕ, ◌+◌, ◌*◌, ◌-◌, Bool, true, false, cond, List, [], ◌∷◌, length, map, Option, Some, None, refl, sym, ap, ◌∙◌}
use Rattle.std.specs.Prelude.{◌==◌, ◌||◌, find, if◌then◌else◌, is_some}
use Rattle.std.specs.List.{cons_option, filter_map, list_any}
use Rattle.std.specs.Option.{option_and_then, option_map, option_map_or}
use Rattle.std.specs.Str.{bytes_eq}
use Rattle.block_parts.specs.declared.parts.Part.{Part}
use Rattle.block_parts.specs.declared.words.PatchedWord.{PatchedWord}
use Rattle.block_parts.specs.Parts.{cut_words, is_cut, part, parts, parts_from, put_first}
use Rattle.block_parts.specs.Words.{patched_words}
use Rattle.edge_repair.specs.Edges.{edge_from, has_last, is_fallthrough, leaving_part, moved_edge, never_goes_on, split_edge}
use Rattle.edge_repair.specs.Ends.{last_of}
use Rattle.gt_model.specs.declared.edges.Edge.{Edge}
use Rattle.gt_model.specs.declared.modules.Module.{Module}
use Rattle.new_edges.proofs.Keys.{map_cond, value_at-cons}
use Rattle.new_edges.specs.Blocks.{patched_block}
use Rattle.new_edges.specs.declared.blocks.PatchedBlock.{PatchedBlock}
use Rattle.new_edges.specs.declared.leaving.Leaving.{Leaving}
use Rattle.new_edges.specs.Keyed.{value_at}
use Rattle.new_edges.specs.Leaving.{edge_left, edge_moved, from_block, has_own, jumping_start, leaving_entry, leaving_from, leaving_of, stops_behind}
use Rattle.new_edges.specs.Parts.{id_at}
use Rattle.rewrite.specs.Identifiers.{last_part, part_id}
use Rattle.rewrite.specs.Places.{depth_of, is_own}
use Rattle.sym_expr.specs.declared.program.CodeBlock.{CodeBlock}
use Rattle.sym_expr.specs.declared.program.Program.{Program}
use Rattle.sym_expr.specs.Points.{code_at, code_blocks, code_size}

-- ---- the part with the last own word

somewhere : (t : Bool) (f : ℕ → ℕ) (o : Option ℕ) → is_some (if t then Some 0 else option_map f o) ≡ (t || is_some o)
somewhere true f o = refl
somewhere false f None = refl
somewhere false f (Some x) = refl

own_there : (offset : ℕ) (ws : List PatchedWord) → is_some (depth_of offset ws) ≡ list_any (λ (w : PatchedWord). is_own offset w.origin) ws
own_there offset [] = refl
own_there offset (w ∷ ws) =
    somewhere (is_own offset w.origin) (λ depth. depth + 4) (depth_of offset ws)
    ∙ ap (λ t. is_own offset w.origin || t) (own_there offset ws)

found_same : {A : Type 0} (f g : A → Bool) → ((x : A) → f x ≡ g x) → (xs : List A) → find f xs ≡ find g xs
found_same f g h [] = refl
found_same f g h (x ∷ xs) = ap (λ (t : Bool). if t then Some x else find f xs) (h x) ∙ ap (λ o. if g x then Some x else o) (found_same f g h xs)

start_of_either : (o : Option Part) (last : Part) → option_map_or (λ (q : Part). q.start) o last.start ≡ (option_map_or (λ (q : Part). q) o last).start
start_of_either None last = refl
start_of_either (Some q) last = refl

jumps_from : (b : CodeBlock) → jumping_start (code_size b - 4) (last_part (parts b)) (parts b) ≡ (leaving_part b).start
jumps_from b =
    start_of_either (find (has_own (code_size b - 4)) (parts b)) (last_part (parts b))
    ∙ ap (λ (o : Option Part). (option_map_or (λ (q : Part). q) o (last_part (parts b))).start)
    (found_same (has_own (code_size b - 4)) (has_last b) (λ q. sym (own_there (code_size b - 4) q.words)) (parts b))

-- ---- the last part

abbrev is_any : {A : Type 0} → List A → Bool
is_any [] = false
is_any (x ∷ xs) = true

put_some : (w : PatchedWord) (ls : List (List PatchedWord)) → is_any (put_first w ls) ≡ true
put_some w [] = refl
put_some w (part ∷ rest) = refl

either_some : {A : Type 0} (t : Bool) (x : A) (xs ys : List A) → is_any ys ≡ true → is_any (if t then x ∷ xs else ys) ≡ true
either_some true x xs ys h = refl
either_some false x xs ys h = h

cut_some : (ws : List PatchedWord) → is_any (cut_words ws) ≡ true
cut_some [] = refl
cut_some (w ∷ []) = refl
cut_some (w ∷ next ∷ rest) = either_some (is_cut w next) (w ∷ []) (cut_words (next ∷ rest)) (put_first w (cut_words (next ∷ rest))) (put_some w (cut_words (next ∷ rest)))

last_one : (q : Part) (qs : List Part) → last_of (q ∷ qs) ≡ Some (last_part (q ∷ qs))
last_one q [] = refl
last_one q (next ∷ rest) = last_one next rest

last_from : (start : ℕ) (ls : List (List PatchedWord)) → is_any ls ≡ true → last_of (parts_from start ls) ≡ Some (last_part (parts_from start ls))
last_from start [] h = absurd (cc)
last_from start (words ∷ rest) h = last_one (part start words) (parts_from (start + 4 * length words) rest)

last_is : (b : CodeBlock) → last_of (parts b) ≡ Some (last_part (parts b))
last_is b = last_from 0 (cut_words (patched_words b)) (cut_some (patched_words b))

-- ---- one block

abbrev with_parts : CodeBlock → List Part → PatchedBlock
with_parts b qs = record { id = b.id; size = code_size b; parts = qs }

falls_left : (e : Edge) (m : Module) (block : List ℕ) (last : Part) (t : Bool) → option_map (from_block e) (if t then None else Some (id_at m block last.start)) ≡ (if t then None else Some (record e { source = part_id m block last }))
falls_left e m block last true = refl
falls_left e m block last false = refl

left_by : (m : Module) (b : CodeBlock) (e : Edge) → edge_left e (leaving_from m (with_parts b (parts b)) (last_part (parts b))) ≡ split_edge m b e
left_by m b e =
    let last = last_part (parts b) in
    ap (λ o. if is_fallthrough e then o else Some (from_block e (id_at m b.id (jumping_start (code_size b - 4) last (parts b))))) (falls_left e m b.id last (stops_behind last))
    ∙ ap (λ n. if is_fallthrough e then (if never_goes_on b then None else Some (edge_from m b e last)) else Some (from_block e (id_at m b.id n))) (jumps_from b)

block_left : (m : Module) (b : CodeBlock) (e : Edge) (t : Bool)
    → option_map_or (edge_left e) (leaving_of m (with_parts b (if t then [] else parts b))) (Some e) ≡ (if t then Some e else split_edge m b e)
block_left m b e true = refl
block_left m b e false =
    ap (λ o. option_map_or (edge_left e) (option_map (leaving_from m (with_parts b (parts b))) o) (Some e)) (last_is b)
    ∙ left_by m b e

-- ---- all blocks

entries_found : (m : Module) (id : List ℕ) (bs : List CodeBlock)
    → value_at bytes_eq id (map (leaving_entry m) (map patched_block bs)) ≡ option_map (λ (b : CodeBlock). leaving_of m (patched_block b)) (find (λ (b : CodeBlock). bytes_eq b.id id) bs)
entries_found m id [] = refl
entries_found m id (b ∷ bs) =
    value_at-cons bytes_eq id (leaving_entry m (patched_block b)) (map (leaving_entry m) (map patched_block bs))
    ∙ ap (λ (o : Option (Option Leaving)). cond (bytes_eq b.id id) (Some (leaving_of m (patched_block b))) o) (entries_found m id bs)
    ∙ sym (map_cond (λ (b : CodeBlock). leaving_of m (patched_block b)) (bytes_eq b.id id) b (find (λ (b : CodeBlock). bytes_eq b.id id) bs))

found_moved : (m : Module) (e : Edge) (o : Option CodeBlock)
    → option_map_or (edge_left e) (option_and_then (λ (o : Option Leaving). o) (option_map (λ (b : CodeBlock). leaving_of m (patched_block b)) o)) (Some e)
    ≡ option_map_or (λ (b : CodeBlock). if length b.inserted == 0 then Some e else split_edge m b e) o (Some e)
found_moved m e None = refl
found_moved m e (Some b) = block_left m b e (length b.inserted == 0)

edge_same : (m : Module) (g : Program) (e : Edge) → edge_moved (λ id. value_at bytes_eq id (map (leaving_entry m) (map patched_block (code_blocks g)))) e ≡ moved_edge m g e
edge_same m g e =
    ap (λ (o : Option (Option Leaving)). option_map_or (edge_left e) (option_and_then (λ (o : Option Leaving). o) o) (Some e)) (entries_found m e.source (code_blocks g))
    ∙ found_moved m e (code_at g e.source)

pub kept_same : {X Y : Type 0} (f g : X → Option Y) → ((x : X) → f x ≡ g x) → (xs : List X) → filter_map f xs ≡ filter_map g xs
kept_same f g h [] = refl
kept_same f g h (x ∷ xs) = ap (λ o. cons_option o (filter_map f xs)) (h x) ∙ ap (cons_option (g x)) (kept_same f g h xs)

pub edges_same : (m : Module) (g : Program) (es : List Edge)
    → filter_map (edge_moved (λ id. value_at bytes_eq id (map (leaving_entry m) (map patched_block (code_blocks g))))) es ≡ filter_map (moved_edge m g) es
edges_same m g es = kept_same (edge_moved (λ id. value_at bytes_eq id (map (leaving_entry m) (map patched_block (code_blocks g))))) (moved_edge m g) (edge_same m g) es
