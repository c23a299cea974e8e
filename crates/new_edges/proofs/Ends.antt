-- Ends with their branches resolved have the edges of ends.
use Rattle.std.proofs.Common.{◌≡◌, ℕ, zero, suc, Bool, true, false, List, [], ◌∷◌, ◌++◌, map, drop, length, Option, Some, None, refl, sym, ap, ◌∙◌}
use Rattle.std.specs.Prelude.{if◌then◌else◌, slice_get}
use Rattle.std.specs.List.{flat_map}
use Rattle.std.specs.Option.{option_and_then, option_map, option_map_or, option_to_list}
use Rattle.a64_inst.specs.Kinds.{is_branch}
use Rattle.block_parts.specs.declared.parts.Part.{Part}
use Rattle.block_parts.specs.declared.words.Origin.{Origin}
use Rattle.block_parts.specs.declared.words.Origin.TheVariants.{Own, Inserted}
use Rattle.block_parts.specs.declared.words.PatchedWord.{PatchedWord}
use Rattle.edge_repair.specs.Edges.{branch_edge, edge_to, end_edges, word_edge}
use Rattle.edge_repair.specs.Edges as repair
use Rattle.edge_repair.specs.Ends.{End, brought_by, last_of, part_end, target_start}
use Rattle.edge_repair.specs.Jumps.{branch_label, fallthrough_label}
use Rattle.gt_model.specs.declared.edges.Edge.{Edge}
use Rattle.gt_model.specs.declared.modules.Module.{Module}
use Rattle.new_edges.specs.declared.new_end.Branch.{Branch}
use Rattle.new_edges.specs.declared.new_end.NewEnd.{NewEnd}
use Rattle.new_edges.specs.NewEnds.{branch_from, branch_of, branch_to, edges_of, next_edge}
use Rattle.new_edges.specs.Parts.{origin_branch, part_seen}
use Rattle.rewrite.specs.Exprs.{news_of}
use Rattle.rewrite.specs.Identifiers.{part_id}
use Rattle.sym_expr.specs.declared.patches.PatchTable.{PatchTable}
use Rattle.sym_expr.specs.declared.patches.PatchWord.{PatchWord}

-- an end with what its branch leads to
abbrev pub seen : Module → PatchTable → End → NewEnd
seen m p e = record { id = e.id; word = e.word; branch = option_and_then (branch_of m p) e.brought; next = e.next }

-- ---- its edges

word_branch : (e : End) (word : ℕ) (t : Bool) (o : Option (List ℕ))
    → option_map (branch_from e.id) (if t then option_map (branch_to word) o else None) ≡ (if t then option_map (edge_to e (branch_label word)) o else None)
word_branch e word false o = refl
word_branch e word true None = refl
word_branch e word true (Some id) = refl

brought_branch : (m : Module) (p : PatchTable) (e : End) (o : Option PatchWord) → option_map (branch_from e.id) (option_and_then (branch_of m p) o) ≡ option_and_then (word_edge m p e) o
brought_branch m p e None = refl
brought_branch m p e (Some w) = word_branch e w.word (is_branch w.word) (option_and_then (target_start m p) w.target)

pub edges_seen : (m : Module) (p : PatchTable) (e : End) → edges_of (seen m p e) ≡ end_edges m p e
edges_seen m p e = ap (λ (o : Option Edge). option_to_list o ++ option_to_list (repair.next_edge e)) (brought_branch m p e e.brought)

-- ---- parts

at_each : {A B : Type 0} (f : A → Option B) (xs : List A) (k : ℕ) → option_and_then (λ (b : Option B). b) (slice_get (map f xs) k) ≡ option_and_then f (slice_get xs k)
at_each f [] zero = refl
at_each f [] (suc k) = refl
at_each f (x ∷ xs) zero = refl
at_each f (x ∷ xs) (suc k) = at_each f xs k

origin_seen : (m : Module) (p : PatchTable) (news : List PatchWord) (o : Origin) → origin_branch (map (branch_of m p) news) o ≡ option_and_then (branch_of m p) (brought_by news o)
origin_seen m p news (Own offset) = refl
origin_seen m p news (Inserted k) = at_each (branch_of m p) news k

last_seen : (m : Module) (p : PatchTable) (news : List PatchWord) (o : Option PatchedWord)
    → option_and_then (λ (w : PatchedWord). origin_branch (map (branch_of m p) news) w.origin) o ≡ option_and_then (branch_of m p) (option_and_then (λ (w : PatchedWord). brought_by news w.origin) o)
last_seen m p news None = refl
last_seen m p news (Some w) = origin_seen m p news w.origin

with_branch : NewEnd → Option Branch → NewEnd
with_branch e b = record e { branch = b }

pub part_is_seen : (m : Module) (p : PatchTable) (block : List ℕ) (news : List (Option Branch)) (q : Part) (next : Option Part) → news ≡ map (branch_of m p) (news_of p block)
    → part_seen m news block q next ≡ seen m p (part_end m p block q next)
part_is_seen m p block news q next h =
    let e : NewEnd = part_seen m news block q next in
    ap (λ (l : List (Option Branch)). part_seen m l block q next) h
    ∙ ap (λ (b : Option Branch). let x : NewEnd = record { id = part_id m block q; word = option_map (λ (w : PatchedWord). w.word) (last_of q.words); branch = b; next = option_map (part_id m block) next } in x)
    (last_seen m p (news_of p block) (last_of q.words))
