-- The points that targets name, at the start of a block and at its end, keep their addresses.
use Rattle.std.proofs.Common.{◌≡◌, ℕ, ◌+◌, ◌*◌, ◌≤◌, Bool, true, false, List, [], ◌∷◌, length, map, Option, Some, None, refl, sym, ap, ◌∙◌, subst, inl, inr, arith}
use Rattle.std.specs.Prelude.{filter, find, nat_lt, ◌==◌, if◌then◌else◌, unwrap_or}
use Rattle.std.specs.List.{AllByRecursion as Every}
use Rattle.std.specs.Option.{option_map_or}
use Rattle.std.specs.Str.{bytes_eq}
use Rattle.std.proofs.lemmas.Bool.{cases_lt, lt-ltb, le-ltb, eq-eqb, ne_eqb}
use Rattle.std.proofs.lemmas.List.{length-map}
use Rattle.block_parts.specs.declared.parts.Part.{Part}
use Rattle.block_parts.specs.declared.words.PatchedWord.{PatchedWord}
use Rattle.block_parts.specs.Parts.{parts, parts_from}
use Rattle.block_parts.specs.Words.{patched_words}
use Rattle.gt_model.specs.declared.modules.Module.{Module}
use Rattle.repaired_programs.specs.Spots.{part_spot}
use Rattle.rewrite.specs.Blocks.{part_size}
use Rattle.rewrite.specs.Identifiers.{last_part, part_id}
use Rattle.sym_expr.specs.declared.layout.Layout.{Layout}
use Rattle.sym_expr.specs.declared.program.CodeBlock.{CodeBlock}
use Rattle.sym_expr.specs.declared.program.Program.{Program}
use Rattle.sym_expr.specs.declared.program.Word.{Word}
use Rattle.sym_expr.specs.Images.{block_address, depth, inserted_below, point_address}
use Rattle.sym_expr.specs.Points.{code_at, code_blocks, code_size, ins}
use Rattle.sym_expr.specs.Targets.{point, start_of}
use Rattle.sym_expr.specs.WellMade.{IsCode, IsInserted}
use Rattle.repaired_programs.proofs.Becomes.{count, cut_count}
use Rattle.repaired_programs.proofs.Known.{IsCounted}
use Rattle.repaired_programs.proofs.Lists.{every_weaker}
use Rattle.repaired_programs.proofs.Walks.{some_part}

-- ---- the start of a block

abbrev pub one_if : Bool → ℕ
one_if true = 1
one_if false = 0

pub counted_first : {X : Type 0} (test : X → Bool) (x : X) (xs : List X) (b : Bool) → test x ≡ b → length (filter test (x ∷ xs)) ≡ one_if b + length (filter test xs)
counted_first test x xs true e = ap (λ c. length (if c then x ∷ filter test xs else filter test xs)) e ∙ omega arith
counted_first test x xs false e = ap (λ c. length (if c then x ∷ filter test xs else filter test xs)) e ∙ omega arith

none_below : (ws : List (ℕ × Word)) → length (filter (λ (w : ℕ × Word). nat_lt w.0 0) ws) ≡ 0
none_below [] = refl
none_below (w ∷ ws) =
    let here = counted_first (λ (w : ℕ × Word). nat_lt w.0 0) w ws false (le-ltb w.0 0 (omega arith)) in
    let rest = none_below ws in
    omega (arith, here, rest)

below_start : (o : Option CodeBlock) → option_map_or (inserted_below 0) o 0 ≡ 0
below_start None = refl
below_start (Some b) = none_below b.inserted

start_depth : (g : Program) (id : List ℕ) → depth g (start_of id) ≡ 0
start_depth g id = let none = below_start (code_at g id) in omega (arith, none)

-- the start of a block has its address
pub start_address : (l : Layout) (g : Program) (id : List ℕ) → point_address l g (start_of id) ≡ unwrap_or (block_address l g id) 0
start_address l g id = let none = start_depth g id in omega (arith, none)

pub same_start : (l : Layout) (g new : Program) (id : List ℕ) → block_address l new id ≡ block_address l g id → point_address l new (start_of id) ≡ point_address l g (start_of id)
same_start l g new id e = start_address l new id ∙ ap (λ o. unwrap_or o 0) e ∙ sym (start_address l g id)

-- ---- the end of a block

abbrev IsUpTo : ℕ → ℕ × Word → Type 0
IsUpTo end w = w.0 ≤ end

all_passed : (end : ℕ) (ws : List (ℕ × Word)) → Every (IsUpTo end) ws → length (filter (λ (w : ℕ × Word). nat_lt w.0 end) ws) + length (filter (λ (w : ℕ × Word). end == w.0) ws) ≡ length ws
all_passed end [] h = refl
all_passed end (w ∷ ws) h =
    let rest = all_passed end ws h.1 in
    elim (cases_lt w.0 end) [
      | inl lt ↦
          let x = counted_first (λ (w : ℕ × Word). nat_lt w.0 end) w ws true (lt-ltb w.0 end lt) in
          let y = counted_first (λ (w : ℕ × Word). end == w.0) w ws false (ne_eqb end w.0 (λ e. omega (arith, e, lt))) in
          omega (arith, x, y, rest)
      | inr ge ↦
          let le : w.0 ≤ end = h.0 in
          let x = counted_first (λ (w : ℕ × Word). nat_lt w.0 end) w ws false (le-ltb w.0 end ge) in
          let y = counted_first (λ (w : ℕ × Word). end == w.0) w ws true (eq-eqb end w.0 (omega (arith, le, ge))) in
          omega (arith, x, y, rest)
    ]

block_passed : (g : Program) (b : CodeBlock) → IsCode g b → inserted_below (code_size b) b + length (ins b (code_size b)) ≡ length b.inserted
block_passed g b code =
    let size : length (ins b (code_size b)) ≡ length (filter (λ (w : ℕ × Word). code_size b == w.0) b.inserted) = length-map (filter (λ (w : ℕ × Word). code_size b == w.0) b.inserted) (λ (w : ℕ × Word). w.1) in
    let all = all_passed (code_size b) b.inserted (every_weaker (IsInserted g b) (IsUpTo (code_size b)) (λ w h. h.1) b.inserted code.inserted) in
    omega (arith, size, all)

end_depth : (g : Program) (b : CodeBlock) → IsCode g b → code_at g b.id ≡ Some b → depth g (point b.id (code_size b) (length (ins b (code_size b)))) ≡ 4 * (length b.own + length b.inserted)
end_depth g b code found =
    let passed = block_passed g b code in
    let here : option_map_or (inserted_below (code_size b)) (code_at g b.id) 0 ≡ inserted_below (code_size b) b = ap (λ o. option_map_or (inserted_below (code_size b)) o 0) found in
    omega (arith, passed, here)

-- the last of several parts
last_spot : (P : List ℕ × ℕ → Type 0) (m : Module) (block : List ℕ) (at start : ℕ) (words : List PatchedWord) (ps : List (List PatchedWord)) → Every P (map (part_spot m block at) (parts_from start (words ∷ ps))) → P (part_spot m block at (last_part (parts_from start (words ∷ ps))))
last_spot P m block at start words [] h = h.0
last_spot P m block at start words (next ∷ ps) h = last_spot P m block at (start + 4 * length words) next ps h.1

last_end : (start : ℕ) (words : List PatchedWord) (ps : List (List PatchedWord)) → let q : Part = last_part (parts_from start (words ∷ ps)) in q.start + part_size q ≡ start + 4 * count (words ∷ ps)
last_end start words [] = omega arith
last_end start words (next ∷ ps) = let rest = last_end (start + 4 * length words) next ps in omega (arith, rest)

pub last_of_parts : (P : List ℕ × ℕ → Type 0) (m : Module) (b : CodeBlock) (at : ℕ) → Every P (map (part_spot m b.id at) (parts b)) → P (part_spot m b.id at (last_part (parts b)))
last_of_parts P m b at h =
    let some = some_part (patched_words b) in
    let Q : List (List PatchedWord) → Type 0 = λ ws. Every P (map (part_spot m b.id at) (parts_from 0 ws)) → P (part_spot m b.id at (last_part (parts_from 0 ws))) in
    (subst Q (sym some.2) (last_spot P m b.id at 0 some.0 some.1)) h

pub last_size : (b : CodeBlock) → IsCounted b → (last_part (parts b)).start + part_size (last_part (parts b)) ≡ 4 * (length b.own + length b.inserted)
last_size b counted =
    let some = some_part (patched_words b) in
    let Q : List (List PatchedWord) → Type 0 = λ ws. (last_part (parts_from 0 ws)).start + part_size (last_part (parts_from 0 ws)) ≡ 0 + 4 * count ws in
    let all = cut_count (patched_words b) in
    let end = subst Q (sym some.2) (last_end 0 some.0 some.1) in
    omega (arith, end, all, counted)

-- in a program where nothing is inserted a point is as far behind the start of its block as its offset says
abbrev pub IsQuiet : Program → Type 0
IsQuiet g = Every (λ (b : CodeBlock). b.inserted ≡ []) (code_blocks g)

either_below : (offset : ℕ) (id : List ℕ) (b : CodeBlock) (bs : List CodeBlock) (x : Bool) → b.inserted ≡ [] → option_map_or (inserted_below offset) (find (λ (c : CodeBlock). bytes_eq c.id id) bs) 0 ≡ 0
    → option_map_or (inserted_below offset) (if x then Some b else find (λ (c : CodeBlock). bytes_eq c.id id) bs) 0 ≡ 0
either_below offset id b bs true none rest = ap (λ (ws : List (ℕ × Word)). length (filter (λ (w : ℕ × Word). nat_lt w.0 offset) ws)) none
either_below offset id b bs false none rest = rest

quiet_below : (offset : ℕ) (id : List ℕ) (bs : List CodeBlock) → Every (λ (b : CodeBlock). b.inserted ≡ []) bs → option_map_or (inserted_below offset) (find (λ (b : CodeBlock). bytes_eq b.id id) bs) 0 ≡ 0
quiet_below offset id [] h = refl
quiet_below offset id (b ∷ bs) h = either_below offset id b bs (bytes_eq b.id id) h.0 (quiet_below offset id bs h.1)

quiet_depth : (g : Program) (id : List ℕ) (offset : ℕ) → IsQuiet g → depth g (point id offset 0) ≡ offset
quiet_depth g id offset quiet = let none = quiet_below offset id (code_blocks g) quiet in omega (arith, none)

-- the end of a block and that of its last part
pub same_end_point : (l : Layout) (m : Module) (g new : Program) (b : CodeBlock) (base at : ℕ) → IsCode g b → IsCounted b → code_at g b.id ≡ Some b → IsQuiet new → block_address l g b.id ≡ Some (base + at)
    → Every (λ (e : List ℕ × ℕ). block_address l new e.0 ≡ Some (base + e.1)) (map (part_spot m b.id at) (parts b))
    → point_address l new (point (part_id m b.id (last_part (parts b))) (part_size (last_part (parts b))) 0) ≡ point_address l g (point b.id (code_size b) (length (ins b (code_size b))))
same_end_point l m g new b base at code counted found quiet old now =
    let q : Part = last_part (parts b) in
    let there : block_address l new (part_id m b.id q) ≡ Some (base + (at + q.start)) = last_of_parts (λ e. block_address l new e.0 ≡ Some (base + e.1)) m b at now in
    let last = last_size b counted in
    let new_depth = quiet_depth new (part_id m b.id q) (part_size q) quiet in
    let old_depth = end_depth g b code found in
    let new_start : unwrap_or (block_address l new (part_id m b.id q)) 0 ≡ base + (at + q.start) = ap (λ o. unwrap_or o 0) there in
    let old_start : unwrap_or (block_address l g b.id) 0 ≡ base + at = ap (λ o. unwrap_or o 0) old in
    omega (arith, new_start, old_start, new_depth, old_depth, last)
