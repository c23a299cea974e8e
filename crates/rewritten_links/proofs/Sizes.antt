-- A Place that isn't past the size of what it names lies in its code block, or in its interval.
use Rattle.std.proofs.Common.{◌≡◌, ℕ, ◌+◌, ◌/◌, ◌%◌, ◌≤◌, zero, suc, Bool, true, false, ◌&&◌, not, List, [], length, Option, Some, None, refl, sym, ap, subst, ◌∙◌, arith}
use Rattle.std.specs.Prelude.{find, nat_lt, ◌==◌, if◌then◌else◌}
use Rattle.std.specs.Option.{option_and_then, option_map, option_map_or, option_or}
use Rattle.std.specs.Str.{bytes_eq}
use Rattle.std.proofs.lemmas.Bool.{and_parts, eqb-true, false≢true, false_from_ne_true, ltb-false, not-false}
use Rattle.aux_codec.specs.declared.value.Place.{Place}
use Rattle.gt_model.specs.declared.intervals.Block.{Block}
use Rattle.gt_model.specs.declared.intervals.Interval.{Interval}
use Rattle.gt_model.specs.declared.ir.Ir.{Ir}
use Rattle.gt_model.specs.declared.modules.Module.{Module}
use Rattle.ir_check.specs.Faults.{code_size as size_of_code_at, interval_size, is_past, size_named, size_of_code}
use Rattle.rewrite.specs.Places.{loaded_interval}
use Rattle.sym_expr.specs.declared.patches.PatchTable.{PatchTable}
use Rattle.sym_expr.specs.declared.program.CodeBlock.{CodeBlock}
use Rattle.sym_expr.specs.Linkable.{crooked_blocks, crooked_in, formed, is_crooked}
use Rattle.sym_expr.specs.Modules.{block_of, blocks_of, has_id, id_of, is_code, loaded_intervals, size_of}
use Rattle.sym_expr.specs.Points.{code_size}
use Rattle.sym_expr.specs.Program.{code_block, own_words}
use Rattle.sym_expr.specs.Tables.{Tables}
use Rattle.taken_ids.specs.NodeIds.{block_ids}
use Rattle.rewritten_links.proofs.Apart.{id_same, same_id}
use Rattle.rewritten_links.proofs.Blocks.{Within, loaded_block, loaded_inside, no_interval_of, one_block, own_id, sections_apart, whole_blocks}
use Rattle.rewritten_links.proofs.Homes.{HasHome}
use Rattle.rewritten_links.proofs.Lists.{In, found_in, found_some, in_filter, in_flat}

-- ---- the size of a code block

length_own : (m : Module) (p : PatchTable) (i : Interval) (at n : ℕ) → length (own_words m p i at n) ≡ n
length_own m p i at zero = refl
length_own m p i at (suc n) = ap suc (length_own m p i (at + 4) n)

straight : (offset size : ℕ) (b : Bool) → b ≡ true → (b && not ((offset % 4 == 0) && (size % 4 == 0))) ≡ false → size % 4 ≡ 0
straight offset size true e h = eqb-true (size % 4) 0 (and_parts (offset % 4 == 0) (size % 4 == 0) (not-false ((offset % 4 == 0) && (size % 4 == 0)) h)).1
straight offset size false e h = absurd (false≢true e)

pub whole_size : (m : Module) (p : PatchTable) (i : Interval) (b : Block) → is_code b ≡ true → is_crooked b ≡ false → code_size (code_block m p i b) ≡ size_of b
whole_size m p i b code h =
    let whole = straight b.offset (size_of b) (is_code b) code h in
    let words = length_own m p i b.offset (size_of b / 4) in
    omega (arith, whole, words)

pub not_crooked : (is : List Interval) (i : Interval) (b : Block) → crooked_blocks is ≡ [] → In i is → In b i.blocks → is_crooked b ≡ false
not_crooked is i b none h k =
    false_from_ne_true (is_crooked b) (λ e. subst (In b) none (in_flat crooked_in i b is h (in_filter is_crooked b i.blocks e k)))

-- ---- what is named

find_same : {A : Type 0} (test : A → Bool) (xs : List A) (o : Option A) → find test xs ≡ o → ((x : A) → o ≡ Some x → ⊥) → find test xs ≡ None
find_same test xs None e h = e
find_same test xs (Some x) e h = absurd (h x refl)

no_interval : (ir : Ir) (m : Module) (t : Tables) (b : Block) → formed ir m t → Within m.sections b → is_code b ≡ true → interval_size (loaded_intervals m) (id_of b) ≡ None
no_interval ir m t b h w code =
    ap (option_map (λ (i : Interval). i.size))
    (find_same (λ (i : Interval). bytes_eq i.uuid (id_of b)) (loaded_intervals m) (find (λ (i : Interval). bytes_eq i.uuid (id_of b)) (loaded_intervals m)) refl (λ i e.
    let found = found_in (λ (i : Interval). bytes_eq i.uuid (id_of b)) i (loaded_intervals m) e in
    no_interval_of m.sections b i (sections_apart ir m h.linked.links h.member) w (loaded_inside m i found.0)
    (subst (λ x. In x (block_ids b)) (sym (same_id i.uuid (id_of b) found.1)) (own_id b (whole_blocks ir m b h.linked.links h.member w)))))

that_block : (ir : Ir) (m : Module) (t : Tables) (b : Block) → formed ir m t → In b (blocks_of (loaded_intervals m)) → block_of (id_of b) (blocks_of (loaded_intervals m)) ≡ Some b
that_block ir m t b h k =
    let z = found_some (has_id (id_of b)) b (blocks_of (loaded_intervals m)) k (id_same (id_of b) (id_of b) refl) in
    let found = found_in (has_id (id_of b)) z.0 (blocks_of (loaded_intervals m)) z.1 in
    let there = loaded_block m z.0 found.0 in
    let own = loaded_block m b k in
    let named : In (id_of b) (block_ids z.0) = subst (λ x. In x (block_ids z.0)) (same_id (id_of z.0) (id_of b) found.1) (own_id z.0 (whole_blocks ir m z.0 h.linked.links h.member there)) in
    z.1 ∙ ap Some (one_block m.sections (id_of b) z.0 b (sections_apart ir m h.linked.links h.member) there own named (own_id b (whole_blocks ir m b h.linked.links h.member own)))

code_named : (b : Block) → is_code b ≡ true → size_of_code b ≡ Some (size_of b)
code_named b e = ap (λ x. if x then Some (size_of b) else None) e

size_is : (ir : Ir) (m : Module) (t : Tables) (i : Interval) (b : Block) → formed ir m t → In i (loaded_intervals m) → In b i.blocks → is_code b ≡ true → size_named (loaded_intervals m) (id_of b) ≡ Some (size_of b)
size_is ir m t i b h k l code =
    let there = in_flat (λ (j : Interval). j.blocks) i b (loaded_intervals m) k l in
    ap (λ o. option_or o (size_of_code_at (loaded_intervals m) (id_of b))) (no_interval ir m t b h (loaded_block m b there) code)
    ∙ ap (option_and_then size_of_code) (that_block ir m t b h there)
    ∙ code_named b code

not_past : (is : List Interval) (place : Place) (size : ℕ) → size_named is place.id ≡ Some size → is_past is place ≡ false → place.offset ≤ size
not_past is place size e h = ltb-false size place.offset (sym (ap (λ o. option_map_or (λ n. nat_lt n place.offset) o false) e) ∙ h)

pub in_code : (ir : Ir) (m : Module) (t : Tables) (p : PatchTable) (c : CodeBlock) (place : Place) → formed ir m t → HasHome m p c → c.id ≡ place.id → is_past (loaded_intervals m) place ≡ false → place.offset ≤ code_size c
in_code ir m t p c place h home e past =
    let named : id_of home.block ≡ place.id = sym (ap (λ (x : CodeBlock). x.id) home.is) ∙ e in
    let size = ap (size_named (loaded_intervals m)) (sym named) ∙ size_is ir m t home.interval home.block h home.loaded home.among home.code in
    let whole = whole_size m p home.interval home.block home.code (not_crooked (loaded_intervals m) home.interval home.block h.faultless.straight home.loaded home.among) in
    let same : code_size c ≡ size_of home.block = ap code_size home.is ∙ whole in
    let most = not_past (loaded_intervals m) place (size_of home.block) size past in
    omega (arith, same, most)

pub in_interval : (m : Module) (i : Interval) (place : Place) → loaded_interval m place.id ≡ Some i → is_past (loaded_intervals m) place ≡ false → place.offset ≤ i.size
in_interval m i place e past = not_past (loaded_intervals m) place i.size (ap (λ o. option_or (option_map (λ (j : Interval). j.size) o) (size_of_code_at (loaded_intervals m) place.id)) e) past
