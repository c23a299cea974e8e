-- In a linked IR the loaded blocks of a module, and its symbols, have identifiers of their own.
use Rattle.std.proofs.Common.{◌≡◌, ◌≢◌, ℕ, ◌+◌, ◌≤◌, inl, inr, Bool, true, false, List, [], ◌∷◌, ◌++◌, map, Some, refl, ap, subst, ◌∙◌, arith}
use Rattle.std.specs.Prelude.{AllPairs, Contains, filter, find, if◌then◌else◌}
use Rattle.std.specs.List.{flat_map}
use Rattle.std.specs.Str.{bytes_eq}
use Rattle.std.proofs.lemmas.Bool.{both_ways}
use Rattle.std.proofs.lemmas.List.{map-append}
use Rattle.gt_model.specs.declared.intervals.Block.{Block}
use Rattle.gt_model.specs.declared.intervals.Body.{Body}
use Rattle.gt_model.specs.declared.intervals.Body.TheVariants as bodies
use Rattle.gt_model.specs.declared.intervals.Interval.{Interval}
use Rattle.gt_model.specs.declared.ir.Ir.{Ir}
use Rattle.gt_model.specs.declared.modules.Module.{Module}
use Rattle.gt_model.specs.declared.modules.Section.{Section}
use Rattle.gt_model.specs.declared.symbols.Symbol.{Symbol}
use Rattle.gt_model.specs.Linked.{is_bare, is_bare_body, linked}
use Rattle.gt_model.specs.Nodes.{ids, nodes}
use Rattle.sym_expr.specs.Modules.{block_of, blocks_of, has_id, id_of, id_of_body, intervals_of, is_loaded, loaded_intervals}
use Rattle.taken_ids.specs.NodeIds.{block_ids, body_ids, interval_ids, ir_ids, module_ids, section_ids, symbol_id}
use Rattle.repaired_images.proofs.Apart.{Apart, apart_back, apart_front, apart_of_pairs, apart_one, id_same, one_of_key, same_id}
use Rattle.repaired_images.proofs.Blocks.{loaded_block, sections_apart, whole_blocks}
use Rattle.repaired_images.proofs.Counts.{apart_of_once, once, one, pairs_of_apart, times, times_append}
use Rattle.repaired_images.proofs.Lists.{found_in, found_some, In, in_back, in_contained, in_front}
use Rattle.repaired_images.proofs.NodeLists.{of_ir}

-- ---- counts

body_times : (id : List ℕ) (x : Body) → is_bare_body x ≡ false → one (bytes_eq id (id_of_body x)) ≤ times id (body_ids x)
body_times id bodies.Bare h = absurd (both_ways true h refl)
body_times id (bodies.Code uuid size decode_mode) h = omega arith
body_times id (bodies.Data uuid size) h = omega arith

blocks_times : (id : List ℕ) (bs : List Block) → ((b : Block) → In b bs → is_bare b ≡ false) → times id (map id_of bs) ≤ times id (flat_map block_ids bs)
blocks_times id [] h = omega arith
blocks_times id (b ∷ bs) h =
    let here = body_times id b.body (h b (inl refl)) in
    let rest = blocks_times id bs (λ c k. h c (inr k)) in
    let both = times_append id (block_ids b) (flat_map block_ids bs) in
    omega (arith, here, rest, both)

intervals_times : (id : List ℕ) (is : List Interval) → ((b : Block) → In b (blocks_of is) → is_bare b ≡ false) → times id (map id_of (blocks_of is)) ≤ times id (flat_map interval_ids is)
intervals_times id [] h = omega arith
intervals_times id (i ∷ is) h =
    let here = blocks_times id i.blocks (λ b k. h b (in_front b i.blocks (blocks_of is) k)) in
    let rest = intervals_times id is (λ b k. h b (in_back b i.blocks (blocks_of is) k)) in
    let both = times_append id (interval_ids i) (flat_map interval_ids is) in
    let own : times id (map id_of (i.blocks ++ blocks_of is)) ≡ times id (map id_of i.blocks) + times id (map id_of (blocks_of is)) =
    ap (times id) (map-append id_of i.blocks (blocks_of is)) ∙ times_append id (map id_of i.blocks) (map id_of (blocks_of is)) in
    omega (arith, here, rest, both, own)

flat_times : (id : List ℕ) (is js : List Interval) → times id (flat_map interval_ids (is ++ js)) ≡ times id (flat_map interval_ids is) + times id (flat_map interval_ids js)
flat_times id [] js = omega arith
flat_times id (i ∷ is) js =
    let rest = flat_times id is js in
    let here = times_append id (interval_ids i) (flat_map interval_ids (is ++ js)) in
    let there = times_append id (interval_ids i) (flat_map interval_ids is) in
    omega (arith, rest, here, there)

sections_times : (id : List ℕ) (ss : List Section) → times id (flat_map interval_ids (intervals_of (filter is_loaded ss))) ≤ times id (flat_map section_ids ss)
sections_times id [] = omega arith
sections_times id (s ∷ ss) = by (is_loaded s) (sections_times id ss)
  where
    by : (x : Bool) → times id (flat_map interval_ids (intervals_of (filter is_loaded ss))) ≤ times id (flat_map section_ids ss)
        → times id (flat_map interval_ids (intervals_of (if x then s ∷ filter is_loaded ss else filter is_loaded ss))) ≤ times id (flat_map section_ids (s ∷ ss))
    by true rest =
        let whole = times_append id (section_ids s) (flat_map section_ids ss) in
        let both = flat_times id s.intervals (intervals_of (filter is_loaded ss)) in
        omega (arith, rest, whole, both)
    by false rest = let whole = times_append id (section_ids s) (flat_map section_ids ss) in omega (arith, rest, whole)

-- ---- blocks

module _ (ir : Ir) (m : Module) (h : linked ir) (k : Contains ir.modules m) where
  blocks_apart : Apart (map id_of (blocks_of (loaded_intervals m)))
  blocks_apart =
      apart_of_once (map id_of (blocks_of (loaded_intervals m)))
      (λ id.
      let most = once id (flat_map section_ids m.sections) (sections_apart ir m h k) in
      let sections = sections_times id m.sections in
      let intervals = intervals_times id (loaded_intervals m) (λ b l. whole_blocks ir m b h k (loaded_block m b l)) in
      omega (arith, most, sections, intervals))

  pub block_pairs : AllPairs (λ (a later : List ℕ). a ≢ later) (map id_of (blocks_of (loaded_intervals m)))
  block_pairs = pairs_of_apart (map id_of (blocks_of (loaded_intervals m))) blocks_apart

  -- each is found
  pub block_found : (b : Block) → In b (blocks_of (loaded_intervals m)) → block_of (id_of b) (blocks_of (loaded_intervals m)) ≡ Some b
  block_found b l =
      let bs : List Block = blocks_of (loaded_intervals m) in
      let z = found_some (has_id (id_of b)) b bs l (id_same (id_of b) (id_of b) refl) in
      let found = found_in (has_id (id_of b)) z.0 bs z.1 in
      z.1 ∙ ap Some (one_of_key id_of z.0 b bs blocks_apart found.0 l (same_id (id_of z.0) (id_of b) found.1))

  -- ---- symbols

  symbols_apart : Apart (map symbol_id m.symbols)
  symbols_apart =
      let all : Apart (ir_ids ir) = subst Apart (of_ir ir) (apart_of_pairs (ids (nodes ir)) h.distinct) in
      let own : Apart (module_ids m) = apart_one module_ids m ir.modules all.1 (in_contained m ir.modules k) in
      apart_back m.proxies (map symbol_id m.symbols) (apart_front (m.proxies ++ map symbol_id m.symbols) (flat_map section_ids m.sections) own.1)

  pub symbol_found : (s : Symbol) → In s m.symbols → find (λ (x : Symbol). bytes_eq x.uuid s.uuid) m.symbols ≡ Some s
  symbol_found s l =
      let test : Symbol → Bool = λ (x : Symbol). bytes_eq x.uuid s.uuid in
      let z = found_some test s m.symbols l (id_same s.uuid s.uuid refl) in
      let found = found_in test z.0 m.symbols z.1 in
      z.1 ∙ ap Some (one_of_key symbol_id z.0 s m.symbols symbols_apart found.0 l (same_id z.0.uuid s.uuid found.1))
