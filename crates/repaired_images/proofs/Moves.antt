-- Places in a loaded interval, and no others, move to its new offsets; so do the sizes of its expressions.
use Rattle.std.proofs.Common.{◌≡◌, ℕ, ◌+◌, ◌-◌, ◌%◌, ◌<◌, ◌≤◌, ◌⊎◌, inl, inr, Bool, true, false, List, [], ◌∷◌, map, Option, Some, None, refl, sym, ap, subst, ◌∙◌, arith}
use Rattle.std.specs.Prelude.{◌==◌, ◌&&◌, find, if◌then◌else◌, IfSome, nat_le, unwrap_or}
use Rattle.std.specs.List.{AllByRecursion as Every, flat_map}
use Rattle.std.specs.Option.{option_map, option_map_or, option_or}
use Rattle.std.specs.Str.{bytes_eq}
use Rattle.std.proofs.lemmas.Bool.{and_left, both_ways, cases_Bool, cases_order, eq-eqb, false_from_ne_true, le-leb, ne_eqb}
use Rattle.aux_codec.specs.declared.value.Place.{Place}
use Rattle.aux_tables.specs.ModuleTables.{tables_of}
use Rattle.block_parts.specs.declared.parts.Part.{Part}
use Rattle.block_parts.specs.Parts.{parts}
use Rattle.gt_model.specs.declared.intervals.Interval.{Interval}
use Rattle.gt_model.specs.declared.ir.Ir.{Ir}
use Rattle.gt_model.specs.declared.modules.Module.{Module}
use Rattle.ir_check.specs.Faults.{bad_places}
use Rattle.repaired_images.specs.Sizes.{KeepsSize}
use Rattle.rewrite.specs.Blocks.{part_size}
use Rattle.rewrite.specs.Identifiers.{last_part, part_id}
use Rattle.rewrite.specs.Offsets.{new_offset}
use Rattle.rewrite.specs.Places.{code_place, depth_of, end_place, interval_place, loaded_interval, moved_place, moved_tables, place_among}
use Rattle.sym_expr.specs.declared.patches.PatchTable.{PatchTable}
use Rattle.sym_expr.specs.declared.program.CodeBlock.{CodeBlock}
use Rattle.sym_expr.specs.Linkable.{formed}
use Rattle.sym_expr.specs.Modules.{loaded_intervals}
use Rattle.sym_expr.specs.Points.{code_at, code_blocks, code_size}
use Rattle.sym_expr.specs.Program.{program, stretch}
use Rattle.sym_expr.specs.Tables.{expr_size, Tables}
use Rattle.taken_ids.specs.Identifiers.{derived_ids, function_ids}
use Rattle.taken_ids.specs.NodeIds.{block_ids}
use Rattle.repaired_images.proofs.Apart.{id_same, same_id}
use Rattle.repaired_images.proofs.Blocks.{loaded_inside, no_interval_of, one_interval, own_id, sections_apart, whole_blocks, Within}
use Rattle.repaired_images.proofs.Free.{function_derived, interval_held, IsFree, part_derived}
use Rattle.repaired_images.proofs.Grows.{Grows}
use Rattle.repaired_images.proofs.Homes.{comes_from, HasHome}
use Rattle.repaired_images.proofs.Inside.{expr_inside}
use Rattle.repaired_images.proofs.Lists.{every_of, found_in, found_some, In, in_map}
use Rattle.repaired_images.proofs.Parts.{ids_of_parts, last_is_part}
use Rattle.repaired_images.proofs.Past.{place_of_size, size_inside}

module _ (ir : Ir) (m : Module) (p : PatchTable) (h : formed ir m (tables_of m)) (free : IsFree ir m p) where
  abbrev t : Tables
  t = tables_of m

  -- ---- a Place keeps its identifier, or goes to a derived one

  abbrev Kept : Place → Place → Type 0
  Kept at to = (to.id ≡ at.id) ⊎ In to.id (derived_ids m p)

  part_kept : (at : Place) (b : CodeBlock) (q : Part) (offset : ℕ) → In b (code_blocks (program m (tables_of m) p)) → b.id ≡ at.id → In q (parts b) → Kept at (record { id = part_id m b.id q; offset = offset })
  part_kept at b q offset k same l =
      elim (subst (In (part_id m b.id q)) (ids_of_parts m b) (in_map (part_id m b.id) q (parts b) l)) [
        | inl e ↦ inl (e ∙ same)
        | inr n ↦ inr (part_derived m p b (part_id m b.id q) k n)
      ]

  among_kept : (at : Place) (b : CodeBlock) (offset behind : ℕ) (qs : List Part) → In b (code_blocks (program m (tables_of m) p)) → b.id ≡ at.id → ((q : Part) → In q qs → In q (parts b)) → IfSome (place_among m b.id offset behind qs) (Kept at)
  among_kept at b offset behind [] k same all = tt
  among_kept at b offset behind (q ∷ qs) k same all = by (depth_of offset q.words) (among_kept at b offset behind qs k same (λ r l. all r (inr l)))
    where
      by : (o : Option ℕ) → IfSome (place_among m b.id offset behind qs) (Kept at) → IfSome (option_or (option_map (λ depth. record { id = part_id m b.id q; offset = depth + behind }) o) (place_among m b.id offset behind qs)) (Kept at)
      by None rest = rest
      by (Some depth) rest = part_kept at b q (depth + behind) k same (all q (inl refl))

  code_kept : (at : Place) (b : CodeBlock) → In b (code_blocks (program m (tables_of m) p)) → b.id ≡ at.id → IfSome (code_place m b at.offset) (Kept at)
  code_kept at b k same = by (at.offset == code_size b)
    where
      by : (x : Bool) → IfSome (if x then Some (end_place m b) else place_among m b.id (at.offset - at.offset % 4) (at.offset % 4) (parts b)) (Kept at)
      by true = part_kept at b (last_part (parts b)) (part_size (last_part (parts b))) k same (last_is_part b)
      by false = among_kept at b (at.offset - at.offset % 4) (at.offset % 4) (parts b) k same (λ q l. l)

  in_code : (at : Place) (o : Option CodeBlock) → code_at (program m (tables_of m) p) at.id ≡ o → IfSome (option_map_or (λ (b : CodeBlock). code_place m b at.offset) o None) (Kept at)
  in_code at None e = tt
  in_code at (Some b) e =
      let found = found_in (λ (c : CodeBlock). bytes_eq c.id at.id) b (code_blocks (program m (tables_of m) p)) e in
      code_kept at b found.0 (same_id b.id at.id found.1)

  in_interval : (at : Place) (o : Option Interval) → loaded_interval m at.id ≡ o → IfSome (option_map_or (λ (i : Interval). interval_place m (tables_of m) p i at.offset) o None) (Kept at)
  in_interval at None e = tt
  in_interval at (Some i) e = by (nat_le at.offset i.size)
    where
      by : (x : Bool) → IfSome (if x then Some (record { id = i.uuid; offset = new_offset (stretch m (tables_of m) p i) at.offset }) else None) (Kept at)
      by true = inl (same_id i.uuid at.id (found_in (λ (j : Interval). bytes_eq j.uuid at.id) i (loaded_intervals m) e).1)
      by false = tt

  either_kept : (at : Place) (a b : Option Place) → IfSome a (Kept at) → IfSome b (Kept at) → Kept at (option_map_or (λ (to : Place). to) (option_or a b) at)
  either_kept at None None k l = inl refl
  either_kept at None (Some y) k l = l
  either_kept at (Some x) b k l = k

  place_kept : (at : Place) → Kept at (moved_place m (tables_of m) p at)
  place_kept at =
      either_kept at (option_map_or (λ (b : CodeBlock). code_place m b at.offset) (code_at (program m (tables_of m) p) at.id) None) (option_map_or (λ (i : Interval). interval_place m (tables_of m) p i at.offset) (loaded_interval m at.id) None)
      (in_code at (code_at (program m (tables_of m) p) at.id) refl) (in_interval at (loaded_interval m at.id) refl)

  -- ---- a Place in a loaded interval

  module _ (i : Interval) (k : In i (loaded_intervals m)) where
    not_derived : In i.uuid (derived_ids m p) → ⊥
    not_derived l = free.unheld i.uuid l (interval_held ir m i i.uuid h.member k (inl refl))

    no_code : (b : CodeBlock) → b.id ≡ i.uuid → HasHome m p b ⊎ In b.id (flat_map (function_ids m.uuid) p.functions) → ⊥
    no_code b same (inl home) =
        let links = h.linked.links in
        let within : Within m.sections home.block = record { interval = home.interval; inside = loaded_inside m home.interval home.loaded; among = home.among } in
        no_interval_of m.sections home.block i (sections_apart ir m links h.member) within (loaded_inside m i k)
        (subst (λ z. In z (block_ids home.block)) (sym (ap (λ (c : CodeBlock). c.id) home.is) ∙ same) (own_id home.block (whole_blocks ir m home.block links h.member within)))
    no_code b same (inr l) = not_derived (function_derived m p i.uuid (subst (λ z. In z (flat_map (function_ids m.uuid) p.functions)) same l))

    none_at : (o : Option CodeBlock) → code_at (program m (tables_of m) p) i.uuid ≡ o → o ≡ None
    none_at None e = refl
    none_at (Some b) e =
        let found = found_in (λ (c : CodeBlock). bytes_eq c.id i.uuid) b (code_blocks (program m (tables_of m) p)) e in
        absurd (no_code b (same_id b.id i.uuid found.1) (comes_from m (tables_of m) p b found.0))

    pub itself : loaded_interval m i.uuid ≡ Some i
    itself =
        let test : Interval → Bool = λ (j : Interval). bytes_eq j.uuid i.uuid in
        let z = found_some test i (loaded_intervals m) k (id_same i.uuid i.uuid refl) in
        let found = found_in test z.0 (loaded_intervals m) z.1 in
        let same : z.0 ≡ i = one_interval m.sections i.uuid z.0 i (sections_apart ir m h.linked.links h.member) (loaded_inside m z.0 found.0) (loaded_inside m i k) (inl (sym (same_id z.0.uuid i.uuid found.1))) (inl refl) in
        z.1 ∙ ap Some same

    -- it moves with its byte
    moves : (a : ℕ) → a ≤ i.size → moved_place m (tables_of m) p (record { id = i.uuid; offset = a }) ≡ record { id = i.uuid; offset = new_offset (stretch m (tables_of m) p i) a }
    moves a le =
        let at : Place = record { id = i.uuid; offset = a } in
        let to : Place = record { id = i.uuid; offset = new_offset (stretch m (tables_of m) p i) a } in
        ap (λ o. option_map_or (λ (to : Place). to) (option_or (option_map_or (λ (b : CodeBlock). code_place m b a) o None) (option_map_or (λ (j : Interval). interval_place m (tables_of m) p j a) (loaded_interval m i.uuid) None)) at)
        (none_at (code_at (program m (tables_of m) p) i.uuid) refl)
        ∙ ap (λ o. option_map_or (λ (to : Place). to) (option_map_or (λ (j : Interval). interval_place m (tables_of m) p j a) o None) at) itself
        ∙ ap (λ x. option_map_or (λ (to : Place). to) (if x then Some to else None) at) (le-leb a i.size le)

    -- ---- the size at its byte

    abbrev s_offset : ℕ → ℕ
    s_offset a = new_offset (stretch m (tables_of m) p i) a

    one_byte : Grows m (tables_of m) p i → (o a : ℕ) → o ≤ i.size → a ≤ i.size → (s_offset o == s_offset a) ≡ (o == a)
    one_byte grows o a le most = by (cases_order o a)
      where
        by : (o ≡ a) ⊎ ((o < a) ⊎ (a < o)) → (s_offset o == s_offset a) ≡ (o == a)
        by (inl e) = eq-eqb (s_offset o) (s_offset a) (ap s_offset e) ∙ sym (eq-eqb o a e)
        by (inr (inl lt)) = let less = grows o a lt most in ne_eqb (s_offset o) (s_offset a) (λ q. omega (arith, q, less)) ∙ sym (ne_eqb o a (λ q. omega (arith, q, lt)))
        by (inr (inr lt)) = let less = grows a o lt le in ne_eqb (s_offset o) (s_offset a) (λ q. omega (arith, q, less)) ∙ sym (ne_eqb o a (λ q. omega (arith, q, lt)))

    abbrev goes : (List ℕ × ℕ) × ℕ → Place
    goes e = moved_place m (tables_of m) p (place_of_size e)

    size_goes : Grows m (tables_of m) p i → (a : ℕ) → a ≤ i.size → (e : (List ℕ × ℕ) × ℕ) → (loaded_interval m e.0.0 ≡ Some i → e.0.1 ≤ i.size)
        → (bytes_eq (goes e).id i.uuid && ((goes e).offset == s_offset a)) ≡ (bytes_eq e.0.0 i.uuid && (e.0.1 == a))
    size_goes grows a most e inside =
        elim (cases_Bool (bytes_eq e.0.0 i.uuid)) [
          | inl is ↦
              let same : e.0.0 ≡ i.uuid = same_id e.0.0 i.uuid is in
              let le : e.0.1 ≤ i.size = inside (ap (loaded_interval m) same ∙ itself) in
              let to : goes e ≡ record { id = i.uuid; offset = s_offset e.0.1 } = ap (λ x. moved_place m (tables_of m) p (record { id = x; offset = e.0.1 })) same ∙ moves e.0.1 le in
              ap (λ (x : Place). bytes_eq x.id i.uuid && (x.offset == s_offset a)) to
              ∙ ap (λ x. x && (s_offset e.0.1 == s_offset a)) (id_same i.uuid i.uuid refl)
              ∙ one_byte grows e.0.1 a le most
              ∙ sym (ap (λ x. x && (e.0.1 == a)) is)
          | inr is_not ↦
              let other : bytes_eq (goes e).id i.uuid ≡ false = false_from_ne_true (bytes_eq (goes e).id i.uuid) (λ is. differs is_not (same_id (goes e).id i.uuid is) (place_kept (place_of_size e))) in
              and_left (bytes_eq (goes e).id i.uuid) ((goes e).offset == s_offset a) other ∙ sym (and_left (bytes_eq e.0.0 i.uuid) (e.0.1 == a) is_not)
        ]
      where
        differs : bytes_eq e.0.0 i.uuid ≡ false → (goes e).id ≡ i.uuid → Kept (place_of_size e) (goes e) → ⊥
        differs is_not same (inl d) = both_ways (bytes_eq e.0.0 i.uuid) is_not (id_same e.0.0 i.uuid (sym d ∙ same))
        differs is_not same (inr l) = not_derived (subst (λ z. In z (derived_ids m p)) same l)

    abbrev size_moved : (List ℕ × ℕ) × ℕ → (List ℕ × ℕ) × ℕ
    size_moved e = (((goes e).id, (goes e).offset), e.1)

    sizes_found : (a : ℕ) (es : List ((List ℕ × ℕ) × ℕ)) → Every (λ (e : (List ℕ × ℕ) × ℕ). (bytes_eq (goes e).id i.uuid && ((goes e).offset == s_offset a)) ≡ (bytes_eq e.0.0 i.uuid && (e.0.1 == a))) es
        → option_map (λ (e : (List ℕ × ℕ) × ℕ). e.1) (find (λ (e : (List ℕ × ℕ) × ℕ). bytes_eq e.0.0 i.uuid && (e.0.1 == s_offset a)) (map size_moved es))
        ≡ option_map (λ (e : (List ℕ × ℕ) × ℕ). e.1) (find (λ (e : (List ℕ × ℕ) × ℕ). bytes_eq e.0.0 i.uuid && (e.0.1 == a)) es)
    sizes_found a [] all = refl
    sizes_found a (e ∷ es) all =
        ap (λ x. option_map (λ (e : (List ℕ × ℕ) × ℕ). e.1) (if x then Some (size_moved e) else find (λ (e : (List ℕ × ℕ) × ℕ). bytes_eq e.0.0 i.uuid && (e.0.1 == s_offset a)) (map size_moved es))) all.0
        ∙ by (bytes_eq e.0.0 i.uuid && (e.0.1 == a)) (sizes_found a es all.1)
      where
        by : (x : Bool)
            → option_map (λ (e : (List ℕ × ℕ) × ℕ). e.1) (find (λ (e : (List ℕ × ℕ) × ℕ). bytes_eq e.0.0 i.uuid && (e.0.1 == s_offset a)) (map size_moved es))
            ≡ option_map (λ (e : (List ℕ × ℕ) × ℕ). e.1) (find (λ (e : (List ℕ × ℕ) × ℕ). bytes_eq e.0.0 i.uuid && (e.0.1 == a)) es)
            → option_map (λ (e : (List ℕ × ℕ) × ℕ). e.1) (if x then Some (size_moved e) else find (λ (e : (List ℕ × ℕ) × ℕ). bytes_eq e.0.0 i.uuid && (e.0.1 == s_offset a)) (map size_moved es))
            ≡ option_map (λ (e : (List ℕ × ℕ) × ℕ). e.1) (if x then Some e else find (λ (e : (List ℕ × ℕ) × ℕ). bytes_eq e.0.0 i.uuid && (e.0.1 == a)) es)
        by true rest = refl
        by false rest = rest

    pub size_kept : Grows m (tables_of m) p i → bad_places (loaded_intervals m) m.aux ≡ [] → (a : ℕ) → a ≤ i.size
        → expr_size (moved_tables m (tables_of m) p) i.uuid (new_offset (stretch m (tables_of m) p i) a) ≡ expr_size (tables_of m) i.uuid a
    size_kept grows good a most =
        ap (λ o. unwrap_or o 8) (sizes_found a (tables_of m).sizes (every_of (λ (e : (List ℕ × ℕ) × ℕ). (bytes_eq (goes e).id i.uuid && ((goes e).offset == s_offset a)) ≡ (bytes_eq e.0.0 i.uuid && (e.0.1 == a))) (tables_of m).sizes
        (λ e l. size_goes grows a most e (λ found. size_inside m good i e l found))))

  pub all_sizes_kept : ((i : Interval) → In i (loaded_intervals m) → Grows m (tables_of m) p i) → bad_places (loaded_intervals m) m.aux ≡ [] → Every (λ (i : Interval). Every (KeepsSize m (tables_of m) p i) i.exprs) (loaded_intervals m)
  all_sizes_kept grows good =
      every_of (λ (i : Interval). Every (KeepsSize m (tables_of m) p i) i.exprs) (loaded_intervals m)
      (λ i k. every_of (KeepsSize m (tables_of m) p i) i.exprs (λ e l. let lt = expr_inside ir m (tables_of m) h i k e l in size_kept i k (grows i k) good e.at (omega (arith, lt))))
