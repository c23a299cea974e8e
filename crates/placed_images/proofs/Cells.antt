-- The cells of a block before the first instruction stand for the bytes that an image gives it.
use Rattle.std.proofs.Common.{◌≡◌, ℕ, zero, suc, ◌+◌, ◌*◌, ◌/◌, ◌%◌, ◌^◌, ◌<◌, Bool, true, false, Option, Some, None, Result, List, [], ◌∷◌, ◌++◌, length, map, take, drop, replicate, pos, refl, sym, ap, subst, ◌∙◌, arith, lit<}
use Rattle.std.specs.Prelude.{◌==◌, if◌then◌else◌, slice_index_or}
use Rattle.std.specs.Int.{int_div_euclid}
use Rattle.std.specs.Option.{option_map_or, option_or}
use Rattle.std.specs.List.{AllByRecursion as Every}
use Rattle.std.specs.Str.{bytes_eq}
use Rattle.std.proofs.Math.Nat.{div-div-eq-div-mul, div-one, mod-lt, pow-suc}
use Rattle.std.proofs.lemmas.Bool.{eqb-true}
use Rattle.std.proofs.lemmas.Option.{none-some}
use Rattle.a64_inst.specs.declared.filling.FitFault.{FitFault}
use Rattle.a64_inst.specs.Numbers.{sign_extended}
use Rattle.paged_memory.specs.Mapping.{Mapping}
use Rattle.sym_expr.specs.declared.layout.Layout.{Layout}
use Rattle.sym_expr.specs.declared.point.Point.{Point}
use Rattle.sym_expr.specs.declared.program.Filling.{Filling}
use Rattle.sym_expr.specs.declared.program.Filling.TheVariants.{Pointer, Difference, Entry}
use Rattle.sym_expr.specs.declared.program.Program.{Program}
use Rattle.sym_expr.specs.declared.target.Target.{Target}
use Rattle.sym_expr.specs.declared.target.Target.TheVariants.{Number, Address, Code}
use Rattle.sym_expr.specs.declared.target.Target.TheVariants as targets
use Rattle.sym_expr.specs.declared.value.Object.TheVariants.{Block}
use Rattle.sym_expr.specs.declared.value.Value.TheVariants.{Addr, At, Diff}
use Rattle.sym_expr.specs.Images.{bytes_of, distance, filling_size, filling_value, fit_or, overlaid, target_value, undefined_in, with_fillings}
use Rattle.sym_expr.specs.Layouts.{accepted}
use Rattle.sym_expr.specs.Placing.{shape_of}
use Rattle.sym_expr.specs.Points.{stretch_of}
use Rattle.sym_expr.specs.States.{difference_cells, entry_cells, far_cells, filling_cells, first_cells, less, number_cells, parts_from, placed_cells, value_cells}
use Rattle.sym_expr.specs.Symbolic.{wrapped}
use Rattle.sym_expr.specs.Values.{Cell, Byte, Part, Quarter, EntryPart, Blank}
use Rattle.sym_expr.specs.WellMade.{IsFilling, IsPoint, IsThere, well_made}
use Rattle.simulation.specs.Placement.{Placement, placement_of, target_number}
use Rattle.simulation.specs.Meant.{AreSpaced, IsCell, IsTarget, byte_of, entry_number}
use Rattle.simulation.specs.Held.{HasCell}
use Rattle.placed_images.specs.Typed.{IsNearEntry, IsTypedFilling, IsTypedTarget}
use Rattle.placed_images.proofs.CodeWords.{is_target, target_same}
use Rattle.placed_images.proofs.Differences.{Formed, formed, less_moved, near, same_bytes}
use Rattle.placed_images.proofs.Faults.{FillingFits}
use Rattle.placed_images.proofs.Found.{same_ids}
use Rattle.placed_images.proofs.Memory.{Holds}
use Rattle.placed_images.proofs.Points.{is_address}
use Rattle.placed_images.proofs.Spaced.{spaced}

module _ (pl : Placement) (g : Program) where
  -- bytes that stand for cells, one for one
  abbrev pub Stand : List Cell → List ℕ → Type 0
  Stand [] [] = Unit {0}
  Stand [] (b ∷ bs) = ⊥
  Stand (c ∷ cs) [] = ⊥
  Stand (c ∷ cs) (b ∷ bs) = IsCell pl g c b × Stand cs bs

  pub stand_length : (cs : List Cell) (bs : List ℕ) → Stand cs bs → length cs ≡ length bs
  stand_length [] [] h = refl
  stand_length [] (b ∷ bs) h = absurd h
  stand_length (c ∷ cs) [] h = absurd h
  stand_length (c ∷ cs) (b ∷ bs) h = ap suc (stand_length cs bs h.1)

  stand_take : (n : ℕ) (cs : List Cell) (bs : List ℕ) → Stand cs bs → Stand (take n cs) (take n bs)
  stand_take zero cs bs h = tt
  stand_take (suc n) [] [] h = tt
  stand_take (suc n) [] (b ∷ bs) h = absurd h
  stand_take (suc n) (c ∷ cs) [] h = absurd h
  stand_take (suc n) (c ∷ cs) (b ∷ bs) h = (h.0, stand_take n cs bs h.1)

  stand_drop : (n : ℕ) (cs : List Cell) (bs : List ℕ) → Stand cs bs → Stand (drop n cs) (drop n bs)
  stand_drop zero cs bs h = h
  stand_drop (suc n) [] [] h = tt
  stand_drop (suc n) [] (b ∷ bs) h = absurd h
  stand_drop (suc n) (c ∷ cs) [] h = absurd h
  stand_drop (suc n) (c ∷ cs) (b ∷ bs) h = stand_drop n cs bs h.1

  stand_append : (cs ds : List Cell) (bs more : List ℕ) → Stand cs bs → Stand ds more → Stand (cs ++ ds) (bs ++ more)
  stand_append [] ds [] more h k = k
  stand_append [] ds (b ∷ bs) more h k = absurd h
  stand_append (c ∷ cs) ds [] more h k = absurd h
  stand_append (c ∷ cs) ds (b ∷ bs) more h k = (h.0, stand_append cs ds bs more h.1 k)

  stand_placed : (at : ℕ) (new old : List Cell) (fresh bytes : List ℕ) → Stand new fresh → Stand old bytes → Stand (placed_cells at new old) (overlaid at fresh bytes)
  stand_placed at new old fresh bytes h k =
      let rest = stand_drop (at + length new) old bytes k in
      let P : ℕ → Type 0 = λ n. Stand (drop (at + length new) old) (drop (at + n) bytes) in
      stand_append (take at old ++ new) (drop (at + length new) old) (take at bytes ++ fresh) (drop (at + length fresh) bytes)
      (stand_append (take at old) new (take at bytes) fresh (stand_take at old bytes k) h)
      (subst P (stand_length new fresh h) rest)

  stand_bytes : (bs : List ℕ) → Every (λ b. b < 256) bs → Stand (map Byte bs) bs
  stand_bytes [] h = tt
  stand_bytes (b ∷ bs) h = ((refl, h.0), stand_bytes bs h.1)

  -- memory that holds bytes has the cells that they stand for
  pub has_cell : (m : Mapping) (cs : List Cell) (bs : List ℕ) (at k : ℕ) → Stand cs bs → Holds m at bs → k < length cs → HasCell pl g m (at + k) (slice_index_or cs k Blank)
  has_cell m [] bs at k h held lt = absurd (omega arith)
  has_cell m (c ∷ cs) [] at k h held lt = absurd h
  has_cell m (c ∷ cs) (b ∷ bs) at zero h held lt =
      let P : ℕ → Type 0 = λ a. HasCell pl g m a c in
      let here : at ≡ at + 0 = omega arith in
      subst P here (record { byte = b; mapped = held.0; means = h.0 })
  has_cell m (c ∷ cs) (b ∷ bs) at (suc k) h held lt =
      let P : ℕ → Type 0 = λ a. HasCell pl g m a (slice_index_or cs k Blank) in
      let next : at + 1 + k ≡ at + suc k = omega arith in
      subst P next (has_cell m cs bs (at + 1) k h.1 held.1 (omega arith))

  -- ---- numbers, parts and what is unknown

  stand_number : (count n : ℕ) → Stand (number_cells count n) (bytes_of count n)
  stand_number zero n = tt
  stand_number (suc count) n = ((refl, mod-lt n (lit< tt)), stand_number count (n / 256))

  stand_blank : (count n : ℕ) → Stand (replicate count Blank) (bytes_of count n)
  stand_blank zero n = tt
  stand_blank (suc count) n = (tt, stand_blank count (n / 256))

  stand_from : (count k m n : ℕ) (part : ℕ → Cell) → m ≡ n / 256 ^ k → ((i : ℕ) → IsCell pl g (part i) (byte_of i n)) → Stand (parts_from count k part) (bytes_of count m)
  stand_from zero k m n part e h = tt
  stand_from (suc count) k m n part e h =
      let P : ℕ → Type 0 = λ x. IsCell pl g (part k) (x % 256) in
      let next : m / 256 ≡ n / 256 ^ suc k = ap (λ x. x / 256) e ∙ div-div-eq-div-mul n (256 ^ k) 256 ∙ ap (λ d. n / d) (sym (pow-suc 256 k)) in
      (subst P (sym e) (h k), stand_from count (suc k) (m / 256) n part next h)

  pub stand_parts : (count n : ℕ) (part : ℕ → Cell) → ((i : ℕ) → IsCell pl g (part i) (byte_of i n)) → Stand (parts_from count 0 part) (bytes_of count n)
  stand_parts count n part h = stand_from count 0 n n part (sym (div-one n)) h

  -- ---- a block

  abbrev pub FillingStands : Layout → Filling → Type 0
  FillingStands l f = Stand (filling_cells f) (bytes_of (filling_size f) (fit_or 0 (filling_value l g f)))

  pub stand_block : (l : Layout) (fs : List (ℕ × Filling)) (bytes : List ℕ) → Every (λ b. b < 256) bytes → Every (λ (f : ℕ × Filling). FillingStands l f.1) fs → Stand (first_cells fs bytes) (with_fillings l g fs bytes)
  stand_block l [] bytes h k = stand_bytes bytes h
  stand_block l (f ∷ fs) bytes h k =
      stand_placed f.0 (filling_cells f.1) (first_cells fs bytes) (bytes_of (filling_size f.1) (fit_or 0 (filling_value l g f.1))) (with_fillings l g fs bytes) k.0 (stand_block l fs bytes h k.1)

-- ---- each filling

option_neither : (a b : Option (List ℕ)) → option_or a b ≡ None → (a ≡ None) × (b ≡ None)
option_neither None b e = (refl, e)
option_neither (Some x) b e = cc

module _ (l : Layout) (g : Program) (well : well_made g) (laid : accepted l (shape_of g)) where
  -- every target is a number below 2 ^ 64
  target_small : (t : Target) → IsThere g t → IsTypedTarget t → target_value l g t < 2 ^ 64
  target_small (Number n) there typed = typed
  target_small (Address block offset) there typed = mod-lt _ (lit< tt)
  target_small (Code p) there typed = let high = (is_address l g well laid p there).high in omega arith
  target_small (targets.Undefined symbol) there typed = lit< tt

  pointer_stands : (t : Target) → IsThere g t → IsTypedTarget t → FillingStands (placement_of l g) g l (Pointer t)
  pointer_stands (Number n) there typed = stand_number (placement_of l g) g 8 n
  pointer_stands (Address block offset) there typed =
      stand_parts (placement_of l g) g 8 (target_value l g (Address block offset)) (λ k. Part k (Addr (Block block) offset)) (λ k. ((there, typed), refl))
  pointer_stands (Code p) there typed = stand_parts (placement_of l g) g 8 (target_value l g (Code p)) (λ k. Part k (At p)) (λ k. (there, refl))
  pointer_stands (targets.Undefined symbol) there typed = stand_blank (placement_of l g) g 8 0

  -- what is known of a difference that fits
  module _ (size n : ℕ) (p q : Target) (f : Formed size 1 (distance l g p q) n) (there_p : IsThere g p) (there_q : IsThere g q) (typed_p : IsTypedTarget p) (typed_q : IsTypedTarget q) where
    abbrev difference : ℕ
    difference = less (target_value l g p) (target_value l g q)

    on_bytes : (cs : List Cell) → Stand (placement_of l g) g cs (bytes_of size difference) → Stand (placement_of l g) g cs (bytes_of size n)
    on_bytes cs h =
        let P : List ℕ → Type 0 = λ bs. Stand (placement_of l g) g cs bs in
        subst P (sym (same_bytes size (target_value l g p) (target_value l g q) n (target_small q there_q typed_q) f)) h

    difference_same : less (target_number (placement_of l g) g p) (target_number (placement_of l g) g q) ≡ difference
    difference_same = ap (λ a. less a (target_number (placement_of l g) g q)) (target_same l g p) ∙ ap (less (target_value l g p)) (target_same l g q)

    number_stands : (m : ℕ) → m ≡ difference → Stand (placement_of l g) g (number_cells size m) (bytes_of size n)
    number_stands m e =
        let P : ℕ → Type 0 = λ x. Stand (placement_of l g) g (number_cells size x) (bytes_of size n) in
        subst P (sym e) (on_bytes (number_cells size difference) (stand_number (placement_of l g) g size difference))

    module _ (target_p : IsTarget g p) (target_q : IsTarget g q) where
      part_is : (k : ℕ) → IsCell (placement_of l g) g (Part k (Diff p q)) (byte_of k difference)
      part_is k = ((target_p, target_q), ap (byte_of k) (sym difference_same))

      quarter_is : (size == 8) ≡ false → (k : ℕ) → IsCell (placement_of l g) g (Quarter k p q) (byte_of k difference)
      quarter_is not_eight k =
          let close = near size (target_value l g p) (target_value l g q) n (target_small p there_p typed_p) (target_small q there_q typed_q) not_eight f in
          let P : ℕ → Type 0 = λ x. sign_extended 32 64 x ≡ x in
          (target_p, target_q, subst P (sym difference_same) close, ap (byte_of k) (sym difference_same))

      far_if : (b : Bool) → (size == 8) ≡ b → Stand (placement_of l g) g (if b then value_cells (Diff p q) else parts_from size 0 (λ k. Quarter k p q)) (bytes_of size n)
      far_if true eight =
          let same = eqb-true size 8 eight in
          let P : ℕ → Type 0 = λ s. Stand (placement_of l g) g (value_cells (Diff p q)) (bytes_of s difference) in
          on_bytes (value_cells (Diff p q)) (subst P (sym same) (stand_parts (placement_of l g) g 8 difference (λ k. Part k (Diff p q)) part_is))
      far_if false not_eight = on_bytes (parts_from size 0 (λ k. Quarter k p q)) (stand_parts (placement_of l g) g size difference (λ k. Quarter k p q) (quarter_is not_eight))

  -- two targets that are defined
  differ_stands : (size n : ℕ) (p q : Target) → Formed size 1 (distance l g p q) n → IsThere g p → IsThere g q → IsTypedTarget p → IsTypedTarget q → undefined_in p ≡ None → undefined_in q ≡ None
      → Stand (placement_of l g) g (if size == 8 then value_cells (Diff p q) else parts_from size 0 (λ k. Quarter k p q)) (bytes_of size n)
  differ_stands size n p q f there_p there_q typed_p typed_q defined_p defined_q =
      far_if size n p q f there_p there_q typed_p typed_q (is_target g p there_p typed_p defined_p) (is_target g q there_q typed_q defined_q) (size == 8) refl

  -- two addresses in data: of one block, or not
  blocks_stand : (size n : ℕ) (a b : List ℕ) (x y : ℕ) → Formed size 1 (distance l g (Address a x) (Address b y)) n → IsThere g (Address a x) → IsThere g (Address b y) → x < 2 ^ 64 → y < 2 ^ 64 → (same : Bool) → bytes_eq a b ≡ same
      → Stand (placement_of l g) g (option_map_or (number_cells size) (if same then Some (less x y) else None) (far_cells size (Address a x) (Address b y))) (bytes_of size n)
  blocks_stand size n a b x y f there_p there_q typed_p typed_q true is =
      let base : target_value l g (Address a y) ≡ target_value l g (Address b y) = ap (λ id. target_value l g (Address id y)) (same_ids a b is) in
      number_stands size n (Address a x) (Address b y) f there_p there_q typed_p typed_q (less x y) (sym (less_moved _ x y typed_p typed_q) ∙ ap (less (target_value l g (Address a x))) base)
  blocks_stand size n a b x y f there_p there_q typed_p typed_q false is = differ_stands size n (Address a x) (Address b y) f there_p there_q typed_p typed_q refl refl

  difference_stands : (size n : ℕ) (p q : Target) → Formed size 1 (distance l g p q) n → IsThere g p → IsThere g q → IsTypedTarget p → IsTypedTarget q → undefined_in p ≡ None → undefined_in q ≡ None
      → Stand (placement_of l g) g (difference_cells size p q) (bytes_of size n)
  difference_stands size n (targets.Undefined s) q f tp tq yp yq dp dq = absurd (none-some s (sym dp))
  difference_stands size n (Number a) (targets.Undefined s) f tp tq yp yq dp dq = absurd (none-some s (sym dq))
  difference_stands size n (Number a) (Number b) f tp tq yp yq dp dq = number_stands size n (Number a) (Number b) f tp tq yp yq (less a b) refl
  difference_stands size n (Number a) (Address b y) f tp tq yp yq dp dq = differ_stands size n (Number a) (Address b y) f tp tq yp yq dp dq
  difference_stands size n (Number a) (Code y) f tp tq yp yq dp dq = differ_stands size n (Number a) (Code y) f tp tq yp yq dp dq
  difference_stands size n (Address a x) (targets.Undefined s) f tp tq yp yq dp dq = absurd (none-some s (sym dq))
  difference_stands size n (Address a x) (Number b) f tp tq yp yq dp dq = differ_stands size n (Address a x) (Number b) f tp tq yp yq dp dq
  difference_stands size n (Address a x) (Address b y) f tp tq yp yq dp dq = blocks_stand size n a b x y f tp tq yp yq (bytes_eq a b) refl
  difference_stands size n (Address a x) (Code y) f tp tq yp yq dp dq = differ_stands size n (Address a x) (Code y) f tp tq yp yq dp dq
  difference_stands size n (Code x) (targets.Undefined s) f tp tq yp yq dp dq = absurd (none-some s (sym dq))
  difference_stands size n (Code x) (Number b) f tp tq yp yq dp dq = differ_stands size n (Code x) (Number b) f tp tq yp yq dp dq
  difference_stands size n (Code x) (Address b y) f tp tq yp yq dp dq = differ_stands size n (Code x) (Address b y) f tp tq yp yq dp dq
  difference_stands size n (Code x) (Code y) f tp tq yp yq dp dq = differ_stands size n (Code x) (Code y) f tp tq yp yq dp dq

  -- an entry of two points
  points_stand : (size scale n : ℕ) (p q : Point) → Formed size scale (distance l g (Code p) (Code q)) n → IsPoint g p → IsPoint g q → stretch_of g p.block ≡ stretch_of g q.block → Stand (placement_of l g) g (entry_cells size scale (Code p) (Code q)) (bytes_of size n)
  points_stand size scale n p q f is_p is_q same =
      let apart : AreSpaced (placement_of l g) g p q = spaced l g well p q is_p is_q same in
      let number : n ≡ entry_number g size scale p q = f.units ∙ ap (λ z. wrapped (8 * size) (int_div_euclid z (pos scale))) apart in
      let P : ℕ → Type 0 = λ m. Stand (placement_of l g) g (entry_cells size scale (Code p) (Code q)) (bytes_of size m) in
      subst P (sym number) (stand_parts (placement_of l g) g size (entry_number g size scale p q) (λ k. EntryPart k size scale p q) (λ k. (is_p, is_q, apart, refl)))

  entry_stands : (size scale n : ℕ) (p q : Target) → Formed size scale (distance l g p q) n → IsThere g p → IsThere g q → IsNearEntry g (Entry size scale p q) → Stand (placement_of l g) g (entry_cells size scale p q) (bytes_of size n)
  entry_stands size scale n (Number a) q f tp tq same = stand_blank (placement_of l g) g size n
  entry_stands size scale n (Address a x) q f tp tq same = stand_blank (placement_of l g) g size n
  entry_stands size scale n (targets.Undefined s) q f tp tq same = stand_blank (placement_of l g) g size n
  entry_stands size scale n (Code p) (Number b) f tp tq same = stand_blank (placement_of l g) g size n
  entry_stands size scale n (Code p) (Address b y) f tp tq same = stand_blank (placement_of l g) g size n
  entry_stands size scale n (Code p) (targets.Undefined s) f tp tq same = stand_blank (placement_of l g) g size n
  entry_stands size scale n (Code p) (Code q) f tp tq same = points_stand size scale n p q f tp tq same

  pub filling_stands : (f : Filling) → IsFilling g f → IsTypedFilling f → IsNearEntry g f → FillingFits l g f → FillingStands (placement_of l g) g l f
  filling_stands (Pointer t) is typed close fits = pointer_stands t is typed
  filling_stands (Difference size p q) is typed close fits =
      let defined = option_neither (undefined_in p) (undefined_in q) fits.0 in
      let P : Result ℕ FitFault → Type 0 = λ r. Stand (placement_of l g) g (difference_cells size p q) (bytes_of size (fit_or 0 r)) in
      subst P (sym fits.1.1) (difference_stands size fits.1.0 p q (formed size 1 (distance l g p q) fits.1.0 fits.1.1) is.1 is.2 typed.0 typed.1 defined.0 defined.1)
  filling_stands (Entry size scale p q) is typed close fits =
      let P : Result ℕ FitFault → Type 0 = λ r. Stand (placement_of l g) g (entry_cells size scale p q) (bytes_of size (fit_or 0 r)) in
      subst P (sym fits.1.1) (entry_stands size scale fits.1.0 p q (formed size scale (distance l g p q) fits.1.0 fits.1.1) is.1 is.2 close)
