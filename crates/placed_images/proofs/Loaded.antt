-- The memory of an image holds the bytes of each piece at its address, and the stack's zeros.
use Rattle.std.proofs.Common.{◌≡◌, ℕ, zero, suc, ◌+◌, ◌-◌, ◌<◌, ◌≤◌, ◌⊎◌, inl, inr, true, false, Some, ◌∷◌, length, map, replicate, refl, sym, ap, ◌∙◌, arith}
use Rattle.std.specs.Prelude.{filter, not, slice_index}
use Rattle.std.specs.List.{AllByRecursion as Every}
use Rattle.std.proofs.lemmas.Bool.{cond-true, cases_lt, ne_eqb}
use Rattle.std.proofs.lemmas.List.{length-replicate}
use Rattle.bare_image.specs.declared.image.Segment.{Segment}
use Rattle.paged_memory.specs.Mapping.{Mapping, byte_in, stack_of}
use Rattle.sym_expr.specs.declared.layout.Layout.{Layout}
use Rattle.sym_expr.specs.declared.program.Program.{Program}
use Rattle.sym_expr.specs.declared.program.Stretch.{Stretch}
use Rattle.sym_expr.specs.Images.{addressed, by_address, image, is_some_bytes, segment_of, stretch_bytes}
use Rattle.sym_expr.specs.Layouts.{accepted, address_of}
use Rattle.sym_expr.specs.Placing.{shape_of, stretch_size}
use Rattle.sym_expr.specs.WellMade.{well_made}
use Rattle.placed_images.proofs.Found.{all_addressed}
use Rattle.placed_images.proofs.Lengths.{AreGood, all_good, HasPiece, length-stretch, stretch_held}
use Rattle.placed_images.proofs.Lists.{SameOr, every_both, every_filter, every_flat, every_map, every_weaker}
use Rattle.placed_images.proofs.Memory.{Has, Holds, IsOr, covers, covers_above, covers_below, covers_inside, has_each, has_kept, has_mapped, has_sorted, every_sorted, holds_each, other_byte}
use Rattle.placed_images.proofs.Spread.{Off, OffStack, all_off_stack, stretches_two}

-- the memory of an image
abbrev pub memory_of : Layout → Program → Mapping
memory_of l g = byte_in (stack_of (image g l) ∷ (image g l).segments)

-- a list of numbers has zeros
zeros_at : (n k : ℕ) → k < n → slice_index (replicate n 0) k ≡ 0
zeros_at zero k lt = absurd (omega arith)
zeros_at (suc n) zero lt = refl
zeros_at (suc n) (suc k) lt = zeros_at n k (omega arith)

pub stack_loaded : (l : Layout) (g : Program) (k : ℕ) → k < l.stack_size → memory_of l g (l.stack_at + k) ≡ Some 0
stack_loaded l g k lt =
    let s : Segment = stack_of (image g l) in
    let size : length (stack_of (image g l)).bytes ≡ l.stack_size = length-replicate l.stack_size 0 in
    let here : l.stack_at + k - l.stack_at ≡ k = omega arith in
    cond-true (covers (l.stack_at + k) s) (Some (slice_index s.bytes (l.stack_at + k - l.stack_at))) (byte_in (image g l).segments (l.stack_at + k)) (covers_inside (l.stack_at + k) s (omega arith) (omega arith))
    ∙ ap (λ n. Some (slice_index s.bytes n)) here ∙ ap Some (zeros_at l.stack_size k lt)

module _ (l : Layout) (g : Program) (s : Stretch) (k : ℕ) (lt : k < stretch_size s) (good : AreGood g s) where
  size : length (stretch_bytes l g s) ≡ stretch_size s
  size = length-stretch l g s good

  not_stack : OffStack l s → 0 < l.stack_size → covers (address_of l s.id + k) (stack_of (image g l)) ≡ false
  not_stack off some = from (off (omega arith) some)
    where
      from : (address_of l s.id + stretch_size s ≤ l.stack_at) ⊎ (l.stack_at + l.stack_size ≤ address_of l s.id) → covers (address_of l s.id + k) (stack_of (image g l)) ≡ false
      from (inl e) = covers_below (address_of l s.id + k) (stack_of (image g l)) (omega arith)
      from (inr e) = let n : length (stack_of (image g l)).bytes ≡ l.stack_size = length-replicate l.stack_size 0 in covers_above (address_of l s.id + k) (stack_of (image g l)) (omega arith)

  -- another interval does not have the address
  not_other : (t : Stretch) → AreGood g t → SameOr (Off l) s t → IsOr (address_of l s.id + k) (segment_of l g s) (segment_of l g t)
  not_other t fine (inl e) = inl (ap (segment_of l g) (sym e))
  not_other t fine (inr off) =
      elim (cases_lt 0 (stretch_size t)) [
        | inl some ↦ inr (from (off (omega arith) some))
        | inr none ↦
            elim (cases_lt (address_of l s.id + k) (address_of l t.id)) [
              | inl below ↦ inr (covers_below (address_of l s.id + k) (segment_of l g t) below)
              | inr above ↦ let n = length-stretch l g t fine in inr (covers_above (address_of l s.id + k) (segment_of l g t) (omega arith))
            ]
      ]
    where
      from : (address_of l s.id + stretch_size s ≤ address_of l t.id) ⊎ (address_of l t.id + stretch_size t ≤ address_of l s.id) → covers (address_of l s.id + k) (segment_of l g t) ≡ false
      from (inl e) = covers_below (address_of l s.id + k) (segment_of l g t) (omega arith)
      from (inr e) = let n = length-stretch l g t fine in covers_above (address_of l s.id + k) (segment_of l g t) (omega arith)

  is_some : is_some_bytes s ≡ true
  is_some = ap not (ne_eqb (stretch_size s) 0 (λ e. omega arith))

  loaded_byte : OffStack l s → 0 < l.stack_size → Every (λ t. AreGood g t × SameOr (Off l) s t) g.stretches → Has s g.stretches
      → memory_of l g (address_of l s.id + k) ≡ Some (slice_index (stretch_bytes l g s) k)
  loaded_byte off some others has =
      let a = address_of l s.id + k in
      let n = size in
      let here : address_of l s.id + k - address_of l s.id ≡ k = omega arith in
      let segments = map (segment_of l g) (filter is_some_bytes g.stretches) in
      other_byte a (segment_of l g s) (covers_inside a (segment_of l g s) (omega arith) (omega arith)) (stack_of (image g l)) (by_address segments) (not_stack off some)
      (every_sorted (IsOr a (segment_of l g s)) segments
      (every_map (segment_of l g) (IsOr a (segment_of l g s)) (filter is_some_bytes g.stretches)
      (every_filter is_some_bytes (λ t. IsOr a (segment_of l g s) (segment_of l g t)) g.stretches
      (every_weaker (λ t. AreGood g t × SameOr (Off l) s t) (λ t. IsOr a (segment_of l g s) (segment_of l g t)) (λ t h. not_other t h.0 h.1) g.stretches others))))
      (has_sorted (segment_of l g s) segments (has_mapped (segment_of l g) s (filter is_some_bytes g.stretches) (has_kept is_some_bytes s g.stretches is_some has)))
      ∙ ap (λ i. Some (slice_index (stretch_bytes l g s) i)) here

module _ (l : Layout) (g : Program) (well : well_made g) (laid : accepted l (shape_of g)) where
  -- what is known of an interval among the others
  abbrev Known : Stretch → Type 0
  Known s = (AreGood g s × OffStack l s) × (Every (SameOr (Off l) s) g.stretches × Has s g.stretches)

  all_known : Every Known g.stretches
  all_known =
      every_both (λ s. AreGood g s × OffStack l s) (λ s. Every (SameOr (Off l) s) g.stretches × Has s g.stretches) g.stretches
      (every_both (AreGood g) (OffStack l) g.stretches (all_good g well) (all_off_stack l g laid))
      (every_both (λ s. Every (SameOr (Off l) s) g.stretches) (λ s. Has s g.stretches) g.stretches (stretches_two l g laid) (has_each g.stretches))

  stretch_loaded : (s : Stretch) → Known s → Holds (memory_of l g) (address_of l s.id) (stretch_bytes l g s)
  stretch_loaded s known =
      let n = length-stretch l g s known.0.0 in
      let some = laid.stack_size.some in
      holds_each (memory_of l g) (stretch_bytes l g s) (address_of l s.id) (λ k lt.
      let inside : k < stretch_size s = omega arith in
      loaded_byte l g s k inside known.0.0 known.0.1 (omega arith) (every_both (AreGood g) (SameOr (Off l) s) g.stretches (all_good g well) known.1.0) known.1.1)

  -- memory has the bytes of each piece
  pub pieces_loaded : Every (HasPiece l g (memory_of l g)) (all_addressed l g)
  pieces_loaded =
      every_flat (addressed l) (HasPiece l g (memory_of l g)) g.stretches
      (every_weaker Known (λ (s : Stretch). Every (HasPiece l g (memory_of l g)) (addressed l s)) (λ s known. stretch_held l g (memory_of l g) s known.0.0 (stretch_loaded s known)) g.stretches all_known)
