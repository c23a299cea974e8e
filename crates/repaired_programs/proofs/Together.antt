-- The images and the faults of two programs whose intervals say one thing each.
use Rattle.std.proofs.Common.{◌≡◌, ℕ, ◌+◌, ◌^◌, Bool, true, false, List, [], ◌∷◌, ◌++◌, length, map, refl, sym, ap, ◌∙◌, arith}
use Rattle.std.specs.Prelude.{◌==◌, filter, if◌then◌else◌, nat_lt, not, sum_by}
use Rattle.std.specs.List.{AllByRecursion as Every, AllZip, flat_map, fold}
use Rattle.std.proofs.lemmas.Bool.{both_ways}
use Rattle.gt_model.specs.declared.modules.Module.{Module}
use Rattle.repaired_programs.specs.Named.{IsOneStretch}
use Rattle.repaired_programs.specs.Pieces.{bare_program, bare_stretch, new_program, new_stretch}
use Rattle.sym_expr.specs.declared.layout.Layout.{Layout}
use Rattle.sym_expr.specs.declared.link_fault.LinkFault.TheVariants.{TooBig}
use Rattle.sym_expr.specs.declared.program.CodeBlock.{CodeBlock}
use Rattle.sym_expr.specs.declared.program.Program.{Program}
use Rattle.sym_expr.specs.declared.program.Stretch.{Stretch}
use Rattle.sym_expr.specs.declared.shape.Shape.{Shape}
use Rattle.sym_expr.specs.declared.shape.ShapeSpot.{ShapeSpot}
use Rattle.sym_expr.specs.Images.{by_address, first_fault, image, is_some_bytes, link_fault, point_address, segment_of, stretch_bytes, stretch_faults}
use Rattle.sym_expr.specs.Layouts.{address_of}
use Rattle.sym_expr.specs.Placing.{shape_of, spot_of, stretch_size}
use Rattle.sym_expr.specs.WellMade.{IsCode, well_made}
use Rattle.repaired_programs.proofs.Bare.{AreNamed}
use Rattle.repaired_programs.proofs.Images.{same_bytes, same_stretch_faults}
use Rattle.repaired_programs.proofs.Known.{all_told, IsCounted, IsCountedPiece, IsTold}
use Rattle.repaired_programs.proofs.Lists.{every_weaker}

cons_rest : {X : Type 0} (x y : X) (xs ys : List X) → x ∷ xs ≡ y ∷ ys → xs ≡ ys
cons_rest x y xs ys e = cc

cons_first : {X : Type 0} (x y : X) (xs ys : List X) → x ∷ xs ≡ y ∷ ys → x ≡ y
cons_first x y xs ys e = cc

abbrev IsCountedIn : Stretch → Type 0
IsCountedIn s = Every IsCountedPiece s.pieces

module _ (l : Layout) (new g : Program) (named : (b : CodeBlock) → AreNamed b) (m : Module) where
  either_segments : (s t : Stretch) (ss ts : List Stretch) (x y : Bool) → x ≡ y → segment_of l new s ≡ segment_of l g t → map (segment_of l new) ss ≡ map (segment_of l g) ts
      → map (segment_of l new) (if x then s ∷ ss else ss) ≡ map (segment_of l g) (if y then t ∷ ts else ts)
  either_segments s t ss ts true true e h rest = ap (λ z. z ∷ map (segment_of l new) ss) h ∙ ap (λ zs. segment_of l g t ∷ zs) rest
  either_segments s t ss ts true false e h rest = absurd (both_ways true e refl)
  either_segments s t ss ts false true e h rest = absurd (both_ways true (sym e) refl)
  either_segments s t ss ts false false e h rest = rest

  same_size : (s t : Stretch) → spot_of s ≡ spot_of t → stretch_size s ≡ stretch_size t
  same_size s t e = ap (λ (x : ShapeSpot). x.size) e

  same_segment : (s t : Stretch) → bare_stretch s ≡ new_stretch m t → IsCountedIn t → IsOneStretch l new g s t → segment_of l new s ≡ segment_of l g t
  same_segment s t e counted h =
      ap (λ (x : Stretch). record { at = address_of l x.id; bytes = stretch_bytes l new s }) e
      ∙ ap (λ bytes. record { at = address_of l t.id; bytes = bytes }) (same_bytes l new g named m s t e counted h)

  segments : (ss ts : List Stretch) → map bare_stretch ss ≡ map (new_stretch m) ts → map spot_of ss ≡ map spot_of ts → Every IsCountedIn ts → AllZip (IsOneStretch l new g) ss ts
      → map (segment_of l new) (filter is_some_bytes ss) ≡ map (segment_of l g) (filter is_some_bytes ts)
  segments [] [] e f counted h = refl
  segments [] (t ∷ ts) e f counted h = absurd h
  segments (s ∷ ss) [] e f counted h = absurd h
  segments (s ∷ ss) (t ∷ ts) e f counted h =
      let size = same_size s t (cons_first (spot_of s) (spot_of t) (map spot_of ss) (map spot_of ts) f) in
      either_segments s t (filter is_some_bytes ss) (filter is_some_bytes ts) (is_some_bytes s) (is_some_bytes t) (ap (λ n. not (n == 0)) size)
      (same_segment s t (cons_first (bare_stretch s) (new_stretch m t) (map bare_stretch ss) (map (new_stretch m) ts) e) counted.0 h.0)
      (segments ss ts (cons_rest (bare_stretch s) (new_stretch m t) (map bare_stretch ss) (map (new_stretch m) ts) e) (cons_rest (spot_of s) (spot_of t) (map spot_of ss) (map spot_of ts) f) counted.1 h.1)

  faults : (ss ts : List Stretch) → map bare_stretch ss ≡ map (new_stretch m) ts → Every IsCountedIn ts → AllZip (IsOneStretch l new g) ss ts → flat_map (stretch_faults l new) ss ≡ flat_map (stretch_faults l g) ts
  faults [] [] e counted h = refl
  faults [] (t ∷ ts) e counted h = absurd h
  faults (s ∷ ss) [] e counted h = absurd h
  faults (s ∷ ss) (t ∷ ts) e counted h =
      ap (λ x. x ++ flat_map (stretch_faults l new) ss) (same_stretch_faults l new g named m s t (cons_first (bare_stretch s) (new_stretch m t) (map bare_stretch ss) (map (new_stretch m) ts) e) counted.0 h.0)
      ∙ ap (λ x. stretch_faults l g t ++ x) (faults ss ts (cons_rest (bare_stretch s) (new_stretch m t) (map bare_stretch ss) (map (new_stretch m) ts) e) counted.1 h.1)

  sums : (sum : ℕ) (ss ts : List Stretch) → map spot_of ss ≡ map spot_of ts → fold (λ a x. a + stretch_size x) sum ss ≡ fold (λ a x. a + stretch_size x) sum ts
  sums sum [] [] f = refl
  sums sum [] (t ∷ ts) f = let n = ap length f in absurd (omega (arith, n))
  sums sum (s ∷ ss) [] f = let n = ap length f in absurd (omega (arith, n))
  sums sum (s ∷ ss) (t ∷ ts) f =
      let size = same_size s t (cons_first (spot_of s) (spot_of t) (map spot_of ss) (map spot_of ts) f) in
      ap (λ n. fold (λ a x. a + stretch_size x) (sum + n) ss) size ∙ sums (sum + stretch_size t) ss ts (cons_rest (spot_of s) (spot_of t) (map spot_of ss) (map spot_of ts) f)

  counted_in : well_made g → ((b : CodeBlock) → IsCode g b → IsCounted b) → Every IsCountedIn g.stretches
  counted_in made count = every_weaker IsTold IsCountedIn (λ s k. k.counted) g.stretches (all_told g count made)

  pub same_image : well_made g → ((b : CodeBlock) → IsCode g b → IsCounted b) → shape_of new ≡ shape_of g → bare_program new ≡ new_program m g → AllZip (IsOneStretch l new g) new.stretches g.stretches
      → point_address l new new.entry ≡ point_address l g g.entry → image new l ≡ image g l
  same_image made count shape bare h entry =
      ap (λ n. record { entry = n; stack_at = l.stack_at; stack_size = l.stack_size; segments = by_address (map (segment_of l new) (filter is_some_bytes new.stretches)) }) entry
      ∙ ap (λ ss. record { entry = point_address l g g.entry; stack_at = l.stack_at; stack_size = l.stack_size; segments = by_address ss })
      (segments new.stretches g.stretches (ap (λ (x : Program). x.stretches) bare) (ap (λ (x : Shape). x.spots) shape) (counted_in made count) h)

  pub same_link_fault : well_made g → ((b : CodeBlock) → IsCode g b → IsCounted b) → shape_of new ≡ shape_of g → bare_program new ≡ new_program m g → AllZip (IsOneStretch l new g) new.stretches g.stretches
      → link_fault new l ≡ link_fault g l
  same_link_fault made count shape bare h =
      ap (λ n. first_fault ((if nat_lt (2 ^ 24) (n + l.stack_size) then TooBig (n + l.stack_size) ∷ [] else []) ++ flat_map (stretch_faults l new) new.stretches)) (sums 0 new.stretches g.stretches (ap (λ (x : Shape). x.spots) shape))
      ∙ ap (λ fs. first_fault ((if nat_lt (2 ^ 24) (sum_by stretch_size g.stretches + l.stack_size) then TooBig (sum_by stretch_size g.stretches + l.stack_size) ∷ [] else []) ++ fs))
      (faults new.stretches g.stretches (ap (λ (x : Program). x.stretches) bare) (counted_in made count) h)
