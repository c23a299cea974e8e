-- Whether the bytes are too many, and the faults of the whole.
use Rattle.std.proofs.Common.{◌≡◌, ℕ, ◌+◌, ◌^◌, ◌<◌, ◌≤◌, ltb, Some, None, Result, Ok, Err, IfOk, All, List, [], ◌∷◌, ◌++◌, length, get_or, drop, sum_by, sym, ap, subst, ◌∙◌, inl, inr}
use Rattle.std.specs.List.{flat_map}
use Rattle.std.proofs.lemmas.Bool.{cases_lt, cond-true, cond-false, lt-ltb, le-ltb}
use Rattle.std.proofs.lemmas.List.Sums.{sum_by-cons}
use Rattle.bare_image.specs.declared.image.Image.{Image}
use Rattle.bare_image.specs.Valid.{image_ok}
use Rattle.gr_base.specs.declared.end.End.{End}
use Rattle.sym_expr.specs.declared.layout.Layout.{Layout}
use Rattle.sym_expr.specs.declared.link_fault.LinkFault.{LinkFault}
use Rattle.sym_expr.specs.declared.link_fault.LinkFault.TheVariants.{TooBig}
use Rattle.sym_expr.specs.declared.program.Program.{Program}
use Rattle.sym_expr.specs.declared.program.Stretch.{Stretch}
use Rattle.sym_expr.specs.Images.{first_fault, image, link_fault, stretch_faults}
use Rattle.sym_expr.specs.Layouts.{accepted}
use Rattle.sym_expr.specs.Placing.{shape_of, stretch_size}
use Rattle.sym_expr.specs.WellMade.{well_made}
use Rattle.link_image.specs.Answers.{Tells}
use Rattle.link_image.specs.Ready.{HasBytes}
use Rattle.link_image.proofs.ImageRules.{image_rules}
use Rattle.link_image.proofs.Lists.{dropped}
use Rattle.link_image.proofs.Multiples.{LeastIsMultiple, point_on_fours}

-- the bytes of the intervals and of the stack
abbrev pub bytes_in_all : Program → Layout → ℕ
bytes_in_all g l = sum_by stretch_size g.stretches + l.stack_size

pub too_big : (g : Program) (l : Layout) → 2 ^ 24 < bytes_in_all g l → link_fault g l ≡ Some (TooBig (bytes_in_all g l))
too_big g l over =
    ap (λ (xs : List LinkFault). first_fault (xs ++ flat_map (stretch_faults l g) g.stretches))
    (cond-true (ltb (2 ^ 24) (bytes_in_all g l)) (TooBig (bytes_in_all g l) ∷ []) [] (lt-ltb (2 ^ 24) (bytes_in_all g l) over))

pub not_too_big : (g : Program) (l : Layout) → bytes_in_all g l ≤ 2 ^ 24 → link_fault g l ≡ first_fault (flat_map (stretch_faults l g) g.stretches)
not_too_big g l under =
    ap (λ (xs : List LinkFault). first_fault (xs ++ flat_map (stretch_faults l g) g.stretches))
    (cond-false (ltb (2 ^ 24) (bytes_in_all g l)) (TooBig (bytes_in_all g l) ∷ []) [] (le-ltb (2 ^ 24) (bytes_in_all g l) under))

-- the size of the interval at i, and of those behind it
pub sizes_split : (ss : List Stretch) (i : ℕ) (s : Stretch) → i < length ss → s ≡ get_or ss i s → sum_by stretch_size (drop i ss) ≡ stretch_size s + sum_by stretch_size (drop (i + 1) ss)
sizes_split ss i s lt is = ap (sum_by stretch_size) (dropped ss i s lt is) ∙ sum_by-cons stretch_size s (drop (i + 1) ss)

-- an image without a fault is as it should be
pub images_ok : LeastIsMultiple → (g : Program) (l : Layout) → well_made g → accepted l (shape_of g) → link_fault g l ≡ None → All HasBytes (image g l).segments → image_ok (image g l)
images_ok multiple g l well is none bytes =
    elim (cases_lt (2 ^ 24) (bytes_in_all g l)) [
      | inl over ↦ let clash = sym (too_big g l over) ∙ none in cc
      | inr under ↦ let entry = point_on_fours multiple l g g.entry well is well.entry.2 in image_rules g l well is under entry.1 entry.0 bytes
    ]

pub ok_from : (g : Program) (l : Layout) (r : Result Image (End LinkFault)) → (link_fault g l ≡ None → All HasBytes (image g l).segments → image_ok (image g l))
    → IfOk r (λ (made : Image). made ≡ image g l) → Tells r (link_fault g l) → IfOk r (λ (made : Image). All HasBytes made.segments) → IfOk r image_ok
ok_from g l (Ok made) law is fault bytes = subst image_ok (sym is) (law fault (subst (λ (m : Image). All HasBytes m.segments) is bytes))
ok_from g l (Err e) law is fault bytes = tt
