-- Whether the bytes are too many, and the image of the whole.
use Rattle.std.proofs.Common.{◌≡◌, ℕ, ◌+◌, ◌^◌, ◌<◌, ◌≤◌, ltb, Some, None, Result, Ok, Err, IfOk, All, List, [], ◌∷◌, ◌++◌, sum_by, sym, ap, subst, ◌∙◌, inl, inr}
use Rattle.std.specs.List.{flat_map}
use Rattle.std.proofs.lemmas.Bool.{cases_lt, cond-true, cond-false, lt-ltb, le-ltb}
use Rattle.asm_modules.specs.declared.module.AsmModule.{AsmModule}
use Rattle.asm_modules.specs.Valid.{asm_ok, interval_size}
use Rattle.bare_image.specs.declared.image.Image.{Image}
use Rattle.bare_image.specs.Valid.{image_ok}
use Rattle.gr_base.specs.declared.end.End.{End}
use Rattle.sym_expr.specs.declared.layout.Layout.{Layout}
use Rattle.sym_expr.specs.declared.link_fault.LinkFault.{LinkFault}
use Rattle.sym_expr.specs.declared.link_fault.LinkFault.TheVariants.{TooBig}
use Rattle.sym_expr.specs.Images.{first_fault}
use Rattle.sym_expr.specs.Layouts.{accepted}
use Rattle.asm_link.specs.Answers.{Tells}
use Rattle.asm_link.specs.Linked.{asm_image, asm_link_fault, interval_faults}
use Rattle.asm_link.specs.Ready.{HasBytes}
use Rattle.asm_link.specs.Shaping.{shape_asm}
use Rattle.asm_link.proofs.ImageRules.{image_rules}
use Rattle.asm_link.proofs.Indexing.{at_is}
use Rattle.asm_link.proofs.Places.{entered_placed, entry_on_fours, place_low}

-- the bytes of the intervals and of the stack
abbrev pub bytes_in_all : AsmModule → Layout → ℕ
bytes_in_all m l = sum_by interval_size m.intervals + l.stack_size

pub too_big : (m : AsmModule) (l : Layout) → 2 ^ 24 < bytes_in_all m l → asm_link_fault m l ≡ Some (TooBig (bytes_in_all m l))
too_big m l over =
    ap (λ (xs : List LinkFault). first_fault (xs ++ flat_map (interval_faults l m.labels) m.intervals))
    (cond-true (ltb (2 ^ 24) (bytes_in_all m l)) (TooBig (bytes_in_all m l) ∷ []) [] (lt-ltb (2 ^ 24) (bytes_in_all m l) over))

pub not_too_big : (m : AsmModule) (l : Layout) → bytes_in_all m l ≤ 2 ^ 24 → asm_link_fault m l ≡ first_fault (flat_map (interval_faults l m.labels) m.intervals)
not_too_big m l under =
    ap (λ (xs : List LinkFault). first_fault (xs ++ flat_map (interval_faults l m.labels) m.intervals))
    (cond-false (ltb (2 ^ 24) (bytes_in_all m l)) (TooBig (bytes_in_all m l) ∷ []) [] (le-ltb (2 ^ 24) (bytes_in_all m l) under))

-- an image without a fault is as it should be
images_ok : (m : AsmModule) (l : Layout) → asm_ok m → accepted l (shape_asm m) → asm_link_fault m l ≡ None → All HasBytes (asm_image m l).segments → image_ok (asm_image m l)
images_ok m l ok is none bytes =
    elim (cases_lt (2 ^ 24) (bytes_in_all m l)) [
      | inl over ↦ let clash = sym (too_big m l over) ∙ none in cc
      | inr under ↦
          let low = place_low l m is m.entry (entered_placed m.intervals m.entry ok.entry) in
          let entry = at_is l m.entry in
          image_rules m l is under (subst (λ n. n < 2 ^ 64) entry low) (entry_on_fours l m ok is m.entry ok.entry) bytes
    ]

pub ok_from : (m : AsmModule) (l : Layout) (r : Result Image (End LinkFault)) → asm_ok m → accepted l (shape_asm m)
    → IfOk r (λ (made : Image). made ≡ asm_image m l) → Tells r (asm_link_fault m l) → IfOk r (λ (made : Image). All HasBytes made.segments) → IfOk r image_ok
ok_from m l (Ok made) ok laid is fault bytes = subst image_ok (sym is) (images_ok m l ok laid fault (subst (λ (x : Image). All HasBytes x.segments) is bytes))
ok_from m l (Err e) ok laid is fault bytes = tt
