use Rattle.std.proofs.Common.{◌≡◌, ◌∙◌, ℕ, List, ap, sym, subst}
use Rattle.std.specs.List.{AllByRecursion}
use Rattle.std.specs.Str.{bytes_eq}
use Rattle.indexmap.specs.IndexMap.{get}
use Rattle.asm_modules.specs.declared.module.AsmLabel.{AsmLabel}
use Rattle.sym_expr.specs.declared.layout.PlaceAt.{PlaceAt}
use Rattle.sym_expr.specs.Layouts.{place_in}
use Rattle.asm_link.specs.Kept.{FitsBy}
use Rattle.asm_link.proofs.Indexing.{all_fit_same}
use Rattle.asm_link.proofs.Places.{labels_low}
use Rattle.asm_link.proofs.index.Index.new.Goals as goal

pub index_labels-requires : goal.index_labels-requires
index_labels-requires c =
    let l = c.args.layout.now in
    let m = c.args.asm.now in
    let kept = get bytes_eq c.in_ok-places.places in
    let same : (id : List ℕ) → kept id ≡ place_in l.places id = λ id. c.in_ok-places.ensures id ∙ ap (λ (ps : List PlaceAt). place_in ps id) c.as_slice.ensures in
    subst (λ (xs : List AsmLabel). AllByRecursion (FitsBy kept) xs) (sym c.as_slice-2.ensures) (all_fit_same kept (place_in l.places) same m.labels (labels_low l m c.requires.ok c.requires.accepted))
