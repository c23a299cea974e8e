use Rattle.std.proofs.Common.{◌≡◌, ◌∷◌, ◌∙◌, ℕ, List, Option, Some, [], refl, sym, ap}
use Rattle.std.specs.HashMap.{get_by_text}
use Rattle.std.specs.Map.{update}
use Rattle.std.specs.Option.{unwrap_or}
use Rattle.std.specs.Str.{bytes_eq}
use Rattle.std.specs.String.{string_bytes}
use Rattle.std.proofs.lemmas.Map.Text.{hash_map_updates_text}
use Rattle.patch_lines.specs.declared.symbols.SymbolUse.{SymbolUse}
use Rattle.patch_lines.proofs.Grown.{grown}
use Rattle.patch_lines.proofs.symbols.insert_use.Goals as goal

pub returns : goal.returns
returns c =
    let old = c.args.names.now in
    let new = c.insert.new.self in
    let uses = c.in_ok-uses.uses in
    let none : unwrap_or (get_by_text old c.args.name.now) [] ≡ [] = ap (λ (o : Option (List SymbolUse)). unwrap_or o []) c.requires in
    grown (λ (q : List ℕ). get_by_text old q) (λ (q : List ℕ). get_by_text new q) c.args.name.now c.args.named [] uses none c.in_ok-uses.ensures
    (λ q. hash_map_updates_text (string_bytes c.in_ok-key.key) old new (Some uses) c.in_ok-insert.ensures.updates q
    ∙ ap (λ (bs : List ℕ). update bytes_eq (λ (p : List ℕ). get_by_text old p) bs (Some uses) q) c.in_ok-key.ensures.ok)
