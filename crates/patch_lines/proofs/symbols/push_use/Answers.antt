use Rattle.std.proofs.Common.{◌++◌, ◌∷◌, ℕ, List, Option, Some, [], refl, sym, ap, subst}
use Rattle.std.specs.Prelude.{IsSome}
use Rattle.std.specs.HashMap.{get_by_text}
use Rattle.std.specs.Option.{unwrap_or}
use Rattle.std.proofs.lemmas.Map.Text.{hash_map_updates_text}
use Rattle.patch_lines.proofs.Grown.{grown}
use Rattle.patch_lines.proofs.symbols.push_use.Goals as goal

pub returns-in_ok-push-in-Some : goal.returns-in_ok-push-in-Some
returns-in_ok-push-in-Some g c =
    let w = c.push.new.self in
    let old = c.args.names.now in
    let new = c.get_mut.follows.lender w in
    let writes = (c.get_mut.follows.holds w).3 (subst IsSome c.in-Some.ensures.value refl) in
    grown (λ (q : List ℕ). get_by_text old q) (λ (q : List ℕ). get_by_text new q) c.args.name.now c.args.named c.in-Some.uses.now w
    (sym (ap (λ o. unwrap_or o []) c.in-Some.ensures.value)) c.in_ok-push-in-Some.ensures.ok
    (λ q. hash_map_updates_text c.args.name.now old new (Some w) writes q)
