use Rattle.std.proofs.Common.{◌≡◌, ℕ, ◌-◌, List, Option, Some, sym, ap, ◌∙◌}
use Rattle.std.specs.Option.{option_map}
use Rattle.edge_repair.specs.Ends.{last_of}
use Rattle.new_edges.proofs.PartEnds.{last_at}
use Rattle.new_edges.proofs.leaving.leaving_of.Goals as goal
use Rattle.new_edges.specs.declared.leaving.Leaving.{Leaving}
use Rattle.new_edges.specs.Leaving.{falls_of, jumping_start, leaving_from}
use Rattle.new_edges.specs.Parts.{id_at}

abbrev leave : Option (List ℕ) → List ℕ → Leaving
leave falls jumps = record { falls = falls; jumps = jumps }

pub returns-in_ok-jumps-in-Some : goal.returns-in_ok-jumps-in-Some
returns-in_ok-jumps-in-Some c =
    let m = c.args.module.now in
    let b = c.args.block.now in
    let parts = c.as_slice-parts.result.now in
    let last = c.in-Some.last.now in
    let found : Some last ≡ last_of b.parts = c.in-Some.ensures.value ∙ last_at parts ∙ ap last_of c.as_slice-parts.ensures in
    ap (λ falls. Some (leave falls c.in_ok-jumps-in-Some.jumps)) c.in_ok-falls-in-Some.ensures
    ∙ ap (λ jumps. Some (leave (falls_of m b.id last) jumps))
    (c.in_ok-jumps-in-Some.ensures
    ∙ ap (id_at m b.id) (c.jumping_start-start.ensures ∙ ap (λ offset. jumping_start offset last parts) c.saturating_sub.ensures ∙ ap (jumping_start (b.size - 4) last) c.as_slice-parts.ensures))
    ∙ ap (option_map (leaving_from m b)) found
