use Rattle.std.proofs.Common.{Err, sym, ap, ◌∙◌}
use Rattle.node_arena.specs.Stored.{arenas_of}
use Rattle.node_arena.proofs.Again.{holds-again, no-repeat}
use Rattle.node_arena.proofs.copies.index_again.Goals as goal

pub returns-in-Ok : goal.returns-in-Ok
returns-in-Ok c = holds-again c.args.arena.now c.in-Ok.index c.requires c.in-Ok.ensures.entries

pub unreachable-requires : goal.unreachable-requires
unreachable-requires c =
    let fault = c.indexed.ensures.fault c.in-Err-Fault.field-0-0 (c.in-Err-Fault.is ∙ ap (λ e. Err e) c.in-Err-Fault.field-0-is) in
    let both = sym (no-repeat (arenas_of c.args.arena.now) c.requires) ∙ fault.2 in
    cc
