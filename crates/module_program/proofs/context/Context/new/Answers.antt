use Rattle.module_program.proofs.context.Context.new.Goals as goal

pub returns-clause-known : goal.returns-clause-known
returns-clause-known c =
    let known = c.in_ok-context.ensures.known in
    record { names = record { symbols = known.symbols; names = known.names }; inserted = c.in_ok-context-2.ensures }
