use Rattle.std.proofs.Common.{List, ap, ◌∙◌}
use Rattle.std.specs.Option.{option_map}
use Rattle.edge_repair.specs.Ends.{symbol_start}
use Rattle.gt_model.specs.declared.modules.Module.{Module}
use Rattle.new_edges.proofs.context.Context.new.Goals as goal
use Rattle.new_edges.proofs.Labels.{names_found}
use Rattle.new_edges.specs.Loaded.{symbol_of}
use Rattle.new_edges.specs.Names.{start_among}
use Rattle.sym_expr.specs.declared.patches.Function.{Function}

pub returns-clause-known : goal.returns-clause-known
returns-clause-known c =
    let m = c.args.module.now in
    let p = c.args.patches.now in
    record {
      symbols = λ id. c.in_ok-symbols.ensures id ∙ ap (λ (x : Module). option_map (symbol_start x) (symbol_of id x.symbols)) c.in_ok-loaded.ensures.from;
      names = λ name. c.in_ok-names.ensures name ∙ ap (λ (fs : List Function). start_among m fs name) c.as_slice.ensures ∙ names_found m name p.functions;
    }
