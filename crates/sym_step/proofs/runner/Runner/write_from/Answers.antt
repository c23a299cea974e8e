use Rattle.std.proofs.Common.{◌≡◌, ◌≤◌, ◌+◌, ◌^◌, length, take, drop, sym, ap, ◌∙◌, arith, rules}
use Rattle.std.specs.Prelude.{Some}
use Rattle.std.specs.Option.{option_copied}
use Rattle.sym_expr.specs.Symbolic.{bytes_in}
use Rattle.sym_step.proofs.Cells.{bytes_fill}
use Rattle.sym_values.specs.Kept.{kept_cells}
use Rattle.sym_step.proofs.runner.Runner.write_from.Goals as goal

pub write-requires : goal.write-requires
write-requires c =
    let cells = kept_cells c.args.self.now.memory c.args.object.now in
    let inside : c.args.at + c.args.count ≤ length cells = search rules in
    let room : length c.args.self.now.output.bytes.items + c.args.count ≤ 2 ^ 24 = search rules in
    let all : bytes_in (take c.args.count (drop c.args.at cells)) ≡ Some c.in-Some.bytes.now = sym c.bytes.ensures ∙ ap option_copied c.in-Some.is in
    omega (arith, bytes_fill cells c.args.at c.args.count c.in-Some.bytes.now inside all, room)
