use Rattle.std.proofs.Common.{◌≡◌, ◌∙◌, ap, sym, rules}
use Rattle.sym_expr.specs.Differences.{diff_fit}
use Rattle.asm_link.specs.Values.{item_value}
use Rattle.asm_link.proofs.index.Index.item_value.Goals as goal

pub returns-in-Entry : goal.returns-in-Entry
returns-in-Entry c =
    let fits : c.diff_fit-in-Entry.result ≡ diff_fit c.in-Entry.size c.in-Entry.scale c.distance-in-Entry.result = search rules in
    fits
    ∙ ap (diff_fit c.in-Entry.size c.in-Entry.scale) c.distance-in-Entry.ensures.distance
    ∙ ap (item_value c.args.self.now.layout.now c.args.self.now.asm.now.labels c.args.at) (sym c.in-Entry.is)
