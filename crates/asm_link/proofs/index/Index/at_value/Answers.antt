use Rattle.std.proofs.Common.{arith}
use Rattle.std.specs.Str.{bytes_eq}
use Rattle.indexmap.specs.IndexMap.{get}
use Rattle.sym_expr.specs.Layouts.{place_in}
use Rattle.asm_link.proofs.Indexing.{value_same}
use Rattle.asm_link.proofs.Places.{place_low}
use Rattle.asm_link.proofs.index.Index.at_value.Goals as goal

pub address_at-requires : goal.address_at-requires
address_at-requires c =
    let l = c.args.self.now.layout.now in
    let same = value_same (get bytes_eq c.args.self.now.places) (place_in l.places) c.requires.ready.places c.args.at in
    let low = place_low l c.args.self.now.asm.now c.requires.ready.accepted c.args.at c.requires.placed in
    omega (arith, same, low)
