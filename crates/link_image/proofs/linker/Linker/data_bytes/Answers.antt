use Rattle.std.proofs.Common.{◌≡◌, ◌∙◌, length, sym, arith, rules}
use Rattle.sym_expr.specs.Images.{filling_fault}
use Rattle.link_image.proofs.DataBytes.{bytes_before, fault_before, written}
use Rattle.link_image.proofs.linker.Linker.data_bytes.Goals as goal

pub loop-left-preserved : goal.loop-left-preserved
loop-left-preserved c =
    let x = c.index-fillings-left.result in
    let l = c.args.self.now.layout.now in
    let g = c.args.self.now.program.now in
    let fs = c.args.block.now.fillings in
    let here = rw c.as_slice-fillings.ensures at c.index-fillings-left.is in
    let len : c.loop-left.bytes.len ≡ length c.loop-left.bytes.items = search rules in
    let new_len : length c.overlay_filling.new.bytes ≡ length c.loop-left.bytes.items = search rules in
    let now = written c.loop-left.bytes.len c.overlay_filling.new.bytes c.loop-left.bytes.items len new_len in
    record {
      within = omega arith;
      len = rw now (omega (arith, c.loop-left.invariant.len));
      fault = c.or-first.ensures ∙ fault_before (filling_fault l g c.args.stretch.now c.args.at) fs c.loop-left.left x c.overlay_filling.result c.loop-left.first c.loop-left-test.true c.loop-left.invariant.within here c.overlay_filling.ensures.fault c.loop-left.invariant.fault;
      bytes = λ none. now ∙ bytes_before (filling_fault l g c.args.stretch.now c.args.at) fs c.loop-left.left x c.overlay_filling.result c.loop-left.first l g c.loop-left.bytes.items c.overlay_filling.new.bytes c.args.block.now.bytes c.loop-left-test.true c.loop-left.invariant.within here (rw c.deref_mut.ensures.value at c.overlay_filling.ensures.bytes) c.loop-left.invariant.bytes (sym c.or-first.ensures ∙ none);
    }
