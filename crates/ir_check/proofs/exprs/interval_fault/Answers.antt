use Rattle.std.proofs.Common.{◌≡◌, sym, ap, ◌∙◌, length, get_or, ◌<◌, arith}
use Rattle.std.specs.Str.{bytes_eq}
use Rattle.indexmap.specs.IndexMap.{get}
use Rattle.sym_expr.specs.Tables.{expr_size}
use Rattle.ir_check.specs.Along.{interval_with}
use Rattle.ir_check.specs.Faults.{fault_of}
use Rattle.ir_check.specs.Sites.{aim_in}
use Rattle.ir_check.proofs.AlongInterval.{item_is, fault_found, finds_more}
use Rattle.ir_check.proofs.First.{found_item, none_item}
use Rattle.ir_check.proofs.exprs.interval_fault.Goals as goal

pub returns-in-Some : goal.returns-in-Some
returns-in-Some c =
    let exprs = c.args.node.now.exprs in
    let e = c.index-exprs-k.result in
    let inside : c.loop-k.k < length c.as_slice-exprs.result.now = omega arith in
    let within : c.loop-k.k < length exprs = omega (arith, ap length c.as_slice-exprs.ensures) in
    let is : e ≡ get_or exprs c.loop-k.k e = item_is c.as_slice-exprs.result.now exprs c.loop-k.k e c.as_slice-exprs.ensures c.index-exprs-k.is in
    let found : c.expr_fault.result ≡ fault_of c.args.plain.now (aim_in (get bytes_eq c.args.names.now.aims)) (expr_size c.args.names.now.tables c.args.node.now.uuid) (interval_with c.args.node.now c.args.span.now.blocks) e =
    fault_found c.args.plain.now (aim_in (get bytes_eq c.args.names.now.aims)) (expr_size c.args.names.now.tables c.args.node.now.uuid) c.args.node.now c.args.span.now.blocks c.loop-k.blocks.now c.after-blocks.result.now c.args.span.now.ordered c.as_slice-exprs.result.now c.loop-k.k e c.covering-home.result c.expr_fault.result
    c.requires.ascending c.requires.ordered c.as_slice-exprs.ensures inside c.index-exprs-k.is c.loop-k.invariant.1 c.after-blocks.ensures c.covering-home.ensures c.expr_fault.ensures in
    found_item _ exprs c.loop-k.k e c.in-Some.fault c.loop-k.invariant.0 within is (sym c.in-Some.is ∙ found)

pub loop-k-preserved : goal.loop-k-preserved
loop-k-preserved c =
    let exprs = c.args.node.now.exprs in
    let e = c.index-exprs-k.result in
    let inside : c.loop-k.k < length c.as_slice-exprs.result.now = omega arith in
    let within : c.loop-k.k < length exprs = omega (arith, ap length c.as_slice-exprs.ensures) in
    let is : e ≡ get_or exprs c.loop-k.k e = item_is c.as_slice-exprs.result.now exprs c.loop-k.k e c.as_slice-exprs.ensures c.index-exprs-k.is in
    let found : c.expr_fault.result ≡ fault_of c.args.plain.now (aim_in (get bytes_eq c.args.names.now.aims)) (expr_size c.args.names.now.tables c.args.node.now.uuid) (interval_with c.args.node.now c.args.span.now.blocks) e =
    fault_found c.args.plain.now (aim_in (get bytes_eq c.args.names.now.aims)) (expr_size c.args.names.now.tables c.args.node.now.uuid) c.args.node.now c.args.span.now.blocks c.loop-k.blocks.now c.after-blocks.result.now c.args.span.now.ordered c.as_slice-exprs.result.now c.loop-k.k e c.covering-home.result c.expr_fault.result
    c.requires.ascending c.requires.ordered c.as_slice-exprs.ensures inside c.index-exprs-k.is c.loop-k.invariant.1 c.after-blocks.ensures c.covering-home.ensures c.expr_fault.ensures in (
      none_item _ exprs c.loop-k.k e c.loop-k.invariant.0 within is (sym c.in_default.is ∙ found),
      rw c.after-blocks.ensures (finds_more exprs c.loop-k.k e c.loop-k.blocks.now c.args.span.now.ordered c.requires.ascending is c.loop-k.invariant.1),
    )
