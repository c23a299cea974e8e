use Rattle.std.proofs.Common.{map}
use Rattle.std.specs.List.{flat_map}
use Rattle.std.specs.Option.{option_to_list}
use Rattle.std.proofs.lemmas.Result.{err_from_is_err_and}
use Rattle.gt_model.specs.References.{reference, EntryOf, symbol_references, section_references}
use Rattle.node_arena.specs.Checking.{kind_found}
use Rattle.node_arena.proofs.Faults.{none-both, fault-later, fault-earlier, checks-later}
use Rattle.node_arena.proofs.checks.check_module.Goals as goal

pub returns-in_err-check_symbols : goal.returns-in_err-check_symbols
returns-in_err-check_symbols c =
    let p = err_from_is_err_and c.from_residual-in_err-check_symbols.result c.from_residual-in_err-check_symbols.ensures.1 in
    let kind_of = kind_found c.args.arena.now c.args.index.now in
    let m = c.args.module.now in
    let entry = map (reference m.uuid (EntryOf c.args.id.index)) (option_to_list m.entry) in
    let symbols = flat_map (symbol_references c.args.id.index) m.symbols in
    rw (p.1, p.2)
    (fault-earlier kind_of _ (flat_map (section_references c.args.id.index) m.sections) _
    (fault-later kind_of entry symbols _ c.in_ok-check_optional.ensures (rw c.as_slice.ensures at c.in_err-check_symbols.ensures)))

pub returns : goal.returns
returns c =
    let kind_of = kind_found c.args.arena.now c.args.index.now in
    let m = c.args.module.now in
    let entry = map (reference m.uuid (EntryOf c.args.id.index)) (option_to_list m.entry) in
    let symbols = flat_map (symbol_references c.args.id.index) m.symbols in
    checks-later c.args.arena.now c.args.index.now _ (flat_map (section_references c.args.id.index) m.sections) c.check_sections.result
    (none-both kind_of entry symbols c.in_ok-check_optional.ensures (rw c.as_slice.ensures at c.in_ok-check_symbols.ensures))
    (rw c.as_slice-2.ensures at c.check_sections.ensures)
