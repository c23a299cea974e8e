use Rattle.std.proofs.Common.{◌≡◌, ◌≢◌, [], length, ◌∙◌}
use Rattle.aux_tables.specs.ModuleTables.{tables_of}
use Rattle.block_parts.specs.Words.{patched_words}
use Rattle.edge_repair.specs.Repaired.{repaired, repaired_module}
use Rattle.rewrite.specs.Places.{moved_tables}
use Rattle.sym_expr.specs.declared.patches.Function.{Function}
use Rattle.sym_expr.specs.declared.program.CodeBlock.{CodeBlock}
use Rattle.sym_expr.specs.Points.{code_blocks}
use Rattle.sym_expr.specs.Program.{program}
use Rattle.sym_expr.specs.TableOk.{function_words}
use Rattle.sym_expr.specs.WellMade.{IsCode}
use Rattle.repaired_images.proofs.Distinct.{block_pairs}
use Rattle.repaired_images.proofs.Free.{free_of}
use Rattle.repaired_images.proofs.Lists.{contained_in, In, of_every}
use Rattle.repaired_images.proofs.News.{new_one}
use Rattle.repaired_images.proofs.Olds.{SymbolsOne}
use Rattle.repaired_images.proofs.Whole.{all_say, functions_aim, inserts_aim, none_more, repaired_there}
use Rattle.repaired_images.proofs.laws.one_fault.Goals as goal

pub returns : goal.returns
returns c = λ ir m p l h few ok none good.
    let t = tables_of m in
    let ids = c.free_without_fault.ensures ir m p none in
    let free = free_of ir m p none in
    let made = c.patched_programs_are_well_made.ensures ir m t p h few ok ids in
    let links = c.repaired_irs_are_linked.ensures.linked ir m p h ok none in
    let there = contained_in (repaired_module m t p) (repaired ir m t p).modules (repaired_there ir m p h.member) in
    let apart = c.blocks_of_programs_are_apart.ensures (repaired_module m t p) (moved_tables m t p) (block_pairs (repaired ir m t p) (repaired_module m t p) links there) in
    let loaded : SymbolsOne m p l = λ id offset k. c.symbols_keep_what_they_name.ensures ir m t p l h few ok ids apart id offset k in
    let bodied : (f : Function) → In f p.functions → function_words f ≢ [] = λ f k. of_every (λ (f : Function). function_words f ≢ []) f p.functions ok.bodies k in
    let counted : (b : CodeBlock) → In b (code_blocks (program m t p)) → b.inserted ≡ [] → length (patched_words b) ≡ length b.own = λ b k e. c.words_are_counted.ensures (program m t p) b (of_every (IsCode (program m t p)) b (code_blocks (program m t p)) made.codes k) ∙ none_more b e in
    let news = new_one ir m p l h bodied links there (c.points_keep_their_addresses.ensures.starts ir m t p l h few ok ids apart) (c.points_keep_their_addresses.ensures.ends ir m t p l h few ok ids apart) c.whole_blocks_are_one_part.ensures counted in
    let inserts = inserts_aim ir m p l h ok free loaded news in
    let functions = functions_aim ir m p l h ok free loaded news in
    let says = all_say ir m p l h ok free loaded news (c.moved_sizes_are_kept.ensures ir m p h none good) (c.bytes_stay_without_words.ensures ir m t p h few ok ids)
    (c.intervals_without_words_say_one.ensures ir m t p l h few ok ids) (c.intervals_with_words_say_one.ensures ir m t p l h few ok ids inserts) in
    let brings = c.functions_say_one.ensures m t p l ok.typed functions in
    c.images_follow_intervals.ensures.faults ir m t p l h few ok ids says brings
