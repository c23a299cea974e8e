-- The faults of what is loaded, as the checks find them. What a check is stands in the other files.
use Rattle.std.specs.Prelude.{ℕ, ◌^◌, Bool, false, nat_lt, is_some, if◌then◌else◌, List, sum_by, Option, Some, None}
use Rattle.std.specs.Option.{option_map, option_map_or, option_or}
use Rattle.std.specs.Str.{bytes_eq}
use Rattle.indexmap.specs.IndexMap.{get}
use Rattle.gt_model.specs.declared.intervals.Block.{Block}
use Rattle.ir_check.specs.declared.part.LoadedPart.{LoadedPart}
use Rattle.ir_check.specs.declared.sites.Site.{Site}
use Rattle.ir_check.specs.declared.span.Span.{Span}
use Rattle.ir_check.specs.AtGraph.{thread_local_at}
use Rattle.ir_check.specs.Spans.{first_in, long_in, outside_in, overlap_in, crooked_in}
use Rattle.node_arena.specs.Arenas.{Arenas, module_at}
use Rattle.node_arena.specs.Plain.{block_id}
use Rattle.node_arena.specs.declared.fault.CheckFault.{CheckFault}
use Rattle.node_arena.specs.declared.fault.CheckFault.TheVariants as faults
use Rattle.node_arena.specs.declared.ids.ModuleId.{ModuleId}
use Rattle.node_arena.specs.declared.ids.SectionId.{SectionId}
use Rattle.sym_expr.specs.Modules.{id_of}

abbrev pub sections_fault : Arenas → List SectionId → Option CheckFault
sections_fault g sections = option_map faults.ThreadLocal (first_in (thread_local_at g) sections)

abbrev pub span_sizes : List Span → ℕ
span_sizes spans = sum_by (λ (s : Span). s.size) spans

abbrev pub large_in : List Span → Option CheckFault
large_in spans = if nat_lt (2 ^ 24) (span_sizes spans) then Some (faults.Large (span_sizes spans)) else None

abbrev pub intervals_fault : List Span → Option CheckFault
intervals_fault spans = option_or (large_in spans) (option_map faults.ContentsLong (first_in long_in spans))

abbrev pub outside_fault : List Span → Option CheckFault
outside_fault spans = option_map (λ (b : Block). faults.BlockOutside (id_of b)) (first_in outside_in spans)

abbrev pub overlap_fault : List Span → Option CheckFault
overlap_fault spans = option_map (λ (pair : Block × Block). faults.Overlap (id_of pair.0) (id_of pair.1)) (first_in overlap_in spans)

abbrev pub crooked_fault : List Span → Option CheckFault
crooked_fault spans = option_map (λ (b : Block). faults.CodeAlign (id_of b)) (first_in crooked_in spans)

abbrev pub blocks_fault : List Span → Option CheckFault
blocks_fault spans = option_or (outside_fault spans) (option_or (overlap_fault spans) (crooked_fault spans))

-- an entry is found among the loaded blocks
abbrev pub is_entered_in : (List ℕ → Option Site) → Option (List ℕ) → Bool
is_entered_in found entry = option_map_or (λ id. is_some (found id)) entry false

abbrev pub entry_fault : (List ℕ → Option Site) → Option (List ℕ) → Option CheckFault
entry_fault found entry = if is_entered_in found entry then None else Some faults.NoEntry

abbrev pub part_fault : Arenas → ModuleId → LoadedPart → Option CheckFault
part_fault g m p =
    option_or (sections_fault g p.sections.items)
    (option_or (intervals_fault p.spans.items)
    (option_or (blocks_fault p.spans.items)
    (entry_fault (get bytes_eq p.sites) (option_map (block_id g) (module_at g m).entry))))
