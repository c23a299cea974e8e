-- How much there is of everything, along a graph and in its plain values.
use Rattle.std.proofs.Common.{◌≡◌, ℕ, Bool, true, false, cond, List, map, length, Option, None, Some, refl, sym, ap, ◌∙◌}
use Rattle.std.specs.Prelude.{sum_by, count_by, is_none}
use Rattle.std.specs.Option.{option_map, option_map_or}
use Rattle.std.proofs.lemmas.List.{length-map}
use Rattle.std.proofs.lemmas.List.Concat.{length-flat_map}
use Rattle.aux_codec.specs.declared.value.Place.{Place}
use Rattle.aux_tables.specs.Found.{places_held}
use Rattle.aux_tables.specs.ModuleTables.{shape_of_table, table_places}
use Rattle.aux_types.specs.Shape.{Shape}
use Rattle.gt_model.specs.declared.edges.Cfg.{Cfg}
use Rattle.gt_model.specs.declared.intervals.Interval.{Interval}
use Rattle.gt_model.specs.declared.tables.Aux.{Aux}
use Rattle.ir_check.specs.AtGraph.{interval_ids}
use Rattle.ir_check.specs.Report.{report_of}
use Rattle.ir_check.specs.declared.report.CheckReport.{CheckReport}
use Rattle.ir_check.proofs.Bridge.{sections_intervals, sum_same}
use Rattle.node_arena.specs.Arenas.{Arenas, module_at, interval_at}
use Rattle.node_arena.specs.Plain.{ir_of, plain_module, plain_section, plain_symbol, plain_interval, plain_block, plain_cfg, plain_edge}
use Rattle.node_arena.specs.Sound.{sound}
use Rattle.node_arena.specs.declared.ids.EdgeId.{EdgeId}
use Rattle.node_arena.specs.declared.ids.IntervalId.{IntervalId}
use Rattle.node_arena.specs.declared.ids.ModuleId.{ModuleId}
use Rattle.sym_expr.specs.Modules.{intervals_of, blocks_of}

blocks_are : (g : Arenas) (ids : List IntervalId) → sum_by (λ (id : IntervalId). length (interval_at g id).blocks) ids ≡ length (blocks_of (map (plain_interval g) ids))
blocks_are g ids =
    sym (length-flat_map (λ (i : Interval). i.blocks) (map (plain_interval g) ids)
    ∙ sum_same (λ (i : Interval). length i.blocks) (plain_interval g) (λ (id : IntervalId). length (interval_at g id).blocks) (λ (id : IntervalId). length-map (interval_at g id).blocks (plain_block g)) 0 ids)

exprs_are : (g : Arenas) (ids : List IntervalId) → sum_by (λ (id : IntervalId). length (interval_at g id).exprs) ids ≡ sum_by (λ (i : Interval). length i.exprs) (map (plain_interval g) ids)
exprs_are g ids = sym (sum_same (λ (i : Interval). length i.exprs) (plain_interval g) (λ (id : IntervalId). length (interval_at g id).exprs) (λ (id : IntervalId). refl) 0 ids)

edges_if : (has : Bool) (cfg : Cfg) (n : ℕ) → (has ≡ false → n ≡ 0) → length cfg.edges ≡ n → n ≡ option_map_or (λ (c : Cfg). length c.edges) (cond has (Some cfg) None) 0
edges_if true cfg n none same = sym same
edges_if false cfg n none same = none refl

edges_are : (g : Arenas) → sound g → length g.live ≡ option_map_or (λ (c : Cfg). length c.edges) (ir_of g).cfg 0
edges_are g s = edges_if g.has_cfg (plain_cfg g) (length g.live) (λ e. ap (λ (live : List EdgeId). length live) (s.flow.no_edges e)) (length-map g.live (plain_edge g))

opaque_if : (a : Aux) (o : Option Shape) → is_none (option_map (λ (_ : Shape). table_places a) o) ≡ is_none o
opaque_if a None = refl
opaque_if a (Some shape) = refl

opaque_are : (tables : List Aux) → count_by (λ (places : Option (List Place)). is_none places) (map places_held tables) ≡ count_by (λ (a : Aux). is_none (shape_of_table a)) tables
opaque_are tables =
    sum_same (λ (places : Option (List Place)). cond (is_none places) 1 0) places_held (λ (a : Aux). cond (is_none (shape_of_table a)) 1 0)
    (λ (a : Aux). ap (λ (t : Bool). cond t 1 0) (opaque_if a (shape_of_table a))) 0 tables

abbrev made : ℕ → ℕ → ℕ → ℕ → ℕ → ℕ → ℕ → ℕ → CheckReport
made sections intervals blocks symbols exprs edges tables opaque = record {
  sections = sections;
  intervals = intervals;
  blocks = blocks;
  symbols = symbols;
  exprs = exprs;
  edges = edges;
  tables = tables;
  opaque = opaque;
}

made_same : (a b c d e f g h i j k l m n o p : ℕ) → a ≡ i → b ≡ j → c ≡ k → d ≡ l → e ≡ m → f ≡ n → g ≡ o → h ≡ p → made a b c d e f g h ≡ made i j k l m n o p
made_same a b c d e f g h i j k l m n o p p1 p2 p3 p4 p5 p6 p7 p8 = cc

-- the numbers that are counted along a module of the graph are the report
pub report_is : (g : Arenas) (m : ModuleId) (ids : List IntervalId) (all : List (Option (List Place))) → sound g → ids ≡ interval_ids g (module_at g m).sections → all ≡ map places_held (module_at g m).aux
    → (report : CheckReport)
    → report.sections ≡ length (module_at g m).sections
    → report.intervals ≡ length ids
    → report.blocks ≡ sum_by (λ (id : IntervalId). length (interval_at g id).blocks) ids
    → report.symbols ≡ length (module_at g m).symbols
    → report.exprs ≡ sum_by (λ (id : IntervalId). length (interval_at g id).exprs) ids
    → report.edges ≡ length g.live
    → report.tables ≡ length (module_at g m).aux
    → report.opaque ≡ count_by (λ (places : Option (List Place)). is_none places) all
    → report ≡ report_of (ir_of g) (plain_module g (module_at g m))
report_is g m ids all s same read report e1 e2 e3 e4 e5 e6 e7 e8 =
    let n = module_at g m in
    let is : map (plain_interval g) ids ≡ intervals_of (map (plain_section g) n.sections) = ap (map (plain_interval g)) same ∙ sym (sections_intervals g n.sections) in
    made_same report.sections report.intervals report.blocks report.symbols report.exprs report.edges report.tables report.opaque
    (length (map (plain_section g) n.sections)) (length (intervals_of (map (plain_section g) n.sections))) (length (blocks_of (intervals_of (map (plain_section g) n.sections)))) (length (map (plain_symbol g) n.symbols))
    (sum_by (λ (i : Interval). length i.exprs) (intervals_of (map (plain_section g) n.sections))) (option_map_or (λ (c : Cfg). length c.edges) (ir_of g).cfg 0) (length n.aux) (count_by (λ (a : Aux). is_none (shape_of_table a)) n.aux)
    (e1 ∙ sym (length-map n.sections (plain_section g)))
    (e2 ∙ sym (length-map ids (plain_interval g)) ∙ ap (λ (is : List Interval). length is) is)
    (e3 ∙ blocks_are g ids ∙ ap (λ (is : List Interval). length (blocks_of is)) is)
    (e4 ∙ sym (length-map n.symbols (plain_symbol g)))
    (e5 ∙ exprs_are g ids ∙ ap (λ (is : List Interval). sum_by (λ (i : Interval). length i.exprs) is) is)
    (e6 ∙ edges_are g s)
    e7
    (e8 ∙ ap (λ (ps : List (Option (List Place))). count_by (λ (places : Option (List Place)). is_none places) ps) read ∙ opaque_are n.aux)
