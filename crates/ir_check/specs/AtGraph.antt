-- The loaded sections of a graph's module, by their identifiers.
use Rattle.std.specs.Prelude.{ℕ, Bool, List, filter, Option}
use Rattle.std.specs.List.{flat_map}
use Rattle.node_arena.specs.Arenas.{Arenas, module_at, section_at, interval_at}
use Rattle.node_arena.specs.Plain.{plain_section, plain_interval}
use Rattle.node_arena.specs.declared.ids.IntervalId.{IntervalId}
use Rattle.node_arena.specs.declared.ids.ModuleId.{ModuleId}
use Rattle.node_arena.specs.declared.ids.SectionId.{SectionId}
use Rattle.node_arena.specs.declared.fault.CheckFault.{CheckFault}
use Rattle.ir_check.specs.declared.profile.Plain.{Plain}
use Rattle.ir_check.specs.Faults.{fault_of}
use Rattle.ir_check.specs.Spans.{first_in, only_if}
use Rattle.sym_expr.specs.declared.aim.Aim.{Aim}
use Rattle.sym_expr.specs.Tables.{Tables, expr_size}
use Rattle.sym_expr.specs.Modules.{has_flag}

abbrev pub flagged : Arenas → ℕ → SectionId → Bool
flagged g flag id = has_flag flag (plain_section g id)

-- the loaded sections of a module, and the intervals of sections
abbrev pub loaded_ids : Arenas → ModuleId → List SectionId
loaded_ids g m = filter (flagged g 4) (module_at g m).sections

abbrev pub interval_ids : Arenas → List SectionId → List IntervalId
interval_ids g sections = flat_map (λ s. (section_at g s).intervals) sections

abbrev pub thread_local_at : Arenas → SectionId → Option (List ℕ)
thread_local_at g id = only_if (flagged g 6 id) (section_at g id).uuid

-- the first fault of the expressions of an interval
abbrev pub faults_at : Plain → (List ℕ → Aim) → Tables → Arenas → IntervalId → Option CheckFault
faults_at allowed aim t g id = first_in (fault_of allowed aim (expr_size t (interval_at g id).uuid) (plain_interval g id)) (interval_at g id).exprs
