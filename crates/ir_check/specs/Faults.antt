-- What is wrong with a module as a program: one definition for each fault, and the first of all (the rules are ours).
use Rattle.std.specs.Prelude.{ℕ, ◌^◌, ℤ, pos, Bool, true, false, ◌&&◌, ◌||◌, not, nat_lt, if◌then◌else◌, List, [], ◌∷◌, map, filter, find, Option, Some, None}
use Rattle.std.specs.List.{filter_map, flat_map, list_any}
use Rattle.std.specs.Option.{option_map, option_map_or, option_or, option_and_then}
use Rattle.std.specs.Ordering.{int_eq}
use Rattle.std.specs.Str.{bytes_eq}
use Rattle.aux_codec.specs.declared.value.Place.{Place}
use Rattle.gt_model.specs.declared.exprs.Expr.{Expr}
use Rattle.gt_model.specs.declared.intervals.Block.{Block}
use Rattle.gt_model.specs.declared.intervals.Interval.{Interval}
use Rattle.gt_model.specs.declared.modules.Module.{Module}
use Rattle.gt_model.specs.declared.modules.Section.{Section}
use Rattle.gt_model.specs.declared.tables.Aux.{Aux}
use Rattle.ir_check.specs.declared.profile.Plain.{Plain}
use Rattle.ir_check.specs.declared.profile.Plain.TheVariants as plain
use Rattle.ir_check.specs.declared.profile.Profile.{Profile}
use Rattle.aux_tables.specs.ModuleTables.{table_fault, table_places, tables_of}
use Rattle.node_arena.specs.declared.fault.CheckFault.{CheckFault}
use Rattle.node_arena.specs.declared.fault.CheckFault.TheVariants as faults
use Rattle.sym_expr.specs.declared.aim.Aim.{Aim}
use Rattle.sym_expr.specs.Expressions.{ExprFault, BadOperand, BadTarget, expr_fault, symbol_aim}
use Rattle.sym_expr.specs.Linkable.{thread_locals, total_size, long_intervals, outside_blocks, overlaps, crooked_blocks, is_entered}
use Rattle.sym_expr.specs.Modules.{loaded_sections, loaded_intervals, blocks_of, id_of, size_of, is_code, block_of}
use Rattle.sym_expr.specs.Tables.{Tables, expr_size}

-- the first element of a list
abbrev pub first : {A : Type 0} → List A → Option A
first [] = None
first (x ∷ rest) = Some x

-- the instruction set is the profile's, and the byte order is not stated or little endian (GTIRB's 0 and 2)
abbrev pub is_a64 : Profile → Module → Bool
is_a64 profile m = int_eq m.isa profile.isa && (int_eq m.byte_order (pos 0) || int_eq m.byte_order (pos 2))

abbrev pub not_a64 : Profile → Module → Option CheckFault
not_a64 profile m = if is_a64 profile m then None else Some (faults.NotA64 m.isa m.byte_order)

abbrev pub thread_local : Module → Option CheckFault
thread_local m = option_map (λ (s : Section). faults.ThreadLocal s.uuid) (first (thread_locals (loaded_sections m)))

abbrev pub large : Module → Option CheckFault
large m = if nat_lt (2 ^ 24) (total_size (loaded_intervals m)) then Some (faults.Large (total_size (loaded_intervals m))) else None

abbrev pub contents_long : Module → Option CheckFault
contents_long m = option_map (λ (i : Interval). faults.ContentsLong i.uuid) (first (long_intervals (loaded_intervals m)))

abbrev pub block_outside : Module → Option CheckFault
block_outside m = option_map (λ b. faults.BlockOutside (id_of b)) (first (outside_blocks (loaded_intervals m)))

abbrev pub overlap : Module → Option CheckFault
overlap m = option_map (λ (pair : Block × Block). faults.Overlap (id_of pair.0) (id_of pair.1)) (first (overlaps (loaded_intervals m)))

abbrev pub code_align : Module → Option CheckFault
code_align m = option_map (λ b. faults.CodeAlign (id_of b)) (first (crooked_blocks (loaded_intervals m)))

abbrev pub no_entry : Module → Option CheckFault
no_entry m = if is_entered m then None else Some faults.NoEntry

-- the faults of the tables, which ascend by name
abbrev pub aux_fault : Aux → Option CheckFault
aux_fault a = option_map (faults.Aux a.name) (table_fault a)

abbrev pub aux_faults : List Aux → List CheckFault
aux_faults tables = filter_map aux_fault tables

-- the size of the interval, or of the code block, of an identifier
abbrev pub interval_size : List Interval → List ℕ → Option ℕ
interval_size intervals id = option_map (λ (i : Interval). i.size) (find (λ (i : Interval). bytes_eq i.uuid id) intervals)

abbrev pub size_of_code : Block → Option ℕ
size_of_code b = if is_code b then Some (size_of b) else None

abbrev pub code_size : List Interval → List ℕ → Option ℕ
code_size intervals id = option_and_then size_of_code (block_of id (blocks_of intervals))

abbrev pub size_named : List Interval → List ℕ → Option ℕ
size_named intervals id = option_or (interval_size intervals id) (code_size intervals id)

-- the Place is past the size of what it names
abbrev pub is_past : List Interval → Place → Bool
is_past intervals place = option_map_or (λ size. nat_lt size place.offset) (size_named intervals place.id) false

abbrev pub bad_places_in : List Interval → Aux → List CheckFault
bad_places_in intervals a = map (λ (p : Place). faults.BadPlace a.name p.id p.offset) (filter (is_past intervals) (table_places a))

abbrev pub bad_places : List Interval → List Aux → List CheckFault
bad_places intervals tables = flat_map (bad_places_in intervals) tables

-- the flag leaves the meaning to the instruction's form
abbrev pub is_plain : Plain → ℤ → Bool
is_plain plain.All flag = true
is_plain (plain.These flags) flag = list_any (int_eq flag) flags

-- what is wrong with an expression: its first flag that is not plain, its place, its target
abbrev pub flag_fault : Plain → Interval → Expr → Option CheckFault
flag_fault allowed i e = option_map (λ flag. faults.Flag i.uuid e.at flag) (find (λ flag. not (is_plain allowed flag)) e.flags)

abbrev pub named_fault : Interval → Expr → ExprFault → CheckFault
named_fault i e BadOperand = faults.BadOperand i.uuid e.at
named_fault i e BadTarget = faults.BadTarget i.uuid e.at

abbrev pub fault_of : Plain → (List ℕ → Aim) → (ℕ → ℕ) → Interval → Expr → Option CheckFault
fault_of allowed aim size i e = option_or (flag_fault allowed i e) (option_map (named_fault i e) (expr_fault aim size i e))

abbrev pub faults_in : Plain → Module → Tables → Interval → List CheckFault
faults_in allowed m t i = filter_map (fault_of allowed (symbol_aim m) (expr_size t i.uuid) i) i.exprs

-- expression by expression, in order
abbrev pub faults_of_exprs : Plain → Module → Tables → List CheckFault
faults_of_exprs allowed m t = flat_map (faults_in allowed m t) (loaded_intervals m)

-- the first fault, by its number and then in order of nodes; those of expressions come expression by expression
abbrev pub check_fault : Profile → Module → Option CheckFault
check_fault profile m =
    option_or (not_a64 profile m)
    (option_or (thread_local m)
    (option_or (large m)
    (option_or (contents_long m)
    (option_or (block_outside m)
    (option_or (overlap m)
    (option_or (code_align m)
    (option_or (no_entry m)
    (option_or (first (aux_faults m.aux))
    (option_or (first (bad_places (loaded_intervals m) m.aux))
    (first (faults_of_exprs profile.plain m (tables_of m))))))))))))
