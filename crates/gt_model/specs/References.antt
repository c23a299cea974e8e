-- The references of an IR, in order: from which node, to which identifier, and what that must be.
use Rattle.std.specs.Prelude.{ℕ, ◌+◌, ◌==◌, Bool, true, false, List, [], ◌∷◌, ◌++◌, map}
use Rattle.std.specs.List.{flat_map}
use Rattle.std.specs.Option.{option_to_list}
use Rattle.gt_model.specs.declared.edges.Cfg.{Cfg}
use Rattle.gt_model.specs.declared.edges.Edge.{Edge}
use Rattle.gt_model.specs.declared.exprs.Expr.{Expr}
use Rattle.gt_model.specs.declared.exprs.ExprValue.{ExprValue}
use Rattle.gt_model.specs.declared.exprs.ExprValue.TheVariants as values
use Rattle.gt_model.specs.declared.intervals.Interval.{Interval}
use Rattle.gt_model.specs.declared.ir.Ir.{Ir}
use Rattle.gt_model.specs.declared.modules.Module.{Module}
use Rattle.gt_model.specs.declared.modules.Section.{Section}
use Rattle.gt_model.specs.declared.symbols.Symbol.{Symbol}
use Rattle.gt_model.specs.Nodes.{Kind, AProxy, ASymbol, CodeBlock, DataBlock}
use Rattle.gt_model.specs.Views.{referent_of}

-- what the entry of the module of an ordinal may be, a symbol's referent, an expression's symbol, and the end of an edge
pub data Wanted : Type 0 where
  EntryOf : ℕ → Wanted
  ReferentOf : ℕ → Wanted
  SymbolOf : ℕ → Wanted
  Vertex : Wanted

-- a code block of the module
abbrev pub is_code_of : ℕ → Kind → Bool
is_code_of m (CodeBlock k) = m == k
is_code_of m _ = false

-- a code, data or proxy block of the module
abbrev pub is_block_of : ℕ → Kind → Bool
is_block_of m (CodeBlock k) = m == k
is_block_of m (DataBlock k) = m == k
is_block_of m (AProxy k) = m == k
is_block_of m _ = false

-- a symbol of the module
abbrev pub is_symbol_of : ℕ → Kind → Bool
is_symbol_of m (ASymbol k) = m == k
is_symbol_of m _ = false

-- a code or proxy block of any module
abbrev pub is_vertex : Kind → Bool
is_vertex (CodeBlock k) = true
is_vertex (AProxy k) = true
is_vertex _ = false

abbrev pub suits : Wanted → Kind → Bool
suits (EntryOf m) = is_code_of m
suits (ReferentOf m) = is_block_of m
suits (SymbolOf m) = is_symbol_of m
suits Vertex = is_vertex

pub record Reference : Type 0 where
  pub from : List ℕ
  pub to : List ℕ
  pub wanted : Wanted

abbrev pub reference : List ℕ → Wanted → List ℕ → Reference
reference from wanted to = record { from = from; to = to; wanted = wanted }

abbrev pub symbol_references : ℕ → Symbol → List Reference
symbol_references m s = map (reference s.uuid (ReferentOf m)) (option_to_list (referent_of s.payload))

-- the symbols that an expression names, in order
abbrev pub symbols_of : ExprValue → List (List ℕ)
symbols_of values.Nothing = []
symbols_of (values.AddrConst offset symbol) = option_to_list symbol
symbols_of (values.AddrAddr scale offset first second) = option_to_list first ++ option_to_list second

-- of the interval of the identifier
abbrev pub expr_references : ℕ → List ℕ → Expr → List Reference
expr_references m from e = map (reference from (SymbolOf m)) (symbols_of e.value)

abbrev pub interval_references : ℕ → Interval → List Reference
interval_references m i = flat_map (expr_references m i.uuid) i.exprs

abbrev pub section_references : ℕ → Section → List Reference
section_references m s = flat_map (interval_references m) s.intervals

-- the module of an ordinal: its entry, its symbols, its expressions
abbrev pub module_references : ℕ → Module → List Reference
module_references m x =
    map (reference x.uuid (EntryOf m)) (option_to_list x.entry) ++ flat_map (symbol_references m) x.symbols
    ++ flat_map (section_references m) x.sections

abbrev pub references_from : ℕ → List Module → List Reference
references_from m [] = []
references_from m (x ∷ xs) = module_references m x ++ references_from (m + 1) xs

abbrev pub edge_references : List ℕ → Edge → List Reference
edge_references from e = reference from Vertex e.source ∷ reference from Vertex e.target ∷ []

abbrev pub cfg_references : List ℕ → Cfg → List Reference
cfg_references from c = flat_map (edge_references from) c.edges ++ map (reference from Vertex) c.vertices

abbrev pub references : Ir → List Reference
references ir = references_from 0 ir.modules ++ flat_map (cfg_references ir.uuid) (option_to_list ir.cfg)
