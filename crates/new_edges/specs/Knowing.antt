-- What a context knows of its module and patches, and what patches insert.
use Rattle.std.specs.Prelude.{◌≡◌, ℕ, List, [], filter, map, Option, unwrap_or}
use Rattle.std.specs.HashMap.{get_by_text}
use Rattle.std.specs.List.{flat_map}
use Rattle.std.specs.Option.{option_map}
use Rattle.std.specs.Str.{bytes_eq}
use Rattle.std.specs.declared.hash.FoldHasher.{FoldHasher}
use Rattle.std.specs.declared.hash.BuildHasherDefault.{BuildHasherDefault}
use Rattle.indexmap.specs.IndexMap.{IndexMap, get}
use Rattle.edge_repair.specs.Ends.{name_start, symbol_start}
use Rattle.gt_model.specs.declared.modules.Module.{Module}
use Rattle.new_edges.specs.declared.context.Context.{Context}
use Rattle.new_edges.specs.declared.new_end.Branch.{Branch}
use Rattle.new_edges.specs.Loaded.{symbol_of}
use Rattle.new_edges.specs.NewEnds.{branch_of}
use Rattle.rewrite.specs.Exprs.{news_of}
use Rattle.sym_expr.specs.declared.patches.Insert.{Insert}
use Rattle.sym_expr.specs.declared.patches.PatchTable.{PatchTable}
use Rattle.sym_expr.specs.declared.patches.PatchWord.{PatchWord}
use Rattle.sym_expr.specs.declared.patches.SymbolName.TheVariants as sorts

-- the blocks at whose starts symbols and names are
pub record Knows (c : Context) : Type 0 where
  pub symbols : (id : List ℕ) → get bytes_eq c.symbols id ≡ option_map (symbol_start c.module.now) (symbol_of id c.module.now.symbols)
  pub names : (name : List ℕ) → get_by_text c.names name ≡ name_start c.module.now c.patches.now (sorts.New name)

-- the words that some inserts put into a block, in the order of the patches
abbrev pub news_among : List Insert → List ℕ → List PatchWord
news_among inserts block =
    map (λ (w : ℕ × PatchWord). w.1) (flat_map (λ (i : Insert). map (λ (w : PatchWord). (i.offset, w)) i.body) (filter (λ (i : Insert). bytes_eq i.block block) inserts))

-- where they lead
abbrev pub branches_among : Module → PatchTable → List Insert → List ℕ → List (Option Branch)
branches_among m p inserts block = map (branch_of m p) (news_among inserts block)

-- branches by the block in which their words are inserted
abbrev pub Branches : Type 0
Branches = IndexMap (List ℕ) (List (Option Branch)) (BuildHasherDefault FoldHasher)

abbrev pub branches_in : Branches → List ℕ → List (Option Branch)
branches_in branches block = unwrap_or (get bytes_eq branches block) []

-- they are those of all words that the patches insert
abbrev pub KnowsBranches : Module → PatchTable → Branches → Type 0
KnowsBranches m p branches = (id : List ℕ) → branches_in branches id ≡ map (branch_of m p) (news_of p id)
