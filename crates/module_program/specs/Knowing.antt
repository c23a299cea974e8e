-- What a context knows of its module and patches.
use Rattle.std.specs.Prelude.{◌≡◌, ℕ, IfSome, List, [], map, unwrap_or}
use Rattle.std.specs.HashMap.{get_by_text}
use Rattle.std.specs.List.{AllByRecursion}
use Rattle.std.specs.Option.{option_map}
use Rattle.std.specs.Str.{bytes_eq}
use Rattle.indexmap.specs.IndexMap.{get}
use Rattle.gt_model.specs.declared.modules.Module.{Module}
use Rattle.module_program.specs.Cutting.{point_among}
use Rattle.module_program.specs.declared.context.Context.{Context}
use Rattle.module_program.specs.Inserting.{inserted_among}
use Rattle.module_program.specs.Naming.{base_of, symbol_of}
use Rattle.sym_expr.specs.declared.patches.FunLine.{FunLine}
use Rattle.sym_expr.specs.declared.patches.FunLine.TheVariants as lines
use Rattle.sym_expr.specs.declared.patches.Function.{Function}
use Rattle.sym_expr.specs.declared.patches.Insert.{Insert}
use Rattle.sym_expr.specs.declared.patches.PatchTable.{PatchTable}
use Rattle.sym_expr.specs.declared.patches.PatchTarget.{PatchTarget}
use Rattle.sym_expr.specs.declared.patches.PatchWord.{PatchWord}
use Rattle.sym_expr.specs.declared.program.Word.{Word}
use Rattle.sym_expr.specs.Program.{patched_word}
use Rattle.sym_expr.specs.TableOk.{IsNamed}

-- the words of some inserts in a block, by their offset
abbrev pub words_among : Module → PatchTable → List Insert → List ℕ → List (ℕ × Word)
words_among m p inserts block = map (λ (w : ℕ × PatchWord). (w.0, patched_word m p w.1)) (inserted_among inserts block)

-- the words inserted in a block, by their offset
abbrev pub inserted_words : Module → PatchTable → List ℕ → List (ℕ × Word)
inserted_words m p block = words_among m p p.inserts block

-- what symbols and names stand for
pub record KnowsNames (c : Context) : Type 0 where
  pub symbols : (id : List ℕ) → get bytes_eq c.symbols id ≡ option_map (base_of c.module c.patches.now) (symbol_of id c.module.symbols)
  pub names : (name : List ℕ) → get_by_text c.names name ≡ point_among c.module c.patches.now.functions name

pub record Knows (c : Context) : Type 0 where
  pub names : KnowsNames c
  pub inserted : (id : List ℕ) → unwrap_or (get bytes_eq c.inserted id) [] ≡ inserted_words c.module c.patches.now id

-- a word names a symbol of the module or a name of the patches, if it names something
abbrev pub NamesKnown : Module → PatchTable → PatchWord → Type 0
NamesKnown m p w = IfSome w.target (λ (t : PatchTarget). IsNamed m p t.symbol)

-- so do all words of an insert, and of a line of a function
abbrev pub HasGoodWords : Module → PatchTable → Insert → Type 0
HasGoodWords m p i = AllByRecursion (NamesKnown m p) i.body

abbrev pub IsGoodLine : Module → PatchTable → FunLine → Type 0
IsGoodLine m p (lines.Label name) = Unit {0}
IsGoodLine m p (lines.Word w) = NamesKnown m p w

abbrev pub HasGoodLines : Module → PatchTable → Function → Type 0
HasGoodLines m p f = AllByRecursion (IsGoodLine m p) f.body
