-- The generated IR, by a seed and a number of blocks. What isn't named is 0, false or empty.
use Rattle.std.specs.Prelude.{ℕ, ◌+◌, ◌*◌, pos, false, List, [], ◌∷◌, ◌++◌, length, map, codes, Some, None}
use Rattle.std.specs.List.{range_with_len}
use Rattle.std.specs.Fmt.{decimal}
use Rattle.gt_model.specs.declared.exprs.Expr.{Expr}
use Rattle.gt_model.specs.declared.exprs.ExprValue.TheVariants.{AddrConst}
use Rattle.gt_model.specs.declared.intervals.Block.{Block}
use Rattle.gt_model.specs.declared.intervals.Body.TheVariants.{Code}
use Rattle.gt_model.specs.declared.intervals.Interval.{Interval}
use Rattle.gt_model.specs.declared.ir.Ir.{Ir}
use Rattle.gt_model.specs.declared.modules.Module.{Module}
use Rattle.gt_model.specs.declared.modules.Section.{Section}
use Rattle.gt_model.specs.declared.symbols.Payload.TheVariants.{Referent}
use Rattle.gt_model.specs.declared.symbols.Symbol.{Symbol}
use Rattle.demo_ir.specs.Code.{contents}
use Rattle.demo_ir.specs.Identifiers.{identifier, numbered}

-- the block of an ordinal, at an offset
abbrev pub block : (k offset size : ℕ) → Block
block k offset size = record { offset = offset; body = Code (numbered (codes "block") k) size 0 }

-- the block behind the first that goes on to the next
abbrev pub link_block : ℕ → Block
link_block k = block (k + 1) (8 * k + 4) 8

-- the first block, those that go on to the next, and the last
abbrev pub blocks_of : ℕ → List Block
blocks_of blocks = block 0 0 4 ∷ (map link_block (range_with_len 0 blocks) ++ link_block blocks ∷ [])

-- the symbol `bK` on the block behind the first of this ordinal
abbrev pub symbol : ℕ → Symbol
symbol k = record {
  uuid = numbered (codes "symbol") k;
  name = codes "b" ++ decimal k;
  at_end = false;
  payload = Referent (numbered (codes "block") (k + 1));
}

abbrev pub symbols_of : ℕ → List Symbol
symbols_of blocks = map symbol (range_with_len 0 (blocks + 1))

-- the branch of a block names the next one
abbrev pub branch : ℕ → Expr
branch k = record { at = 8 * k + 8; value = AddrConst (pos 0) (Some (numbered (codes "symbol") (k + 1))); flags = [] }

abbrev pub branches_of : ℕ → List Expr
branches_of blocks = map branch (range_with_len 0 blocks)

abbrev pub interval : ℕ → ℕ → Interval
interval seed blocks = record {
  uuid = identifier (codes "demo/interval");
  blocks = blocks_of blocks;
  exprs = branches_of blocks;
  has_address = false;
  address = 0;
  size = length (contents seed blocks);
  contents = contents seed blocks;
}

-- readable, executable, loaded and initialized
abbrev pub section : ℕ → ℕ → Section
section seed blocks = record {
  uuid = identifier (codes "demo/section");
  name = codes ".text";
  intervals = interval seed blocks ∷ [];
  flags = pos 1 ∷ pos 3 ∷ pos 4 ∷ pos 5 ∷ [];
}

-- ARM64, little endian
abbrev pub demo_module : ℕ → ℕ → Module
demo_module seed blocks = record {
  uuid = identifier (codes "demo/module");
  binary_path = [];
  preferred_addr = 0;
  rebase_delta = pos 0;
  file_format = pos 0;
  isa = pos 7;
  name = [];
  symbols = symbols_of blocks;
  sections = section seed blocks ∷ [];
  proxies = [];
  aux = [];
  entry = Some (numbered (codes "block") 0);
  byte_order = pos 2;
}

abbrev pub demo_ir : ℕ → ℕ → Ir
demo_ir seed blocks = record {
  uuid = identifier (codes "demo/ir");
  modules = demo_module seed blocks ∷ [];
  aux = [];
  version = 4;
  cfg = None;
}
