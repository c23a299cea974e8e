use Rattle.demo_ir.proofs.Ascends.{ascends, nothing_ascends}
use Rattle.demo_ir.proofs.laws.the_demo_is_ordered.Goals as goal

pub returns : goal.returns
returns c = λ seed blocks. record {
  modules = (record { sections = (record { intervals = (record { exprs = ascends 0 blocks }, tt) }, tt); aux = nothing_ascends _ }, tt);
  aux = nothing_ascends _;
}
