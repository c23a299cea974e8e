use Rattle.std.proofs.Common.{◌≡◌, ℕ, ◌^◌, false, true, sym, ap}
use Rattle.std.specs.Prelude.{◌==◌}
use Rattle.std.proofs.lemmas.Bool.{ne_eqb}
use Rattle.num_run.specs.Access.{pair_accessed, pair_loaded, pair_stored}
use Rattle.num_run.specs.Runner.{machine}
use Rattle.num_run.proofs.Accesses.{comes_as}
use Rattle.num_run.proofs.runner.Runner.pair_access.Goals as goal

pub returns-else-l-eq1-clause-comes : goal.returns-else-l-eq1-clause-comes
returns-else-l-eq1-clause-comes c =
    let m = machine c.args.self.now in
    let a = c.args in
    let store : (a.l == 1) ≡ false = ne_eqb a.l 1 c.if-l-eq1.false in
    let same : pair_accessed a.opc a.l a.rt a.rt2 a.at m ≡ pair_stored c.size_of_each-size.result a.rt a.rt2 a.at m =
    rw store (ap (λ (size : ℕ). pair_stored size a.rt a.rt2 a.at m) (sym c.size_of_each-size.ensures.size)) in
    comes_as _ _ c.store_pair.result (machine c.store_pair.new.self) same c.store_pair.ensures.comes

pub returns-then-l-eq1-clause-comes : goal.returns-then-l-eq1-clause-comes
returns-then-l-eq1-clause-comes c =
    let m = machine c.args.self.now in
    let a = c.args in
    let load : (a.l == 1) ≡ true = ap (λ (l : ℕ). l == 1) c.if-l-eq1.true in
    let same : pair_accessed a.opc a.l a.rt a.rt2 a.at m ≡ pair_loaded (2 ^ c.size_of_each-size.result) (a.opc == 1) a.rt a.rt2 a.at m =
    rw load (ap (λ (size : ℕ). pair_loaded (2 ^ size) (a.opc == 1) a.rt a.rt2 a.at m) (sym c.size_of_each-size.ensures.size)) in
    comes_as _ _ c.load_pair.result (machine c.load_pair.new.self) same c.load_pair.ensures.comes
