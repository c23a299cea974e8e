use Rattle.std.proofs.Common.{◌≤◌, ◌^◌, ℕ, arith}
use Rattle.asm_lines.specs.declared.line.AsmItem.TheVariants as items
use Rattle.asm_lines.specs.declared.line.AsmLine.TheVariants as lines
use Rattle.asm_directives.proofs.Instants.{number_found, number_refused}
use Rattle.asm_directives.proofs.instant.read_zero.Goals as goal

pub returns-in-Some : goal.returns-in-Some
returns-in-Some c = number_found (λ (n : ℕ). n ≤ 2 ^ 24) (λ (n : ℕ). lines.Item (items.Zero n)) c.args.text.now c.in-Some.count c.in-Some.ensures

pub returns-in-None : goal.returns-in-None
returns-in-None c = number_refused (λ (n : ℕ). n ≤ 2 ^ 24) (λ (n : ℕ). lines.Item (items.Zero n)) c.args.text.now c.number_reason.result (omega arith) c.in-None.ensures c.number_reason.ensures
