use Rattle.std.proofs.Common.{◌<◌, ◌^◌, None, ℕ, arith}
use Rattle.asm_lines.specs.declared.line.AsmItem.TheVariants as items
use Rattle.asm_lines.specs.declared.line.AsmLine.TheVariants as lines
use Rattle.asm_directives.proofs.Instants.{number_found, number_refused}
use Rattle.asm_directives.proofs.instant.read_inst.Goals as goal

pub returns-in-Some : goal.returns-in-Some
returns-in-Some c = number_found (λ (n : ℕ). n < 2 ^ 32) (λ (n : ℕ). lines.Item (items.Word n None)) c.args.text.now c.in-Some.word c.in-Some.ensures

pub returns-in-None : goal.returns-in-None
returns-in-None c = number_refused (λ (n : ℕ). n < 2 ^ 32) (λ (n : ℕ). lines.Item (items.Word n None)) c.args.text.now c.number_reason.result (omega arith) c.in-None.ensures c.number_reason.ensures
