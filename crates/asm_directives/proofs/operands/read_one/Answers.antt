use Rattle.asm_directives.specs.declared.directive.Directive.TheVariants as directives
use Rattle.asm_directives.proofs.Choices.{one_of}
use Rattle.asm_directives.proofs.operands.read_one.Goals as goal

pub returns-in-Section : goal.returns-in-Section
returns-in-Section c = one_of c.args.directive directives.Section c.in-Section.is c.read_section.result c.args.text.now c.read_section.ensures

pub returns-in-Hex : goal.returns-in-Hex
returns-in-Hex c = one_of c.args.directive directives.Hex c.in-Hex.is c.read_hex.result c.args.text.now c.read_hex.ensures

pub returns-in-Zero : goal.returns-in-Zero
returns-in-Zero c = one_of c.args.directive directives.Zero c.in-Zero.is c.read_zero.result c.args.text.now c.read_zero.ensures

pub returns-in-Inst : goal.returns-in-Inst
returns-in-Inst c = one_of c.args.directive directives.Inst c.in-Inst.is c.read_inst.result c.args.text.now c.read_inst.ensures

pub returns-in-Quad : goal.returns-in-Quad
returns-in-Quad c = one_of c.args.directive directives.Quad c.in-Quad.is c.read_quad.result c.args.text.now c.read_quad.ensures

pub returns-in-Word : goal.returns-in-Word
returns-in-Word c = one_of c.args.directive directives.Word c.in-Word.is c.read_word.result c.args.text.now c.read_word.ensures

pub returns-in-Byte : goal.returns-in-Byte
returns-in-Byte c = one_of c.args.directive directives.Byte c.in-Byte.is c.read_narrow.result c.args.text.now c.read_narrow.ensures

pub returns-in-Hword : goal.returns-in-Hword
returns-in-Hword c = one_of c.args.directive directives.Hword c.in-Hword.is c.read_narrow-in-Hword.result c.args.text.now c.read_narrow-in-Hword.ensures
