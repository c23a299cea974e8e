use Rattle.std.proofs.Common.{◌∙◌}
use Rattle.asm_read.proofs.Identifiers.{read_hyphenated}
use Rattle.asm_read.proofs.identifier.read_uuid.Goals as goal

pub returns : goal.returns
returns c = c.ok.ensures.value ∙ read_hyphenated c.args.word.now c.try_parse_ascii.result c.if-word-ne-SPELLING.false c.try_parse_ascii.ensures.ok c.try_parse_ascii.ensures.bytes
