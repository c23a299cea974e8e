use Rattle.printed_lines.proofs.Items.{byte_is, byte_quarter_is, half_is, half_quarter_is, word_quarter_is}
use Rattle.printed_lines.proofs.laws.printed_entries_are_read.Goals as goal

pub returns-clause-byte : goal.returns-clause-byte
returns-clause-byte c = byte_is c.printed_labels_are_read.ensures

pub returns-clause-half : goal.returns-clause-half
returns-clause-half c = half_is c.printed_labels_are_read.ensures

pub returns-clause-byte_quarter : goal.returns-clause-byte_quarter
returns-clause-byte_quarter c = byte_quarter_is c.printed_labels_are_read.ensures

pub returns-clause-half_quarter : goal.returns-clause-half_quarter
returns-clause-half_quarter c = half_quarter_is c.printed_labels_are_read.ensures

pub returns-clause-word_quarter : goal.returns-clause-word_quarter
returns-clause-word_quarter c = word_quarter_is c.printed_labels_are_read.ensures
