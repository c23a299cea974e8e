use Rattle.printed_lines.proofs.Marks.{entry_is, interval_is, label_line_is, section_is, set_is}
use Rattle.printed_lines.proofs.laws.printed_marks_are_read.Goals as goal

pub returns-clause-set : goal.returns-clause-set
returns-clause-set c = set_is c.printed_labels_are_read.ensures

pub returns-clause-section : goal.returns-clause-section
returns-clause-section c = section_is

pub returns-clause-interval : goal.returns-clause-interval
returns-clause-interval c = interval_is

pub returns-clause-label : goal.returns-clause-label
returns-clause-label c = label_line_is c.printed_labels_are_read.ensures

pub returns-clause-entry : goal.returns-clause-entry
returns-clause-entry c = entry_is
