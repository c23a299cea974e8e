use Rattle.printed_lines.proofs.Items.{quad_difference_is, quad_sum_is, word_difference_is}
use Rattle.printed_lines.proofs.laws.printed_addresses_are_read.Goals as goal

pub returns-clause-sum : goal.returns-clause-sum
returns-clause-sum c = quad_sum_is c.printed_labels_are_read.ensures

pub returns-clause-wide : goal.returns-clause-wide
returns-clause-wide c = quad_difference_is c.printed_labels_are_read.ensures c.one_label_ahead.ensures

pub returns-clause-narrow : goal.returns-clause-narrow
returns-clause-narrow c = word_difference_is c.printed_labels_are_read.ensures c.one_label_ahead.ensures
