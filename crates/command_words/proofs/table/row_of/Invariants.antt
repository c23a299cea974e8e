use Rattle.std.proofs.Common.{◌≡◌, drop, map}
use Rattle.std.specs.List.{find}
use Rattle.command_words.specs.Table.{job_words, same_job}
use Rattle.command_words.proofs.table.row_of.Given as goal

-- the rows that are left give the same
abbrev pub invariant-loop-row : goal.invariant-loop-row
invariant-loop-row l =
    find (λ row. same_job row.job l.job) (map (λ row. job_words row.0 row.1.now row.2.now row.3.now) l.rows)
    ≡ find (λ row. same_job row.job l.job) (map (λ row. job_words row.0 row.1.now row.2.now row.3.now) (drop l.row-index l.rows))
