-- What `run` makes of its image and its input.
use Rattle.std.specs.Prelude.{Some}
use Rattle.num_run.specs.declared.report.RunReport.{RunReport}
use Rattle.num_run.specs.Run.{num_run}
use Rattle.command_words.specs.declared.role.Role.TheVariants.{In, Input}
use Rattle.jobs.specs.declared.verdict.Finished.{Finished}
use Rattle.command_words.specs.declared.words.Settings.{Settings}
use Rattle.jobs.specs.Inputs.{Contents, bytes_in}
use Rattle.note_texts.specs.StateTexts.{state_text}
use Rattle.jobs.specs.Stages.{Stage, chain, just, imaged}

-- the output of a run is written, and the text says where it stands
abbrev pub reported : RunReport → Finished
reported report = record { text = state_text report; out = Some report.output }

-- the image is run
abbrev pub Runs : Settings → Contents → Stage Finished
Runs settings contents =
    chain (imaged (bytes_in contents In)) (λ image. just (reported (num_run image (bytes_in contents Input) settings.steps)))
