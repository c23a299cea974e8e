use Rattle.std.proofs.Common.{[], ◌++◌, ◌<◌, subst, ap, ◌∙◌, arith}
use Rattle.std.proofs.lemmas.List.{append-nil}
use Rattle.gt_model.specs.Ordered.{ordered}
use Rattle.gt_model.specs.Typed.{typed}
use Rattle.gt_read.specs.Feeding.{ends_as, Comes}
use Rattle.gt_read.specs.File.{file}
use Rattle.gt_read.specs.Outcome.{outcome}
use Rattle.gt_read.proofs.GoodPieces.{are_bytes}
use Rattle.gt_read.proofs.Outcomes.{if_ok, whole_file, whole_fault, outcome_fault}
use Rattle.gt_read.proofs.file.read_file.Goals as goal

pub returns-in-Ok-clause-found : goal.returns-in-Ok-clause-found
returns-in-Ok-clause-found c =
    let bytes = c.args.bytes.now in
    let is = c.in-Ok.ensures.ok.same [] ∙ c.new-feeder.ensures.starts (bytes ++ []) ∙ ap outcome (append-nil bytes) in
    whole_file bytes (ends_as c.feed.new.self []) is c.finish.result c.finish.ensures.found

pub returns-in-Ok-clause-fault : goal.returns-in-Ok-clause-fault
returns-in-Ok-clause-fault c =
    let bytes = c.args.bytes.now in
    let is = c.in-Ok.ensures.ok.same [] ∙ c.new-feeder.ensures.starts (bytes ++ []) ∙ ap outcome (append-nil bytes) in
    whole_fault bytes (ends_as c.feed.new.self []) is c.finish.result c.finish.ensures.fault

pub returns-in-Ok-clause-typed : goal.returns-in-Ok-clause-typed
returns-in-Ok-clause-typed c =
    let bytes = c.args.bytes.now in
    let is = c.in-Ok.ensures.ok.same [] ∙ c.new-feeder.ensures.starts (bytes ++ []) ∙ ap outcome (append-nil bytes) in
    let fit = are_bytes bytes (λ i. omega (arith, c.type_inv.bytes i)) in
    if_ok (λ ir. file bytes ir) typed (λ ir f. c.a_file_is_typed.ensures.typed bytes ir fit f) c.finish.result
    (whole_file bytes (ends_as c.feed.new.self []) is c.finish.result c.finish.ensures.found)

pub returns-in-Ok-clause-order : goal.returns-in-Ok-clause-order
returns-in-Ok-clause-order c =
    let bytes = c.args.bytes.now in
    let is = c.in-Ok.ensures.ok.same [] ∙ c.new-feeder.ensures.starts (bytes ++ []) ∙ ap outcome (append-nil bytes) in
    if_ok (λ ir. file bytes ir) ordered (λ ir f. c.a_file_is_typed.ensures.order bytes ir f) c.finish.result
    (whole_file bytes (ends_as c.feed.new.self []) is c.finish.result c.finish.ensures.found)

pub returns-in-Ok-clause-version : goal.returns-in-Ok-clause-version
returns-in-Ok-clause-version c =
    let bytes = c.args.bytes.now in
    let is = c.in-Ok.ensures.ok.same [] ∙ c.new-feeder.ensures.starts (bytes ++ []) ∙ ap outcome (append-nil bytes) in
    let fit = are_bytes bytes (λ i. omega (arith, c.type_inv.bytes i)) in
    if_ok (λ ir. file bytes ir) (λ ir. ir.version < 256) (λ ir f. c.a_file_is_typed.ensures.version bytes ir fit f) c.finish.result
    (whole_file bytes (ends_as c.feed.new.self []) is c.finish.result c.finish.ensures.found)

pub returns-in-Err-clause-fault : goal.returns-in-Err-clause-fault
returns-in-Err-clause-fault c =
    let bytes = c.args.bytes.now in
    let same = c.new-feeder.ensures.starts (bytes ++ []) ∙ ap outcome (append-nil bytes) in
    outcome_fault bytes c.in-Err.end (subst (Comes c.in-Err.end) same (c.in-Err.ensures.fault []))
