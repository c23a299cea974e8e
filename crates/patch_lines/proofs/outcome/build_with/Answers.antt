use Rattle.std.proofs.Common.{ℕ, List}
use Rattle.std.specs.HashMap.{get_by_text}
use Rattle.std.specs.Option.{is_some}
use Rattle.patch_lines.proofs.Outcomes.{made, refused}
use Rattle.patch_lines.proofs.outcome.build_with.Goals as goal

pub returns-in-Err : goal.returns-in-Err
returns-in-Err c = refused c.args.index.now.module (λ (q : List ℕ). is_some (get_by_text c.args.names.now q)) c.args.lines.now c.in-Err.fault c.in-Err.ensures

pub returns : goal.returns
returns c = made c.args.index.now.module (λ (q : List ℕ). is_some (get_by_text c.args.names.now q)) c.args.lines.now c.in_ok-inserts.inserts c.in_ok-functions.functions c.in_default.ensures c.in_ok-inserts.ensures c.in_ok-functions.ensures
