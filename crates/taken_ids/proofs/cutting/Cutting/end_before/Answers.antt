use Rattle.std.proofs.Common.{◌≡◌, true, false, sym, ap, ◌∙◌}
use Rattle.taken_ids.specs.Cutting.{is_cut_behind}
use Rattle.taken_ids.proofs.Cuts.{uncut_more}
use Rattle.taken_ids.proofs.Steps.{ended}
use Rattle.taken_ids.proofs.cutting.Cutting.end_before.Goals as goal

pub returns-then-not-is_cut_behind-clause-uncut : goal.returns-then-not-is_cut_behind-clause-uncut
returns-then-not-is_cut_behind-clause-uncut c =
    let w = c.args.word.now in
    let own = c.args.self.now.own.items in
    let uncut : is_cut_behind own w ≡ false = ap (λ l. is_cut_behind l w) (sym c.as_slice.ensures.value) ∙ sym c.is_cut_behind.ensures ∙ c.if-not-is_cut_behind.true in
    uncut_more own w c.requires.uncut uncut

pub returns-clause-parts : goal.returns-clause-parts
returns-clause-parts c =
    let w = c.args.word.now in
    let old = c.args.self.now in
    let new = c.end_part.new.self in
    let cut : is_cut_behind old.own.items w ≡ true = ap (λ l. is_cut_behind l w) (sym c.as_slice.ensures.value) ∙ sym c.is_cut_behind.ensures ∙ c.if-not-is_cut_behind.false in
    λ rest. ended old new.whole.items new.own.items new.start w rest c.requires.uncut cut c.in_ok-end_part.ensures.0 c.in_ok-end_part.ensures.1 c.in_ok-end_part.ensures.2
