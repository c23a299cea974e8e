use Rattle.std.proofs.Common.{ℕ, List, [], subst, ap, ◌≡◌}
use Rattle.gt_front.specs.declared.answer.Answer.TheVariants as answers
use Rattle.command_words.specs.Picked.{picked, picked_view}
use Rattle.jobs.specs.Outcome.{Outcome, out_of}
use Rattle.command_words.specs.Words.{WordsOk, Usage}
use Rattle.gt_front.proofs.Serving.{served_words, usage_kept, usage_nothing}
use Rattle.gt_front.proofs.serve.serve_words.Goals as goal

pub returns-in-Ok : goal.returns-in-Ok
returns-in-Ok g c =
    let ok = subst (λ (w : List (List ℕ)). WordsOk w) c.as_slice.ensures c.in-Ok.ensures.ok in
    let all = served_words c.as_slice.result.now c.args.words.now (picked_view c.in-Ok.asked) _ _ c.as_slice.ensures c.in-Ok.ensures.picked c.serve_picked.ensures in
    record {
      usage = λ index. ((λ e. absurd (all.served index e)), (λ bad. absurd (c.words_or_usage.ensures.apart c.args.words.now index ok bad)));
      read_fault = λ fine. all.read_fault;
      too_large = λ fine. all.too_large;
      write_fault = λ fine. all.write_fault;
      own = λ fine. all.own;
      complete = λ fine. all.complete;
      promised = all.promised;
      kept = all.kept;
      nothing = all.nothing;
    }

pub returns-in-Err : goal.returns-in-Err
returns-in-Err g c =
    let bad = subst (λ (w : List (List ℕ)). Usage w c.in-Err.index) c.as_slice.ensures c.in-Err.ensures.usage in
    record {
      usage = λ index. (
        (λ e. let same : c.in-Err.index ≡ index = cc in subst (λ (i : ℕ). Usage c.args.words.now i) same bad),
        (λ other. ap answers.Usage (c.words_or_usage.ensures.one c.args.words.now c.in-Err.index index bad other)),
      );
      read_fault = λ ok. absurd (c.words_or_usage.ensures.apart c.args.words.now c.in-Err.index ok bad);
      too_large = λ ok. absurd (c.words_or_usage.ensures.apart c.args.words.now c.in-Err.index ok bad);
      write_fault = λ ok. absurd (c.words_or_usage.ensures.apart c.args.words.now c.in-Err.index ok bad);
      own = λ ok. absurd (c.words_or_usage.ensures.apart c.args.words.now c.in-Err.index ok bad);
      complete = λ ok. absurd (c.words_or_usage.ensures.apart c.args.words.now c.in-Err.index ok bad);
      promised = λ text e. absurd cc;
      kept = usage_kept (g.D.Desk.files c.args.desk.now) (Outcome (picked c.args.words.now) []) (out_of (picked c.args.words.now)) c.in-Err.index;
      nothing = λ none. usage_nothing (g.D.Desk.files c.args.desk.now) c.in-Err.index;
    }
