-- The three ways in which a job ends: an input wasn't read, the job refused, or it wrote what it had made.
use Rattle.std.proofs.Common.{◌≡◌, ◌⊎◌, List, ℕ, Bool, IsTrue, Option, None, Some, IsSome, Ok, Err, refl, inl, inr, sym, ◌∙◌, ap, subst}
use Rattle.gr_base.specs.Desk.{Files, Told, ToldBoth, SameFiles, Rose}
use Rattle.gr_base.specs.declared.end.End.{End}
use Rattle.gr_base.specs.declared.end.End.TheVariants as ends
use Rattle.gr_base.specs.declared.whole.ReadEnd.{ReadEnd}
use Rattle.gr_base.specs.declared.whole.ReadEnd.TheVariants as reads
use Rattle.gt_front.specs.declared.answer.Answer.{Answer}
use Rattle.gt_front.specs.declared.answer.Answer.TheVariants.{Done, Usage, ReadFault, WriteFault, Memory, TooLarge, Format, Check, Image}
use Rattle.gt_front.specs.declared.answer.Answer.TheVariants.{Patch as PatchAnswer, Rewrite as RewriteAnswer, Layout as LayoutAnswer, Link as LinkAnswer}
use Rattle.command_words.specs.declared.role.Role.{Role}
use Rattle.gt_front.specs.declared.inputs.Unread.{Unread}
use Rattle.jobs.specs.declared.verdict.Finished.{Finished}
use Rattle.jobs.specs.declared.verdict.Refusal.{Refusal}
use Rattle.jobs.specs.declared.verdict.Refusal.TheVariants as refusals
use Rattle.gt_front.specs.Answer.{answer_of, unread_answer}
use Rattle.gt_front.specs.Causes.{ReadFaultCause, TooLargeCause, WriteFaultCause, IsOwn, IsComplete, IsStopped, Kept, Settles, Wrote, WrotePart, verdict_answer}
use Rattle.jobs.specs.Inputs.{InputFile, AllReadable, inputs_of}
use Rattle.jobs.specs.Outcome.{Outcomes, Outcome, Pass, Verdict, Promised, out_of}
use Rattle.command_words.specs.Picked.{Picked}
use Rattle.gt_front.specs.Reads.{Counts, IsUnread}
use Rattle.gt_front.specs.Served.{Around, Served}
use Rattle.gt_front.proofs.FirstBad.{missing_unreadable, large_unreadable}
use Rattle.gt_front.proofs.Unreads.{IsPlain, none_bad, no_read_fault, no_too_large, unread_read_fault, unread_too_large}
use Rattle.gt_front.proofs.Telling.{told_always, told_map, both_map, both_weaken}

-- the refusal that an answer tells of
refusal_in : Answer → Option Refusal
refusal_in (Format fault) = Some (refusals.Format fault)
refusal_in (Check fault) = Some (refusals.Check fault)
refusal_in (PatchAnswer fault) = Some (refusals.Patch fault)
refusal_in (RewriteAnswer fault) = Some (refusals.Rewrite fault)
refusal_in (LayoutAnswer fault) = Some (refusals.Layout fault)
refusal_in (LinkAnswer fault) = Some (refusals.Link fault)
refusal_in (Image fault) = Some (refusals.Image fault)
refusal_in _ = None

refusal_again : (refusal : Refusal) → refusal_in (answer_of refusal) ≡ Some refusal
unfolding refusal_in
refusal_again (refusals.Format fault) = refl
refusal_again (refusals.Check fault) = refl
refusal_again (refusals.Patch fault) = refl
refusal_again (refusals.Rewrite fault) = refl
refusal_again (refusals.Layout fault) = refl
refusal_again (refusals.Link fault) = refl
refusal_again (refusals.Image fault) = refl

-- an answer of another kind isn't that of a refusal
not_refusal : (refusal : Refusal) (other : Answer) → refusal_in other ≡ None → answer_of refusal ≡ other → ⊥
not_refusal refusal other none e = let some : Some refusal ≡ None = sym (refusal_again refusal) ∙ ap refusal_in e ∙ none in absurd cc

one_refusal : (a b : Refusal) → answer_of a ≡ answer_of b → a ≡ b
one_refusal a b e = let some : Some a ≡ Some b = sym (refusal_again a) ∙ ap refusal_in e ∙ refusal_again b in cc

-- an answer says that a job is done, or it doesn't
done_or_not : (result : Answer) → ((text : List ℕ) × (result ≡ Done text)) ⊎ ((text : List ℕ) → result ≡ Done text → ⊥)
done_or_not (Done text) = inl (text, refl)
done_or_not _ = inr (λ text e. absurd cc)

-- where every input can be read and no fault rose, a job's own answer comes
module _ (inputs : List InputFile) (own : Outcomes) (out : Option (List ℕ)) (steady : Bool) (rb rn tb tn wb wn : ℕ) (result : Answer) where
  settled : (quiet : IsTrue steady ⊎ ((Rose rb rn ⊎ Rose wb wn) → ⊥)) (held : Files) → AllReadable inputs held
      → ReadFaultCause inputs (Some held) steady rb rn result → TooLargeCause inputs (Some held) steady tb tn result
      → WriteFaultCause own out (Some held) steady wb wn result
      → (verdict : Verdict) → Settles verdict result → (result ≡ verdict_answer verdict) ⊎ (result ≡ Memory)
  settled quiet held all read large write verdict s =
      let no_read : (r : Role) → result ≡ ReadFault r → ⊥ = λ r e. elim quiet [
        | inl sure ↦
            let bad = read.missing sure r e in
            missing_unreadable held bad.0 bad.2 (none_bad inputs held r bad.0 all bad.1)
        | inr none ↦ none (inl (read.rose r e))
      ] in
      let no_large : (r : Role) → result ≡ TooLarge r → ⊥ = λ r e.
      let bad = large.larger r e in
      large_unreadable held bad.0 bad.2 (none_bad inputs held r bad.0 all bad.1) in
      let no_write : result ≡ WriteFault → ⊥ = λ e. elim quiet [ inl sure ↦ write.never sure e | inr none ↦ none (inr (write.rose e)) ] in
      let stopped : IsStopped result → (result ≡ verdict_answer verdict) ⊎ (result ≡ Memory) = λ stop. elim stop [
        | inl x ↦ absurd (no_read x.0 x.1)
        | inr x ↦ elim x [ inl y ↦ absurd (no_large y.0 y.1) | inr y ↦ inr y ]
      ] in
      settle verdict stopped no_write s where
        settle : (v : Verdict) → (IsStopped result → (result ≡ verdict_answer v) ⊎ (result ≡ Memory)) → (result ≡ WriteFault → ⊥)
            → Settles v result → (result ≡ verdict_answer v) ⊎ (result ≡ Memory)
        settle (Ok finished) stopped no_write (inl e) = inl e
        settle (Ok finished) stopped no_write (inr (inl e)) = absurd (no_write e)
        settle (Ok finished) stopped no_write (inr (inr stop)) = stopped stop
        settle (Err refusal) stopped no_write (inl e) = inl e
        settle (Err refusal) stopped no_write (inr stop) = stopped stop

  is_complete : (files : Option Files) → ReadFaultCause inputs files steady rb rn result → TooLargeCause inputs files steady tb tn result
      → WriteFaultCause own out files steady wb wn result → IsOwn own files result
      → IsComplete inputs own files steady (Rose rb rn ⊎ Rose wb wn) result
  is_complete None read large write mine = λ quiet. tt
  is_complete (Some held) read large write mine = λ quiet all verdict given.
      settled quiet held all read large write verdict (mine.settles verdict given)

-- a job without an output leaves the files
nothing_kept : (own : Outcomes) (name : Option (List ℕ)) (result : Answer) (old new : Files) → name ≡ None → Kept own name result old new → SameFiles old new
nothing_kept own name result old new e kept =
    let wrote : (out : Option (List ℕ)) → Wrote name out old new → SameFiles old new
    = λ out. subst (λ (n : Option (List ℕ)). Wrote n out old new → SameFiles old new) (sym e) (λ h. h) in
    let part : (out : Option (List ℕ)) → WrotePart name out old new → SameFiles old new
    = λ out. subst (λ (n : Option (List ℕ)). WrotePart n out old new → SameFiles old new) (sym e) (λ h. h) in
    elim (done_or_not result) [
      | inl done ↦ let w = kept.done done.0 done.1 in wrote w.0 w.2
      | inr not ↦ elim (kept.other not) [ inl same ↦ same | inr w ↦ part w.1.out w.3 ]
    ]

module _ (asked : Option Picked) (passes : List Pass) (d : Around) (result : Answer) where
  -- what is left follows from the rest
  make_served : ((index : ℕ) → result ≡ Usage index → ⊥)
      → ReadFaultCause (inputs_of asked) d.old d.steady d.read_before d.read_now result
      → TooLargeCause (inputs_of asked) d.old d.steady d.taken_before d.taken_now result
      → WriteFaultCause (Outcome asked passes) (out_of asked) d.old d.steady d.write_before d.write_now result
      → IsOwn (Outcome asked passes) d.old result
      → ((text : List ℕ) → result ≡ Done text → Told d.old (Promised asked))
      → ToldBoth d.old d.new (Kept (Outcome asked passes) (out_of asked) result)
      → Served asked passes d result
  make_served served read large write own promised kept = record {
    served = served;
    read_fault = read;
    too_large = large;
    write_fault = write;
    own = own;
    complete = is_complete (inputs_of asked) (Outcome asked passes) (out_of asked) d.steady d.read_before d.read_now d.taken_before d.taken_now
        d.write_before d.write_now result d.old read large write own;
    promised = promised;
    kept = kept;
    nothing = λ e. both_weaken d.old d.new _ _ (λ old new k. record {
      same = nothing_kept (Outcome asked passes) (out_of asked) result old new e k;
      quiet = λ w. let some : IsSome {T = List ℕ} None = subst (λ (n : Option (List ℕ)). IsSome n) e (write.named w) in absurd cc;
    }) kept;
  }

-- nothing was written, and no answer of the job's own came
module _ (asked : Option Picked) (passes : List Pass) (d : Around) where
  stop_settles : (result : Answer) → IsStopped result → (verdict : Verdict) → Settles verdict result
  stop_settles result stop (Ok finished) = inr (inr stop)
  stop_settles result stop (Err refusal) = inr stop

  -- a stopped answer is none of another kind
  not_stopped : (result other : Answer) → IsStopped result → ((role : Role) → ReadFault role ≡ other → ⊥) → ((role : Role) → TooLarge role ≡ other → ⊥)
      → (Memory ≡ other → ⊥) → result ≡ other → ⊥
  not_stopped result other (inl x) a b c e = a x.0 (sym x.1 ∙ e)
  not_stopped result other (inr (inl x)) a b c e = b x.0 (sym x.1 ∙ e)
  not_stopped result other (inr (inr x)) a b c e = c (sym x ∙ e)

  pub stopped : (result : Answer) → IsStopped result → ToldBoth d.old d.new SameFiles
      → ReadFaultCause (inputs_of asked) d.old d.steady d.read_before d.read_now result
      → TooLargeCause (inputs_of asked) d.old d.steady d.taken_before d.taken_now result
      → Served asked passes d result
  unfolding refusal_in
  stopped result stop same read large =
      let not : (other : Answer) → ((role : Role) → ReadFault role ≡ other → ⊥) → ((role : Role) → TooLarge role ≡ other → ⊥) → (Memory ≡ other → ⊥) → result ≡ other → ⊥
      = λ other. not_stopped result other stop in
      let not_done : (text : List ℕ) → result ≡ Done text → ⊥ = λ text. not (Done text) (λ r e. absurd cc) (λ r e. absurd cc) (λ e. absurd cc) in
      let not_write : result ≡ WriteFault → ⊥ = not WriteFault (λ r e. absurd cc) (λ r e. absurd cc) (λ e. absurd cc) in
      let not_refused : (refusal : Refusal) → result ≡ answer_of refusal → ⊥ = λ refusal. not (answer_of refusal)
      (λ r e. not_refusal refusal (ReadFault r) refl (sym e)) (λ r e. not_refusal refusal (TooLarge r) refl (sym e)) (λ e. not_refusal refusal Memory refl (sym e)) in
      make_served asked passes d result
      (λ index. not (Usage index) (λ r e. absurd cc) (λ r e. absurd cc) (λ e. absurd cc))
      read large
      (record { rose = λ e. absurd (not_write e); named = λ e. absurd (not_write e); done = λ e. absurd (not_write e); never = λ sure. not_write })
      (record {
        done = λ text e. absurd (not_done text e);
        refused = λ refusal e. absurd (not_refused refusal e);
        settles = told_always d.old _ (λ held verdict given. stop_settles result stop verdict);
      })
      (λ text e. absurd (not_done text e))
      (both_weaken d.old d.new _ _ (λ old new s. record { done = λ text e. absurd (not_done text e); other = λ not. inl s }) same)

  -- memory ran out where every input had been read
  pub out_of_memory : Told d.old (AllReadable (inputs_of asked)) → ToldBoth d.old d.new SameFiles → Served asked passes d Memory
  out_of_memory all same =
      stopped Memory (inr (inr refl)) same
      (no_read_fault (inputs_of asked) d.old d.steady d.read_before d.read_now Memory ((λ r e. absurd cc), (λ r e. absurd cc)) all)
      (no_too_large (inputs_of asked) d.old d.steady d.taken_before d.taken_now Memory ((λ r e. absurd cc), (λ r e. absurd cc)) all)

  unread_stops : (role : Role) (end : End ReadEnd) → IsStopped (unread_answer role end)
  unread_stops role (ends.Fault reads.Fault) = inl (role, refl)
  unread_stops role (ends.Fault reads.TooLarge) = inr (inl (role, refl))
  unread_stops role ends.Memory = inr (inr refl)

  -- an input wasn't read
  pub unread : (counts : Counts) (u : Unread) → counts.read_before ≡ d.read_before → counts.read_now ≡ d.read_now
      → counts.taken_before ≡ d.taken_before → counts.taken_now ≡ d.taken_now → ToldBoth d.old d.new SameFiles
      → IsUnread (inputs_of asked) d.old d.steady counts u → Served asked passes d (unread_answer u.role u.end)
  unread counts u rb rn tb tn same w =
      stopped (unread_answer u.role u.end) (unread_stops u.role u.end) same
      (subst (λ (x : ℕ). ReadFaultCause (inputs_of asked) d.old d.steady x d.read_now (unread_answer u.role u.end)) rb
      (subst (λ (x : ℕ). ReadFaultCause (inputs_of asked) d.old d.steady counts.read_before x (unread_answer u.role u.end)) rn
      (unread_read_fault (inputs_of asked) w.before w.after u.role w.name w.listed d.old d.steady w.readable counts u.end w.refuses)))
      (subst (λ (x : ℕ). TooLargeCause (inputs_of asked) d.old d.steady x d.taken_now (unread_answer u.role u.end)) tb
      (subst (λ (x : ℕ). TooLargeCause (inputs_of asked) d.old d.steady counts.taken_before x (unread_answer u.role u.end)) tn
      (unread_too_large (inputs_of asked) w.before w.after u.role w.name w.listed d.old d.steady w.readable counts u.end w.refuses)))

module _ (asked : Option Picked) (passes : List Pass) (d : Around)
    (one : (held : Files) (a b : Verdict) → Outcome asked passes held a → Outcome asked passes held b → a ≡ b)
    (all : Told d.old (AllReadable (inputs_of asked))) where
  -- where this is the outcome, an answer that settles it is settled
  settles_as : (verdict : Verdict) (result : Answer) → Settles verdict result → Told d.old (λ held. Outcome asked passes held verdict)
      → Told d.old (λ held. (other : Verdict) → Outcome asked passes held other → Settles other result)
  settles_as verdict result s = told_map d.old _ _ (λ held mine other theirs. subst (λ (v : Verdict). Settles v result) (one held verdict other mine theirs) s)

  -- the job refused
  pub refused : (refusal : Refusal) → Told d.old (λ held. Outcome asked passes held (Err refusal)) → ToldBoth d.old d.new SameFiles
      → Served asked passes d (answer_of refusal)
  unfolding refusal_in
  refused refusal mine same =
      let plain : IsPlain (answer_of refusal) = ((λ r e. not_refusal refusal (ReadFault r) refl e), (λ r e. not_refusal refusal (TooLarge r) refl e)) in
      make_served asked passes d (answer_of refusal)
      (λ index e. not_refusal refusal (Usage index) refl e)
      (no_read_fault (inputs_of asked) d.old d.steady d.read_before d.read_now (answer_of refusal) plain all)
      (no_too_large (inputs_of asked) d.old d.steady d.taken_before d.taken_now (answer_of refusal) plain all)
      (record {
        rose = λ e. absurd (not_refusal refusal WriteFault refl e);
        named = λ e. absurd (not_refusal refusal WriteFault refl e);
        done = λ e. absurd (not_refusal refusal WriteFault refl e);
        never = λ sure e. not_refusal refusal WriteFault refl e;
      })
      (record {
        done = λ text e. absurd (not_refusal refusal (Done text) refl e);
        refused = λ other e. told_map d.old _ _ (λ held o. subst (λ (x : Refusal). Outcome asked passes held (Err x)) (one_refusal refusal other e) o) mine;
        settles = settles_as (Err refusal) (answer_of refusal) (inl refl) mine;
      })
      (λ text e. absurd (not_refusal refusal (Done text) refl e))
      (both_weaken d.old d.new _ _ (λ old new s. record { done = λ text e. absurd (not_refusal refusal (Done text) refl e); other = λ not. inl s }) same)

  module _ (finished : Finished) (mine : Told d.old (λ held. Outcome asked passes held (Ok finished))) where
    -- the job is done
    pub done : Told d.old (Promised asked) → ToldBoth d.old d.new (Wrote (out_of asked) finished.out) → Served asked passes d (Done finished.text)
    unfolding refusal_in
    done promised wrote =
        let plain : IsPlain (Done finished.text) = ((λ r e. absurd cc), (λ r e. absurd cc)) in
        let text_is : (text : List ℕ) → Done finished.text ≡ Done text → finished.text ≡ text = λ text e. cc in
        let made : (held : Files) (text : List ℕ) → Done finished.text ≡ Done text → Outcome asked passes held (Ok finished)
        → Outcome asked passes held (Ok (record { text = text; out = finished.out }))
        = λ held text e o. subst (λ (t : List ℕ). Outcome asked passes held (Ok (record { text = t; out = finished.out }))) (text_is text e) o in
        make_served asked passes d (Done finished.text)
        (λ index e. absurd cc)
        (no_read_fault (inputs_of asked) d.old d.steady d.read_before d.read_now (Done finished.text) plain all)
        (no_too_large (inputs_of asked) d.old d.steady d.taken_before d.taken_now (Done finished.text) plain all)
        (record { rose = λ e. absurd cc; named = λ e. absurd cc; done = λ e. absurd cc; never = λ sure e. absurd cc })
        (record {
          done = λ text e. told_map d.old _ _ (λ held o. (finished.out, made held text e o)) mine;
          refused = λ other e. absurd (not_refusal other (Done finished.text) refl (sym e));
          settles = settles_as (Ok finished) (Done finished.text) (inl refl) mine;
        })
        (λ text e. promised)
        (both_map d.old d.new _ _ _ (λ old new o w. record {
          done = λ text e. (finished.out, made old text e o, w);
          other = λ not. absurd (not finished.text refl);
        }) mine wrote)

    -- the desk refused while it wrote
    pub write_refused : Rose d.write_before d.write_now → (IsTrue d.steady → ⊥) → IsSome (out_of asked)
        → ToldBoth d.old d.new (WrotePart (out_of asked) finished.out) → Served asked passes d WriteFault
    unfolding refusal_in
    write_refused rose unsteady named wrote =
        let plain : IsPlain WriteFault = ((λ r e. absurd cc), (λ r e. absurd cc)) in
        make_served asked passes d WriteFault
        (λ index e. absurd cc)
        (no_read_fault (inputs_of asked) d.old d.steady d.read_before d.read_now WriteFault plain all)
        (no_too_large (inputs_of asked) d.old d.steady d.taken_before d.taken_now WriteFault plain all)
        (record {
          rose = λ e. rose;
          named = λ e. named;
          done = λ e. told_map d.old _ _ (λ held o. (finished, o)) mine;
          never = λ sure e. unsteady sure;
        })
        (record {
          done = λ text e. absurd cc;
          refused = λ other e. absurd (not_refusal other WriteFault refl (sym e));
          settles = settles_as (Ok finished) WriteFault (inr (inl refl)) mine;
        })
        (λ text e. absurd cc)
        (both_map d.old d.new _ _ _ (λ old new o w. record {
          done = λ text e. absurd cc;
          other = λ not. inr (inl refl, finished, o, w);
        }) mine wrote)

    -- memory ran out while it wrote
    pub write_short : ToldBoth d.old d.new (WrotePart (out_of asked) finished.out) → Served asked passes d Memory
    unfolding refusal_in
    write_short wrote =
        let plain : IsPlain Memory = ((λ r e. absurd cc), (λ r e. absurd cc)) in
        make_served asked passes d Memory
        (λ index e. absurd cc)
        (no_read_fault (inputs_of asked) d.old d.steady d.read_before d.read_now Memory plain all)
        (no_too_large (inputs_of asked) d.old d.steady d.taken_before d.taken_now Memory plain all)
        (record { rose = λ e. absurd cc; named = λ e. absurd cc; done = λ e. absurd cc; never = λ sure e. absurd cc })
        (record {
          done = λ text e. absurd cc;
          refused = λ other e. absurd (not_refusal other Memory refl (sym e));
          settles = settles_as (Ok finished) Memory (inr (inr (inr (inr refl)))) mine;
        })
        (λ text e. absurd cc)
        (both_map d.old d.new _ _ _ (λ old new o w. record {
          done = λ text e. absurd cc;
          other = λ not. inr (inr refl, finished, o, w);
        }) mine wrote)
