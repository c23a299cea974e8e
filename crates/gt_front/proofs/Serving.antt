-- What was asked for is served, from what the reads, the job and the write said.
use Rattle.std.proofs.Common.{◌≡◌, ◌≤◌, List, [], ◌∷◌, ℕ, Bool, IsTrue, Option, None, Some, IsSome, Ok, Err, inl, inr, refl, sym, ◌∙◌, subst}
use Rattle.gr_base.specs.Desk.{Files, Told, ToldBoth, SameFiles}
use Rattle.gr_base.specs.declared.end.End.TheVariants as ends
use Rattle.gr_base.specs.declared.whole.WriteFault as faults
use Rattle.gt_front.specs.declared.answer.Answer.{Answer}
use Rattle.gt_front.specs.declared.answer.Answer.TheVariants.{Done, Usage, WriteFault, Memory}
use Rattle.command_words.specs.declared.role.TheConstants.{ROLES}
use Rattle.jobs.specs.declared.contents.Contents as declared
use Rattle.jobs.specs.declared.verdict.Finished.{Finished}
use Rattle.jobs.specs.declared.verdict.Refusal.{Refusal}
use Rattle.gt_front.specs.Answer.{answer_of}
use Rattle.gt_front.specs.Causes.{Kept, Wrote, WrotePart, WritesNothing}
use Rattle.jobs.specs.Inputs.{InputFile, Contents, AllHeld, AllReadable, files_as}
use Rattle.jobs.specs.Outcome.{Promised, Promises, Outcome, Outcomes, Pass, Verdict, makes}
use Rattle.command_words.specs.Picked.{Picked, picked}
use Rattle.gt_front.specs.Reads.{HoldsAll, Writes}
use Rattle.jobs.specs.Contents.{contents_view}
use Rattle.gt_front.specs.Served.{Around, Served}
use Rattle.gt_front.proofs.Endings.{refused, done, write_refused, write_short}
use Rattle.gt_front.proofs.Reading.{rose_later}
use Rattle.gt_front.proofs.Telling.{told_map, told_map2, both_after, both_same}

-- what is said of an answer is said of one that equals it
pub served_as : (asked : Option Picked) (passes : List Pass) (d : Around) (a b : Answer) → a ≡ b → Served asked passes d b → Served asked passes d a
served_as asked passes d a b e h = subst (λ (x : Answer). Served asked passes d x) (sym e) h

all_held : (held : Files) (inputs : List InputFile) → AllReadable inputs held → AllHeld inputs held
all_held held [] all = tt
all_held held (input ∷ inputs) all =
    (subst (λ (o : Option (List ℕ)). IsSome o) (sym all.0.1) refl, all_held held inputs all.1)

-- files that stayed, and then one that was written
wrote_after : (name out : Option (List ℕ)) (o m n : Files) → SameFiles o m → Wrote name out m n → Wrote name out o n
wrote_after (Some name) (Some out) o m n same w = record { there = w.there; others = λ other ne. w.others other ne ∙ same other }
wrote_after (Some name) None o m n same w = λ other. w other ∙ same other
wrote_after None out o m n same w = λ other. w other ∙ same other

part_after : (name out : Option (List ℕ)) (o m n : Files) → SameFiles o m → WrotePart name out m n → WrotePart name out o n
part_after (Some name) (Some out) o m n same w = record {
  others = λ other ne. w.others other ne ∙ same other;
  part = elim w.part [ inl e ↦ inl (e ∙ same name) | inr x ↦ inr x ];
}
part_after (Some name) None o m n same w = λ other. w other ∙ same other
part_after None out o m n same w = λ other. w other ∙ same other

module _ (asked : Picked) (d : Around) (c : declared.Contents) (all : Told d.old (AllReadable (files_as asked ROLES))) (holds : Told d.old (HoldsAll asked c))
    (one : (asked : Option Picked) (passes : List Pass) (held : Files) (a b : Verdict) → Outcome asked passes held a → Outcome asked passes held b → a ≡ b) where
  -- what a job makes of the contents that were read is its outcome
  outcome_is : (verdict : Verdict) → makes asked [] (contents_view c) verdict → Told d.old (λ held. Outcome (Some asked) [] held verdict)
  outcome_is verdict m = told_map2 d.old _ _ _ (λ held readable h. record {
    held = all_held held (files_as asked ROLES) readable;
    makes = subst (λ (k : Contents). makes asked [] k verdict) (λ i role. h role i) m;
  }) all holds

  promised_is : Promises asked (contents_view c) → Told d.old (Promised (Some asked))
  promised_is k = told_map d.old _ _ (λ held h. subst (λ (x : Contents). Promises asked x) (λ i role. h role i) k) holds

  pub serves_refused : (refusal : Refusal) → makes asked [] (contents_view c) (Err refusal) → ToldBoth d.old d.new SameFiles
      → Served (Some asked) [] d (answer_of refusal)
  serves_refused refusal m same = refused (Some asked) [] d (one (Some asked) []) all refusal (outcome_is (Err refusal) m) same

  module _ (mid : Option Files) (mid_steady : Bool) (mid_write : ℕ) (same : ToldBoth d.old mid SameFiles) (steady : mid_steady ≡ d.steady)
      (later : d.write_before ≤ mid_write) (finished : Finished) (made : makes asked [] (contents_view c) (Ok finished))
      (name : Option (List ℕ)) (named : name ≡ asked.out) where
    pub serves_done : (text : List ℕ) → Promises asked (contents_view c) → Writes name finished mid_steady mid_write d.write_now mid d.new (Ok text)
        → Served (Some asked) [] d (Done text)
    serves_done text keeps w =
        let at_name = subst (λ (n : Option (List ℕ)). ToldBoth mid d.new (Wrote n finished.out)) named w.1 in
        subst (λ (t : List ℕ). Served (Some asked) [] d (Done t)) (sym w.0)
        (done (Some asked) [] d (one (Some asked) []) all finished (outcome_is (Ok finished) made) (promised_is keeps)
        (both_after d.old mid d.new _ _ _ (wrote_after asked.out finished.out) same at_name))

    pub serves_fault : (fault : faults.WriteFault) → Writes name finished mid_steady mid_write d.write_now mid d.new (Err (ends.Fault fault))
        → Served (Some asked) [] d WriteFault
    serves_fault fault w =
        let at_name = subst (λ (n : Option (List ℕ)). ToldBoth mid d.new (WrotePart n finished.out)) named w.3 in
        write_refused (Some asked) [] d (one (Some asked) []) all finished (outcome_is (Ok finished) made)
        (rose_later d.write_before mid_write d.write_now later w.0) (λ sure. w.1 (subst IsTrue (sym steady) sure))
        (subst (λ (n : Option (List ℕ)). IsSome n) named w.2)
        (both_after d.old mid d.new _ _ _ (part_after asked.out finished.out) same at_name)

    pub serves_short : Writes name finished mid_steady mid_write d.write_now mid d.new (Err ends.Memory) → Served (Some asked) [] d Memory
    serves_short w =
        let at_name = subst (λ (n : Option (List ℕ)). ToldBoth mid d.new (WrotePart n finished.out)) named w in
        write_short (Some asked) [] d (one (Some asked) []) all finished (outcome_is (Ok finished) made)
        (both_after d.old mid d.new _ _ _ (part_after asked.out finished.out) same at_name)

-- what is said of what was asked for is said of the words
pub served_words : (seen words : List (List ℕ)) (asked : Picked) (d : Around) (result : Answer) → seen ≡ words → picked seen ≡ Some asked
    → Served (Some asked) [] d result → Served (picked words) [] d result
served_words seen words asked d result same e h =
    subst (λ (w : List (List ℕ)). Served (picked w) [] d result) same (subst (λ (p : Option Picked). Served p [] d result) (sym e) h)

-- words at fault leave the files
pub usage_kept : (files : Option Files) (own : Outcomes) (name : Option (List ℕ)) (index : ℕ) → ToldBoth files files (Kept own name (Usage index))
usage_kept files own name index = both_same files (Kept own name (Usage index))
    (λ held. record { done = λ text e. absurd cc; other = λ not. inl (λ other. refl) })

pub usage_nothing : (files : Option Files) (index : ℕ) → ToldBoth files files (WritesNothing (Usage index))
usage_nothing files index = both_same files (WritesNothing (Usage index)) (λ held. record { same = λ other. refl; quiet = λ e. absurd cc })
