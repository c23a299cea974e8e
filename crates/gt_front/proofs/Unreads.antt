-- The causes of a read fault and of an input that is too large.
use Rattle.std.proofs.Common.{◌≡◌, List, ◌∷◌, ◌++◌, ℕ, Bool, Option, None, refl, inl, inr, sym, ◌∙◌, ap, subst}
use Rattle.gr_base.specs.Desk.{Files, Told}
use Rattle.gr_base.specs.declared.end.End.{End}
use Rattle.gr_base.specs.declared.end.End.TheVariants as ends
use Rattle.gr_base.specs.declared.whole.ReadEnd.{ReadEnd}
use Rattle.gr_base.specs.declared.whole.ReadEnd.TheVariants as reads
use Rattle.gt_front.specs.declared.answer.Answer.{Answer}
use Rattle.gt_front.specs.declared.answer.Answer.TheVariants.{ReadFault, TooLarge}
use Rattle.command_words.specs.declared.role.Role.{Role}
use Rattle.gt_front.specs.Answer.{unread_answer}
use Rattle.gt_front.specs.Causes.{ReadFaultCause, TooLargeCause}
use Rattle.jobs.specs.Inputs.{InputFile, IsReadable, IsTooLarge, AllReadable, Reaches, Names}
use Rattle.gt_front.specs.Reads.{Counts, Refuses}
use Rattle.gt_front.proofs.FirstBad.{first_one, all_at, missing_unreadable, large_unreadable, missing_not_large}
use Rattle.gt_front.proofs.Telling.{told_map, told_map2}

-- an input that can't be read isn't reached where all can be read
pub none_bad : (inputs : List InputFile) (held : Files) (role : Role) (name : List ℕ) → AllReadable inputs held
    → Reaches inputs role name held → IsReadable held name
none_bad inputs held role name all reach =
    let P : InputFile → Type 0 = λ input. IsReadable held input.1 in
    let along : AllReadable (reach.before ++ (role, name) ∷ reach.after) held = subst (λ (l : List InputFile). AllReadable l held) reach.listed all in
    all_at P reach.before (role, name) reach.after along

-- the answer isn't one of a refused read
abbrev pub IsPlain : Answer → Type 0
IsPlain result = ((role : Role) → result ≡ ReadFault role → ⊥) × ((role : Role) → result ≡ TooLarge role → ⊥)

module _ (inputs : List InputFile) (files : Option Files) (steady : Bool) (before now : ℕ) (result : Answer) (plain : IsPlain result) (all : Told files (AllReadable inputs)) where
  -- where every input was read, no read was refused
  pub no_read_fault : ReadFaultCause inputs files steady before now result
  no_read_fault = record {
    rose = λ role e. absurd (plain.0 role e);
    named = λ role e. absurd (plain.0 role e);
    reached = λ role e. absurd (plain.0 role e);
    missing = λ sure role e. absurd (plain.0 role e);
    always = λ sure. told_map files (AllReadable inputs) _
        (λ held readable role name reach none. absurd (missing_unreadable held name none (none_bad inputs held role name readable reach))) all;
  }

  pub no_too_large : TooLargeCause inputs files steady before now result
  no_too_large = record {
    took = λ role e. absurd (plain.1 role e);
    named = λ role e. absurd (plain.1 role e);
    larger = λ role e. absurd (plain.1 role e);
    always = λ sure. told_map files (AllReadable inputs) _
        (λ held readable role name reach large. absurd (large_unreadable held name large (none_bad inputs held role name readable reach))) all;
  }

-- the input at which reading stopped is the first one that can't be read
module _ (inputs before after : List InputFile) (role : Role) (name : List ℕ) (listed : inputs ≡ before ++ (role, name) ∷ after) (files : Option Files) (steady : Bool)
    (all : Told files (AllReadable before)) where
  one_place : (held : Files) (r : Role) (n : List ℕ) → AllReadable before held → Reaches inputs r n held
      → (IsReadable held name → ⊥) → (IsReadable held n → ⊥) → ◌≡◌ {A = InputFile} (role, name) (r, n)
  one_place held r n here reach bad1 bad2 =
      let P : InputFile → Type 0 = λ input. IsReadable held input.1 in
      first_one P before reach.before (role, name) (r, n) after reach.after (sym listed ∙ reach.listed) here reach.readable bad1 bad2

  reaches : (held : Files) → AllReadable before held → Reaches inputs role name held
  reaches held here = record { before = before; after = after; listed = listed; readable = here }

  names : (r : Role) → role ≡ r → Names inputs r
  names r e = subst (λ (x : Role). Names inputs x) e (before, name, after, listed)

  reached_by : (r : Role) → role ≡ r → (Q : Files → List ℕ → Type 0) → Told files (λ held. Q held name)
      → Told files (λ held. (n : List ℕ) × Reaches inputs r n held × Q held n)
  reached_by r e Q h = told_map2 files _ _ _
      (λ held a q. (name, subst (λ (x : Role). Reaches inputs x name held) e (reaches held a), q)) all h

  pub unread_read_fault : (counts : Counts) (end : End ReadEnd) → Refuses name files steady counts end
      → ReadFaultCause inputs files steady counts.read_before counts.read_now (unread_answer role end)
  unread_read_fault counts ends.Memory w = record {
    rose = λ r e. absurd cc;
    named = λ r e. absurd cc;
    reached = λ r e. absurd cc;
    missing = λ sure r e. absurd cc;
    always = λ sure. told_map files _ _ (λ held a r n reach none. inr refl) all;
  }
  unread_read_fault counts (ends.Fault reads.Fault) w = record {
    rose = λ r e. w.0;
    named = λ r e. let same : role ≡ r = cc in names r same;
    reached = λ r e.
        let same : role ≡ r = cc in
        told_map files _ _ (λ held a. (name, subst (λ (x : Role). Reaches inputs x name held) same (reaches held a))) all;
    missing = λ sure r e. let same : role ≡ r = cc in reached_by r same (λ held n. held n ≡ None) (w.1 sure);
    always = λ sure. told_map2 files _ _ _ (λ held a here r n reach none.
        let place = one_place held r n a reach (missing_unreadable held name here) (missing_unreadable held n none) in
        inl (ap (λ (x : InputFile). ReadFault x.0) place)) all (w.1 sure);
  }
  unread_read_fault counts (ends.Fault reads.TooLarge) w = record {
    rose = λ r e. absurd cc;
    named = λ r e. absurd cc;
    reached = λ r e. absurd cc;
    missing = λ sure r e. absurd cc;
    always = λ sure. told_map2 files _ _ _ (λ held a here r n reach none.
        let place = one_place held r n a reach (large_unreadable held name here) (missing_unreadable held n none) in
        let same : name ≡ n = ap (λ (x : InputFile). x.1) place in
        let none' : held name ≡ None = rw same none in
        absurd (missing_not_large held name none' here)) all w.1;
  }

  pub unread_too_large : (counts : Counts) (end : End ReadEnd) → Refuses name files steady counts end
      → TooLargeCause inputs files steady counts.taken_before counts.taken_now (unread_answer role end)
  unread_too_large counts ends.Memory w = record {
    took = λ r e. absurd cc;
    named = λ r e. absurd cc;
    larger = λ r e. absurd cc;
    always = λ sure. told_map files _ _ (λ held a r n reach large. inr refl) all;
  }
  unread_too_large counts (ends.Fault reads.TooLarge) w = record {
    took = λ r e. w.0;
    named = λ r e. let same : role ≡ r = cc in names r same;
    larger = λ r e. let same : role ≡ r = cc in reached_by r same (λ held n. IsTooLarge held n) w.1;
    always = λ sure. told_map2 files _ _ _ (λ held a here r n reach large.
        let place = one_place held r n a reach (large_unreadable held name here) (large_unreadable held n large) in
        inl (ap (λ (x : InputFile). TooLarge x.0) place)) all w.1;
  }
  unread_too_large counts (ends.Fault reads.Fault) w = record {
    took = λ r e. absurd cc;
    named = λ r e. absurd cc;
    larger = λ r e. absurd cc;
    always = λ sure. told_map2 files _ _ _ (λ held a here r n reach large.
        let place = one_place held r n a reach (missing_unreadable held name here) (large_unreadable held n large) in
        let same : name ≡ n = ap (λ (x : InputFile). x.1) place in
        let none : held n ≡ None = rw (← same) here in
        absurd (missing_not_large held n none large)) all (w.1 sure);
  }
