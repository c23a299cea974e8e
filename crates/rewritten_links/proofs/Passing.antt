-- A module that passes its checks has no Place past what it names.
use Rattle.std.proofs.Common.{◌≡◌, inl, inr, List, [], ◌∷◌, Option, Some, None, Ok, refl, sym, ◌∙◌}
use Rattle.std.specs.Option.{option_or}
use Rattle.std.proofs.lemmas.Option.{none-some}
use Rattle.aux_tables.specs.ModuleTables.{tables_of}
use Rattle.gt_model.specs.declared.ir.Ir.{Ir}
use Rattle.gt_model.specs.declared.modules.Module.{Module}
use Rattle.ir_check.specs.declared.profile.Profile.{Profile}
use Rattle.ir_check.specs.declared.report.CheckReport.{CheckReport}
use Rattle.ir_check.specs.Faults.{aux_faults, bad_places, block_outside, check_fault, code_align, contents_long, faults_of_exprs, large, no_entry, not_a64, overlap, thread_local}
use Rattle.ir_check.specs.Faults as check
use Rattle.ir_check.specs.Report.{checked, report_of, unless}
use Rattle.node_arena.specs.declared.fault.CheckFault.{CheckFault}
use Rattle.sym_expr.specs.Modules.{loaded_intervals}
use Rattle.rewritten_links.proofs.Lists.{In}

no_error : (report other : CheckReport) (o : Option CheckFault) → unless report o ≡ Ok other → o ≡ None
no_error report other None h = refl
no_error report other (Some fault) h = absurd (cc)

none_first : (a b : Option CheckFault) → option_or a b ≡ None → (a ≡ None) × (b ≡ None)
none_first None b h = (refl, h)
none_first (Some fault) b h = absurd (none-some fault (sym h))

-- the first of several faults, or else the last
abbrev first_of_all : List (Option CheckFault) → Option CheckFault → Option CheckFault
first_of_all [] last = last
first_of_all (o ∷ os) last = option_or o (first_of_all os last)

none_of_all : (o last : Option CheckFault) (os : List (Option CheckFault)) → first_of_all os last ≡ None → In o os → o ≡ None
none_of_all o last [] h k = absurd k
none_of_all o last (x ∷ os) h (inl e) = e ∙ (none_first x (first_of_all os last) h).0
none_of_all o last (x ∷ os) h (inr k) = none_of_all o last os (none_first x (first_of_all os last) h).1 k

no_first : (faults : List CheckFault) → check.first faults ≡ None → faults ≡ []
no_first [] h = refl
no_first (fault ∷ rest) h = absurd (none-some fault (sym h))

pub no_bad_places : (profile : Profile) (ir : Ir) (m : Module) (report : CheckReport) → checked profile ir m ≡ Ok report → bad_places (loaded_intervals m) m.aux ≡ []
no_bad_places profile ir m report h =
    let places : Option CheckFault = check.first (bad_places (loaded_intervals m) m.aux) in
    let all : List (Option CheckFault) =
    not_a64 profile m ∷ thread_local m ∷ large m ∷ contents_long m ∷ block_outside m ∷ overlap m ∷ code_align m ∷ no_entry m ∷ check.first (aux_faults m.aux) ∷ places ∷ [] in
    let none : first_of_all all (check.first (faults_of_exprs profile.plain m (tables_of m))) ≡ None = no_error (report_of ir m) report (check_fault profile m) h in
    no_first (bad_places (loaded_intervals m) m.aux)
    (none_of_all places (check.first (faults_of_exprs profile.plain m (tables_of m))) all none (inr (inr (inr (inr (inr (inr (inr (inr (inr (inl refl)))))))))))
