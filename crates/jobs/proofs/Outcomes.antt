-- Each job gives one verdict.
use Rattle.std.proofs.Common.{◌≡◌, ◌⊎◌, inl, inr, Result, List, [], ◌∷◌, ℕ, Bool, true, false, Option, None, Some, Ok, Err, unwrap_or, refl, sym, ◌∙◌, ap, subst, arith}
use Rattle.std.specs.Option.{option_and_then, option_map, option_map_or}
use Rattle.gr_base.specs.Desk.{Files}
use Rattle.gt_model.specs.declared.ir.Ir.{Ir}
use Rattle.gt_read.specs.File.{file, format_fault}
use Rattle.gt_read.specs.declared.fault.FormatFault.{FormatFault}
use Rattle.gt_write.specs.Canonical.{canonical}
use Rattle.bare_image.specs.declared.image.Image.{Image as AnImage}
use Rattle.bare_image.specs.Reading.{image_fault}
use Rattle.bare_image.specs.Valid.{AreBytes, image_bytes}
use Rattle.num_run.specs.Run.{num_run}
use Rattle.command_words.specs.declared.role.Role.{Role}
use Rattle.command_words.specs.declared.role.Role.TheVariants.{In, Input}
use Rattle.command_words.specs.declared.table.Job.{Job}
use Rattle.command_words.specs.declared.table.Job.TheVariants.{Recode, Check, Rewrite, Layout, Print, Link, Run, Sim, Demo}
use Rattle.jobs.specs.Inputs.{AllHeld, Contents, HoldBytes, bytes_in, contents_of, inputs_of}
use Rattle.jobs.specs.Outcome.{Pass, Outcome, Verdict, makes_as}
use Rattle.command_words.specs.Picked.{Picked, asked, picked, settings_of}
use Rattle.jobs.specs.Recode.{written}
use Rattle.jobs.specs.Run.{reported}
use Rattle.command_words.specs.Table.{job_named}
use Rattle.command_words.specs.Words.{WordsOk, is_short, lacks_any}
use Rattle.jobs.specs.Stages.{Stage, GivesOne, GivesSome, chain, exactly, just, meant, imaged}
use Rattle.layout_plan.specs.Text.{layout_text, text_fault}
use Rattle.layout_plan.specs.declared.fault.LayoutFault.TheVariants.{Line}
use Rattle.gt_model.specs.declared.modules.Module.{Module}
use Rattle.sym_expr.specs.declared.layout.Layout.{Layout as ALayout}
use Rattle.patch_lines.specs.declared.fault.PatchFault.{PatchFault}
use Rattle.patch_table.specs.PatchText.{patch_text}
use Rattle.sym_expr.specs.declared.patches.PatchTable.{PatchTable}
use Rattle.sym_expr.specs.declared.program.Program.{Program}
use Rattle.sym_expr.specs.declared.shape.Shape.{Shape}
use Rattle.sym_expr.specs.Placing.{shape_of}
use Rattle.command_words.specs.declared.role.Role.TheVariants as roles
use Rattle.jobs.specs.declared.verdict.Refusal.TheVariants as refusals
use Rattle.jobs.specs.Demo.{demo_made}
use Rattle.module_program.specs.Graphs.{program_in}
use Rattle.jobs.specs.Modules.{check_made, program_module}
use Rattle.jobs.specs.Programs.{free_program, patches_in, ModuleProgram, PatchedProgram, Programs}
use Rattle.jobs.specs.Linking.{laid_out, link_made, laid, laid_text, LaysIr, LinksIr, LinksProgram}
use Rattle.jobs.specs.Printing.{text_free, text_written, PrintsIr, PrintsModule, PrintsPatched}
use Rattle.jobs.specs.Rewriting.{patches_of, repaired_free, Repairs, RepairsModule, RewritesIr}
use Rattle.jobs.specs.Sim.{sim_made, SimsIr, SimsProgram}
use Rattle.jobs.proofs.Binding.{exactly_one, exactly_some}
use Rattle.jobs.proofs.Chains.{chain_one, just_one, meant_one, imaged_one, chain_some, just_some, meant_some, imaged_some}

-- a text gives one layout, or has one fault
pub laid_text_one : ((text : List ℕ) (a b : ALayout) → layout_text text a → layout_text text b → a ≡ b)
    → ((text : List ℕ) (a b : ℕ) → text_fault text a → text_fault text b → a ≡ b)
    → ((text : List ℕ) (layout : ALayout) (line : ℕ) → layout_text text layout → text_fault text line → ⊥)
    → (text : List ℕ) → GivesOne (laid_text text)
laid_text_one one fault apart text (Ok a) (Ok b) x y = ap Ok (one text a b x y)
laid_text_one one fault apart text (Ok a) (Err s) x y = absurd (apart text a y.0 x y.2)
laid_text_one one fault apart text (Err r) (Ok b) x y = absurd (apart text b x.0 y x.2)
laid_text_one one fault apart text (Err r) (Err s) x y =
    let same : x.0 ≡ y.0 = fault text x.0 y.0 x.2 y.2 in
    cc

pub laid_text_some : ((text : List ℕ) → ((layout : ALayout) × layout_text text layout) ⊎ ((line : ℕ) × text_fault text line)) → (text : List ℕ) → GivesSome (laid_text text)
laid_text_some some text =
    elim (some text) [
      | inl x ↦ (Ok x.0, x.1)
      | inr y ↦ (Err (refusals.Layout (Line y.0)), (y.0, refl, y.1))
    ]

-- a text gives one table of patches, or has one fault
pub patches_in_one : ((text : List ℕ) (m : Module) (a b : Result PatchTable PatchFault) → patch_text text m a → patch_text text m b → a ≡ b)
    → (text : List ℕ) (m : Module) → GivesOne (patches_in text m)
patches_in_one one text m (Ok a) (Ok b) x y = let same = one text m (Ok a) (Ok b) x y in cc
patches_in_one one text m (Ok a) (Err s) x y = let same = one text m (Ok a) (Err y.0) x y.2 in absurd cc
patches_in_one one text m (Err r) (Ok b) x y = let same = one text m (Err x.0) (Ok b) x.2 y in absurd cc
patches_in_one one text m (Err r) (Err s) x y =
    let results = one text m (Err x.0) (Err y.0) x.2 y.2 in
    let same : x.0 ≡ y.0 = cc in
    ap Err (x.1 ∙ ap refusals.Patch same ∙ sym y.1)

pub patches_in_some : ((text : List ℕ) (m : Module) → (r : Result PatchTable PatchFault) × patch_text text m r) → (text : List ℕ) (m : Module) → GivesSome (patches_in text m)
patches_in_some some text m = from (some text m).0 (some text m).1 where
  from : (r : Result PatchTable PatchFault) → patch_text text m r → GivesSome (patches_in text m)
  from (Ok p) is = (Ok p, is)
  from (Err fault) is = (Err (refusals.Patch fault), (fault, refl, is))

laid_one : ((text : List ℕ) → GivesOne (laid_text text)) → (word : Option (List ℕ)) (shape : Shape) → GivesOne (laid word shape)
laid_one ones None shape = exactly_one _
laid_one ones (Some text) shape = ones text

module _ (meaning : (bytes : List ℕ) (a b : Ir) → file bytes a → file bytes b → a ≡ b)
    (image : (a b : AnImage) (bytes : List ℕ) → image_bytes a bytes → image_bytes b bytes → a ≡ b)
    (fault : (bytes : List ℕ) (a b : ℕ) → image_fault bytes a → image_fault bytes b → a ≡ b)
    (texts : (text : List ℕ) → GivesOne (laid_text text))
    (patches : (text : List ℕ) (m : Module) → GivesOne (patches_in text m)) where
  -- a module and its patches have one program, or one fault
  program_one : (ir : Ir) (text : Option (List ℕ)) (m : Module) → GivesOne (ModuleProgram ir text m)
  program_one ir None m = exactly_one (Ok (program_in m))
  program_one ir (Some text) m = chain_one (patches_in text m) (λ p. exactly (free_program ir m p)) (patches text m) (λ p. exactly_one (free_program ir m p))

  programs_one : (asked : Picked) (text : Option (List ℕ)) (ir : Ir) → GivesOne (Programs asked text ir)
  programs_one asked text ir = chain_one (exactly (program_module asked ir)) (λ m. ModuleProgram ir text m) (exactly_one (program_module asked ir)) (λ m. program_one ir text m)

  -- a module and its patches make one IR, or one fault
  patched_one : (text : Option (List ℕ)) (m : Module) → GivesOne (patches_of text m)
  patched_one None m = exactly_one _
  patched_one (Some text) m = patches text m

  repairs_one : (asked : Picked) (text : Option (List ℕ)) (ir : Ir) → GivesOne (Repairs asked text ir)
  repairs_one asked text ir =
      chain_one (exactly (program_module asked ir)) (λ m. RepairsModule ir text m) (exactly_one (program_module asked ir)) (λ m.
      chain_one (patches_of text m) (λ p. exactly (repaired_free ir m p)) (patched_one text m) (λ p. exactly_one (repaired_free ir m p)))

  rewrites_one : (asked : Picked) (contents : Contents) (ir : Ir) → GivesOne (RewritesIr asked contents ir)
  rewrites_one asked contents ir =
      chain_one (Repairs asked (contents roles.Patch) ir) (λ new. just (written (canonical new))) (repairs_one asked (contents roles.Patch) ir) (λ new. just_one (written (canonical new)))

  prints_module_one : (ir : Ir) (text : Option (List ℕ)) (m : Module) → GivesOne (PrintsModule ir text m)
  prints_module_one ir None m = exactly_one (Ok (text_written m))
  prints_module_one ir (Some text) m = chain_one (patches_in text m) (λ p. exactly (text_free ir m p)) (patches text m) (λ p. exactly_one (text_free ir m p))

  prints_one : (asked : Picked) (contents : Contents) (ir : Ir) → GivesOne (PrintsIr asked contents ir)
  prints_one asked contents ir =
      chain_one (exactly (program_module asked ir)) (λ m. PrintsModule ir (contents roles.Patch) m) (exactly_one (program_module asked ir)) (λ m. prints_module_one ir (contents roles.Patch) m)

  lays_one : (asked : Picked) (contents : Contents) (ir : Ir) → GivesOne (LaysIr asked contents ir)
  lays_one asked contents ir =
      chain_one (Programs asked (contents roles.Patch) ir) (λ g. just (laid_out g)) (programs_one asked (contents roles.Patch) ir) (λ g. just_one (laid_out g))

  links_one : (asked : Picked) (contents : Contents) (ir : Ir) → GivesOne (LinksIr asked contents ir)
  links_one asked contents ir =
      chain_one (Programs asked (contents roles.Patch) ir) (λ g. LinksProgram (contents roles.Layout) g) (programs_one asked (contents roles.Patch) ir) (λ g.
      chain_one (laid (contents roles.Layout) (shape_of g)) (λ layout. exactly (link_made g layout)) (laid_one texts (contents roles.Layout) (shape_of g)) (λ layout. exactly_one (link_made g layout)))

  sims_one : (asked : Picked) (contents : Contents) (ir : Ir) → GivesOne (SimsIr asked contents ir)
  sims_one asked contents ir =
      let input = bytes_in contents Input in
      let steps = asked.settings.steps in
      chain_one (Programs asked (contents roles.Patch) ir) (λ g. SimsProgram (contents roles.Layout) input steps g) (programs_one asked (contents roles.Patch) ir) (λ g.
      chain_one (laid (contents roles.Layout) (shape_of g)) (λ layout. exactly (sim_made g layout input steps)) (laid_one texts (contents roles.Layout) (shape_of g)) (λ layout. exactly_one (sim_made g layout input steps)))

  makes_one : (job : Job) (asked : Picked) (passes : List Pass) (contents : Contents) → GivesOne (makes_as job asked passes contents)
  makes_one Recode asked passes contents =
      chain_one (meant (bytes_in contents In)) (λ ir. just (written (canonical ir)))
      (meant_one meaning (bytes_in contents In)) (λ ir. just_one (written (canonical ir)))
  makes_one Check asked passes contents =
      chain_one (meant (bytes_in contents In)) (λ ir. exactly (check_made asked ir))
      (meant_one meaning (bytes_in contents In)) (λ ir. exactly_one (check_made asked ir))
  makes_one Rewrite asked passes contents =
      chain_one (meant (bytes_in contents In)) (λ ir. RewritesIr asked contents ir) (meant_one meaning (bytes_in contents In)) (λ ir. rewrites_one asked contents ir)
  makes_one Layout asked passes contents =
      chain_one (meant (bytes_in contents In)) (λ ir. LaysIr asked contents ir) (meant_one meaning (bytes_in contents In)) (λ ir. lays_one asked contents ir)
  makes_one Print asked passes contents =
      chain_one (meant (bytes_in contents In)) (λ ir. PrintsIr asked contents ir) (meant_one meaning (bytes_in contents In)) (λ ir. prints_one asked contents ir)
  makes_one Link asked passes contents =
      chain_one (meant (bytes_in contents In)) (λ ir. LinksIr asked contents ir) (meant_one meaning (bytes_in contents In)) (λ ir. links_one asked contents ir)
  makes_one Run asked passes contents =
      let report : AnImage → _ = λ x. reported (num_run x (bytes_in contents Input) asked.settings.steps) in
      chain_one (imaged (bytes_in contents In)) (λ x. just (report x))
      (imaged_one image fault (bytes_in contents In)) (λ x. just_one (report x))
  makes_one Sim asked passes contents =
      chain_one (meant (bytes_in contents In)) (λ ir. SimsIr asked contents ir) (meant_one meaning (bytes_in contents In)) (λ ir. sims_one asked contents ir)
  makes_one Demo asked passes contents = exactly_one (demo_made asked.settings.seed asked.settings.blocks)

  pub outcome_one : (asked : Option Picked) (passes : List Pass) (files : Files) (a b : Verdict) → Outcome asked passes files a → Outcome asked passes files b → a ≡ b
  outcome_one None passes files a b x y = absurd x
  outcome_one (Some asked) passes files a b x y = makes_one asked.job asked passes (contents_of asked files) a b x.makes y.makes

module _ (found : (bytes : List ℕ) → format_fault bytes ≡ None → (ir : Ir) × file bytes ir)
    (excluded : (bytes : List ℕ) (fault : FormatFault) (ir : Ir) → format_fault bytes ≡ Some fault → file bytes ir → ⊥)
    (some : (bytes : List ℕ) → AreBytes bytes → ((image : AnImage) × image_bytes image bytes) ⊎ ((place : ℕ) × image_fault bytes place))
    (apart : (bytes : List ℕ) (image : AnImage) (place : ℕ) → image_bytes image bytes → image_fault bytes place → ⊥)
    (texts : (text : List ℕ) → GivesSome (laid_text text))
    (patches : (text : List ℕ) (m : Module) → GivesSome (patches_in text m)) where
  laid_some : (word : Option (List ℕ)) (shape : Shape) → GivesSome (laid word shape)
  laid_some None shape = exactly_some _
  laid_some (Some text) shape = texts text

  -- a module and its patches have a program or a fault
  program_some : (ir : Ir) (text : Option (List ℕ)) (m : Module) → GivesSome (ModuleProgram ir text m)
  program_some ir None m = exactly_some (Ok (program_in m))
  program_some ir (Some text) m = chain_some (patches_in text m) (λ p. exactly (free_program ir m p)) (patches text m) (λ p h. exactly_some (free_program ir m p))

  programs_some : (asked : Picked) (text : Option (List ℕ)) (ir : Ir) → GivesSome (Programs asked text ir)
  programs_some asked text ir = chain_some (exactly (program_module asked ir)) (λ m. ModuleProgram ir text m) (exactly_some (program_module asked ir)) (λ m h. program_some ir text m)

  -- a module and its patches make an IR or a fault
  patched_some : (text : Option (List ℕ)) (m : Module) → GivesSome (patches_of text m)
  patched_some None m = exactly_some _
  patched_some (Some text) m = patches text m

  repairs_some : (asked : Picked) (text : Option (List ℕ)) (ir : Ir) → GivesSome (Repairs asked text ir)
  repairs_some asked text ir =
      chain_some (exactly (program_module asked ir)) (λ m. RepairsModule ir text m) (exactly_some (program_module asked ir)) (λ m h.
      chain_some (patches_of text m) (λ p. exactly (repaired_free ir m p)) (patched_some text m) (λ p k. exactly_some (repaired_free ir m p)))

  rewrites_some : (asked : Picked) (contents : Contents) (ir : Ir) → GivesSome (RewritesIr asked contents ir)
  rewrites_some asked contents ir =
      chain_some (Repairs asked (contents roles.Patch) ir) (λ new. just (written (canonical new))) (repairs_some asked (contents roles.Patch) ir) (λ new h. just_some (written (canonical new)))

  prints_module_some : (ir : Ir) (text : Option (List ℕ)) (m : Module) → GivesSome (PrintsModule ir text m)
  prints_module_some ir None m = exactly_some (Ok (text_written m))
  prints_module_some ir (Some text) m = chain_some (patches_in text m) (λ p. exactly (text_free ir m p)) (patches text m) (λ p h. exactly_some (text_free ir m p))

  prints_some : (asked : Picked) (contents : Contents) (ir : Ir) → GivesSome (PrintsIr asked contents ir)
  prints_some asked contents ir =
      chain_some (exactly (program_module asked ir)) (λ m. PrintsModule ir (contents roles.Patch) m) (exactly_some (program_module asked ir)) (λ m h. prints_module_some ir (contents roles.Patch) m)

  lays_some : (asked : Picked) (contents : Contents) (ir : Ir) → GivesSome (LaysIr asked contents ir)
  lays_some asked contents ir =
      chain_some (Programs asked (contents roles.Patch) ir) (λ g. just (laid_out g)) (programs_some asked (contents roles.Patch) ir) (λ g h. just_some (laid_out g))

  links_some : (asked : Picked) (contents : Contents) (ir : Ir) → GivesSome (LinksIr asked contents ir)
  links_some asked contents ir =
      chain_some (Programs asked (contents roles.Patch) ir) (λ g. LinksProgram (contents roles.Layout) g) (programs_some asked (contents roles.Patch) ir) (λ g h.
      chain_some (laid (contents roles.Layout) (shape_of g)) (λ layout. exactly (link_made g layout)) (laid_some (contents roles.Layout) (shape_of g)) (λ layout l. exactly_some (link_made g layout)))

  sims_some : (asked : Picked) (contents : Contents) (ir : Ir) → GivesSome (SimsIr asked contents ir)
  sims_some asked contents ir =
      let input = bytes_in contents Input in
      let steps = asked.settings.steps in
      chain_some (Programs asked (contents roles.Patch) ir) (λ g. SimsProgram (contents roles.Layout) input steps g) (programs_some asked (contents roles.Patch) ir) (λ g h.
      chain_some (laid (contents roles.Layout) (shape_of g)) (λ layout. exactly (sim_made g layout input steps)) (laid_some (contents roles.Layout) (shape_of g)) (λ layout l. exactly_some (sim_made g layout input steps)))

  makes_some : (job : Job) (asked : Picked) (passes : List Pass) (contents : Contents) → ((role : Role) → AreBytes (bytes_in contents role))
      → GivesSome (makes_as job asked passes contents)
  makes_some Recode asked passes contents are =
      chain_some (meant (bytes_in contents In)) (λ ir. just (written (canonical ir)))
      (meant_some found excluded (bytes_in contents In)) (λ ir h. just_some (written (canonical ir)))
  makes_some Check asked passes contents are =
      chain_some (meant (bytes_in contents In)) (λ ir. exactly (check_made asked ir))
      (meant_some found excluded (bytes_in contents In)) (λ ir h. exactly_some (check_made asked ir))
  makes_some Rewrite asked passes contents are =
      chain_some (meant (bytes_in contents In)) (λ ir. RewritesIr asked contents ir) (meant_some found excluded (bytes_in contents In)) (λ ir h. rewrites_some asked contents ir)
  makes_some Layout asked passes contents are =
      chain_some (meant (bytes_in contents In)) (λ ir. LaysIr asked contents ir) (meant_some found excluded (bytes_in contents In)) (λ ir h. lays_some asked contents ir)
  makes_some Print asked passes contents are =
      chain_some (meant (bytes_in contents In)) (λ ir. PrintsIr asked contents ir) (meant_some found excluded (bytes_in contents In)) (λ ir h. prints_some asked contents ir)
  makes_some Link asked passes contents are =
      chain_some (meant (bytes_in contents In)) (λ ir. LinksIr asked contents ir) (meant_some found excluded (bytes_in contents In)) (λ ir h. links_some asked contents ir)
  makes_some Run asked passes contents are =
      let report : AnImage → _ = λ x. reported (num_run x (bytes_in contents Input) asked.settings.steps) in
      chain_some (imaged (bytes_in contents In)) (λ x. just (report x))
      (imaged_some some apart (bytes_in contents In) (are In)) (λ x h. just_some (report x))
  makes_some Sim asked passes contents are =
      chain_some (meant (bytes_in contents In)) (λ ir. SimsIr asked contents ir) (meant_some found excluded (bytes_in contents In)) (λ ir h. sims_some asked contents ir)
  makes_some Demo asked passes contents are = exactly_some (demo_made asked.settings.seed asked.settings.blocks)

  -- the contents of files that hold bytes are bytes
  are_bytes : (files : Files) → HoldBytes files → (name : Option (List ℕ)) → AreBytes (unwrap_or (option_and_then files name) [])
  are_bytes files hold None = λ k d inside. absurd (omega arith)
  are_bytes files hold (Some name) = by_content (files name) refl where
    by_content : (content : Option (List ℕ)) → files name ≡ content → AreBytes (unwrap_or content [])
    by_content None e = λ k d inside. absurd (omega arith)
    by_content (Some bytes) e = hold name bytes e

  -- the words of a job ask for something
  asked_some : (o : Option Job) (short : Job → Bool) (ask : Job → Picked) → option_map_or short o true ≡ false
      → (asked : Picked) × (option_map ask o ≡ Some asked)
  asked_some None short ask e = absurd cc
  asked_some (Some job) short ask e = (ask job, refl)

  picked_some : (words : List (List ℕ)) → is_short words ≡ false → (asked : Picked) × (picked words ≡ Some asked)
  picked_some [] e = absurd cc
  picked_some (first ∷ words) e = asked_some (job_named first) (λ job. lacks_any job words) (λ job. asked job words (settings_of words)) e

  pub outcome_some : (words : List (List ℕ)) (passes : List Pass) (files : Files) → WordsOk words → HoldBytes files
      → AllHeld (inputs_of (picked words)) files → (verdict : Verdict) × Outcome (picked words) passes files verdict
  outcome_some words passes files ok hold =
      let p = picked_some words ok.whole in
      subst (λ (o : Option Picked). AllHeld (inputs_of o) files → (verdict : Verdict) × Outcome o passes files verdict) (sym p.1)
      (λ held.
      let made = makes_some p.0.job p.0 passes (contents_of p.0 files) (λ role. are_bytes files hold (p.0.file role)) in
      (made.0, record { held = held; makes = made.1 }))
