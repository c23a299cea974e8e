-- A chain of stages that give one result each gives one.
use Rattle.std.proofs.Common.{refl, ◌⊎◌, ◌≡◌, List, ℕ, Ok, Err, Result, inl, inr, sym, ◌∙◌, ap, subst, None, Some, Option}
use Rattle.std.specs.Prelude.{OnOk}
use Rattle.std.specs.Result.{IsErrAnd}
use Rattle.gr_base.specs.declared.end.End.{End}
use Rattle.gr_base.specs.declared.end.End.TheVariants as ends
use Rattle.gt_model.specs.declared.ir.Ir.{Ir}
use Rattle.gt_read.specs.declared.fault.FormatFault.{FormatFault}
use Rattle.gt_read.specs.File.{file, format_fault}
use Rattle.bare_image.specs.declared.image.Image.{Image as AnImage}
use Rattle.bare_image.specs.declared.fault.ImageFault.{ImageFault}
use Rattle.bare_image.specs.Reading.{image_fault}
use Rattle.bare_image.specs.Valid.{AreBytes, image_bytes}
use Rattle.jobs.specs.declared.verdict.Refusal.{Refusal}
use Rattle.jobs.specs.declared.verdict.Refusal.TheVariants.{Format, Image}
use Rattle.jobs.specs.Stages.{Stage, GivesOne, GivesSome, Answers, chain, just, meant, imaged}

pub just_one : {T : Type 0} (value : T) → GivesOne (just value)
just_one value (Ok a) (Ok b) x y = ap Ok (x ∙ sym y)
just_one value (Ok a) (Err s) x y = absurd y
just_one value (Err r) b x y = absurd x

module _ {S T : Type 0} (first : Stage S) (next : S → Stage T) (one : GivesOne first) (ones : (mid : S) → GivesOne (next mid)) where
  -- the first stage's result, and what the next gives of it
  Along : Result T Refusal → Type 0
  Along given = (mid : S) × first (Ok mid) × next mid given

  along_one : (a b : Result T Refusal) → Along a → Along b → a ≡ b
  unfolding Along
  along_one a b x y =
      let results = one (Ok x.0) (Ok y.0) x.1 y.1 in
      let same : x.0 ≡ y.0 = cc in
      ones y.0 a b (subst (λ (mid : S). next mid a) same x.2) y.2

  stops : (r : Refusal) (b : Result T Refusal) → first (Err r) → Along b → ⊥
  unfolding Along
  stops r b x y = let results = one (Err r) (Ok y.0) x y.1 in cc

  pub chain_one : GivesOne (chain first next)
  unfolding Along
  chain_one (Ok a) (Ok b) x y = along_one (Ok a) (Ok b) x y
  chain_one (Ok a) (Err s) x (inl y) = absurd (stops s (Ok a) y x)
  chain_one (Ok a) (Err s) x (inr y) = along_one (Ok a) (Err s) x y
  chain_one (Err r) (Ok b) (inl x) y = absurd (stops r (Ok b) x y)
  chain_one (Err r) (Ok b) (inr x) y = along_one (Err r) (Ok b) x y
  chain_one (Err r) (Err s) (inl x) (inl y) = let results = one (Err r) (Err s) x y in cc
  chain_one (Err r) (Err s) (inl x) (inr y) = absurd (stops r (Err s) x y)
  chain_one (Err r) (Err s) (inr x) (inl y) = absurd (stops s (Err r) y x)
  chain_one (Err r) (Err s) (inr x) (inr y) = along_one (Err r) (Err s) x y

pub just_some : {T : Type 0} (value : T) → GivesSome (just value)
just_some value = (Ok value, refl)

module _ {S T : Type 0} (first : Stage S) (next : S → Stage T) where
  goes_on : (mid : S) → first (Ok mid) → (given : Result T Refusal) → next mid given → chain first next given
  goes_on mid h (Ok value) k = (mid, h, k)
  goes_on mid h (Err refusal) k = inr (mid, h, k)

  -- a chain of stages that give something gives something
  pub chain_some : GivesSome first → ((mid : S) → first (Ok mid) → GivesSome (next mid)) → GivesSome (chain first next)
  chain_some some more = from some.0 some.1 where
    from : (given : Result S Refusal) → first given → GivesSome (chain first next)
    from (Ok mid) h = let last = more mid h in (last.0, goes_on mid h last.0 last.1)
    from (Err refusal) h = (Err refusal, inl h)

-- the bytes of a file mean one IR, or have one fault
pub meant_one : ((bytes : List ℕ) (a b : Ir) → file bytes a → file bytes b → a ≡ b) → (bytes : List ℕ) → GivesOne (meant bytes)
meant_one one bytes (Ok a) (Ok b) x y = ap Ok (one bytes a b x y)
meant_one one bytes (Ok a) (Err s) x y = absurd (y.3 a x)
meant_one one bytes (Err r) (Ok b) x y = absurd (x.3 b y)
meant_one one bytes (Err r) (Err s) x y =
    let here = x.2 in
    let there = y.2 in
    let same : x.0 ≡ y.0 = cc in
    ap Err (x.1 ∙ ap Format same ∙ sym y.1)

pub meant_some : ((bytes : List ℕ) → format_fault bytes ≡ None → (ir : Ir) × file bytes ir)
    → ((bytes : List ℕ) (fault : FormatFault) (ir : Ir) → format_fault bytes ≡ Some fault → file bytes ir → ⊥) → (bytes : List ℕ) → GivesSome (meant bytes)
meant_some found excluded bytes = by_fault (format_fault bytes) refl where
  by_fault : (fault : Option FormatFault) → format_fault bytes ≡ fault → GivesSome (meant bytes)
  by_fault None e = let f = found bytes e in (Ok f.0, f.1)
  by_fault (Some fault) e = (Err (Format fault), (fault, refl, e, (λ ir. excluded bytes fault ir e)))

fault_at : ℕ → ImageFault
fault_at place = record { place = place }

-- bytes spell one image, or have one fault
pub imaged_one : ((a b : AnImage) (bytes : List ℕ) → image_bytes a bytes → image_bytes b bytes → a ≡ b)
    → ((bytes : List ℕ) (a b : ℕ) → image_fault bytes a → image_fault bytes b → a ≡ b) → (bytes : List ℕ) → GivesOne (imaged bytes)
unfolding fault_at
imaged_one one fault bytes (Ok a) (Ok b) x y = ap Ok (one a b bytes x y)
imaged_one one fault bytes (Ok a) (Err s) x y = absurd (y.3 a x)
imaged_one one fault bytes (Err r) (Ok b) x y = absurd (x.3 b y)
imaged_one one fault bytes (Err r) (Err s) x y =
    let same : x.0 ≡ y.0 = ap fault_at (fault bytes x.0.place y.0.place x.2 y.2) in
    ap Err (x.1 ∙ ap Image same ∙ sym y.1)

pub imaged_some : ((bytes : List ℕ) → AreBytes bytes → ((image : AnImage) × image_bytes image bytes) ⊎ ((place : ℕ) × image_fault bytes place))
    → ((bytes : List ℕ) (image : AnImage) (place : ℕ) → image_bytes image bytes → image_fault bytes place → ⊥)
    → (bytes : List ℕ) → AreBytes bytes → GivesSome (imaged bytes)
unfolding fault_at
imaged_some some apart bytes are =
    elim (some bytes are) [
      | inl found ↦ (Ok found.0, found.1)
      | inr bad ↦ (Err (Image (fault_at bad.0)), (fault_at bad.0, refl, bad.1, (λ image spelled. apart bytes image bad.0 spelled bad.1)))
    ]

-- what holds anyway holds where a call is Ok
pub on_ok : {A E : Type 0} (r : Result A E) (P : Type 0) → P → OnOk r P
on_ok (Ok a) P h = h
on_ok (Err e) P h = tt

-- a chain stops where its first stage does
pub chain_stops : {S T : Type 0} (first : Stage S) (next : S → Stage T) (end : End Refusal) (r : Result T (End Refusal))
    → Answers first (Err end) → IsErrAnd r (λ e. e ≡ end) → Answers (chain first next) r
chain_stops first next end (Ok value) h w = absurd w
chain_stops first next (ends.Fault refusal) (Err e) h w = subst (λ (x : End Refusal). Answers (chain first next) (Err x)) (sym w) (inl h)
chain_stops first next ends.Memory (Err e) h w = subst (λ (x : End Refusal). Answers (chain first next) (Err x)) (sym w) tt

-- a chain goes on from what its first stage gives
pub chain_goes : {S T : Type 0} (first : Stage S) (next : S → Stage T) (mid : S) (r : Result T (End Refusal)) → first (Ok mid) → Answers (next mid) r
    → Answers (chain first next) r
chain_goes first next mid (Ok value) h k = (mid, h, k)
chain_goes first next mid (Err (ends.Fault refusal)) h k = inr (mid, h, k)
chain_goes first next mid (Err ends.Memory) h k = tt

-- what follows from what holds of a call that is Ok
pub on_ok_map : {T E A B : Type 0} (r : Result T E) → (A → B) → OnOk r A → OnOk r B
on_ok_map (Ok x) f a = f a
on_ok_map (Err e) f a = tt
