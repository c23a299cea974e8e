-- What a job requires is given.
use Rattle.std.proofs.Common.{◌≡◌, ℕ, List, [], ◌∷◌, Bool, true, false, Option, None, Some, IsSome, refl, subst}
use Rattle.std.specs.Prelude.{◌||◌, is_none}
use Rattle.std.specs.List.{list_any}
use Rattle.std.specs.Option.{option_map, option_map_or}
use Rattle.command_words.specs.declared.role.Role.{Role}
use Rattle.command_words.specs.declared.table.Job.{Job}
use Rattle.command_words.specs.declared.table.WordName.{WordName}
use Rattle.command_words.specs.declared.table.WordName.TheVariants.{In, Patch, Layout, Input, Out, Module, Plain, Isa, Steps, Seed, Blocks}
use Rattle.command_words.specs.Picked.{Picked, asked, picked, settings_of}
use Rattle.command_words.specs.Table.{job_named, requires, required_of, role_word, same_name}
use Rattle.command_words.specs.Words.{WordsOk, lacks_any, value_of}

same_name_is : (a b : WordName) → same_name a b ≡ true → a ≡ b
same_name_is In In e = refl
same_name_is Patch Patch e = refl
same_name_is Layout Layout e = refl
same_name_is Input Input e = refl
same_name_is Out Out e = refl
same_name_is Module Module e = refl
same_name_is Plain Plain e = refl
same_name_is Isa Isa e = refl
same_name_is Steps Steps e = refl
same_name_is Seed Seed e = refl
same_name_is Blocks Blocks e = refl
same_name_is _ _ e = absurd cc

-- what fails of each name fails of one of them
fails_of : (p : WordName → Bool) (name : WordName) (xs : List WordName) → list_any p xs ≡ false → list_any (λ x. same_name x name) xs ≡ true
    → p name ≡ false
fails_of p name [] none one = absurd cc
fails_of p name (x ∷ xs) none one = by_head (p x) (same_name x name) refl refl none one (fails_of p name xs) where
  by_head : (holds same : Bool) → p x ≡ holds → same_name x name ≡ same → (holds || list_any p xs) ≡ false
      → (same || list_any (λ y. same_name y name) xs) ≡ true
      → (list_any p xs ≡ false → list_any (λ y. same_name y name) xs ≡ true → p name ≡ false) → p name ≡ false
  by_head true same h e none one rest = absurd cc
  by_head false true h e none one rest = subst (λ (n : WordName). p n ≡ false) (same_name_is x name e) h
  by_head false false h e none one rest = rest none one

not_none : {T : Type 0} (o : Option T) → is_none o ≡ false → IsSome o
not_none None e = absurd cc
not_none (Some x) e = refl

-- the files that a job requires are named
pub record Named (ask : Picked) : Type 0 where
  pub input : (role : Role) → requires ask.job (role_word role) ≡ true → IsSome (ask.file role)
  pub output : requires ask.job Out ≡ true → IsSome ask.out

named_in : (words : List (List ℕ)) (ask : Picked) (o : Option Job) → option_map_or (λ job. lacks_any job words) o true ≡ false
    → option_map (λ job. asked job words (settings_of words)) o ≡ Some ask → Named ask
named_in words ask None whole e = absurd cc
named_in words ask (Some job) whole e =
    let same : asked job words (settings_of words) ≡ ask = cc in
    let given : (name : WordName) → requires job name ≡ true → IsSome (value_of name words)
    = λ name r. not_none (value_of name words) (fails_of (λ n. is_none (value_of n words)) name (required_of job) whole r) in
    subst (λ (p : Picked). Named p) same (record { input = λ role. given (role_word role); output = given Out })

pub required_named : (words : List (List ℕ)) (ask : Picked) → WordsOk words → picked words ≡ Some ask → Named ask
required_named [] ask ok e = absurd cc
required_named (first ∷ words) ask ok e = named_in words ask (job_named first) ok.whole e
