-- The one command that words mean, and counts that rose.
use Rattle.std.proofs.Common.{◌≡◌, ◌⊎◌, ℕ, ◌≤◌, Bool, List, refl, arith, inl, inr, subst, ap}
use Rattle.hr_base.specs.Counts.{Rose}
use Rattle.command_words.specs.Words.{IsCommand}
use Rattle.command_words.specs.declared.read.Command.{Command}
use Rattle.command_words.proofs.Words.{one_meaning}
use Rattle.restart_load.specs.declared.ended.Ended.TheVariants.{Memory}
use Rattle.store_serve.specs.declared.outcome.Outcome.{Outcome}
use Rattle.store_serve.specs.declared.outcome.Outcome.TheVariants.{Words, Ended}
use Rattle.store_serve.specs.Outcome.{status_of}
use Rattle.store_serve.specs.Served.{Because, CameTo, IsRefusedWords, Means, World}

-- a count that rose stays risen, and rose from what it was before
pub rose_later : (a b c : ℕ) → Rose a b → b ≤ c → Rose a c
rose_later a b c rose more = omega (arith, rose, more)

pub rose_earlier : (a b c : ℕ) → a ≤ b → Rose b c → Rose a c
rose_earlier a b c more rose = omega (arith, rose, more)

-- no command is read for two reasons
pub refused_words : (words : List (List ℕ)) (outcome : Outcome) → IsRefusedWords words outcome → (outcome ≡ Words) ⊎ (outcome ≡ Ended Memory)
refused_words words Words h = inl refl
refused_words words (Ended Memory) h = inr refl
refused_words words (Ended other) h = absurd h
refused_words words other h = absurd h

-- what holds of each command that comes to something holds of the one that the words mean
pub means_also : (words : List (List ℕ)) (Holds Follows : Command → Type 0) → ((command : Command) → Holds command → Follows command) → Means words Holds → Means words Follows
means_also words Holds Follows step m = record { command = m.command; meaning = m.meaning; holds = step m.command m.holds }

-- and it holds of that one alone
pub means_this : (words : List (List ℕ)) (Holds : Command → Type 0) (command : Command) → IsCommand words command → Means words Holds → Holds command
means_this words Holds command meaning m = subst Holds (one_meaning words m.command command m.meaning meaning) m.holds

-- a status other than 1 and 7 comes of a command
pub obeyed : (tells : Bool) (words : List (List ℕ)) (before mid : World) (outcome : Outcome) → Because tells words before mid outcome
    → (status_of outcome ≡ 1 → ⊥) → (status_of outcome ≡ 7 → ⊥) → Means words (λ command. CameTo tells command before mid outcome)
obeyed tells words before mid outcome because one seven =
    elim because [
      | inl none ↦ elim (refused_words words outcome none.0) [ inl e ↦ absurd (one (ap status_of e)) | inr e ↦ absurd (seven (ap status_of e)) ]
      | inr m ↦ m
    ]
