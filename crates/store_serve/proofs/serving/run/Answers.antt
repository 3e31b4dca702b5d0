use Rattle.std.proofs.Common.{◌≡◌, ℕ, List, Result, Err, IsErrOf, refl, inl, subst, sym, ◌∙◌}
use Rattle.hr_base.specs.declared.limits.Limits.{Limits}
use Rattle.command_words.specs.declared.parse.WordsRefusal.{WordsRefusal}
use Rattle.command_words.specs.declared.parse.WordsRefusal.TheVariants as refusal
use Rattle.command_words.specs.declared.read.Command.{Command}
use Rattle.command_words.specs.declared.read.Command.TheVariants.{Play}
use Rattle.command_words.specs.Words.{word_texts}
use Rattle.command_words.proofs.Words.{one_meaning}
use Rattle.store_serve.specs.declared.outcome.Outcome.{Outcome}
use Rattle.store_serve.specs.Ends.{outcome_of_words}
use Rattle.store_serve.specs.Scripts.{IsUnfit}
use Rattle.store_serve.specs.Served.{IsNoCommand, IsRefusedWords}
use Rattle.store_serve.proofs.serving.run.Goals as goal

pub returns-in-Ok-Play-clause-spared : goal.returns-in-Ok-Play-clause-spared
returns-in-Ok-Play-clause-spared g c limits meaning unfit =
    let same : Play limits ≡ Play c.in-Ok-Play.limits = one_meaning _ _ _ meaning c.in-Ok-Play.ensures.found ∙ c.in-Ok-Play.field-0-is in
    let own : limits ≡ c.in-Ok-Play.limits = cc in
    c.play_script.ensures.spared (subst (λ (l : Limits). IsUnfit l.partitions (g.S.Source.left c.args.input.now)) own unfit)

-- the refusal is told as it is
refused : (words : List (List ℕ)) (result : Result Command WordsRefusal) (r : WordsRefusal) → result ≡ Err r → (IsErrOf result refusal.Words → IsNoCommand words) → IsRefusedWords words (outcome_of_words r)
refused words result refusal.Memory is none = tt
refused words result refusal.Words is none = none (subst (λ (x : Result Command WordsRefusal). IsErrOf x refusal.Words) (sym is) refl)

pub returns-in-Err-clause-because : goal.returns-in-Err-clause-because
returns-in-Err-clause-because g c =
    inl (subst (λ (o : Outcome). IsRefusedWords (word_texts c.args.words.now) o) (sym c.from.ensures) (refused (word_texts c.args.words.now) _ _ c.in-Err.is c.read_words.ensures.refused), refl)

pub returns-in-Err-clause-words : goal.returns-in-Err-clause-words
returns-in-Err-clause-words g c e =
    (subst (λ (o : Outcome). IsRefusedWords (word_texts c.args.words.now) o) (sym c.from.ensures ∙ e) (refused (word_texts c.args.words.now) _ _ c.in-Err.is c.read_words.ensures.refused), refl, refl, refl)
