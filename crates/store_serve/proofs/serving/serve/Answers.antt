use Rattle.std.proofs.Common.{◌∙◌, ap, inl, inr}
use Rattle.command_words.specs.declared.read.Command.TheVariants.{Play}
use Rattle.command_words.proofs.Words.{limits_in_range}
use Rattle.restart_load.proofs.LoadLaws.{not_refused}
use Rattle.store_serve.specs.Outcome.{last_line}
use Rattle.store_serve.specs.Served.{WasDone, WasRefused, WasSpentBy, WasUnloadable, partitions_of}
use Rattle.store_serve.proofs.Doings.{begins_fit, begins_loadable, begins_unspent, done_restarts, done_told, number_told, read_told, spent_restarts, unwritten_by}
use Rattle.store_serve.proofs.Meanings.{means_this, rose_earlier, rose_later}
use Rattle.store_serve.proofs.Outcomes.{all_done, disk_told, early_told, input_told, wordless_told, spends_told, words_told, wrong_told}
use Rattle.store_serve.proofs.Refusals.{few_told, fit_refused, refused_told, unfit_told, unloadable_told}
use Rattle.store_serve.proofs.Spendings.{spends_fit, spends_restarts, spends_undone}
use Rattle.store_serve.proofs.serving.serve.Goals as goal

pub returns-clause-whole : goal.returns-clause-whole
returns-clause-whole g c e = done_told _ _ _ _ _ _ _ c.run-outcome.ensures.because c.tell.ensures.told e

pub returns-clause-ended : goal.returns-clause-ended
returns-clause-ended g c limits meaning h = read_told _ _ _ _ _ _ _ limits c.run-outcome.ensures.because c.tell.ensures.told meaning h

pub returns-clause-unwritten : goal.returns-clause-unwritten
returns-clause-unwritten g c y limits meaning = unwritten_by _ _ _ _ _ limits c.run-outcome.ensures.because y meaning

pub returns-clause-words : goal.returns-clause-words
returns-clause-words g c e = (c.run-outcome.ensures.words (words_told _ _ _ _ c.tell.ensures.told e)).0

pub returns-clause-idle : goal.returns-clause-idle
returns-clause-idle g c e =
    let words = words_told _ _ _ _ c.tell.ensures.told e in
    let same = c.run-outcome.ensures.words words in
    (same.1, same.2, c.tell.ensures.untouched (ap last_line words) ∙ same.3)

pub returns-clause-no_command : goal.returns-clause-no_command
returns-clause-no_command g c none =
    let same = c.run-outcome.ensures.no_command none in
    (wordless_told _ _ _ _ c.tell.ensures.told same.0, same.1, same.2)

pub returns-clause-refused : goal.returns-clause-refused
returns-clause-refused g c e = refused_told _ _ _ _ _ _ _ c.run-outcome.ensures.because c.tell.ensures.told e

pub returns-clause-unfit : goal.returns-clause-unfit
returns-clause-unfit g c limits meaning unfit =
    (unfit_told _ _ _ _ _ _ _ limits c.run-outcome.ensures.because c.tell.ensures.told meaning unfit, c.run-outcome.ensures.spared limits meaning unfit)

pub returns-clause-untouched : goal.returns-clause-untouched
returns-clause-untouched g c h = c.run-outcome.ensures.untouched (early_told _ _ _ _ c.tell.ensures.told h)

pub returns-clause-input : goal.returns-clause-input
returns-clause-input g c e = c.run-outcome.ensures.input (input_told _ _ _ _ c.tell.ensures.told e)

pub returns-clause-few : goal.returns-clause-few
returns-clause-few g c e = few_told _ _ _ _ _ _ _ c.run-outcome.ensures.because c.tell.ensures.told e

pub returns-clause-disk : goal.returns-clause-disk
returns-clause-disk g c e = c.run-outcome.ensures.disk (disk_told _ _ _ _ c.tell.ensures.told e)

pub returns-clause-unloadable : goal.returns-clause-unloadable
returns-clause-unloadable g c y e = unloadable_told _ _ _ _ _ _ _ c.run-outcome.ensures.because c.tell.ensures.told y e

pub returns-clause-spent : goal.returns-clause-spent
returns-clause-spent g c y e = number_told _ _ _ _ _ _ _ c.run-outcome.ensures.because c.tell.ensures.told y e

pub returns-clause-complete : goal.returns-clause-complete
returns-clause-complete g c y command meaning can source sink folder =
    let heard = c.tell.ensures.told in
    let because = c.run-outcome.ensures.because in
    all_done _ _ _ _ heard
    (λ e. (c.run-outcome.ensures.words (words_told _ _ _ _ heard e)).0 command meaning)
    (λ e. fit_refused command _ _ _ _ (begins_fit command _ _ can) (means_this _ (λ x. WasRefused x _ _ _ _) command meaning (refused_told _ _ _ _ _ _ _ because heard e)))
    (λ e. source (c.run-outcome.ensures.input (input_told _ _ _ _ heard e)))
    (λ e. elim (c.tell.ensures.sink e) [
      | inl at ↦ sink (rose_later _ _ _ (c.run-outcome.ensures.sink at) c.tell.ensures.kept)
      | inr rose ↦ sink (rose_earlier _ _ _ c.run-outcome.ensures.sink_kept rose)
    ])
    (λ e. folder (c.run-outcome.ensures.disk (disk_told _ _ _ _ heard e)))
    (λ e. begins_loadable command _ _ _ _ can (means_this _ (λ x. WasUnloadable (partitions_of x) _ _ _) command meaning (unloadable_told _ _ _ _ _ _ _ because heard y e)))
    (λ e. begins_unspent command _ _ _ _ can (means_this _ (λ x. WasSpentBy x _ _ _ _) command meaning (number_told _ _ _ _ _ _ _ because heard y e)))

pub returns-clause-loaded : goal.returns-clause-loaded
returns-clause-loaded g c y command meaning fit refusal content first =
    let heard = c.tell.ensures.told in
    let because = c.run-outcome.ensures.because in
    wrong_told _ _ _ _ heard
    (λ e. not_refused _ _ (done_restarts _ command _ _ _ _ y (means_this _ (λ x. WasDone _ x _ _ _ _) command meaning (done_told _ _ _ _ _ _ _ because heard e))) refusal first content)
    (λ e. (c.run-outcome.ensures.words (words_told _ _ _ _ heard e)).0 command meaning)
    (λ e. fit_refused command _ _ _ _ fit (means_this _ (λ x. WasRefused x _ _ _ _) command meaning (refused_told _ _ _ _ _ _ _ because heard e)))
    (λ e. not_refused _ _ (spent_restarts command _ _ _ _ (means_this _ (λ x. WasSpentBy x _ _ _ _) command meaning (number_told _ _ _ _ _ _ _ because heard y e))) refusal first content)

pub returns-clause-spends : goal.returns-clause-spends
returns-clause-spends g c y limits meaning will =
    let heard = c.tell.ensures.told in
    let because = c.run-outcome.ensures.because in
    spends_told _ _ _ _ heard
    (λ e. spends_undone _ limits _ _ _ _ y (limits_in_range _ (Play limits) meaning) will (means_this _ (λ x. WasDone _ x _ _ _ _) (Play limits) meaning (done_told _ _ _ _ _ _ _ because heard e)))
    (λ e. (c.run-outcome.ensures.words (words_told _ _ _ _ heard e)).0 (Play limits) meaning)
    (λ e. fit_refused (Play limits) _ _ _ _ (spends_fit limits _ _ will) (means_this _ (λ x. WasRefused x _ _ _ _) (Play limits) meaning (refused_told _ _ _ _ _ _ _ because heard e)))
    (λ e.
    let wrong = means_this _ (λ x. WasUnloadable (partitions_of x) _ _ _) (Play limits) meaning (unloadable_told _ _ _ _ _ _ _ because heard y e) in
    not_refused _ _ (spends_restarts limits _ _ will) wrong.refusal wrong.first wrong.content)
