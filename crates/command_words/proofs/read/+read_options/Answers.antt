use Rattle.std.proofs.Common.{◌-◌, ℕ, List, length, take, drop, sym, ◌∙◌, subst, arith, Contains}
use Rattle.std.specs.String.{string_bytes}
use Rattle.std.proofs.lemmas.Bool.{false≢true}
use Rattle.command_words.specs.declared.table.Setting.{Setting}
use Rattle.command_words.specs.Table.{IsNumberFor}
use Rattle.command_words.specs.Words.{IsOptions, GivesLimits, word_texts, with_number}
use Rattle.command_words.proofs.Words.{split, odd_word, joined, one_option}
use Rattle.command_words.proofs.Texts.{one_first, two_first}
use Rattle.command_words.proofs.read.+read_options.Goals as goal

pub returns-in_err-setting-in-len2-up-clause-none :
    goal.returns-in_err-setting-in-len2-up-clause-none
returns-in_err-setting-in-len2-up-clause-none t c =
    let texts = two_first c.args.words.now c.name-item.result c.value-item.result c.in-len2-up.len_at_least c.name-item.is c.value-item.is in
    rw c.from_residual.ensures (λ givens h.
    let P : List (List ℕ) → Type 0 = λ ws. IsOptions c.args.verb ws givens in
    let s = split c.args.verb (string_bytes c.name-item.result) (string_bytes c.value-item.result) (word_texts (take (length c.args.words.now - 2) (drop 2 c.args.words.now))) givens (subst P texts h) in
    c.in_err-setting-in-len2-up.ensures.none s.setting s.taken (c.as_bytes.ensures.value ∙ s.named))

pub returns-in_err-number-in-len2-up-clause-none :
    goal.returns-in_err-number-in-len2-up-clause-none
returns-in_err-number-in-len2-up-clause-none t c =
    let texts = two_first c.args.words.now c.name-item.result c.value-item.result c.in-len2-up.len_at_least c.name-item.is c.value-item.is in
    rw c.from_residual-in_err-number-in-len2-up.ensures (λ givens h.
    let P : List (List ℕ) → Type 0 = λ ws. IsOptions c.args.verb ws givens in
    let s = split c.args.verb (string_bytes c.name-item.result) (string_bytes c.value-item.result) (word_texts (take (length c.args.words.now - 2) (drop 2 c.args.words.now))) givens (subst P texts h) in
    let same = one_option c.in_ok-setting-in-len2-up.setting s.setting (sym c.in_ok-setting-in-len2-up.ensures.found.1 ∙ (c.as_bytes.ensures.value ∙ s.named)) in
    let Q : Setting → Type 0 = λ x. IsNumberFor x s.number in
    c.in_err-number-in-len2-up.ensures.none s.number (subst Q (sym same) s.ranges) (c.as_bytes-in-len2-up.ensures.value ∙ s.spelled))

pub returns-then-has_word-clause-none : goal.returns-then-has_word-clause-none
returns-then-has_word-clause-none t c =
    let texts = two_first c.args.words.now c.name-item.result c.value-item.result c.in-len2-up.len_at_least c.name-item.is c.value-item.is in
    let rest = word_texts (take (length c.args.words.now - 2) (drop 2 c.args.words.now)) in
    λ givens h.
    let P : List (List ℕ) → Type 0 = λ ws. IsOptions c.args.verb ws givens in
    let s = split c.args.verb (string_bytes c.name-item.result) (string_bytes c.value-item.result) rest givens (subst P texts h) in
    let Q : List ℕ → Type 0 = λ w. Contains rest w in
    s.absent (subst Q c.as_bytes-in-len2-up-2.ensures.value (c.has_word.ensures.0 c.if-has_word.true))

pub returns-in_err-others-in-len2-up-clause-none :
    goal.returns-in_err-others-in-len2-up-clause-none
returns-in_err-others-in-len2-up-clause-none t c =
    let texts = two_first c.args.words.now c.name-item.result c.value-item.result c.in-len2-up.len_at_least c.name-item.is c.value-item.is in
    rw c.from_residual-in_err-others-in-len2-up.ensures (λ givens h.
    let P : List (List ℕ) → Type 0 = λ ws. IsOptions c.args.verb ws givens in
    let s = split c.args.verb (string_bytes c.name-item.result) (string_bytes c.value-item.result) (word_texts (take (length c.args.words.now - 2) (drop 2 c.args.words.now))) givens (subst P texts h) in
    c.in_err-others-in-len2-up.ensures.none s.givens s.read)

pub returns-in_default-clause-none : goal.returns-in_default-clause-none
returns-in_default-clause-none t c =
    let one = one_first c.args.words.now (λ e. omega (arith, c.in_default.len_at_least, e)) c.in_default.len_below in
    λ givens h.
    let P : List (List ℕ) → Type 0 = λ ws. IsOptions c.args.verb ws givens in
    odd_word c.args.verb one.0 givens (subst P one.1 h)

pub returns-in_ok-others-in-len2-up-clause-found :
    goal.returns-in_ok-others-in-len2-up-clause-found
returns-in_ok-others-in-len2-up-clause-found t c =
    let texts = two_first c.args.words.now c.name-item.result c.value-item.result c.in-len2-up.len_at_least c.name-item.is c.value-item.is in
    let rest = word_texts (take (length c.args.words.now - 2) (drop 2 c.args.words.now)) in
    let s = c.in_ok-setting-in-len2-up.setting in
    let n = c.in_ok-number-in-len2-up.number in
    let Q : List ℕ → Type 0 = λ w. Contains rest w in
    let whole = joined c.args.verb (string_bytes c.name-item.result) (string_bytes c.value-item.result) rest s n c.in_ok-others-in-len2-up.others
    c.in_ok-setting-in-len2-up.ensures.found.0
    (sym c.as_bytes.ensures.value ∙ c.in_ok-setting-in-len2-up.ensures.found.1)
    c.in_ok-number-in-len2-up.ensures.found.0
    (sym c.as_bytes-in-len2-up.ensures.value ∙ c.in_ok-number-in-len2-up.ensures.found.1)
    (λ inside. false≢true (sym c.if-has_word.false ∙ c.has_word.ensures.1 (subst Q (sym c.as_bytes-in-len2-up-2.ensures.value) inside)))
    c.in_ok-others-in-len2-up.ensures.found in
    let P : List (List ℕ) → Type 0 = λ ws. GivesLimits c.args.verb ws (with_number c.in_ok-others-in-len2-up.others s n) in
    rw c.set.ensures (subst P (sym texts) whole)
