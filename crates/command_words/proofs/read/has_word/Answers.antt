use Rattle.std.proofs.Common.{◌≢◌, ◌<◌, ℕ, get_or, length, sym, ◌∙◌, arith, refl, below_more}
use Rattle.std.proofs.lemmas.Slice.Eq.{bytes_eq-Decides}
use Rattle.std.proofs.lemmas.Bool.{false≢true}
use Rattle.command_words.specs.Words.{word_texts}
use Rattle.command_words.proofs.Texts.{text_at, length-texts_of}
use Rattle.command_words.proofs.read.has_word.Goals as goal

pub returns-then-eq : goal.returns-then-eq
returns-then-eq c =
    let words = c.args.words.now in
    let i = c.loop-other.other-index in
    let here : i < length words = omega arith in
    let same = (bytes_eq-Decides c.as_bytes.result.now c.args.word.now).0 (sym c.eq.ensures ∙ c.if-eq.true) in
    let long = length-texts_of words in (
      λ yes. (i, omega (arith, long), text_at words i c.other-item.result c.args.word.now here c.other-item.is ∙ (sym c.as_bytes.ensures.value ∙ same)),
      λ inside. refl,
    )

pub loop-other-preserved : goal.loop-other-preserved
loop-other-preserved c =
    let words = c.args.words.now in
    let i = c.loop-other.other-index in
    let here : i < length words = omega arith in
    let other : c.as_bytes.result.now ≢ c.args.word.now =
    λ e. false≢true (sym c.if-eq.false ∙ (c.eq.ensures ∙ (bytes_eq-Decides c.as_bytes.result.now c.args.word.now).1 e)) in
    λ k d below. below_more (λ (j : ℕ). get_or (word_texts words) j d ≢ c.args.word.now) i (λ j lt. c.loop-other.invariant j d lt)
    (λ e. other (c.as_bytes.ensures.value ∙ (sym (text_at words i c.other-item.result d here c.other-item.is) ∙ e))) k below
