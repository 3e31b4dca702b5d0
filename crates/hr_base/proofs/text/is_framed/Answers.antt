use Rattle.std.proofs.Common.{◌≡◌, ap, sym, ◌∙◌, drop, codes}
use Rattle.std.specs.Str.{bytes_eq}
use Rattle.std.proofs.lemmas.List.{take_rest}
use Rattle.std.proofs.lemmas.Slice.Eq.{bytes_eq-Decides}
use Rattle.hr_base.proofs.text.is_framed.Goals as goal

pub returns : goal.returns
returns c =
    let text = c.args.text.now in
    let tested : c.eq.result ≡ bytes_eq (drop 22 text) (codes ".chunk") =
    c.eq.ensures ∙ ap (λ rest. bytes_eq rest (codes ".chunk")) (take_rest text 22) in
    let ends = bytes_eq-Decides (drop 22 text) (codes ".chunk") in (
      λ holds. (c.if-text-ne28.false, c.if-text-ne112.false, c.if-text-ne45.false, c.if-text-ne45-2.false, ends.0 (sym tested ∙ holds)),
      λ frame. tested ∙ ends.1 frame.4,
    )
