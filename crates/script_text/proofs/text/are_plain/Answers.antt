use Rattle.std.proofs.Common.{◌≡◌, ◌∙◌, ◌&&◌, ℕ, Bool, true, refl, sym, ap, take}
use Rattle.std.specs.List.{list_all}
use Rattle.std.proofs.lemmas.List.{take_all}
use Rattle.std.proofs.lemmas.List.Folds.{list_all_more}
use Rattle.std.proofs.lemmas.List.Sums.{AllPass-from_list_all, list_all-from_AllPass}
use Rattle.script_text.specs.Texts.{is_plain}
use Rattle.script_text.proofs.text.are_plain.Goals as goal

pub loop-byte-init : goal.loop-byte-init
loop-byte-init c = refl

pub loop-byte-preserved : goal.loop-byte-preserved
loop-byte-preserved c =
    ap (λ (plain : Bool). plain && c.is_plain-plain.result) c.loop-byte.invariant
    ∙ ap (λ (here : Bool). list_all is_plain (take c.loop-byte.byte-index c.args.bytes.now) && here) c.is_plain-plain.ensures
    ∙ sym (list_all_more is_plain c.args.bytes.now c.loop-byte.byte-index 0 c.loop-byte-test.true)

pub returns : goal.returns
returns c =
    let bytes = c.args.bytes.now in
    let whole : c.loop-byte.plain ≡ list_all is_plain bytes = c.loop-byte.invariant ∙ ap (list_all is_plain) (take_all c.loop-byte.byte-index bytes c.loop-byte-test.false) in
    (λ plain. AllPass-from_list_all is_plain bytes (sym whole ∙ plain), λ all. whole ∙ list_all-from_AllPass is_plain bytes all)
