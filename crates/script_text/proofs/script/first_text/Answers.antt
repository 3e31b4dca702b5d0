use Rattle.std.proofs.Common.{◌+◌, ◌≢◌, ◌∷◌, sym, length-drop, ap, ◌∙◌, take, drop, eq-eqb, get_or, arith}
use Rattle.std.proofs.Math.Seq.{take-length}
use Rattle.std.proofs.lemmas.List.Elements.{All-from_get_or}
use Rattle.script_text.specs.Lines.{line_texts}
use Rattle.script_text.proofs.Cuts.{IsCut-first}
use Rattle.script_text.proofs.Texts.{texts_of-cut, texts_of-last}
use Rattle.script_text.proofs.script.first_text.Goals as goal

pub returns-in-Some-clause-split : goal.returns-in-Some-clause-split
returns-in-Some-clause-split c =
    let bytes = c.args.bytes.now in
    let end = c.in-Some.end in
    let cut = IsCut-first 10 bytes end c.in-Some.ensures.0 c.in-Some.ensures.1 in
    let rest = ap (λ n. take n (drop (end + 1) bytes)) (sym (length-drop (end + 1) bytes)) ∙ take-length (drop (end + 1) bytes) in
    ap line_texts cut.joined ∙ texts_of-cut (take end bytes) (drop (end + 1) bytes) cut.lacking
    ∙ ap (λ t. take end bytes ∷ line_texts t) (sym rest)

pub returns-in-None-clause-split : goal.returns-in-None-clause-split
returns-in-None-clause-split c =
    let bytes = c.args.bytes.now in
    texts_of-last bytes c.requires (All-from_get_or (λ b. b ≢ 10) bytes 0 (λ i h e. c.in-None.ensures i (omega arith) h (eq-eqb (get_or bytes i 0) 10 e)))
