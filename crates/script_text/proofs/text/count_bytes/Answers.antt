use Rattle.std.proofs.Common.{refl, ◌<◌, ◌∷◌, ◌++◌, ◌==◌, [], length, sym, ap, ◌∙◌, arith}
use Rattle.std.proofs.lemmas.Bool.{false≢true, eqb-true}
use Rattle.std.proofs.lemmas.List.{length_push, nil_from_length}
use Rattle.std.proofs.lemmas.List.Elements.{All-push}
use Rattle.script_text.proofs.Spellings.{plain_whole, spelled_more, spelled_none, spelled_rest, spelled_whole}
use Rattle.script_text.proofs.text.count_bytes.Goals as goal

pub returns-in_err-rest-clause-none : goal.returns-in_err-rest-clause-none
returns-in_err-rest-clause-none c = rw c.from_residual.ensures (λ bytes small e.
    let before = c.loop-rest.invariant in
    let found = spelled_rest before.0 bytes c.loop-rest.rest.now before.1 small (sym before.2 ∙ e) in
    let empty = spelled_none c.loop-rest.rest.now found.0 c.in_err-rest.ensures.none found.1 found.2 in
    absurd (false≢true (c.loop-rest-test.ensures ∙ ap (λ r. length r == 0) empty)))

pub loop-rest-preserved : goal.loop-rest-preserved
loop-rest-preserved c =
    let before = c.loop-rest.invariant in
    let byte = c.in_ok-rest.field-0.0 in
    let found = c.in_ok-rest.ensures.found in (
      before.0 ++ byte ∷ [],
      All-push (λ b. b < 256) before.0 byte before.1 found.small,
      spelled_more c.args.text.now before.0 c.loop-rest.rest.now c.in_ok-rest.field-0.1.now byte before.2 found.spelled,
      omega (arith, length_push before.0 byte, before.3),
      omega (arith, found.shorter, before.4),
    )

pub returns-clause-found : goal.returns-clause-found
returns-clause-found c =
    let before = c.loop-rest.invariant in
    let empty = nil_from_length c.loop-rest.rest.now (eqb-true (length c.loop-rest.rest.now) 0 (sym c.loop-rest-test.ensures)) in
    let whole = spelled_whole c.args.text.now before.0 c.loop-rest.rest.now before.1 before.2 empty in
    rw whole.1 (before.1, whole.0, sym before.3)

pub returns-then-are_plain-clause-found : goal.returns-then-are_plain-clause-found
returns-then-are_plain-clause-found c = plain_whole c.args.text.now (c.if-are_plain.ensures.0 refl)
