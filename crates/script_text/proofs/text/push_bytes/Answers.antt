use Rattle.std.proofs.Common.{◌<◌, ◌≤◌, List, ◌∷◌, ◌++◌, [], ℕ, length, sym, ap, ◌∙◌, arith}
use Rattle.std.proofs.lemmas.List.Elements.{All-push}
use Rattle.script_text.specs.Fields.{bytes_of}
use Rattle.script_text.proofs.Spellings.{spelled_more, spelled_none, spelled_rest, spelled_whole, spelled_within}
use Rattle.script_text.proofs.text.push_bytes.Goals as goal

pub push_reserved-requires : goal.push_reserved-requires
push_reserved-requires c =
    let before = c.loop-byte.invariant in
    let text = c.args.text.now in
    let some : 0 < length c.loop-byte.rest.now = omega (arith, c.in-Some.ensures.found.shorter) in
    let within = spelled_within before.0 (bytes_of text) c.loop-byte.rest.now before.1 c.requires.each (sym before.2 ∙ c.requires.spelled) some in
    omega (arith, within, ap length before.3, before.4, c.requires.room)

pub loop-byte-preserved : goal.loop-byte-preserved
loop-byte-preserved c =
    let before = c.loop-byte.invariant in
    let byte = c.in-Some.byte in (
      before.0 ++ byte ∷ [],
      All-push (λ b. b < 256) before.0 byte before.1 c.in-Some.ensures.found.small,
      spelled_more c.args.text.now before.0 c.loop-byte.rest.now c.in-Some.after.now byte before.2 c.in-Some.ensures.found.spelled,
      c.push_reserved.ensures.items ∙ ap (λ (t : List ℕ). t ++ byte ∷ []) before.3,
      omega (arith, c.push_reserved.ensures.capacity, before.4),
    )

pub returns-clause-bytes : goal.returns-clause-bytes
returns-clause-bytes c =
    let before = c.loop-byte.invariant in
    let text = c.args.text.now in
    let found = spelled_rest before.0 (bytes_of text) c.loop-byte.rest.now before.1 c.requires.each (sym before.2 ∙ c.requires.spelled) in
    let empty = spelled_none c.loop-byte.rest.now found.0 c.in_default.ensures.none found.1 found.2 in
    let whole = spelled_whole text before.0 c.loop-byte.rest.now before.1 before.2 empty in
    before.3 ∙ sym whole.1

pub returns-clause-room : goal.returns-clause-room
returns-clause-room c = c.loop-byte.invariant.4
