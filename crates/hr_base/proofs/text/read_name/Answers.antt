use Rattle.std.proofs.Common.{◌≡◌, sym, ◌∙◌}
use Rattle.std.proofs.lemmas.Bool.{false≢true}
use Rattle.hr_base.specs.declared.name.ChunkName.{ChunkName}
use Rattle.hr_base.specs.Names.{IsChunkName, name_text}
use Rattle.hr_base.proofs.NameTexts.{IsSpelled, IsSpelled-from_text, text-from_IsSpelled, IfNone-from, middle_from, middle_sixteen}
use Rattle.hr_base.proofs.text.read_name.Goals as goal

pub returns-then-not-is_framed-clause-none : goal.returns-then-not-is_framed-clause-none
returns-then-not-is_framed-clause-none c = λ name ok e.
    let s = IsSpelled-from_text c.args.text.now name e in
    let holds = c.is_framed.ensures.1 (s.len, s.start, s.first_dash, s.second_dash, s.ending) in
    false≢true (sym c.if-not-is_framed.true ∙ holds)

pub returns-in_err-partition-clause-none : goal.returns-in_err-partition-clause-none
returns-in_err-partition-clause-none c =
    let none : (name : ChunkName) → IsChunkName name → c.args.text.now ≡ name_text name → ⊥ = λ name ok e.
    let s = IsSpelled-from_text c.args.text.now name e in
    c.in_err-partition.ensures.none name.partition.0 ok.partition s.high s.low in
    IfNone-from c.from_residual.result none

pub returns-in_err-kind-clause-none : goal.returns-in_err-kind-clause-none
returns-in_err-kind-clause-none c =
    let none : (name : ChunkName) → IsChunkName name → c.args.text.now ≡ name_text name → ⊥ = λ name ok e.
    let s = IsSpelled-from_text c.args.text.now name e in
    c.in_err-kind.ensures.none name.kind s.letter in
    IfNone-from c.from_residual-in_err-kind.result none

pub returns-in_err-number-clause-none : goal.returns-in_err-number-clause-none
returns-in_err-number-clause-none c =
    let none : (name : ChunkName) → IsChunkName name → c.args.text.now ≡ name_text name → ⊥ = λ name ok e.
    let s = IsSpelled-from_text c.args.text.now name e in
    c.in_err-number.ensures.none name.number.0 ok.numbered ok.number (middle_from c.args.text.now name.number.0 s.len s.digits) in
    IfNone-from c.from_residual-in_err-number.result none

pub returns-clause-found : goal.returns-clause-found
returns-clause-found c =
    let frame = c.is_framed.ensures.0 c.if-not-is_framed.false in
    let partition = c.in_ok-partition.ensures.found in
    let number = c.in_ok-number.ensures.found in
    let name : ChunkName = record {
      partition = record { 0 = c.in_ok-partition.partition };
      kind = c.in_ok-kind.kind;
      number = record { 0 = c.in_ok-number.number };
    } in
    let ok : IsChunkName name = record { partition = partition.0; numbered = number.0; number = number.1 } in
    let spelled : IsSpelled c.args.text.now name = record {
      len = frame.0;
      start = frame.1;
      high = partition.1;
      low = partition.2;
      first_dash = frame.2;
      letter = c.in_ok-kind.ensures.found;
      second_dash = frame.3;
      digits = middle_sixteen c.args.text.now c.in_ok-number.number frame.0 number.2;
      ending = frame.4;
    } in
    (ok, text-from_IsSpelled c.args.text.now name spelled)
