use Rattle.std.proofs.Common.{◌≡◌, ◌<◌, All, take, drop, length, ap, arith, length-drop}
use Rattle.std.proofs.lemmas.List.Elements.{All-from_get_or}
use Rattle.hr_base.specs.Records.{header_length}
use Rattle.record_format.specs.Steps.{record_of, record_with}
use Rattle.record_format.proofs.StepLaws.{read_whole}
use Rattle.record_format.proofs.reading.first_step.Goals as goal

pub returns : goal.returns
returns c =
    let bytes = c.args.bytes.now in
    let header = c.in-Some.header in
    let body = c.in-Some.body.now in
    let head = c.in-Some.ensures in
    let below : All (λ b. b < 256) bytes = All-from_get_or (λ b. b < 256) bytes 0 (λ i h. omega (arith, c.type_inv.bytes i)) in
    let key = c.split_at.ensures.front in
    let rest = c.split_at.ensures.back in
    let value = c.split_at-2.ensures.front in
    let shown : record_of c.view_with-view.result ≡ record_with c.args.class header.seq header.prefix (take header.key_len body) (take header.value_len (drop header.key_len body)) = cc in
    let size = length-drop (header_length c.args.class) bytes in
    read_whole c.args.class bytes header body c.view_with-view.result _ below head c.in_default-first_flaw.ensures.none (omega arith) shown
    (omega (arith, head.complete, ap length head.behind, size, c.split_at.ensures.back_len, c.split_at-2.ensures.back_len))
