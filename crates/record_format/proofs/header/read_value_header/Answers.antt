use Rattle.std.proofs.Common.{rules, arith, ap, ◌∙◌, take}
use Rattle.std.specs.Int.{w32, from_be_bytes}
use Rattle.record_format.proofs.HeaderLaws.{drop_behind}
use Rattle.record_format.proofs.header.read_value_header.Goals as goal

pub returns : goal.returns
returns c =
    let bytes = c.args.bytes.now in
    let at_prefix = c.in_ok-seq.ensures.cases in
    let at_key_len = c.in_ok-prefix.ensures.cases in
    let at_value_len = c.in_ok-key_len.ensures.cases in
    let at_body = c.in_ok-value_len.ensures.cases in
    let behind_prefix = drop_behind 8 8 bytes c.in_ok-seq.rest.now c.in_ok-prefix.rest.now at_prefix.1 at_key_len.1 in
    let behind_key_len = drop_behind 16 4 bytes c.in_ok-prefix.rest.now c.in_ok-key_len.rest.now behind_prefix at_value_len.1 in
    record {
      complete = omega (arith, at_prefix.2, at_key_len.2, at_value_len.2, at_body.2);
      seq = search rules;
      prefix = search rules;
      key_len = search rules;
      value_len = c.from_be_bytes-4.ensures ∙ ap (λ s. from_be_bytes w32 s) (at_body.0 ∙ ap (λ s. take 4 s) behind_key_len);
      behind = drop_behind 20 4 bytes c.in_ok-key_len.rest.now c.in_ok-value_len.rest.now behind_key_len at_body.1;
    }
