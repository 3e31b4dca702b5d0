use Rattle.std.proofs.Common.{◌++◌, length}
use Rattle.std.specs.Int.{w32, w64, to_be_bytes}
use Rattle.record_format.proofs.Appended.{appended, appended_bytes, begun_bytes}
use Rattle.record_format.proofs.record.append_value.Goals as goal

pub returns-clause-ok : goal.returns-clause-ok
returns-clause-ok c =
    let old = c.args.out.now.items in
    let seq = to_be_bytes w64 c.args.seq.0 in
    let prefix = to_be_bytes w64 c.args.prefix in
    let key_length = to_be_bytes w32 (length c.args.key.now) in
    let value_length = to_be_bytes w32 (length c.args.value.now) in
    let at_seq = begun_bytes old seq c.big_endian_u64.result c.extend_from_slice.new.self.items c.big_endian_u64.ensures c.in_ok-extend_from_slice.ensures.items in
    let at_prefix = appended_bytes old (seq) prefix c.big_endian_u64-2.result c.extend_from_slice.new.self.items c.extend_from_slice-2.new.self.items at_seq c.big_endian_u64-2.ensures c.in_ok-extend_from_slice-2.ensures.items in
    let at_key_length = appended_bytes old (seq ++ prefix) key_length c.big_endian_u32.result c.extend_from_slice-2.new.self.items c.extend_from_slice-3.new.self.items at_prefix c.big_endian_u32.ensures c.in_ok-extend_from_slice-3.ensures.items in
    let at_value_length = appended_bytes old (seq ++ prefix ++ key_length) value_length c.big_endian_u32-2.result c.extend_from_slice-3.new.self.items c.extend_from_slice-4.new.self.items at_key_length c.big_endian_u32-2.ensures c.in_ok-extend_from_slice-4.ensures.items in
    let at_key = appended old (seq ++ prefix ++ key_length ++ value_length) c.args.key.now c.extend_from_slice-4.new.self.items c.extend_from_slice-5.new.self.items at_value_length c.in_ok-extend_from_slice-5.ensures.items in
    appended old (seq ++ prefix ++ key_length ++ value_length ++ c.args.key.now) c.args.value.now c.extend_from_slice-5.new.self.items c.extend_from_slice-6.new.self.items at_key c.in_ok-extend_from_slice-6.ensures.items
