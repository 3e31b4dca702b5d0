use Rattle.std.proofs.Common.{◌≤◌, All, List, length, get_or, sym, ◌∙◌, subst, arith, rules}
use Rattle.std.proofs.lemmas.List.Elements.{All-push}
use Rattle.std.proofs.lemmas.Result.{err_from_is_err_and}
use Rattle.hr_base.specs.declared.limits.TheConstants.{MAX_FILE_LEN}
use Rattle.restart_load.specs.Contents.{FileBytes}
use Rattle.restart_load.specs.Reading.{IsReadRefusal}
use Rattle.restart_load.specs.declared.refusal.RestartRefusal.{RestartRefusal}
use Rattle.dir_files.proofs.JoinLaws.{same_after}
use Rattle.restart_load.proofs.ReadingLaws.{bytes_more, files_set, first_large, names_set, none_more, not_large, read_names_more}
use Rattle.restart_load.proofs.reading.read_files.Goals as goal

pub returns-in_err-read_file-clause-refused : goal.returns-in_err-read_file-clause-refused
returns-in_err-read_file-clause-refused g c =
    let i = c.loop-taken.invariant in
    let e = err_from_is_err_and c.from_residual-in_err-read_file.result c.from_residual-in_err-read_file.ensures.1 in
    let this : IsReadRefusal g.F.Folder.tells (get_or c.loop-taken.files c.loop-taken.taken-index c.taken-item.result) e.0 =
    subst (λ (r : RestartRefusal). IsReadRefusal g.F.Folder.tells (get_or c.loop-taken.files c.loop-taken.taken-index c.taken-item.result) r) (sym e.2) c.in_err-read_file.ensures.refused in
    rw e.1 (first_large g.F.Folder.tells c.args.files.now c.loop-taken.files c.loop-taken.taken-index c.taken-item.result e.0 (omega arith) i.same_names i.same i.none this)

pub returns-in_err-read_file-clause-same_names : goal.returns-in_err-read_file-clause-same_names
returns-in_err-read_file-clause-same_names g c =
    names_set c.loop-taken.files c.loop-taken.taken-index c.taken-item.result c.read_file.new.taken (omega arith) c.read_file.ensures.same_name ∙ c.loop-taken.invariant.same_names

pub returns-in_err-read_file-clause-port : goal.returns-in_err-read_file-clause-port
returns-in_err-read_file-clause-port g c = λ tells. same_after _ _ _ (c.loop-taken.invariant.port tells) (c.read_file.ensures.port tells)

pub loop-taken-preserved : goal.loop-taken-preserved
loop-taken-preserved g c =
    let i = c.loop-taken.invariant in
    record {
      same_names = names_set c.loop-taken.files c.loop-taken.taken-index c.taken-item.result c.read_file.new.taken (omega arith) c.read_file.ensures.same_name ∙ i.same_names;
      same = λ tells. files_set c.loop-taken.files c.loop-taken.taken-index c.taken-item.result c.read_file.new.taken (c.read_file.ensures.same tells) ∙ i.same tells;
      read = λ tells. bytes_more c.args.files.now c.loop-taken.files c.loop-taken.taken-index c.taken-item.result _ _ _ (omega arith) (i.same tells) (c.in_ok-read_file.ensures.read tells) c.push_reserved.ensures.items (i.read tells);
      names = read_names_more c.args.files.now c.loop-taken.files c.loop-taken.taken-index c.taken-item.result _ _ _ (omega arith) i.same_names c.in_ok-read_file.ensures.name c.push_reserved.ensures.items i.names;
      small = subst (λ (list : List FileBytes). All (λ (one : FileBytes). length one.bytes ≤ MAX_FILE_LEN) list) (sym c.push_reserved.ensures.items) (All-push (λ (one : FileBytes). length one.bytes ≤ MAX_FILE_LEN) c.loop-taken.contents.items c.in_ok-read_file.field-0 i.small c.in_ok-read_file.ensures.small);
      none = λ tells.
          none_more c.args.files.now c.loop-taken.taken-index c.taken-item.result (omega arith) (i.none tells)
          (not_large c.args.files.now c.loop-taken.files c.loop-taken.taken-index c.taken-item.result c.in_ok-read_file.field-0 (i.same tells) (c.in_ok-read_file.ensures.read tells) c.in_ok-read_file.ensures.small);
      piece = search rules;
      many = search rules;
      room = search rules;
      port = λ tells. same_after _ _ _ (i.port tells) (c.read_file.ensures.port tells);
      count = search rules;
    }
