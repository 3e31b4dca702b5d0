use Rattle.std.proofs.Common.{◌≡◌, ◌<◌, List, [], ◌∷◌, length, ap, subst, sym, ◌∙◌, rules, arith, take, drop, ◌++◌}
use Rattle.std.specs.Vec.Iter.{into_iter_items}
use Rattle.std.proofs.lemmas.List.{length-replicate, take_at}
use Rattle.std.proofs.lemmas.List.Elements.{All-contains}
use Rattle.std.proofs.lemmas.Result.{err_from_is_err_and}
use Rattle.crash_law.specs.Placed.{Placed}
use Rattle.restart_load.specs.Contents.{FileBytes}
use Rattle.restart_load.specs.Gathering.{IsAdded}
use Rattle.restart_load.proofs.GatherLaws.{IsGathered, gathered_first, gathered_more, gathered_next, refused_gathered}
use Rattle.restart_load.proofs.load.gather.Goals as goal

pub loop-file-init : goal.loop-file-init
loop-file-init c = record {
  can = tt;
  finite = tt;
  lists = ap (λ (xs : List (List Placed)). length xs) c.in_ok-found.ensures ∙ length-replicate {A = List Placed} c.args.partitions [];
  gathered = gathered_first c.args.files.items _ c.args.partitions c.in_ok-found.found.items (search rules) c.in_ok-found.ensures;
}

pub loop-file-preserved : goal.loop-file-preserved
loop-file-preserved c =
    let next : into_iter_items c.loop-file.file-iterator ≡ c.in-Some.file ∷ into_iter_items c.next.new.self = search rules in
    let len : length c.add_file.new.found ≡ c.loop-file.found.len = search rules in
    let is : take c.loop-file.found.len (c.add_file.new.found ++ drop (length c.add_file.new.found) c.loop-file.found.items) ≡ c.add_file.new.found =
    take_at c.add_file.new.found (drop (length c.add_file.new.found) c.loop-file.found.items) c.loop-file.found.len len in
    let known : c.in-Some.file.name.partition.0 < length c.loop-file.found.items =
    omega (
      arith,
      All-contains (λ (x : FileBytes). x.name.partition.0 < c.args.partitions) c.args.files.items c.in-Some.file c.requires.known
          (gathered_next c.args.files.items (into_iter_items c.loop-file.file-iterator) (into_iter_items c.next.new.self) c.in-Some.file c.loop-file.found.items c.loop-file.invariant.gathered next),
      c.loop-file.invariant.lists,
    ) in
    let added : IsAdded c.in-Some.file c.loop-file.found.items c.add_file.new.found =
    subst (λ (xs : List (List Placed)). IsAdded c.in-Some.file xs c.add_file.new.found) c.as_mut_slice.ensures.value c.in_ok-add_file.ensures.added in
    record {
      can = tt;
      finite = tt;
      lists = ap (λ (xs : List (List Placed)). length xs) is ∙ (let n : length c.add_file.new.found ≡ c.args.partitions = omega (arith, ap (λ (xs : List (List Placed)). length xs) c.as_mut_slice.ensures.value, c.add_file.auto.found, c.loop-file.invariant.lists) in n);
      gathered = subst (λ (xs : List (List Placed)). IsGathered c.args.files.items (into_iter_items c.next.new.self) xs) (sym is)
          (gathered_more c.args.files.items (into_iter_items c.loop-file.file-iterator) (into_iter_items c.next.new.self) c.in-Some.file c.loop-file.found.items
          c.add_file.new.found c.loop-file.invariant.gathered next known added);
    }

pub returns-in_err-add_file-clause-refused : goal.returns-in_err-add_file-clause-refused
returns-in_err-add_file-clause-refused c =
    let next : into_iter_items c.loop-file.file-iterator ≡ c.in-Some.file ∷ into_iter_items c.next.new.self = search rules in
    let p = err_from_is_err_and c.from_residual-in_err-add_file.result c.from_residual-in_err-add_file.ensures.1 in
    rw (p.1, p.2) (refused_gathered c.args.files.items (into_iter_items c.loop-file.file-iterator) (into_iter_items c.next.new.self) c.in-Some.file
    c.loop-file.found.items c.loop-file.invariant.gathered next c.requires.sorted _ c.in_err-add_file.ensures.refused)
