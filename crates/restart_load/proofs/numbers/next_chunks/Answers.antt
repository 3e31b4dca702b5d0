use Rattle.std.proofs.Common.{◌≡◌, ◌<◌, ◌++◌, ◌∷◌, [], ℕ, List, length, take, Some, slice_get, slice_set, slice_index_or, refl, sym, subst, ◌∙◌, rules, arith, length-set}
use Rattle.std.proofs.lemmas.List.{take_all, take_more}
use Rattle.std.proofs.lemmas.Option.{slice_get_read}
use Rattle.hr_base.specs.declared.name.ChunkName.{ChunkName}
use Rattle.hr_base.specs.declared.name.Kind.TheVariants.{T}
use Rattle.restart_load.specs.Numbers.{next_after}
use Rattle.restart_load.proofs.NumberLaws.{AreNextAmong, are_next_none, are_next_raised}
use Rattle.restart_load.proofs.numbers.next_chunks.Goals as goal

pub loop-name-init : goal.loop-name-init
loop-name-init c =
    let made = c.in_ok-next.ensures in
    record {
      each = search rules;
      next = subst (λ (next : List ℕ). AreNextAmong [] next) (sym (made.items_if_clones_equal (λ y same. same))) (are_next_none c.args.partitions);
    }

pub loop-name-preserved : goal.loop-name-preserved
loop-name-preserved c =
    let d : ChunkName = record { partition = record { 0 = 0 }; kind = T; number = record { 0 = 0 } } in
    let i : ℕ = c.loop-name.name-index in
    let name : ChunkName = slice_index_or c.args.names.now i d in
    let next : List ℕ = c.loop-name.next.items in
    let before : List ChunkName = take i c.args.names.now in
    let within : i < length c.args.names.now = omega (arith, c.loop-name-test.true) in
    let known : name.partition.0 < length next = omega (arith, c.requires.known i d within, c.loop-name.invariant.each) in
    let here : slice_get next name.partition.0 ≡ Some c.index.result.now = slice_get_read next (length next) name.partition.0 c.index.result.now refl known c.index.ensures in
    let raised : AreNextAmong (before ++ name ∷ []) (slice_set next name.partition.0 (next_after c.index.result.now name)) =
    are_next_raised before name next c.index.result.now c.loop-name.invariant.next (c.requires.valid i d within) here in
    record {
      each = length-set next name.partition.0 c.raised.result ∙ c.loop-name.invariant.each;
      next = subst (λ (names : List ChunkName). AreNextAmong names (slice_set next name.partition.0 c.raised.result)) (sym (take_more c.args.names.now i d within))
          (subst (λ (n : ℕ). AreNextAmong (before ++ name ∷ []) (slice_set next name.partition.0 n)) (sym c.raised.ensures) raised);
    }

pub returns-clause-next : goal.returns-clause-next
returns-clause-next c =
    let all : take c.loop-name.name-index c.args.names.now ≡ c.args.names.now = take_all c.loop-name.name-index c.args.names.now c.loop-name-test.false in
    subst (λ (names : List ChunkName). AreNextAmong names c.loop-name.next.items) all c.loop-name.invariant.next
