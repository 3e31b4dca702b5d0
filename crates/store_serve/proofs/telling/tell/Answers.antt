use Rattle.std.proofs.Common.{◌≡◌, ◌∙◌, sym, subst, ℕ, List, [], length, vec_len, arith}
use Rattle.std.proofs.lemmas.List.{nil_from_length}
use Rattle.std.proofs.lemmas.Bool.{eqb-true}
use Rattle.hr_edges.specs.Edges.{TakesAll, TakesFront}
use Rattle.hr_edges.proofs.Writings.{Takes-nothing}
use Rattle.store_serve.specs.Outcome.{last_line, Tells, told, no_memory, not_taken, nothing_taken}
use Rattle.store_serve.proofs.telling.tell.Goals as goal

pub returns-in-Ok-write_all-clause-told : goal.returns-in-Ok-write_all-clause-told
returns-in-Ok-write_all-clause-told g c =
    subst (λ (n : ℕ). Tells c.args.outcome n (g.K.Sink.taken c.args.out.now) (g.K.Sink.taken c.write_all.new.out)) (sym c.status-in-Ok-write_all.ensures)
    (told (subst (λ (t : List ℕ). TakesAll (g.K.Sink.taken c.args.out.now) (g.K.Sink.taken c.write_all.new.out) t) (c.as_slice.ensures.value ∙ c.in-Ok.ensures.line) c.in-Ok-write_all.ensures.ok))

pub returns-in-Ok-clause-told : goal.returns-in-Ok-clause-told
returns-in-Ok-clause-told g c =
    not_taken (subst (λ (t : List ℕ). TakesFront (g.K.Sink.taken c.args.out.now) (g.K.Sink.taken c.write_all.new.out) t) (c.as_slice.ensures.value ∙ c.in-Ok.ensures.line) c.in-Err-write_all.ensures.err)

pub returns-in-Ok-write_all-2-clause-told : goal.returns-in-Ok-write_all-2-clause-told
returns-in-Ok-write_all-2-clause-told g c = no_memory c.in-Ok-write_all-2.ensures.ok

pub returns-clause-told : goal.returns-clause-told
returns-clause-told g c = nothing_taken c.in-Err-write_all-2.ensures.err

pub returns-then-is_empty-clause-told : goal.returns-then-is_empty-clause-told
returns-then-is_empty-clause-told g c =
    let none : vec_len c.in-Ok.line ≡ 0 = eqb-true (vec_len c.in-Ok.line) 0 (sym c.is_empty.ensures ∙ c.if-is_empty.true) in
    let empty : length c.in-Ok.line.items ≡ 0 = omega (arith, none, c.in-Ok.line.ok) in
    let e : last_line c.args.outcome ≡ [] = sym c.in-Ok.ensures.line ∙ nil_from_length c.in-Ok.line.items empty in
    subst (λ (n : ℕ). Tells c.args.outcome n (g.K.Sink.taken c.args.out.now) (g.K.Sink.taken c.args.out.now)) (sym c.status.ensures)
    (told (subst (λ (t : List ℕ). TakesAll (g.K.Sink.taken c.args.out.now) (g.K.Sink.taken c.args.out.now) t) (sym e) (Takes-nothing (g.K.Sink.taken c.args.out.now))))
