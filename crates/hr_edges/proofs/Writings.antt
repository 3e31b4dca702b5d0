-- What a sink takes over many writes.
use Rattle.std.specs.Prelude.{◌≡◌, ℕ, ◌+◌, List, [], ◌++◌, length, take, drop, Option, Some, None, refl}
use Rattle.std.proofs.Common.{sym, ◌∙◌, ap, arith, append_assoc, take-append-drop}
use Rattle.std.proofs.Math.Seq.{take-append-add}
use Rattle.std.proofs.lemmas.List.{append-nil}
use Rattle.hr_edges.specs.Edges.{TakesAll, TakesFront, TakesAtLeast, StaysUntold}

-- a front of the piece was taken, and the rest is to be written
abbrev pub Written : Option (List ℕ) → Option (List ℕ) → List ℕ → List ℕ → Type 0
Written None new piece rest = new ≡ None
Written (Some old) new piece rest = (front : List ℕ) × (new ≡ Some (old ++ front)) × (piece ≡ front ++ rest)

pub written_none : (old : Option (List ℕ)) (piece : List ℕ) → Written old old piece piece
written_none None piece = refl
written_none (Some old) piece = ([], ap Some (sym (append-nil old)), refl)

written_past : (old : List ℕ) (mid new : Option (List ℕ)) (piece rest : List ℕ) (n : ℕ) → Written (Some old) mid piece rest → TakesAll mid new (take n rest) → Written (Some old) new piece (drop n rest)
written_past old None new piece rest n w t = cc
written_past old (Some had) new piece rest n w t =
    let is : had ≡ old ++ w.0 = cc in (
      w.0 ++ take n rest,
      t ∙ ap (λ (h : List ℕ). Some (h ++ take n rest)) is ∙ ap Some (append_assoc old w.0 (take n rest)),
      w.2 ∙ ap (λ (r : List ℕ). w.0 ++ r) (sym (take-append-drop n rest)) ∙ sym (append_assoc w.0 (take n rest) (drop n rest)),
    )

-- some more of it was taken
pub written_more : (old mid new : Option (List ℕ)) (piece rest : List ℕ) (n : ℕ) → Written old mid piece rest → TakesAll mid new (take n rest) → StaysUntold mid new → Written old new piece (drop n rest)
written_more None None new piece rest n w t u = u
written_more None (Some had) new piece rest n w t u = cc
written_more (Some old) mid new piece rest n w t u = written_past old mid new piece rest n w t

-- all of it was taken
pub written_all : (old new : Option (List ℕ)) (piece : List ℕ) → Written old new piece [] → TakesAll old new piece
written_all None new piece w = tt
written_all (Some old) new piece w = w.1 ∙ ap (λ (p : List ℕ). Some (old ++ p)) (sym (w.2 ∙ append-nil w.0))

torn_past : (old : List ℕ) (mid new : Option (List ℕ)) (piece rest : List ℕ) → Written (Some old) mid piece rest → TakesFront mid new rest → TakesFront (Some old) new piece
torn_past old None new piece rest w t = cc
torn_past old (Some had) new piece rest w t =
    let is : had ≡ old ++ w.0 = cc in (
      length w.0 + t.0,
      t.1 ∙ ap (λ (h : List ℕ). Some (h ++ take t.0 rest)) is ∙ ap Some (append_assoc old w.0 (take t.0 rest))
          ∙ ap (λ (p : List ℕ). Some (old ++ p)) (sym (take-append-add w.0 rest t.0) ∙ ap (λ (p : List ℕ). take (length w.0 + t.0) p) (sym w.2)),
    )

-- it failed with some more of it taken
pub written_torn : (old mid new : Option (List ℕ)) (piece rest : List ℕ) → Written old mid piece rest → TakesFront mid new rest → TakesFront old new piece
written_torn None mid new piece rest w t = tt
written_torn (Some old) mid new piece rest w t = torn_past old mid new piece rest w t

-- a call took nothing
pub torn_none : (old new : Option (List ℕ)) (piece : List ℕ) (n : ℕ) → TakesAll old new (take n piece) → TakesFront old new piece
torn_none None new piece n t = tt
torn_none (Some old) new piece n t = (n, t)

-- what is told stays told, and what is not told does not come to be told
pub untold_of_written : (old new : Option (List ℕ)) (piece rest : List ℕ) → Written old new piece rest → StaysUntold old new
untold_of_written None new piece rest w = w
untold_of_written (Some old) new piece rest w = tt

-- ---- one piece after another

pub Takes-nothing : (old : Option (List ℕ)) → TakesAll old old []
Takes-nothing None = tt
Takes-nothing (Some x) = ap Some (sym (append-nil x))

pub Takes-append : (old mid new : Option (List ℕ)) (a b : List ℕ) → TakesAll old mid a → TakesAll mid new b → TakesAll old new (a ++ b)
Takes-append None mid new a b s t = tt
Takes-append (Some x) None new a b s t = cc
Takes-append (Some x) (Some y) new a b s t =
    let is : y ≡ x ++ a = cc in
    t ∙ ap (λ (z : List ℕ). Some (z ++ b)) is ∙ ap Some (append_assoc x a b)

-- all of one piece, and then a front of another
pub TakesAtLeast-append : (old mid new : Option (List ℕ)) (a b : List ℕ) → TakesAll old mid a → TakesFront mid new b → TakesAtLeast (length a) old new (a ++ b)
TakesAtLeast-append None mid new a b s t = tt
TakesAtLeast-append (Some x) None new a b s t = cc
TakesAtLeast-append (Some x) (Some y) new a b s t =
    let is : y ≡ x ++ a = cc in (
      length a + t.0,
      omega arith,
      t.1 ∙ ap (λ (z : List ℕ). Some (z ++ take t.0 b)) is ∙ ap Some (append_assoc x a (take t.0 b)) ∙ ap (λ (z : List ℕ). Some (x ++ z)) (sym (take-append-add a b t.0)),
    )
