-- What is given back, one chunk after another.
use Rattle.std.proofs.Common.{◌≡◌, Bool, true, false, cond, ◌&&◌, ◌||◌, not, List, [], ◌∷◌, ◌++◌, append_assoc, subst, Option, Some, None, is_some, refl, ap, sym, ◌∙◌, inl, inr}
use Rattle.std.specs.Option.{option_to_list}
use Rattle.std.proofs.lemmas.Bool.{cases_Bool}
use Rattle.hr_base.specs.declared.name.ChunkName.{ChunkName}
use Rattle.hr_base.specs.NameTests.{is_name}
use Rattle.hr_base.proofs.NameTestLaws.{is_name-true, is_name-false}
use Rattle.dir_files.specs.Files.{FileState}
use Rattle.dir_files.specs.Ports.{Port, Gives, either_file}
use Rattle.value_chunk.specs.Chunks.{Chunk}
use Rattle.writer_files.specs.Hands.{Takings, file_among, taking_list, AreOnce}
use Rattle.writer_files.specs.HandCalls.{GivesEach}
use Rattle.writer_files.proofs.HandLaws.{file_among-here, file_among-past, file_among-append, once_back, once_parts}

pub and_true : (b : Bool) → b ≡ (b && true)
and_true true = refl
and_true false = refl

or_false : (b c : Bool) → b ≡ (b || (false && c))
or_false true c = refl
or_false false c = refl

pub gives_none : (port : Port) → GivesEach port port []
gives_none port = record {
  held = λ n. refl;
  gone = λ n. refl;
  lent = λ n. and_true (port.lent n);
  foreign = λ n. or_false (port.foreign n) (not (port.lent n));
  created = λ n. refl;
  fixed = λ n. and_true (port.fixed n);
}

and_false : (b : Bool) → (b && false) ≡ false
and_false true = refl
and_false false = refl

came_here : (foreign lent : Bool) → ((foreign || (false && not lent)) || not (lent && not false)) ≡ (foreign || (true && not lent))
came_here true lent = refl
came_here false true = refl
came_here false false = refl

-- and one more, of a name that none of them has
module _ (p q r : Port) (c : Chunk) (cs : List Chunk) (each : GivesEach p q cs) (gives : Gives q r c.name c.file) (none : file_among cs c.name ≡ None) where
  more_held : (n : ChunkName) → r.held n ≡ either_file (file_among (c ∷ cs) n) (p.held n)
  more_held n = elim (cases_Bool (is_name c.name n)) [
    | inl here ↦
        ap r.held (sym (is_name-true c.name n here)) ∙ gives.held.at
        ∙ ap (λ (o : Option FileState). either_file o (p.held n)) (sym (file_among-here c cs n here))
    | inr past ↦
        gives.held.others n (λ e. is_name-false c.name n past (sym e)) ∙ each.held n
        ∙ ap (λ (o : Option FileState). either_file o (p.held n)) (sym (file_among-past c cs n past))
  ]

  more_gone : (n : ChunkName) → r.gone n ≡ cond (is_some (file_among (c ∷ cs) n)) None (p.gone n)
  more_gone n = elim (cases_Bool (is_name c.name n)) [
    | inl here ↦
        ap r.gone (sym (is_name-true c.name n here)) ∙ gives.gone.at
        ∙ ap (λ (o : Option FileState). cond (is_some o) None (p.gone n)) (sym (file_among-here c cs n here))
    | inr past ↦
        gives.gone.others n (λ e. is_name-false c.name n past (sym e)) ∙ each.gone n
        ∙ ap (λ (o : Option FileState). cond (is_some o) None (p.gone n)) (sym (file_among-past c cs n past))
  ]

  more_lent : (n : ChunkName) → r.lent n ≡ (p.lent n && not (is_some (file_among (c ∷ cs) n)))
  more_lent n = elim (cases_Bool (is_name c.name n)) [
    | inl here ↦
        ap r.lent (sym (is_name-true c.name n here)) ∙ gives.lent.at ∙ sym (and_false (p.lent n))
        ∙ ap (λ (o : Option FileState). p.lent n && not (is_some o)) (sym (file_among-here c cs n here))
    | inr past ↦
        gives.lent.others n (λ e. is_name-false c.name n past (sym e)) ∙ each.lent n
        ∙ ap (λ (o : Option FileState). p.lent n && not (is_some o)) (sym (file_among-past c cs n past))
  ]

  more_fixed : (n : ChunkName) → r.fixed n ≡ (p.fixed n && not (is_some (file_among (c ∷ cs) n)))
  more_fixed n = elim (cases_Bool (is_name c.name n)) [
    | inl here ↦
        ap r.fixed (sym (is_name-true c.name n here)) ∙ gives.fixed.at ∙ sym (and_false (p.fixed n))
        ∙ ap (λ (o : Option FileState). p.fixed n && not (is_some o)) (sym (file_among-here c cs n here))
    | inr past ↦
        gives.fixed.others n (λ e. is_name-false c.name n past (sym e)) ∙ each.fixed n
        ∙ ap (λ (o : Option FileState). p.fixed n && not (is_some o)) (sym (file_among-past c cs n past))
  ]

  -- what the name was before it came back
  was_foreign : (q.foreign c.name || not (q.lent c.name)) ≡ (p.foreign c.name || (true && not (p.lent c.name)))
  was_foreign =
      ap (λ (b : Bool). b || not (q.lent c.name)) (each.foreign c.name ∙ ap (λ (o : Option FileState). p.foreign c.name || (is_some o && not (p.lent c.name))) none)
      ∙ ap (λ (b : Bool). (p.foreign c.name || (false && not (p.lent c.name))) || not b) (each.lent c.name ∙ ap (λ (o : Option FileState). p.lent c.name && not (is_some o)) none)
      ∙ came_here (p.foreign c.name) (p.lent c.name)

  more_foreign : (n : ChunkName) → r.foreign n ≡ (p.foreign n || (is_some (file_among (c ∷ cs) n) && not (p.lent n)))
  more_foreign n = elim (cases_Bool (is_name c.name n)) [
    | inl here ↦
        ap r.foreign (sym (is_name-true c.name n here)) ∙ gives.foreign.at ∙ was_foreign
        ∙ ap (λ (m : ChunkName). p.foreign m || (true && not (p.lent m))) (is_name-true c.name n here)
        ∙ ap (λ (o : Option FileState). p.foreign n || (is_some o && not (p.lent n))) (sym (file_among-here c cs n here))
    | inr past ↦
        gives.foreign.others n (λ e. is_name-false c.name n past (sym e)) ∙ each.foreign n
        ∙ ap (λ (o : Option FileState). p.foreign n || (is_some o && not (p.lent n))) (sym (file_among-past c cs n past))
  ]

  pub gives_more : GivesEach p r (c ∷ cs)
  gives_more = record {
    held = more_held;
    gone = more_gone;
    lent = more_lent;
    foreign = more_foreign;
    created = λ n. gives.created n ∙ each.created n;
    fixed = more_fixed;
  }

-- ---- from the last chunk to the first

-- one chunk was taken off the end
pub split_more : (all left rest given : List Chunk) (o : Option Chunk) (c : Chunk) → all ≡ left ++ given → left ≡ rest ++ option_to_list o → o ≡ Some c → all ≡ rest ++ c ∷ given
split_more all left rest given o c split popped is =
    split ∙ ap (λ (xs : List Chunk). xs ++ given) (popped ∙ ap (λ (x : Option Chunk). rest ++ option_to_list x) is)
    ∙ append_assoc rest (c ∷ []) given

pub split_none : (all rest given : List Chunk) (c : Chunk) → all ≡ rest ++ c ∷ given → AreOnce all → file_among given c.name ≡ None
split_none all rest given c split once =
    (once_back rest (c ∷ given) (subst AreOnce split once)).0

-- ---- some chunks, and then others

then_held : (x y h : Option FileState) → either_file x (either_file y h) ≡ either_file (either_file x y) h
then_held None y h = refl
then_held (Some f) y h = refl

then_gone : (x y h : Option FileState) → cond (is_some x) None (cond (is_some y) None h) ≡ cond (is_some (either_file x y)) None h
then_gone None y h = refl
then_gone (Some f) y h = refl

then_lent : (x y : Option FileState) (b : Bool) → ((b && not (is_some y)) && not (is_some x)) ≡ (b && not (is_some (either_file x y)))
then_lent None y b = sym (and_true (b && not (is_some y)))
then_lent (Some f) y b = and_false (b && not (is_some y)) ∙ sym (and_false b)

then_foreign : (x y : Option FileState) (foreign lent : Bool) → (is_some x ≡ true → y ≡ None) → ((foreign || (is_some y && not lent)) || (is_some x && not (lent && not (is_some y)))) ≡ (foreign || (is_some (either_file x y) && not lent))
then_foreign None y foreign lent apart = sym (or_false (foreign || (is_some y && not lent)) (not (lent && not (is_some y))))
then_foreign (Some f) None foreign lent apart = came_here foreign lent
then_foreign (Some f) (Some g) foreign lent apart = absurd (let e : Some g ≡ None = apart refl in cc)

module _ (p q r : Port) (xs ys : List Chunk) (first : GivesEach p q ys) (second : GivesEach q r xs) (apart : (n : ChunkName) → is_some (file_among xs n) ≡ true → file_among ys n ≡ None) where
  pub gives_then : GivesEach p r (xs ++ ys)
  gives_then = record {
    held = λ n.
        second.held n ∙ ap (λ (o : Option FileState). either_file (file_among xs n) o) (first.held n)
        ∙ then_held (file_among xs n) (file_among ys n) (p.held n)
        ∙ ap (λ (o : Option FileState). either_file o (p.held n)) (sym (file_among-append xs ys n));
    gone = λ n.
        second.gone n ∙ ap (λ (o : Option FileState). cond (is_some (file_among xs n)) None o) (first.gone n)
        ∙ then_gone (file_among xs n) (file_among ys n) (p.gone n)
        ∙ ap (λ (o : Option FileState). cond (is_some o) None (p.gone n)) (sym (file_among-append xs ys n));
    lent = λ n.
        second.lent n ∙ ap (λ (b : Bool). b && not (is_some (file_among xs n))) (first.lent n)
        ∙ then_lent (file_among xs n) (file_among ys n) (p.lent n)
        ∙ ap (λ (o : Option FileState). p.lent n && not (is_some o)) (sym (file_among-append xs ys n));
    foreign = λ n.
        second.foreign n
        ∙ ap (λ (b : Bool). b || (is_some (file_among xs n) && not (q.lent n))) (first.foreign n)
        ∙ ap (λ (b : Bool). (p.foreign n || (is_some (file_among ys n) && not (p.lent n))) || (is_some (file_among xs n) && not b)) (first.lent n)
        ∙ then_foreign (file_among xs n) (file_among ys n) (p.foreign n) (p.lent n) (apart n)
        ∙ ap (λ (o : Option FileState). p.foreign n || (is_some o && not (p.lent n))) (sym (file_among-append xs ys n));
    created = λ n. second.created n ∙ first.created n;
    fixed = λ n.
        second.fixed n ∙ ap (λ (b : Bool). b && not (is_some (file_among xs n))) (first.fixed n)
        ∙ then_lent (file_among xs n) (file_among ys n) (p.fixed n)
        ∙ ap (λ (o : Option FileState). p.fixed n && not (is_some o)) (sym (file_among-append xs ys n));
  }

-- chunks with names of their own, the first of them given last
pub gives_parts : (p q r : Port) (xs ys : List Chunk) → AreOnce (xs ++ ys) → GivesEach p q ys → GivesEach q r xs → GivesEach p r (xs ++ ys)
gives_parts p q r xs ys once first second = gives_then p q r xs ys first second (once_parts xs ys once)

pub gives_one : (p r : Port) (o : Option Chunk) (c : Chunk) → o ≡ Some c → Gives p r c.name c.file → GivesEach p r (option_to_list o)
gives_one p r o c is gives =
    subst (λ (x : Option Chunk). GivesEach p r (option_to_list x)) (sym is) (gives_more p p r c [] (gives_none p) gives refl)

-- the chunks that take records, the last of them first
pub gives_takings : (p q r s : Port) (t now : Takings) → t ≡ now → AreOnce (taking_list now) → GivesEach p q (option_to_list t.clears) → GivesEach q r (option_to_list t.tombs) → GivesEach r s (option_to_list t.values) → GivesEach p s (taking_list now)
gives_takings p q r s t now view =
    subst (λ (x : Takings). AreOnce (taking_list x) → GivesEach p q (option_to_list t.clears) → GivesEach q r (option_to_list t.tombs) → GivesEach r s (option_to_list t.values) → GivesEach p s (taking_list x)) view
    (λ once first second third.
    gives_parts p r s (option_to_list t.values) (option_to_list t.tombs ++ option_to_list t.clears) once
    (gives_parts p q r (option_to_list t.tombs) (option_to_list t.clears) (once_back (option_to_list t.values) (option_to_list t.tombs ++ option_to_list t.clears) once) first second) third)
