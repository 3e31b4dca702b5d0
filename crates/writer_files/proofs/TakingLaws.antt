-- Laws of the chunks that take records, one of each class at most.
use Rattle.std.proofs.Common.{◌≡◌, ◌≢◌, ◌⊎◌, List, [], ◌++◌, All, Option, refl, ap, sym, ◌∙◌, subst, inl, inr, append_assoc, append-nil}
use Rattle.std.specs.List.{AllZip}
use Rattle.std.specs.Option.{option_to_list}
use Rattle.hr_base.specs.declared.name.Class.{Class}
use Rattle.hr_base.specs.declared.name.Class.TheVariants.{Value, Tomb, Clear}
use Rattle.value_chunk.specs.Chunks.{Chunk}
use Rattle.writer_files.specs.Hands.{Takings, of_class, with_class, taking_list}
use Rattle.writer_files.specs.HandCalls.{EachTaking}
use Rattle.writer_files.proofs.ListLaws.{zip_append, all_front, all_back}

-- what holds of all holds of each
pub all_parts : (P : Chunk → Type 0) (t now : Takings) → t ≡ now → All P (taking_list now) → All P (option_to_list t.values) × All P (option_to_list t.tombs) × All P (option_to_list t.clears)
all_parts P t now view all =
    let here = subst (λ (x : Takings). All P (taking_list x)) (sym view) all in
    let rest = all_back P (option_to_list t.values) (option_to_list t.tombs ++ option_to_list t.clears) here in (
      all_front P (option_to_list t.values) (option_to_list t.tombs ++ option_to_list t.clears) here,
      all_front P (option_to_list t.tombs) (option_to_list t.clears) rest,
      all_back P (option_to_list t.tombs) (option_to_list t.clears) rest,
    )

abbrev takings : Option Chunk → Option Chunk → Option Chunk → Takings
takings v t c = record { values = v; tombs = t; clears = c }

pub same_takings : (v t c w u d : Option Chunk) (now : Takings) → w ≡ v → u ≡ t → d ≡ c → record { values = v; tombs = t; clears = c } ≡ now → record { values = w; tombs = u; clears = d } ≡ now
same_takings v t c w u d now e f h view =
    ap (λ (x : Option Chunk). takings x u d) e ∙ ap (λ (x : Option Chunk). takings v x d) f ∙ ap (λ (x : Option Chunk). takings v t x) h ∙ view

-- each was changed so, as one list
pub each_zip : (R : Chunk → Chunk → Type 0) (old new : Takings) → EachTaking R old new → AllZip R (taking_list old) (taking_list new)
each_zip R old new each =
    zip_append R (option_to_list old.values) (option_to_list new.values) (option_to_list old.tombs ++ option_to_list old.clears) (option_to_list new.tombs ++ option_to_list new.clears) each.values
    (zip_append R (option_to_list old.tombs) (option_to_list new.tombs) (option_to_list old.clears) (option_to_list new.clears) each.tombs each.clears)

-- and by its class
pub each_class : (R : Chunk → Chunk → Type 0) (old new : Takings) → EachTaking R old new → (class : Class) → AllZip R (option_to_list (of_class old class)) (option_to_list (of_class new class))
each_class R old new each Value = each.values
each_class R old new each Tomb = each.tombs
each_class R old new each Clear = each.clears

pub same_class_or_not : (a b : Class) → (a ≡ b) ⊎ (a ≢ b)
same_class_or_not Value Value = inl refl
same_class_or_not Value Tomb = inr (λ e. absurd cc)
same_class_or_not Value Clear = inr (λ e. absurd cc)
same_class_or_not Tomb Value = inr (λ e. absurd cc)
same_class_or_not Tomb Tomb = inl refl
same_class_or_not Tomb Clear = inr (λ e. absurd cc)
same_class_or_not Clear Value = inr (λ e. absurd cc)
same_class_or_not Clear Tomb = inr (λ e. absurd cc)
same_class_or_not Clear Clear = inl refl

-- ---- the chunk of one class, and those beside it

pub with_here : (t : Takings) (class : Class) (o : Option Chunk) → of_class (with_class t class o) class ≡ o
with_here t Value o = refl
with_here t Tomb o = refl
with_here t Clear o = refl

pub with_other : (t : Takings) (class other : Class) (o : Option Chunk) → other ≢ class → of_class (with_class t class o) other ≡ of_class t other
with_other t Value Value o apart = absurd (apart refl)
with_other t Value Tomb o apart = refl
with_other t Value Clear o apart = refl
with_other t Tomb Value o apart = refl
with_other t Tomb Tomb o apart = absurd (apart refl)
with_other t Tomb Clear o apart = refl
with_other t Clear Value o apart = refl
with_other t Clear Tomb o apart = refl
with_other t Clear Clear o apart = absurd (apart refl)

-- the list is that of one class between others
pub record IsBetween (t : Takings) (class : Class) : Type 0 where
  pub before : List Chunk
  pub after : List Chunk
  pub with : (o : Option Chunk) → taking_list (with_class t class o) ≡ before ++ (option_to_list o ++ after)

pub between : (t : Takings) (class : Class) → IsBetween t class
between t Value = record {
  before = [];
  after = option_to_list t.tombs ++ option_to_list t.clears;
  with = λ o. refl;
}
between t Tomb = record {
  before = option_to_list t.values;
  after = option_to_list t.clears;
  with = λ o. refl;
}
between t Clear = record {
  before = option_to_list t.values ++ option_to_list t.tombs;
  after = [];
  with = λ o.
      sym (append_assoc (option_to_list t.values) (option_to_list t.tombs) (option_to_list o))
      ∙ ap (λ (xs : List Chunk). (option_to_list t.values ++ option_to_list t.tombs) ++ xs) (sym (append-nil (option_to_list o)));
}

-- the one that is there is put where it is
pub with_same : (t : Takings) (class : Class) → with_class t class (of_class t class) ≡ t
with_same t Value = refl
with_same t Tomb = refl
with_same t Clear = refl

pub list_now : (t : Takings) (class : Class) → taking_list t ≡ (between t class).before ++ (option_to_list (of_class t class) ++ (between t class).after)
list_now t class = ap taking_list (sym (with_same t class)) ∙ (between t class).with (of_class t class)
