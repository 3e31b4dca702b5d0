-- What holds of every port stays so in each call.
use Rattle.std.proofs.Common.{◌≡◌, ◌≢◌, ◌⊎◌, Bool, true, false, ◌&&◌, ◌||◌, not, Option, Some, None, is_some, option_map, refl, sym, ap, ◌∙◌, subst, inl, inr}
use Rattle.std.proofs.lemmas.Bool.{cases_Bool, false≢true}
use Rattle.hr_base.specs.declared.name.ChunkName.{ChunkName}
use Rattle.hr_base.specs.NameTests.{is_name}
use Rattle.hr_base.proofs.NameTestLaws.{is_name-true, is_name-same}
use Rattle.dir_files.specs.Files.{FileState, named_file, IsFile, ChangesAt}
use Rattle.dir_files.specs.Ports.{Port, IsPort, IsEmptyPort, IsFreeName, is_free, Takes, Creates, SyncsNames, Gives, Removes}

-- one name of a look-up that changes at one name
at_or_else : {A : Type 0} (old new : ChunkName → A) (name : ChunkName) (value : A) → ChangesAt old new name value → (n : ChunkName) → (new n ≡ value) ⊎ (new n ≡ old n)
at_or_else {A} old new name value changes n = elim (cases_Bool (is_name n name)) [
  | inl here ↦ inl (ap new (is_name-true n name here) ∙ changes.at)
  | inr past ↦
      let differ : n ≢ name = λ same. false≢true (sym past ∙ subst (λ (x : ChunkName). is_name x name ≡ true) (sym same) (is_name-same name)) in
      inr (changes.others n differ)
]

-- a fresh port
pub IsPort-empty : (port : Port) → IsEmptyPort port → IsPort port
IsPort-empty port empty = record {
  held_fits = λ name file held. absurd (cc (held, empty.held name));
  gone_fits = λ name file gone. absurd (cc (gone, empty.gone name));
  apart = λ name held. empty.gone name;
  fixed_lent = λ name fixed. absurd (cc (fixed, empty.fixed name));
}

module _ (old new : Port) (was : IsPort old) where
  pub IsPort-takes : (name : ChunkName) → Takes old new name → IsPort new
  IsPort-takes name takes =
      let stays : (n : ChunkName) (held : Option FileState) → new.held n ≡ held → is_some held ≡ true → new.held n ≡ old.held n = λ n held is some. elim (at_or_else old.held new.held name None takes.held n) [
        | inl here ↦ absurd (false≢true (ap is_some (sym here ∙ is) ∙ some))
        | inr same ↦ same
      ] in
      record {
        held_fits = λ n file held. was.held_fits n file (sym (stays n (Some file) held refl) ∙ held);
        gone_fits = λ n file gone. was.gone_fits n file (sym (takes.gone n) ∙ gone);
        apart = λ n held. takes.gone n ∙ was.apart n (ap is_some (sym (stays n (new.held n) refl held)) ∙ held);
        fixed_lent = λ n fixed. elim (at_or_else old.lent new.lent name true takes.lent n) [
          | inl here ↦ here
          | inr same ↦ same ∙ was.fixed_lent n (sym (takes.fixed n) ∙ fixed)
        ];
      }

  pub IsPort-creates : (name : ChunkName) → Creates old new name → IsPort new
  IsPort-creates name creates = record {
    held_fits = λ n file held. was.held_fits n file (sym (creates.held n) ∙ held);
    gone_fits = λ n file gone. was.gone_fits n file (sym (creates.gone n) ∙ gone);
    apart = λ n held. creates.gone n ∙ was.apart n (ap is_some (sym (creates.held n)) ∙ held);
    fixed_lent = λ n fixed. elim (at_or_else old.lent new.lent name true creates.lent n) [
      | inl here ↦ here
      | inr same ↦ same ∙ was.fixed_lent n (sym (creates.fixed n) ∙ fixed)
    ];
  }

  named_fits : (held : Option FileState) (file : FileState) → ((f : FileState) → held ≡ Some f → IsFile f) → option_map named_file held ≡ Some file → IsFile file
  named_fits None file fits is = absurd cc
  named_fits (Some f) file fits is = subst IsFile (let e : named_file f ≡ file = cc in e) (fits f refl)

  named_fixed : (fixed created lent : Bool) → (fixed ≡ true → lent ≡ true) → (fixed || (created && lent)) ≡ true → lent ≡ true
  named_fixed true created lent was is = was refl
  named_fixed false true lent was is = is
  named_fixed false false lent was is = absurd (false≢true is)

  pub IsPort-syncs : SyncsNames old new → IsPort new
  IsPort-syncs syncs = record {
    held_fits = λ n file held. named_fits (old.held n) file (was.held_fits n) (sym (syncs.held n) ∙ held);
    gone_fits = λ n file gone. absurd (cc (gone, syncs.gone n));
    apart = λ n held. syncs.gone n;
    fixed_lent = λ n fixed. syncs.lent n ∙ named_fixed (old.fixed n) (old.created n) (old.lent n) (was.fixed_lent n) (sym (syncs.fixed n) ∙ fixed);
  }

  module _ (name : ChunkName) (file : FileState) (fits : IsFile file) (gives : Gives old new name file) where
    given_fits : (n : ChunkName) (f : FileState) → new.held n ≡ Some f → IsFile f
    given_fits n f held = elim (at_or_else old.held new.held name (Some file) gives.held n) [
      | inl here ↦ let e : file ≡ f = cc in subst IsFile e fits
      | inr same ↦ was.held_fits n f (sym same ∙ held)
    ]

    given_gone : (n : ChunkName) (f : FileState) → new.gone n ≡ Some f → IsFile f
    given_gone n f gone = elim (at_or_else old.gone new.gone name None gives.gone n) [
      | inl here ↦ absurd cc
      | inr same ↦ was.gone_fits n f (sym same ∙ gone)
    ]

    given_apart : (n : ChunkName) → is_some (new.held n) ≡ true → new.gone n ≡ None
    given_apart n held = elim (cases_Bool (is_name n name)) [
      | inl here ↦ ap new.gone (is_name-true n name here) ∙ gives.gone.at
      | inr past ↦
          let differ : n ≢ name = λ same. false≢true (sym past ∙ subst (λ (x : ChunkName). is_name x name ≡ true) (sym same) (is_name-same name)) in
          gives.gone.others n differ ∙ was.apart n (ap is_some (sym (gives.held.others n differ)) ∙ held)
    ]

    given_fixed : (n : ChunkName) → new.fixed n ≡ true → new.lent n ≡ true
    given_fixed n fixed = elim (cases_Bool (is_name n name)) [
      | inl here ↦ absurd (false≢true (sym gives.fixed.at ∙ ap new.fixed (sym (is_name-true n name here)) ∙ fixed))
      | inr past ↦
          let differ : n ≢ name = λ same. false≢true (sym past ∙ subst (λ (x : ChunkName). is_name x name ≡ true) (sym same) (is_name-same name)) in
          gives.lent.others n differ ∙ was.fixed_lent n (sym (gives.fixed.others n differ) ∙ fixed)
    ]

    pub IsPort-gives : IsPort new
    IsPort-gives = record {
      held_fits = given_fits;
      gone_fits = given_gone;
      apart = given_apart;
      fixed_lent = given_fixed;
    }

  module _ (name : ChunkName) (file : FileState) (fits : IsFile file) (removes : Removes old new name file) where
    removed_fits : (n : ChunkName) (f : FileState) → new.held n ≡ Some f → IsFile f
    removed_fits n f held = elim (at_or_else old.held new.held name None removes.held n) [
      | inl here ↦ absurd cc
      | inr same ↦ was.held_fits n f (sym same ∙ held)
    ]

    removed_gone : (n : ChunkName) (f : FileState) → new.gone n ≡ Some f → IsFile f
    removed_gone n f gone = elim (at_or_else old.gone new.gone name (Some file) removes.gone n) [
      | inl here ↦ let e : file ≡ f = cc in subst IsFile e fits
      | inr same ↦ was.gone_fits n f (sym same ∙ gone)
    ]

    removed_apart : (n : ChunkName) → is_some (new.held n) ≡ true → new.gone n ≡ None
    removed_apart n held = elim (cases_Bool (is_name n name)) [
      | inl here ↦ absurd (false≢true (ap is_some (sym (ap new.held (is_name-true n name here) ∙ removes.held.at)) ∙ held))
      | inr past ↦
          let differ : n ≢ name = λ same. false≢true (sym past ∙ subst (λ (x : ChunkName). is_name x name ≡ true) (sym same) (is_name-same name)) in
          removes.gone.others n differ ∙ was.apart n (ap is_some (sym (removes.held.others n differ)) ∙ held)
    ]

    removed_fixed : (n : ChunkName) → new.fixed n ≡ true → new.lent n ≡ true
    removed_fixed n fixed = elim (cases_Bool (is_name n name)) [
      | inl here ↦ absurd (false≢true (sym removes.fixed.at ∙ ap new.fixed (sym (is_name-true n name here)) ∙ fixed))
      | inr past ↦
          let differ : n ≢ name = λ same. false≢true (sym past ∙ subst (λ (x : ChunkName). is_name x name ≡ true) (sym same) (is_name-same name)) in
          removes.lent.others n differ ∙ was.fixed_lent n (sym (removes.fixed.others n differ) ∙ fixed)
    ]

    pub IsPort-removes : IsPort new
    IsPort-removes = record {
      held_fits = removed_fits;
      gone_fits = removed_gone;
      apart = removed_apart;
      fixed_lent = removed_fixed;
    }

-- where the test holds, the name is free
free_parts : (held gone : Option FileState) (lent foreign : Bool) → (not (is_some held || is_some gone) && (not lent && not foreign)) ≡ true → (held ≡ None) × (gone ≡ None) × (lent ≡ false) × (foreign ≡ false)
free_parts None None false false free = (refl, refl, refl, refl)
free_parts None None false true free = absurd (false≢true free)
free_parts None None true foreign free = absurd (false≢true free)
free_parts None (Some _) lent foreign free = absurd (false≢true free)
free_parts (Some _) _ lent foreign free = absurd (false≢true free)

pub IsFreeName-is_free : (port : Port) (name : ChunkName) → is_free port name ≡ true → IsFreeName port name
IsFreeName-is_free port name free =
    let parts = free_parts (port.held name) (port.gone name) (port.lent name) (port.foreign name) free in
    record { held = parts.0; gone = parts.1; lent = parts.2; foreign = parts.3 }
