-- What becomes of files in hand when one more is taken, and when the last one is given back.
use Rattle.std.proofs.Common.{◌≡◌, ◌≢◌, Bool, true, false, ◌||◌, not, List, [], ◌∷◌, ◌++◌, Option, Some, None, IfSome, is_some, refl, ap, sym, ◌∙◌, subst, inl, inr, arith, if◌then◌else◌}
use Rattle.std.proofs.lemmas.Bool.{cases_Bool, false≢true}
use Rattle.hr_base.specs.declared.name.ChunkName.{ChunkName}
use Rattle.hr_base.specs.NameTests.{is_name}
use Rattle.hr_base.proofs.NameTestLaws.{is_name-other, is_name-same, same_name_or_not}
use Rattle.dir_files.specs.Files.{FileState, IsDurable, IsFile, Rises, synced_file}
use Rattle.dir_files.specs.Ports.{Gives, Port, SamePort, Takes, either_file}
use Rattle.dir_files.proofs.JoinLaws.{either_alone, either_none}
use Rattle.restart_load.specs.Taking.{AllDurableWith, AllNamed, AreApart, HasTaken, TakenFile, files_with, in_hand}

-- ---- look-ups

not_some : (o : Option FileState) (file : FileState) → o ≡ None → o ≡ Some file → ⊥
not_some o file none some = cc

none_of : (o : Option FileState) → is_some o ≡ false → o ≡ None
none_of None is = refl
none_of (Some file) is = cc

-- the test of the other order
turned : (a b : ChunkName) → is_name a b ≡ false → is_name b a ≡ false
turned a b fails = is_name-other b a (λ same. false≢true (sym fails ∙ ap (λ (n : ChunkName). is_name a n) same ∙ is_name-same a))

head_here : (a : TakenFile) (files : List TakenFile) (n : ChunkName) → is_name n a.name ≡ true → in_hand (a ∷ files) n ≡ Some a.file
head_here a files n here = rw here refl

head_past : (a : TakenFile) (files : List TakenFile) (n : ChunkName) → is_name n a.name ≡ false → in_hand (a ∷ files) n ≡ in_hand files n
head_past a files n past = rw past refl

module _ (t : TakenFile) where
  -- what the last one adds
  tail_at : ChunkName → Option FileState
  tail_at n = if is_name n t.name then Some t.file else None

  push_in_hand : (files : List TakenFile) (n : ChunkName) → in_hand (files ++ t ∷ []) n ≡ either_file (in_hand files n) (tail_at n)
  unfolding tail_at
  push_in_hand [] n = refl
  push_in_hand (a ∷ files) n = elim (cases_Bool (is_name n a.name)) [
    | inl here ↦ rw here refl
    | inr past ↦ rw past (push_in_hand files n)
  ]

  pub push_at : (files : List TakenFile) → in_hand files t.name ≡ None → in_hand (files ++ t ∷ []) t.name ≡ Some t.file
  unfolding tail_at
  push_at files none = push_in_hand files t.name ∙ either_none (in_hand files t.name) (tail_at t.name) none ∙ rw (is_name-same t.name) refl

  pub push_other : (files : List TakenFile) (n : ChunkName) → n ≢ t.name → in_hand (files ++ t ∷ []) n ≡ in_hand files n
  unfolding tail_at
  push_other files n differ = push_in_hand files n ∙ rw (is_name-other n t.name differ) (either_alone (in_hand files n))

  -- where the longer list has none of a name, neither has the shorter one, and the last one has another
  parts_none : (own : Option FileState) (b : Bool) (file : FileState) → either_file own (if b then Some file else None) ≡ None → (own ≡ None) × (b ≡ false)
  parts_none None true file none = cc
  parts_none None false file none = (refl, refl)
  parts_none (Some f) b file none = cc

  push_none : (files : List TakenFile) (n : ChunkName) → in_hand (files ++ t ∷ []) n ≡ None → (in_hand files n ≡ None) × (is_name n t.name ≡ false)
  unfolding tail_at
  push_none files n none = parts_none (in_hand files n) (is_name n t.name) t.file (sym (push_in_hand files n) ∙ none)

  tail_past : (n : ChunkName) → is_name n t.name ≡ false → tail_at n ≡ None
  unfolding tail_at
  tail_past n past = rw past refl

  pub apart_push : (files : List TakenFile) → AreApart files → in_hand files t.name ≡ None → AreApart (files ++ t ∷ [])
  apart_push [] apart none = (refl, tt)
  apart_push (a ∷ files) apart none = elim (cases_Bool (is_name t.name a.name)) [
    | inl here ↦ absurd (not_some (in_hand (a ∷ files) t.name) a.file none (head_here a files t.name here))
    | inr past ↦
        let rest : in_hand files t.name ≡ None = sym (head_past a files t.name past) ∙ none in
        (push_in_hand files a.name ∙ either_none (in_hand files a.name) (tail_at a.name) apart.0 ∙ tail_past a.name (turned t.name a.name past), apart_push files apart.1 rest)
  ]

  pub apart_pop : (files : List TakenFile) → AreApart (files ++ t ∷ []) → AreApart files × (in_hand files t.name ≡ None)
  apart_pop [] apart = (tt, refl)
  apart_pop (a ∷ files) apart =
      let here = push_none files a.name apart.0 in
      let rest = apart_pop files apart.1 in
      ((here.0, rest.0), head_past a files t.name (turned a.name t.name here.1) ∙ rest.1)

-- ---- one more is taken

keeps_synced : (old : Option FileState) (file : FileState) → IsFile file → Rises old (Some file) → Rises old (Some (synced_file file))
keeps_synced None file fits rises = cc
keeps_synced (Some g) file fits rises = record { bytes = rises.bytes; front = omega (arith, rises.front, fits); named = rises.named }

module _ (start now : Port) (files : List TakenFile) (has : HasTaken start now files) (name : ChunkName) (file : FileState) (held : now.held name ≡ Some file) where
  -- a file at the port is not in hand
  pub not_in_hand : in_hand files name ≡ None
  not_in_hand = elim (cases_Bool (is_some (in_hand files name))) [
    | inl there ↦ absurd (not_some (now.held name) file (has.out name there) held)
    | inr none ↦ none_of (in_hand files name) none
  ]

  at_port : Rises (start.held name) (Some file)
  at_port = subst (λ (o : Option FileState). Rises (start.held name) o) (either_none (in_hand files name) (now.held name) not_in_hand ∙ held) (has.rises name)

  module _ (mid new : Port) (takes : Takes now mid name) (fits : IsFile file) (same : SamePort mid new) where
    t : TakenFile
    t = record { name = name; file = synced_file file }

    pub taken_one : HasTaken start new (files ++ record { name = name; file = synced_file file } ∷ [])
    unfolding t
    taken_one = record {
      rises = λ n. elim (same_name_or_not n name) [
        | inl here ↦
            subst (λ (m : ChunkName). Rises (start.held m) (files_with new (files ++ t ∷ []) m)) (sym here)
            (subst (λ (o : Option FileState). Rises (start.held name) (either_file o (new.held name))) (sym (push_at t files not_in_hand)) (keeps_synced (start.held name) file fits at_port))
        | inr past ↦
            subst (λ (o : Option FileState). Rises (start.held n) o) (ap (λ (o : Option FileState). either_file o (now.held n)) (sym (push_other t files n past)) ∙ ap (λ (o : Option FileState). either_file (in_hand (files ++ t ∷ []) n) o) (sym (same.held n ∙ takes.held.others n past))) (has.rises n)
      ];
      out = λ n there. elim (same_name_or_not n name) [
        | inl here ↦ ap new.held here ∙ same.held name ∙ takes.held.at
        | inr past ↦ same.held n ∙ takes.held.others n past ∙ has.out n (ap is_some (sym (push_other t files n past)) ∙ there)
      ];
      lent = λ n. elim (same_name_or_not n name) [
        | inl here ↦ ap new.lent here ∙ same.lent name ∙ takes.lent.at ∙ ap is_some (sym (push_at t files not_in_hand)) ∙ ap (λ (m : ChunkName). is_some (in_hand (files ++ t ∷ []) m)) (sym here)
        | inr past ↦ same.lent n ∙ takes.lent.others n past ∙ has.lent n ∙ ap is_some (sym (push_other t files n past))
      ];
      gone = λ n. same.gone n ∙ takes.gone n ∙ has.gone n;
      foreign = λ n. same.foreign n ∙ takes.foreign n ∙ has.foreign n;
      apart = apart_push t files has.apart not_in_hand;
    }

  module _ (mid after new : Port) (takes : Takes now mid name) (same : SamePort mid after) (gives : Gives after new name file) where
    not_foreign : (foreign lent : Bool) → foreign ≡ false → lent ≡ true → (foreign || not lent) ≡ false
    not_foreign false true a b = refl
    not_foreign true lent a b = cc
    not_foreign false false a b = cc

    -- it was given back again
    pub taken_back : HasTaken start new files
    taken_back = record {
      rises = λ n. elim (same_name_or_not n name) [
        | inl here ↦
            subst (λ (m : ChunkName). Rises (start.held m) (files_with new files m)) (sym here)
            (subst (λ (o : Option FileState). Rises (start.held name) o) (sym (either_none (in_hand files name) (new.held name) not_in_hand ∙ gives.held.at)) at_port)
        | inr past ↦
            subst (λ (o : Option FileState). Rises (start.held n) (either_file (in_hand files n) o)) (sym (gives.held.others n past ∙ same.held n ∙ takes.held.others n past)) (has.rises n)
      ];
      out = λ n there. elim (same_name_or_not n name) [
        | inl here ↦ absurd (false≢true (ap is_some (sym not_in_hand) ∙ ap (λ (m : ChunkName). is_some (in_hand files m)) (sym here) ∙ there))
        | inr past ↦ gives.held.others n past ∙ same.held n ∙ takes.held.others n past ∙ has.out n there
      ];
      lent = λ n. elim (same_name_or_not n name) [
        | inl here ↦ ap new.lent here ∙ gives.lent.at ∙ ap is_some (sym not_in_hand) ∙ ap (λ (m : ChunkName). is_some (in_hand files m)) (sym here)
        | inr past ↦ gives.lent.others n past ∙ same.lent n ∙ takes.lent.others n past ∙ has.lent n
      ];
      gone = λ n. elim (same_name_or_not n name) [
        | inl here ↦ ap new.gone here ∙ gives.gone.at
        | inr past ↦ gives.gone.others n past ∙ same.gone n ∙ takes.gone n ∙ has.gone n
      ];
      foreign = λ n. elim (same_name_or_not n name) [
        | inl here ↦ ap new.foreign here ∙ gives.foreign.at ∙ not_foreign (after.foreign name) (after.lent name) (same.foreign name ∙ takes.foreign name ∙ has.foreign name) (same.lent name ∙ takes.lent.at)
        | inr past ↦ gives.foreign.others n past ∙ same.foreign n ∙ takes.foreign n ∙ has.foreign n
      ];
      apart = has.apart;
    }

-- a file at the port has a lasting name, and once its bytes are durable it is
pub taken_durable : (now : Port) (name : ChunkName) (file : FileState) → now.held name ≡ Some file → AllNamed now → IsDurable (synced_file file)
taken_durable now name file held named = record { front = refl; named = named name file held }

-- ---- the last one is given back

module _ (start now : Port) (files : List TakenFile) (t : TakenFile) (has : HasTaken start now (files ++ t ∷ [])) (new : Port) (gives : Gives now new t.name t.file) where
  none : in_hand files t.name ≡ None
  none = (apart_pop t files has.apart).1

  last : in_hand (files ++ t ∷ []) t.name ≡ Some t.file
  last = push_at t files none

  -- each file is where it was, or came to the port
  same_files : (n : ChunkName) → files_with new files n ≡ files_with now (files ++ t ∷ []) n
  same_files n = elim (same_name_or_not n t.name) [
    | inl here ↦
        ap (files_with new files) here ∙ either_none (in_hand files t.name) (new.held t.name) none ∙ gives.held.at
        ∙ ap (λ (o : Option FileState). either_file o (now.held t.name)) (sym last) ∙ ap (files_with now (files ++ t ∷ [])) (sym here)
    | inr past ↦
        ap (λ (o : Option FileState). either_file o (new.held n)) (sym (push_other t files n past)) ∙ ap (λ (o : Option FileState). either_file (in_hand (files ++ t ∷ []) n) o) (gives.held.others n past)
  ]

  out_before : (foreign lent : Bool) → foreign ≡ false → lent ≡ true → (foreign || not lent) ≡ false
  out_before false true a b = refl
  out_before true lent a b = cc
  out_before false false a b = cc

  pub given_one : HasTaken start new files
  given_one = record {
    rises = λ n. subst (λ (o : Option FileState). Rises (start.held n) o) (sym (same_files n)) (has.rises n);
    out = λ n there. elim (same_name_or_not n t.name) [
      | inl here ↦ absurd (false≢true (ap is_some (sym none) ∙ ap (λ (m : ChunkName). is_some (in_hand files m)) (sym here) ∙ there))
      | inr past ↦ gives.held.others n past ∙ has.out n (ap is_some (push_other t files n past) ∙ there)
    ];
    lent = λ n. elim (same_name_or_not n t.name) [
      | inl here ↦ ap new.lent here ∙ gives.lent.at ∙ ap is_some (sym none) ∙ ap (λ (m : ChunkName). is_some (in_hand files m)) (sym here)
      | inr past ↦ gives.lent.others n past ∙ has.lent n ∙ ap is_some (push_other t files n past)
    ];
    gone = λ n. elim (same_name_or_not n t.name) [
      | inl here ↦ ap new.gone here ∙ gives.gone.at
      | inr past ↦ gives.gone.others n past ∙ has.gone n
    ];
    foreign = λ n. elim (same_name_or_not n t.name) [
      | inl here ↦ ap new.foreign here ∙ gives.foreign.at ∙ out_before (now.foreign t.name) (now.lent t.name) (has.foreign t.name) (has.lent t.name ∙ ap is_some last)
      | inr past ↦ gives.foreign.others n past ∙ has.foreign n
    ];
    apart = (apart_pop t files has.apart).0;
  }

  pub given_durable : AllDurableWith now (files ++ t ∷ []) → AllDurableWith new files
  given_durable durable n = subst (λ (o : Option FileState). IfSome o IsDurable) (sym (same_files n)) (durable n)
