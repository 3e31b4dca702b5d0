-- Laws of chunks whose files are out, over what calls make of the port.
use Rattle.std.proofs.Common.{◌≡◌, ◌≢◌, Bool, true, false, ◌&&◌, ◌||◌, List, [], ◌∷◌, ◌++◌, Option, Some, None, is_some, option_map, length, arith, refl, ap, sym, ◌∙◌, subst, inl, inr}
use Rattle.std.specs.List.{AllZip}
use Rattle.std.proofs.lemmas.Bool.{cases_Bool, false≢true}
use Rattle.hr_base.specs.declared.name.ChunkName.{ChunkName}
use Rattle.hr_base.specs.NameTests.{is_name}
use Rattle.hr_base.proofs.NameTestLaws.{is_name-true, is_name-false}
use Rattle.dir_files.specs.Files.{FileState, IsFile, named_file, new_file}
use Rattle.dir_files.specs.Ports.{Port, SamePort, Creates, MayCreate, SyncsNames, Gives, can_be_fixed}
use Rattle.value_chunk.specs.Chunks.{Chunk}
use Rattle.writer_files.specs.Hands.{file_among, AreOut, IsOut}
use Rattle.writer_files.proofs.HandLaws.{Adds, file_among-here, file_among-past}

-- ---- lists

pub outs : (p q : Port) → ((c : Chunk) → IsOut p c → IsOut q c) → (cs : List Chunk) → AreOut p cs → AreOut q cs
outs p q step [] out = tt
outs p q step (c ∷ cs) out = (step c out.0, outs p q step cs out.1)

pub outs_zip : (p q : Port) (R : Chunk → Chunk → Type 0) → ((c d : Chunk) → R c d → IsOut p c → IsOut q d) → (xs ys : List Chunk) → AllZip R xs ys → AreOut p xs → AreOut q ys
outs_zip p q R step [] [] zip out = tt
outs_zip p q R step [] (y ∷ ys) zip out = absurd zip
outs_zip p q R step (x ∷ xs) [] zip out = absurd zip
outs_zip p q R step (x ∷ xs) (y ∷ ys) zip out = (step x y zip.0 out.0, outs_zip p q R step xs ys zip.1 out.1)

pub outs_with : (p : Port) (Q R : Chunk → Chunk → Type 0) → ((c d : Chunk) → R c d → IsOut p c → Q c d) → (xs ys : List Chunk) → AllZip R xs ys → AreOut p xs → AllZip Q xs ys
outs_with p Q R step [] [] zip out = tt
outs_with p Q R step [] (y ∷ ys) zip out = absurd zip
outs_with p Q R step (x ∷ xs) [] zip out = absurd zip
outs_with p Q R step (x ∷ xs) (y ∷ ys) zip out = (step x y zip.0 out.0, outs_with p Q R step xs ys zip.1 out.1)

out_front : (p : Port) (xs ys : List Chunk) → AreOut p (xs ++ ys) → AreOut p xs
out_front p [] ys out = tt
out_front p (x ∷ xs) ys out = (out.0, out_front p xs ys out.1)

out_back : (p : Port) (xs ys : List Chunk) → AreOut p (xs ++ ys) → AreOut p ys
out_back p [] ys out = out
out_back p (x ∷ xs) ys out = out_back p xs ys out.1

out_append : (p : Port) (xs ys : List Chunk) → AreOut p xs → AreOut p ys → AreOut p (xs ++ ys)
out_append p [] ys first second = second
out_append p (x ∷ xs) ys first second = (first.0, out_append p xs ys first.1 second)

module _ (p : Port) (c : Chunk) (base xs : List Chunk) (adds : Adds c base xs) where
  pub out_base : AreOut p xs → AreOut p base
  out_base out =
      let all = subst (AreOut p) adds.is out in
      subst (AreOut p) (sym adds.beside) (out_append p adds.before adds.after (out_front p adds.before (c ∷ adds.after) all) (out_back p adds.before (c ∷ adds.after) all).1)

  pub out_one : AreOut p xs → IsOut p c
  out_one out = (out_back p adds.before (c ∷ adds.after) (subst (AreOut p) adds.is out)).0

  pub out_adds : AreOut p base → IsOut p c → AreOut p xs
  out_adds out one =
      let all = subst (AreOut p) adds.beside out in
      subst (AreOut p) (sym adds.is) (out_append p adds.before (c ∷ adds.after) (out_front p adds.before adds.after all) (one, out_back p adds.before adds.after all))

-- ---- what is found

-- a name that is found is lent, and no file lies at the port under it
pub found_out : (p : Port) (cs : List Chunk) → AreOut p cs → (n : ChunkName) → is_some (file_among cs n) ≡ true → (p.lent n ≡ true) × (p.held n ≡ None) × (can_be_fixed p n ≡ true)
found_out p [] out n found = absurd (false≢true found)
found_out p (c ∷ cs) out n found = elim (cases_Bool (is_name c.name n)) [
  | inl here ↦
      let same = is_name-true c.name n here in
      (ap p.lent (sym same) ∙ out.0.lent, ap p.held (sym same) ∙ out.0.held, ap (can_be_fixed p) (sym same) ∙ out.0.fixable)
  | inr past ↦ found_out p cs out.1 n (sym (ap is_some (file_among-past c cs n past)) ∙ found)
]

none_unless : (o : Option FileState) → (is_some o ≡ true → ⊥) → o ≡ None
none_unless None never = refl
none_unless (Some f) never = absurd (never refl)

pub unlent_none : (p : Port) (cs : List Chunk) → AreOut p cs → (n : ChunkName) → p.lent n ≡ false → file_among cs n ≡ None
unlent_none p cs out n unlent =
    none_unless (file_among cs n) (λ found. false≢true (sym unlent ∙ (found_out p cs out n found).0))

-- ---- ports

pub out_same : (p q : Port) → SamePort p q → (c : Chunk) → IsOut p c → IsOut q c
out_same p q same c out = record {
  file = out.file;
  synced = out.synced;
  lent = same.lent c.name ∙ out.lent;
  held = same.held c.name ∙ out.held;
  fixable = let e : can_be_fixed q c.name ≡ can_be_fixed p c.name = cc (same.fixed c.name, same.created c.name, same.lent c.name) in e ∙ out.fixable;
}

apart_lent : (p : Port) (name : ChunkName) → p.lent name ≡ false → (c : Chunk) → IsOut p c → c.name ≢ name
apart_lent p name unlent c out same = false≢true (sym unlent ∙ ap p.lent (sym same) ∙ out.lent)

pub out_created : (p q : Port) (name : ChunkName) → Creates p q name → p.lent name ≡ false → (c : Chunk) → IsOut p c → IsOut q c
out_created p q name creates unlent c out =
    let apart = apart_lent p name unlent c out in record {
      file = out.file;
      synced = out.synced;
      lent = creates.lent.others c.name apart ∙ out.lent;
      held = creates.held c.name ∙ out.held;
      fixable = let e : can_be_fixed q c.name ≡ can_be_fixed p c.name = cc (creates.fixed c.name, creates.created.others c.name apart, creates.lent.others c.name apart) in e ∙ out.fixable;
    }

pub out_may : (p q : Port) (name : ChunkName) → MayCreate p q name → p.lent name ≡ false → (c : Chunk) → IsOut p c → IsOut q c
out_may p q name may unlent c out =
    let apart = apart_lent p name unlent c out in record {
      file = out.file;
      synced = out.synced;
      lent = may.lent c.name ∙ out.lent;
      held = may.others c.name apart ∙ out.held;
      fixable = let e : can_be_fixed q c.name ≡ can_be_fixed p c.name = cc (may.fixed c.name, may.created c.name, may.lent c.name) in e ∙ out.fixable;
    }

either_true : (fixed created lent : Bool) → created ≡ true → lent ≡ true → (fixed || (created && lent)) ≡ true
either_true true created lent c l = refl
either_true false true true c l = refl
either_true false true false c l = absurd (false≢true l)
either_true false false lent c l = absurd (false≢true c)

-- the file that was created is out
pub out_new : (p q : Port) (name : ChunkName) → Creates p q name → p.held name ≡ None → (d : Chunk) → d.name ≡ name → d.file ≡ new_file → IsOut q d
out_new p q name creates none d same is = record {
  file = subst IsFile (sym is) (omega arith);
  synced = λ idle. subst (λ (f : FileState). f.front ≡ length f.bytes) (sym is) refl;
  lent = ap q.lent same ∙ creates.lent.at;
  held = ap q.held same ∙ creates.held name ∙ none;
  fixable = ap (can_be_fixed q) same ∙ either_true (q.fixed name) (q.created name) (q.lent name) creates.created.at creates.lent.at;
}

pub fixed_synced : (p q : Port) → SyncsNames p q → (c : Chunk) → IsOut p c → q.fixed c.name ≡ true
fixed_synced p q syncs c out = syncs.fixed c.name ∙ out.fixable

pub out_synced : (p q : Port) → SyncsNames p q → (c d : Chunk) → d.name ≡ c.name → IsFile d.file → d.file.front ≡ length d.file.bytes → IsOut p c → IsOut q d
out_synced p q syncs c d same is_file front out = record {
  file = is_file;
  synced = λ idle. front;
  lent = ap q.lent same ∙ syncs.lent c.name ∙ out.lent;
  held = ap q.held same ∙ syncs.held c.name ∙ ap (option_map named_file) out.held;
  fixable = ap (can_be_fixed q) same ∙ ap (λ (b : Bool). b || (q.created c.name && q.lent c.name)) (fixed_synced p q syncs c out);
}

pub out_given : (p q : Port) (name : ChunkName) (file : FileState) → Gives p q name file → (c : Chunk) → c.name ≢ name → IsOut p c → IsOut q c
out_given p q name file gives c apart out = record {
  file = out.file;
  synced = out.synced;
  lent = gives.lent.others c.name apart ∙ out.lent;
  held = gives.held.others c.name apart ∙ out.held;
  fixable = let e : can_be_fixed q c.name ≡ can_be_fixed p c.name = cc (gives.fixed.others c.name apart, gives.created c.name, gives.lent.others c.name apart) in e ∙ out.fixable;
}

pub outs_given : (p q : Port) (name : ChunkName) (file : FileState) → Gives p q name file → (cs : List Chunk) → file_among cs name ≡ None → AreOut p cs → AreOut q cs
outs_given p q name file gives [] none out = tt
outs_given p q name file gives (c ∷ cs) none out = elim (cases_Bool (is_name c.name name)) [
  | inl here ↦ absurd (let e : Some c.file ≡ None = sym (file_among-here c cs name here) ∙ none in cc)
  | inr past ↦ (
    out_given p q name file gives c (λ same. is_name-false c.name name past same) out.0,
    outs_given p q name file gives cs (sym (file_among-past c cs name past) ∙ none) out.1,
  )
]
