-- Ports that stay, that are joined, and at which nothing is out; and files that rise.
use Rattle.std.specs.Prelude.{◌≡◌, Bool, true, false, ◌&&◌, ◌||◌, not, is_some, Option, Some, None, refl}
use Rattle.std.proofs.Common.{sym, ◌∙◌, arith}
use Rattle.hr_base.specs.declared.name.ChunkName.{ChunkName}
use Rattle.dir_files.specs.Files.{FileState, Files, KeepsMore, Rises}
use Rattle.dir_files.specs.Ports.{CanJoin, Joins, Port, SamePort, either_file}
use Rattle.dir_files.specs.PortStates.{IsGivenBack}

pub no_some : {A : Type 0} (o : Option A) (x : A) → o ≡ None → o ≡ Some x → ⊥
no_some o x none some = cc

-- ---- the file of either

pub either_none : (own other : Option FileState) → own ≡ None → either_file own other ≡ other
either_none None other none = refl
either_none (Some file) other none = cc

pub either_same : (own other : Option FileState) → other ≡ None → either_file own other ≡ own
either_same None other none = none
either_same (Some file) other none = refl

pub either_alone : (own : Option FileState) → either_file own None ≡ own
either_alone None = refl
either_alone (Some file) = refl

-- ---- a file that stays rises

pub keeps_same : (f : FileState) → KeepsMore f f
keeps_same f = record { bytes = refl; front = omega arith; named = λ named. named }

pub rises_same : (p : Option FileState) → Rises p p
rises_same None = refl
rises_same (Some f) = keeps_same f

-- ---- a port that stays

pub same_after : (a b c : Port) → SamePort a b → SamePort b c → SamePort a c
same_after a b c first second = record {
  held = λ n. second.held n ∙ first.held n;
  gone = λ n. second.gone n ∙ first.gone n;
  lent = λ n. second.lent n ∙ first.lent n;
  foreign = λ n. second.foreign n ∙ first.foreign n;
  created = λ n. second.created n ∙ first.created n;
  fixed = λ n. second.fixed n ∙ first.fixed n;
}

pub given_back_same : (old new : Port) → SamePort old new → IsGivenBack old → IsGivenBack new
given_back_same old new same given = record {
  calm = record { lent = λ n. same.lent n ∙ given.calm.lent n; foreign = λ n. same.foreign n ∙ given.calm.foreign n };
  gone = λ n. same.gone n ∙ given.gone n;
}

-- ---- two ports at which nothing is out

found_of : (held removed : Option FileState) → removed ≡ None → (is_some held || is_some removed) ≡ true → (file : FileState) × (held ≡ Some file)
found_of (Some file) removed none is = (file, refl)
found_of None None none is = cc
found_of None (Some file) none is = cc

absent_of : (held removed : Option FileState) → removed ≡ None → ((file : FileState) → held ≡ Some file → ⊥) → (is_some held || is_some removed) ≡ false
absent_of (Some file) removed none never = absurd (never file refl)
absent_of None None none never = refl
absent_of None (Some file) none never = cc

not_both : (b : Bool) → b ≡ false → b ≡ true → ⊥
not_both b f t = cc

-- they can be joined, where no file of the one is at the other
pub can_join : (a b : Port) (files : Files) → IsGivenBack a → IsGivenBack b → ((name : ChunkName) → b.held name ≡ files name)
    → ((name : ChunkName) (file : FileState) → files name ≡ Some file → a.held name ≡ None) → CanJoin a b
can_join a b files given given' held apart = record {
  apart = λ n there.
      let found = found_of (a.held n) (a.gone n) (given.gone n) there in
      absent_of (b.held n) (b.gone n) (given'.gone n) (λ file is. no_some (a.held n) found.0 (apart n file (sym (held n) ∙ is)) found.1);
  lent_apart = λ n out. absurd (not_both (a.lent n) (given.calm.lent n) out);
  foreign_apart = λ n out. absurd (not_both (a.foreign n) (given.calm.foreign n) out);
  lent_here = λ n out there. absurd (not_both (a.lent n) (given.calm.lent n) out);
  lent_there = λ n out there. absurd (not_both (b.lent n) (given'.calm.lent n) out);
}

neither : (a b x y : Bool) → a ≡ false → b ≡ false → ((a && x) || (b && y)) ≡ false
neither false false x y e f = refl
neither false true x y e f = cc
neither true b x y e f = cc

-- and nothing is out afterwards
pub given_back_joined : (a b new : Port) → IsGivenBack a → IsGivenBack b → Joins a b new → IsGivenBack new
given_back_joined a b new given given' joins = record {
  calm = record {
    lent = λ n. joins.lent n ∙ neither (a.lent n) (b.lent n) (not (b.foreign n)) (not (a.foreign n)) (given.calm.lent n) (given'.calm.lent n);
    foreign = λ n. joins.foreign n ∙ neither (a.foreign n) (b.foreign n) (not (b.lent n)) (not (a.lent n)) (given.calm.foreign n) (given'.calm.foreign n);
  };
  gone = λ n. joins.gone n ∙ either_none (a.gone n) (b.gone n) (given.gone n) ∙ given'.gone n;
}
