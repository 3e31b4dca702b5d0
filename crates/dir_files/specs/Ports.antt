-- A port as contracts see it, and what each call makes of it.
use Rattle.std.specs.Prelude.{◌≡◌, ◌≢◌, ◌⊎◌, ◌↔◌, Bool, true, false, ◌&&◌, ◌||◌, not, List, Contains, AllPairs, All, Option, Some, None, is_some, IsSome}
use Rattle.std.specs.Option.{option_map}
use Rattle.hr_base.specs.declared.name.ChunkName.{ChunkName}
use Rattle.hr_base.specs.Names.{IsChunkName}
use Rattle.dir_files.specs.Files.{FileState, Files, Names, new_file, named_file, IsFile, ChangesAt, SameAt}

-- A port, without its count of faults.
pub record Port : Type 0 where
  -- files that lie in the folder, with no handle out
  pub held : Files
  -- files removed here since the last directory sync
  pub gone : Files
  -- names that handles were given out for here and have not come back here
  pub lent : Names
  -- names whose handles came back here and were given out elsewhere
  pub foreign : Names
  -- names created here since the last directory sync
  pub created : Names
  -- lent names that were created here before the last directory sync
  pub fixed : Names

-- nothing changes
pub record SamePort (old new : Port) : Type 0 where
  pub held : SameAt old.held new.held
  pub gone : SameAt old.gone new.gone
  pub lent : SameAt old.lent new.lent
  pub foreign : SameAt old.foreign new.foreign
  pub created : SameAt old.created new.created
  pub fixed : SameAt old.fixed new.fixed

-- a fresh port: it has no file and no name
pub record IsEmptyPort (port : Port) : Type 0 where
  pub held : (name : ChunkName) → port.held name ≡ None
  pub gone : (name : ChunkName) → port.gone name ≡ None
  pub lent : (name : ChunkName) → port.lent name ≡ false
  pub foreign : (name : ChunkName) → port.foreign name ≡ false
  pub created : (name : ChunkName) → port.created name ≡ false
  pub fixed : (name : ChunkName) → port.fixed name ≡ false

-- a file of this name lies at the port, or was removed there and may come back
abbrev pub is_present : Port → ChunkName → Bool
is_present port name = is_some (port.held name) || is_some (port.gone name)

-- two ports that can be joined: they share no file and no name that is out, and what is out at one lies at the other
-- only where the other knows that it came from elsewhere
pub record CanJoin (a b : Port) : Type 0 where
  pub apart : (name : ChunkName) → is_present a name ≡ true → is_present b name ≡ false
  pub lent_apart : (name : ChunkName) → a.lent name ≡ true → b.lent name ≡ false
  pub foreign_apart : (name : ChunkName) → a.foreign name ≡ true → b.foreign name ≡ false
  pub lent_here : (name : ChunkName) → a.lent name ≡ true → is_present b name ≡ true → b.foreign name ≡ true
  pub lent_there : (name : ChunkName) → b.lent name ≡ true → is_present a name ≡ true → a.foreign name ≡ true

-- the file of either
abbrev pub either_file : Option FileState → Option FileState → Option FileState
either_file None b = b
either_file (Some file) b = Some file

-- the ports are one: what is lent at one and foreign at the other is settled
pub record Joins (a b new : Port) : Type 0 where
  pub held : (name : ChunkName) → new.held name ≡ either_file (a.held name) (b.held name)
  pub gone : (name : ChunkName) → new.gone name ≡ either_file (a.gone name) (b.gone name)
  pub lent : (name : ChunkName) → new.lent name ≡ ((a.lent name && not (b.foreign name)) || (b.lent name && not (a.foreign name)))
  pub foreign : (name : ChunkName) → new.foreign name ≡ ((a.foreign name && not (b.lent name)) || (b.foreign name && not (a.lent name)))
  pub created : (name : ChunkName) → new.created name ≡ (a.created name || b.created name)
  pub fixed : (name : ChunkName) → new.fixed name ≡ ((a.fixed name && not (b.foreign name)) || (b.fixed name && not (a.foreign name)))

-- the names of the held files, each once, in any order
pub record IsListing (port : Port) (names : List ChunkName) : Type 0 where
  pub listed : (name : ChunkName) → Contains names name ↔ IsSome (port.held name)
  pub once : AllPairs (λ a b. a ≢ b) names
  pub valid : All IsChunkName names

-- what holds of every port: a crash keeps of a file what is there, no name is held and gone at once, and a fixed name
-- is lent
pub record IsPort (port : Port) : Type 0 where
  pub held_fits : (name : ChunkName) (file : FileState) → port.held name ≡ Some file → IsFile file
  pub gone_fits : (name : ChunkName) (file : FileState) → port.gone name ≡ Some file → IsFile file
  pub apart : (name : ChunkName) → is_some (port.held name) ≡ true → port.gone name ≡ None
  pub fixed_lent : (name : ChunkName) → port.fixed name ≡ true → port.lent name ≡ true

-- no file of this name is here, and no handle of it is known here
pub record IsFreeName (port : Port) (name : ChunkName) : Type 0 where
  pub held : port.held name ≡ None
  pub gone : port.gone name ≡ None
  pub lent : port.lent name ≡ false
  pub foreign : port.foreign name ≡ false

-- the same as a test
abbrev pub is_free : Port → ChunkName → Bool
is_free port name = not (is_present port name) && (not (port.lent name) && not (port.foreign name))

-- a handle of the held file is out
pub record Takes (old new : Port) (name : ChunkName) : Type 0 where
  pub held : ChangesAt old.held new.held name None
  pub gone : SameAt old.gone new.gone
  pub lent : ChangesAt old.lent new.lent name true
  pub foreign : SameAt old.foreign new.foreign
  pub created : SameAt old.created new.created
  pub fixed : SameAt old.fixed new.fixed

-- a handle of a file of this name, just created, is out
pub record Creates (old new : Port) (name : ChunkName) : Type 0 where
  pub held : SameAt old.held new.held
  pub gone : SameAt old.gone new.gone
  pub lent : ChangesAt old.lent new.lent name true
  pub foreign : SameAt old.foreign new.foreign
  pub created : ChangesAt old.created new.created name true
  pub fixed : SameAt old.fixed new.fixed

-- after a fault of `create`: at most an empty file of this name, without a lasting name, is held
pub record MayCreate (old new : Port) (name : ChunkName) : Type 0 where
  pub at : (new.held name ≡ old.held name) ⊎ (new.held name ≡ Some new_file)
  pub others : (other : ChunkName) → other ≢ name → new.held other ≡ old.held other
  pub gone : SameAt old.gone new.gone
  pub lent : SameAt old.lent new.lent
  pub foreign : SameAt old.foreign new.foreign
  pub created : SameAt old.created new.created
  pub fixed : SameAt old.fixed new.fixed

-- the name is fixed, or a directory sync will fix it
abbrev pub can_be_fixed : Port → ChunkName → Bool
can_be_fixed port name = port.fixed name || (port.created name && port.lent name)

-- every held file has a lasting name, what was removed is gone for good, and what was created and is still out is fixed
pub record SyncsNames (old new : Port) : Type 0 where
  pub held : (name : ChunkName) → new.held name ≡ option_map named_file (old.held name)
  pub gone : (name : ChunkName) → new.gone name ≡ None
  pub lent : SameAt old.lent new.lent
  pub foreign : SameAt old.foreign new.foreign
  pub created : (name : ChunkName) → new.created name ≡ false
  pub fixed : (name : ChunkName) → new.fixed name ≡ can_be_fixed old name

-- a handle came back: its file lies here, no removed file of its name can come back, and its name is no longer lent, or
-- is foreign where it never was
pub record Gives (old new : Port) (name : ChunkName) (file : FileState) : Type 0 where
  pub held : ChangesAt old.held new.held name (Some file)
  pub gone : ChangesAt old.gone new.gone name None
  pub lent : ChangesAt old.lent new.lent name false
  pub foreign : ChangesAt old.foreign new.foreign name (old.foreign name || not (old.lent name))
  pub created : SameAt old.created new.created
  pub fixed : ChangesAt old.fixed new.fixed name false

-- a file was removed by its handle: it may come back until the next directory sync, no other file of its name lies here,
-- and its name is no longer lent, or is foreign where it never was
pub record Removes (old new : Port) (name : ChunkName) (file : FileState) : Type 0 where
  pub held : ChangesAt old.held new.held name None
  pub gone : ChangesAt old.gone new.gone name (Some file)
  pub lent : ChangesAt old.lent new.lent name false
  pub foreign : ChangesAt old.foreign new.foreign name (old.foreign name || not (old.lent name))
  pub created : SameAt old.created new.created
  pub fixed : ChangesAt old.fixed new.fixed name false
