-- Ports between calls: what is out, what may come back, and what a crash may change.
use Rattle.std.specs.Prelude.{◌≡◌, true, false, length, Some, None}
use Rattle.hr_base.specs.declared.name.ChunkName.{ChunkName}
use Rattle.dir_files.specs.Files.{FileState}
use Rattle.dir_files.specs.Ports.{Port}

-- no handle is out, and none came back that was given out elsewhere
pub record IsCalm (port : Port) : Type 0 where
  pub lent : (name : ChunkName) → port.lent name ≡ false
  pub foreign : (name : ChunkName) → port.foreign name ≡ false

-- and no removed file may come back
pub record IsGivenBack (port : Port) : Type 0 where
  pub calm : IsCalm port
  pub gone : (name : ChunkName) → port.gone name ≡ None

-- and all that is there is durable
pub record IsAtRest (port : Port) : Type 0 where
  pub given_back : IsGivenBack port
  pub named : (name : ChunkName) (file : FileState) → port.held name ≡ Some file → file.named ≡ true
  pub front : (name : ChunkName) (file : FileState) → port.held name ≡ Some file → file.front ≡ length file.bytes
