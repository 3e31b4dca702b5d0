-- What a crash may leave of files, and what is read of a folder.
use Rattle.std.specs.Prelude.{◌≡◌, ℕ, ◌≤◌, true, false, List, ◌++◌, length, Option, Some, None, ⊤}
use Rattle.std.specs.Option.{option_map}
use Rattle.hr_base.specs.declared.name.ChunkName.{ChunkName}
use Rattle.dir_files.specs.Files.{FileState, Files}
use Rattle.dir_files.specs.Ports.{Port}

-- bytes by name, as they lie on a disk
abbrev pub Image : Type 0
Image = ChunkName → Option (List ℕ)

-- a prefix of the file's bytes that has at least what a crash keeps
pub record KeepsFront (file : FileState) (bytes : List ℕ) : Type 0 where
  pub rest : List ℕ
  pub prefix : file.bytes ≡ bytes ++ rest
  pub front : file.front ≤ length bytes

-- what may lie under one name after a crash: a file keeps a prefix, and may be absent only where a crash may take its
-- name; a file that was removed may come back or not; nothing else is there
abbrev pub MayLeave : Option FileState → Option FileState → Option (List ℕ) → Type 0
MayLeave (Some file) _ (Some bytes) = KeepsFront file bytes
MayLeave (Some file) _ None = file.named ≡ false
MayLeave None (Some file) (Some bytes) = KeepsFront file bytes
MayLeave None (Some file) None = ⊤
MayLeave None None (Some bytes) = ⊥
MayLeave None None None = ⊤

-- what a crash may leave of these files and of these removed ones
abbrev pub IsImage : Files → Files → Image → Type 0
IsImage files gone image = (name : ChunkName) → MayLeave (files name) (gone name) (image name)

-- what is read of a folder without a crash: all bytes of each held file
abbrev pub read_of : Port → Image
read_of port name = option_map (λ file. file.bytes) (port.held name)

-- what a crash left, as files: all of it is durable
abbrev pub durable_files : Image → Files
durable_files image name = option_map (λ bytes. record { bytes = bytes; front = length bytes; named = true }) (image name)

-- an image taken as a folder: its files lie there, all of them durable
abbrev pub port_of_image : Image → Port
port_of_image image = record {
  held = durable_files image;
  gone = λ name. None;
  lent = λ name. false;
  foreign = λ name. false;
  created = λ name. false;
  fixed = λ name. false;
}

-- each file has the bytes that it had, and no image is new
pub record KeepsImages (old new : Port) : Type 0 where
  pub read : (name : ChunkName) → read_of new name ≡ read_of old name
  pub images : (image : Image) → IsImage new.held new.gone image → IsImage old.held old.gone image
