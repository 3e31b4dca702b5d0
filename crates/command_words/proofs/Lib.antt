pub mod Words
pub mod Texts
pub mod LaterWords
pub mod ClapWalk
