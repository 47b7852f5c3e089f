pub mod Escapes
pub mod Outline
