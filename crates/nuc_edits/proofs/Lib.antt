pub mod Contents
mod TiedLemmas
