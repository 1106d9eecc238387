-- Changes any two of which are apart: after one of them the others are ready too.
use Rattle.std.proofs.Common.{ℕ, sym}
use Rattle.nuc_base.specs.Changes.{changed}
use Rattle.nuc_base.specs.Ready.{AllReady, Without}
use Rattle.nuc_base.specs.Trees.{Nodes, WellFormed}
use Rattle.nuc_base.specs.declared.change.Change.{Change}
use Rattle.nuc_base.proofs.Commute.{legal_after, apart_after}

-- after one of them the others are ready
pub ready_after : (m : Nodes) (C : ℕ → Change → Type 0) (x : ℕ) (c : Change) → WellFormed m → AllReady m C → C x c
    → AllReady (changed m x c) (Without C x)
ready_after m C x c form ready mine = record {
  below = λ y d its. ready.below y d its.0;
  fits = λ y d its. ready.fits y d its.0;
  legal = λ y d its. legal_after m x y c d form (ready.below x c mine) (λ e. its.1 (sym e)) (ready.legal x c mine) (ready.legal y d its.0)
      (ready.apart x y c d mine its.0 (λ e. its.1 (sym e)));
  apart = λ y z d e its other y_z. apart_after m y z x d e c form (ready.below x c mine) its.1 other.1 (ready.legal y d its.0) (ready.legal z e other.0)
      (ready.apart y z d e its.0 other.0 y_z) (ready.apart x y c d mine its.0 (λ s. its.1 (sym s))) (ready.apart x z c e mine other.0 (λ s. other.1 (sym s)));
}

-- some of them are ready too
pub ready_fewer : (m : Nodes) (C D : ℕ → Change → Type 0) → ((x : ℕ) (c : Change) → D x c → C x c) → AllReady m C → AllReady m D
ready_fewer m C D fewer ready = record {
  below = λ x c its. ready.below x c (fewer x c its);
  fits = λ x c its. ready.fits x c (fewer x c its);
  legal = λ x c its. ready.legal x c (fewer x c its);
  apart = λ x y c d its other. ready.apart x y c d (fewer x c its) (fewer y d other);
}
