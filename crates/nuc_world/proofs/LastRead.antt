-- The last Start of an operation is found from the end of the log.
use Rattle.std.proofs.Common.{◌≡◌, ◌<◌, ℕ, zero, suc, List, [], ◌∷◌, length, drop, get_or, ◌∙◌, ap}
use Rattle.std.proofs.Math.Seq.{drop-cons}
use Rattle.std.specs.Prelude.{None, Some}
use Rattle.nuc_log.specs.declared.log.LogEntry.{LogEntry}
use Rattle.nuc_world.specs.Takes.{or_else, read_by, read_in}

module _ (c n : ℕ) where
  -- what the later entries read was read last
  pub later : (es : List LogEntry) (i : ℕ) (bytes : List ℕ) → read_in c n (drop i es) ≡ Some bytes → read_in c n es ≡ Some bytes
  later es zero bytes is = is
  later [] (suc i) bytes is = is
  later (e ∷ es) (suc i) bytes is = ap (λ o. or_else o (read_by c n e)) (later es i bytes is)

  -- one entry reads, and none after it
  pub found : (es : List LogEntry) (i : ℕ) (d : LogEntry) (bytes : List ℕ) → i < length es → read_in c n (drop (suc i) es) ≡ None
      → read_by c n (get_or es i d) ≡ Some bytes → read_in c n es ≡ Some bytes
  found es i d bytes within none reads =
      later es i bytes (ap (read_in c n) (drop-cons es i d within) ∙ (ap (λ o. or_else o (read_by c n (get_or es i d))) none ∙ reads))
