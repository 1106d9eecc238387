-- What a part of a commit does.
use Rattle.std.specs.Prelude.{◌≡◌, ℕ, Bool, true, false, List}
use Rattle.nuc_hash.specs.Content.{blocks_of}
use Rattle.nuc_server.specs.WebEdits.{WebState, all_stored}

-- the blocks of the bytes are stored, where these are what was recorded
abbrev pub KeepsRecorded : List ℕ → Bool → WebState → Bool → WebState → Type 0
KeepsRecorded bytes is s true t = (is ≡ true) × (t ≡ record s { blocks = all_stored (blocks_of bytes) s.blocks })
KeepsRecorded bytes is s false t = (is ≡ false) × (t ≡ s)
