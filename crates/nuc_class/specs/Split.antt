-- When Remote and Local have two contents of one file that can't be made one. `same` tells whether the contents of two
-- versions have equal hashes.
use Rattle.std.specs.Prelude.{◌==◌, ◌&&◌, ◌||◌, not, ℕ, Bool, true, false, Option, None, Some}
use Rattle.nuc_base.specs.Codes.{is_file}
use Rattle.nuc_base.specs.declared.node.Node.{Node}

-- they are one version, or have equal hashes
abbrev pub same_content : (ℕ → ℕ → Bool) → ℕ → ℕ → Bool
same_content same v w = v == w || same v w

-- it isn't Synced's version
abbrev pub is_new : Option Node → ℕ → Bool
is_new None v = true
is_new (Some s) v = not (s.ver.0 == v)

-- a file has a version in Remote and one in Local, neither is Synced's, and they have other contents
abbrev pub needs_split : (ℕ → ℕ → Bool) → Option Node → Option Node → Option Node → Bool
needs_split same (Some r) (Some l) s =
    is_file r.kind && is_new s r.ver.0 && is_new s l.ver.0 && not (same_content same l.ver.0 r.ver.0)
needs_split same (Some r) None s = false
needs_split same None l s = false
