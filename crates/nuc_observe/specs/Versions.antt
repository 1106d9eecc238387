-- Which version a listed file keeps.
use Rattle.std.specs.Prelude.{ℕ, ◌==◌, ◌&&◌, Bool, false, if◌then◌else◌, List, Option, None, Some}
use Rattle.std.specs.Str.{bytes_eq}
use Rattle.nuc_base.specs.declared.node.Node.{Node}
use Rattle.nuc_base.specs.declared.node.Ver.{Ver}
use Rattle.nuc_edits.specs.Edits.{content_at}
use Rattle.nuc_edits.specs.declared.edit.Edit.{Edit}
use Rattle.nuc_hash.specs.Content.{ContentData}
use Rattle.nuc_hash.specs.declared.digest.Digest.{Digest}

abbrev pub is_of_hash : Digest → Option ContentData → Bool
is_of_hash hash None = false
is_of_hash hash (Some content) = bytes_eq content.hash.0 hash.0

-- the content of the version has this hash
abbrev pub has_hash : List Edit → Digest → Ver → Bool
has_hash edits hash v = is_of_hash hash (content_at edits v.0)

-- Remote's version, where Local and Synced agreed on theirs: only Remote has changed, and the file shows it
abbrev pub agreed_version : (Ver → Bool) → Node → Option Node → Option Node → Option Ver
agreed_version has l None r = None
agreed_version has l (Some s) None = None
agreed_version has l (Some s) (Some r) = if (l.ver.0 == s.ver.0) && has r.ver then Some r.ver else None

-- of an identity that Local, Synced and Remote have so: Local's version where its content is listed, else Remote's
abbrev pub kept_version : (Ver → Bool) → Option Node → Option Node → Option Node → Option Ver
kept_version has None s r = None
kept_version has (Some l) s r = if has l.ver then Some l.ver else agreed_version has l s r
