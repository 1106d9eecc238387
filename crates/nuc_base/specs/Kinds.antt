use Rattle.std.specs.Prelude.{◌≡◌, ◌<◌, ℕ, Bool, false}
use Rattle.nuc_base.specs.declared.node.Kind.{Kind}
use Rattle.nuc_base.specs.declared.node.Kind.TheVariants.{Folder, File}
use Rattle.nuc_base.specs.declared.node.Node.{Node}

-- what a kind asks of the version and the bit: a folder has neither, a file has a version
abbrev pub Fits : Kind → ℕ → Bool → Type 0
Fits Folder ver bit = (ver ≡ 0) × (bit ≡ false)
Fits File ver bit = 0 < ver

abbrev pub FitsKind : Node → Type 0
FitsKind n = Fits n.kind n.ver.0 n.bit
