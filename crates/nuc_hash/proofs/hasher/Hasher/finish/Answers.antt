use Rattle.std.proofs.Common.{◌≡◌, ◌∙◌, ap, map, length}
use Rattle.nuc_hash.specs.Content.{blocks_of, content_of, digest_of}
use Rattle.nuc_hash.proofs.hasher.Hasher.finish.Goals as goal

pub returns : goal.returns
unfolding content_of
returns c =
    let blocks : c.from_vec.result ≡ map digest_of (blocks_of c.self.inside.taken.bytes) =
    c.from_vec.ensures ∙ c.finish-digests.ensures _ c.self.invariant.0 in
    let size : c.self.inside.total ≡ length c.self.inside.taken.bytes = c.self.invariant.1 in
    let made = rw (blocks, size) at c.whole.ensures in
    made ∙ ap content_of c.self.view_is
