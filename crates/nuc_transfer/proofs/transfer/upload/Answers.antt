use Rattle.std.proofs.Common.{◌≡◌, ℕ, List, None, length, map, ap, sym, subst, ◌∙◌, arith}
use Rattle.nuc_blocks.specs.Blocks.{Blocks, first_missing}
use Rattle.nuc_blocks.specs.Pieces.{all_stored}
use Rattle.nuc_blocks.proofs.Stored.{none_missing}
use Rattle.nuc_hash.specs.Content.{ContentData, blocks_of, content_of, digest_of}
use Rattle.nuc_hash.specs.declared.digest.Digest.{Digest}
use Rattle.nuc_hash.proofs.Sizes.{blocks-content_of}
use Rattle.nuc_transfer.proofs.Growing.{grows}
use Rattle.nuc_transfer.proofs.transfer.upload.Goals as goal

pub keep_blocks-requires : goal.keep_blocks-requires
keep_blocks-requires c =
    c.blocks-2.ensures ∙ ap (λ (content : ContentData). content.blocks) c.content.ensures ∙ blocks-content_of c.args.prepared.now
    ∙ ap (λ (bytes : List ℕ). map digest_of (blocks_of bytes)) (sym c.bytes.ensures)

pub overflow_sub-result : goal.overflow_sub-result
overflow_sub-result c =
    let more = grows (blocks_of c.bytes.result.now) c.args.store.now.now in
    let after = ap length c.in_ok-keep_blocks.ensures.ok in
    omega (arith, more, after, c.len-before.ensures.len, c.len.ensures.len)

pub returns-clause-count : goal.returns-clause-count
returns-clause-count c =
    let more = grows (blocks_of c.bytes.result.now) c.args.store.now.now in
    let after = ap length c.in_ok-keep_blocks.ensures.ok in
    omega (arith, more, after, c.len-before.ensures.len, c.len.ensures.len)

pub returns-clause-whole : goal.returns-clause-whole
returns-clause-whole c =
    let after = c.in_ok-keep_blocks.ensures.ok ∙ ap (λ (bytes : List ℕ). all_stored (blocks_of bytes) c.args.store.now.now) c.bytes.ensures in
    let digests = blocks-content_of c.args.prepared.now in
    subst (λ (blocks : Blocks). first_missing blocks (content_of c.args.prepared.now).blocks ≡ None) (sym after)
    (subst (λ (list : List Digest). first_missing (all_stored (blocks_of c.args.prepared.now) c.args.store.now.now) list ≡ None) (sym digests)
    (none_missing (blocks_of c.args.prepared.now) c.args.store.now.now))
