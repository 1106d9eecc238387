use Rattle.std.proofs.Common.{◌≡◌, ◌≤◌, ℕ, List, [], ◌∷◌, ◌++◌, length, get_or, take, map, refl, sym, ap, ◌∙◌, arith}
use Rattle.nuc_blocks.specs.Blocks.{stored}
use Rattle.nuc_blocks.specs.Pieces.{all_stored}
use Rattle.nuc_blocks.specs.Store.{StoreState}
use Rattle.nuc_blocks.proofs.Keeping.{first_digest, other_digests, first_fits, more_split, more_stored, none_left}
use Rattle.nuc_blocks.proofs.Stored.{keeps}
use Rattle.nuc_hash.specs.Content.{blocks_of, digest_of}
use Rattle.nuc_hash.specs.declared.digest.Digest.{Digest}
use Rattle.nuc_blocks.proofs.keep.keep_blocks.Goals as goal

abbrev none : Digest
none = record { 0 = [] }

pub put_known-requires : goal.put_known-requires
put_known-requires c =
    let i = c.loop-digest.digest-index in
    let rest = c.loop-digest.rest.now in
    let left = c.loop-digest.invariant.left in
    rw c.split_at.ensures.front (record {
      hashed = first_digest c.args.digests.now i rest none c.min.result c.loop-digest-test.true left c.min.ensures;
      short = first_fits c.args.digests.now i rest none c.min.result c.loop-digest-test.true left c.min.ensures;
    })

pub loop-digest-init : goal.loop-digest-init
loop-digest-init c = record { left = c.requires; part = ([], refl, refl); settled = refl }

pub loop-digest-preserved : goal.loop-digest-preserved
loop-digest-preserved c =
    let i = c.loop-digest.digest-index in
    let rest = c.loop-digest.rest.now in
    let before = c.loop-digest.store.now in
    let after = c.put_known.new.self.now in
    let given = c.in_ok-put_known.ensures.blocks in
    let left = c.loop-digest.invariant.left in
    let (front, all, are) = c.loop-digest.invariant.part in
    let digest = get_or c.args.digests.now i none in
    let put : after ≡ stored digest c.split_at.result.0.now before = ap (λ (s : StoreState). s.now) given in
    let same : after ≡ stored digest (take c.min.result rest) before = put ∙ ap (λ (bytes : List ℕ). stored digest bytes before) c.split_at.ensures.front in
    let split = more_split c.args.digests.now i rest none c.min.result c.loop-digest-test.true left c.min.ensures (blocks_of c.args.bytes.now) front all in
    record {
      left = other_digests c.args.digests.now i rest none c.min.result c.loop-digest-test.true left c.min.ensures
          ∙ ap (λ (bytes : List ℕ). map digest_of (blocks_of bytes)) (sym c.split_at.ensures.back);
      part = (
        front ++ take c.min.result rest ∷ [],
        split ∙ ap (λ (bytes : List ℕ). (front ++ take c.min.result rest ∷ []) ++ blocks_of bytes) (sym c.split_at.ensures.back),
        more_stored c.args.digests.now i rest none c.min.result c.loop-digest-test.true left c.min.ensures front c.args.store.now.now before after are same,
      );
      settled = ap (λ (s : StoreState). s.settled) given ∙ c.loop-digest.invariant.settled;
    }

pub returns-clause-ok : goal.returns-clause-ok
returns-clause-ok c =
    let i = c.loop-digest.digest-index in
    let end : length c.args.digests.now ≤ i = omega (arith, c.loop-digest-test.false) in
    let (front, all, are) = c.loop-digest.invariant.part in
    are ∙ ap (λ (ps : List (List ℕ)). all_stored ps c.args.store.now.now) (sym (none_left c.args.digests.now i c.loop-digest.rest.now (blocks_of c.args.bytes.now) front end c.loop-digest.invariant.left all))

pub returns-clause-kept : goal.returns-clause-kept
returns-clause-kept c =
    let (front, all, are) = c.loop-digest.invariant.part in
    keeps front c.args.store.now.now c.loop-digest.store.now are

pub returns-in_err-put_known-clause-kept : goal.returns-in_err-put_known-clause-kept
returns-in_err-put_known-clause-kept c =
    let (front, all, are) = c.loop-digest.invariant.part in
    let same : c.put_known.new.self.now ≡ c.loop-digest.store.now = ap (λ (s : StoreState). s.now) c.in_err-put_known.ensures.err in
    keeps front c.args.store.now.now c.put_known.new.self.now (same ∙ are)
