use Rattle.std.proofs.Common.{◌≡◌, ℕ, List, [], ◌∷◌, ◌++◌, length, refl, ap, ◌∙◌, subst, sym, arith, append_assoc, append-nil, length-append}
use Rattle.nuc_hash.specs.Content.{digest_of}
use Rattle.nuc_hash.specs.Hashing.{AreWhole}
use Rattle.nuc_hash.specs.declared.content.TheConstants.{BLOCK}
use Rattle.nuc_hash.specs.declared.digest.Digest.{Digest}
use Rattle.nuc_hash.proofs.Hashing.{whole_more}
use Rattle.nuc_hash.proofs.blocks.Blocks.end_block.Goals as goal

pub returns-clause-digest : goal.returns-clause-digest
unfolding digest_of
returns-clause-digest c before h =
    let block = h.rest ++ c.args.end.now in
    let full : length block ≡ BLOCK = omega (arith, length-append h.rest c.args.end.now, h.fill, c.requires.whole) in
    let fed = c.update.ensures h.rest h.running in
    let value = c.finalize_reset-digest.ensures.digest block fed in
    let digest : record { 0 = c.finalize_reset-digest.result } ≡ digest_of block = ap (λ (b : List ℕ). record { 0 = b }) value in
    let items = c.push_reserved.ensures.items ∙ ap (λ (d : Digest). c.args.self.now.digests.items ++ d ∷ []) digest in
    record {
      whole = h.whole ++ block;
      rest = [];
      all = ap (λ (bytes : List ℕ). bytes ++ c.args.end.now) h.all ∙ append_assoc h.whole h.rest c.args.end.now ∙ sym (append-nil (h.whole ++ block));
      digests = subst (λ (digests : List Digest). AreWhole digests (h.whole ++ block)) (sym items) (whole_more _ h.whole block h.digests full);
      running = c.finalize_reset-digest.ensures.empty;
      fill = refl;
      short = omega arith;
      room = λ some. absurd (omega (arith, some));
    }
