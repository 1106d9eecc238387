use Rattle.std.proofs.Common.{◌≡◌, ℕ, List, [], ◌++◌, refl, ap, ◌∙◌, sym, subst, arith, append_assoc, append-nil, length-append}
use Rattle.std.proofs.lemmas.List.{take-append-drop}
use Rattle.nuc_hash.specs.Hashing.{HasHashed}
use Rattle.nuc_hash.proofs.blocks.Blocks.take.Goals as goal

pub loop-self-init : goal.loop-self-init
loop-self-init c = record {
  short = c.requires.short;
  room = c.requires.room;
  hashed = λ before h. ([], refl, rw (append-nil before) h);
}

pub loop-self-preserved : goal.loop-self-preserved
loop-self-preserved c =
    let at = c.loop-self.invariant in
    let made = c.end_block.ensures in
    let cut = c.split_at.ensures in
    let end = c.split_at.result.0.now in
    let more = c.split_at.result.1.now in
    let parts : end ++ more ≡ c.loop-self.rest.now = rw (cut.front, cut.back) (take-append-drop _ c.loop-self.rest.now) in
    record {
      short = omega (arith, made.fill);
      room = omega (arith, made.fill, made.room, at.room, at.short, cut.back_len, c.loop-self-test.true);
      hashed = λ before h.
          let (front, joined, hashed) = at.hashed before h in (
            front ++ end,
            append_assoc front end more ∙ ap (λ (bytes : List ℕ). front ++ bytes) parts ∙ joined,
            subst (λ (bytes : List ℕ). HasHashed c.end_block.new.self bytes) (append_assoc before front end) (made.digest (before ++ front) hashed),
          );
    }

pub returns : goal.returns
returns c before h =
    let at = c.loop-self.invariant in
    let last = c.loop-self.rest.now in
    let (front, joined, hashed) = at.hashed before h in
    let whole = hashed.whole in
    let rest = hashed.rest in
    record {
      whole = whole;
      rest = rest ++ last;
      all = ap (λ (bytes : List ℕ). before ++ bytes) (sym joined) ∙ sym (append_assoc before front last)
          ∙ ap (λ (bytes : List ℕ). bytes ++ last) hashed.all ∙ append_assoc whole rest last;
      digests = hashed.digests;
      running = c.update.ensures rest hashed.running;
      fill = rw (length-append rest last) (omega (arith, hashed.fill));
      short = omega (arith, at.short, c.loop-self-test.false);
      room = λ some. omega (arith, at.room, some);
    }
