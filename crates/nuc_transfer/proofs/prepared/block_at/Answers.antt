use Rattle.std.proofs.Common.{◌<◌, length, Some, ap, sym, ◌∙◌, arith}
use Rattle.std.specs.Int.{div_ceil}
use Rattle.std.proofs.lemmas.Option.{slice_get_past}
use Rattle.nuc_hash.specs.Content.{blocks_of}
use Rattle.nuc_hash.specs.declared.content.TheConstants.{BLOCK}
use Rattle.nuc_transfer.proofs.Starts.{block_from, count_of, starts_within}
use Rattle.nuc_transfer.proofs.prepared.block_at.Goals as goal

pub returns-then-index-div_ceil : goal.returns-then-index-div_ceil
returns-then-index-div_ceil c =
    let count = count_of c.args.bytes.now in
    sym (slice_get_past (blocks_of c.args.bytes.now) c.args.index (omega (arith, count, c.div_ceil.ensures, c.if-index-div_ceil.true)))

pub overflow_mul-index : goal.overflow_mul-index
overflow_mul-index c =
    let start = starts_within (length c.args.bytes.now) c.args.index (omega (arith, c.div_ceil.ensures, c.if-index-div_ceil.false)) in
    omega (arith, start, c.shared_slice_known-1.given)

pub split_at-requires : goal.split_at-requires
split_at-requires c =
    let start = starts_within (length c.args.bytes.now) c.args.index (omega (arith, c.div_ceil.ensures, c.if-index-div_ceil.false)) in
    omega (arith, start)

pub returns : goal.returns
returns c =
    let within : c.args.index < div_ceil (length c.args.bytes.now) BLOCK = omega (arith, c.div_ceil.ensures, c.if-index-div_ceil.false) in
    let rest = c.split_at.result.1.now in
    ap Some c.split_at-2.ensures.front ∙ block_from c.args.bytes.now rest c.args.index c.min.result within c.split_at.ensures.back c.min.ensures
