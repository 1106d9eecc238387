-- The bytes that an operation writes in a folder are the blocks of what was recorded, and so not too many.
use Rattle.std.specs.Prelude.{All, unwrap_or}
use Rattle.std.proofs.Common.{◌≡◌, ◌≤◌, ℕ, Bool, true, false, cond, List, [], length, Option, Some, None, refl, arith}
use Rattle.nuc_base.specs.declared.node.Node.{Node}
use Rattle.nuc_blocks.specs.Blocks.{Blocks, first_missing}
use Rattle.nuc_class.specs.declared.op.Op.{Op}
use Rattle.nuc_edits.specs.Edits.{content_at}
use Rattle.nuc_edits.specs.declared.edit.Edit.{Edit}
use Rattle.nuc_hash.specs.Content.{ContentData}
use Rattle.nuc_hash.specs.declared.digest.Digest.{Digest}
use Rattle.nuc_server.specs.WebEdits.{WebState}
use Rattle.nuc_world.specs.Takes.{bytes_for, committed, content_in, is_written, kept_bytes, or_empty, wanted_content}
use Rattle.nuc_fit.proofs.SizesRecorded.{PutsFew, content_few}
use Rattle.nuc_fit.proofs.SizesShort.{AreFew, HasFewBlocks, IsShortBlock, assembled_few, few_blocks}
use Rattle.nuc_fit.proofs.SizesWeb.{SharesShort}

or_empty_few : (o : Option ContentData) → ((c : ContentData) → o ≡ Some c → HasFewBlocks c) → HasFewBlocks (or_empty o)
or_empty_few None each = few_blocks [] (omega arith)
or_empty_few (Some c) each = each c refl

node_few : (edits : List Edit) → All PutsFew edits → (o : Option Node) → HasFewBlocks (or_empty (content_in edits o))
node_few edits all None = few_blocks [] (omega arith)
node_few edits all (Some n) = or_empty_few (content_at edits n.ver.0) (λ c at. content_few edits n.ver.0 c all at)

kept_few : (blocks : Blocks) → All IsShortBlock blocks → (digests : List Digest) → length digests ≤ 16 → (missing : Option Digest)
    → AreFew (unwrap_or (kept_bytes blocks digests missing) [])
kept_few blocks all digests few None = assembled_few blocks all digests few
kept_few blocks all digests few (Some digest) = omega arith

if_written : (b : Bool) (o : Option (List ℕ)) → AreFew (unwrap_or o []) → AreFew (unwrap_or (cond b o None) [])
if_written true o few = few
if_written false o few = omega arith

pub bytes_few : (s : WebState) (op : Op) → SharesShort s → AreFew (unwrap_or (bytes_for s op) [])
bytes_few s op is =
    let digests = (wanted_content s.edits.edits op).blocks in
    if_written (is_written s.edits.edits op) (kept_bytes s.blocks digests (first_missing s.blocks digests))
    (kept_few s.blocks is.blocks digests (node_few s.edits.edits is.edits (committed op.local)) (first_missing s.blocks digests))
