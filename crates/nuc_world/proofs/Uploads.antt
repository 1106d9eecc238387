-- Whether an operation is an upload decides how it is committed.
use Rattle.std.proofs.Common.{◌≡◌, ℕ, Bool, true, false, List, ap, subst, sym}
use Rattle.std.specs.Prelude.{IfOk, Option, Some}
use Rattle.nuc_class.specs.declared.op.Effect.TheVariants as effect
use Rattle.nuc_class.specs.declared.op.Op.{Op}
use Rattle.std.specs.declared.result.Result.{Result}
use Rattle.nuc_log.specs.declared.log.LogEntry.{LogEntry}
use Rattle.nuc_log.specs.declared.reply.TakeReply.{TakeReply}
use Rattle.nuc_server.specs.declared.commit.Commit.{Commit}
use Rattle.nuc_world.specs.Starts.{is_upload}
use Rattle.nuc_world.specs.State.{Turn}
use Rattle.nuc_hash.specs.Content.{blocks_of, content_of}
use Rattle.nuc_server.specs.WebEdits.{WebState, all_stored}
use Rattle.nuc_world.specs.Takes.{Commits, CommitsBytes, CommitsRead, IsJudged, TakesBy, TakesOf, commit_of, is_commit, is_recorded, read_in, stored}

module _ {E : Type 0} (log : List LogEntry) (c n : ℕ) (k : Commit) (b : Bool) (r : Result TakeReply E) (t u : Turn) where
  pub as_upload : b ≡ true → IfOk r (λ answer. CommitsRead c n k (read_in c n log) t answer u) → IfOk r (λ answer. Commits log c n k b t answer u)
  as_upload is read = subst (λ b. IfOk r (λ answer. Commits log c n k b t answer u)) (sym is) read

  pub as_other : b ≡ false → IfOk r (λ answer. IsJudged c n k t answer u) → IfOk r (λ answer. Commits log c n k b t answer u)
  as_other is judged = subst (λ b. IfOk r (λ answer. Commits log c n k b t answer u)) (sym is) judged

module _ {E : Type 0} (log : List LogEntry) (c n : ℕ) (k : Commit) (r : Result TakeReply E) (t u : Turn) (bytes : List ℕ) (mid : WebState) where
  -- the blocks of what was read are stored, and the commit is judged
  pub as_read : read_in c n log ≡ Some bytes → is_recorded t.shared.edits.edits (content_of bytes).hash k.value ≡ true
      → mid ≡ record t.shared { blocks = all_stored (blocks_of bytes) t.shared.blocks }
      → IfOk r (λ answer. IsJudged c n k (record t { shared = mid }) answer u) → IfOk r (λ answer. CommitsRead c n k (read_in c n log) t answer u)
  as_read reads recorded is judged =
      let whole : IfOk r (λ answer. IsJudged c n k (stored bytes t) answer u) = subst (λ s. IfOk r (λ answer. IsJudged c n k (record t { shared = s }) answer u)) is judged in
      let by_bytes = subst (λ b. IfOk r (λ answer. CommitsBytes c n k bytes b t answer u)) (sym recorded) whole in
      subst (λ o. IfOk r (λ answer. CommitsRead c n k o t answer u)) (sym reads) by_bytes

module _ {E : Type 0} (log : List LogEntry) (c n : ℕ) (op : Op) (o : Option Op) (k : Commit) (b : Bool) (r : Result TakeReply E) (t u v : Turn) where
  -- an operation whose effect is a commit is taken as one
  pub taken_as_commit : Some op ≡ o → op.effect ≡ effect.Commit → k ≡ commit_of op → b ≡ is_upload op → u ≡ v
      → IfOk r (λ answer. Commits log c n k b t answer u) → IfOk r (λ answer. TakesOf log c n o t answer v)
  taken_as_commit is commits asked uploads same made =
      let by_bool = subst (λ b. IfOk r (λ answer. Commits log c n k b t answer u)) uploads made in
      let by_commit = subst (λ k. IfOk r (λ answer. Commits log c n k (is_upload op) t answer u)) asked by_bool in
      let by_effect = subst (λ b. IfOk r (λ answer. TakesBy log c n op b t answer u)) (sym (ap is_commit commits)) by_commit in
      let by_op = subst (λ o. IfOk r (λ answer. TakesOf log c n o t answer u)) is by_effect in
      subst (λ x. IfOk r (λ answer. TakesOf log c n o t answer x)) same by_op
