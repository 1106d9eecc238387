-- An edit on the web puts a content of few blocks, and each block that it stores is short.
use Rattle.std.specs.Prelude.{All}
use Rattle.std.proofs.Common.{◌≡◌, ◌≢◌, ℕ, List, refl, sym, subst, inl, inr}
use Rattle.std.proofs.lemmas.List.Elements.{All-push}
use Rattle.nuc_base.specs.declared.node.Kind.{Kind}
use Rattle.nuc_base.specs.declared.node.Kind.TheVariants.{Folder, File}
use Rattle.nuc_base.specs.declared.node.Node.{Node}
use Rattle.nuc_base.specs.declared.node.Place.{Place}
use Rattle.nuc_edits.specs.Edits.{Recorded}
use Rattle.nuc_edits.specs.declared.edit.EditKind.{EditKind}
use Rattle.nuc_edits.specs.declared.edit.EditKind.TheVariants as put
use Rattle.nuc_hash.specs.Content.{content_of}
use Rattle.nuc_hash.specs.Filling.{filling_bytes}
use Rattle.nuc_script.specs.Fitting.{FitsWeb}
use Rattle.nuc_server.specs.Web.{AnswersAt, WebAnswers}
use Rattle.nuc_server.specs.WebEdits.{CutAnswers, EndsFile, WebState, Writes, WritesNew, WritesOver, with_edit}
use Rattle.nuc_server.specs.declared.web_edit.WebEdit.{WebEdit}
use Rattle.nuc_server.specs.declared.web_edit.WebEdit.TheVariants as edit
use Rattle.nuc_server.specs.declared.web_edit.WebReply.{WebReply}
use Rattle.nuc_server.specs.declared.web_edit.WebReply.TheVariants as reply
use Rattle.nuc_fit.proofs.SizesRecorded.{IsFewPut, PutsFew}
use Rattle.nuc_fit.proofs.SizesShort.{AreFew, IsShortBlock, bytes_stored, few_blocks}

-- what all share
pub record SharesShort (s : WebState) : Type 0 where
  pub edits : All PutsFew s.edits.edits
  pub blocks : All IsShortBlock s.blocks

module _ (s t : WebState) (is : SharesShort s) where
  same_blocks : t.blocks ≡ s.blocks → All IsShortBlock t.blocks
  same_blocks blocks = subst (All IsShortBlock) (sym blocks) is.blocks

  stays : t.edits ≡ s.edits → t.blocks ≡ s.blocks → SharesShort t
  stays edits blocks = record { edits = subst (λ (r : Recorded). All PutsFew r.edits) (sym edits) is.edits; blocks = same_blocks blocks }

  -- one edit more
  edited : (x base : ℕ) (what : EditKind) → IsFewPut what → t.edits ≡ with_edit s.edits s.ids.next_ver x base what → All PutsFew t.edits.edits
  edited x base what few edits = subst (λ (r : Recorded). All PutsFew r.edits) (sym edits) (All-push PutsFew s.edits.edits _ is.edits few)

  ended : (x : ℕ) (n : Node) (k : Kind) → EndsFile k x n.ver.0 s.edits s.ids t.edits t.ids → t.blocks ≡ s.blocks → SharesShort t
  ended x n Folder ends blocks = stays ends.0 blocks
  ended x n File ends blocks = record { edits = edited x n.ver.0 put.Deleted tt ends.0; blocks = same_blocks blocks }

  removed : (x : ℕ) (n : Node) (a : WebReply) → CutAnswers s.entries s.edits s.ids x n a t.entries t.edits t.ids → t.blocks ≡ s.blocks → SharesShort t
  removed x n (reply.Accepted rev) so blocks = ended x n n.kind so.2 blocks
  removed x n reply.NotEmpty so blocks = stays so.2 blocks
  removed x n reply.Memory so blocks = stays so.1 blocks
  removed x n _ so blocks = absurd so

  -- bytes were written
  wrote : (x : ℕ) (node : Node) (base : ℕ) (bytes : List ℕ) (rev : ℕ) → AreFew bytes → Writes s x node base bytes rev t → SharesShort t
  wrote x node base bytes rev few w = record {
    edits = edited x base (put.Put (content_of bytes)) (few_blocks bytes few) w.edits;
    blocks = subst (All IsShortBlock) (sym w.blocks) (bytes_stored bytes s.blocks is.blocks);
  }

  wrote_new : (place : Place) (bytes : List ℕ) → AreFew bytes → (a : WebReply) → a ≢ reply.Memory → WritesNew s place bytes a t → SharesShort t
  wrote_new place bytes few (reply.Accepted rev) known so = wrote s.ids.next_id _ 0 bytes rev few so.0
  wrote_new place bytes few reply.Memory known so = absurd (known refl)
  wrote_new place bytes few _ known so = absurd so

  wrote_over : (x : ℕ) (n : Node) (bytes : List ℕ) → AreFew bytes → (a : WebReply) → a ≢ reply.Memory → WritesOver s x n bytes a t → SharesShort t
  wrote_over x n bytes few (reply.Accepted rev) known so = wrote x _ n.ver.0 bytes rev few so.2
  wrote_over x n bytes few reply.KindChanged known so = stays so.1.edits so.1.blocks
  wrote_over x n bytes few reply.Same known so = stays so.2.edits so.2.blocks
  wrote_over x n bytes few reply.Memory known so = absurd (known refl)
  wrote_over x n bytes few _ known so = absurd so

  at_place : (e : WebEdit) → FitsWeb e → (place : Place) (a : WebReply) → a ≢ reply.Memory → AnswersAt s e place a t → SharesShort t
  at_place (edit.Mkdir path) fits place a known so = stays so.2 so.1
  at_place (edit.Write path filling) fits place a known (inl (vacant, so)) = wrote_new place (filling_bytes filling) fits.1 a known so
  at_place (edit.Write path filling) fits place a known (inr (x, n, here, same, so)) = wrote_over x n (filling_bytes filling) fits.1 a known so
  at_place (edit.Move from to) fits place a known so = stays so.2 so.1
  at_place (edit.Remove path) fits place a known (inl (vacant, none), blocks) = stays none.2 blocks
  at_place (edit.Remove path) fits place a known (inr (x, n, here, same, so), blocks) = removed x n a so blocks
  at_place (edit.Bit path on) fits place a known so = stays so.2 so.1

  pub web_short : (e : WebEdit) → FitsWeb e → (a : WebReply) → a ≢ reply.Memory → WebAnswers s e a t → SharesShort t
  web_short e fits a known (inl (nowhere, none)) = stays none.1.edits none.1.blocks
  web_short e fits a known (inr (place, leads, so)) = at_place e fits place a known so
