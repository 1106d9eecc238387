-- The last mark of a client, from the end of the log on.
use Rattle.std.proofs.Common.{◌≡◌, ◌<◌, ◌≤◌, ◌-◌, ℕ, zero, suc, List, [], ◌∷◌, drop, length, slice_get, slice_index_or, Option, None, Some, refl, sym, ap, ◌∙◌, subst, arith}
use Rattle.std.proofs.lemmas.Option.{slice_get_read}
use Rattle.nuc_log.specs.declared.log.LogEntry.{LogEntry}
use Rattle.nuc_log.specs.declared.reply.MarkReply.{MarkReply}
use Rattle.nuc_world.specs.Takes.{or_else}
use Rattle.nuc_run.specs.Stalled.{last_mark, mark_by}

-- what is the last mark of the rest is that of all
pub last_behind : (c : ℕ) (es : List LogEntry) (i : ℕ) (m : MarkReply) → last_mark c (drop i es) ≡ Some m → last_mark c es ≡ Some m
last_behind c es zero m last = last
last_behind c [] (suc i) m last = last
last_behind c (e ∷ es) (suc i) m last = ap (λ o. or_else o (mark_by c e)) (last_behind c es i m last)

same_entry : (x y : LogEntry) → Some x ≡ Some y → x ≡ y
same_entry x y e = cc

-- where none follows, it is that of the entry
pub last_here : (c : ℕ) (es : List LogEntry) (i : ℕ) (e : LogEntry) → slice_get es i ≡ Some e → last_mark c (drop (suc i) es) ≡ None
    → last_mark c (drop i es) ≡ mark_by c e
last_here c [] zero e at none = cc
last_here c [] (suc i) e at none = cc
last_here c (d ∷ es) zero e at none = ap (λ o. or_else o (mark_by c d)) none ∙ ap (mark_by c) (same_entry d e at)
last_here c (d ∷ es) (suc i) e at none = last_here c es i e at none

-- the entry before those that were looked at has the last mark
pub marked_at : (c : ℕ) (es log : List LogEntry) (k : ℕ) (e : LogEntry) (m : MarkReply) → es ≡ log → 0 < k → k ≤ length es → last_mark c (drop k es) ≡ None
    → e ≡ slice_index_or es (k - 1) e → Some m ≡ mark_by c e → Some m ≡ last_mark c log
marked_at c es log k e m same some within none is marks =
    let one : suc (k - 1) ≡ k = omega arith in
    let at = slice_get_read es (length es) (k - 1) e refl (omega arith) is in
    let here = last_here c es (k - 1) e at (subst (λ n. last_mark c (drop n es) ≡ None) (sym one) none) in
    sym (last_behind c es (k - 1) m (here ∙ sym marks)) ∙ ap (last_mark c) same
