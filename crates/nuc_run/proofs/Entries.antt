-- Where an entry stands in a log that got one more, and where the last mark of a client stands.
use Rattle.std.proofs.Common.{◌≡◌, ◌⊎◌, ◌++◌, ◌==◌, ℕ, Bool, true, false, cond, List, [], ◌∷◌, Option, None, Some, inl, inr, refl, ◌∙◌, ap}
use Rattle.std.proofs.lemmas.Bool.{eqb-true}
use Rattle.nuc_log.specs.declared.event.Event.TheVariants as event
use Rattle.nuc_log.specs.declared.log.LogEntry.{LogEntry}
use Rattle.nuc_log.specs.declared.log.LogEntry.TheVariants as entry
use Rattle.nuc_log.specs.declared.reply.MarkReply.{MarkReply}
use Rattle.nuc_log.specs.declared.reply.Reply.TheVariants as reply
use Rattle.nuc_world.specs.Takes.{or_else}
use Rattle.nuc_run.specs.Stalled.{last_mark, mark_by}

pub no_element : {A : Type 0} (a : List A) (i : A) (b : List A) → [] ≡ a ++ i ∷ b → ⊥
no_element [] i b is = let clash : [] ≡ i ∷ b = is in cc
no_element (x ∷ a) i b is = let clash : [] ≡ x ∷ (a ++ i ∷ b) = is in cc

-- it is the new one, or stood there before
pub new_or_before : {A : Type 0} (xs : List A) (x : A) (a : List A) (i : A) (b : List A) → xs ++ x ∷ [] ≡ a ++ i ∷ b
    → ((xs ≡ a) × (x ≡ i)) ⊎ ((c : List A) × (xs ≡ a ++ i ∷ c))
new_or_before [] x [] i b is = let same : x ∷ [] ≡ i ∷ b = is in inl (refl, (cc))
new_or_before [] x (y ∷ a) i b is =
    let same : x ∷ [] ≡ y ∷ (a ++ i ∷ b) = is in
    let rest : [] ≡ a ++ i ∷ b = cc in
    absurd (no_element a i b rest)
new_or_before (y ∷ xs) x [] i b is =
    let same : y ∷ (xs ++ x ∷ []) ≡ i ∷ b = is in
    let first : y ≡ i = cc in
    inr (xs, ap (λ z. z ∷ xs) first)
new_or_before (y ∷ xs) x (z ∷ a) i b is =
    let same : y ∷ (xs ++ x ∷ []) ≡ z ∷ (a ++ i ∷ b) = is in
    let first : y ≡ z = cc in
    let rest : xs ++ x ∷ [] ≡ a ++ i ∷ b = cc in
    elim (new_or_before xs x a i b rest) [
      | inl (front, last) ↦ inl (ap (λ l. y ∷ l) front ∙ ap (λ w. w ∷ a) first, last)
      | inr (c, front) ↦ inr (c, ap (λ l. y ∷ l) front ∙ ap (λ w. w ∷ (a ++ i ∷ c)) first)
    ]

-- THE LAST MARK of a client is an entry
pub record HasMark (c : ℕ) (m : MarkReply) (log : List LogEntry) : Type 0 where
  pub before : List LogEntry
  pub rest : List LogEntry
  pub is : log ≡ before ++ entry.Stepped (event.Mark c) (reply.Marked m) ∷ rest

marked_by : (c client : ℕ) (answer m : MarkReply) (b : Bool) → client == c ≡ b → cond b (Some answer) None ≡ Some m → (client ≡ c) × (answer ≡ m)
marked_by c client answer m true is marks = (eqb-true client c is, (cc))
marked_by c client answer m false is marks = cc

mark_here : (c : ℕ) (m : MarkReply) (e : LogEntry) → mark_by c e ≡ Some m → e ≡ entry.Stepped (event.Mark c) (reply.Marked m)
mark_here c m (entry.Stepped (event.Mark client) (reply.Marked answer)) marks =
    let (same, said) = marked_by c client answer m (client == c) refl marks in
    ap (λ (d : ℕ). entry.Stepped (event.Mark d) (reply.Marked answer)) same ∙ ap (λ (a : MarkReply). entry.Stepped (event.Mark c) (reply.Marked a)) said
mark_here c m e marks = cc

mark_in : (c : ℕ) (m : MarkReply) (e : LogEntry) (es : List LogEntry) → (last : Option MarkReply) → last_mark c es ≡ last
    → ((n : MarkReply) → last_mark c es ≡ Some n → HasMark c n es) → or_else last (mark_by c e) ≡ Some m → HasMark c m (e ∷ es)
mark_in c m e es (Some n) is behind marks =
    let same : n ≡ m = cc in
    let later = behind m (is ∙ ap (λ (a : MarkReply). Some a) same) in
    record { before = e ∷ later.before; rest = later.rest; is = ap (λ (l : List LogEntry). e ∷ l) later.is }
mark_in c m e es None is behind marks = record { before = []; rest = es; is = ap (λ (x : LogEntry). x ∷ es) (mark_here c m e marks) }

pub last_is_entry : (c : ℕ) (log : List LogEntry) (m : MarkReply) → last_mark c log ≡ Some m → HasMark c m log
last_is_entry c [] m marks = cc
last_is_entry c (e ∷ es) m marks = mark_in c m e es (last_mark c es) refl (last_is_entry c es) marks
