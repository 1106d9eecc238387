-- What a user does has one answer, and leads to one folder.
use Rattle.std.proofs.Common.{◌≡◌, ◌≢◌, ◌⊎◌, ℕ, List, [], ◌∷◌, ◌++◌, reverse, false, None, Some, refl, sym, ◌∙◌, ap, subst, inl, inr}
use Rattle.std.specs.FinMap.{get}
use Rattle.nuc_base.specs.SamePlace.{SamePlace}
use Rattle.nuc_base.specs.Trees.{Nodes, IsUnder}
use Rattle.nuc_base.specs.declared.node.Kind.{Kind}
use Rattle.nuc_base.specs.declared.node.Kind.TheVariants.{Folder, File}
use Rattle.nuc_base.specs.declared.node.Node.{Node}
use Rattle.nuc_base.specs.declared.node.Place.{Place}
use Rattle.nuc_base.proofs.Maps.{one_node}
use Rattle.nuc_folder.specs.Listing.{AreBelow, item_of, keys_of}
use Rattle.nuc_folder.specs.Memory.{MemState}
use Rattle.nuc_folder.specs.Removals.{Removes, all_cut, removed}
use Rattle.nuc_folder.specs.User.{ChangesOnce, IsDone, UserAnswers}
use Rattle.nuc_folder.specs.UserEdits.{BitRefused, Does, Finds, FindsFolder, FindsNobody, FindsPlace, FindsSomebody, MakeRefused, MoveRefused, Refused, RemoveRefused, WriteRefused, key_place, next_after}
use Rattle.nuc_folder.specs.declared.item.Item.{Item}
use Rattle.nuc_folder.specs.declared.noticed.Noticed.{Noticed}
use Rattle.nuc_folder.specs.declared.noticed.Noticed.TheVariants as noticed
use Rattle.nuc_folder.specs.declared.user_edit.UserEdit.{UserEdit}
use Rattle.nuc_folder.specs.declared.user_edit.UserEdit.TheVariants as edit
use Rattle.nuc_folder.specs.declared.user_edit.UserReply.{UserReply}
use Rattle.nuc_folder.specs.declared.user_edit.UserReply.TheVariants as reply
use Rattle.nuc_folder.proofs.OneListing.{one_below}
use Rattle.nuc_hash.specs.Content.{content_of}
use Rattle.nuc_hash.specs.Filling.{filling_bytes}
use Rattle.nuc_paths.specs.Paths.{LeadsNowhere, LeadsOn, LeadsTo, place_in}
use Rattle.nuc_shelf.specs.Shelf.{ShelfState, file_at, folder_at, marked, moved, refilled, with_file, with_folder}
use Rattle.nuc_world.proofs.FolderPlaces.{PlacesDiffer, holder_one}

-- WHERE A PATH LEADS, in a tree in which no two have one place
module _ (m : Nodes) (differ : PlacesDiffer m) where
  on_one : (x : ℕ) (name : List ℕ) (names : List (List ℕ)) (p q : Place) → LeadsOn m x name names p → LeadsOn m x name names q → p ≡ q
  on_one x name [] p q a b = a.1 ∙ sym b.1
  on_one x name (next ∷ names) p q (y, at, rest) (z, there, more) =
      on_one y next names p q rest (subst (λ z. LeadsOn m z next names q) (sym (holder_one m y z (place_in x name) differ at there)) more)

  leads_one : (names : List (List ℕ)) (p q : Place) → LeadsTo m 0 names p → LeadsTo m 0 names q → p ≡ q
  leads_one [] p q a b = absurd a
  leads_one (name ∷ names) p q a b = on_one 0 name names p q a b

  finds_key : (names : List (List ℕ)) (x y : ℕ) (n k : Node) → Finds m names x n → Finds m names y k → x ≡ y
  finds_key names x y n k (p, leads, at, near) (q, to, there, by) =
      holder_one m x y q differ (n, at, subst (λ (r : Place). SamePlace n.place r) (leads_one names p q leads to) near) (k, there, by)

  finds_node : (names : List (List ℕ)) (x y : ℕ) (n k : Node) → Finds m names x n → Finds m names y k → n ≡ k
  finds_node names x y n k f g = one_node m y n k (subst (λ z. get m z ≡ Some n) (finds_key names x y n k f g) f.2) g.2

  place_one : (names : List (List ℕ)) (p q : Place) → FindsPlace m names p → FindsPlace m names q → p ≡ q
  place_one names p q a b = leads_one names p q a.0 b.0

  not_found : (names : List (List ℕ)) (p : Place) → FindsPlace m names p → ¬ (FindsSomebody m names)
  not_found names p (leads, vacant) (x, n, (q, to, at, near)) = vacant x n at (subst (λ (r : Place). SamePlace n.place r) (leads_one names q p to leads) near)

  nobody : (names : List (List ℕ)) → FindsNobody m names → ¬ (FindsSomebody m names)
  nobody names (inl nowhere) (x, n, (q, to, at, near)) = nowhere q to
  nobody names (inr (p, finds)) some = not_found names p finds some

  nowhere_place : (names : List (List ℕ)) (p : Place) → LeadsNowhere m 0 names → ¬ (FindsPlace m names p)
  nowhere_place names p nowhere finds = nowhere p finds.0

  nowhere_found : (names : List (List ℕ)) → LeadsNowhere m 0 names → ¬ (FindsSomebody m names)
  nowhere_found names nowhere some = nobody names (inl nowhere) some

  no_folder : (names : List (List ℕ)) (x : ℕ) (n : Node) → Finds m names x n → n.kind ≡ File → ¬ (FindsFolder m names)
  no_folder names x n finds file (y, k, found, folder) =
      let same = finds_node names x y n k finds found in
      let clash : File ≡ Folder = sym file ∙ ap (λ (v : Node). v.kind) same ∙ folder in cc

  not_below : (from to : List (List ℕ)) (x y : ℕ) (n k : Node) (p q : Place) → Finds m from x n → Finds m from y k → FindsPlace m to p → FindsPlace m to q
      → ¬ (IsUnder m p.parent.0 x) → ¬ (IsUnder m q.parent.0 y)
  not_below from to x y n k p q f g a b apart under =
      apart (subst (λ (r : Place). IsUnder m r.parent.0 x) (sym (place_one to p q a b)) (subst (λ z. IsUnder m q.parent.0 z) (sym (finds_key from x y n k f g)) under))

  -- ONE REFUSAL
  make_one : (names : List (List ℕ)) (r q : UserReply) → r ≢ reply.Memory → q ≢ reply.Memory → MakeRefused m names r → MakeRefused m names q → r ≡ q
  make_one names reply.NoParent reply.NoParent c d a b = refl
  make_one names reply.NoParent reply.Taken c d a b = absurd (nowhere_found names a b)
  make_one names reply.Taken reply.NoParent c d a b = absurd (nowhere_found names b a)
  make_one names reply.Taken reply.Taken c d a b = refl
  make_one names reply.Memory _ c d a b = absurd (c refl)
  make_one names _ reply.Memory c d a b = absurd (d refl)
  make_one names reply.NoParent _ c d a b = absurd b
  make_one names reply.Taken _ c d a b = absurd b
  make_one names _ q c d a b = absurd a

  write_one : (names : List (List ℕ)) (r q : UserReply) → r ≢ reply.Memory → q ≢ reply.Memory → WriteRefused m names r → WriteRefused m names q → r ≡ q
  write_one names reply.NoParent reply.NoParent c d a b = refl
  write_one names reply.NoParent reply.Kind c d a (x, n, finds, folder) = absurd (nowhere_found names a (x, n, finds))
  write_one names reply.Kind reply.NoParent c d (x, n, finds, folder) b = absurd (nowhere_found names b (x, n, finds))
  write_one names reply.Kind reply.Kind c d a b = refl
  write_one names reply.Memory _ c d a b = absurd (c refl)
  write_one names _ reply.Memory c d a b = absurd (d refl)
  write_one names reply.NoParent _ c d a b = absurd b
  write_one names reply.Kind _ c d a b = absurd b
  write_one names _ q c d a b = absurd a

  move_one : (from to : List (List ℕ)) (r q : UserReply) → r ≢ reply.Memory → q ≢ reply.Memory → MoveRefused m from to r → MoveRefused m from to q → r ≡ q
  move_one from to reply.NoSuch reply.NoSuch c d a b = refl
  move_one from to reply.NoSuch reply.NoParent c d a b = absurd (nobody from a b.0)
  move_one from to reply.NoSuch reply.Taken c d a b = absurd (nobody from a b.0)
  move_one from to reply.NoSuch reply.Cycle c d a (x, n, p, finds, free, under) = absurd (nobody from a (x, n, finds))
  move_one from to reply.NoParent reply.NoSuch c d a b = absurd (nobody from b a.0)
  move_one from to reply.NoParent reply.NoParent c d a b = refl
  move_one from to reply.NoParent reply.Taken c d a b = absurd (nowhere_found to a.1 b.1)
  move_one from to reply.NoParent reply.Cycle c d a (x, n, p, finds, free, under) = absurd (nowhere_place to p a.1 free)
  move_one from to reply.Taken reply.NoSuch c d a b = absurd (nobody from b a.0)
  move_one from to reply.Taken reply.NoParent c d a b = absurd (nowhere_found to b.1 a.1)
  move_one from to reply.Taken reply.Taken c d a b = refl
  move_one from to reply.Taken reply.Cycle c d a (x, n, p, finds, free, under) = absurd (not_found to p free a.1)
  move_one from to reply.Cycle reply.NoSuch c d (x, n, p, finds, free, under) b = absurd (nobody from b (x, n, finds))
  move_one from to reply.Cycle reply.NoParent c d (x, n, p, finds, free, under) b = absurd (nowhere_place to p b.1 free)
  move_one from to reply.Cycle reply.Taken c d (x, n, p, finds, free, under) b = absurd (not_found to p free b.1)
  move_one from to reply.Cycle reply.Cycle c d a b = refl
  move_one from to reply.Memory _ c d a b = absurd (c refl)
  move_one from to _ reply.Memory c d a b = absurd (d refl)
  move_one from to reply.NoSuch _ c d a b = absurd b
  move_one from to reply.NoParent _ c d a b = absurd b
  move_one from to reply.Taken _ c d a b = absurd b
  move_one from to reply.Cycle _ c d a b = absurd b
  move_one from to _ q c d a b = absurd a

  bit_one : (names : List (List ℕ)) (r q : UserReply) → r ≢ reply.Memory → q ≢ reply.Memory → BitRefused m names r → BitRefused m names q → r ≡ q
  bit_one names reply.NoSuch reply.NoSuch c d a b = refl
  bit_one names reply.NoSuch reply.Kind c d a (x, n, finds, folder) = absurd (nobody names a (x, n, finds))
  bit_one names reply.Kind reply.NoSuch c d (x, n, finds, folder) b = absurd (nobody names b (x, n, finds))
  bit_one names reply.Kind reply.Kind c d a b = refl
  bit_one names reply.Memory _ c d a b = absurd (c refl)
  bit_one names _ reply.Memory c d a b = absurd (d refl)
  bit_one names reply.NoSuch _ c d a b = absurd b
  bit_one names reply.Kind _ c d a b = absurd b
  bit_one names _ q c d a b = absurd a

  remove_one : (names : List (List ℕ)) (r q : UserReply) → r ≢ reply.Memory → q ≢ reply.Memory → RemoveRefused m names r → RemoveRefused m names q → r ≡ q
  remove_one names reply.NoSuch reply.NoSuch c d a b = refl
  remove_one names reply.Memory _ c d a b = absurd (c refl)
  remove_one names _ reply.Memory c d a b = absurd (d refl)
  remove_one names reply.NoSuch _ c d a b = absurd b
  remove_one names _ q c d a b = absurd a

  refused_one : (e : UserEdit) (r q : UserReply) → r ≢ reply.Memory → q ≢ reply.Memory → Refused e m r → Refused e m q → r ≡ q
  refused_one (edit.Mkdir path) r q c d a b = make_one path.names r q c d a b
  refused_one (edit.Write path filling) r q c d a b = write_one path.names r q c d a b
  refused_one (edit.Move from to) r q c d a b = move_one from.names to.names r q c d a b
  refused_one (edit.Bit path bit) r q c d a b = bit_one path.names r q c d a b
  refused_one (edit.Remove path) r q c d a b = remove_one path.names r q c d a b

  -- WHERE SOMETHING IS DONE nothing is refused
  make_free : (names : List (List ℕ)) (p : Place) (r : UserReply) → r ≢ reply.Memory → FindsPlace m names p → ¬ (MakeRefused m names r)
  make_free names p reply.NoParent c finds why = nowhere_place names p why finds
  make_free names p reply.Taken c finds why = not_found names p finds why
  make_free names p reply.Memory c finds why = c refl
  make_free names p _ c finds why = why

  write_new_free : (names : List (List ℕ)) (p : Place) (r : UserReply) → r ≢ reply.Memory → FindsPlace m names p → ¬ (WriteRefused m names r)
  write_new_free names p reply.NoParent c finds why = nowhere_place names p why finds
  write_new_free names p reply.Kind c finds (x, n, found, folder) = not_found names p finds (x, n, found)
  write_new_free names p reply.Memory c finds why = c refl
  write_new_free names p _ c finds why = why

  write_over_free : (names : List (List ℕ)) (x : ℕ) (n : Node) (r : UserReply) → r ≢ reply.Memory → Finds m names x n → n.kind ≡ File → ¬ (WriteRefused m names r)
  write_over_free names x n reply.NoParent c finds file why = nowhere_found names why (x, n, finds)
  write_over_free names x n reply.Kind c finds file why = no_folder names x n finds file why
  write_over_free names x n reply.Memory c finds file why = c refl
  write_over_free names x n _ c finds file why = why

  move_free : (from to : List (List ℕ)) (x : ℕ) (n : Node) (p : Place) (r : UserReply) → r ≢ reply.Memory → Finds m from x n → FindsPlace m to p → ¬ (IsUnder m p.parent.0 x)
      → ¬ (MoveRefused m from to r)
  move_free from to x n p reply.NoSuch c finds free apart why = nobody from why (x, n, finds)
  move_free from to x n p reply.NoParent c finds free apart why = nowhere_place to p why.1 free
  move_free from to x n p reply.Taken c finds free apart why = not_found to p free why.1
  move_free from to x n p reply.Cycle c finds free apart (y, k, q, found, room, under) = not_below from to x y n k p q finds found free room apart under
  move_free from to x n p reply.Memory c finds free apart why = c refl
  move_free from to x n p _ c finds free apart why = why

  bit_free : (names : List (List ℕ)) (x : ℕ) (n : Node) (r : UserReply) → r ≢ reply.Memory → Finds m names x n → n.kind ≡ File → ¬ (BitRefused m names r)
  bit_free names x n reply.NoSuch c finds file why = nobody names why (x, n, finds)
  bit_free names x n reply.Kind c finds file why = no_folder names x n finds file why
  bit_free names x n reply.Memory c finds file why = c refl
  bit_free names x n _ c finds file why = why

  remove_free : (names : List (List ℕ)) (x : ℕ) (n : Node) (r : UserReply) → r ≢ reply.Memory → Finds m names x n → ¬ (RemoveRefused m names r)
  remove_free names x n reply.NoSuch c finds why = nobody names why (x, n, finds)
  remove_free names x n reply.Memory c finds why = c refl
  remove_free names x n _ c finds why = why

-- ONE CHANGE, of what is held in such a tree
module _ (s : ShelfState) (differ : PlacesDiffer s.tree) where
  does_one : (e : UserEdit) (key : ℕ) (a b : Noticed) (t u : ShelfState) → Does e key s a t → Does e key s b u → (a ≡ b) × (t ≡ u)
  does_one (edit.Mkdir path) key a b t u (p, finds, is, told) (q, found, was, tells) =
      let same = place_one s.tree differ path.names p q finds found in
      (told ∙ ap (λ (r : Place). noticed.Made (item_of key (folder_at r) None)) same ∙ sym tells, is ∙ ap (λ (r : Place). with_folder s key r) same ∙ sym was)
  does_one (edit.Write path filling) key a b t u (inl (p, finds, (is, told))) (inl (q, found, (was, tells))) =
      let same = place_one s.tree differ path.names p q finds found in
      (told ∙ ap (λ (r : Place). noticed.Made (item_of key (file_at r false) (Some (filling_bytes filling)))) same ∙ sym tells, is ∙ ap (λ (r : Place). with_file s key r false (filling_bytes filling)) same ∙ sym was)
  does_one (edit.Write path filling) key a b t u (inl (p, finds, new)) (inr (y, k, found, file, over)) = absurd (not_found s.tree differ path.names p finds (y, k, found))
  does_one (edit.Write path filling) key a b t u (inr (x, n, finds, file, over)) (inl (q, found, new)) = absurd (not_found s.tree differ path.names q found (x, n, finds))
  does_one (edit.Write path filling) key a b t u (inr (x, n, finds, file, (is, told))) (inr (y, k, found, its, (was, tells))) =
      let same = finds_key s.tree differ path.names x y n k finds found in
      (told ∙ ap (λ (z : ℕ). noticed.Written (record { 0 = z }) (content_of (filling_bytes filling))) same ∙ sym tells, is ∙ ap (λ (z : ℕ). refilled s z (filling_bytes filling)) same ∙ sym was)
  does_one (edit.Move from to) key a b t u (x, n, p, finds, free, apart, is, told) (y, k, q, found, room, off, was, tells) =
      let same = finds_key s.tree differ from.names x y n k finds found in
      let place = place_one s.tree differ to.names p q free room in
      (told ∙ ap (λ (z : ℕ). noticed.Moved (record { 0 = z }) (key_place p)) same ∙ ap (λ (r : Place). noticed.Moved (record { 0 = y }) (key_place r)) place ∙ sym tells, is ∙ ap (λ (z : ℕ). moved s z p) same ∙ ap (λ (r : Place). moved s y r) place ∙ sym was)
  does_one (edit.Bit path bit) key a b t u (x, n, finds, file, is, told) (y, k, found, its, was, tells) =
      let same = finds_key s.tree differ path.names x y n k finds found in
      (told ∙ ap (λ (z : ℕ). noticed.Bit (record { 0 = z }) bit) same ∙ sym tells, is ∙ ap (λ (z : ℕ). marked s z bit) same ∙ sym was)
  does_one (edit.Remove path) key a b t u none x = absurd none

  -- A REMOVAL
  removes_one : (names : List (List ℕ)) (a b : List Noticed) (t u : ShelfState) → Removes s names a t → Removes s names b u → (a ≡ b) × (t ≡ u)
  removes_one names a b t u (keys, (x, n, items, finds, below, are), is, told) (others, (y, k, its, found, under, were), was, tells) =
      let key = finds_key s.tree differ names x y n k finds found in
      let list = one_below s y items its (subst (λ z. AreBelow s z items) key below) under in
      let same : keys ≡ others = are ∙ ap (λ (z : ℕ). z ∷ keys_of items) key ∙ ap (λ (l : List Item). y ∷ keys_of l) list ∙ sym were in
      (told ∙ ap (λ (l : List ℕ). removed (reverse l)) same ∙ sym tells, is ∙ ap (λ (l : List ℕ). all_cut s (reverse l)) same ∙ sym was)

  does_free : (e : UserEdit) (key : ℕ) (a : Noticed) (t : ShelfState) (r : UserReply) → r ≢ reply.Memory → Does e key s a t → ¬ (Refused e s.tree r)
  does_free (edit.Mkdir path) key a t r c (p, finds, is, told) why = make_free s.tree differ path.names p r c finds why
  does_free (edit.Write path filling) key a t r c (inl (p, finds, new)) why = write_new_free s.tree differ path.names p r c finds why
  does_free (edit.Write path filling) key a t r c (inr (x, n, finds, file, over)) why = write_over_free s.tree differ path.names x n r c finds file why
  does_free (edit.Move from to) key a t r c (x, n, p, finds, free, apart, is, told) why = move_free s.tree differ from.names to.names x n p r c finds free apart why
  does_free (edit.Bit path bit) key a t r c (x, n, finds, file, is, told) why = bit_free s.tree differ path.names x n r c finds file why
  does_free (edit.Remove path) key a t r c none why = none

-- ONE ANSWER
state_one : (t u : MemState) → t.held ≡ u.held → t.next ≡ u.next → t.pending ≡ u.pending → t ≡ u
state_one t u held next pending = λ i. record { held = held i; next = next i; pending = pending i }

module _ (s t u : MemState) (differ : PlacesDiffer s.held.tree) where
  once_one : (e : UserEdit) → ChangesOnce e s t → ChangesOnce e s u → t ≡ u
  once_one e (a, does, next, pending) (b, did, after, waits) =
      let one = does_one s.held differ e s.next a b t.held u.held does did in
      state_one t u one.1 (next ∙ ap (λ (n : Noticed). next_after n s.next) one.0 ∙ sym after) (pending ∙ ap (λ (n : Noticed). s.pending ++ n ∷ []) one.0 ∙ sym waits)

  done_one : (e : UserEdit) → IsDone e s t → IsDone e s u → t ≡ u
  done_one (edit.Remove path) (a, removes, next, pending) (b, removed, after, waits) =
      let one = removes_one s.held differ path.names a b t.held u.held removes removed in
      state_one t u one.1 (next ∙ sym after) (pending ∙ ap (λ (n : List Noticed). s.pending ++ n) one.0 ∙ sym waits)
  done_one (edit.Mkdir path) x y = once_one (edit.Mkdir path) x y
  done_one (edit.Write path filling) x y = once_one (edit.Write path filling) x y
  done_one (edit.Move from to) x y = once_one (edit.Move from to) x y
  done_one (edit.Bit path bit) x y = once_one (edit.Bit path bit) x y

  once_free : (e : UserEdit) (r : UserReply) → r ≢ reply.Memory → ChangesOnce e s t → ¬ (Refused e s.held.tree r)
  once_free e r c (a, does, next, pending) why = does_free s.held differ e s.next a t.held r c does why

  done_free : (e : UserEdit) (r : UserReply) → r ≢ reply.Memory → IsDone e s t → ¬ (Refused e s.held.tree r)
  done_free (edit.Remove path) r c (a, (keys, (x, n, items, finds, below, are), is, told), next, pending) why = remove_free s.held.tree differ path.names x n r c finds why
  done_free (edit.Mkdir path) r c once why = once_free (edit.Mkdir path) r c once why
  done_free (edit.Write path filling) r c once why = once_free (edit.Write path filling) r c once why
  done_free (edit.Move from to) r c once why = once_free (edit.Move from to) r c once why
  done_free (edit.Bit path bit) r c once why = once_free (edit.Bit path bit) r c once why

-- it was done, or refused
abbrev Ended : UserEdit → MemState → UserReply → MemState → Type 0
Ended e s r t = ((r ≡ reply.Ok) × IsDone e s t) ⊎ (Refused e s.held.tree r × (t ≡ s))

ended : (e : UserEdit) (s : MemState) (r : UserReply) (t : MemState) → UserAnswers e s r t → Ended e s r t
ended e s reply.Ok t done = inl (refl, done)
ended e s reply.NoSuch t why = inr why
ended e s reply.NoParent t why = inr why
ended e s reply.Kind t why = inr why
ended e s reply.Taken t why = inr why
ended e s reply.Cycle t why = inr why
ended e s reply.Memory t why = inr why

pub user_one : (e : UserEdit) (s t u : MemState) (r q : UserReply) → PlacesDiffer s.held.tree → r ≢ reply.Memory → q ≢ reply.Memory → UserAnswers e s r t → UserAnswers e s q u
    → (r ≡ q) × (t ≡ u)
user_one e s t u r q differ c d x y = elim (ended e s r t x) [
  | inl (ok, done) ↦ elim (ended e s q u y) [
    | inl (well, made) ↦ (ok ∙ sym well, done_one s t u differ e done made)
    | inr (why, same) ↦ absurd (done_free s t u differ e q d done why)
  ]
  | inr (why, same) ↦ elim (ended e s q u y) [
    | inl (well, made) ↦ absurd (done_free s u t differ e r c made why)
    | inr (other, stays) ↦ (refused_one s.held.tree differ e r q c d why other, same ∙ sym stays)
  ]
]
