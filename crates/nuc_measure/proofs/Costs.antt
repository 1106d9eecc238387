-- The cost of three values, and what operations make of it.
use Rattle.std.proofs.Common.{◌≡◌, ◌<◌, ◌≤◌, ◌==◌, ◌&&◌, ◌||◌, not, ℕ, Bool, true, false, cond, Option, None, Some, refl, sym, ap, ◌∙◌, arith}
use Rattle.std.specs.Bool.{beq}
use Rattle.std.proofs.lemmas.Bool.Decides.{Decides-eqb}
use Rattle.nuc_base.specs.Codes.{is_file}
use Rattle.nuc_base.specs.declared.node.Node.{Node}
use Rattle.nuc_class.specs.Equal.{node_eq, place_eq, value_eq}
use Rattle.nuc_class.specs.Merge.{target}
use Rattle.nuc_class.specs.Split.{is_new, needs_split, same_content}
use Rattle.nuc_class.proofs.Tells.{node_eq-Decides, value_eq-Decides}
use Rattle.nuc_measure.specs.Cost.{cost}
use Rattle.nuc_measure.specs.Differing.{differs}
use Rattle.nuc_measure.proofs.Counting.{equal_tells}

-- the cost of an identity in Remote and Local, by the tests
abbrev pub by_tests : Bool → Bool → Bool → Bool → ℕ
by_tests cut agreed done half = cond cut 3 (cond agreed (cond done 0 1) (cond half 1 2))

three_at_most : (cut agreed done half : Bool) → by_tests cut agreed done half ≤ 3
three_at_most true agreed done half = omega arith
three_at_most false true true half = omega arith
three_at_most false true false half = omega arith
three_at_most false false done true = omega arith
three_at_most false false done false = omega arith

some_cost : (cut agreed done half : Bool) → (agreed ≡ true → done ≡ true → ⊥) → 1 ≤ by_tests cut agreed done half
some_cost true agreed done half never = omega arith
some_cost false true true half never = absurd (never refl refl)
some_cost false true false half never = omega arith
some_cost false false done true never = omega arith
some_cost false false done false never = omega arith

one_at_most : (done half : Bool) (agreed : Bool) → half ≡ true → by_tests false agreed done half ≤ 1
one_at_most true half true e = omega arith
one_at_most false half true e = omega arith
one_at_most done half false e = rw e (omega arith)

second_fails : (a b c d : Bool) → b ≡ false → (((a && b) && c) && d) ≡ false
second_fails true b c d e = rw e refl
second_fails false b c d e = refl

last_fails : (a b : Bool) → b ≡ false → (a && b) ≡ false
last_fails true b e = e
last_fails false b e = refl

pub number_itself : (v : ℕ) → (v == v) ≡ true
number_itself v = (Decides-eqb v v).1 refl

pub node_itself : (n : Node) → node_eq n n ≡ true
node_itself n = (node_eq-Decides n n).1 refl

either : {A : Type 0} (b : Bool) (x : A) → cond b x x ≡ x
either true x = refl
either false x = refl

pub target_itself : (n : Node) (s : Option Node) → target n (Some n) s ≡ n
target_itself n None = refl
target_itself n (Some s) = rw (either (place_eq n.place s.place) n.place, either (n.ver.0 == s.ver.0) n.ver, either (beq n.bit s.bit) n.bit) refl

module _ (same : ℕ → ℕ → Bool) where
  pub cost_few : (r l s : Option Node) → cost same r l s ≤ 3
  cost_few None None None = omega arith
  cost_few None None (Some s) = omega arith
  cost_few None (Some l) s = omega arith
  cost_few (Some r) None s = omega arith
  cost_few (Some r) (Some l) s =
      three_at_most (needs_split same (Some r) (Some l) s) (value_eq (Some r) s) (node_eq l r) (node_eq (target r (Some l) s) r)

  no_clash : (b : Bool) → b ≡ true → b ≡ false → ⊥
  no_clash b e f = let clash : true ≡ false = sym e ∙ f in cc

  pub cost_some : (r l s : Option Node) → differs r l s ≡ true → 1 ≤ cost same r l s
  cost_some None None None e = absurd (let clash : false ≡ true = e in cc)
  cost_some None None (Some s) e = omega arith
  cost_some None (Some l) s e = omega arith
  cost_some (Some r) None s e = omega arith
  cost_some (Some r) (Some l) s e =
      some_cost (needs_split same (Some r) (Some l) s) (value_eq (Some r) s) (node_eq l r) (node_eq (target r (Some l) s) r)
      (λ agreed done.
      let in_s : Some r ≡ s = (value_eq-Decides (Some r) s).0 agreed in
      let in_l : l ≡ r = (node_eq-Decides l r).0 done in
      no_clash (differs (Some r) (Some l) s) e (equal_tells (Some r) (Some l) s (ap Some (sym in_l), ap Some in_l ∙ in_s)))

  -- with Synced's version Remote's there is no split
  no_split : (r l : Node) → needs_split same (Some r) (Some l) (Some r) ≡ false
  no_split r l = second_fails (is_file r.kind) (not (r.ver.0 == r.ver.0)) (is_new (Some r) l.ver.0) (not (same_content same l.ver.0 r.ver.0))
      (ap not (number_itself r.ver.0))

  -- nor with one version in both
  pub no_split_of_one : (r l : Node) (s : Option Node) → l.ver.0 ≡ r.ver.0 → needs_split same (Some r) (Some l) s ≡ false
  no_split_of_one r l s e =
      let equal : (l.ver.0 == r.ver.0) ≡ true = (Decides-eqb l.ver.0 r.ver.0).1 e in
      last_fails ((is_file r.kind && is_new s r.ver.0) && is_new s l.ver.0) (not (same_content same l.ver.0 r.ver.0))
      (ap (λ b. not (b || same l.ver.0 r.ver.0)) equal)

  pub after_down : (r t : Node) → cost same (Some r) (Some t) (Some r) ≡ cond (node_eq t r) 0 1
  after_down r t = rw (no_split r t, node_itself r) refl

  one_less : (b : Bool) → cond b 0 1 < cond b 1 2
  one_less true = omega arith
  one_less false = omega arith

  -- a Down: without a split, and where Synced isn't as Remote already
  pub cost_down : (r : Node) (l s : Option Node) → ((k : Node) → l ≡ Some k → (needs_split same (Some r) (Some k) s ≡ false) × (value_eq (Some r) s ≡ false))
      → cost same (Some r) (Some (target r l s)) (Some r) < cost same (Some r) l s
  cost_down r None s wished = rw (after_down r r, node_itself r) (omega arith)
  cost_down r (Some l) s wished =
      let w : (needs_split same (Some r) (Some l) s ≡ false) × (value_eq (Some r) s ≡ false) = wished l refl in
      rw (after_down r (target r (Some l) s), w.0, w.1) (one_less (node_eq (target r (Some l) s) r))

  -- Remote got Local's value: at most 1 is left
  pub cost_entered : (n : Node) (s : Option Node) → cost same (Some n) (Some n) s ≤ 1
  cost_entered n s =
      let half : node_eq (target n (Some n) s) n ≡ true = ap (λ (t : Node). node_eq t n) (target_itself n s) ∙ node_itself n in
      rw (no_split_of_one n n s refl) (one_at_most (node_eq n n) (node_eq (target n (Some n) s) n) (value_eq (Some n) s) half)
