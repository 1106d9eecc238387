-- What an identity wishes: the table, in which each row says where it applies.
use Rattle.std.specs.Prelude.{◌≡◌, ◌≢◌, ℕ, Bool, false, IsTrue, Option, None, Some}
use Rattle.std.specs.FinMap.{get}
use Rattle.nuc_base.specs.declared.node.Node.{Node}
use Rattle.nuc_base.specs.Trees.{Nodes}
use Rattle.nuc_class.specs.Going.{GoingLocal, GoingRemote}
use Rattle.nuc_class.specs.Split.{needs_split}
use Rattle.nuc_class.specs.declared.wishes.Wish.{Wish}
use Rattle.nuc_class.specs.declared.wishes.Wish.TheVariants.{Split, Down, Up, CutDown, CutUp, Forget, Nothing}

-- Remote has it, and no split is needed; Local has it too and Remote's isn't Synced's, or Local hasn't and it isn't going
abbrev pub WantsDown : (ℕ → ℕ → Bool) → Type 0 → Option Node → Option Node → Option Node → Type 0
WantsDown same Goes (Some r) (Some l) s = (needs_split same (Some r) (Some l) s ≡ false) × (s ≢ Some r)
WantsDown same Goes (Some r) None s = ¬ Goes
WantsDown same Goes None l s = ⊥

-- Local has it; Remote's is Synced's and Local's isn't, or Local alone has it, or Remote alone hasn't and it isn't going
abbrev pub WantsUp : Type 0 → Option Node → Option Node → Option Node → Type 0
WantsUp Goes (Some r) (Some l) s = (s ≡ Some r) × (s ≢ Some l)
WantsUp Goes None (Some l) None = Unit {0}
WantsUp Goes None (Some l) (Some s) = ¬ Goes
WantsUp Goes (Some r) None s = ⊥
WantsUp Goes None None s = ⊥

-- Synced alone has it
abbrev pub OnlySynced : Option Node → Option Node → Option Node → Type 0
OnlySynced None None (Some s) = Unit {0}
OnlySynced None None None = ⊥
OnlySynced None (Some l) s = ⊥
OnlySynced (Some r) l s = ⊥

abbrev pub AllEqual : Option Node → Option Node → Option Node → Type 0
AllEqual r l s = (r ≡ l) × (l ≡ s)

-- the table: where each wish applies, by the values in Remote, Local and Synced and by what says that it is going in
-- Local and in Remote
abbrev pub Applies : (ℕ → ℕ → Bool) → Type 0 → Type 0 → Option Node → Option Node → Option Node → Wish → Type 0
Applies same GoesLocal GoesRemote r l s Split = IsTrue (needs_split same r l s)
Applies same GoesLocal GoesRemote r l s Down = WantsDown same GoesRemote r l s
Applies same GoesLocal GoesRemote r l s Up = WantsUp GoesLocal r l s
Applies same GoesLocal GoesRemote r l s CutDown = GoesLocal
Applies same GoesLocal GoesRemote r l s CutUp = GoesRemote
Applies same GoesLocal GoesRemote r l s Forget = OnlySynced r l s
Applies same GoesLocal GoesRemote r l s Nothing = AllEqual r l s

-- what x wishes in Remote, Local and Synced
abbrev pub IsWish : (ℕ → ℕ → Bool) → Nodes → Nodes → Nodes → ℕ → Wish → Type 0
IsWish same r l s x w = Applies same (GoingLocal r l s x) (GoingRemote r l s x) (get r x) (get l x) (get s x) w
