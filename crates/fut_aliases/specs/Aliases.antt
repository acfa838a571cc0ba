-- Alias names and sets of them (Henriksen et al., "Futhark: Purely Functional GPU-Programming with Nested Parallelism and In-Place
-- Array Updates", PLDI 2017, section 3). A value has one set for each of its components: the names with which it may share
-- memory.
use Rattle.std.specs.Prelude.{ℕ, ◌||◌, ◌&&◌, Bool, true, false, cond, nat_eq, nat_lt, List, [], ◌∷◌, Option, Some, None}
use Rattle.fut_aliases.specs.declared.aliases.Alias.{Alias}
use Rattle.fut_aliases.specs.declared.aliases.Alias.TheVariants.{Part, Own}

-- nodes are numbered in the order of the text; a call's own comes after all names
abbrev pub is_before : Alias → Alias → Bool
is_before (Part n i b) (Part m j c) = nat_lt n m || (nat_eq n m && nat_lt i j)
is_before (Part n i b) (Own m) = true
is_before (Own n) (Part m j c) = false
is_before (Own n) (Own m) = nat_lt n m

abbrev pub is_alias : Alias → Alias → Bool
is_alias (Part n i b) (Part m j c) = nat_eq n m && nat_eq i j
is_alias (Own n) (Own m) = nat_eq n m
is_alias a b = false

-- made before a node was reached
abbrev pub is_outside : ℕ → Alias → Bool
is_outside from (Part n i b) = nat_lt n from
is_outside from (Own n) = nat_lt n from

-- ---- sets: each alias once, in order

abbrev pub Set : Type 0
Set = List Alias

unfoldable pub is_in : Alias → Set → Bool
is_in a [] = false
is_in a (b ∷ s) = is_alias a b || is_in a s

-- a stands before b, or in its place, or behind it
abbrev pub put_at : Alias → Alias → Set → Set → Set
put_at a b s behind = cond (is_before a b) (a ∷ b ∷ s) (cond (is_alias a b) (b ∷ s) (b ∷ behind))

unfoldable pub with_alias : Alias → Set → Set
with_alias a [] = a ∷ []
with_alias a (b ∷ s) = put_at a b s (with_alias a s)

-- How a name joins the set of the array that it names. By the rules it stands in its own set.
abbrev pub Naming : Type 0
Naming = Alias → Set → Set

-- A name may be left out of the set of what has an earlier name: whatever shares with it shares with that one, and of two names
-- the earlier one is told. A name inside of what another stands for is the later one in the text.
abbrev pub comes_first : Alias → Set → Bool
comes_first a [] = true
comes_first a (b ∷ s) = is_before a b

abbrev pub first_name_alone : Naming
first_name_alone a s = cond (comes_first a s) (a ∷ s) s

unfoldable pub union : Set → Set → Set
union [] t = t
union (a ∷ s) t = with_alias a (union s t)

unfoldable pub those : (Alias → Bool) → Set → Set
those test [] = []
those test (a ∷ s) = cond (test a) (a ∷ those test s) (those test s)

abbrev pub shared : Set → Set → Set
shared s t = those (λ a. is_in a t) s

abbrev pub least : Set → Option Alias
least [] = None
least (a ∷ s) = Some a
