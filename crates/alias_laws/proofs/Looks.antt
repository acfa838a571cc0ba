-- What is told of a look at a term by the checker's sets and by whole ones.
use Rattle.std.proofs.Common.{ℕ, ◌<◌, ◌+◌, Bool, Option, arith}
use Rattle.fut_scalar.specs.declared.place.BindId.{BindId}
use Rattle.fut_flat.specs.declared.prim.Ref.{Ref}
use Rattle.fut_flat.specs.Terms.{Operation, Integer, Truth, Tuple_of, Record_of, Array_of, Binary, Negate, Complement, Index, Project, Update, Replace, Ascribe, Coerce, Declared, Assert, Range, Use, Strict, Lambda, Apply, Let, If, Loop}
use Rattle.fut_flat.specs.Numbers.{own_numbers, numbers, all_numbers}
use Rattle.fut_flat.specs.Erased.{FlatTerm}
use Rattle.fut_types.specs.Types.{Sub, Kinds}
use Rattle.fut_typing.specs.Names.{Names}
use Rattle.fut_aliases.specs.Aliases.{with_alias, first_name_alone}
use Rattle.fut_aliases.specs.Stars.{Stars}
use Rattle.fut_aliases.specs.Steps.{Losses}
use Rattle.fut_aliases.specs.Calls.{Here}
use Rattle.fut_aliases.specs.Looking.{by_itself, looked}
use Rattle.alias_laws.proofs.Worlds.{World}
use Rattle.alias_laws.proofs.Losing.{LossesR}
use Rattle.alias_laws.proofs.Stepping.{Free, AnswerR}
use Rattle.alias_laws.proofs.Calling.{HereR}
use Rattle.alias_laws.proofs.Finishing.{PartIs, HeldIs, by_itself_is}

-- each term has a number
pub has_number : (e : FlatTerm) → 0 < numbers e
has_number (Use r at k) = omega arith
has_number (Strict op mark ts) = of_own op
  where
    of_own : (op : Operation Ref BindId) → 0 < own_numbers op + all_numbers ts
    of_own (Integer n t) = omega arith
    of_own (Truth b) = omega arith
    of_own Tuple_of = omega arith
    of_own (Record_of fs) = omega arith
    of_own Array_of = omega arith
    of_own (Binary op) = omega arith
    of_own Negate = omega arith
    of_own Complement = omega arith
    of_own (Index is) = omega arith
    of_own (Project f) = omega arith
    of_own Update = omega arith
    of_own (Replace f) = omega arith
    of_own (Ascribe t) = omega arith
    of_own (Coerce t) = omega arith
    of_own (Declared t) = omega arith
    of_own Assert = omega arith
    of_own (Range stepped end) = omega arith
has_number (Lambda ps e) = omega arith
has_number (Apply f e) = omega arith
has_number (Let b v e) = omega arith
has_number (If c a b) = omega arith
has_number (Loop mark sizes p first turns body) = omega arith

module _ (N : Names) (K : Kinds) (types : Sub) where
  -- what is told of a look at a term at lo
  abbrev pub Looks : FlatTerm → ℕ → Option Stars → Type 0
  Looks e lo x = (asked : Bool) (w : World) (h h' : Here) (ls ls' : Losses) → Free w lo (lo + numbers e) → HereR w asked h h' → LossesR w ls ls'
      → AnswerR asked w lo (lo + numbers e) ls (PartIs asked ls) (looked with_alias N K types e lo h x ls) (looked first_name_alone N K types e lo h' x ls')

  -- the value of a term by itself
  pub alone_is : (e : FlatTerm) (lo : ℕ) (x : Option Stars) → Looks e lo x → (asked : Bool) (w : World) (h h' : Here) (ls ls' : Losses) → Free w lo (lo + numbers e) → HereR w asked h h' → LossesR w ls ls'
      → AnswerR asked w lo (lo + numbers e) ls (HeldIs asked ls) (by_itself with_alias N K types e lo h (looked with_alias N K types e lo h x) ls) (by_itself first_name_alone N K types e lo h' (looked first_name_alone N K types e lo h' x) ls')
  alone_is e lo x looks asked w h h' ls ls' f here l = let n = has_number e in by_itself_is N K types e lo (looked with_alias N K types e lo h x) (looked first_name_alone N K types e lo h' x) (omega arith) (omega arith) (f lo (omega arith) (omega arith)) here l (looks asked w h h' ls ls' f here l)
