-- Paths by the modules that their last names are asked of.
use Rattle.std.proofs.Common.{◌≡◌, ℕ, ◌+◌, ◌-◌, ◌<◌, ◌≤◌, List, [], ◌∷◌, length, drop, drop_of_length-le, take, slice_index_or, arith, Option, Some, None, Result, Ok, Err, refl, sym, ap, ◌∙◌}
use Rattle.std.specs.Borrow.{Bor}
use Rattle.std.proofs.lemmas.List.{take_all}
use Rattle.fut_scalar.specs.declared.place.Place.{Place}
use Rattle.fut_scalar.specs.declared.scalar.ScalarType.{ScalarType}
use Rattle.fut_flat.specs.declared.prim.Ref.{Ref}
use Rattle.fut_flat.specs.declared.prim.Ref.TheVariants as ref
use Rattle.fut_ast.specs.Sorts.{Text, Path}
use Rattle.elab_scopes.specs.Names.{Refusal, NoMember, Unbound}
use Rattle.elab_scopes.specs.Scopes.{member_type_or, scalar_or, Module_ref, Member, Contents, module_among, module_at, module_or, or_scalar, and_then, module_in_module, type_in_module, signature_in_module, module_inside, type_inside, signature_inside}
use Rattle.fut_primitives.specs.Names.{scalar_of}
use Rattle.fut_tree.specs.Names.{names}
use Rattle.elab_scopes.specs.declared.modules.Contents.{Contents as HeldContents}
use Rattle.elab_scopes.specs.Modules.{modules_of, world}
use Rattle.elab_scopes.specs.Paths.{holder}
use Rattle.elab_scopes.proofs.Slices.{from_index}

-- what a module has under a name, or the refusal
abbrev asked : {A : Type 0} → Place → (Module_ref → Text → Option A) → Module_ref × Text → Result A Refusal
asked at f h = module_or (NoMember h.1 at) (f h.0 h.1)

chained : {A B C : Type 0} (r : Result A Refusal) (f : A → Result B Refusal) (g : B → Result C Refusal) → and_then (and_then r f) g ≡ and_then r (λ a. and_then (f a) g)
chained (Ok a) f g = refl
chained (Err e) f g = refl

under : {A B : Type 0} (r : Result A Refusal) (f g : A → Result B Refusal) → ((a : A) → f a ≡ g a) → and_then r f ≡ and_then r g
under (Ok a) f g e = e a
under (Err x) f g e = refl

pub type_way : (cs : List Contents) (at : Place) (m : Module_ref) (y : Text) (fs : Path) → type_inside cs at m y fs ≡ and_then (holder cs at m y fs) (asked at (type_in_module cs))
unfolding type_inside holder
type_way cs at m y [] = refl
type_way cs at m y (z ∷ fs) = under (module_or (NoMember y at) (module_in_module cs m y)) _ _ (λ n. type_way cs at n z fs) ∙ sym (chained (module_or (NoMember y at) (module_in_module cs m y)) (λ n. holder cs at n z fs) (asked at (type_in_module cs)))

pub signature_way : (cs : List Contents) (at : Place) (m : Module_ref) (y : Text) (fs : Path) → signature_inside cs at m y fs ≡ and_then (holder cs at m y fs) (asked at (signature_in_module cs))
unfolding signature_inside holder
signature_way cs at m y [] = refl
signature_way cs at m y (z ∷ fs) = under (module_or (NoMember y at) (module_in_module cs m y)) _ _ (λ n. signature_way cs at n z fs) ∙ sym (chained (module_or (NoMember y at) (module_in_module cs m y)) (λ n. holder cs at n z fs) (asked at (signature_in_module cs)))

pub module_way : (cs : List Contents) (at : Place) (m : Module_ref) (y : Text) (fs : Path) → module_inside cs at m (y ∷ fs) ≡ and_then (holder cs at m y fs) (asked at (module_in_module cs))
unfolding module_inside holder
module_way cs at m y [] = ends (module_or (NoMember y at) (module_in_module cs m y))
  where
    ends : (r : Result Module_ref Refusal) → and_then r (λ n. Ok n) ≡ r
    ends (Ok n) = refl
    ends (Err e) = refl
module_way cs at m y (z ∷ fs) = under (module_or (NoMember y at) (module_in_module cs m y)) _ _ (λ n. module_way cs at n z fs) ∙ sym (chained (module_or (NoMember y at) (module_in_module cs m y)) (λ n. holder cs at n z fs) (asked at (module_in_module cs)))

-- ---- the loop over the names of a path

module _ (cs : List Contents) (at : Place) (start : Result (Module_ref × Text) Refusal) (m : Module_ref) (y : Text) (ps : List (Bor Text)) (i : ℕ) where
  pub holder_goes : (n : Module_ref) (d : Bor Text) → start ≡ holder cs at m y (names (drop i ps)) → i < length ps → Some n ≡ module_in_module cs m y → start ≡ holder cs at n (slice_index_or ps i d).now (names (drop (i + 1) ps))
  unfolding holder
  holder_goes n d e lt is = e ∙ ap (λ l. holder cs at m y (names l)) (from_index ps i d lt) ∙ ap (λ o. and_then (module_or (NoMember y at) o) (λ n. holder cs at n (slice_index_or ps i d).now (names (drop (i + 1) ps)))) (sym is)

  pub holder_stops : (d : Bor Text) → start ≡ holder cs at m y (names (drop i ps)) → i < length ps → None ≡ module_in_module cs m y → Err (NoMember y at) ≡ start
  unfolding holder
  holder_stops d e lt is = sym (e ∙ ap (λ l. holder cs at m y (names l)) (from_index ps i d lt) ∙ ap (λ o. and_then (module_or (NoMember y at) o) (λ n. holder cs at n (slice_index_or ps i d).now (names (drop (i + 1) ps)))) (sym is))

  pub holder_ends : start ≡ holder cs at m y (names (drop i ps)) → length ps ≤ i → Ok (m, y) ≡ start
  unfolding holder
  holder_ends e le = sym (e ∙ ap (λ l. holder cs at m y (names l)) (drop_of_length-le ps le))

pub ruleset holding = (holder_goes, holder_stops, holder_ends)

-- ---- modules by paths

path_split : (ps : List (Bor Text)) (d : Bor Text) → 1 ≤ length ps → names ps ≡ (slice_index_or ps 0 d).now ∷ names (take (length ps - 1) (drop 1 ps))
path_split [] d le = absurd (omega (arith, le))
path_split (p ∷ ps) d le = ap (λ l. p.now ∷ names l) (sym (take_all (length (p ∷ ps) - 1) ps (omega arith)))

module _ (cs : List Contents) (at : Place) (m : Module_ref) (ps : List (Bor Text)) where
  pub module_by : (d : Bor Text) (h : Result (Module_ref × Text) Refusal) (r : Result Module_ref Refusal) → 1 ≤ length ps → h ≡ holder cs at m (slice_index_or ps 0 d).now (names (take (length ps - 1) (drop 1 ps))) → r ≡ and_then h (asked at (module_in_module cs)) → r ≡ module_inside cs at m (names ps)
  module_by d h r le is e = e ∙ ap (λ g. and_then g (asked at (module_in_module cs))) is ∙ sym (module_way cs at m (slice_index_or ps 0 d).now (names (take (length ps - 1) (drop 1 ps)))) ∙ ap (module_inside cs at m) (sym (path_split ps d le))

pub module_empty : (cs : List Contents) (at : Place) (m : Module_ref) (ps : List (Bor Text)) → length ps < 1 → Ok m ≡ module_inside cs at m (names ps)
unfolding module_inside
module_empty cs at m [] le = refl
module_empty cs at m (p ∷ ps) le = absurd (omega (arith, le))

pub module_at_is : (seen : List Member) (modules : List HeldContents) (at : Place) (x : Text) (rest : Path) (o : Option Module_ref) (r : Result Module_ref Refusal) → o ≡ or_scalar (module_among seen x) (scalar_of x) → r ≡ and_then (module_or (Unbound x at) o) (λ m. module_inside (modules_of modules) at m rest) → r ≡ module_at (world seen modules) at x rest
unfolding module_at
module_at_is seen modules at x rest o r is e = e ∙ ap (λ o. and_then (module_or (Unbound x at) o) (λ m. module_inside (modules_of modules) at m rest)) is

pub no_way : (cs : List Contents) (at : Place) (m : Module_ref) → module_inside cs at m [] ≡ Ok m
unfolding module_inside
no_way cs at m = refl

pub ruleset ways = (type_way, signature_way)

-- ---- types by paths

pub type_of_member : (at : Place) (x : Text) (o : Option Ref) (r : Ref) → Some r ≡ o → Ok r ≡ member_type_or at x o
type_of_member at x o r e = ap (member_type_or at x) e

pub type_of_scalar : (at : Place) (x : Text) (o : Option Ref) (t : ScalarType) → None ≡ o → Some t ≡ scalar_of x → Ok (ref.Scalar t) ≡ member_type_or at x o
type_of_scalar at x o t e is = ap (scalar_or at x) is ∙ ap (member_type_or at x) e

pub type_missing : (at : Place) (x : Text) (o : Option Ref) → None ≡ o → None ≡ scalar_of x → Err (Unbound x at) ≡ member_type_or at x o
type_missing at x o e is = ap (scalar_or at x) is ∙ ap (member_type_or at x) e

pub ruleset types = (type_of_member, type_of_scalar, type_missing)
