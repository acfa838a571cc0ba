-- What modules hold, and what opening one brings.
use Rattle.std.proofs.Common.{◌≡◌, ℕ, zero, suc, get_or, ◌+◌, ◌<◌, ◌≤◌, Bool, List, [], ◌∷◌, ◌++◌, map, length, drop, slice_index_or, Option, None, Result, Ok, Err, IfOk, IfErr, refl, sym, ap, ◌∙◌, subst, arith}
use Rattle.std.specs.Borrow.{Bor}
use Rattle.std.proofs.lemmas.List.{drop_more}
use Rattle.std.proofs.Math.ListN.{drop_of_length-le}
use Rattle.fut_scalar.specs.declared.place.Place.{Place}
use Rattle.fut_scalar.specs.declared.scalar.IntType.{IntType}
use Rattle.fut_scalar.specs.declared.scalar.IntType.TheVariants as int
use Rattle.fut_scalar.specs.declared.scalar.ScalarType.{ScalarType}
use Rattle.fut_scalar.specs.declared.scalar.ScalarType.TheVariants as scalar
use Rattle.fut_ast.specs.Sorts.{Text}
use Rattle.fut_ast.specs.declared.module.ModExp.{ModExp as PlainModExp, out-ModExp}
use Rattle.fut_flat.specs.declared.prim.Primitive.{Primitive}
use Rattle.fut_flat.specs.declared.prim.Primitive.TheVariants as prim
use Rattle.fut_flat.specs.declared.prim.Ref.TheVariants as ref
use Rattle.fut_primitives.specs.Names.{integer_members}
use Rattle.fut_primitives.specs.Table.{name}
use Rattle.elab_scopes.specs.Names.{Unbound}
use Rattle.elab_scopes.specs.Scopes.{Module_ref, made_module, scalar_module, Member, value_member, members}
use Rattle.elab_scopes.specs.Declarations.{Block, State, brought, contents_of as contents_of', opened, other_members, primitive_member, scalar_members}
use Rattle.elab_scopes.specs.declared.refusal.Refusal.TheVariants as held
use Rattle.elab_scopes.specs.declared.refusal.Stop.{Stop}
use Rattle.elab_scopes.specs.declared.refusal.Stop.TheVariants as stop
use Rattle.elab_scopes.specs.declared.meanings.ModuleRef.{ModuleRef}
use Rattle.elab_scopes.specs.declared.meanings.ModuleRef.TheVariants as held_module
use Rattle.elab_scopes.specs.declared.modules.Contents.{Contents as HeldContents}
use Rattle.elab_scopes.specs.declared.modules.Contents.TheVariants as held_contents
use Rattle.elab_scopes.specs.Held.{module_ref_of}
use Rattle.elab_scopes.specs.Modules.{contents_of, maybe_contents, modules_of}
use Rattle.elab_scopes.specs.Table.{modules_in}
use Rattle.module_state.specs.declared.state.Block.{Block as HeldBlock}
use Rattle.module_state.specs.declared.state.Declaring.{Declaring}
use Rattle.module_state.specs.Standing.{block_of, Stands, Does, does, refuses, stops}
use Rattle.module_state.specs.Steps.{called_of, contents_in, open_step}

same_at : {A : Type 0} (xs : List A) (i : ℕ) (d : A) → get_or xs i d ≡ slice_index_or xs i d
same_at [] i d = refl
same_at (x ∷ xs) zero d = refl
same_at (x ∷ xs) (suc i) d = same_at xs i d

from_index : {A : Type 0} (xs : List A) (i : ℕ) (d : A) → i < length xs → drop i xs ≡ slice_index_or xs i d ∷ drop (i + 1) xs
from_index xs i d lt = drop_more xs i d lt ∙ ap (λ y. y ∷ drop (i + 1) xs) (same_at xs i d)

-- ---- primitives put before older members, the last one first

pub all_left : (ps : List Primitive) (older : List Member) → older ≡ map primitive_member (drop (length ps) ps) ++ older
all_left ps older = ap (λ l. map primitive_member l ++ older) (sym (drop_of_length-le ps (omega arith)))

pub one_put : (ps : List Primitive) (left less : ℕ) (d : Primitive) (all more older : List Member) (x : Text) → less + 1 ≡ left → left ≤ length ps → all ≡ map primitive_member (drop left ps) ++ older → x ≡ name (slice_index_or ps less d)
    → more ≡ value_member x (ref.Prim (slice_index_or ps less d)) ∷ all → more ≡ map primitive_member (drop less ps) ++ older
one_put ps left less d all more older x one le e text is = is ∙ ap (λ y. value_member y (ref.Prim (slice_index_or ps less d)) ∷ all) text ∙ ap (λ l. primitive_member (slice_index_or ps less d) ∷ l) (e ∙ ap (λ n. map primitive_member (drop n ps) ++ older) (sym one)) ∙ ap (λ l. map primitive_member l ++ older) (sym (from_index ps less d (omega (arith, one, le))))

pub ruleset puts = (all_left, one_put)

-- ---- the members of scalar types

pub others_int : (s : ScalarType) (t : IntType) (none : List Member) {E : Type 0} (r : Result (Bor (List Member)) E) → s ≡ scalar.Int t → none ≡ [] → IfOk r (λ all. all.now ≡ map primitive_member (integer_members t) ++ none) → IfOk r (λ all. all.now ≡ map primitive_member (other_members s))
others_int s t none (Ok all) is empty e = e ∙ ap (λ l. map primitive_member (integer_members t) ++ l) empty ∙ ap (λ s. map primitive_member (other_members s)) (sym is)
others_int s t none (Err e) is empty i = i

pub others_bool : (s : ScalarType) (none : List Member) → s ≡ scalar.Bool → none ≡ [] → none ≡ map primitive_member (other_members s)
others_bool s none is empty = empty ∙ ap (λ s. map primitive_member (other_members s)) (sym is)

pub ruleset others = (others_int, others_bool)

abbrev conversions_to : ScalarType → List Primitive
conversions_to t = prim.Convert t (scalar.Int int.I8) ∷ prim.Convert t (scalar.Int int.I16) ∷ prim.Convert t (scalar.Int int.I32) ∷ prim.Convert t (scalar.Int int.I64) ∷ prim.Convert t (scalar.Int int.U8) ∷ prim.Convert t (scalar.Int int.U16) ∷ prim.Convert t (scalar.Int int.U32) ∷ prim.Convert t (scalar.Int int.U64) ∷ prim.Convert t scalar.Bool ∷ []

pub all_members_of : (t : ScalarType) (others : List Member) {E : Type 0} (r : Result (Bor (List Member)) E) → others ≡ map primitive_member (other_members t) → IfOk r (λ all. all.now ≡ map primitive_member (conversions_to t) ++ others) → IfOk r (λ all. all.now ≡ scalar_members t)
unfolding scalar_members
all_members_of t others (Ok all) is e = e ∙ ap (λ l. map primitive_member (conversions_to t) ++ l) is
all_members_of t others (Err e) is i = i

-- ---- what a module is

pub missing_held : (o : Option HeldContents) (ms : Bor (List Member)) → o ≡ None → ms.now ≡ [] → members ms.now ≡ maybe_contents o
missing_held o ms is none = ap members none ∙ ap maybe_contents (sym is)

pub made_held : (cs : List HeldContents) (m : ModuleRef) (k : ℕ) (o : Option HeldContents) {E : Type 0} (r : Result HeldContents E) → m ≡ held_module.Made k → maybe_contents o ≡ contents_in (modules_of cs) (made_module k) → IfOk r (λ c. contents_of c ≡ maybe_contents o) → IfOk r (λ c. contents_of c ≡ contents_in (modules_of cs) (module_ref_of m))
made_held cs m k o (Ok c) is found e = e ∙ found ∙ ap (λ n. contents_in (modules_of cs) (module_ref_of n)) (sym is)
made_held cs m k o (Err e) is found i = i

pub scalar_held : (cs : List HeldContents) (m : ModuleRef) (t : ScalarType) (ms : Bor (List Member)) → m ≡ held_module.Scalar t → ms.now ≡ scalar_members t → members ms.now ≡ contents_in (modules_of cs) (module_ref_of m)
scalar_held cs m t ms is e = ap members e ∙ ap (λ n. contents_in (modules_of cs) (module_ref_of n)) (sym is)

pub ruleset holdings = (made_held, scalar_held)

-- ---- what is opened

in_state : (s : State) (n : Module_ref) → contents_in s.modules n ≡ contents_of' s n
in_state s (made_module k) = refl
in_state s (scalar_module t) = refl

module _ (is_local : Bool) (m : PlainModExp) (n : Module_ref) (b : Block) (d : Declaring) (c : HeldContents) (cs : List HeldContents) (same : modules_of cs ≡ modules_in d.names) (found : contents_of c ≡ contents_in (modules_of cs) n) where
  opened_as : (s : State) → Stands d s → open_step is_local m n b s ≡ opened is_local (out-ModExp m).place (called_of m) (contents_of c) b s
  opened_as s st = ap (λ x. opened is_local (out-ModExp m).place (called_of m) x b s) (sym (found ∙ ap (λ z. contents_in z n) same ∙ ap (λ cs. contents_in cs n) st.modules ∙ in_state s n))

  pub members_open : (ms : Bor (List Member)) (r : Result HeldBlock Stop) → c ≡ held_contents.Members ms → IfOk r (λ q. block_of q ≡ brought is_local ms.now [] b) → IfErr r (λ e. e ≡ stop.Memory) → Does block_of (open_step is_local m n b) d d r
  members_open ms (Ok q) is e i = does (λ s st. record { state = s; is = opened_as s st ∙ ap (λ o. opened is_local (out-ModExp m).place (called_of m) (contents_of o) b s) is ∙ (λ i. Ok (sym e i, s)); stands = st })
  members_open ms (Err _) is e i = subst (λ z. Does block_of (open_step is_local m n b) d d (Err z)) (sym i) stops

  pub parametric_open : (j : ℕ) (x : Bor Text) (at : Place) → c ≡ held_contents.Parametric j → x.now ≡ called_of m → at ≡ (out-ModExp m).place → Does block_of (open_step is_local m n b) d d (Err (stop.Refused (held.Unbound x at)))
  parametric_open j x at is text place = refuses (λ s st. opened_as s st ∙ ap (λ o. opened is_local (out-ModExp m).place (called_of m) (contents_of o) b s) is ∙ (λ i. Err (Unbound (sym text i) (sym place i))))
