-- What a path stands for whose first name is local, and what it stands for by what is outside.
use Rattle.std.proofs.Common.{◌≡◌, ◌+◌, ◌-◌, ◌<◌, ◌≤◌, List, [], ◌∷◌, length, take, drop, slice_index_or, Some, None, Result, sym, ◌∙◌, ap, arith, Option, Bor}
use Rattle.std.proofs.lemmas.List.{take_all}
use Rattle.fut_scalar.specs.declared.place.BindId.{BindId}
use Rattle.fut_scalar.specs.declared.place.Place.{Place}
use Rattle.fut_ast.specs.Sorts.{Text}
use Rattle.fut_tree.specs.Names.{names}
use Rattle.fut_flat.specs.declared.prim.Ref.{Ref}
use Rattle.fut_flat.specs.declared.prim.Ref.TheVariants as ref
use Rattle.fut_flat.specs.Sources.{spelled}
use Rattle.elab_scopes.specs.declared.modules.Contents.{Contents as HeldContents}
use Rattle.elab_scopes.specs.declared.refusal.Refusal.{Refusal as HeldRefusal}
use Rattle.elab_scopes.specs.declared.table.Names.{Names}
use Rattle.elab_scopes.specs.declared.values.Found.{Found as HeldFound}
use Rattle.elab_scopes.specs.Answers.{found_of, modules_before, viewed}
use Rattle.elab_scopes.specs.Modules.{modules_of, names_seen, world}
use Rattle.elab_scopes.specs.Names.{Refusal}
use Rattle.elab_scopes.specs.Scopes.{Member, by_member, by_module_type, by_value, found, member_type_or, module_named, type_among, type_in, type_of, type_or, value_among, value_in, value_of, world_of}
use Rattle.elab_scopes.specs.Table.{scope_of}

rest_is : (x : Bor Text) (xs : List (Bor Text)) → take (length (x ∷ xs) - 1) (drop 1 (x ∷ xs)) ≡ xs
rest_is x xs = take_all (length (x ∷ xs) - 1) xs (omega arith)

-- ---- values

pub local_value : (n : Names) (at : Place) (p : List (Bor Text)) (d : Bor Text) (b : BindId) → 1 ≤ length p → value_in (scope_of n) (slice_index_or p 0 d).now ≡ Some b
    → found (ref.Bound b) (modules_before (length p) (take (length p - 1) (drop 1 p))) (names (take (length p - 1) (drop 1 p))) ≡ value_of (scope_of n) (spelled (names p) at)
unfolding value_of
local_value n at [] d b le is = absurd (omega (arith, le))
local_value n at (x ∷ xs) d b le is =
    ap (λ l. found (ref.Bound b) (modules_before (length (x ∷ xs)) l) (names l)) (rest_is x xs)
    ∙ ap (λ k. found (ref.Bound b) k (names xs)) (omega arith)
    ∙ ap (by_value (world_of (scope_of n)) at x.now (names xs)) (sym is)

pub outside_value : (n : Names) (at : Place) (p : List (Bor Text)) (d : Bor Text) (o : Option (Bor (List Member))) (cs : List HeldContents) (q : Result HeldFound HeldRefusal) → 1 ≤ length p → value_in (scope_of n) (slice_index_or p 0 d).now ≡ None
    → names_seen o ≡ (world_of (scope_of n)).names → modules_of cs ≡ (world_of (scope_of n)).modules
    → viewed (found_of (length (take (length p - 1) (drop 1 p)) + 1)) q ≡ by_member (world (names_seen o) cs) at (slice_index_or p 0 d).now (names (take (length p - 1) (drop 1 p))) (value_among (names_seen o) (slice_index_or p 0 d).now)
    → viewed (found_of (length p)) q ≡ value_of (scope_of n) (spelled (names p) at)
unfolding value_of
outside_value n at [] d o cs q le none seen there e = absurd (omega (arith, le))
outside_value n at (x ∷ xs) d o cs q le none seen there e =
    ap (λ l. viewed (found_of l) q) (omega arith ∙ ap (λ l. length l + 1) (sym (rest_is x xs))) ∙ e
    ∙ (λ i. by_member (record { names = seen i; modules = there i }) at x.now (names (rest_is x xs i)) (value_among (seen i) x.now))
    ∙ ap (by_value (world_of (scope_of n)) at x.now (names xs)) (sym none)

-- ---- types

pub outside_type : (n : Names) (at : Place) (p : List (Bor Text)) (d : Bor Text) (o : Option (Bor (List Member))) (r : Result Ref Refusal) → 1 ≤ length p → length p < 2 → type_in (scope_of n) (slice_index_or p 0 d).now ≡ None
    → names_seen o ≡ (world_of (scope_of n)).names → r ≡ member_type_or at (slice_index_or p 0 d).now (type_among (names_seen o) (slice_index_or p 0 d).now) → r ≡ type_of (scope_of n) (spelled (names p) at)
unfolding type_of
outside_type n at [] d o r le lt none seen e = absurd (omega (arith, le))
outside_type n at (x ∷ []) d o r le lt none seen e = e ∙ ap (λ ms. member_type_or at x.now (type_among ms x.now)) seen ∙ ap (type_or (world_of (scope_of n)) at x.now) (sym none)
outside_type n at (x ∷ y ∷ ys) d o r le lt none seen e = absurd (omega (arith, lt))

pub module_type : (n : Names) (at : Place) (p : List (Bor Text)) (d d' : Bor Text) (o : Option (Bor (List Member))) (cs : List HeldContents) (r : Result Ref Refusal) → 2 ≤ length p
    → names_seen o ≡ (world_of (scope_of n)).names → modules_of cs ≡ (world_of (scope_of n)).modules
    → r ≡ by_module_type (world (names_seen o) cs) at (slice_index_or p 0 d).now (slice_index_or p 1 d').now (names (take (length p - 2) (drop 2 p))) (module_named (world (names_seen o) cs) (slice_index_or p 0 d).now)
    → r ≡ type_of (scope_of n) (spelled (names p) at)
unfolding type_of
module_type n at [] d d' o cs r le seen there e = absurd (omega (arith, le))
module_type n at (x ∷ []) d d' o cs r le seen there e = absurd (omega (arith, le))
module_type n at (x ∷ y ∷ ys) d d' o cs r le seen there e =
    e ∙ ap (λ l. by_module_type (world (names_seen o) cs) at x.now y.now (names l) (module_named (world (names_seen o) cs) x.now)) (take_all (length (x ∷ y ∷ ys) - 2) ys (omega arith))
    ∙ (λ i. by_module_type (record { names = seen i; modules = there i }) at x.now y.now (names ys) (module_named (record { names = seen i; modules = there i }) x.now))
