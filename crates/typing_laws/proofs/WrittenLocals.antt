-- Generalisation is exact for local functions with written type parameters.
use Rattle.std.proofs.Common.{ℕ, ◌+◌, ◌≤◌, ◌<◌, sym, ap, subst, arith, Bool, true, false, List, [], ◌∷◌, ◌++◌}
use mathlib.Core.Logic.{◌⊎◌, inl, inr}
use Rattle.fut_scalar.specs.declared.place.BindId.{BindId}
use Rattle.fut_flat.specs.Terms.{Parameter}
use Rattle.fut_flat.specs.Numbers.{pattern_numbers, numbers}
use Rattle.fut_flat.specs.Erased.{FlatTerm}
use Rattle.fut_types.specs.declared.Kind.{Kind}
use Rattle.fut_types.specs.Types.{Var, Sub, Kinds}
use Rattle.fut_typing.specs.Names.{Names, AreNames}
use Rattle.fut_typing.specs.Scopes.{Scope, nothing, with_sizes}
use Rattle.fut_typing.specs.Patterns.{with_parameters}
use Rattle.fut_typing.specs.Generalised.{Suits, own_types, Scheme, Variant, Reused, Generalised}
use Rattle.fut_typing.specs.Typing.{FlatBinding, let_uses, Typed}
use Rattle.fut_typing.specs.Program.{Defined, program_numbers, Program_typed}
use Rattle.fut_typing.specs.Exact.{Way, found, Fixed, behind, scope_behind, scheme_behind, scheme_along, local_behind}
use Rattle.fut_typing.specs.Declared.{Is_parameter, Declares, Parameter_in}
use Rattle.fut_typing.proofs.Local.{Agree, AllLocal, local_parameters}
use Rattle.fut_typing.proofs.Cong.{Depends}
use Rattle.fut_typing.proofs.Programs.{definition_depends}
use Rattle.fut_typing.proofs.Locals.{up_to, let_depends}
use Rattle.fut_typing.proofs.Readings.{Reading, image, Extends, extends_self, plain}
unfoldable use Rattle.fut_typing.proofs.Readings.{read, read_all}
use Rattle.fut_typing.proofs.Below.{Below, program_below}
use Rattle.fut_typing.proofs.Follows.{Uses_follow, Follows, follows_more, follows_sizes, follows_parameters, follows_pattern, follows_ones, follows_all_ones, follows_turns, one_follows, pattern_follows}
use Rattle.fut_typing.proofs.Instances.{parameter_limit, Good, Chosen, chosen_own, reused_follows}
use Rattle.fut_typing.proofs.Typings.{instance}
use Rattle.typing_laws.specs.Ways.{Ends_at, and_body, Function_let, Declares_beside}
use Rattle.typing_laws.specs.Claims.{Alone_within, LocalWrittenIsExact}
use Rattle.typing_laws.proofs.Chosen.{scope_local, definition_in, whole_within}
use Rattle.typing_laws.proofs.Spelled.{one_label}
use Rattle.typing_laws.proofs.Placed.{stays, In_term, placed, beside_declared}
use Rattle.typing_laws.proofs.Spots.{let_at, Carries, locals, Spot, spot}
use Rattle.typing_laws.proofs.Lifted.{back}
use Rattle.typing_laws.proofs.Exact.{own_back, Exchanges, exact}
use Rattle.typing_laws.proofs.Programs.{good, Changed, lifted_typing, good_back, follows_back}
use Rattle.typing_laws.proofs.Pairs as pairs
use Rattle.typing_laws.proofs.Joins as joins
use Rattle.typing_laws.proofs.Twice as twice
use Rattle.typing_laws.proofs.Within as within

-- ---- readings that leave what is declared on the way as it is
module _ (N : Names) (places : Kind) (K : Kinds) (D : ℕ → Type 0) (F0 : ℕ) (low : (n : ℕ) → D n → n < F0) (I : Reading) (F : ℕ) (good : Good places K K D F0 low I F) where
  let_moves : (b : FlatBinding) (v : FlatTerm) (lo : ℕ) (scope : Scope) → ((n : ℕ) → Declares v n → D n) → AllLocal (λ n. n < lo) scope → Follows K K I F scope scope
      → (c c' : Sub) (J : Reading) (G : ℕ) → Good places K K D F0 low J G → F ≤ G → Extends F I J → Chosen places K K D F0 low b.parameters c c' J G → (x : Sub) → (let_at N places b v lo scope).typed c K x → (let_at N places b v lo scope).typed c' K (image J x)
  let_moves b v lo scope few local f c c' J G goodJ le ext chosen x t =
      let at : ℕ = 1 + lo + pattern_numbers b.pattern in let further : Follows K K J G scope scope = follows_more K K I J F G scope scope le ext f in (
        (
          pattern_follows N places K K J goodJ.suited G b.pattern (1 + lo) (with_sizes b.sizes scope) (with_sizes b.sizes scope) (follows_sizes K K J G b.sizes scope scope further) x t.0.0,
          instance N places K K D F0 low v at J G goodJ few (with_parameters b.parameters c scope) (with_parameters b.parameters c' scope) (local_parameters (λ n. n < at) b.parameters c' scope (up_to N places lo at scope (omega arith) local)) (follows_parameters K K J G b.parameters c c' scope scope chosen further) x t.0.1,
        ),
        ap (read J) t.1,
      )

  let_uses_follow : (f : Bool) (s : Scheme) (n : ℕ) → Uses_follow K K I F (Reused places s n) (Reused places s n) → Uses_follow K K I F (let_uses N places f s n) (let_uses N places f s n)
  let_uses_follow true s n h = h
  let_uses_follow false s n h = one_follows K K I F n

  abbrev Read : ℕ → Scope → Type 0
  Read lo scope = AllLocal (λ n. n < lo) scope × Follows K K I F scope scope

  reads : Carries N places D Read
  reads = let l : Carries N places (λ n. Unit {0}) (λ lo scope. AllLocal (λ n. n < lo) scope) = locals N places in record {
    further = λ lo m scope le q. (l.further lo m scope le q.0, q.1);
    functions = λ qs lo scope q. (l.functions qs lo scope q.0, follows_all_ones K K I F qs (1 + lo) scope scope q.1);
    parameters = λ b lo scope few q. (
      l.parameters b lo scope (λ n i. tt) q.0,
      follows_parameters K K I F b.parameters (own_types places b.parameters) (own_types places b.parameters) scope scope (chosen_own places K K D F0 low b.parameters I F good few) q.1,
    );
    names = λ b v lo scope few q. let s : Scheme = let_at N places b v lo scope in (
      l.names b v lo scope (λ n i. tt) q.0,
      follows_pattern K K I F (let_uses N places b.is_function s) (let_uses N places b.is_function s) b.pattern (1 + lo) (with_sizes b.sizes scope) (with_sizes b.sizes scope)
          (λ n from to. let_uses_follow b.is_function s n (reused_follows places K K D F0 low I F good b.parameters (1 + lo) (pattern_numbers b.pattern + numbers v) s.free s.typed s.typed
          (let_depends N places (λ n. n < 1 + lo) b v lo scope (up_to N places lo (1 + lo) scope (omega arith) q.0)) (let_moves b v lo scope few q.0 q.1) n)) (follows_sizes K K I F b.sizes scope scope q.1),
    );
    loops = λ sizes p lo scope q. (l.loops sizes p lo scope q.0, follows_ones K K I F p (1 + lo) (with_sizes sizes scope) (with_sizes sizes scope) (follows_sizes K K I F sizes scope scope q.1));
    turns = λ t lo scope q. (l.turns t lo scope q.0, follows_turns K K I F t lo scope scope q.1);
  }

-- ---- the program
module _ (N : Names) (are : AreNames N) (places : Kind) (before after : List Defined) (d : Defined) (w : Way) (ends : Ends_at (Function_let (local_behind N places before d w).parameters) d.value w) (alone : Alone_within before d after w (local_behind N places before d w).parameters) where
  abbrev D : ℕ → Type 0
  D n = Parameter_in before n ⊎ (Is_parameter d.parameters n ⊎ (Declares_beside d.value w n ⊎ Parameter_in after n))

  abbrev s : Scheme
  s = local_behind N places before d w

  abbrev ps : List (Parameter BindId)
  ps = (local_behind N places before d w).parameters

  abbrev outer : Scheme
  outer = scheme_behind N places before d

  abbrev scope : Scope
  scope = scope_behind N places before 0 nothing

  abbrev lo : ℕ
  lo = behind before 0

  abbrev at : ℕ
  at = behind before 0 + pattern_numbers d.name

  abbrev own : Sub
  own = own_types places d.parameters

  abbrev own_scope : Scope
  own_scope = with_parameters d.parameters (own_types places d.parameters) (scope_behind N places before 0 nothing)

  apart : (n : ℕ) → D n → Is_parameter ps n → ⊥
  apart n h i = alone n i h

  here_local : AllLocal (λ n. n < behind before 0) scope
  here_local = scope_local N places before 0 nothing (λ b K a a' t e u. absurd u)

  own_local : AllLocal (λ n. n < at) own_scope
  own_local = local_parameters (λ n. n < at) d.parameters own scope (up_to N places lo at scope (omega arith) here_local)

  stands : In_term N places ps d.value at own_scope w
  stands = placed N places ps d.value at own_scope w ends

  -- where the way ends
  spot_depends : (z z' : Scheme) → Spot N places (Function_let ps) (λ n. Unit {0}) (λ lo scope. AllLocal (λ n. n < lo) scope) z z' → Depends (λ n. n < z.first) z
  spot_depends z z' x = let r : Function_let ps x.term = x.ends in
      subst (λ (q : Scheme). Depends (λ n. n < q.first) q) x.is (subst (λ t. Depends (λ n. n < (scheme_along N places t x.first x.scope found).first) (scheme_along N places t x.first x.scope found)) (sym r.is)
      (let_depends N places (λ n. n < 1 + x.first) r.bound r.value x.first x.scope (up_to N places x.first (1 + x.first) x.scope (omega arith) x.holds)))

  depends : Depends (λ n. n < s.first) s
  depends = spot_depends s (scheme_along N places d.value at own_scope (and_body w)) (spot N places (Function_let ps) (λ n. Unit {0}) (λ lo scope. AllLocal (λ n. n < lo) scope) (locals N places) d.value at own_scope w ends (λ n i. tt) own_local)

  module _ (c : Sub) (F0 G : ℕ) (over : F0 ≤ G) (wide : parameter_limit ps ≤ G) (low : (n : ℕ) → D n → n < F0) (K : Kinds) (suits : Suits places K c ps) where
    abbrev B : Reading
    B = back N.shapes places ps c F0 G over wide

    abbrev I : Reading
    I = plain (λ n. Var n)

    good_B : Good places K K D F0 low B G
    good_B = good_back N places ps c F0 G over wide (one_label N are) K D low apart suits

    -- other types for its own
    spot_moves : (z z' : Scheme) → Spot N places (Function_let ps) D (Read N places K D F0 low B G good_B) z z' → (x : Sub) → z.typed (own_types places ps) K x → z.typed c K (image B x)
    spot_moves z z' y x =
        let r : Function_let ps y.term = y.ends in
        let few : (n : ℕ) → Declares r.value n → D n = λ n i. subst (λ t. (n : ℕ) → Declares_beside t found n → D n) r.is y.few n (inl i) in
        subst (λ (q : Scheme). q.typed (own_types places ps) K x → q.typed c K (image B x)) y.is
        (subst (λ t. (scheme_along N places t y.first y.scope found).typed (own_types places ps) K x → (scheme_along N places t y.first y.scope found).typed c K (image B x)) (sym r.is)
        (let_moves N places K D F0 low B G good_B r.bound r.value y.first y.scope few y.holds.0 y.holds.1 (own_types places ps) c B G good_B (omega arith) (extends_self G B)
        (subst (λ qs. Chosen places K K D F0 low qs (own_types places ps) c B G) (sym r.parameters) (own_back N places s c F0 G over wide (one_label N are) K)) x))

    moves : (x : Sub) → Program_typed N places (before ++ d ∷ after) K x → s.typed c K (image B x)
    moves x typed =
        let follows : Follows K K B G own_scope own_scope = follows_parameters K K B G d.parameters own own scope scope (chosen_own places K K D F0 low d.parameters B G good_B (λ n i. inr (inl i))) (follows_back N places ps c F0 G over wide (one_label N are) K D low apart suits before (λ n i. inl i)) in
        spot_moves s (scheme_along N places d.value at own_scope (and_body w)) (spot N places (Function_let ps) D (Read N places K D F0 low B G good_B) (reads N places K D F0 low B G good_B) d.value at own_scope w ends (λ n i. inr (inr (inl i))) (own_local, follows)) x
        (stands.gives K x (definition_in N places d after before 0 nothing K x typed).0.0.1).0

    -- what is lifted from its own types and the chosen ones
    abbrev half_typed : Sub → Kinds → Sub → Type 0
    half_typed = within.half_typed N places ps c F0 G over wide (one_label N are) K D low apart suits d.parameters d.name d.value lo scope scope w ends

    half_moves : AllLocal (λ n. n < lo) scope → joins.Joins N places ps c F0 G over wide (one_label N are) K I G scope scope scope
        → (x y z : Sub) (J : Reading) (H : ℕ) → Good places K K D F0 low J H → G ≤ H → Extends G I J → twice.Chosen N places ps c F0 G over wide (one_label N are) K D low apart d.parameters x y z J H
        → (a m : Sub) → outer.typed x K a → half_typed y K m → outer.typed z K (image J (pairs.two N places ps c F0 G over wide a m))
    half_moves local j x y z J H goodJ le ext chosen a m t t' =
        let further : joins.Joins N places ps c F0 G over wide (one_label N are) K J H scope scope scope = joins.joins_more N places ps c F0 G over wide (one_label N are) K I J G H scope scope scope le ext j in
        within.half_bound N places ps c F0 G over wide (one_label N are) K D low apart suits d.parameters d.name d.value lo scope scope w ends J H goodJ scope scope further local y a m
        (Typed N places d.value at (with_parameters d.parameters z scope) K (image J (pairs.two N places ps c F0 G over wide a m)))
        (within.within N places ps c F0 G over wide (one_label N are) K D low apart suits d.value at w ends J H goodJ ext le (λ n i. inr (inr (inl i))) (with_parameters d.parameters x scope) (with_parameters d.parameters y scope) (with_parameters d.parameters z scope)
        (local_parameters (λ n. n < at) d.parameters z scope (up_to N places lo at scope (omega arith) local)) (joins.joins_parameters N places ps c F0 G over wide (one_label N are) K J H d.parameters x y z scope scope scope chosen further) a m t.0.1 (t'.0, t'.1, t'.2.0.1, t'.3))
        t.0.0 t.1 t'

    module _ (a : Sub) (v : Variant s c K a) where
      same : Agree (Fixed s) a v.other
      same n f = sym (stays s c K a v n f)

      changed : AllLocal (λ n. n < lo) scope → joins.Joins N places ps c F0 G over wide (one_label N are) K I G scope scope scope → Generalised places outer K a → Changed N places ps c F0 G over wide (one_label N are) K D low apart d lo scope a v.other
      changed local j g =
          let safe : Good places K K D F0 low I G = good N places ps c F0 G over wide (one_label N are) K D low apart in
          let dep : Depends (λ n. n < lo) outer = definition_depends N places (λ n. n < lo) d lo scope local in record {
            same = λ n f. stays s c K a v n (within.around_fixed N places ps c F0 G over wide (one_label N are) K D low apart suits d.parameters d.name d.value lo scope scope w ends own n f);
            typed = twice.generalised_joins N places ps c F0 G over wide (one_label N are) K D low apart I G safe d.parameters lo (pattern_numbers d.name + numbers d.value) outer.free outer.typed half_typed outer.typed dep (half_moves local j) a v.other
                (half_moves local j own own own I G safe (omega arith) (extends_self G I) (twice.chosen_own N places ps c F0 G over wide (one_label N are) K D low apart d.parameters I G safe (λ n i. inr (inl i))) a v.other g.0 (a, same, g.0, v.typed)) g.1
                (λ y suited. within.half_variant N places ps c F0 G over wide (one_label N are) K D low apart suits d.parameters d.name d.value lo scope scope w ends own y a v.other same (g.1 y suited));
            used = λ n from to J su ext x y t t' u u'. twice.reused_joins N places ps c F0 G over wide (one_label N are) K D low apart I G safe d.parameters lo (pattern_numbers d.name + numbers d.value) outer.free outer.typed half_typed outer.typed dep (half_moves local j) n J su ext x y t t' u
                (within.half_used N places ps c F0 G over wide (one_label N are) K D low apart suits d.parameters d.name d.value lo scope scope w ends n from to y t' u');
          }

      lifts : Program_typed N places (before ++ d ∷ after) K a → Program_typed N places (before ++ d ∷ after) K (image I (pairs.two N places ps c F0 G over wide a v.other))
      lifts typing = let under : at < s.first = stands.low in
          lifted_typing N places ps c F0 G over wide (one_label N are) K D low apart d after (λ n i. inr (inr (inr i))) a v.other before 0 nothing (λ n i. inl i) (λ b K a a' t e u. absurd u) (record { uses = λ b J su e x y t t' u u'. absurd u; types = λ b J su e t t' u u'. absurd u })
          (λ n lt. sym (v.outside n (inl (omega arith)))) changed typing

  exchanges : (K : Kinds) (a : Sub) → Program_typed N places (before ++ d ∷ after) K a → Exchanges N places (before ++ d ∷ after) s D K a
  exchanges K a typing =
      let whole : behind before 0 + (pattern_numbers d.name + numbers d.value) ≤ 0 + program_numbers (before ++ d ∷ after) = whole_within N places d after before 0 in
      let up : s.first + s.many ≤ at + numbers d.value = stands.high in record {
        some = stands.some;
        whole = omega arith;
        depends = depends;
        lifts = λ c F0 G over wide low suits v. lifts c F0 G over wide low K suits a v typing;
        moves = λ c F0 G over wide low suits. moves c F0 G over wide low K suits;
      }

  D_below : Below D
  D_below = let x = program_below before in let y = program_below (d ∷ []) in let z = program_below after in (
    x.0 + y.0 + z.0,
    λ n. elim [
      | inl i ↦ (let lt : n < x.0 = x.1 n i in omega arith)
      | inr i ↦ elim i as (λ e. n < x.0 + y.0 + z.0) [
        | inl i ↦ (let lt : n < y.0 = y.1 n (inl i) in omega arith)
        | inr i ↦ elim i as (λ e. n < x.0 + y.0 + z.0) [ inl i ↦ (let lt : n < y.0 = y.1 n (inr (inl (beside_declared d.value w n i))) in omega arith) | inr i ↦ (let lt : n < z.0 = z.1 n i in omega arith) ]
      ]
    ],
  )

pub local_written_is_exact : LocalWrittenIsExact
local_written_is_exact N are places before after d w ps ends alone p K a typing t =
    let q = placed N places ps d.value (behind before 0 + pattern_numbers d.name) (with_parameters d.parameters (own_types places d.parameters) (scope_behind N places before 0 nothing)) w ends in
    let ends' : Ends_at (Function_let (local_behind N places before d w).parameters) d.value w = subst (λ qs. Ends_at (Function_let qs) d.value w) (sym q.parameters) ends in
    let alone' : Alone_within before d after w (local_behind N places before d w).parameters = subst (Alone_within before d after w) (sym q.parameters) alone in
    exact N are places (before ++ d ∷ after) (local_behind N places before d w) (D N are places before after d w ends' alone') (D_below N are places before after d w ends' alone') p K a typing (exchanges N are places before after d w ends' alone' K a typing) t
