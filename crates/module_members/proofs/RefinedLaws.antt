-- Types that are given by `with`.
use Rattle.std.proofs.Common.{◌≡◌, ℕ, zero, suc, ◌+◌, ◌<◌, ◌≤◌, ◌-◌, List, [], ◌∷◌, ◌++◌, map, length, reverse, slice_index_or, Option, Some, None, option_map, Result, Ok, Err, refl, sym, ap, ◌∙◌, subst, arith}
use Rattle.std.proofs.lemmas.List.{append_assoc, map-append, reverse-append}
use Rattle.std.specs.Borrow.{Bor}
use Rattle.fut_scalar.specs.declared.place.Place.{Place}
use Rattle.fut_scalar.specs.declared.scalar.ScalarType.TheVariants as scalar
use Rattle.fut_ast.specs.Sorts.{Text, Path}
use Rattle.fut_ast.specs.declared.module.With.{With as PlainWith}
use Rattle.fut_flat.specs.declared.prim.Ref.{Ref}
use Rattle.fut_flat.specs.declared.prim.Ref.TheVariants as ref
use Rattle.fut_tree.specs.declared.module.With.{With}
use Rattle.fut_tree.specs.ModTypes.{with_of, withs_of}
use Rattle.fut_tree.specs.Names.{names}
use Rattle.elab_scopes.specs.Names.{Refusal, Unbound, NoMember}
use Rattle.elab_scopes.specs.Scopes.{Module_ref, Member, type_member, module_member, Contents, members, members_of, module_in_module, or_deeper, type_inside}
use Rattle.elab_scopes.specs.Resolve.{after}
use Rattle.elab_scopes.specs.Table.{modules_in}
use Rattle.elab_scopes.specs.Declarations.{Given_type, Here, State, Step, from, given_in, last_name, left_open, new_module, open_or, refined, with_member, with_type, with_type_at, with_types}
use Rattle.elab_scopes.specs.declared.meanings.ModuleRef.{ModuleRef}
use Rattle.elab_scopes.specs.declared.modules.Contents.{Contents as HeldContents}
use Rattle.elab_scopes.specs.declared.refusal.Refusal.{Refusal as HeldRefusal}
use Rattle.elab_scopes.specs.declared.refusal.Refusal.TheVariants as held
use Rattle.elab_scopes.specs.declared.refusal.Stop.{Stop}
use Rattle.elab_scopes.specs.Answers.{viewed}
use Rattle.elab_scopes.specs.Held.{module_ref_of}
use Rattle.elab_scopes.specs.Modules.{contents_of, modules_of}
use Rattle.module_state.specs.declared.state.Declaring.{Declaring}
use Rattle.module_state.specs.declared.state.Given.{Given}
use Rattle.module_state.specs.Standing.{Stands, Does, does, given_of}
use Rattle.module_state.specs.Steps.{contents_in}
use Rattle.module_state.proofs.Stands.{same_step, same_where}
use Rattle.module_members.specs.Steps.{refined_once}
use Rattle.module_members.proofs.Steps.{in_state, nested, then_made}

-- ---- the last name of a path

pub last_at : (ps : List (Bor Text)) (n : ℕ) (d : Bor Text) → suc n ≡ length ps → (slice_index_or ps n d).now ≡ last_name (names ps)
last_at [] n d e = absurd (omega (arith, e))
last_at (p ∷ []) zero d e = refl
last_at (p ∷ []) (suc n) d e = absurd (omega (arith, e))
last_at (p ∷ q ∷ ps) zero d e = absurd (omega (arith, e))
last_at (p ∷ q ∷ ps) (suc n) d e = last_at (q ∷ ps) n d (omega (arith, e))

-- ---- types as definitions, the newest first

abbrev pub newest_before : List Given_type → List Given → List Given_type
newest_before older made = reverse (map given_of made) ++ older

abbrev pub type_step : Here → With → List Given_type → Step (List Given_type)
type_step h w gs s = after (with_type h (with_of w) s) (λ r s. Ok (record { path = names w.path.now; type = r } ∷ gs, s))

abbrev pub types_left : Here → List With → List Given_type → Step (List Given_type)
types_left h ws gs = with_types h (withs_of ws) gs

pub types_more : (h : Here) (w : With) (ws : List With) (gs : List Given_type) (s : State) → types_left h (w ∷ ws) gs s ≡ after (type_step h w gs s) (types_left h ws)
unfolding with_types
types_more h w ws gs s = sym (then_made (with_type h (with_of w) s) (λ r. record { path = names w.path.now; type = r } ∷ gs) (types_left h ws))

pub types_none : (h : Here) (gs : List Given_type) (s : State) → types_left h [] gs s ≡ Ok (gs, s)
unfolding with_types
types_none h gs s = refl

pub one_newer : (older : List Given_type) (made : List Given) (g : Given) → newest_before older (made ++ g ∷ []) ≡ given_of g ∷ newest_before older made
one_newer older made g = ap (λ l. reverse l ++ older) (map-append given_of made (g ∷ [])) ∙ ap (λ l. l ++ older) (reverse-append (map given_of made) (given_of g ∷ []))

reversed : {A B : Type 0} (f : A → B) (xs : List A) → map f (reverse xs) ≡ reverse (map f xs)
reversed f [] = refl
reversed f (x ∷ xs) = ap (map f) (reverse-append (x ∷ []) xs) ∙ map-append f (reverse xs) (x ∷ []) ∙ ap (λ l. l ++ f x ∷ []) (reversed f xs) ∙ sym (reverse-append (f x ∷ []) (map f xs))

pub all_newest : (made older all : List Given) → all ≡ reverse made ++ older → map given_of all ≡ newest_before (map given_of older) made
all_newest made older all e = ap (map given_of) e ∙ map-append given_of (reverse made) older ∙ ap (λ l. l ++ map given_of older) (reversed given_of made)

-- ---- what is behind a module type, one type after another

abbrev pub refined_left : Here → List With → Module_ref → Step Module_ref
refined_left h ws m = refined h m (withs_of ws)

pub refined_more : (h : Here) (w : With) (ws : List With) (m : Module_ref) (s : State) → refined_left h (w ∷ ws) m s ≡ after (refined_once h (with_of w) m s) (refined_left h ws)
unfolding refined
refined_more h w ws m s = sym (nested (from (left_open s.modules w.place m (names w.path.now)) s) _ _ ∙ ap (after (from (left_open s.modules w.place m (names w.path.now)) s)) (λ i r s. nested (with_type h (with_of w) s) (λ r. given_in m (names w.path.now) r) (refined_left h ws) i))

pub refined_none : (h : Here) (m : Module_ref) (s : State) → refined_left h [] m s ≡ Ok (m, s)
unfolding refined
refined_none h m s = refl

-- ---- a module with one more member

pub member_added : (a : Member) (m : Module_ref) (cs : List HeldContents) (c : HeldContents) (older all : List Member) {d d1 : Declaring} {r : Result ModuleRef Stop} → modules_of cs ≡ modules_in d.names → contents_of c ≡ contents_in (modules_of cs) m → older ≡ members_of (contents_of c) → all ≡ a ∷ older
    → Does module_ref_of (new_module (members all)) d d1 r → Does module_ref_of (with_member a m) d d1 r
member_added a m cs c older all {d} same is e more w = same_where module_ref_of (new_module (members all)) (with_member a m) (λ s st.
    ap (λ l. new_module (members l) s) (ap (λ l. a ∷ l) (ap members_of (in_state s m ∙ ap (λ z. contents_in z m) (sym st.modules) ∙ ap (λ z. contents_in z m) (sym same) ∙ sym is) ∙ sym e) ∙ sym more)) w

-- ---- a module with another type at a path

pub at_end : (m : Module_ref) (x : Text) (r : Ref) {d d1 : Declaring} {q : Result ModuleRef Stop} → Does module_ref_of (with_member (type_member x r) m) d d1 q → Does module_ref_of (with_type_at m x [] r) d d1 q
unfolding with_type_at
at_end m x r w = same_step module_ref_of (with_member (type_member x r) m) (with_type_at m x [] r) (λ s. refl) w

abbrev pub behind_module : Module_ref → Text → Module_ref → Step Module_ref
behind_module m x n = with_member (module_member x n) m

module _ (m : Module_ref) (x y : Text) (ys : Path) (r : Ref) {d : Declaring} (cs : List HeldContents) (same : modules_of cs ≡ modules_in d.names) (o : Option ModuleRef) (is : option_map module_ref_of o ≡ module_in_module (modules_of cs) m x) where
  found : (s : State) → Stands d s → module_in_module s.modules m x ≡ option_map module_ref_of o
  found s st = ap (λ z. module_in_module z m x) (sym st.modules) ∙ ap (λ z. module_in_module z m x) (sym same) ∙ sym is

  pub deeper_at : (n : ModuleRef) {d1 : Declaring} {q : Result ModuleRef Stop} → o ≡ Some n → Does module_ref_of (λ s. after (with_type_at (module_ref_of n) y ys r s) (behind_module m x)) d d1 q → Does module_ref_of (with_type_at m x (y ∷ ys) r) d d1 q
  unfolding with_type_at
  deeper_at n e w = same_where module_ref_of (λ s. after (with_type_at (module_ref_of n) y ys r s) (behind_module m x)) (with_type_at m x (y ∷ ys) r) (λ s st.
      ap (λ z. or_deeper z (λ n. after (with_type_at n y ys r s) (λ n s. with_member (module_member x n) m s)) (Ok (m, s))) (found s st ∙ ap (option_map module_ref_of) e)) w

  pub not_there : (n : ModuleRef) → o ≡ None → m ≡ module_ref_of n → Does module_ref_of (with_type_at m x (y ∷ ys) r) d d (Ok n)
  unfolding with_type_at
  not_there n e i = does (λ s st. record { state = s; is = ap (λ z. or_deeper z (λ n. after (with_type_at n y ys r s) (λ n s. with_member (module_member x n) m s)) (Ok (m, s))) (found s st ∙ ap (option_map module_ref_of) e) ∙ ap (λ z. Ok (z, s)) i; stands = st })
