-- What is known behind a pattern that took a value, and lets: what names stand for leaves with them.
use Rattle.std.proofs.Common.{◌≡◌, ◌⊎◌, ℕ, suc, ◌+◌, ◌≤◌, List, [], ◌∷◌, Bool, true, false, cond, nat_eq, Some, Ok, Err, refl, sym, subst, arith, inl, inr}
use Rattle.fut_flat.specs.Numbers.{pattern_numbers}
use Rattle.fut_flat.specs.Erased.{FlatPattern}
use Rattle.fut_types.specs.declared.Kind.{Kind}
use Rattle.fut_types.specs.Types.{Sub, Kinds}
use Rattle.fut_typing.specs.Names.{Names}
use Rattle.sized_types.specs.Sizes.{Free, Const, Name, Own, Unknown, Slot, Dim, At, Bound, Variable, Size, renamed, takes}
use Rattle.sized_types.specs.Standing.{stands}
use Rattle.fut_sizes.specs.Agreeing.{Answer, left, leave, names_one, leaving, Escapes, is_among}
use Rattle.fut_sizes.specs.Functions.{is_slot}
use Rattle.fut_sizes.specs.Rules.{taken_by}
use Rattle.fut_sizes.specs.Scopes.{Scope, names}
use Rattle.fut_sizes.specs.Scoping.{Context, with_pattern}
use Rattle.fut_sizes.specs.Suiting.{Each, Scoped, Data}
use Rattle.sizes_meet_rules.specs.Known.{Says, Is_const, Judged, Elsewhere}
use Rattle.sizes_meet_rules.specs.Plain.{Plain_pattern}
use Rattle.sizes_meet_rules.proofs.Meeting.{each_scoped, same_ok, refused_ok, Met_in, With_met, met_no_slot, met_outside, In_nodes, elsewhere_narrower}
use Rattle.sizes_meet_rules.proofs.Naming.{Named_by, Stands_there, each_stands, Name_there, named_there, named_no_slot, judged_all, judged_with}
use Rattle.sizes_meet_rules.proofs.Settling.{Any_variable}
use Rattle.fut_sizes.specs.Rules.{Each_hole}
use Rattle.sizes_meet_rules.proofs.Replacing.{each_both, each_as}
use Rattle.sizes_meet_rules.proofs.Taking.{Has_parts, bound_scope, Nodes}

-- ---- leaving a scope

pub record Leaves (n : ℕ) (xs : List ℕ) (t r : Size) : Type 0 where
  pub no_parameter : takes (names_one xs) t ≡ false
  pub result : r ≡ renamed (leave n xs) t

pub leaves : (n : ℕ) (xs : List ℕ) (t r : Size) → leaving n xs t ≡ Ok r → Leaves n xs t r
unfolding leaving
leaves n xs t r e = by_names (takes (names_one xs) t) refl e
  where
    by_names : (b : Bool) → takes (names_one xs) t ≡ b → ◌≡◌ {A = Answer Size} (cond b (Err (Escapes n)) (Ok (renamed (leave n xs) t))) (Ok r) → Leaves n xs t r
    by_names true q e = refused_ok e
    by_names false q e = record { no_parameter = q; result = sym (same_ok e) }

-- a name becomes an unknown where it leaves, else it stays
pub left_name : (n : ℕ) (xs : List ℕ) (i b : ℕ) → ((j : ℕ) × (left n i xs b ≡ Unknown n j)) ⊎ ((left n i xs b ≡ Name b) × (is_among xs b ≡ false))
left_name n [] i b = inr (refl, refl)
left_name n (x ∷ xs) i b = by_name (nat_eq b x) (left_name n xs (suc i) b)
  where
    by_name : (c : Bool) → ((j : ℕ) × (left n (suc i) xs b ≡ Unknown n j)) ⊎ ((left n (suc i) xs b ≡ Name b) × (is_among xs b ≡ false)) → ((j : ℕ) × (cond c (Unknown n i) (left n (suc i) xs b) ≡ Unknown n j)) ⊎ ((cond c (Unknown n i) (left n (suc i) xs b) ≡ Name b) × (cond c true (is_among xs b) ≡ false))
    by_name true r = inl (i, refl)
    by_name false r = r

pub not_taken : (what : ℕ → Free) (d : Free) → taken_by what [] d ≡ d
not_taken what (Const c) = refl
not_taken what (Name b) = refl
not_taken what (Own n i) = refl
not_taken what (Unknown n i) = refl
not_taken what (Slot i) = refl

module _ (N : Names) (types : Sub) (home : ℕ → ℕ) (K : Kinds) (places : Kind) where
  module _ (In : Free → Type 0) (Vars : Variable → Type 0) (scope : Scope) (p : FlatPattern) (t : Size) (lo q from at hi : ℕ) where
    -- behind the value, whose nodes go from one on, up to another: the sizes that it shows, and the names that are numbers
    abbrev pub Behind : Free → Type 0
    Behind d = In d ⊎ ((Met_in from at d × ((stands t d ≡ true) ⊎ Is_const d)) ⊎ Named_by N p t d)

    seen : (d : Free) → With_met In from at d → (stands t d ≡ true) → Behind d
    seen d (inl i) h = inl i
    seen d (inr i) h = inr (inl (i, inl h))

    -- the value says nothing else
    pub value_behind : Says (With_met In from at) Vars t → Data t → Says Behind Vars t
    value_behind h k = record { sizes = each_as (λ j d. Scoped (With_met In from at) j d × Scoped (λ x. stands t x ≡ true) j d) (Scoped Behind) both t 0 (each_both (Scoped (With_met In from at)) (Scoped (λ x. stands t x ≡ true)) t 0 h.sizes (each_stands (With_met In from at) (λ x. stands t x ≡ true) t k h.sizes (λ x e. e))); variables = h.variables; formed = h.formed }
      where
        both : (j : ℕ) (d : Dim) → Scoped (With_met In from at) j d × Scoped (λ x. stands t x ≡ true) j d → Scoped Behind j d
        both j (At x) o = seen x o.0 o.1
        both j (Bound k i) o = o.0

    -- a function says what was known before it
    pub function_behind : Says (With_met In from at) Vars t → Each (Scoped (λ d. In d ⊎ Is_const d)) 0 t → Says Behind Vars t
    function_behind h k = record { sizes = each_scoped (λ d. In d ⊎ Is_const d) Behind known_there t 0 k; variables = h.variables; formed = h.formed }
      where
        constant : (d : Free) → Is_const d → Behind d
        constant (Const c) i = inr (inl (tt, inr tt))
        constant (Name c) i = absurd i
        constant (Own n j) i = absurd i
        constant (Unknown n j) i = absurd i
        constant (Slot j) i = absurd i

        known_there : (d : Free) → In d ⊎ Is_const d → Behind d
        known_there d (inl i) = inl i
        known_there d (inr i) = constant d i

    module _ (plain : Plain_pattern types home K places p q) (l0 : lo ≤ q) (l : q + pattern_numbers p ≤ at) (l3 : at ≤ hi) (E : Elsewhere N types home lo hi In) where
      named_elsewhere : (d : Free) → Named_by N p t d → (lo' hi' : ℕ) → (q + pattern_numbers p ≤ lo') ⊎ (hi' ≤ q) → In_nodes N types home lo' hi' d → ⊥
      named_elsewhere d n lo' hi' a i = by_name (named_there types home K places N p q plain t d n) a
        where
          by_name : Name_there types home K places q (q + pattern_numbers p) d → (q + pattern_numbers p ≤ lo') ⊎ (hi' ≤ q) → ⊥
          by_name (b, e, (x, y)) (inl z) = let w = subst (λ x. In_nodes N types home lo' hi' x) e i in let v = w.0 in omega (arith, z, y, v)
          by_name (b, e, (x, y)) (inr z) = let w = subst (λ x. In_nodes N types home lo' hi' x) e i in let v = w.1 in omega (arith, z, x, v)

      behind_no_slot : (d : Free) → Behind d → is_slot d ≡ false
      behind_no_slot d (inl i) = E.no_slot d i
      behind_no_slot d (inr (inl i)) = met_no_slot from at d i.0
      behind_no_slot d (inr (inr i)) = named_no_slot types home K places N p q plain t d i

      pub behind_outside : (lo' hi' : ℕ) → lo ≤ lo' → hi' ≤ hi → (at ≤ lo') ⊎ ((hi' ≤ q) × (hi' ≤ from)) → (d : Free) → Behind d → In_nodes N types home lo' hi' d → ⊥
      behind_outside lo' hi' a b c d (inl i) o = (elsewhere_narrower N types home lo hi lo' hi' In a b E).outside d i o
      behind_outside lo' hi' a b c d (inr (inl i)) o = met_outside N types home from at lo' hi' (by_side c) d i.0 o
        where
          by_side : (at ≤ lo') ⊎ ((hi' ≤ q) × (hi' ≤ from)) → (at ≤ lo') ⊎ (hi' ≤ from)
          by_side (inl x) = inl x
          by_side (inr x) = inr x.1
      behind_outside lo' hi' a b c d (inr (inr i)) o = named_elsewhere d i lo' hi' (by_side c) o
        where
          by_side : (at ≤ lo') ⊎ ((hi' ≤ q) × (hi' ≤ from)) → (q + pattern_numbers p ≤ lo') ⊎ (hi' ≤ q)
          by_side (inl x) = inl (omega (arith, x, l))
          by_side (inr x) = inr x.0

      pub behind_elsewhere : Elsewhere N types home at hi Behind
      behind_elsewhere = record { no_slot = behind_no_slot; outside = λ d i o. behind_outside at hi (omega (arith, l0, l)) (omega arith) (inl (omega arith)) d i o }

      -- what the rules know behind the value
      pub behind_judged : (s : ℕ → Size) (G : Context) → Has_parts N p t → Each_hole Any_variable t → Judged In Vars scope G → Nodes N p q t s → Judged Behind Vars (bound_scope N p t scope) (with_pattern s p q G)
      behind_judged s G parts closed J nodes = judged_all Behind Vars (bound_scope N p t scope) (with_pattern s p q G) (judged_with N types K places Behind Vars home s [] In Vars p q plain t parts nodes scope G
          (λ b i h. E.outside (Name b) i (let x = h.0 in let y = h.1 in (omega (arith, x, l0), omega (arith, y, l, l3)))) split (λ v i. inl i) known J.none_open closed J.finds J.finds_types)
        where
          known : (b : ℕ) (g : Bool) (u : Size) → false ≡ false → is_among (names p) b ≡ false → scope b ≡ Some (record { size = u; is_general = g }) → cond g (G.schemes b) (G.sizes b) ≡ Some u
          known b true u k n z = J.schemes b u z
          known b false u k n z = J.sizes b u z

          met_there : (d : Free) → Met_in from at d → (stands t d ≡ true) ⊎ Is_const d → Stands_there (names p) t d ⊎ (Named_by N p t d ⊎ Is_const d)
          met_there (Const c) m h = inr (inr tt)
          met_there (Name c) m h = absurd m
          met_there (Own n i) m h = absurd m
          met_there (Slot i) m h = absurd m
          met_there (Unknown n i) m (inr h) = absurd h
          met_there (Unknown n i) m (inl h) = inl (h, λ b z. absurd (let y : Unknown n i ≡ Name b = z in cc))

          split : (d : Free) → Behind d → In d ⊎ (Stands_there (names p) t d ⊎ (Named_by N p t d ⊎ Is_const d))
          split d (inl i) = inl i
          split d (inr (inl i)) = inr (met_there d i.0 i.1)
          split d (inr (inr i)) = inr (inr (inl i))
