-- Definitions, and lets that are written as functions.
use Rattle.std.proofs.Common.{◌≡◌, ℕ, ◌+◌, ◌≤◌, ◌<◌, true, List, [], ◌∷◌, ◌++◌, length, refl, sym, ◌∙◌, subst, arith}
use mathlib.Core.Logic.{inl, inr}
use Rattle.fut_ast.specs.Sorts.{Text}
use Rattle.fut_scalar.specs.declared.place.BindId.{BindId}
use Rattle.fut_types.specs.declared.Kind.{Kind}
use Rattle.fut_flat.specs.declared.exp.Let.{Let as LetTree}
use Rattle.fut_flat.specs.declared.prim.Ref.{Ref}
use Rattle.fut_flat.specs.Terms.{Bound_pattern, Wild_pattern, Tuple_pattern, Record_pattern, Typed_pattern, Patterns, Parameter}
use Rattle.fut_flat.specs.Numbers.{numbers}
use Rattle.fut_flat.specs.Erased.{FlatPattern, FlatTerm, FlatType, Row, parameters, pattern_of, term_of}
use Rattle.fut_flat.proofs.ErasedForms.{row_of, row_is}
use Rattle.fut_typing.specs.Rows.{behind}
use Rattle.fut_typing.specs.Typing.{Function_name}
use Rattle.type_graph.specs.Graph.{far, Each}
use Rattle.type_rules.specs.declared.demand.Demand.TheVariants as demand
use Rattle.type_rules.specs.Demands.{All_met, All_allow}
use Rattle.type_graph.specs.Claims.{Sound}
use Rattle.type_scopes.specs.declared.Inference.{Inference}
use Rattle.type_scopes.specs.declared.names.Past.{Past}
use Rattle.type_scopes.specs.Table.{seat_at, undone}
use Rattle.type_scopes.specs.Scopes.{Claim, Claimed, Homes, Later, Opened, Refused, Safe}
use Rattle.type_scopes.proofs.Going.{ready_on}
use Rattle.type_scopes.proofs.Claiming.{claimed_then, refused_as, refused_low, refused_then}
use Rattle.type_scopes.proofs.Opening.{more_same, opened_as, taken_back}
use Rattle.type_scopes.specs.Definitions.{Definition_claim, Definition_homes, Escapes, Generalises, env_definition, named}
use Rattle.type_scopes.specs.Parameters.{Meets_all}
use Rattle.type_scopes.proofs.Gone.{Value_claim, Value_homes, behind_later, definition_opened, escape_refused, own_nodes, value_refused}
use Rattle.type_scopes.proofs.Gone.{behind as put_back}
use Rattle.type_scopes.proofs.Meeting.{all_later, all_more}
use Rattle.type_schemes.specs.Uses.{type_numbers}
use Rattle.type_constraints.specs.Parts.{Term_claim, Term_homes, Constrained, Unconstrained, Unruled, Row_claim, Row_homes, env_row}
use Rattle.type_constraints.proofs.Depending.{depends_term}
use Rattle.type_constraints.proofs.Forms.{anywhere, ruled, unruled}
use Rattle.type_constraints.proofs.Values.{same_allowed, same_says}

module _ (places : Kind) (base d lo : ℕ) (b : BindId) (ps : List (Parameter BindId)) (v : FlatTerm) (i0 i1 : Inference) (s : Safe base i0) (m : Meets_all places base (1 + d) ps i0 i1) (room : 1 + d < far) where
  abbrev pub claim : Claim
  claim = Definition_claim places (named b ps v) lo

  abbrev pub homes : Homes
  homes = Definition_homes d (named b ps v) lo

  abbrev same : Claim
  same N scope K a = a lo ≡ a (1 + lo)

  abbrev mid : ℕ
  mid = 1 + lo + numbers v

  definition_err1 : (i2 : Inference) → Unconstrained places base (1 + d) (1 + lo) v i1 i2 → Refused places base d lo claim homes i0 i2
  definition_err1 i2 c = value_refused places base d lo b ps v i0 i1 i2 s m room
      (refused_as places base (1 + d) (1 + lo) (Term_claim places v (1 + lo)) (Value_claim places v lo) (Term_homes (1 + d) v (1 + lo)) (Value_homes (1 + d) v lo) i1 i2 (λ N E K a h. h.0) (λ home h. h) c)

  module _ (i2 i3 : Inference) (c : Constrained places base (1 + d) (1 + lo) v i1 i2) where
    safe1 : Safe base i1
    safe1 = (all_later places base (1 + d) ps i0 i1 s m).safe

    definition_err2 : ((places : Kind) (d lo' : ℕ) → Refused places base d lo' (λ N scope K a. All_met N.shapes K a (demand.Same lo (1 + lo) ∷ [])) (λ home. All_allow home (demand.Same lo (1 + lo) ∷ [])) i2 i3) → Refused places base d lo claim homes i0 i3
    definition_err2 r = value_refused places base d lo b ps v i0 i1 i3 s m room
        (refused_then places base (1 + d) (1 + lo) mid (Term_claim places v (1 + lo)) same (Value_claim places v lo) (Term_homes (1 + d) v (1 + lo)) anywhere (Value_homes (1 + d) v lo) i1 i2 i3 safe1 (omega arith) (depends_term places v (1 + lo) mid refl)
        (λ N E K a h. h) (λ home h. (h, tt)) c (unruled places base (1 + d) mid (demand.Same lo (1 + lo) ∷ []) (λ K a. a lo ≡ a (1 + lo)) (same_says lo (1 + lo)) (same_allowed lo (1 + lo)) i2 i3 (r places (1 + d) mid)))

    module _ (r : (places : Kind) (d lo' : ℕ) → Claimed places base d lo' (λ N scope K a. All_met N.shapes K a (demand.Same lo (1 + lo) ∷ [])) (λ home. All_allow home (demand.Same lo (1 + lo) ∷ [])) i2 i3) (inside : lo + (1 + numbers v) ≤ base) where
      value : Claimed places base (1 + d) (1 + lo) (Value_claim places v lo) (Value_homes (1 + d) v lo) i1 i3
      value = claimed_then places base (1 + d) (1 + lo) mid (Term_claim places v (1 + lo)) same (Value_claim places v lo) (Term_homes (1 + d) v (1 + lo)) anywhere (Value_homes (1 + d) v lo) i1 i2 i3 safe1 (omega arith) (depends_term places v (1 + lo) mid refl)
          (λ N E K a h. h) (λ home h. (h, tt)) c (λ N E K a p q. (p, q)) (ruled places base (1 + d) mid (demand.Same lo (1 + lo) ∷ []) (λ K a. a lo ≡ a (1 + lo)) (same_says lo (1 + lo)) (same_allowed lo (1 + lo)) i2 i3 (r places (1 + d) mid))

      -- the names of its parameters are taken back
      module _ (i4 : Inference) (back : (before added : List Past) → i3.past ≡ before ++ added → length before ≡ length i0.past → i4 ≡ record i3 { names = undone added i3.names; past = before }) (own : List ℕ) (eo : own ≡ type_numbers ps) where
        is : i4 ≡ put_back places base d lo b ps v i0 i1 i3 s m room value inside
        is = taken_back i0 i3 i4 (more_same i0 i1 i3 (all_more places base (1 + d) ps i0 i1 s m) value.same) back

        later4 : Later base i0 i4
        later4 = subst (λ (i : Inference). Later base i0 i) (sym is) (behind_later places base d lo b ps v i0 i1 i3 s m room value inside)

        pub definition_sound : Sound i4.table i4.nodes i4.entries
        definition_sound = later4.safe.sound

        pub definition_root : lo < length i4.nodes
        definition_root = let z : base ≤ length i4.nodes = later4.safe.inside in omega arith

        pub definition_own : Each (λ n. (seat_at i4.seats n).node < length i4.nodes) own
        definition_own = subst (λ ns. Each (λ n. (seat_at i4.seats n).node < length i4.nodes) ns) (sym eo) (subst (λ (i : Inference). Each (λ n. (seat_at i.seats n).node < length i.nodes) (type_numbers ps)) (sym is) (own_nodes places base d lo b ps v i0 i1 i3 s m room value inside))

        pub definition_err3 : (i6 : Inference) → Escapes own d i4 → i6 ≡ i4 → Refused places base d lo claim homes i0 i6
        definition_err3 i6 x e = escape_refused places base d lo b ps v i0 i1 i3 s m room value inside i6 (e ∙ is) (subst (λ (i : Inference). Escapes (type_numbers ps) d i) is (subst (λ ns. Escapes ns d i4) eo x))

        pub definition_ok : (i6 : Inference) → Generalises own lo d b.0 i4 i6 → Opened places base d lo (lo + (1 + numbers v)) claim homes (env_definition (named b ps v) lo) i0 i6
        definition_ok i6 g = definition_opened places base d lo b ps v i0 i1 i3 s m room value inside i6 (subst (λ (i : Inference). Generalises (type_numbers ps) lo d b.0 i i6) is (subst (λ ns. Generalises ns lo d b.0 i4 i6) eo g))

  pub definition_unruled : (i3 : Inference) → Unruled places base (1 + d) (1 + lo) v (demand.Same lo (1 + lo) ∷ []) i1 i3 → Refused places base d lo claim homes i0 i3
  definition_unruled i3 (inl u) = definition_err1 i3 u
  definition_unruled i3 (inr w) = definition_err2 w.0 i3 w.1.0 w.1.1

-- a let that is written as a function
abbrev pub function_row : List BindId → List (Parameter BindId) → FlatPattern → FlatTerm → Row
function_row sizes ps p v = (record { sizes = sizes; parameters = ps; is_function = true; pattern = p }, v)

pub function_is : (l : LetTree) → l.is_function ≡ true → row_of l ≡ function_row l.sizes.now (parameters l.heads.now) (pattern_of l.pat) (term_of l.value)
function_is l f = row_is l ∙ (λ k. (record { sizes = l.sizes.now; parameters = parameters l.heads.now; is_function = f k; pattern = pattern_of l.pat }, term_of l.value))

-- only a name without size names is a function's
pub no_sizes : (sizes : List BindId) (p : FlatPattern) → 0 < length sizes → Function_name sizes p → ⊥
no_sizes [] p lt h = absurd (omega arith)
no_sizes (b ∷ sizes) p lt h = h

pub no_wild : (sizes : List BindId) → Function_name sizes Wild_pattern → ⊥
no_wild [] h = h
no_wild (b ∷ sizes) h = h

pub no_tuple : (sizes : List BindId) (qs : Patterns Ref BindId) → Function_name sizes (Tuple_pattern qs) → ⊥
no_tuple [] qs h = h
no_tuple (b ∷ sizes) qs h = h

pub no_record : (sizes : List BindId) (fs : List Text) (qs : Patterns Ref BindId) → Function_name sizes (Record_pattern fs qs) → ⊥
no_record [] fs qs h = h
no_record (b ∷ sizes) fs qs h = h

pub no_typed : (sizes : List BindId) (p : FlatPattern) (t : FlatType) → Function_name sizes (Typed_pattern p t) → ⊥
no_typed [] p t h = h
no_typed (b ∷ sizes) p t h = h

module _ (places : Kind) (base d lo : ℕ) (l : LetTree) (f : l.is_function ≡ true) (i : Inference) where
  pub function_refused : Safe base i → (Function_name l.sizes.now (pattern_of l.pat) → ⊥) → Refused places base d lo (Row_claim places (row_of l) lo) (Row_homes d (row_of l) lo) i i
  function_refused s none = subst (λ (r : Row). Refused places base d lo (Row_claim places r lo) (Row_homes d r lo) i i) (sym (function_is l f)) (record { labels = s.labels; reads = λ N T born r. r; nowhere = λ N T home born E r rd h pl K a p g. none g.0 })

  module _ (b : BindId) (is : pattern_of l.pat ≡ Bound_pattern b) (bare : length l.sizes.now ≡ 0) (i' : Inference) where
    abbrev row : Row
    row = function_row [] (parameters l.heads.now) (Bound_pattern b) (term_of l.value)

    row_bound : row_of l ≡ row
    row_bound = function_is l f ∙ (λ k. function_row (none l.sizes.now bare k) (parameters l.heads.now) (is k) (term_of l.value))
      where
        none : (bs : List BindId) → length bs ≡ 0 → bs ≡ []
        none [] h = refl
        none (x ∷ bs) h = absurd (omega arith)

    pub row_numbers : behind (row_of l) lo ≡ 1 + lo + (1 + numbers (term_of l.value))
    row_numbers = (λ k. behind (row_bound k) lo) ∙ omega arith

    row_homes : (home : ℕ → ℕ) → Row_homes d row lo home → Definition_homes d (named b (parameters l.heads.now) (term_of l.value)) (1 + lo) home
    row_homes home h = (h.0, (h.1.1, h.1.2))

    pub function_err : Refused places base d (1 + lo) (Definition_claim places (named b (parameters l.heads.now) (term_of l.value)) (1 + lo)) (Definition_homes d (named b (parameters l.heads.now) (term_of l.value)) (1 + lo)) i i' → Refused places base d lo (Row_claim places (row_of l) lo) (Row_homes d (row_of l) lo) i i'
    function_err c = subst (λ (r : Row). Refused places base d lo (Row_claim places r lo) (Row_homes d r lo) i i') (sym row_bound)
        (refused_as places base d lo (Definition_claim places (named b (parameters l.heads.now) (term_of l.value)) (1 + lo)) (Row_claim places row lo) (Definition_homes d (named b (parameters l.heads.now) (term_of l.value)) (1 + lo)) (Row_homes d row lo) i i' (λ N E K a h. h.1) row_homes
        (refused_low places base d lo (1 + lo) (Definition_claim places (named b (parameters l.heads.now) (term_of l.value)) (1 + lo)) (Definition_homes d (named b (parameters l.heads.now) (term_of l.value)) (1 + lo)) i i' (omega arith) c))

    pub function_ok : Opened places base d (1 + lo) (1 + lo + (1 + numbers (term_of l.value))) (Definition_claim places (named b (parameters l.heads.now) (term_of l.value)) (1 + lo)) (Definition_homes d (named b (parameters l.heads.now) (term_of l.value)) (1 + lo)) (env_definition (named b (parameters l.heads.now) (term_of l.value)) (1 + lo)) i i'
        → Opened places base d lo (behind (row_of l) lo) (Row_claim places (row_of l) lo) (Row_homes d (row_of l) lo) (env_row (row_of l) lo) i i'
    function_ok x = subst (λ m. Opened places base d lo m (Row_claim places (row_of l) lo) (Row_homes d (row_of l) lo) (env_row (row_of l) lo) i i') (sym row_numbers)
        (subst (λ (r : Row). Opened places base d lo (1 + lo + (1 + numbers (term_of l.value))) (Row_claim places r lo) (Row_homes d r lo) (env_row r lo) i i') (sym row_bound)
        (opened_as places base d lo (1 + lo + (1 + numbers (term_of l.value))) (Definition_claim places (named b (parameters l.heads.now) (term_of l.value)) (1 + lo)) (Row_claim places row lo) (Definition_homes d (named b (parameters l.heads.now) (term_of l.value)) (1 + lo)) (Row_homes d row lo)
        (env_definition (named b (parameters l.heads.now) (term_of l.value)) (1 + lo)) (env_row row lo) i i' (λ N E K a h. (h.1, tt)) (λ N E K a p q. (tt, p)) row_homes refl (low x)))
      where
        low : Opened places base d (1 + lo) (1 + lo + (1 + numbers (term_of l.value))) (Definition_claim places (named b (parameters l.heads.now) (term_of l.value)) (1 + lo)) (Definition_homes d (named b (parameters l.heads.now) (term_of l.value)) (1 + lo)) (env_definition (named b (parameters l.heads.now) (term_of l.value)) (1 + lo)) i i'
            → Opened places base d lo (1 + lo + (1 + numbers (term_of l.value))) (Definition_claim places (named b (parameters l.heads.now) (term_of l.value)) (1 + lo)) (Definition_homes d (named b (parameters l.heads.now) (term_of l.value)) (1 + lo)) (env_definition (named b (parameters l.heads.now) (term_of l.value)) (1 + lo)) i i'
        low y = record {
          later = y.later;
          more = y.more;
          adds = λ N T home born E r rd h. y.adds N T home born E r (ready_on N places T home born base E d lo i (1 + lo) (omega arith) rd) h;
          ready = λ N T home born E r rd h. y.ready N T home born E r (ready_on N places T home born base E d lo i (1 + lo) (omega arith) rd) h;
        }
