-- Patterns of parts in a row, and patterns with written types.
use Rattle.std.proofs.Common.{◌≡◌, ℕ, ◌+◌, ◌*◌, ◌≤◌, ◌<◌, List, [], ◌∷◌, ◌++◌, length, map, take, slice_index_or, refl, sym, ◌∙◌, ap, subst, arith, append_assoc, Bor}
use mathlib.Core.Logic.{◌⊎◌, inl, inr}
use Rattle.fut_scalar.specs.declared.place.BindId.{BindId}
use Rattle.fut_types.specs.declared.Kind.{Kind}
use Rattle.fut_ast.specs.Sorts.{Text}
use Rattle.fut_types.specs.Types.{Sub, Kinds}
use Rattle.fut_flat.specs.declared.prim.Ref.{Ref}
use Rattle.fut_flat.specs.Terms.{Record_pattern, Typed_pattern, Patterns}
use Rattle.fut_flat.specs.Numbers.{pattern_numbers, all_pattern_numbers}
use Rattle.fut_flat.specs.declared.pat.Pat.{Pat}
use Rattle.fut_flat.specs.declared.pat.PatField.{PatField, fold_out-PatField}
use Rattle.fut_flat.specs.declared.pat.PatForm.TheVariants as form
use Rattle.fut_flat.specs.Erased.{FlatType, FlatPattern, pattern_form, pattern_of, patterns, texts}
use Rattle.fut_flat.proofs.ErasedPatterns.{pattern_field}
use Rattle.fut_typing.specs.Names.{IsRecord, Names}
use Rattle.fut_typing.specs.Scopes.{Scope}
use Rattle.fut_typing.specs.Patterns.{pattern_types, Pattern_typed, Patterns_typed}
use Rattle.fut_typing.specs.Homes.{Env, Needs, At_home, scope_of}
use Rattle.fut_typing.proofs.Local.{all_local_more, patterns_same}
use Rattle.fut_typing.proofs.Cong.{scope_local}
use Rattle.type_graph.specs.Claims.{types_of}
use Rattle.type_scopes.specs.declared.Inference.{Inference}
use Rattle.type_patterns.specs.Asking.{Type_claim}
use Rattle.type_patterns.proofs.Forms.{Making, texts_next}
use Rattle.type_patterns.proofs.Rows.{map_next}
use Rattle.type_scopes.specs.Scopes.{Claim, Homes, Safe, Claimed, Refused, Depends, field_pattern}
use Rattle.type_scopes.proofs.Claiming.{depends_wider, claimed_low, claimed_none, claimed_then, refused_as, refused_low, refused_then}
use Rattle.type_scopes.proofs.Binding.{record_is, weigh, weigh_all, falls_in}
use Rattle.type_constraints.specs.Parts.{Pattern_claim, Patterns_claim, pattern_name, pattern_starts}
use Rattle.type_constraints.proofs.Depending.{depends_pattern}
use Rattle.type_constraints.proofs.Functions.{no_numbers, numbers_split, starts_more, append_none, types_are}

depends_patterns : (places : Kind) (ps : Patterns Ref BindId) (lo hi : ℕ) → hi ≡ lo + all_pattern_numbers ps → Depends places (Patterns_claim places ps lo) lo hi
depends_patterns places ps lo hi e N E K a b same h = patterns_same (λ n. Needs E n ⊎ ((lo ≤ n) × (n < hi))) N places K a b same ps lo (scope_of N places E) (all_local_more (Needs E) (λ n. Needs E n ⊎ ((lo ≤ n) × (n < hi))) (scope_of N places E) (λ n m. inl m) (scope_local N places E))
    (λ n x y. inr (x, omega arith)) h

-- a row, split at one
module _ (N : Names) (places : Kind) (K : Kinds) (a : Sub) (scope : Scope) where
  patterns_split : (qs : List FlatPattern) (p : FlatPattern) (rs : List FlatPattern) (lo : ℕ) → Patterns_typed N places K a (patterns (qs ++ p ∷ rs)) lo scope → Patterns_typed N places K a (patterns qs) lo scope × Pattern_typed N places K a p (lo + all_pattern_numbers (patterns qs)) scope
  unfolding patterns
  patterns_split [] p rs lo h = (tt, subst (λ m. Pattern_typed N places K a p m scope) (let e : lo ≡ lo + 0 = omega arith in e) h.0)
  patterns_split (q ∷ qs) p rs lo h = let w = patterns_split qs p rs (lo + pattern_numbers q) h.1 in
      ((h.0, w.0), subst (λ m. Pattern_typed N places K a p m scope) (let e : lo + pattern_numbers q + all_pattern_numbers (patterns qs) ≡ lo + (pattern_numbers q + all_pattern_numbers (patterns qs)) = omega arith in e) w.1)

  patterns_join : (qs : List FlatPattern) (p : FlatPattern) (lo : ℕ) → Patterns_typed N places K a (patterns qs) lo scope → Pattern_typed N places K a p (lo + all_pattern_numbers (patterns qs)) scope → Patterns_typed N places K a (patterns (qs ++ p ∷ [])) lo scope
  unfolding patterns
  patterns_join [] p lo h g = (subst (λ m. Pattern_typed N places K a p m scope) (let e : lo + 0 ≡ lo = omega arith in e) g, tt)
  patterns_join (q ∷ qs) p lo h g = (h.0, patterns_join qs p (lo + pattern_numbers q) h.1 (subst (λ m. Pattern_typed N places K a p m scope) (let e : lo + (pattern_numbers q + all_pattern_numbers (patterns qs)) ≡ lo + pattern_numbers q + all_pattern_numbers (patterns qs) = omega arith in e) g))

abbrev row_homes : List FlatPattern → ℕ → ℕ → Homes
row_homes qs lo d home = At_home home d lo (all_pattern_numbers (patterns qs))

-- how far a row is gone over
pub record Row_claimed (places : Kind) (base lo at : ℕ) (qs : List FlatPattern) (begins begins' : List ℕ) (i i' : Inference) : Type 0 where
  pub next : at ≡ lo + all_pattern_numbers (patterns qs)
  pub noted : begins' ≡ begins ++ pattern_starts (patterns qs) lo
  pub claimed : (d : ℕ) → Claimed places base d lo (Patterns_claim places (patterns qs) lo) (λ home. At_home home d lo (all_pattern_numbers (patterns qs))) i i'

pub row_none : (places : Kind) (base lo : ℕ) (begins : List ℕ) (i : Inference) → Safe base i → Row_claimed places base lo lo [] begins begins i i
unfolding patterns pattern_starts
row_none places base lo begins i s = record { next = omega arith; noted = sym (append_none begins); claimed = λ d. claimed_none places base d lo (Patterns_claim places (patterns []) lo) (row_homes [] lo d) i s (λ N E K a. tt) }

module _ (places : Kind) (base lo at : ℕ) (qs : List FlatPattern) (p : FlatPattern) (begins b1 : List ℕ) (i0 i1 i2 : Inference) (s : Safe base i0) (g : Row_claimed places base lo at qs begins b1 i0 i1) where
  abbrev here : ℕ
  here = lo + all_pattern_numbers (patterns qs)

  parted : (d : ℕ) (rs : List FlatPattern) (home : ℕ → ℕ) → row_homes (qs ++ p ∷ rs) lo d home → row_homes qs lo d home × At_home home d here (pattern_numbers p)
  parted d rs home h = let z = numbers_split qs p rs in ((λ n x y. h n x (omega (arith, z))), (λ n x y. h n (omega arith) (omega (arith, z))))

  pub row_more : (next : ℕ) (b2 : List ℕ) → b2 ≡ b1 ++ at ∷ [] → next ≡ at + pattern_numbers p → ((d : ℕ) → Claimed places base d at (Pattern_claim places p at) (λ home. At_home home d at (pattern_numbers p)) i1 i2) → Row_claimed places base lo next (qs ++ p ∷ []) begins b2 i0 i2
  row_more next b2 eb en c = let z : all_pattern_numbers (patterns (qs ++ p ∷ [])) ≡ all_pattern_numbers (patterns qs) + (pattern_numbers p + 0) = numbers_split qs p [] ∙ ap (λ n. all_pattern_numbers (patterns qs) + (pattern_numbers p + n)) no_numbers in
      let ga : at ≡ lo + all_pattern_numbers (patterns qs) = g.next in record {
        next = omega (arith, z, en, ga);
        noted = eb ∙ ap (λ l. l ++ at ∷ []) g.noted ∙ append_assoc begins (pattern_starts (patterns qs) lo) (at ∷ []) ∙ ap (λ l. begins ++ l) ((λ k. pattern_starts (patterns qs) lo ++ g.next k ∷ []) ∙ sym (starts_more qs p lo));
        claimed = λ d. claimed_then places base d lo here (Patterns_claim places (patterns qs) lo) (Pattern_claim places p here) (Patterns_claim places (patterns (qs ++ p ∷ [])) lo) (row_homes qs lo d) (λ home. At_home home d here (pattern_numbers p)) (row_homes (qs ++ p ∷ []) lo d) i0 i1 i2 s (omega arith)
            (depends_patterns places (patterns qs) lo here refl) (λ N E K a h. patterns_split N places K a (scope_of N places E) qs p [] lo h) (parted d []) (g.claimed d) (λ N E K a x y. patterns_join N places K a (scope_of N places E) qs p lo x y)
            (subst (λ m. Claimed places base d m (Pattern_claim places p m) (λ home. At_home home d m (pattern_numbers p)) i1 i2) g.next (c d));
      }

  pub row_refused : (all rest : List FlatPattern) → all ≡ qs ++ p ∷ rest → ((d : ℕ) → Refused places base d at (Pattern_claim places p at) (λ home. At_home home d at (pattern_numbers p)) i1 i2) → (d : ℕ) → Refused places base d lo (Patterns_claim places (patterns all) lo) (λ home. At_home home d lo (all_pattern_numbers (patterns all))) i0 i2
  row_refused all rest ea c d = subst (λ l. Refused places base d lo (Patterns_claim places (patterns l) lo) (λ home. At_home home d lo (all_pattern_numbers (patterns l))) i0 i2) (sym ea)
      (refused_then places base d lo here (Patterns_claim places (patterns qs) lo) (Pattern_claim places p here) (Patterns_claim places (patterns (qs ++ p ∷ rest)) lo) (row_homes qs lo d) (λ home. At_home home d here (pattern_numbers p)) (row_homes (qs ++ p ∷ rest) lo d) i0 i1 i2 s (omega arith)
      (depends_patterns places (patterns qs) lo here refl) (λ N E K a h. patterns_split N places K a (scope_of N places E) qs p rest lo h) (parted d rest) (g.claimed d)
      (subst (λ m. Refused places base d m (Pattern_claim places p m) (λ home. At_home home d m (pattern_numbers p)) i1 i2) g.next (c d)))

-- the names of fields in a row
pub names_none : {X : Type 0} (xs : List X) → xs ≡ xs ++ []
names_none [] = refl
names_none (x ∷ xs) = ap (λ l. x ∷ l) (names_none xs)

pub names_more : (fields : List PatField) (n : ℕ) (d : PatField) (before names names' : List (Bor Text)) → n < length fields → names' ≡ names ++ (slice_index_or fields n d).name ∷ [] → texts names ≡ texts before ++ map pattern_name (take n fields) → texts names' ≡ texts before ++ map pattern_name (take (n + 1) fields)
names_more fields n d before names names' lt e h = texts_next names names' (slice_index_or fields n d).name (texts before ++ map pattern_name (take n fields)) e h
    ∙ append_assoc (texts before) (map pattern_name (take n fields)) (pattern_name (slice_index_or fields n d) ∷ []) ∙ ap (λ l. texts before ++ l) (map_next pattern_name fields n d lt)

module _ (base number : ℕ) (fs gs : List Text) (parts : List ℕ) (i i' : Inference) (e : fs ≡ gs) where
  pub named_ok : ((places : Kind) (d lo : ℕ) → Claimed places base d lo (λ N scope K a. IsRecord N fs (a number) (types_of a parts)) (λ home. Unit {0}) i i') → (places : Kind) (d lo : ℕ) → Claimed places base d lo (λ N scope K a. IsRecord N gs (a number) (types_of a parts)) (λ home. Unit {0}) i i'
  named_ok f places d lo = subst (λ (hs : List Text). Claimed places base d lo (λ N scope K a. IsRecord N hs (a number) (types_of a parts)) (λ home. Unit {0}) i i') e (f places d lo)

  pub named_err : ((places : Kind) (d lo : ℕ) → Refused places base d lo (λ N scope K a. IsRecord N fs (a number) (types_of a parts)) (λ home. Unit {0}) i i') → (places : Kind) (d lo : ℕ) → Refused places base d lo (λ N scope K a. IsRecord N gs (a number) (types_of a parts)) (λ home. Unit {0}) i i'
  named_err f places d lo = subst (λ (hs : List Text). Refused places base d lo (λ N scope K a. IsRecord N hs (a number) (types_of a parts)) (λ home. Unit {0}) i i') e (f places d lo)

-- a pattern whose type is made of those of a row
module _ (places : Kind) (base lo : ℕ) (q : FlatPattern) (ps : Patterns Ref BindId) (M : Making) (many : pattern_numbers q ≡ 1 + all_pattern_numbers ps)
    (opens : (N : Names) (K : Kinds) (a : Sub) (scope : Scope) → Pattern_typed N places K a q lo scope → Patterns_typed N places K a ps (1 + lo) scope × M N (a lo) (pattern_types a ps (1 + lo)))
    (closes : (N : Names) (K : Kinds) (a : Sub) (scope : Scope) → Patterns_typed N places K a ps (1 + lo) scope → M N (a lo) (pattern_types a ps (1 + lo)) → Pattern_typed N places K a q lo scope) (i0 i1 : Inference) where
  abbrev whole_homes : ℕ → Homes
  whole_homes d home = At_home home d lo (pattern_numbers q)

  abbrev part_homes : ℕ → Homes
  part_homes d home = At_home home d (1 + lo) (all_pattern_numbers ps)

  inner : (d : ℕ) (home : ℕ → ℕ) → whole_homes d home → part_homes d home
  inner d home h n x y = h n (omega arith) (omega (arith, many))

  pub made_err1 : ((d : ℕ) → Refused places base d (1 + lo) (Patterns_claim places ps (1 + lo)) (λ home. At_home home d (1 + lo) (all_pattern_numbers ps)) i0 i1) → (d : ℕ) → Refused places base d lo (Pattern_claim places q lo) (whole_homes d) i0 i1
  made_err1 c d = refused_low places base d lo (1 + lo) (Pattern_claim places q lo) (whole_homes d) i0 i1 (omega arith) (refused_as places base d (1 + lo) (Patterns_claim places ps (1 + lo)) (Pattern_claim places q lo) (part_homes d) (whole_homes d) i0 i1 (λ N E K a h. (opens N K a (scope_of N places E) h).0) (inner d) (c d))

  module _ (i2 : Inference) (begins : List ℕ) (eb : begins ≡ pattern_starts ps (1 + lo)) (s : Safe base i0) (c : (d : ℕ) → Claimed places base d (1 + lo) (Patterns_claim places ps (1 + lo)) (λ home. At_home home d (1 + lo) (all_pattern_numbers ps)) i0 i1) where
    abbrev made : Claim
    made N scope K a = M N (a lo) (types_of a begins)

    types : (a : Sub) → pattern_types a ps (1 + lo) ≡ types_of a begins
    types a = sym (types_are a ps (1 + lo)) ∙ ap (types_of a) (sym eb)

    split : (N : Names) (E : Env) (K : Kinds) (a : Sub) → Pattern_claim places q lo N (scope_of N places E) K a → Patterns_claim places ps (1 + lo) N (scope_of N places E) K a × made N (scope_of N places E) K a
    split N E K a h = let w = opens N K a (scope_of N places E) h in (w.0, subst (M N (a lo)) (types a) w.1)

    end_depends : Depends places (Patterns_claim places ps (1 + lo)) lo (1 + lo + all_pattern_numbers ps)
    end_depends = depends_wider places (Patterns_claim places ps (1 + lo)) (1 + lo) (1 + lo + all_pattern_numbers ps) lo (1 + lo + all_pattern_numbers ps) (omega arith) (omega arith) (depends_patterns places ps (1 + lo) (1 + lo + all_pattern_numbers ps) refl)

    pub made_ok : ((places : Kind) (d lo' : ℕ) → Claimed places base d lo' made (λ home. Unit {0}) i1 i2) → (d : ℕ) → Claimed places base d lo (Pattern_claim places q lo) (whole_homes d) i0 i2
    made_ok r d = claimed_then places base d lo (1 + lo + all_pattern_numbers ps) (Patterns_claim places ps (1 + lo)) made (Pattern_claim places q lo) (part_homes d) (λ home. Unit {0}) (whole_homes d) i0 i1 i2 s (omega arith) end_depends
        split (λ home h. (inner d home h, tt)) (claimed_low places base d lo (1 + lo) (Patterns_claim places ps (1 + lo)) (part_homes d) i0 i1 (omega arith) (c d))
        (λ N E K a x y. closes N K a (scope_of N places E) x (subst (M N (a lo)) (sym (types a)) y)) (r places d (1 + lo + all_pattern_numbers ps))

    pub made_err2 : ((places : Kind) (d lo' : ℕ) → Refused places base d lo' made (λ home. Unit {0}) i1 i2) → (d : ℕ) → Refused places base d lo (Pattern_claim places q lo) (whole_homes d) i0 i2
    made_err2 r d = refused_then places base d lo (1 + lo + all_pattern_numbers ps) (Patterns_claim places ps (1 + lo)) made (Pattern_claim places q lo) (part_homes d) (λ home. Unit {0}) (whole_homes d) i0 i1 i2 s (omega arith) end_depends
        split (λ home h. (inner d home h, tt)) (claimed_low places base d lo (1 + lo) (Patterns_claim places ps (1 + lo)) (part_homes d) i0 i1 (omega arith) (c d)) (r places d (1 + lo + all_pattern_numbers ps))

-- a pattern with a written type
module _ (places : Kind) (base lo : ℕ) (p : FlatPattern) (e : FlatType) (i0 i1 : Inference) where
  abbrev pattern_homes : ℕ → Homes
  pattern_homes d home = At_home home d lo (pattern_numbers p)

  pub typed_err1 : ((d : ℕ) → Refused places base d lo (Pattern_claim places p lo) (λ home. At_home home d lo (pattern_numbers p)) i0 i1) → (d : ℕ) → Refused places base d lo (Pattern_claim places (Typed_pattern p e) lo) (pattern_homes d) i0 i1
  typed_err1 c d = refused_as places base d lo (Pattern_claim places p lo) (Pattern_claim places (Typed_pattern p e) lo) (pattern_homes d) (pattern_homes d) i0 i1 (λ N E K a h. h.0) (λ home h. h) (c d)

  module _ (i2 : Inference) (s : Safe base i0) (c : (d : ℕ) → Claimed places base d lo (Pattern_claim places p lo) (λ home. At_home home d lo (pattern_numbers p)) i0 i1) where
    pub typed_ok : ((d from : ℕ) → Claimed places base d from (Type_claim places e lo) (λ home. Unit {0}) i1 i2) → (d : ℕ) → Claimed places base d lo (Pattern_claim places (Typed_pattern p e) lo) (pattern_homes d) i0 i2
    typed_ok r d = claimed_then places base d lo (lo + pattern_numbers p) (Pattern_claim places p lo) (Type_claim places e lo) (Pattern_claim places (Typed_pattern p e) lo) (pattern_homes d) (λ home. Unit {0}) (pattern_homes d) i0 i1 i2 s (omega arith)
        (depends_pattern places p lo (lo + pattern_numbers p) refl) (λ N E K a h. h) (λ home h. (h, tt)) (c d) (λ N E K a x y. (x, y)) (r d (lo + pattern_numbers p))

    pub typed_err2 : ((d from : ℕ) → Refused places base d from (Type_claim places e lo) (λ home. Unit {0}) i1 i2) → (d : ℕ) → Refused places base d lo (Pattern_claim places (Typed_pattern p e) lo) (pattern_homes d) i0 i2
    typed_err2 r d = refused_then places base d lo (lo + pattern_numbers p) (Pattern_claim places p lo) (Type_claim places e lo) (Pattern_claim places (Typed_pattern p e) lo) (pattern_homes d) (λ home. Unit {0}) (pattern_homes d) i0 i1 i2 s (omega arith)
        (depends_pattern places p lo (lo + pattern_numbers p) refl) (λ N E K a h. h) (λ home h. (h, tt)) (c d) (r d (lo + pattern_numbers p))

-- the names of a record's pattern
pattern_field_is : (f : PatField) → (pattern_field f).0 ≡ pattern_name f
unfolding pattern_field pattern_of
pattern_field_is f = ap (λ (g : Text × FlatPattern). g.0) (fold_out-PatField FlatPattern FlatPattern (Text × FlatPattern) pattern_form (λ p. p.form) (λ f. (f.name.now, f.pat)) f)

names_are : (fs : List PatField) → map (λ (f : Text × FlatPattern). f.0) (map pattern_field fs) ≡ map pattern_name fs
names_are [] = refl
names_are (f ∷ fs) = λ k. pattern_field_is f k ∷ names_are fs k

pub named_is : (p : Pat) (fs : Bor (List PatField)) → p.form ≡ form.Record fs → pattern_of p ≡ Record_pattern (map pattern_name fs.now) (patterns (map field_pattern fs.now))
named_is p fs is = record_is p fs is ∙ ap (λ ns. Record_pattern ns (patterns (map field_pattern fs.now))) (names_are fs.now)

-- a pattern of which nothing is asked
pub free_ok : (places : Kind) (base lo : ℕ) (p q : FlatPattern) (i : Inference) → Safe base i → p ≡ q → ((N : Names) (E : Env) (K : Kinds) (a : Sub) → Pattern_typed N places K a q lo (scope_of N places E)) → (d : ℕ) → Claimed places base d lo (Pattern_claim places p lo) (λ home. At_home home d lo (pattern_numbers p)) i i
free_ok places base lo p q i s e all d = claimed_none places base d lo (Pattern_claim places p lo) (λ home. At_home home d lo (pattern_numbers p)) i s (λ N E K a. subst (λ (x : FlatPattern). Pattern_typed N places K a x lo (scope_of N places E)) (sym e) (all N E K a))

pub falls_thrice : {X : Type 0} (f : X → FlatPattern) (es : List X) (n : ℕ) (d : X) (t : ℕ) → n < length es → t ≡ 3 * weigh_all (patterns (map f es)) + 1 → 3 * weigh (f (slice_index_or es n d)) < t
falls_thrice f es n d t lt is = let w : 2 * weigh (f (slice_index_or es n d)) < 2 * weigh_all (patterns (map f es)) + 1 = falls_in f es n d (2 * weigh_all (patterns (map f es)) + 1) lt refl in omega (arith, w, is)
