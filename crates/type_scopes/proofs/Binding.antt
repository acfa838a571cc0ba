-- The names that patterns bind.
use Rattle.std.proofs.Common.{◌≡◌, ℕ, zero, suc, ◌+◌, ◌*◌, ◌≤◌, ◌<◌, List, [], ◌∷◌, ◌++◌, length, map, take, slice_index_or, refl, sym, ◌∙◌, ap, subst, arith, Bor, Result, Ok, Err, IfOk}
use Rattle.std.proofs.Math.Seq.{take-suc}
use Rattle.fut_ast.specs.Sorts.{Text}
use Rattle.fut_scalar.specs.declared.place.BindId.{BindId}
use Rattle.fut_types.specs.declared.Kind.TheVariants as kind
use Rattle.fut_flat.specs.declared.pat.Pat.{Pat}
use Rattle.fut_flat.specs.declared.pat.PatField.{PatField, fold_out-PatField}
use Rattle.fut_flat.specs.declared.prim.Ref.{Ref}
use Rattle.fut_flat.specs.Terms.{Bound_pattern, Wild_pattern, Tuple_pattern, Record_pattern, Typed_pattern, Patterns, no_pattern, pattern_and}
use Rattle.fut_flat.specs.Numbers.{pattern_numbers, all_pattern_numbers}
use Rattle.fut_flat.specs.Erased.{FlatPattern, pattern_form, pattern_of, patterns}
use Rattle.fut_flat.proofs.ErasedPatterns.{pattern_field, pattern_record}
use Rattle.fut_flat.specs.declared.pat.PatForm.TheVariants as form
use Rattle.fut_typing.specs.Homes.{Env, one, At_home, env_pattern, env_patterns, env_sizes, a_size}
use Rattle.type_scopes.specs.declared.names.Known.TheVariants as known
use Rattle.type_scopes.specs.declared.Inference.{Inference}
use Rattle.type_scopes.specs.Table.{entered, known_at}
use Rattle.type_scopes.specs.Scopes.{Safe, Binds, nothing_claimed, field_pattern}
use Rattle.type_scopes.proofs.Going.{later_none}
use Rattle.type_scopes.proofs.Opening.{more_none, opened_as, opened_both, opened_number, opened_size}
use Rattle.type_scopes.proofs.Putting.{puts_none}

module _ (base : ℕ) where
  pub binds_none : (lo : ℕ) (i : Inference) → Safe base i → Binds base lo 0 (λ E. E) i i
  binds_none lo i s places d hi h = record {
    later = later_none base i s;
    more = more_none i;
    adds = λ N T home born E r rd h. puts_none T born base (λ K a. Unit {0}) (λ home. At_home home d lo 0) i.nodes (λ K a. tt);
    ready = λ N T home born E r rd h. rd;
  }

  pub binds_then : (lo m k : ℕ) (into on : Env → Env) (i0 i1 i2 : Inference) → Binds base lo m into i0 i1 → Binds base (lo + m) k on i1 i2 → Binds base lo (m + k) (λ E. on (into E)) i0 i2
  binds_then lo m k into on i0 i1 i2 x y places d hi h = opened_both places base d hi hi nothing_claimed nothing_claimed nothing_claimed (λ home. At_home home d lo m) (λ home. At_home home d (lo + m) k) (λ home. At_home home d lo (m + k)) into i0 i1 i2 (λ N E K a h. (tt, tt))
      (λ home h. ((λ n p q. h n p (omega arith)), (λ n p q. h n (omega arith) (omega arith)))) (x places d hi (omega arith)) hi on (λ N E K a p q. tt) (y places d hi (omega arith))

  pub binds_within : (lo lo' m m' : ℕ) (into on : Env → Env) (i i' : Inference) → lo' ≤ lo → lo + m ≤ lo' + m' → into ≡ on → Binds base lo m into i i' → Binds base lo' m' on i i'
  binds_within lo lo' m m' into on i i' l h e x places d hi r = opened_as places base d hi hi nothing_claimed nothing_claimed (λ home. At_home home d lo m) (λ home. At_home home d lo' m') into on i i' (λ N E K a h. (tt, tt)) (λ N E K a p q. tt)
      (λ home g n p q. g n (omega arith) (omega arith)) e (x places d hi (omega arith))

  pub binds_number : (b lo : ℕ) (i : Inference) → Safe base i → b < length i.names → known_at i.names b ≡ known.Nothing → lo < base → Binds base lo 1 (one b lo) i (entered i b (known.Number lo))
  binds_number b lo i s inn fresh h places d hi r = opened_as places base d hi hi nothing_claimed nothing_claimed (λ home. home lo ≡ d) (λ home. At_home home d lo 1) (one b lo) (one b lo) i (entered i b (known.Number lo)) (λ N E K a h. (tt, tt)) (λ N E K a p q. tt)
      (λ home g. g lo (omega arith) (omega arith)) refl (opened_number places base d hi i b s inn fresh lo h (omega arith))

  pub binds_size : (b lo : ℕ) (i : Inference) → Safe base i → b < length i.names → known_at i.names b ≡ known.Nothing → Binds base lo 0 (a_size b) i (entered i b known.Size)
  binds_size b lo i s inn fresh places d hi r = opened_as places base d hi hi nothing_claimed nothing_claimed (λ home. Unit {0}) (λ home. At_home home d lo 0) (a_size b) (a_size b) i (entered i b known.Size) (λ N E K a h. (tt, tt)) (λ N E K a p q. tt)
      (λ home g. tt) refl (opened_size places base d hi i b s inn fresh)

-- patterns in a row
numbers_more : (qs : List FlatPattern) (p : FlatPattern) → all_pattern_numbers (patterns (qs ++ p ∷ [])) ≡ all_pattern_numbers (patterns qs) + pattern_numbers p
unfolding patterns
numbers_more [] p = omega arith
numbers_more (q ∷ qs) p = let e = numbers_more qs p in omega (arith, e)

env_more : (qs : List FlatPattern) (p : FlatPattern) (lo : ℕ) (E : Env) → env_patterns (patterns (qs ++ p ∷ [])) lo E ≡ env_pattern p (lo + all_pattern_numbers (patterns qs)) (env_patterns (patterns qs) lo E)
unfolding patterns
env_more [] p lo E = ap (λ n. env_pattern p n E) (let e : lo ≡ lo + 0 = omega arith in e)
env_more (q ∷ qs) p lo E = env_more qs p (lo + pattern_numbers q) (env_pattern q lo E) ∙ ap (λ n. env_pattern p n (env_patterns (patterns qs) (lo + pattern_numbers q) (env_pattern q lo E))) (let e : lo + pattern_numbers q + all_pattern_numbers (patterns qs) ≡ lo + (pattern_numbers q + all_pattern_numbers (patterns qs)) = omega arith in e)

-- how far a row is gone over
pub record Entered (base lo at : ℕ) (qs : List FlatPattern) (i i' : Inference) : Type 0 where
  pub next : at ≡ lo + all_pattern_numbers (patterns qs)
  pub safe : Safe base i'
  pub binds : Binds base lo (all_pattern_numbers (patterns qs)) (env_patterns (patterns qs) lo) i i'

pub entered_none : (base lo : ℕ) (i : Inference) → Safe base i → Entered base lo lo [] i i
unfolding patterns
entered_none base lo i s = record { next = omega arith; safe = s; binds = binds_none base lo i s }

pub entered_more : (base lo at next : ℕ) (qs : List FlatPattern) (p : FlatPattern) (i0 i1 i2 : Inference) → Entered base lo at qs i0 i1 → next ≡ at + pattern_numbers p → Safe base i2 → Binds base at (pattern_numbers p) (env_pattern p at) i1 i2 → Entered base lo next (qs ++ p ∷ []) i0 i2
entered_more base lo at next qs p i0 i1 i2 x en s b = let z : all_pattern_numbers (patterns (qs ++ p ∷ [])) ≡ all_pattern_numbers (patterns qs) + pattern_numbers p = numbers_more qs p in record {
  next = let q : at ≡ lo + all_pattern_numbers (patterns qs) = x.next in omega (arith, q, z, en);
  safe = s;
  binds = binds_within base lo lo (all_pattern_numbers (patterns qs) + pattern_numbers p) (all_pattern_numbers (patterns (qs ++ p ∷ []))) (λ E. env_pattern p (lo + all_pattern_numbers (patterns qs)) (env_patterns (patterns qs) lo E)) (env_patterns (patterns (qs ++ p ∷ [])) lo) i0 i2 (omega arith) (omega arith)
      (λ k E. sym (env_more qs p lo E) k)
      (binds_then base lo (all_pattern_numbers (patterns qs)) (pattern_numbers p) (env_patterns (patterns qs) lo) (env_pattern p (lo + all_pattern_numbers (patterns qs))) i0 i1 i2 x.binds (subst (λ n. Binds base n (pattern_numbers p) (env_pattern p n) i1 i2) x.next b));
}

-- of the items of a row
module _ {X : Type 0} (f : X → FlatPattern) where
  pub map_more : (es : List X) (n : ℕ) (d : X) → n < length es → map f (take n es) ++ f (slice_index_or es n d) ∷ [] ≡ map f (take (n + 1) es)
  map_more es n d lt = let z : suc n ≡ n + 1 = omega arith in sym (map_both (take n es) (slice_index_or es n d ∷ [])) ∙ ap (map f) (sym (take-suc es n d lt) ∙ ap (λ m. take m es) z)
    where
      map_both : (xs ys : List X) → map f (xs ++ ys) ≡ map f xs ++ map f ys
      map_both [] ys = refl
      map_both (x ∷ xs) ys = ap (λ l. f x ∷ l) (map_both xs ys)

  numbers_in : (es : List X) (n : ℕ) (d : X) → n < length es → all_pattern_numbers (patterns (map f (take n es))) + pattern_numbers (f (slice_index_or es n d)) ≤ all_pattern_numbers (patterns (map f es))
  unfolding patterns
  numbers_in [] n d lt = absurd (omega arith)
  numbers_in (x ∷ es) zero d lt = omega arith
  numbers_in (x ∷ es) (suc n) d lt = let w = numbers_in es n d (omega arith) in omega (arith, w)

  pub room_in : (es : List X) (n : ℕ) (d : X) (lo at base : ℕ) → n < length es → at ≡ lo + all_pattern_numbers (patterns (map f (take n es))) → lo + all_pattern_numbers (patterns (map f es)) ≤ base → at + pattern_numbers (f (slice_index_or es n d)) ≤ base
  room_in es n d lo at base lt is h = let z = numbers_in es n d lt in omega (arith, z)

-- fields
field_is : (f : PatField) → (pattern_field f).1 ≡ field_pattern f
unfolding pattern_field pattern_of
field_is f = ap (λ (g : Text × FlatPattern). g.1) (fold_out-PatField FlatPattern FlatPattern (Text × FlatPattern) pattern_form (λ p. p.form) (λ f. (f.name.now, f.pat)) f)

pub fields_are : (fs : List PatField) → map (λ (f : Text × FlatPattern). f.1) (map pattern_field fs) ≡ map field_pattern fs
fields_are [] = refl
fields_are (f ∷ fs) = λ k. field_is f k ∷ fields_are fs k

-- size names in a row
sizes_more : (bs : List BindId) (b : BindId) (E : Env) → env_sizes (bs ++ b ∷ []) E ≡ a_size b.0 (env_sizes bs E)
sizes_more [] b E = refl
sizes_more (c ∷ bs) b E = sizes_more bs b (a_size c.0 E)

pub record Sized (base : ℕ) (bs : List BindId) (i i' : Inference) : Type 0 where
  pub safe : Safe base i'
  pub binds : (lo : ℕ) → Binds base lo 0 (env_sizes bs) i i'

pub sized_none : (base : ℕ) (i : Inference) → Safe base i → Sized base [] i i
sized_none base i s = record { safe = s; binds = λ lo. binds_none base lo i s }

pub sized_more : (base : ℕ) (bs : List BindId) (n : ℕ) (d : BindId) (i0 i1 i2 : Inference) → n < length bs → Sized base (take n bs) i0 i1 → (slice_index_or bs n d).0 < length i1.names → known_at i1.names (slice_index_or bs n d).0 ≡ known.Nothing → i2 ≡ entered i1 (slice_index_or bs n d).0 known.Size → Sized base (take (n + 1) bs) i0 i2
sized_more base bs n d i0 i1 i2 lt x inn fresh is = let b : BindId = slice_index_or bs n d in
    subst (λ (i : Inference). Sized base (take (n + 1) bs) i0 i) (sym is) (subst (λ l. Sized base l i0 (entered i1 b.0 known.Size)) (let z : suc n ≡ n + 1 = omega arith in sym (take-suc bs n d lt) ∙ ap (λ m. take m bs) z) (record {
      safe = (binds_size base b.0 0 i1 x.safe inn fresh kind.Any 0 0 (omega arith)).later.safe;
      binds = λ lo. binds_within base lo lo (0 + 0) 0 (λ E. a_size b.0 (env_sizes (take n bs) E)) (env_sizes (take n bs ++ b ∷ [])) i0 (entered i1 b.0 known.Size) (omega arith) (omega arith) (λ k E. sym (sizes_more (take n bs) b E) k)
          (binds_then base lo 0 0 (env_sizes (take n bs)) (a_size b.0) i0 i1 (entered i1 b.0 known.Size) (x.binds lo) (binds_size base b.0 (lo + 0) i1 x.safe inn fresh));
    }))

-- the forms of patterns
module _ (base lo : ℕ) (p : Pat) where
  pub bound_room : (q : FlatPattern) → pattern_of p ≡ q → lo + pattern_numbers (pattern_of p) ≤ base → lo + pattern_numbers q ≤ base
  bound_room q e h = subst (λ (x : FlatPattern). lo + pattern_numbers x ≤ base) e h

  pub binds_is : (q : FlatPattern) (many : ℕ) (into : Env → Env) (i i' : Inference) → pattern_of p ≡ q → many ≡ pattern_numbers q → into ≡ env_pattern q lo → Binds base lo many into i i' → Binds base lo (pattern_numbers (pattern_of p)) (env_pattern (pattern_of p) lo) i i'
  binds_is q many into i i' e m f x = subst (λ (y : FlatPattern). Binds base lo (pattern_numbers y) (env_pattern y lo) i i') (sym e) (subst (λ g. Binds base lo (pattern_numbers q) g i i') f (subst (λ n. Binds base lo n into i i') m x))

pub inner_is : (base lo : ℕ) (qs : List FlatPattern) (i i' : Inference) → Binds base (1 + lo) (all_pattern_numbers (patterns qs)) (env_patterns (patterns qs) (1 + lo)) i i' → Binds base lo (1 + all_pattern_numbers (patterns qs)) (env_patterns (patterns qs) (1 + lo)) i i'
inner_is base lo qs i i' x = binds_within base (1 + lo) lo (all_pattern_numbers (patterns qs)) (1 + all_pattern_numbers (patterns qs)) (env_patterns (patterns qs) (1 + lo)) (env_patterns (patterns qs) (1 + lo)) i i' (omega arith) (omega arith) refl x

pub entered_safe : (base b lo : ℕ) (i : Inference) → Safe base i → b < length i.names → known_at i.names b ≡ known.Nothing → lo < base → Safe base (entered i b (known.Number lo))
entered_safe base b lo i s inn fresh h = (binds_number base b lo i s inn fresh h kind.Any 0 (lo + 1) (omega arith)).later.safe

pub record_is : (p : Pat) (fs : Bor (List PatField)) → p.form ≡ form.Record fs → pattern_of p ≡ Record_pattern (map (λ (f : Text × FlatPattern). f.0) (map pattern_field fs.now)) (patterns (map field_pattern fs.now))
record_is p fs is = pattern_record p fs is ∙ ap (λ qs. Record_pattern (map (λ (f : Text × FlatPattern). f.0) (map pattern_field fs.now)) (patterns qs)) (fields_are fs.now)

pub take_all : {X : Type 0} (xs : List X) (n : ℕ) → length xs ≤ n → take n xs ≡ xs
take_all [] zero h = refl
take_all [] (suc n) h = refl
take_all (x ∷ xs) zero h = absurd (omega arith)
take_all (x ∷ xs) (suc n) h = ap (λ l. x ∷ l) (take_all xs n (omega arith))

pub if_ok : {T E : Type 0} {P Q : T → Type 0} (r : Result T E) → ((v : T) → P v → Q v) → IfOk r P → IfOk r Q
if_ok (Ok v) f p = f v p
if_ok (Err e) f p = tt

-- how large a pattern is: each of its parts is smaller
abbrev mutual
  pub weigh : FlatPattern → ℕ
  weigh (Bound_pattern b) = 1
  weigh Wild_pattern = 1
  weigh (Tuple_pattern ps) = 1 + weigh_all ps
  weigh (Record_pattern fs ps) = 1 + weigh_all ps
  weigh (Typed_pattern p t) = 1 + weigh p

  pub weigh_all : Patterns Ref BindId → ℕ
  weigh_all no_pattern = 0
  weigh_all (pattern_and p ps) = weigh p + weigh_all ps

weigh_in : {X : Type 0} (f : X → FlatPattern) (es : List X) (n : ℕ) (d : X) → n < length es → weigh (f (slice_index_or es n d)) ≤ weigh_all (patterns (map f es))
unfolding patterns
weigh_in f [] n d lt = absurd (omega arith)
weigh_in f (x ∷ es) zero d lt = omega arith
weigh_in f (x ∷ es) (suc n) d lt = let w = weigh_in f es n d (omega arith) in omega (arith, w)

pub falls_in : {X : Type 0} (f : X → FlatPattern) (es : List X) (n : ℕ) (d : X) (t : ℕ) → n < length es → t ≡ 2 * weigh_all (patterns (map f es)) + 1 → 2 * weigh (f (slice_index_or es n d)) < t
falls_in f es n d t lt is = let w = weigh_in f es n d lt in omega (arith, w)

pub falls_row : (p : FlatPattern) (q : FlatPattern) (w t : ℕ) → p ≡ q → weigh q ≡ 1 + w → t ≡ 2 * weigh p → 2 * w + 1 < t
falls_row p q w t e h is = let z : weigh p ≡ weigh q = ap (λ (x : FlatPattern). weigh x) e in omega (arith, z)

pub falls_one : (p : FlatPattern) (q : FlatPattern) (w t : ℕ) → p ≡ q → weigh q ≡ 1 + w → t ≡ 2 * weigh p → 2 * w < t
falls_one p q w t e h is = let z : weigh p ≡ weigh q = ap (λ (x : FlatPattern). weigh x) e in omega (arith, z)
