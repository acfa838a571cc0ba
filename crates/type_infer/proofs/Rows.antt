-- Definitions in a row, one after the other.
use Rattle.std.proofs.Common.{◌≡◌, ℕ, zero, suc, ◌+◌, ◌≤◌, ◌<◌, List, [], ◌∷◌, ◌++◌, length, map, take, slice_index_or, refl, sym, ◌∙◌, ap, subst, arith}
use Rattle.std.proofs.Math.Seq.{take-suc}
use Rattle.fut_flat.specs.declared.program.Definition.{Definition}
use Rattle.fut_types.specs.declared.Kind.{Kind}
use Rattle.fut_types.specs.Types.{Sub, Kinds}
use Rattle.fut_typing.specs.Names.{Names}
use Rattle.fut_typing.specs.Homes.{Env, scope_of}
use Rattle.fut_typing.specs.Program.{defined, program_numbers, definition_scheme, Definitions_typed}
use Rattle.fut_typing.specs.Generalised.{Generalised}
use Rattle.flat_numbers.specs.Listed.{Program_homed}
use Rattle.type_scopes.specs.declared.Inference.{Inference}
use Rattle.type_scopes.specs.Scopes.{Safe, Opened, Refused}
use Rattle.type_scopes.proofs.Going.{later_none}
use Rattle.type_scopes.proofs.Opening.{more_none, opened_both, opened_refused}
use Rattle.type_scopes.proofs.Putting.{puts_none}
use Rattle.type_scopes.specs.Definitions.{Definition_claim, Definition_homes, env_definition}
use Rattle.type_infer.specs.Definitions.{definition_numbers, Definitions_claim, Definitions_homes, env_definitions}

abbrev numbers_of : List Definition → ℕ
numbers_of ds = program_numbers (map defined ds)

-- a row, split at one of its definitions
numbers_split : (xs : List Definition) (d : Definition) (ys : List Definition) → numbers_of (xs ++ d ∷ ys) ≡ numbers_of xs + (definition_numbers (defined d) + numbers_of ys)
numbers_split [] d ys = omega arith
numbers_split (x ∷ xs) d ys = let e = numbers_split xs d ys in omega (arith, e)

env_split : (xs : List Definition) (d : Definition) (lo : ℕ) (E : Env) → env_definitions (xs ++ d ∷ []) lo E ≡ env_definition (defined d) (lo + numbers_of xs) (env_definitions xs lo E)
unfolding env_definitions
env_split [] d lo E = ap (λ n. env_definition (defined d) n E) (let e : lo ≡ lo + 0 = omega arith in e)
env_split (x ∷ xs) d lo E = env_split xs d (lo + definition_numbers (defined x)) (env_definition (defined x) lo E)
    ∙ ap (λ n. env_definition (defined d) n (env_definitions xs (lo + definition_numbers (defined x)) (env_definition (defined x) lo E))) (let e : lo + definition_numbers (defined x) + numbers_of xs ≡ lo + (definition_numbers (defined x) + numbers_of xs) = omega arith in e)

module _ (N : Names) (places : Kind) (K : Kinds) (a : Sub) where
  abbrev One : Definition → ℕ → Env → Type 0
  One d lo E = Generalised places (definition_scheme N places (defined d) lo (scope_of N places E)) K a

  abbrev All : List Definition → ℕ → Env → Type 0
  All ds lo E = Definitions_typed N places (map defined ds) lo (scope_of N places E) K a

  typed_split : (xs : List Definition) (d : Definition) (ys : List Definition) (lo : ℕ) (E : Env) → All (xs ++ d ∷ ys) lo E → All xs lo E × One d (lo + numbers_of xs) (env_definitions xs lo E)
  unfolding env_definitions
  typed_split [] d ys lo E h = (tt, subst (λ n. One d n E) (let e : lo ≡ lo + 0 = omega arith in e) h.0)
  typed_split (x ∷ xs) d ys lo E h = let w = typed_split xs d ys (lo + definition_numbers (defined x)) (env_definition (defined x) lo E) h.1 in (
    (h.0, w.0),
    subst (λ n. One d n (env_definitions xs (lo + definition_numbers (defined x)) (env_definition (defined x) lo E))) (let e : lo + definition_numbers (defined x) + numbers_of xs ≡ lo + (definition_numbers (defined x) + numbers_of xs) = omega arith in e) w.1,
  )

  typed_join : (xs : List Definition) (d : Definition) (lo : ℕ) (E : Env) → All xs lo E → One d (lo + numbers_of xs) (env_definitions xs lo E) → All (xs ++ d ∷ []) lo E
  unfolding env_definitions
  typed_join [] d lo E h g = (subst (λ n. One d n E) (let e : lo + 0 ≡ lo = omega arith in e) g, tt)
  typed_join (x ∷ xs) d lo E h g = (
    h.0,
    typed_join xs d (lo + definition_numbers (defined x)) (env_definition (defined x) lo E) h.1
        (subst (λ n. One d n (env_definitions xs (lo + definition_numbers (defined x)) (env_definition (defined x) lo E))) (let e : lo + (definition_numbers (defined x) + numbers_of xs) ≡ lo + definition_numbers (defined x) + numbers_of xs = omega arith in e) g),
  )

homed_split : (home : ℕ → ℕ) (xs : List Definition) (d : Definition) (ys : List Definition) (lo : ℕ) → Program_homed home (map defined (xs ++ d ∷ ys)) lo → Program_homed home (map defined xs) lo × Definition_homes 0 (defined d) (lo + numbers_of xs) home
homed_split home [] d ys lo h = (tt, subst (λ n. Definition_homes 0 (defined d) n home) (let e : lo ≡ lo + 0 = omega arith in e) ((0, omega arith), (h.0, h.1)))
homed_split home (x ∷ xs) d ys lo h = let w = homed_split home xs d ys (lo + definition_numbers (defined x)) h.2 in (
  (h.0, h.1, w.0),
  subst (λ n. Definition_homes 0 (defined d) n home) (let e : lo + definition_numbers (defined x) + numbers_of xs ≡ lo + (definition_numbers (defined x) + numbers_of xs) = omega arith in e) w.1,
)

-- how far a row is gone over
pub record Gone (places : Kind) (base at : ℕ) (ds : List Definition) (i i' : Inference) : Type 0 where
  pub next : at ≡ numbers_of ds
  pub opened : Opened places base 0 0 at (Definitions_claim places (map defined ds) 0) (Definitions_homes (map defined ds) 0) (env_definitions ds 0) i i'

module _ (places : Kind) (base : ℕ) where
  none_open : (i : Inference) → Safe base i → Opened places base 0 0 0 (Definitions_claim places [] 0) (Definitions_homes [] 0) (env_definitions [] 0) i i
  unfolding env_definitions
  none_open i s = record {
    later = later_none base i s;
    more = more_none i;
    adds = λ N T home born E r rd h. puts_none T born base (λ K a. Unit {0}) (Definitions_homes [] 0) i.nodes (λ K a. tt);
    ready = λ N T home born E r rd h. rd;
  }

  pub gone_none : (i : Inference) → Safe base i → Gone places base 0 [] i i
  gone_none i s = record { next = refl; opened = none_open i s }

  module _ (at : ℕ) (ds : List Definition) (d : Definition) (i0 i1 i2 : Inference) (g : Gone places base at ds i0 i1) where
    at_is : 0 + numbers_of ds ≡ at
    at_is = let e : at ≡ numbers_of ds = g.next in omega arith

    pub gone_more : (next : ℕ) → next ≡ at + definition_numbers (defined d) → Opened places base 0 at (at + definition_numbers (defined d)) (Definition_claim places (defined d) at) (Definition_homes 0 (defined d) at) (env_definition (defined d) at) i1 i2 → Gone places base next (ds ++ d ∷ []) i0 i2
    gone_more next e y = record {
      next = let q = numbers_split ds d [] in let p : at ≡ numbers_of ds = g.next in omega (arith, q, e);
      opened = subst (λ n. Opened places base 0 0 n (Definitions_claim places (map defined (ds ++ d ∷ [])) 0) (Definitions_homes (map defined (ds ++ d ∷ [])) 0) (env_definitions (ds ++ d ∷ []) 0) i0 i2) (sym e)
          (subst (λ f. Opened places base 0 0 (at + definition_numbers (defined d)) (Definitions_claim places (map defined (ds ++ d ∷ [])) 0) (Definitions_homes (map defined (ds ++ d ∷ [])) 0) f i0 i2)
          (λ k E. sym (env_split ds d 0 E ∙ ap (λ n. env_definition (defined d) n (env_definitions ds 0 E)) at_is) k)
          (opened_both places base 0 0 at (Definitions_claim places (map defined ds) 0) (Definition_claim places (defined d) at) (Definitions_claim places (map defined (ds ++ d ∷ [])) 0)
          (Definitions_homes (map defined ds) 0) (Definition_homes 0 (defined d) at) (Definitions_homes (map defined (ds ++ d ∷ [])) 0) (env_definitions ds 0) i0 i1 i2
          (λ N E K a h. let w = typed_split N places K a ds d [] 0 E h in (w.0, subst (λ n. One N places K a d n (env_definitions ds 0 E)) at_is w.1))
          (λ home h. let w = homed_split home ds d [] 0 h in (w.0, subst (λ n. Definition_homes 0 (defined d) n home) at_is w.1))
          g.opened (at + definition_numbers (defined d)) (env_definition (defined d) at)
          (λ N E K a p q. typed_join N places K a ds d 0 E p (subst (λ n. One N places K a d n (env_definitions ds 0 E)) (sym at_is) q)) y));
    }

    pub gone_refused : (all rest : List Definition) → all ≡ ds ++ d ∷ rest → Refused places base 0 at (Definition_claim places (defined d) at) (Definition_homes 0 (defined d) at) i1 i2 → Refused places base 0 0 (Definitions_claim places (map defined all) 0) (Definitions_homes (map defined all) 0) i0 i2
    gone_refused all rest e y = subst (λ l. Refused places base 0 0 (Definitions_claim places (map defined l) 0) (Definitions_homes (map defined l) 0) i0 i2) (sym e)
        (opened_refused places base 0 0 at (Definitions_claim places (map defined ds) 0) (Definition_claim places (defined d) at) (Definitions_claim places (map defined (ds ++ d ∷ rest)) 0)
        (Definitions_homes (map defined ds) 0) (Definition_homes 0 (defined d) at) (Definitions_homes (map defined (ds ++ d ∷ rest)) 0) (env_definitions ds 0) i0 i1 i2
        (λ N E K a h. let w = typed_split N places K a ds d rest 0 E h in (w.0, subst (λ n. One N places K a d n (env_definitions ds 0 E)) at_is w.1))
        (λ home h. let w = homed_split home ds d rest 0 h in (w.0, subst (λ n. Definition_homes 0 (defined d) n home) at_is w.1))
        g.opened y)

-- the definition at a place, and those before and behind it
pub at_place : (es : List Definition) (n : ℕ) (e : Definition) → n < length es → (rest : List Definition) × (es ≡ take n es ++ slice_index_or es n e ∷ rest)
at_place [] n e lt = absurd (omega arith)
at_place (x ∷ es) zero e lt = (es, refl)
at_place (x ∷ es) (suc n) e lt = let w = at_place es n e (omega arith) in (w.0, ap (λ l. x ∷ l) w.1)

pub take_more : (es : List Definition) (n : ℕ) (e : Definition) → n < length es → take n es ++ slice_index_or es n e ∷ [] ≡ take (n + 1) es
take_more es n e lt = let z : suc n ≡ n + 1 = omega arith in sym (take-suc es n e lt) ∙ ap (λ m. take m es) z

pub room_in : (es : List Definition) (n : ℕ) (e : Definition) (at base : ℕ) → n < length es → at ≡ numbers_of (take n es) → numbers_of es ≤ base → at + definition_numbers (defined (slice_index_or es n e)) ≤ base
room_in es n e at base lt is h = let w = at_place es n e lt in let q : numbers_of es ≡ numbers_of (take n es) + (definition_numbers (defined (slice_index_or es n e)) + numbers_of w.0) = ap numbers_of w.1 ∙ numbers_split (take n es) (slice_index_or es n e) w.0 in omega (arith, q, is, h)

any_of : (es : List Definition) (n : ℕ) → n < length es → Definition
any_of [] n lt = absurd (omega arith)
any_of (x ∷ es) n lt = x

pub lo_within : (es : List Definition) (n at base : ℕ) → n < length es → at ≡ numbers_of (take n es) → numbers_of es ≤ base → at < base
lo_within es n at base lt is h = let r = room_in es n (any_of es n lt) at base lt is h in omega (arith, r)

-- the whole row
pub gone_all : (places : Kind) (base at : ℕ) (ds es : List Definition) (i i' : Inference) → ds ≡ es → Gone places base at ds i i' → Opened places base 0 0 (numbers_of es) (Definitions_claim places (map defined es) 0) (Definitions_homes (map defined es) 0) (env_definitions es 0) i i'
gone_all places base at ds es i i' e g = subst (λ l. Opened places base 0 0 (numbers_of l) (Definitions_claim places (map defined l) 0) (Definitions_homes (map defined l) 0) (env_definitions l 0) i i') e
    (subst (λ n. Opened places base 0 0 n (Definitions_claim places (map defined ds) 0) (Definitions_homes (map defined ds) 0) (env_definitions ds 0) i i') g.next g.opened)
