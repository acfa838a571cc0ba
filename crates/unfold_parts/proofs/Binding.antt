-- The names of patterns, one part after the other.
use Rattle.std.proofs.Common.{◌≡◌, ℕ, zero, suc, ◌+◌, ◌<◌, ◌≤◌, ◌++◌, List, [], ◌∷◌, map, length, get_or, drop, take, Option, Some, None, refl, sym, ap, ◌∙◌, subst, append_assoc, append-nil, arith, Ok, Err}
use Rattle.std.specs.Prelude.{Result, IfErr, IfOk}
use Rattle.std.specs.Borrow.{Bor}
use Rattle.std.proofs.lemmas.List.{drop_all, take_all, length-map}
use Rattle.fut_scalar.specs.declared.place.BindId.{BindId}
use Rattle.fut_scalar.specs.declared.place.Place.{Place}
use Rattle.fut_ast.specs.Sorts.{Text}
use Rattle.fut_flat.specs.declared.pat.Pat.{Pat}
use Rattle.fut_flat.specs.declared.pat.PatField.{PatField, fold_out-PatField}
use Rattle.fut_flat.specs.declared.pat.PatForm.TheVariants as pattern
use Rattle.fut_flat.specs.declared.prim.Ref.{Ref}
use Rattle.fut_flat.specs.declared.ty.TypeExp.{TypeExp}
use Rattle.fut_flat.specs.Terms.{Bound_pattern, Wild_pattern, Tuple_pattern, Record_pattern, Typed_pattern, Patterns, no_pattern, pattern_and}
use Rattle.fut_flat.specs.Erased.{FlatPattern, patterns, pattern_of, pattern_form, texts}
use Rattle.fut_flat.proofs.ErasedPatterns.{pattern_field, pattern_bound, pattern_wild, pattern_tuple, pattern_record, pattern_typed}
use Rattle.fut_meaning.specs.Knowns.{with_some}
use Rattle.fut_blocks.proofs.Layers.{action_of-Operate, action_of-Make}
use Rattle.fut_blocks.specs.declared.block.Act.TheVariants as act
use Rattle.fut_blocks.specs.declared.block.Atom.{Atom}
use Rattle.fut_blocks.specs.declared.block.Atom.TheVariants as atom
use Rattle.fut_blocks.specs.declared.block.Making.TheVariants as make
use Rattle.fut_blocks.specs.declared.block.Operation.TheVariants as operation
use Rattle.fut_blocks.specs.Plain.{Operate, Read, Fields_at, action_of, making_form}
use Rattle.unfold.proofs.Mirror.{known_scalar, known_tuple, known_record}
use Rattle.unfold.specs.Held.{known_of, field_of, fields_known, scope_of}
use Rattle.unfold.specs.Knowns.{Known, Scalar_known, Tuple_known, Record_known, Known_fields, Scope, name_and, knowns, field, record_parts}
use Rattle.unfold.specs.Stuck.{Not_bound, No_scalar}
use Rattle.unfold.specs.Unfolding.{Bindings, step, named, b_bound, b_wild, b_tuple, b_parts, b_record, b_fields, b_typed, b_none, b_more}
use Rattle.unfold.specs.Unfolding as rules
use Rattle.fut_flat.specs.Numbers.{pattern_numbers, all_pattern_numbers}
use Rattle.unfold.specs.Telling.{enter}
use Rattle.fut_meaning.specs.Found.{Sizing}
use Rattle.told_rows.specs.Tables.{Told_by}
use Rattle.unfold_parts.specs.Told.{Held_sizes, Enters}
use Rattle.unfold.specs.declared.known.Field.{Field}
use Rattle.unfold.specs.declared.known.Known.{Known as Held_known}
use Rattle.unfold.specs.declared.known.KnownForm.TheVariants as form
use Rattle.unfold.specs.declared.known.Scope.{Scope as Held_scope}
use Rattle.unfold_parts.specs.Answers.{answered, unanswered, Bound_to, Bound_from, All_bound_from, Bound_inside, Is_entered, Is_named, Parts_given, Given_to, Fields_given, Opened, opened, Opened_to, Fields_read}
use Rattle.unfold_parts.specs.Layouts.{numbers_from}
use Rattle.unfold_parts.specs.Parts.{Fields_to, fields_to, not_fields}
use Rattle.unfold_parts.specs.Patterns.{field_patterns, field_names}
use Rattle.unfold_parts.specs.Refused.{lost, Not_all_bound}
use Rattle.unfold_parts.specs.declared.patterns.Bound.{Bound}
use Rattle.unfold_parts.specs.declared.patterns.Given.{Given}
use Rattle.unfold_parts.specs.declared.refusal.Refusal.{Refusal}
use Rattle.unfold_parts.specs.declared.refusal.Refusal.TheVariants.{Lost, Memory}
use Rattle.unfold_parts.proofs.Lacking.{No_tuple, No_record, tuple_unbound, record_unbound, typed_unbound, parts_unbound, fields_unbound, first_unbound, rest_unbound}
use Rattle.unfold_parts.proofs.Lists.{one_more}
use Rattle.unfold_parts.proofs.Naming.{upward}
use Rattle.unfold_parts.proofs.Packs.{listed_knowns}
use Rattle.unfold_parts.proofs.Refusing.{refused_as, answered_as, only_memory}

field_is : (f : PatField) → pattern_field f ≡ (f.name.now, pattern_of f.pat)
unfolding pattern_field pattern_of
field_is f = fold_out-PatField FlatPattern FlatPattern (Text × FlatPattern) pattern_form (λ p. p.form) (λ f. (f.name.now, f.pat)) f

patterns_of_fields : (fs : List PatField) → map (λ (f : Text × FlatPattern). f.1) (map pattern_field fs) ≡ map (λ (f : PatField). pattern_of f.pat) fs
patterns_of_fields [] = refl
patterns_of_fields (f ∷ fs) = ap (λ z. z.1 ∷ map (λ (f : Text × FlatPattern). f.1) (map pattern_field fs)) (field_is f) ∙ ap (λ z. pattern_of f.pat ∷ z) (patterns_of_fields fs)

names_of_fields : (fs : List PatField) → map (λ (f : Text × FlatPattern). f.0) (map pattern_field fs) ≡ field_names fs
names_of_fields [] = refl
names_of_fields (f ∷ fs) = ap (λ z. z.0 ∷ map (λ (f : Text × FlatPattern). f.0) (map pattern_field fs)) (field_is f) ∙ ap (λ z. f.name.now ∷ z) (names_of_fields fs)

record_is : (p : Pat) (fs : Bor (List PatField)) → p.form ≡ pattern.Record fs → pattern_of p ≡ Record_pattern (field_names fs.now) (field_patterns fs.now)
record_is p fs is = pattern_record p fs is ∙ ap (λ z. Record_pattern z (patterns (map (λ (f : Text × FlatPattern). f.1) (map pattern_field fs.now)))) (names_of_fields fs.now) ∙ ap (λ z. Record_pattern (field_names fs.now) (patterns z)) (patterns_of_fields fs.now)

-- ---- a component is bound to a pattern whatever its name is

abbrev Binds_from : Option Sizing → ℕ → FlatPattern → Atom → Scope → ℕ → Type 0
Binds_from z q p u sc n = (inner : Scope) × (bs : Bindings) × (m : ℕ) × rules.Binds z q p (Scalar_known u) sc n bs inner m

abbrev All_from : Option Sizing → ℕ → Patterns Ref BindId → List ℕ → Scope → ℕ → Type 0
All_from z q ps xs sc n = (inner : Scope) × (bs : Bindings) × (m : ℕ) × rules.All_bind z q ps (map named xs) sc n bs inner m

abbrev pattern_count : Patterns Ref BindId → ℕ
pattern_count no_pattern = 0
pattern_count (pattern_and p ps) = suc (pattern_count ps)

many_bind : {z : Option Sizing} {q : ℕ} {ps : Patterns Ref BindId} {ss : List Known} {sc inner : Scope} {n m : ℕ} {bs : Bindings} → rules.All_bind z q ps ss sc n bs inner m → length ss ≡ pattern_count ps
many_bind b_none = refl
many_bind (b_more b bs) = ap suc (many_bind bs)

named_length : (xs : List ℕ) → length (map named xs) ≡ length xs
named_length [] = refl
named_length (x ∷ xs) = ap suc (named_length xs)

numbers_length : (n k : ℕ) → length (numbers_from n k) ≡ k
numbers_length n zero = refl
numbers_length n (suc k) = ap suc (numbers_length (suc n) k)

parts_from : (z : Option Sizing) (q : ℕ) (ps : Patterns Ref BindId) (u : Atom) (sc : Scope) (n k : ℕ) → All_from z (1 + q) ps (numbers_from n k) (enter z q (Scalar_known u) sc) (n + k) → Binds_from z q (Tuple_pattern ps) u sc n
parts_from z q ps u sc n k (inner, bs, m, h) = (inner, step (numbers_from n k) (Operate (operation.Parts u)) ++ bs, m, b_parts (numbers_from n k) (upward n k) h)

fields_from : (z : Option Sizing) (q : ℕ) (fs : List Text) (ps : Patterns Ref BindId) (u : Atom) (sc : Scope) (n k : ℕ) → k ≡ length fs → All_from z (1 + q) ps (numbers_from n k) (enter z q (Scalar_known u) sc) (n + k) → Binds_from z q (Record_pattern fs ps) u sc n
fields_from z q fs ps u sc n k e (inner, bs, m, h) = (inner, step (numbers_from n k) (Read (Fields_at fs) (u ∷ [])) ++ bs, m, b_fields (numbers_from n k) (upward n k) (numbers_length n k ∙ e) h)

typed_from : (z : Option Sizing) (q : ℕ) (p : FlatPattern) (t : Rattle.fut_flat.specs.Erased.FlatType) (u : Atom) (sc : Scope) (n : ℕ) → Binds_from z q p u sc n → Binds_from z q (Typed_pattern p t) u sc n
typed_from z q p t u sc n (inner, bs, m, h) = (inner, bs, m, b_typed h)

more_from : (z : Option Sizing) (q : ℕ) (p : FlatPattern) (ps : Patterns Ref BindId) (x : ℕ) (xs : List ℕ) (sc : Scope) (n : ℕ) → Binds_from z q p (atom.Name x) sc n → ((inner : Scope) (m : ℕ) → All_from z (q + pattern_numbers p) ps xs inner m) → All_from z q (pattern_and p ps) (x ∷ xs) sc n
more_from z q p ps x xs sc n (inner, bs, m, h) all = rest (all inner m)
  where
    rest : All_from z (q + pattern_numbers p) ps xs inner m → All_from z q (pattern_and p ps) (x ∷ xs) sc n
    rest (last, cs, m', hs) = (last, bs ++ cs, m', b_more h hs)

mutual
  binds_again : {z : Option Sizing} {i : ℕ} {p : FlatPattern} {s : Known} {sc inner : Scope} {n m : ℕ} {bs : Bindings} → rules.Binds z i p s sc n bs inner m → (u : Atom) → s ≡ Scalar_known u → (w : Atom) (sc' : Scope) (k : ℕ) → Binds_from z i p w sc' k
  binds_again {z} {i} (b_bound {b = b}) u q w sc' k = (name_and b (Scalar_known w) (enter z i (Scalar_known w) sc'), [], k, b_bound)
  binds_again {z} {i} b_wild u q w sc' k = (enter z i (Scalar_known w) sc', [], k, b_wild)
  binds_again (b_tuple {ss = ss} h) u q w sc' k = absurd (let z : Tuple_known ss ≡ Scalar_known u = q in cc)
  binds_again {z} {i} (b_parts {ps = ps} xs up h) u q w sc' k = parts_from z i ps w sc' k (length xs) (all_again h xs refl (numbers_from k (length xs)) (sym (numbers_length k (length xs))) (enter z i (Scalar_known w) sc') (k + length xs))
  binds_again (b_record {known = known} e h) u q w sc' k = absurd (let z : Record_known known ≡ Scalar_known u = q in cc)
  binds_again {z} {i} (b_fields {fs = fs} {ps = ps} xs up e h) u q w sc' k = fields_from z i fs ps w sc' k (length xs) e (all_again h xs refl (numbers_from k (length xs)) (sym (numbers_length k (length xs))) (enter z i (Scalar_known w) sc') (k + length xs))
  binds_again {z} {i} (b_typed {p = p} {t = t} h) u q w sc' k = typed_from z i p t w sc' k (binds_again h u q w sc' k)

  all_again : {z : Option Sizing} {i : ℕ} {ps : Patterns Ref BindId} {ss : List Known} {sc inner : Scope} {n m : ℕ} {bs : Bindings} → rules.All_bind z i ps ss sc n bs inner m → (xs : List ℕ) → ss ≡ map named xs → (ys : List ℕ) → length xs ≡ length ys → (sc' : Scope) (k : ℕ) → All_from z i ps ys sc' k
  all_again b_none [] q [] e sc' k = (sc', [], k, b_none)
  all_again b_none [] q (y ∷ ys) e sc' k = absurd (let z : 0 ≡ suc (length ys) = e in cc)
  all_again b_none (x ∷ xs) q ys e sc' k = absurd (let z : [] ≡ named x ∷ map named xs = q in cc)
  all_again (b_more {s = s} {ss = ss} h hs) [] q ys e sc' k = absurd (let z : s ∷ ss ≡ [] = q in cc)
  all_again (b_more h hs) (x ∷ xs) q [] e sc' k = absurd (let z : suc (length xs) ≡ 0 = e in cc)
  all_again {z = sizes} {i} (b_more {p = p} {ps = ps} {s = s} {ss = ss} h hs) (x ∷ xs) q (y ∷ ys) e sc' k =
      let z : s ∷ ss ≡ named x ∷ map named xs = q in
      let first : s ≡ named x = cc in
      let rest : ss ≡ map named xs = cc in
      let many : length xs ≡ length ys = (let i : suc (length xs) ≡ suc (length ys) = e in cc) in
      more_from sizes i p ps y ys sc' k (binds_again h (atom.Name x) first (atom.Name y) sc' k) (λ inner m. all_again hs xs rest ys many inner m)

from_lacks : (z : Option Sizing) (q : ℕ) (ps : Patterns Ref BindId) (xs : List ℕ) (sc : Scope) (n : ℕ) → Not_all_bound ps (map named xs) → All_from z q ps xs sc n → ⊥
from_lacks z q ps xs sc n lacks (inner, bs, m, h) = lacks z q sc inner n m bs h

as_many : {z : Option Sizing} {q : ℕ} {ps : Patterns Ref BindId} {sc inner : Scope} {n m : ℕ} {bs : Bindings} (xs ys : List ℕ) → rules.All_bind z q ps (map named xs) sc n bs inner m → length ys ≡ pattern_count ps → length xs ≡ length ys
as_many xs ys h e = sym (named_length xs) ∙ many_bind h ∙ sym e

component_parts : (ps : Patterns Ref BindId) (u : Atom) (xs : List ℕ) → length xs ≡ pattern_count ps → Not_all_bound ps (map named xs) → Not_bound (Tuple_pattern ps) (Scalar_known u)
component_parts ps u xs e lacks z q sc inner (n, _, m, b_parts {k = k} ys up h) = from_lacks z (1 + q) ps xs (enter z q (Scalar_known u) sc) k lacks (all_again h ys refl xs (as_many ys xs h e) (enter z q (Scalar_known u) sc) k)

component_fields : (fs : List Text) (ps : Patterns Ref BindId) (u : Atom) (xs : List ℕ) → length xs ≡ pattern_count ps → Not_all_bound ps (map named xs) → Not_bound (Record_pattern fs ps) (Scalar_known u)
component_fields fs ps u xs e lacks z q sc inner (n, _, m, b_fields {k = k} ys up r h) = from_lacks z (1 + q) ps xs (enter z q (Scalar_known u) sc) k lacks (all_again h ys refl xs (as_many ys xs h e) (enter z q (Scalar_known u) sc) k)

-- ---- how large a pattern is

unfoldable mutual
  pub pattern_size : FlatPattern → ℕ
  pattern_size (Bound_pattern b) = 1
  pattern_size Wild_pattern = 1
  pattern_size (Tuple_pattern ps) = suc (patterns_size ps)
  pattern_size (Record_pattern fs ps) = suc (patterns_size ps)
  pattern_size (Typed_pattern p t) = suc (pattern_size p)

  pub patterns_size : Patterns Ref BindId → ℕ
  patterns_size no_pattern = 0
  patterns_size (pattern_and p ps) = suc (pattern_size p + patterns_size ps)

pub part_smaller : (ps : List Pat) (i : ℕ) (p : Pat) → i < length ps → pattern_size (pattern_of (get_or ps i p)) < patterns_size (patterns (map pattern_of ps))
unfolding patterns patterns_size
part_smaller [] i p lt = absurd (let z : i < 0 = lt in omega (arith, z))
part_smaller (q ∷ ps) zero p lt = omega arith
part_smaller (q ∷ ps) (suc i) p lt = let h = part_smaller ps i p (omega (arith, lt)) in omega (arith, h)

-- the parts of a pattern are smaller, by its form
module _ (p : Pat) where
  pub tuple_smaller : (ps : Bor (List Pat)) → p.form ≡ pattern.Tuple ps → patterns_size (patterns (map pattern_of ps.now)) < pattern_size (pattern_of p)
  unfolding pattern_size
  tuple_smaller ps is = subst (λ z. patterns_size (patterns (map pattern_of ps.now)) < pattern_size z) (sym (pattern_tuple p ps is)) (omega arith)

  pub record_smaller : (fs : Bor (List PatField)) (pats : List Pat) → p.form ≡ pattern.Record fs → patterns (map pattern_of pats) ≡ field_patterns fs.now → patterns_size (patterns (map pattern_of pats)) < pattern_size (pattern_of p)
  unfolding pattern_size
  record_smaller fs pats is e = subst (λ z. patterns_size (patterns (map pattern_of pats)) < pattern_size z) (sym (record_is p fs is)) (subst (λ z. patterns_size z < suc (patterns_size (field_patterns fs.now))) (sym e) (omega arith))

  pub typed_smaller : (q : Bor Pat) (t : Bor TypeExp) → p.form ≡ pattern.Typed q t → pattern_size (pattern_of q.now) < pattern_size (pattern_of p)
  unfolding pattern_size
  typed_smaller q t is = subst (λ z. pattern_size (pattern_of q.now) < pattern_size z) (sym (pattern_typed p q t is)) (omega arith)

pub given_patterns : (fs : List Text) (ps : Patterns Ref BindId) (s : Known) (n next : ℕ) (before after : Bindings) (g : Given) → Fields_given fs ps s n before after next (Ok g) → patterns (map pattern_of g.pats.now) ≡ ps
given_patterns fs ps s n next before after g (answered bs e h) = h.patterns

-- ---- by form

module _ (S : Held_sizes) (p : Pat) (b : Bound) (n : ℕ) (before : Bindings) where
  as_pattern : {q : FlatPattern} {s : Known} {after : Bindings} {next : ℕ} {r : Result Bound Refusal} → pattern_of p ≡ q → Bound_from S b q s n before after next r → Bound_from S b (pattern_of p) s n before after next r
  as_pattern {s = s} {after} {next} {r} e h = subst (λ z. Bound_from S b z s n before after next r) (sym e) h

  pub bound_name : (k : BindId) (s : Known) (r : Result Bound Refusal) → p.form ≡ pattern.Bound k → IfOk r (Is_named S b k s) → IfErr r (λ x. x ≡ Memory) → Bound_from S b (pattern_of p) s n before before n r
  bound_name k s (Ok c) is h m = as_pattern (pattern_bound p k is) (answered [] (sym (append-nil before)) record {
    binds = λ Z t. subst (λ z. rules.Binds Z b.at (Bound_pattern k) s (scope_of b.scope) n [] z n) (sym (h.names Z t)) b_bound;
    behind = h.behind;
  })
  bound_name k s (Err r) is h m = unanswered (only_memory m)

  pub bound_wild : (s : Known) (r : Result Bound Refusal) → p.form ≡ pattern.Wild → IfOk r (Is_entered S b s) → IfErr r (λ x. x ≡ Memory) → Bound_from S b (pattern_of p) s n before before n r
  bound_wild s (Ok c) is h m = as_pattern (pattern_wild p is) (answered [] (sym (append-nil before)) record {
    binds = λ Z t. subst (λ z. rules.Binds Z b.at Wild_pattern s (scope_of b.scope) n [] z n) (sym (h.enters Z t)) b_wild;
    behind = h.behind;
  })
  bound_wild s (Err r) is h m = unanswered (only_memory m)

  pub bound_typed : (q : Bor Pat) (t : Bor TypeExp) (s : Known) (after : Bindings) (next : ℕ) (r : Result Bound Refusal) → p.form ≡ pattern.Typed q t → Bound_from S b (pattern_of q.now) s n before after next r → Bound_from S b (pattern_of p) s n before after next r
  bound_typed q t s after next r is h = as_pattern (pattern_typed p q t is) (answered_as (λ bs c m i. record { binds = λ Z t. b_typed (i.binds Z t); behind = i.behind }) (typed_unbound (pattern_of q.now) _ s) h)

  -- the parts of the value, and then the patterns of the parts
  bound_given : (whole : FlatPattern) (ps : Patterns Ref BindId) (s : Known) (ss : List Known) (mid next : ℕ) (bs between after : Bindings) (r : Result Bound Refusal) → pattern_of p ≡ whole → between ≡ before ++ bs → Parts_given whole ps s n bs ss mid → Bound_inside S b s ps ss mid between after next r → Bound_from S b (pattern_of p) s n before after next r
  bound_given whole ps s ss mid next bs between after _ is e g (answered {a = c} cs q h) = as_pattern is (answered (bs ++ cs) (q ∙ ap (λ z. z ++ cs) e ∙ append_assoc before bs cs) record {
    binds = λ Z t. g.binds Z b.at (scope_of b.scope) (scope_of c.scope) cs next (h.binds Z t);
    behind = h.behind ∙ ap (λ z. b.at + z) (sym g.numbers);
  })
  bound_given whole ps s ss mid next bs between after _ is e g (unanswered h) = as_pattern is (unanswered (refused_as g.lacks h))

  pub bound_tuple : (ps : Bor (List Pat)) (s : Known) (given : Bor (List Held_known)) (mid next : ℕ) (between after : Bindings) (r : Result Bound Refusal) → p.form ≡ pattern.Tuple ps → Given_to (Tuple_pattern (patterns (map pattern_of ps.now))) (patterns (map pattern_of ps.now)) s n before between mid (Ok given) → Bound_inside S b s (patterns (map pattern_of ps.now)) (map known_of given.now) mid between after next r → Bound_from S b (pattern_of p) s n before after next r
  bound_tuple ps s given mid next between after r is (answered bs e g) h = bound_given _ _ s _ mid next bs between after r (pattern_tuple p ps is) e g h

  pub tuple_refused : (ps : Bor (List Pat)) (s : Known) (mid : ℕ) (between : Bindings) (after : Bindings) (next : ℕ) (r : Refusal) → p.form ≡ pattern.Tuple ps → Given_to (Tuple_pattern (patterns (map pattern_of ps.now))) (patterns (map pattern_of ps.now)) s n before between mid (Err r) → Bound_from S b (pattern_of p) s n before after next (Err r)
  tuple_refused ps s mid between after next r is (unanswered h) = as_pattern (pattern_tuple p ps is) (unanswered h)

  pub bound_record : (fs : Bor (List PatField)) (s : Known) (given : Given) (mid next : ℕ) (between after : Bindings) (r : Result Bound Refusal) → p.form ≡ pattern.Record fs → Fields_given (field_names fs.now) (field_patterns fs.now) s n before between mid (Ok given) → Bound_inside S b s (patterns (map pattern_of given.pats.now)) (map known_of given.knowns.now) mid between after next r → Bound_from S b (pattern_of p) s n before after next r
  bound_record fs s given mid next between after r is (answered bs e g) h = bound_given _ _ s _ mid next bs between after r (record_is p fs is) e g.parts (subst (λ z. Bound_inside S b s z (map known_of given.knowns.now) mid between after next r) g.patterns h)

  pub record_refused : (fs : Bor (List PatField)) (s : Known) (mid : ℕ) (between : Bindings) (after : Bindings) (next : ℕ) (r : Refusal) → p.form ≡ pattern.Record fs → Fields_given (field_names fs.now) (field_patterns fs.now) s n before between mid (Err r) → Bound_from S b (pattern_of p) s n before after next (Err r)
  record_refused fs s mid between after next r is (unanswered h) = as_pattern (record_is p fs is) (unanswered h)

-- the names alone
pub bound_ok : (S : Held_sizes) (p : FlatPattern) (s : Known) (b c : Bound) (q : ℕ) (sc : Held_scope) (n next : ℕ) (before after : Bindings) → b.scope ≡ sc → b.at ≡ q → Bound_from S b p s n before after next (Ok c) → Bound_to S q p s (scope_of sc) n before after next (Ok c.scope)
bound_ok S p s b c q sc n next before after e i (answered bs g h) = answered bs g (λ Z t. subst (λ z. rules.Binds Z z p s (scope_of sc) n bs (scope_of c.scope) next) i (subst (λ z. rules.Binds Z b.at p s (scope_of z) n bs (scope_of c.scope) next) e (h.binds Z t)))

pub bound_err : (S : Held_sizes) (p : FlatPattern) (s : Known) (b : Bound) (q : ℕ) (sc : Scope) (n next : ℕ) (before after : Bindings) (x : Refusal) → Bound_from S b p s n before after next (Err x) → Bound_to S q p s sc n before after next (Err x)
bound_err S p s b q sc n next before after x (unanswered h) = unanswered h

-- a pattern is entered, and its name is bound
module _ (S : Held_sizes) (b : Bound) (s : Known) where
  pub entered_ok : (c : Bound) (scope : Held_scope) → Enters S b.at s (scope_of b.scope) (scope_of scope) → c.scope ≡ scope → c.at ≡ b.at + 1 → Is_entered S b s c
  entered_ok c scope h e q = record { enters = λ Z t. ap scope_of e ∙ h Z t; behind = q }

  pub named_ok : (k : BindId) (inside c : Bound) (scope : Held_scope) → Is_entered S b s inside → scope_of scope ≡ name_and k s (scope_of inside.scope) → c.scope ≡ scope → c.at ≡ inside.at → Is_named S b k s c
  named_ok k inside c scope h i e q = record { names = λ Z t. ap scope_of e ∙ i ∙ ap (name_and k s) (h.enters Z t); behind = q ∙ h.behind }

  pub inside_ok : (inside : Bound) (ps : Patterns Ref BindId) (ss : List Known) (n next : ℕ) (before after : Bindings) (r : Result Bound Refusal) → Is_entered S b s inside → All_bound_from S inside ps ss n before after next r → Bound_inside S b s ps ss n before after next r
  inside_ok inside ps ss n next before after r e h = answered_as (λ bs c m i. record {
    binds = λ Z t. subst (λ z. rules.All_bind Z z ps ss (enter Z b.at s (scope_of b.scope)) n bs (scope_of c.scope) m) (let q : inside.at ≡ 1 + b.at = omega (arith, e.behind) in q) (subst (λ z. rules.All_bind Z inside.at ps ss z n bs (scope_of c.scope) m) (e.enters Z t) (i.binds Z t));
    behind = (let q : c.at ≡ b.at + (1 + all_pattern_numbers ps) = omega (arith, i.behind, e.behind) in q);
  }) (λ lacks. lacks) h

-- ---- the parts of a value

patterns_count : (ps : List Pat) → pattern_count (patterns (map pattern_of ps)) ≡ length ps
unfolding patterns
patterns_count [] = refl
patterns_count (p ∷ ps) = ap suc (patterns_count ps)

fields_count : (fs : List PatField) → pattern_count (field_patterns fs) ≡ length fs
unfolding patterns
fields_count [] = refl
fields_count (f ∷ fs) = ap suc (fields_count fs)

names_count : (fs : List PatField) → length (field_names fs) ≡ length fs
names_count [] = refl
names_count (f ∷ fs) = ap suc (names_count fs)

module _ (n : ℕ) (before : Bindings) where
  pub tuple_parts : (ps : Patterns Ref BindId) (s : Held_known) (ss : Bor (List Held_known)) → s.form ≡ form.Tuple ss → Given_to (Tuple_pattern ps) ps (known_of s) n before before n (Ok ss)
  tuple_parts ps s ss is = answered [] (sym (append-nil before)) (subst (λ z. Parts_given (Tuple_pattern ps) ps z n [] (map known_of ss.now) n) (sym (known_tuple s ss is))
      record {
        binds = λ Z q sc inner cs m h. b_tuple (subst (λ z. rules.All_bind Z (1 + q) ps z (enter Z q (Tuple_known (knowns (map known_of ss.now))) sc) n cs inner m) (sym (listed_knowns (map known_of ss.now))) h);
        numbers = refl;
        lacks = λ lacks. parts_unbound ps (knowns (map known_of ss.now)) (subst (Not_all_bound ps) (sym (listed_knowns (map known_of ss.now))) lacks);
      })

  pub component_given : (ps : List Pat) (s : Held_known) (u : Atom) (after : Bindings) (next : ℕ) (r : Result (Bor (List Held_known)) Refusal) → s.form ≡ form.Scalar u → Opened_to (action_of (act.Operate (operation.Parts u))) (length ps) n before after next r → Given_to (Tuple_pattern (patterns (map pattern_of ps))) (patterns (map pattern_of ps)) (known_of s) n before after next r
  component_given ps s u after next r is h = subst (λ z. Given_to (Tuple_pattern (patterns (map pattern_of ps))) (patterns (map pattern_of ps)) z n before after next r) (sym (known_scalar s u is))
      (answered_as (λ bs given m o. given_by bs (map known_of given.now) m (subst (λ z. Opened z (length ps) n bs (map known_of given.now) m) (action_of-Operate (operation.Parts u)) o)) (λ never. absurd never) h)
    where
      given_by : (bs : Bindings) (ss : List Known) (m : ℕ) → Opened (Operate (operation.Parts u)) (length ps) n bs ss m → Parts_given (Tuple_pattern (patterns (map pattern_of ps))) (patterns (map pattern_of ps)) (Scalar_known u) n bs ss m
      given_by _ ss m (opened {xs = xs} g) = record {
        binds = λ Z q sc inner cs k h. b_parts xs g.upward (subst (λ z. rules.All_bind Z (1 + q) (patterns (map pattern_of ps)) z (enter Z q (Scalar_known u) sc) m cs inner k) g.knowns h);
        numbers = refl;
        lacks = λ lacks. component_parts (patterns (map pattern_of ps)) u xs (g.many ∙ sym (patterns_count ps)) (subst (Not_all_bound (patterns (map pattern_of ps))) g.knowns lacks);
      }

  pub tuple_other : (ps : Patterns Ref BindId) (s : Known) (after : Bindings) (next : ℕ) → No_tuple s → No_scalar s → Given_to (Tuple_pattern ps) ps s n before after next (Err Lost)
  tuple_other ps s after next t c = unanswered (lost (tuple_unbound ps s t c))

  pub record_given_ok : (fs : List Text) (ps : Patterns Ref BindId) (s : Known) (pats : Bor (List Pat)) (knowns : Bor (List Held_known)) (g : Given) (after : Bindings) (next : ℕ) → patterns (map pattern_of pats.now) ≡ ps → g.pats ≡ pats → g.knowns ≡ knowns → Given_to (Record_pattern fs ps) ps s n before after next (Ok knowns) → Fields_given fs ps s n before after next (Ok g)
  record_given_ok fs ps s pats knowns g after next e i j (answered bs q h) = answered bs q record { patterns = ap (λ (z : Bor (List Pat)). patterns (map pattern_of z.now)) i ∙ e; parts = subst (λ (z : Bor (List Held_known)). Parts_given (Record_pattern fs ps) ps s n bs (map known_of z.now) next) (sym j) h }

  pub record_given_err : (fs : List Text) (ps : Patterns Ref BindId) (s : Known) (after : Bindings) (next : ℕ) (r : Refusal) → Given_to (Record_pattern fs ps) ps s n before after next (Err r) → Fields_given fs ps s n before after next (Err r)
  record_given_err fs ps s after next r (unanswered h) = unanswered h

  pub fields_given_record : (fs : List Text) (ps : Patterns Ref BindId) (s : Held_known) (gs : Bor (List Field)) (r : Result (Bor (List Held_known)) Refusal) → s.form ≡ form.Record gs → Fields_to fs (fields_known (map field_of gs.now)) r → Given_to (Record_pattern fs ps) ps (known_of s) n before before n r
  fields_given_record fs ps s gs r is h = subst (λ z. Given_to (Record_pattern fs ps) ps z n before before n r) (sym (known_record s gs is)) (by_fields r h)
    where
      by_fields : (r : Result (Bor (List Held_known)) Refusal) → Fields_to fs (fields_known (map field_of gs.now)) r → Given_to (Record_pattern fs ps) ps (Record_known (fields_known (map field_of gs.now))) n before before n r
      by_fields _ (fields_to {ss = ss} e) = answered [] (sym (append-nil before)) record {
        binds = λ Z q sc inner cs m h. b_record e h;
        numbers = refl;
        lacks = λ lacks. fields_unbound fs ps (fields_known (map field_of gs.now)) (λ ts q. subst (Not_all_bound ps) (let z : Some (map known_of ss.now) ≡ Some ts = sym e ∙ q in cc) lacks);
      }
      by_fields _ (not_fields h) = unanswered (refused_as (λ never. fields_unbound fs ps (fields_known (map field_of gs.now)) (λ ts q. absurd (never ts q))) h)

  pub fields_given_component : (fs : List PatField) (s : Held_known) (u : Atom) (after : Bindings) (next : ℕ) (r : Result (Bor (List Held_known)) Refusal) → s.form ≡ form.Scalar u → Fields_read (field_names fs) u n before after next r → Given_to (Record_pattern (field_names fs) (field_patterns fs)) (field_patterns fs) (known_of s) n before after next r
  fields_given_component fs s u after next r is h = subst (λ z. Given_to (Record_pattern (field_names fs) (field_patterns fs)) (field_patterns fs) z n before after next r) (sym (known_scalar s u is))
      (answered_as (λ bs given m o. given_by bs (map known_of given.now) m o) (λ never. absurd never) h)
    where
      given_by : (bs : Bindings) (ss : List Known) (m : ℕ) → Opened (Read (Fields_at (field_names fs)) (u ∷ [])) (length (field_names fs)) n bs ss m → Parts_given (Record_pattern (field_names fs) (field_patterns fs)) (field_patterns fs) (Scalar_known u) n bs ss m
      given_by _ ss m (opened {xs = xs} g) = record {
        binds = λ Z q sc inner cs k h. b_fields xs g.upward g.many (subst (λ z. rules.All_bind Z (1 + q) (field_patterns fs) z (enter Z q (Scalar_known u) sc) m cs inner k) g.knowns h);
        numbers = refl;
        lacks = λ lacks. component_fields (field_names fs) (field_patterns fs) u xs (g.many ∙ names_count fs ∙ sym (fields_count fs)) (subst (Not_all_bound (field_patterns fs)) g.knowns lacks);
      }

  pub record_other : (fs : List Text) (ps : Patterns Ref BindId) (s : Known) (after : Bindings) (next : ℕ) → No_record s → No_scalar s → Given_to (Record_pattern fs ps) ps s n before after next (Err Lost)
  record_other fs ps s after next t c = unanswered (lost (record_unbound fs ps s t c))

  -- the step that reads fields
  pub fields_step : (fs : List PatField) (u : Atom) (names : Bor (List (Bor Text))) (at : Place) (row : Bor (List Atom)) (after : Bindings) (next : ℕ) (r : Result (Bor (List Held_known)) Refusal) → texts names.now ≡ field_names fs → row.now ≡ u ∷ [] → Opened_to (action_of (act.Make (make.Fields names) at row)) (length fs) n before after next r → Fields_read (field_names fs) u n before after next r
  unfolding making_form
  fields_step fs u names at row after next r e i h =
      subst (λ z. Opened_to z (length (field_names fs)) n before after next r) (action_of-Make (make.Fields names) at row ∙ ap (λ z. Read (Fields_at z) row.now) e ∙ ap (Read (Fields_at (field_names fs))) i)
      (subst (λ k. Opened_to (action_of (act.Make (make.Fields names) at row)) k n before after next r) (sym (names_count fs)) h)

-- ---- parts, one after the other

-- what is bound of the parts from one on leads to all of them
pub data Bound_so_far (S : Held_sizes) (ps : List Pat) (ss : List Held_known) (b : Bound) (n i j next : ℕ) (before now : Bindings) (c : Bound) : Type 0 where
  bound_so_far : (bs : Bindings) → now ≡ before ++ bs → c.at + all_pattern_numbers (patterns (map pattern_of (drop i ps))) ≡ b.at + all_pattern_numbers (patterns (map pattern_of ps)) → ((Z : Option Sizing) → Told_by S Z → (inner : Scope) (cs : Bindings) (m : ℕ) → rules.All_bind Z c.at (patterns (map pattern_of (drop i ps))) (map known_of (drop j ss)) (scope_of c.scope) next cs inner m → rules.All_bind Z b.at (patterns (map pattern_of ps)) (map known_of ss) (scope_of b.scope) n (bs ++ cs) inner m) → Bound_so_far S ps ss b n i j next before now c

numbers_of_rest : (ps : List Pat) (i : ℕ) (p : Pat) → i < length ps → all_pattern_numbers (patterns (map pattern_of (drop i ps))) ≡ pattern_numbers (pattern_of (get_or ps i p)) + all_pattern_numbers (patterns (map pattern_of (drop (i + 1) ps)))
unfolding patterns
numbers_of_rest ps i p lt = ap (λ z. all_pattern_numbers (patterns (map pattern_of z))) (one_more ps i p lt)

module _ (S : Held_sizes) (ps : List Pat) (ss : List Held_known) (b : Bound) (n : ℕ) where
  abbrev pub All_lead : ℕ → ℕ → ℕ → Bindings → Bindings → Bound → Type 0
  All_lead = Bound_so_far S ps ss b n

  pub all_lead_start : (before : Bindings) → All_lead 0 0 n before before b
  all_lead_start before = bound_so_far [] (sym (append-nil before)) refl (λ Z t inner cs m h. h)

  pub all_lead_on : (i j mid next : ℕ) (before between after : Bindings) (p : Pat) (s : Held_known) (names inner : Bound) → i < length ps → j < length ss → All_lead i j mid before between names → Bound_from S names (pattern_of (get_or ps i p)) (known_of (get_or ss j s)) mid between after next (Ok inner) → All_lead (i + 1) (j + 1) next before after inner
  unfolding patterns
  all_lead_on i j mid next before between after p s names inner lt lt' (bound_so_far bs e at f) (answered cs q h) =
      bound_so_far (bs ++ cs) (q ∙ ap (λ z. z ++ cs) e ∙ append_assoc before bs cs)
      (let k : inner.at + all_pattern_numbers (patterns (map pattern_of (drop (i + 1) ps))) ≡ b.at + all_pattern_numbers (patterns (map pattern_of ps)) = omega (arith, at, h.behind, numbers_of_rest ps i p lt) in k) rest
    where
      rest : (Z : Option Sizing) → Told_by S Z → (last : Scope) (ds : Bindings) (m : ℕ) → rules.All_bind Z inner.at (patterns (map pattern_of (drop (i + 1) ps))) (map known_of (drop (j + 1) ss)) (scope_of inner.scope) next ds last m → rules.All_bind Z b.at (patterns (map pattern_of ps)) (map known_of ss) (scope_of b.scope) n ((bs ++ cs) ++ ds) last m
      rest Z t last ds m k = subst (λ z. rules.All_bind Z b.at (patterns (map pattern_of ps)) (map known_of ss) (scope_of b.scope) n z last m) (sym (append_assoc bs cs ds)) (f Z t last (cs ++ ds) m (subst (λ z. rules.All_bind Z names.at (patterns (map pattern_of z)) (map known_of (drop j ss)) (scope_of names.scope) mid (cs ++ ds) last m) (sym (one_more ps i p lt)) (subst (λ z. rules.All_bind Z names.at (patterns (map pattern_of (get_or ps i p ∷ drop (i + 1) ps))) (map known_of z) (scope_of names.scope) mid (cs ++ ds) last m) (sym (one_more ss j s lt')) (b_more (h.binds Z t) (subst (λ z. rules.All_bind Z z (patterns (map pattern_of (drop (i + 1) ps))) (map known_of (drop (j + 1) ss)) (scope_of inner.scope) next ds last m) h.behind k)))))

  pub all_lead_end : (i j next : ℕ) (before now : Bindings) (inner : Bound) → length ps ≤ i → length ss ≤ j → All_lead i j next before now inner → All_bound_from S b (patterns (map pattern_of ps)) (map known_of ss) n before now next (Ok inner)
  unfolding patterns
  all_lead_end i j next before now inner le le' (bound_so_far bs e at f) = answered bs e record {
    binds = λ Z t. subst (λ z. rules.All_bind Z b.at (patterns (map pattern_of ps)) (map known_of ss) (scope_of b.scope) n z (scope_of inner.scope) next) (append-nil bs) (f Z t (scope_of inner.scope) [] next (nothing_left Z));
    behind = (let k : inner.at ≡ b.at + all_pattern_numbers (patterns (map pattern_of ps)) = omega (arith, at, no_numbers_left) in k);
  }
    where
      no_numbers_left : all_pattern_numbers (patterns (map pattern_of (drop i ps))) ≡ 0
      no_numbers_left = ap (λ z. all_pattern_numbers (patterns (map pattern_of z))) (drop_all i ps le)

      nothing_left : (Z : Option Sizing) → rules.All_bind Z inner.at (patterns (map pattern_of (drop i ps))) (map known_of (drop j ss)) (scope_of inner.scope) next [] (scope_of inner.scope) next
      nothing_left Z = subst (λ z. rules.All_bind Z inner.at (patterns (map pattern_of z)) (map known_of (drop j ss)) (scope_of inner.scope) next [] (scope_of inner.scope) next) (sym (drop_all i ps le)) (subst (λ z. rules.All_bind Z inner.at (patterns (map pattern_of [])) (map known_of z) (scope_of inner.scope) next [] (scope_of inner.scope) next) (sym (drop_all j ss le')) b_none)

-- there are not as many of both
unequal : (ps : List Pat) (ss : List Held_known) → (length ps ≡ length ss → ⊥) → Not_all_bound (patterns (map pattern_of ps)) (map known_of ss)
unfolding patterns
unequal [] [] h z q sc inner n m bs b = h refl
unequal [] (s ∷ ss) h z q sc inner n m bs b = elim b [ ]
unequal (p ∷ ps) [] h z q sc inner n m bs b = elim b [ ]
unequal (p ∷ ps) (s ∷ ss) h z q sc inner n m bs b = rest_unbound (pattern_of p) (patterns (map pattern_of ps)) (known_of s) (map known_of ss) (unequal ps ss (λ e. h (ap suc e))) z q sc inner n m bs b

pub all_bound_unequal : (S : Held_sizes) (ps : List Pat) (ss : List Held_known) (b : Bound) (n : ℕ) (before after : Bindings) (next : ℕ) → (length ps ≡ length ss → ⊥) → All_bound_from S b (patterns (map pattern_of ps)) (map known_of ss) n before after next (Err Lost)
all_bound_unequal S ps ss b n before after next h = unanswered (lost (unequal ps ss h))

-- some part has not the form of its pattern
part_lacks : (ps : List Pat) (ss : List Held_known) (i : ℕ) (p : Pat) (s : Held_known) → i < length ps → i < length ss → Not_bound (pattern_of (get_or ps i p)) (known_of (get_or ss i s)) → Not_all_bound (patterns (map pattern_of ps)) (map known_of ss)
unfolding patterns
part_lacks [] ss i p s lt lt' h = absurd (let z : i < 0 = lt in omega (arith, z))
part_lacks (q ∷ ps) [] i p s lt lt' h = absurd (let z : i < 0 = lt' in omega (arith, z))
part_lacks (q ∷ ps) (r ∷ ss) zero p s lt lt' h = first_unbound (pattern_of q) (patterns (map pattern_of ps)) (known_of r) (map known_of ss) h
part_lacks (q ∷ ps) (r ∷ ss) (suc i) p s lt lt' h = rest_unbound (pattern_of q) (patterns (map pattern_of ps)) (known_of r) (map known_of ss) (part_lacks ps ss i p s (omega (arith, lt)) (omega (arith, lt')) h)

pub all_bound_err : (S : Held_sizes) (ps : List Pat) (ss : List Held_known) (b names : Bound) (n i j mid later : ℕ) (before between behind after : Bindings) (next : ℕ) (p : Pat) (s : Held_known) (r : Refusal) → i ≡ j → i < length ps → j < length ss → Bound_from S names (pattern_of (get_or ps i p)) (known_of (get_or ss j s)) mid between behind later (Err r) → All_bound_from S b (patterns (map pattern_of ps)) (map known_of ss) n before after next (Err r)
all_bound_err S ps ss b names n i j mid later before between behind after next p s r e lt lt' (unanswered h) =
    unanswered (refused_as (λ lacks. part_lacks ps ss i p s lt (omega (arith, e, lt')) (subst (λ k. Not_bound (pattern_of (get_or ps i p)) (known_of (get_or ss k s))) (sym e) lacks)) h)

-- ---- the patterns and the names of fields

patterns_mapped : (fs : List PatField) → map pattern_of (map (λ (f : PatField). f.pat) fs) ≡ map (λ (f : PatField). pattern_of f.pat) fs
patterns_mapped [] = refl
patterns_mapped (f ∷ fs) = ap (λ z. pattern_of f.pat ∷ z) (patterns_mapped fs)

names_mapped : (fs : List PatField) → texts (map (λ (f : PatField). f.name) fs) ≡ field_names fs
names_mapped [] = refl
names_mapped (f ∷ fs) = ap (λ z. f.name.now ∷ z) (names_mapped fs)

pub patterns_are : (fs : List PatField) (i : ℕ) (items : List Pat) (row : Bor (List Pat)) → length fs ≤ i → items ≡ map (λ (f : PatField). f.pat) (take i fs) → row.now ≡ items → patterns (map pattern_of row.now) ≡ field_patterns fs
patterns_are fs i items row le e q = ap (λ z. patterns (map pattern_of z)) (q ∙ e ∙ ap (map (λ (f : PatField). f.pat)) (take_all i fs le)) ∙ ap patterns (patterns_mapped fs)

pub names_are : (fs : List PatField) (i : ℕ) (items : List (Bor Text)) (row : Bor (List (Bor Text))) → length fs ≤ i → items ≡ map (λ (f : PatField). f.name) (take i fs) → row.now ≡ items → texts row.now ≡ field_names fs
names_are fs i items row le e q = ap texts (q ∙ e ∙ ap (map (λ (f : PatField). f.name)) (take_all i fs le)) ∙ names_mapped fs

-- ---- fields, one after the other

module _ (fs : List PatField) (gs : Known_fields) where
  abbrev pub Fields_lead : ℕ → List Held_known → Type 0
  Fields_lead i items = (ss : List Known) → record_parts (field_names (drop i fs)) gs ≡ Some ss → record_parts (field_names fs) gs ≡ Some (map known_of items ++ ss)

  pub fields_lead_on : (i : ℕ) (f : PatField) (s : Held_known) (items items' : List Held_known) → i < length fs → Some (known_of s) ≡ field (get_or fs i f).name.now gs → Fields_lead i items → items' ≡ items ++ s ∷ [] → Fields_lead (i + 1) items'
  fields_lead_on i f s items items' lt e g q ss h =
      g (known_of s ∷ ss) (ap (λ z. record_parts (field_names z) gs) (one_more fs i f lt) ∙ ap (λ z. with_some z (λ t. with_some (record_parts (field_names (drop (i + 1) fs)) gs) (λ ts. Some (t ∷ ts)))) (sym e) ∙ ap (λ z. with_some z (λ ts. Some (known_of s ∷ ts))) h)
      ∙ ap Some (sym (ap (λ z. map known_of z ++ ss) q ∙ ap (λ z. z ++ ss) (Rattle.std.proofs.lemmas.List.map-append known_of items (s ∷ [])) ∙ append_assoc (map known_of items) (known_of s ∷ []) ss))

  pub fields_lead_end : (i : ℕ) (items : List Held_known) (row : Bor (List Held_known)) → length fs ≤ i → Fields_lead i items → row.now ≡ items → Fields_to (field_names fs) gs (Ok row)
  fields_lead_end i items row le g q = fields_to (g [] (ap (λ z. record_parts (field_names z) gs) (drop_all i fs le)) ∙ ap Some (append-nil (map known_of items) ∙ ap (map known_of) (sym q)))

-- a field is not there
names_lack : (fs : List PatField) (gs : Known_fields) (i : ℕ) (f : PatField) → i < length fs → field (get_or fs i f).name.now gs ≡ None → (ss : List Known) → record_parts (field_names fs) gs ≡ Some ss → ⊥
names_lack [] gs i f lt e ss q = let z : i < 0 = lt in omega (arith, z)
names_lack (g ∷ fs) gs zero f lt e ss q = let z : None ≡ Some ss = sym (ap (λ o. with_some o (λ s. with_some (record_parts (field_names fs) gs) (λ ts. Some (s ∷ ts)))) e) ∙ q in cc
names_lack (g ∷ fs) gs (suc i) f lt e ss q = known (field g.name.now gs) (record_parts (field_names fs) gs) (names_lack fs gs i f (omega (arith, lt)) e) q
  where
    known : (o : Option Known) (o' : Option (List Known)) → ((ss : List Known) → o' ≡ Some ss → ⊥) → with_some o (λ s. with_some o' (λ ts. Some (s ∷ ts))) ≡ Some ss → ⊥
    known None o' h q = let z : None ≡ Some ss = q in cc
    known (Some s) None h q = let z : None ≡ Some ss = q in cc
    known (Some s) (Some ts) h q = h ts refl

pub fields_none : (fs : List PatField) (gs : Known_fields) (i : ℕ) (f : PatField) → i < length fs → None ≡ field (get_or fs i f).name.now gs → Fields_to (field_names fs) gs (Err Lost)
fields_none fs gs i f lt e = not_fields (lost (names_lack fs gs i f lt (sym e)))
