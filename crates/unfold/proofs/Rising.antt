-- The names of a program's blocks rise.
use Rattle.std.proofs.Common.{◌≡◌, ℕ, suc, ◌≤◌, ◌++◌, List, [], ◌∷◌, Option, Some, None, refl, sym, subst, arith}
use Rattle.fut_scalar.specs.declared.place.BindId.{BindId}
use Rattle.fut_scalar.specs.declared.place.Place.{Place}
use Rattle.fut_scalar.specs.declared.scalar.IntType.{IntType}
use Rattle.fut_flat.specs.declared.prim.Primitive.{Primitive}
use Rattle.fut_flat.specs.declared.prim.Ref.{Ref}
use Rattle.fut_flat.specs.Erased.{FlatTerm, FlatPattern}
use Rattle.fut_flat.specs.Terms.{Operation, Patterns, Terms}
use Rattle.fut_meaning.specs.Found.{Told, Sizing}
use Rattle.fut_blocks.specs.Rows.{Row, Size_test}
use Rattle.fut_meaning.specs.Flats.{FlatTop}
use Rattle.fut_blocks.specs.declared.block.Atom.{Atom}
use Rattle.fut_blocks.specs.declared.block.Operation.{Operation as Block_operation}
use Rattle.fut_blocks.specs.Numbered.{Upward, Act_numbered, Body_numbered}
use Rattle.fut_blocks.specs.Plain.{Action, Operate, lets}
use Rattle.unfold.specs.Claims.{NamesRise}
use Rattle.unfold.specs.Knowns.{Known, Knowns, Known_fields, Scope, Tops}
use Rattle.unfold.specs.Programs.{Definitions_unfold, d_none, d_reached, d_other}
use Rattle.unfold.specs.Unfolding.{Bindings, step, tested, both_hold, Binds, b_bound, b_wild, b_tuple, b_parts, b_record, b_fields, b_typed, All_bind, b_none, b_more, Equals, e_scalars, e_packed, e_tuples, e_records, All_equal, e_none, e_more, Fields_equal, e_no_field, e_field, Operates, o_integer, o_truth, o_tuple, o_record, o_binary, o_equal, o_unequal, o_negate, o_complement, o_project, o_part, o_changed, o_replace, o_ascribe, o_coerce, o_declared, o_assert, o_made, Primitive_operates, p_convert, p_min, p_max, p_abs, p_popc, Unfolds, u_name, u_size, u_primitive, u_constant, u_strict, u_lambda, u_apply, u_let, u_packed, u_if, u_counted, u_over, u_while, Unfold_all, u_none, u_more, Applies, a_body, a_waits, a_primitive_waits, a_primitive, a_job, Applies_all, a_none, a_more, Packs, p_atom, p_tuple, p_record, Packs_all, p_none, p_more}

-- the names of steps rise from `n` on, up to `m`
unfoldable pub Numbered : ℕ → Bindings → ℕ → Type 0
Numbered n [] m = n ≡ m
Numbered n (b ∷ bs) m = (k : ℕ) × Act_numbered n b.1 k × (l : ℕ) × Upward k b.0 l × Numbered l bs m

numbered_none : (n : ℕ) → Numbered n [] n
unfolding Numbered
numbered_none n = refl

numbered_append : (n k m : ℕ) (bs cs : Bindings) → Numbered n bs k → Numbered k cs m → Numbered n (bs ++ cs) m
unfolding Numbered
numbered_append n k m [] cs e l = subst (λ z. Numbered z cs m) (sym e) l
numbered_append n k m (b ∷ bs) cs (i, a, j, u, h) l = (i, a, j, u, numbered_append j k m bs cs h l)

numbered_step : (n k m : ℕ) (xs : List ℕ) (a : Action) → Act_numbered n a k → Upward k xs m → Numbered n (step xs a) m
unfolding Numbered
numbered_step n k m xs a h u = (k, h, m, u, refl)

-- steps and results, as one body
numbered_lets : (n m k : ℕ) (bs : Bindings) (us : List Atom) → Numbered n bs m → m ≤ k → Body_numbered n (lets bs us) k
unfolding Numbered lets Body_numbered
numbered_lets n m k [] us e le = omega (arith, e, le)
numbered_lets n m k (b ∷ bs) us (i, a, j, u, h) le = (i, a, j, u, numbered_lets j m k bs us h le)

numbered_body : (n m : ℕ) (bs : Bindings) (us : List Atom) → Numbered n bs m → Body_numbered n (lets bs us) m
numbered_body n m bs us h = numbered_lets n m m bs us h (omega arith)

-- an operation with one new name
numbered_one : (n x : ℕ) (o : Block_operation) → n ≤ x → Numbered n (step (x ∷ []) (Operate o)) (suc x)
unfolding Act_numbered
numbered_one n x o le = numbered_step n x (suc x) (x ∷ []) (Operate o) le (omega arith, omega arith)

numbered_both : (n x : ℕ) (u w : Atom) → n ≤ x → Numbered n (step (x ∷ []) (both_hold u w)) (suc x)
unfolding Act_numbered Body_numbered
numbered_both n x u w le = numbered_step n x (suc x) (x ∷ []) (both_hold u w) (n, omega arith, le) (omega arith, omega arith)

mutual
  unfolding Act_numbered

  packs_rise : {s : Known} {n m : ℕ} {bs : Bindings} {u : Atom} → Packs s n bs u m → Numbered n bs m
  packs_rise p_atom = numbered_none _
  packs_rise (p_tuple {n = n} {m} {x} {bs = bs} r le) = numbered_append n m (suc x) bs _ (packs_all_rise r) (numbered_step m x (suc x) (x ∷ []) _ le (omega arith, omega arith))
  packs_rise (p_record {n = n} {m} {x} {bs = bs} r le) = numbered_append n m (suc x) bs _ (packs_all_rise r) (numbered_step m x (suc x) (x ∷ []) _ le (omega arith, omega arith))

  packs_all_rise : {ss : List Known} {n m : ℕ} {bs : Bindings} {us : List Atom} → Packs_all ss n bs us m → Numbered n bs m
  packs_all_rise p_none = numbered_none _
  packs_all_rise (p_more {n = n} {k} {m} {bs = bs} {cs} r rs) = numbered_append n k m bs cs (packs_rise r) (packs_all_rise rs)

mutual
  equals_rise : {at : Place} {s t : Known} {n m : ℕ} {bs : Bindings} {u : Atom} → Equals at s t n bs u m → Numbered n bs m
  equals_rise (e_scalars {n = n} {x} le) = numbered_one n x _ le
  equals_rise (e_packed {n = n} {m} {x} {bs} r le) = numbered_append n m (suc x) bs _ (packs_all_rise r) (numbered_one m x _ le)
  equals_rise (e_tuples h) = all_equal_rise h
  equals_rise (e_records h) = fields_equal_rise h

  all_equal_rise : {at : Place} {ss ts : Knowns} {n m : ℕ} {bs : Bindings} {u : Atom} → All_equal at ss ts n bs u m → Numbered n bs m
  all_equal_rise (e_none {n = n}) = numbered_none n
  all_equal_rise (e_more {n = n} {n1} {n2} {x} {bs} {cs} {u} {w} h k le) = numbered_append n n1 (suc x) bs _ (equals_rise h) (numbered_append n1 n2 (suc x) cs _ (all_equal_rise k) (numbered_both n2 x u w le))

  fields_equal_rise : {at : Place} {fs gs : Known_fields} {n m : ℕ} {bs : Bindings} {u : Atom} → Fields_equal at fs gs n bs u m → Numbered n bs m
  fields_equal_rise (e_no_field {n = n}) = numbered_none n
  fields_equal_rise (e_field {n = n} {n1} {n2} {x} {bs} {cs} {u} {w} q h k le) = numbered_append n n1 (suc x) bs _ (equals_rise h) (numbered_append n1 n2 (suc x) cs _ (fields_equal_rise k) (numbered_both n2 x u w le))

tested_rises : (wanted : Option Size_test) (at : Place) (s : Known) (n : ℕ) → Numbered n (tested wanted at s) n
unfolding Act_numbered
tested_rises None at s n = numbered_none n
tested_rises (Some t) at s n = numbered_step n n n [] _ (omega arith) (omega arith)

operates_rise : {row : Row} {wanted : Option Size_test} {t : IntType} {o : Operation Ref BindId} {at : Place} {ss : List Known} {n m : ℕ} {bs : Bindings} {s : Known} → Operates row wanted t o at ss n bs s m → Numbered n bs m
unfolding Act_numbered
operates_rise (o_integer q) = numbered_none _
operates_rise o_truth = numbered_none _
operates_rise o_tuple = numbered_none _
operates_rise (o_record q) = numbered_none _
operates_rise (o_binary {n = n} {x} le) = numbered_one n x _ le
operates_rise (o_equal r) = equals_rise r
operates_rise (o_unequal {n = n} {n'} {x} {bs = bs} r le) = numbered_append n n' (suc x) bs _ (equals_rise r) (numbered_one n' x _ le)
operates_rise (o_negate {n = n} {x} le) = numbered_one n x _ le
operates_rise (o_complement {n = n} {x} le) = numbered_one n x _ le
operates_rise (o_project q) = numbered_none _
operates_rise o_replace = numbered_none _
operates_rise o_ascribe = numbered_none _
operates_rise {wanted = wanted} (o_coerce {n = n} {at = at} {s = s}) = tested_rises wanted at s n
operates_rise o_declared = numbered_none _
operates_rise (o_part {n = n} {x = x} le) = numbered_step n x (suc x) (x ∷ []) _ le (omega arith, omega arith)
operates_rise (o_changed {n = n} {m = m} {x = x} {bs = bs} r le) = numbered_append n m (suc x) bs _ (packs_rise r) (numbered_step m x (suc x) (x ∷ []) _ le (omega arith, omega arith))
operates_rise (o_made {n = n} {m} {x} {bs = bs} q r le) = numbered_append n m (suc x) bs _ (packs_all_rise r) (numbered_step m x (suc x) (x ∷ []) _ le (omega arith, omega arith))
operates_rise (o_assert {n = n}) = numbered_step n n n [] _ (omega arith) (omega arith)

primitive_rises : {p : Primitive} {at : Place} {ss : List Known} {n m : ℕ} {bs : Bindings} {s : Known} → Primitive_operates p at ss n bs s m → Numbered n bs m
primitive_rises (p_convert {n = n} {x} le) = numbered_one n x _ le
primitive_rises (p_min {n = n} {x} le) = numbered_one n x _ le
primitive_rises (p_max {n = n} {x} le) = numbered_one n x _ le
primitive_rises (p_abs {n = n} {x} le) = numbered_one n x _ le
primitive_rises (p_popc {n = n} {x} le) = numbered_one n x _ le

mutual
  unfolding Act_numbered

  binds_rise : {sizes : Option Sizing} {q : ℕ} {p : FlatPattern} {s : Known} {sc inner : Scope} {n m : ℕ} {bs : Bindings} → Binds sizes q p s sc n bs inner m → Numbered n bs m
  binds_rise b_bound = numbered_none _
  binds_rise b_wild = numbered_none _
  binds_rise (b_tuple r) = all_bind_rise r
  binds_rise (b_parts {n = n} {k = k} {m = m} {bs = bs} xs up r) = numbered_append n k m _ bs (numbered_step n n k xs _ (omega arith) up) (all_bind_rise r)
  binds_rise (b_record q r) = all_bind_rise r
  binds_rise (b_typed r) = binds_rise r
  binds_rise (b_fields {n = n} {k = k} {m = m} {bs = bs} xs up e r) = numbered_append n k m _ bs (numbered_step n n k xs _ (omega arith) up) (all_bind_rise r)

  all_bind_rise : {sizes : Option Sizing} {q : ℕ} {ps : Patterns Ref BindId} {ss : List Known} {sc inner : Scope} {n m : ℕ} {bs : Bindings} → All_bind sizes q ps ss sc n bs inner m → Numbered n bs m
  all_bind_rise b_none = numbered_none _
  all_bind_rise (b_more {n = n} {k = k} {m = m} {bs = bs} {cs = cs} r rs) = numbered_append n k m bs cs (binds_rise r) (all_bind_rise rs)

module _ {told : Told} where
  module _ {tops : Tops} where
    mutual
      unfolding Act_numbered

      unfolds_rise : {sc : Scope} {lo n m : ℕ} {t : FlatTerm} {bs : Bindings} {s : Known} → Unfolds told tops sc lo t n bs s m → Numbered n bs m
      unfolds_rise (u_name q r) = numbered_none _
      unfolds_rise (u_size {n = n} {x} q le) = numbered_step n x (suc x) (x ∷ []) _ le (omega arith, omega arith)
      unfolds_rise (u_primitive q) = numbered_none _
      unfolds_rise (u_constant q) = numbered_none _
      unfolds_rise (u_strict {n = n} {n1} {n2} {bs = bs} {cs} p o) = numbered_append n n1 n2 bs cs (all_rise p) (operates_rise o)
      unfolds_rise u_lambda = numbered_none _
      unfolds_rise (u_apply {n = n} {n1} {n2} {n3} {bs = bs} {cs} {ds} p q r) = numbered_append n n1 n3 bs (cs ++ ds) (unfolds_rise p) (numbered_append n1 n2 n3 cs ds (unfolds_rise q) (applies_rise r))
      unfolds_rise (u_let {n = n} {n1 = n1} {n2 = n2} {n3 = n3} {bs = bs} {cs = cs} {ds = ds} p b q) = numbered_append n n1 n3 bs _ (unfolds_rise p) (numbered_append n1 n2 n3 cs ds (binds_rise b) (unfolds_rise q))
      unfolds_rise (u_packed {n = n} {n1 = n1} {n2 = n2} {bs = bs} {cs = cs} p k) = numbered_append n n1 n2 bs cs (unfolds_rise p) (packs_rise k)
      unfolds_rise (u_if {n = n} {n1} {n2} {n3} {n4} {bs = bs} {cs} {ds} {us = us} {ws} xs p q l r k up t) =
          numbered_append n n1 n4 bs _ (unfolds_rise p) (numbered_step n1 n3 n4 xs _ (n2, numbered_body n1 n2 cs us (unfolds_rise q), numbered_body n2 n3 ds ws (unfolds_rise r)) up)
      unfolds_rise (u_counted {n = n} {n1 = n1} {n2 = n2} {n3 = n3} {n4 = n4} {n5 = n5} {n6 = n6} {y = y} {bs = bs} {cs = cs} {es = es} {ds = ds} {ws = ws} ps xs p l q up k le b r i up' t) =
          numbered_append n n1 n6 bs _ (unfolds_rise p) (numbered_append n1 n2 n6 cs _ (unfolds_rise q) (numbered_step n2 n5 n6 xs _ (n3, up, le, numbered_body (suc y) n5 (es ++ ds) ws (numbered_append (suc y) n4 n5 es ds (binds_rise b) (unfolds_rise r))) up'))
      unfolds_rise (u_over {n = n} {n1 = n1} {n2 = n2} {n3 = n3} {n4 = n4} {n5 = n5} {n6 = n6} {n7 = n7} {y = y} {bs = bs} {cs = cs} {es = es} {es' = es'} {ds = ds} {ws = ws} ps xs p l q up k le b c r i up' t) =
          numbered_append n n1 n7 bs _ (unfolds_rise p) (numbered_append n1 n2 n7 cs _ (unfolds_rise q) (numbered_step n2 n6 n7 xs _ (n3, up, le, numbered_body (suc y) n6 (es ++ (es' ++ ds)) ws (numbered_append (suc y) n4 n6 es _ (binds_rise b) (numbered_append n4 n5 n6 es' ds (binds_rise c) (unfolds_rise r)))) up'))
      unfolds_rise (u_while {n = n} {n1 = n1} {n2 = n2} {n3 = n3} {n4 = n4} {n5 = n5} {n6 = n6} {n7 = n7} {bs = bs} {es = es} {cs = cs} {es' = es'} {ds = ds} {u = u} {ws = ws} ps xs p l up k b q b' r i up' t) =
          numbered_append n n1 n7 bs _ (unfolds_rise p) (numbered_step n1 n6 n7 xs _ (n2, up, n4, numbered_body n2 n4 (es ++ cs) (u ∷ []) (numbered_append n2 n3 n4 es cs (binds_rise b) (unfolds_rise q)), numbered_body n4 n6 (es' ++ ds) ws (numbered_append n4 n5 n6 es' ds (binds_rise b') (unfolds_rise r))) up')

      all_rise : {sc : Scope} {lo n m : ℕ} {ts : Terms Ref BindId} {bs : Bindings} {ss : List Known} → Unfold_all told tops sc lo ts n bs ss m → Numbered n bs m
      all_rise u_none = numbered_none _
      all_rise (u_more {n = n} {n1} {n2} {bs = bs} {cs} p q) = numbered_append n n1 n2 bs cs (unfolds_rise p) (all_rise q)

      applies_rise : {f s s' : Known} {n m : ℕ} {bs : Bindings} → Applies told tops f s n bs s' m → Numbered n bs m
      applies_rise (a_body {n = n} {n1 = n1} {n2 = n2} {bs = bs} {cs = cs} b p) = numbered_append n n1 n2 bs cs (binds_rise b) (unfolds_rise p)
      applies_rise (a_waits b) = binds_rise b
      applies_rise (a_primitive_waits q) = numbered_none _
      applies_rise (a_primitive q i o) = primitive_rises o
      applies_rise (a_job {n = n} {n1} {n2} {n3} {n4} {x} {bs} {cs} {ds} {w = w} xs q i e r up len a pk le) =
          numbered_append n n1 (suc x) bs _ (packs_all_rise r) (numbered_step n1 x (suc x) (x ∷ []) _ (n2, up, numbered_lets n2 n4 x (cs ++ ds) (w ∷ []) (numbered_append n2 n3 n4 cs ds (applied_rises a) (packs_rise pk)) le) (omega arith, omega arith))

      applied_rises : {ss : List Known} {f s : Known} {n m : ℕ} {bs : Bindings} → Applies_all told tops ss f n bs s m → Numbered n bs m
      applied_rises a_none = numbered_none _
      applied_rises (a_more {n = n} {n1} {n2} {bs} {cs} p r) = numbered_append n n1 n2 bs cs (applies_rise p) (applied_rises r)

  definitions_rise : {entry : ℕ} {seen : Scope} {tops end : Tops} {ds : List FlatTop} {n m : ℕ} {bs : Bindings} → Definitions_unfold told entry seen tops ds n bs end m → Numbered n bs m
  definitions_rise d_none = numbered_none _
  definitions_rise (d_reached {n = n} {n1} {n2} {bs} {cs} q p r) = numbered_append n n1 n2 bs cs (unfolds_rise p) (definitions_rise r)
  definitions_rise (d_other q r) = definitions_rise r

pub names_rise : NamesRise
names_rise told ds entry hs h p u =
    record {
      first = u.first;
      parameters = u.rising;
      numbered = subst (λ z. Body_numbered u.first z p.names) (sym u.body) (numbered_lets u.first u.end p.names (u.defined ++ u.applied) u.results (numbered_append u.first u.behind u.end u.defined u.applied (definitions_rise u.definitions) (applied_rises u.application)) u.below);
    }
