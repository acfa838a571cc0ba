-- Operations on parts, by the forms that are one.
use Rattle.std.proofs.Common.{◌≡◌, ℕ, ◌<◌, ◌++◌, List, [], ◌∷◌, map, Bool, Option, None, Some, is_some, refl, sym, ◌∙◌, ap, subst, Result, Ok, Err}
use Rattle.std.specs.Borrow.{Bor}
use Rattle.fut_scalar.specs.declared.place.Place.{Place}
use Rattle.fut_scalar.specs.declared.scalar.IntType.{IntType}
use Rattle.fut_ast.specs.Sorts.{Text, SourceExp}
use Rattle.fut_ast.specs.declared.node.End.{End}
use Rattle.fut_ast.specs.declared.node.Label.{Label}
use Rattle.fut_ast.specs.declared.node.Oper.{Oper}
use Rattle.fut_tree.specs.declared.held.Held.{Held}
use Rattle.fut_tree.specs.declared.exp.Exp.TheInside.{Inside}
use Rattle.fut_tree.specs.declared.exp.Form.{Form}
use Rattle.fut_tree.specs.declared.exp.Form.TheVariants as held_form
use Rattle.fut_tree.specs.declared.exp.ExpField.{ExpField}
use Rattle.fut_tree.specs.declared.exp.Ix.{Ix}
use Rattle.fut_tree.specs.Names.{all}
use Rattle.fut_tree.specs.Exps.{exp_of}
use Rattle.fut_tree.specs.declared.exp.Exp.TheDeep.{size-Exp}
use Rattle.fut_flat.specs.declared.act.Act.{Act}
use Rattle.fut_flat.specs.declared.exp.Exp.{Exp as Flat}
use Rattle.fut_flat.specs.Terms.{Operation, Integer, Truth, Tuple_of, Record_of, Array_of, Index, Project, Update, Replace, Range, Strict, Terms}
use Rattle.fut_flat.specs.Erased.{operation_of, term_of, terms}
use Rattle.fut_flat.specs.Sources as source
use Rattle.fut_flat.specs.Sources.{Spelled, negated, placed}
use Rattle.elab_scopes.specs.declared.refusal.Stop.{Stop}
use Rattle.elab_scopes.specs.declared.refusal.Stop.TheVariants as stop
use Rattle.elab_scopes.specs.declared.table.Names.{Names}
use Rattle.elab_scopes.specs.Names.{Refusal}
use Rattle.elab_scopes.specs.Scopes.{Scope}
use Rattle.elab_scopes.specs.Resolve.{resolve}
use Rattle.elab_scopes.specs.Answers.{Walked, Went, no_memory}
use Rattle.elab_scopes.specs.Walks.{each}
use Rattle.elab_nodes.specs.Built.{Built0, built0, no_memory0, Built1, built1, stops1, no_memory1}
use Rattle.elab_nodes.specs.Held.{held_term}
use Rattle.elab_exps.specs.declared.operations.Operation.{Operation as HeldOperation}
use Rattle.elab_exps.specs.Lists.{all_exps, maybe_exp, part_of}
use Rattle.elab_exps.specs.Operations.{Acts, acts, On, on, Operates, operates, Parted, parted, biggest}
use Rattle.elab_exps.specs.Parts.{exp_part, source_of}
use Rattle.elab_exps.specs.Plain.{Plain, plain_range}
use Rattle.elab_exps.proofs.HeldExps.{exp_held, held_layer}
use Rattle.elab_exps.proofs.ListSizes.{none_smaller, tuple_smaller, array_smaller, record_smaller, index_smaller, update_smaller, unary_smaller, field_smaller, replace_smaller, range_smaller}
use Rattle.elab_exps.proofs.StrictLaws.{listed_went}

-- an operation and the list of its parts
pub on_made : {o : Operation Spelled Label} {es : List SourceExp} {a : Act} {b : Result (Bor (List (Held SourceExp))) Stop} {r : Result HeldOperation Stop}
    → Plain o (operation_of a) → Built0 (λ (hs : Bor (List (Held SourceExp))). all hs.now ≡ es) b → Built1 (λ (hs : Bor (List (Held SourceExp))) (f : HeldOperation). f ≡ record { act = a; parts = hs }) b r → Built0 (On o es) r
on_made {o = o} {es = es} plain (built0 is) (built1 same) = built0 (subst (On o es) (sym same) (on plain is))
on_made plain (built0 is) no_memory1 = no_memory0
on_made plain no_memory0 stops1 = no_memory0
on_made plain no_memory0 no_memory1 = no_memory0

pub only_memory : {A : Type 0} {P : A → Type 0} {e : Stop} → e ≡ stop.Memory → Built0 P (Err e)
only_memory {P = P} is = subst (λ e. Built0 P (Err e)) (sym is) no_memory0

one_operation : {o q : Operation Spelled Label} {m : Place} {ts us : Terms Spelled Label} → Strict o m ts ≡ Strict q m us → o ≡ q
one_operation is = cc

-- the term of an expression of a form
at_form : {o : Operation Spelled Label} {ts : Terms Spelled Label} (e : Inside) (v : SourceExp) (f : Form) → exp_of e ≡ v → e.form ≡ f → held_layer f e.place e.mark ≡ Strict o e.mark ts → source_of v ≡ Strict o v.mark ts
at_form {o = o} {ts = ts} e v f stands is layer = subst (λ (w : SourceExp). source_of w ≡ Strict o w.mark ts) stands (exp_held e ∙ ap (λ g. held_layer g e.place e.mark) is ∙ layer)

operated : {o : Operation Spelled Label} {es : List SourceExp} {r : Result HeldOperation Stop} (v : SourceExp) → source_of v ≡ Strict o v.mark (source.terms (map placed es)) → biggest es < size-Exp v → Built0 (On o es) r → Built0 (Operates v) r
operated v term small no_memory0 = no_memory0
operated {o = o} v term small (built0 (on plain same)) = built0 (operates (term ∙ ap (λ l. Strict o v.mark (source.terms (map placed l))) (sym same)) plain (subst (λ l. biggest l < size-Exp v) (sym same) small))

parts_are : {o : Operation Spelled Label} {es : List SourceExp} {b : Result (Bor (List (Held SourceExp))) Stop} (v : SourceExp) → source_of v ≡ Strict o v.mark (source.terms (map placed es)) → biggest es < size-Exp v
    → Built0 (λ (hs : Bor (List (Held SourceExp))). all hs.now ≡ es) b → Built0 (λ (hs : Bor (List (Held SourceExp))). Parted v (all hs.now)) b
parts_are v term small no_memory0 = no_memory0
parts_are v term small (built0 same) = built0 (subst (Parted v) (sym same) (parted term small))

-- an operation and its parts
pub both_are : {v : SourceExp} {a : Act} {b : Result (Bor (List (Held SourceExp))) Stop} {r : Result HeldOperation Stop}
    → Acts v a → Built0 (λ (hs : Bor (List (Held SourceExp))). Parted v (all hs.now)) b → Built1 (λ (hs : Bor (List (Held SourceExp))) (f : HeldOperation). f ≡ record { act = a; parts = hs }) b r → Built0 (Operates v) r
both_are {v = v} {a = a} (acts {o = o} term plain) (built0 (parted {o = q} same small)) (built1 is) = built0 (subst (Operates v) (sym is) (operates same (subst (λ p. Plain p (operation_of a)) (one_operation (sym term ∙ same)) plain) small))
both_are done (built0 p) no_memory1 = no_memory0
both_are done no_memory0 stops1 = no_memory0
both_are done no_memory0 no_memory1 = no_memory0

range_layer : (a b : Bor SourceExp) (n : Option (Bor SourceExp)) (end : End) (at mark : Place) → held_layer (held_form.Range a n end b) at mark ≡ Strict (Range (is_some n) end) mark (source.terms (map placed (a.now ∷ maybe_exp n ++ b.now ∷ [])))
unfolding source.terms source_of
range_layer a b None end at mark = refl
range_layer a b (Some m) end at mark = refl

pub plain_stepped : (n : Option (Bor SourceExp)) {stepped : Bool} {end : End} → stepped ≡ is_some n → Plain (Range (is_some n) end) (Range stepped end)
plain_stepped n {end = end} is = subst (λ b. Plain (Range (is_some n) end) (Range b end)) (sym is) plain_range

module _ (e : Inside) (v : SourceExp) (stands : exp_of e ≡ v) where
  int_term : (n : ℕ) (t : Option IntType) → e.form ≡ held_form.Int n t → source_of v ≡ Strict (Integer n t) v.mark (source.terms (map placed []))
  unfolding source.terms source_of
  int_term n t is = at_form e v (held_form.Int n t) stands is refl

  pub int_acts : {a' : Act} (n : ℕ) (t : Option IntType) → e.form ≡ held_form.Int n t → Plain (Integer n t) (operation_of a') → Acts v a'
  int_acts n t is plain = acts (int_term n t is) plain

  pub int_parted : {r : Result (Bor (List (Held SourceExp))) Stop} (n : ℕ) (t : Option IntType) → e.form ≡ held_form.Int n t → Built0 (λ (hs : Bor (List (Held SourceExp))). all hs.now ≡ []) r → Built0 (λ (hs : Bor (List (Held SourceExp))). Parted v (all hs.now)) r
  int_parted n t is m = parts_are v (int_term n t is) (none_smaller e v stands) m

  bool_term : (b : Bool) → e.form ≡ held_form.Bool b → source_of v ≡ Strict (Truth b) v.mark (source.terms (map placed []))
  unfolding source.terms source_of
  bool_term b is = at_form e v (held_form.Bool b) stands is refl

  pub bool_acts : {a' : Act} (b : Bool) → e.form ≡ held_form.Bool b → Plain (Truth b) (operation_of a') → Acts v a'
  bool_acts b is plain = acts (bool_term b is) plain

  pub bool_parted : {r : Result (Bor (List (Held SourceExp))) Stop} (b : Bool) → e.form ≡ held_form.Bool b → Built0 (λ (hs : Bor (List (Held SourceExp))). all hs.now ≡ []) r → Built0 (λ (hs : Bor (List (Held SourceExp))). Parted v (all hs.now)) r
  bool_parted b is m = parts_are v (bool_term b is) (none_smaller e v stands) m

  unit_term : e.form ≡ held_form.Unit → source_of v ≡ Strict Tuple_of v.mark (source.terms (map placed []))
  unfolding source.terms source_of
  unit_term is = at_form e v held_form.Unit stands is refl

  pub unit_acts : {a' : Act} → e.form ≡ held_form.Unit → Plain Tuple_of (operation_of a') → Acts v a'
  unit_acts is plain = acts (unit_term is) plain

  pub unit_parted : {r : Result (Bor (List (Held SourceExp))) Stop} → e.form ≡ held_form.Unit → Built0 (λ (hs : Bor (List (Held SourceExp))). all hs.now ≡ []) r → Built0 (λ (hs : Bor (List (Held SourceExp))). Parted v (all hs.now)) r
  unit_parted is m = parts_are v (unit_term is) (none_smaller e v stands) m

  tuple_term : (es : Bor (List (Held SourceExp))) → e.form ≡ held_form.Tuple es → source_of v ≡ Strict Tuple_of v.mark (source.terms (map placed (all es.now)))
  tuple_term es is = at_form e v (held_form.Tuple es) stands is refl

  pub tuple_acts : {a' : Act} (es : Bor (List (Held SourceExp))) → e.form ≡ held_form.Tuple es → Plain Tuple_of (operation_of a') → Acts v a'
  tuple_acts es is plain = acts (tuple_term es is) plain

  pub tuple_parted : {r : Result (Bor (List (Held SourceExp))) Stop} (es : Bor (List (Held SourceExp))) → e.form ≡ held_form.Tuple es → Built0 (λ (hs : Bor (List (Held SourceExp))). all hs.now ≡ (all es.now)) r → Built0 (λ (hs : Bor (List (Held SourceExp))). Parted v (all hs.now)) r
  tuple_parted es is m = parts_are v (tuple_term es is) (tuple_smaller e v stands es is) m

  array_term : (es : Bor (List (Held SourceExp))) → e.form ≡ held_form.Array es → source_of v ≡ Strict Array_of v.mark (source.terms (map placed (all es.now)))
  array_term es is = at_form e v (held_form.Array es) stands is refl

  pub array_acts : {a' : Act} (es : Bor (List (Held SourceExp))) → e.form ≡ held_form.Array es → Plain Array_of (operation_of a') → Acts v a'
  array_acts es is plain = acts (array_term es is) plain

  pub array_parted : {r : Result (Bor (List (Held SourceExp))) Stop} (es : Bor (List (Held SourceExp))) → e.form ≡ held_form.Array es → Built0 (λ (hs : Bor (List (Held SourceExp))). all hs.now ≡ (all es.now)) r → Built0 (λ (hs : Bor (List (Held SourceExp))). Parted v (all hs.now)) r
  array_parted es is m = parts_are v (array_term es is) (array_smaller e v stands es is) m

  unary_term : (op : Oper) (a : Bor SourceExp) → e.form ≡ held_form.Unary op a → source_of v ≡ Strict (negated op) v.mark (source.terms (map placed (a.now ∷ [])))
  unfolding source.terms source_of
  unary_term op a is = at_form e v (held_form.Unary op a) stands is refl

  pub unary_acts : {a' : Act} (op : Oper) (a : Bor SourceExp) → e.form ≡ held_form.Unary op a → Plain (negated op) (operation_of a') → Acts v a'
  unary_acts op a is plain = acts (unary_term op a is) plain

  pub unary_parted : {r : Result (Bor (List (Held SourceExp))) Stop} (op : Oper) (a : Bor SourceExp) → e.form ≡ held_form.Unary op a → Built0 (λ (hs : Bor (List (Held SourceExp))). all hs.now ≡ (a.now ∷ [])) r → Built0 (λ (hs : Bor (List (Held SourceExp))). Parted v (all hs.now)) r
  unary_parted op a is m = parts_are v (unary_term op a is) (unary_smaller e v stands op a is) m

  field_term : (a : Bor SourceExp) (x : Bor Text) → e.form ≡ held_form.Field a x → source_of v ≡ Strict (Project x.now) v.mark (source.terms (map placed (a.now ∷ [])))
  unfolding source.terms source_of
  field_term a x is = at_form e v (held_form.Field a x) stands is refl

  pub field_acts : {a' : Act} (a : Bor SourceExp) (x : Bor Text) → e.form ≡ held_form.Field a x → Plain (Project x.now) (operation_of a') → Acts v a'
  field_acts a x is plain = acts (field_term a x is) plain

  pub field_parted : {r : Result (Bor (List (Held SourceExp))) Stop} (a : Bor SourceExp) (x : Bor Text) → e.form ≡ held_form.Field a x → Built0 (λ (hs : Bor (List (Held SourceExp))). all hs.now ≡ (a.now ∷ [])) r → Built0 (λ (hs : Bor (List (Held SourceExp))). Parted v (all hs.now)) r
  field_parted a x is m = parts_are v (field_term a x is) (field_smaller e v stands a x is) m

  update_term : (a : Bor SourceExp) (es : Bor (List (Held SourceExp))) (w : Bor SourceExp) → e.form ≡ held_form.Update a es w → source_of v ≡ Strict Update v.mark (source.terms (map placed (a.now ∷ all es.now ++ w.now ∷ [])))
  update_term a es w is = at_form e v (held_form.Update a es w) stands is refl

  pub update_acts : {a' : Act} (a : Bor SourceExp) (es : Bor (List (Held SourceExp))) (w : Bor SourceExp) → e.form ≡ held_form.Update a es w → Plain Update (operation_of a') → Acts v a'
  update_acts a es w is plain = acts (update_term a es w is) plain

  pub update_parted : {r : Result (Bor (List (Held SourceExp))) Stop} (a : Bor SourceExp) (es : Bor (List (Held SourceExp))) (w : Bor SourceExp) → e.form ≡ held_form.Update a es w → Built0 (λ (hs : Bor (List (Held SourceExp))). all hs.now ≡ (a.now ∷ all es.now ++ w.now ∷ [])) r → Built0 (λ (hs : Bor (List (Held SourceExp))). Parted v (all hs.now)) r
  update_parted a es w is m = parts_are v (update_term a es w is) (update_smaller e v stands a es w is) m

  replace_term : (a : Bor SourceExp) (x : Bor Text) (b : Bor SourceExp) → e.form ≡ held_form.Replace a x b → source_of v ≡ Strict (Replace x.now) v.mark (source.terms (map placed (a.now ∷ b.now ∷ [])))
  unfolding source.terms source_of
  replace_term a x b is = at_form e v (held_form.Replace a x b) stands is refl

  pub replace_acts : {a' : Act} (a : Bor SourceExp) (x : Bor Text) (b : Bor SourceExp) → e.form ≡ held_form.Replace a x b → Plain (Replace x.now) (operation_of a') → Acts v a'
  replace_acts a x b is plain = acts (replace_term a x b is) plain

  pub replace_parted : {r : Result (Bor (List (Held SourceExp))) Stop} (a : Bor SourceExp) (x : Bor Text) (b : Bor SourceExp) → e.form ≡ held_form.Replace a x b → Built0 (λ (hs : Bor (List (Held SourceExp))). all hs.now ≡ (a.now ∷ b.now ∷ [])) r → Built0 (λ (hs : Bor (List (Held SourceExp))). Parted v (all hs.now)) r
  replace_parted a x b is m = parts_are v (replace_term a x b is) (replace_smaller e v stands a x b is) m

  range_term : (a : Bor SourceExp) (n : Option (Bor SourceExp)) (end : End) (b : Bor SourceExp) → e.form ≡ held_form.Range a n end b → source_of v ≡ Strict (Range (is_some n) end) v.mark (source.terms (map placed (a.now ∷ maybe_exp n ++ b.now ∷ [])))
  range_term a n end b is = at_form e v (held_form.Range a n end b) stands is (range_layer a b n end e.place e.mark)

  pub range_acts : {a' : Act} (a : Bor SourceExp) (n : Option (Bor SourceExp)) (end : End) (b : Bor SourceExp) → e.form ≡ held_form.Range a n end b → Plain (Range (is_some n) end) (operation_of a') → Acts v a'
  range_acts a n end b is plain = acts (range_term a n end b is) plain

  pub range_parted : {r : Result (Bor (List (Held SourceExp))) Stop} (a : Bor SourceExp) (n : Option (Bor SourceExp)) (end : End) (b : Bor SourceExp) → e.form ≡ held_form.Range a n end b → Built0 (λ (hs : Bor (List (Held SourceExp))). all hs.now ≡ (a.now ∷ maybe_exp n ++ b.now ∷ [])) r → Built0 (λ (hs : Bor (List (Held SourceExp))). Parted v (all hs.now)) r
  range_parted a n end b is m = parts_are v (range_term a n end b is) (range_smaller e v stands a b n end is) m

  pub at_record : {r : Result HeldOperation Stop} (fs : Bor (List ExpField)) → e.form ≡ held_form.Record fs → Built0 (On (Record_of (map (λ (f : ExpField). f.name.now) fs.now)) (map (λ (f : ExpField). f.exp.now) fs.now)) r → Built0 (Operates v) r
  at_record fs is m = operated v (at_form e v (held_form.Record fs) stands is refl) (record_smaller e v stands fs is) m

  pub at_index : {r : Result HeldOperation Stop} (a : Bor SourceExp) (ixs : Bor (List Ix)) → e.form ≡ held_form.Index a ixs → Built0 (On (Index (map part_of ixs.now)) (a.now ∷ all_exps ixs.now)) r → Built0 (Operates v) r
  at_index a ixs is m = operated v (at_form e v (held_form.Index a ixs) stands is refl) (index_smaller e v stands a ixs is) m

-- ---- the walk over an operation's parts

pub operation_smaller : {v : SourceExp} {f : HeldOperation} → Built0 (Operates v) (Ok f) → biggest (all f.parts.now) < size-Exp v
operation_smaller (built0 (operates is plain small)) = small

pub operation_went : {s t : Names} {b : Result (Bor (List Flat)) Stop} {c : Result (Bor Flat) Stop} (e : Inside) (v : SourceExp) (f : HeldOperation) → exp_of e ≡ v → Built0 (Operates v) (Ok f)
    → Built1 (λ (es : Bor (List Flat)) x. held_term x ≡ Strict (operation_of f.act) e.mark (terms (map term_of es.now))) b c → Went (λ (es : Bor (List Flat)). map term_of es.now) (each exp_part f.parts.now) s t b
    → Went held_term (resolve (source_of v)) s t c
operation_went {s = s} {t = t} {b = b} {c = c} e v f stands (built0 (operates {o = o} is plain small)) q w =
    subst (λ x. Went held_term (resolve x) s t c) (sym (is ∙ ap (λ k. Strict o k (source.terms (map placed (all f.parts.now)))) marks)) (listed_went o (operation_of f.act) e.mark (all f.parts.now) f.parts.now s t b c q w refl plain)
  where
    marks : v.mark ≡ e.mark
    marks = ap (λ (w : SourceExp). w.mark) (sym stands)

pub operation_stops : {S A R B : Type 0} {P : B → Type 0} {state : Names → S} {view : R → A} {does : Scope → S → Result (A × S) Refusal} {s t : Names} {e : Stop} → Built0 P (Err e) → Walked state view does s t (Err e)
operation_stops no_memory0 = no_memory
