-- Operations on parts.
use Rattle.std.proofs.Common.{◌≡◌, List, [], ◌∷◌, map, Some, refl, sym, ◌∙◌, ap, subst, Result, Ok}
use Rattle.std.specs.Borrow.{Bor}
use Rattle.fut_scalar.specs.declared.place.BindId.{BindId}
use Rattle.fut_scalar.specs.declared.place.Place.{Place}
use Rattle.fut_scalar.specs.declared.operator.BinOp.{BinOp}
use Rattle.fut_ast.specs.Sorts.{Text, SourceExp}
use Rattle.fut_ast.specs.declared.node.Label.{Label}
use Rattle.fut_ast.specs.declared.node.Oper.{Oper}
use Rattle.fut_ast.specs.declared.node.Oper.TheVariants as oper
use Rattle.fut_tree.specs.declared.held.Held.{Held}
use Rattle.std.proofs.lemmas.Simd.{map-map}
use Rattle.fut_tree.specs.declared.exp.ExpField.{ExpField}
use Rattle.fut_tree.specs.Names.{all}
use Rattle.fut_flat.specs.declared.exp.Exp.{Exp as Flat}
use Rattle.fut_flat.specs.declared.prim.Ref.{Ref}
use Rattle.fut_flat.specs.declared.ty.TypeExp.{TypeExp as FlatTy}
use Rattle.fut_flat.specs.Terms.{Operation, Binary, Index, Record_of, Ascribe, Coerce, Declared, Strict, Terms, no_term, term_and}
use Rattle.fut_flat.specs.Erased.{FlatTerm, term_of, terms, texts, type_of}
use Rattle.fut_flat.specs.Sources as source
use Rattle.fut_flat.specs.Sources.{Spelled, SourceTerm, WrittenType, joined, one, two, placed}
use Rattle.elab_scopes.specs.declared.refusal.Stop.{Stop}
use Rattle.elab_scopes.specs.declared.table.Names.{Names}
use Rattle.elab_scopes.specs.Scopes.{Scope}
use Rattle.elab_scopes.specs.Resolve.{after, resolve, resolve_all, resolve_type}
use Rattle.elab_scopes.specs.Answers.{Went}
use Rattle.elab_scopes.specs.Walks.{each}
use Rattle.elab_scopes.proofs.Walking.{after_assoc}
use Rattle.elab_nodes.specs.Built.{Built1, Built2, built2, first_of_two, second_of_two, no_memory2}
use Rattle.elab_nodes.specs.Held.{held_term}
use Rattle.elab_nodes.proofs.Steps.{Does, by_same, of_one, of_two}
use Rattle.elab_types.proofs.TypeLists.{one_more}
use Rattle.elab_exps.specs.Plain.{Plain, plain_integer, plain_truth, plain_tuple, plain_record, plain_array, plain_binary, plain_negate, plain_complement, plain_index, plain_project, plain_update, plain_replace, plain_range}
use Rattle.elab_exps.specs.Lists.{operation_in}
use Rattle.elab_exps.specs.Parts.{exp_part, source_of}

abbrev SourceTerms : Type 0
SourceTerms = Terms Spelled Label

abbrev Many : Type 0
Many = Does (List Text) (List FlatTerm)

plain_is : {o : Operation Spelled Label} {p : Operation Ref BindId} → Plain o p → (mark : Place) (ts : SourceTerms) (sc : Scope) (m : List Text) → resolve (Strict o mark ts) sc m ≡ after (resolve_all ts sc m) (λ ts m. Ok (Strict p mark ts, m))
unfolding resolve after
plain_is plain_integer mark ts sc m = refl
plain_is plain_truth mark ts sc m = refl
plain_is plain_tuple mark ts sc m = refl
plain_is (plain_record same) mark ts sc m = λ i. after (resolve_all ts sc m) (λ ts m. Ok (Strict (Record_of (sym same i)) mark ts, m))
plain_is plain_array mark ts sc m = refl
plain_is plain_binary mark ts sc m = refl
plain_is plain_negate mark ts sc m = refl
plain_is plain_complement mark ts sc m = refl
plain_is (plain_index same) mark ts sc m = λ i. after (resolve_all ts sc m) (λ ts m. Ok (Strict (Index (sym same i)) mark ts, m))
plain_is plain_project mark ts sc m = refl
plain_is plain_update mark ts sc m = refl
plain_is plain_replace mark ts sc m = refl
plain_is plain_range mark ts sc m = refl

-- what a walk over the parts gives, and the operation on it
strict_went : {D : Many} (o : Operation Spelled Label) (p : Operation Ref BindId) (mark : Place) (ts : SourceTerms) (s t : Names) (b : Result (Bor (List Flat)) Stop) (c : Result (Bor Flat) Stop)
    → Plain o p → ((sc : Scope) (m : List Text) → resolve_all ts sc m ≡ after (D sc m) (λ ys m. Ok (terms ys, m)))
    → Went (λ (es : Bor (List Flat)). map term_of es.now) D s t b → Built1 (λ (es : Bor (List Flat)) x. held_term x ≡ Strict p mark (terms (map term_of es.now))) b c
    → Went held_term (resolve (Strict o mark ts)) s t c
unfolding after
strict_went {D = D} o p mark ts s t b c plain all w q = by_same same (of_one (λ ys. Strict p mark (terms ys)) w q)
  where
    same : (sc : Scope) (m : List Text) → resolve (Strict o mark ts) sc m ≡ after (D sc m) (λ ys m. Ok (Strict p mark (terms ys), m))
    same sc m =
        plain_is plain mark ts sc m
        ∙ ap (λ r. after r (λ ts m. Ok (Strict p mark ts, m))) (all sc m)
        ∙ after_assoc (D sc m) (λ ys m. Ok (terms ys, m)) (λ ts m. Ok (Strict p mark ts, m))

-- ---- so many parts

built2_as : {A B C : Type 0} {P Q : A → B → C → Type 0} {a : Result A Stop} {b : Result B Stop} {c : Result C Stop} → ((a : A) (b : B) (c : C) → P a b c → Q a b c) → Built2 P a b c → Built2 Q a b c
built2_as so (built2 is) = built2 (so _ _ _ is)
built2_as so first_of_two = first_of_two
built2_as so second_of_two = second_of_two
built2_as so no_memory2 = no_memory2

abbrev one_part : SourceTerm → Many
one_part x sc m = after (resolve x sc m) (λ a m. Ok (a ∷ [], m))

abbrev two_parts : SourceTerm → SourceTerm → Many
two_parts x y sc m = after (resolve x sc m) (λ a m. after (resolve y sc m) (λ b m. Ok (a ∷ b ∷ [], m)))

one_same : (x : SourceTerm) (sc : Scope) (m : List Text) → resolve_all (one x) sc m ≡ after (one_part x sc m) (λ ys m. Ok (terms ys, m))
unfolding resolve_all after terms
one_same x sc m = sym (after_assoc (resolve x sc m) (λ a m. Ok (a ∷ [], m)) (λ ys m. Ok (terms ys, m)))

two_same : (x y : SourceTerm) (sc : Scope) (m : List Text) → resolve_all (two x y) sc m ≡ after (two_parts x y sc m) (λ ys m. Ok (terms ys, m))
unfolding resolve_all after terms
two_same x y sc m =
    one_more terms term_and (λ y ys. refl) (resolve x sc m) (resolve_all (one y) sc) (one_part y sc) (one_same y sc)
    ∙ ap (λ r. after r (λ ys m. Ok (terms ys, m))) (λ i. after (resolve x sc m) (λ a m. after_assoc (resolve y sc m) (λ b m. Ok (b ∷ [], m)) (λ ys m. Ok (a ∷ ys, m)) i))

pub two_went : (o : Operation Spelled Label) (p : Operation Ref BindId) (mark : Place) (x y : SourceTerm) (s t u : Names) (r1 r2 : Result (Bor Flat) Stop) (b : Result (Bor (List Flat)) Stop) (c : Result (Bor Flat) Stop)
    → Built1 (λ (es : Bor (List Flat)) x. held_term x ≡ Strict p mark (terms (map term_of es.now))) b c → Built2 (λ e f (es : Bor (List Flat)). es.now ≡ e.now ∷ f.now ∷ []) r1 r2 b
    → Went held_term (resolve x) s t r1 → Went held_term (resolve y) t u r2 → Plain o p → Went held_term (resolve (Strict o mark (term_and x (term_and y no_term)))) s u c
two_went o p mark x y s t u r1 r2 b c q l w1 w2 plain = strict_went o p mark (two x y) s u b c plain (two_same x y) (of_two (λ a b. a ∷ b ∷ []) w1 w2 (built2_as (λ a b c is. ap (map term_of) is) l)) q

pub binary_went : (op : Oper) (b : BinOp) (mark : Place) (x y : SourceTerm) (s t u : Names) (r1 r2 : Result (Bor Flat) Stop) (l : Result (Bor (List Flat)) Stop) (c : Result (Bor Flat) Stop)
    → Some b ≡ operation_in op → Built1 (λ (es : Bor (List Flat)) x. held_term x ≡ Strict (Binary b) mark (terms (map term_of es.now))) l c → Built2 (λ e f (es : Bor (List Flat)). es.now ≡ e.now ∷ f.now ∷ []) r1 r2 l
    → Went held_term (resolve x) s t r1 → Went held_term (resolve y) t u r2 → Went held_term (resolve (joined op mark x y)) s u c
binary_went op b mark x y s t u r1 r2 l c is q p w1 w2 = subst (λ z. Went held_term (resolve z) s u c) (sym (as_binary op is)) (two_went (Binary b) (Binary b) mark x y s t u r1 r2 l c q p w1 w2 plain_binary)
  where
    as_binary : (op : Oper) → Some b ≡ operation_in op → joined op mark x y ≡ Strict (Binary b) mark (two x y)
    as_binary (oper.Bin d) is = cc
    as_binary oper.Neg is = cc
    as_binary oper.Not is = cc
    as_binary oper.Then is = cc
    as_binary oper.After is = cc

-- ---- lists

exps_each : (hs : List (Held SourceExp)) (sc : Scope) (m : List Text) → resolve_all (source.terms (map placed (all hs))) sc m ≡ after (each exp_part hs sc m) (λ ys m. Ok (terms ys, m))
unfolding resolve_all each terms source.terms after exp_part source_of
exps_each [] sc m = refl
exps_each (h ∷ hs) sc m = one_more terms term_and (λ y ys. refl) (exp_part h sc m) (resolve_all (source.terms (map placed (all hs))) sc) (each exp_part hs sc) (exps_each hs sc)

pub listed_went : (o : Operation Spelled Label) (p : Operation Ref BindId) (mark : Place) (xs : List SourceExp) (hs : List (Held SourceExp)) (s t : Names) (b : Result (Bor (List Flat)) Stop) (c : Result (Bor Flat) Stop)
    → Built1 (λ (es : Bor (List Flat)) x. held_term x ≡ Strict p mark (terms (map term_of es.now))) b c → Went (λ (es : Bor (List Flat)). map term_of es.now) (each exp_part hs) s t b
    → all hs ≡ xs → Plain o p → Went held_term (resolve (Strict o mark (source.terms (map placed xs)))) s t c
listed_went o p mark xs hs s t b c q w is plain = subst (λ l. Went held_term (resolve (Strict o mark (source.terms (map placed l)))) s t c) is (strict_went o p mark (source.terms (map placed (all hs))) s t b c plain (exps_each hs) w q)

-- the names of a record's fields
pub record_names : (fs : List ExpField) (ns : List (Bor Text)) → ns ≡ map (λ (f : ExpField). f.name) fs → texts ns ≡ map (λ (f : ExpField). f.name.now) fs
record_names fs ns is = ap texts is ∙ map-map (λ (x : Bor Text). x.now) (λ (f : ExpField). f.name) fs

-- ---- written types

ascribed_same : (y : WrittenType) (x : SourceTerm) (mark : Place) (sc : Scope) (m : List Text) → resolve (Strict (Ascribe y) mark (one x)) sc m ≡ after (resolve x sc m) (λ a m. after (resolve_type y sc m) (λ t m. Ok (Strict (Ascribe t) mark (term_and a no_term), m)))
unfolding resolve resolve_all after
ascribed_same y x mark sc m =
    after_assoc (resolve x sc m) (λ a m. Ok (term_and a no_term, m)) (λ ts m. after (after (resolve_type y sc m) (λ t m. Ok (Ascribe t, m))) (λ o m. Ok (Strict o mark ts, m)))
    ∙ (λ i. after (resolve x sc m) (λ a m. after_assoc (resolve_type y sc m) (λ t m. Ok (Ascribe t, m)) (λ o m. Ok (Strict o mark (term_and a no_term), m)) i))

coerced_same : (y : WrittenType) (x : SourceTerm) (mark : Place) (sc : Scope) (m : List Text) → resolve (Strict (Coerce y) mark (one x)) sc m ≡ after (resolve x sc m) (λ a m. after (resolve_type y sc m) (λ t m. Ok (Strict (Coerce t) mark (term_and a no_term), m)))
unfolding resolve resolve_all after
coerced_same y x mark sc m =
    after_assoc (resolve x sc m) (λ a m. Ok (term_and a no_term, m)) (λ ts m. after (after (resolve_type y sc m) (λ t m. Ok (Coerce t, m))) (λ o m. Ok (Strict o mark ts, m)))
    ∙ (λ i. after (resolve x sc m) (λ a m. after_assoc (resolve_type y sc m) (λ t m. Ok (Coerce t, m)) (λ o m. Ok (Strict o mark (term_and a no_term), m)) i))

declared_same : (y : WrittenType) (x : SourceTerm) (mark : Place) (sc : Scope) (m : List Text) → resolve (Strict (Declared y) mark (one x)) sc m ≡ after (resolve_type y sc m) (λ t m. after (resolve x sc m) (λ a m. Ok (Strict (Declared t) mark (term_and a no_term), m)))
unfolding resolve resolve_all after
declared_same y x mark sc m =
    after_assoc (resolve_type y sc m) (λ t m. Ok (Declared t, m)) (λ o m. after (after (resolve x sc m) (λ a m. Ok (term_and a no_term, m))) (λ ts m. Ok (Strict o mark ts, m)))
    ∙ (λ i. after (resolve_type y sc m) (λ t m. after_assoc (resolve x sc m) (λ a m. Ok (term_and a no_term, m)) (λ ts m. Ok (Strict (Declared t) mark ts, m)) i))

pub ascribed_went : (y : WrittenType) (x : SourceTerm) (mark : Place) (s t u : Names) (a : Result (Bor Flat) Stop) (b : Result (Bor FlatTy) Stop) (c : Result (Bor Flat) Stop)
    → Built2 (λ e (t : Bor FlatTy) z. held_term z ≡ Strict (Ascribe (type_of t.now)) mark (term_and (held_term e) no_term)) a b c
    → Went held_term (resolve x) s t a → Went (λ (t : Bor FlatTy). type_of t.now) (resolve_type y) t u b → Went held_term (resolve (Strict (Ascribe y) mark (term_and x no_term))) s u c
ascribed_went y x mark s t u a b c q w1 w2 = by_same (ascribed_same y x mark) (of_two (λ a t. Strict (Ascribe t) mark (term_and a no_term)) w1 w2 q)

pub coerced_went : (y : WrittenType) (x : SourceTerm) (mark : Place) (s t u : Names) (a : Result (Bor Flat) Stop) (b : Result (Bor FlatTy) Stop) (c : Result (Bor Flat) Stop)
    → Built2 (λ e (t : Bor FlatTy) z. held_term z ≡ Strict (Coerce (type_of t.now)) mark (term_and (held_term e) no_term)) a b c
    → Went held_term (resolve x) s t a → Went (λ (t : Bor FlatTy). type_of t.now) (resolve_type y) t u b → Went held_term (resolve (Strict (Coerce y) mark (term_and x no_term))) s u c
coerced_went y x mark s t u a b c q w1 w2 = by_same (coerced_same y x mark) (of_two (λ a t. Strict (Coerce t) mark (term_and a no_term)) w1 w2 q)

pub declared_went : (y : WrittenType) (x : SourceTerm) (mark : Place) (s t u : Names) (a : Result (Bor Flat) Stop) (b : Result (Bor FlatTy) Stop) (c : Result (Bor Flat) Stop)
    → Built2 (λ (t : Bor FlatTy) e z. held_term z ≡ Strict (Declared (type_of t.now)) mark (term_and (held_term e) no_term)) b a c
    → Went (λ (t : Bor FlatTy). type_of t.now) (resolve_type y) s t b → Went held_term (resolve x) t u a → Went held_term (resolve (Strict (Declared y) mark (term_and x no_term))) s u c
declared_went y x mark s t u a b c q w1 w2 = by_same (declared_same y x mark) (of_two (λ t a. Strict (Declared t) mark (term_and a no_term)) w1 w2 q)

pub ruleset plain_rules = (plain_integer, plain_truth, plain_tuple, plain_record, plain_array, plain_binary, plain_negate, plain_complement, plain_index, plain_project, plain_update, plain_replace, plain_range)
