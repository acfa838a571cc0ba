-- Nodes that are made of other builders' nodes.
use Rattle.std.proofs.Common.{◌≡◌, ℕ, ◌+◌, ◌<◌, ◌≤◌, List, [], ◌∷◌, map, length, drop, get_or, Bool, true, false, refl, sym, ◌∙◌, ap, Result, Ok, Err}
use Rattle.std.proofs.Math.ListN.{drop_of_length-le}
use Rattle.std.proofs.lemmas.List.{drop_more}
use Rattle.std.specs.Borrow.{Bor}
use Rattle.fut_scalar.specs.declared.place.BindId.{BindId}
use Rattle.fut_scalar.specs.declared.place.Place.{Place}
use Rattle.fut_ast.specs.Sorts.{Text}
use Rattle.fut_flat.specs.declared.act.Act.{Act}
use Rattle.fut_flat.specs.declared.exp.Exp.{Exp}
use Rattle.fut_flat.specs.declared.exp.Form.TheVariants as form
use Rattle.fut_flat.specs.declared.exp.Let.{Let as LetTree}
use Rattle.fut_flat.specs.declared.pat.Pat.{Pat}
use Rattle.fut_flat.specs.declared.pat.PatForm.TheVariants as pat_form
use Rattle.fut_flat.specs.declared.prim.Ref.{Ref}
use Rattle.fut_flat.specs.Terms.{nameless, Assert, Project, Use, Strict, Lambda, Apply, Let, Bound_pattern, pattern_and, no_pattern, term_and, no_term}
use Rattle.fut_flat.specs.Erased.{FlatTerm, lets, operation_of, parameters, patterns, pattern_of, term_of, terms, texts}
use Rattle.fut_flat.proofs.ErasedForms.{row_of, row_is, term_use}
use Rattle.fut_flat.proofs.ErasedPatterns.{pattern_bound, pattern_wild}
use Rattle.elab_scopes.specs.declared.refusal.Stop.{Stop}
use Rattle.elab_scopes.specs.Resolve.{projected}
use Rattle.elab_scopes.proofs.Walking.{from_here}
use Rattle.elab_nodes.specs.Built.{Built0, built0, no_memory0, Built1, built1, stops1, no_memory1, Built2, built2, first_of_two, second_of_two, no_memory2}
use Rattle.elab_nodes.specs.Composed.{composition, name_alone, ordered, twice_applied, use_at}
use Rattle.elab_nodes.specs.declared.rows.Functions.{Functions}
use Rattle.elab_nodes.specs.Paths.{Projects, projects, projects_not}

strict_one : (a : Act) (mark : Place) (e x : Bor Exp) (es : Bor (List Exp)) → es.now ≡ e.now ∷ [] → term_of x.now ≡ Strict (operation_of a) mark (terms (map term_of es.now)) → term_of x.now ≡ Strict (operation_of a) mark (term_and (term_of e.now) no_term)
unfolding terms
strict_one a mark e x es is at = at ∙ ap (λ l. Strict (operation_of a) mark (terms (map term_of l))) is

-- ---- operations on one part

pub part_made : (a : Act) (mark : Place) (r : Result (Bor Exp) Stop) (b : Result (Bor (List Exp)) Stop) (c : Result (Bor Exp) Stop)
    → Built1 (λ e es. es.now ≡ e.now ∷ []) r b → Built1 (λ es x. term_of x.now ≡ Strict (operation_of a) mark (terms (map term_of es.now))) b c
    → Built1 (λ e x. term_of x.now ≡ Strict (operation_of a) mark (term_and (term_of e.now) no_term)) r c
part_made a mark _ _ _ (built1 {a = e} {c = es} is) (built1 {c = x} eq) = built1 (strict_one a mark e x es is eq)
part_made a mark _ _ _ (built1 is) no_memory1 = no_memory1
part_made a mark _ _ _ stops1 stops1 = stops1
part_made a mark _ _ _ stops1 no_memory1 = no_memory1
part_made a mark _ _ _ no_memory1 stops1 = no_memory1
part_made a mark _ _ _ no_memory1 no_memory1 = no_memory1

-- ---- paths

pub path_start : (at : Place) (fs : List (Bor Text)) (r : Ref) (k : ℕ) (c : Result (Bor Exp) Stop) → Built0 (λ x. x.now ≡ record { place = at; form = form.Use r k }) c → Projects at (projected at (Use r at k) (texts fs)) fs c
path_start at fs r k _ (built0 is) = projects (ap (λ t. projected at t (texts fs)) (ap term_of is ∙ term_use _ r k refl))
path_start at fs r k _ no_memory0 = projects_not

pub path_next : (at : Place) (all : FlatTerm) (fs : List (Bor Text)) (i : ℕ) (f : Bor Text) (r c : Result (Bor Exp) Stop) → i < length fs → f ≡ get_or fs i f → Projects at all (drop i fs) r
    → Built1 (λ e x. term_of x.now ≡ Strict (Project f.now) at (term_and (term_of e.now) no_term)) r c → Projects at all (drop (i + 1) fs) c
unfolding projected
path_next at all fs i f _ _ k is (projects {x = x} so) (built1 eq) = projects (ap (λ t. projected at t (texts (drop (i + 1) fs))) eq ∙ sym (ap (λ l. projected at (term_of x.now) (texts l)) (from_here fs i f k is)) ∙ so)
path_next at all fs i f _ _ k is (projects so) no_memory1 = projects_not
path_next at all fs i f _ _ k is projects_not stops1 = projects_not
path_next at all fs i f _ _ k is projects_not no_memory1 = projects_not

pub path_next_at : (at : Place) (all : FlatTerm) (fs : List (Bor Text)) (i : ℕ) (d : Bor Text) (r c : Result (Bor Exp) Stop) → i < length fs → Projects at all (drop i fs) r
    → Built1 (λ e x. term_of x.now ≡ Strict (Project ((get_or fs i d).now)) at (term_and (term_of e.now) no_term)) r c → Projects at all (drop (i + 1) fs) c
path_next_at at all fs i d r c k p b = path_next at all fs i (get_or fs i d) r c k (ap (λ l. get_or l 0 d) (sym (drop_more fs i d k) ∙ drop_more fs i (get_or fs i d) k)) p b

pub path_end : (at : Place) (all : FlatTerm) (fs : List (Bor Text)) (i : ℕ) (r : Result (Bor Exp) Stop) → length fs ≤ i → Projects at all (drop i fs) r → Built0 (λ x. term_of x.now ≡ all) r
unfolding projected
path_end at all fs i _ k (projects {x = x} so) = built0 (sym (ap (λ l. projected at (term_of x.now) (texts l)) (drop_of_length-le fs k)) ∙ so)
path_end at all fs i _ k projects_not = no_memory0

pub ruleset paths = (path_start, path_next, path_next_at, path_end)

-- ---- assertions

pub unnamed_made : (l : LetTree) → l.sizes.now ≡ [] → l.heads.now ≡ [] → l.is_function ≡ false → l.pat.form ≡ pat_form.Wild → row_of l ≡ (nameless, term_of l.value)
unnamed_made l none no_heads plain is = row_is l ∙ λ i. (record { sizes = none i; parameters = parameters (no_heads i); is_function = plain i; pattern = pattern_wild l.pat is i }, term_of l.value)

pub asked_made : (mark : Place) (x : Bor Exp) (l : LetTree) (c : Result (Bor Exp) Stop) (ls : Result (Bor (List LetTree)) Stop)
    → Built1 (λ (e x : Bor Exp). term_of x.now ≡ Strict Assert mark (term_and (term_of e.now) no_term)) c (Ok x) → row_of l ≡ (nameless, term_of x.now) → Built0 (λ ls. ls.now ≡ l ∷ []) ls
    → Built1 (λ (c : Bor Exp) (ls : Bor (List LetTree)). map row_of ls.now ≡ (nameless, Strict Assert mark (term_and (term_of c.now) no_term)) ∷ []) c ls
asked_made mark x l _ _ (built1 eq) row (built0 is) = built1 (ap (map row_of) is ∙ λ i. (row ∙ λ j. (nameless, eq j)) i ∷ [])
asked_made mark x l _ _ (built1 eq) row no_memory0 = no_memory1

pub asked_stops : (mark : Place) (e : Stop) (c : Result (Bor Exp) Stop) → Built1 (λ (e x : Bor Exp). term_of x.now ≡ Strict Assert mark (term_and (term_of e.now) no_term)) c (Err e)
    → Built1 (λ (c : Bor Exp) (ls : Bor (List LetTree)). map row_of ls.now ≡ (nameless, Strict Assert mark (term_and (term_of c.now) no_term)) ∷ []) c (Err e)
asked_stops mark e _ stops1 = stops1
asked_stops mark _ c no_memory1 = no_memory1

pub asserted_made : (mark : Place) (c v r : Result (Bor Exp) Stop) (ls : Result (Bor (List LetTree)) Stop)
    → Built1 (λ (c : Bor Exp) (ls : Bor (List LetTree)). map row_of ls.now ≡ (nameless, Strict Assert mark (term_and (term_of c.now) no_term)) ∷ []) c ls
    → Built2 (λ (ls : Bor (List LetTree)) (e x : Bor Exp). term_of x.now ≡ lets (map row_of ls.now) (term_of e.now)) ls v r
    → Built2 (λ (c e x : Bor Exp). term_of x.now ≡ Let nameless (Strict Assert mark (term_and (term_of c.now) no_term)) (term_of e.now)) c v r
unfolding lets
asserted_made mark _ _ _ _ (built1 row) (built2 {b = e} eq) = built2 (eq ∙ ap (λ l. lets l (term_of e.now)) row)
asserted_made mark _ _ _ _ (built1 row) second_of_two = second_of_two
asserted_made mark _ v _ _ (built1 row) no_memory2 = no_memory2
asserted_made mark _ v _ _ stops1 first_of_two = first_of_two
asserted_made mark _ v _ _ stops1 no_memory2 = no_memory2
asserted_made mark c v _ _ no_memory1 first_of_two = no_memory2
asserted_made mark c v _ _ no_memory1 no_memory2 = no_memory2

-- ---- compositions

pub twice_made : (at : Place) (outer inner x : BindId) (o i a r c : Result (Bor Exp) Stop)
    → Built2 (λ f e y. term_of y.now ≡ Apply (term_of f.now) (term_of e.now)) o r c → Built2 (λ f e y. term_of y.now ≡ Apply (term_of f.now) (term_of e.now)) i a r
    → Built0 (λ y. term_of y.now ≡ use_at at outer) o → Built0 (λ y. term_of y.now ≡ use_at at inner) i → Built0 (λ y. term_of y.now ≡ use_at at x) a → Built0 (λ y. term_of y.now ≡ twice_applied at outer inner x) c
twice_made at outer inner x _ _ _ _ _ (built2 q) (built2 p) (built0 oo) (built0 ii) (built0 aa) = built0 (q ∙ λ j. Apply (oo j) ((p ∙ λ k. Apply (ii k) (aa k)) j))
twice_made at outer inner x _ i a r _ first_of_two p no_memory0 ii aa = no_memory0
twice_made at outer inner x _ _ a _ _ second_of_two first_of_two oo no_memory0 aa = no_memory0
twice_made at outer inner x _ _ _ _ _ second_of_two second_of_two oo ii no_memory0 = no_memory0
twice_made at outer inner x _ i a _ _ second_of_two no_memory2 oo ii aa = no_memory0
twice_made at outer inner x o i a r _ no_memory2 p oo ii aa = no_memory0

pub left_first_made : (at : Place) (left_first : Bool) (left right x : BindId) (c : Result (Bor Exp) Stop) → left_first ≡ true → Built0 (λ y. term_of y.now ≡ twice_applied at right left x) c → Built0 (λ y. term_of y.now ≡ ordered at left_first left right x) c
left_first_made at left_first left right x c is b = rw is b

pub right_first_made : (at : Place) (left_first : Bool) (left right x : BindId) (c : Result (Bor Exp) Stop) → left_first ≡ false → Built0 (λ y. term_of y.now ≡ twice_applied at left right x) c → Built0 (λ y. term_of y.now ≡ ordered at left_first left right x) c
right_first_made at left_first left right x c is b = rw is b

pub name_made : (at : Place) (b : BindId) (ps : Bor (List Pat)) (p : Pat) (r c : Result (Bor Exp) Stop) → ps.now ≡ p ∷ [] → p.form ≡ pat_form.Bound b
    → Built2 (λ (ps : Bor (List Pat)) e x. term_of x.now ≡ Lambda (patterns (map pattern_of ps.now)) (term_of e.now)) (Ok ps) r c
    → Built1 (λ e x. term_of x.now ≡ Lambda (pattern_and (Bound_pattern b) no_pattern) (term_of e.now)) r c
unfolding patterns
name_made at b ps p _ _ is form (built2 {b = e} eq) = built1 (eq ∙ ap (λ l. Lambda (patterns (map pattern_of l)) (term_of e.now)) is ∙ ap (λ q. Lambda (pattern_and q no_pattern) (term_of e.now)) (pattern_bound p b form))
name_made at b ps p _ _ is form second_of_two = stops1
name_made at b ps p _ _ is form no_memory2 = no_memory1

pub value_made : (l : LetTree) (b : BindId) → l.sizes.now ≡ [] → l.heads.now ≡ [] → l.is_function ≡ false → l.pat.form ≡ pat_form.Bound b → row_of l ≡ (name_alone b, term_of l.value)
value_made l b none no_heads plain is = row_is l ∙ λ i. (record { sizes = none i; parameters = parameters (no_heads i); is_function = plain i; pattern = pattern_bound l.pat b is i }, term_of l.value)

pub composed_made : (at : Place) (left_first : Bool) (F : Functions) (a b c : Result (Bor Exp) Stop) (ls : Result (Bor (List LetTree)) Stop) (l m : LetTree)
    → Built0 (λ y. term_of y.now ≡ ordered at left_first F.left F.right F.argument) a
    → Built1 (λ e y. term_of y.now ≡ Lambda (pattern_and (Bound_pattern F.argument) no_pattern) (term_of e.now)) a b
    → row_of l ≡ (name_alone F.left, term_of F.left_function.now) → row_of m ≡ (name_alone F.right, term_of F.right_function.now) → Built0 (λ ls. ls.now ≡ l ∷ m ∷ []) ls
    → Built2 (λ (ls : Bor (List LetTree)) e x. term_of x.now ≡ lets (map row_of ls.now) (term_of e.now)) ls b c
    → Built1 (λ (f : Functions) y. term_of y.now ≡ composition at left_first f.left (term_of f.left_function.now) f.right (term_of f.right_function.now) f.argument) (Ok F) c
unfolding lets
composed_made at left_first F _ _ _ _ l m (built0 o) (built1 p) fl gl (built0 is) (built2 q) =
    built1 (q ∙ (λ j. lets (map row_of (is j)) ((p ∙ ap (λ t. Lambda (pattern_and (Bound_pattern F.argument) no_pattern) t) o) j)) ∙ λ j. lets (fl j ∷ gl j ∷ []) (Lambda (pattern_and (Bound_pattern F.argument) no_pattern) (ordered at left_first F.left F.right F.argument)))
composed_made at left_first F _ _ _ _ l m (built0 o) no_memory1 fl gl (built0 is) second_of_two = no_memory1
composed_made at left_first F _ _ _ _ l m no_memory0 stops1 fl gl (built0 is) second_of_two = no_memory1
composed_made at left_first F _ _ _ _ l m no_memory0 no_memory1 fl gl (built0 is) second_of_two = no_memory1
composed_made at left_first F _ _ _ _ l m no_memory0 b fl gl is (built2 q) = elim b [ ]
composed_made at left_first F _ _ _ _ l m a b fl gl no_memory0 first_of_two = no_memory1
composed_made at left_first F _ _ _ _ l m a b fl gl is no_memory2 = no_memory1
