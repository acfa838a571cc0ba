-- What size names, heads and parameters bind.
use Rattle.std.proofs.Common.{◌≡◌, ℕ, ◌+◌, ◌<◌, ◌≤◌, List, [], ◌∷◌, ◌++◌, map, length, drop, get_or, Bool, true, false, IfOk, refl, sym, subst, ◌∙◌, ap, Result, Ok, Err}
use Rattle.std.proofs.Math.ListN.{drop_of_length-le}
use Rattle.std.proofs.lemmas.List.{append-nil, append_assoc, map-append, drop_more}
use Rattle.std.specs.Borrow.{Bor}
use Rattle.fut_ast.specs.Sorts.{Text, SourcePat}
use Rattle.fut_scalar.specs.declared.place.BindId.{BindId}
use Rattle.fut_scalar.specs.declared.place.Place.{Place}
use Rattle.fut_tree.specs.declared.held.Held.{Held}
use Rattle.fut_tree.specs.declared.pat.Head.{Head}
use Rattle.fut_tree.specs.declared.pat.HeadForm.{HeadForm}
use Rattle.fut_tree.specs.declared.pat.HeadForm.TheVariants as held_head
use Rattle.fut_tree.specs.Names.{all, names as texts_of}
use Rattle.fut_tree.specs.Pats.{heads_of, head_form_of}
use Rattle.fut_flat.specs.declared.pat.Pat.{Pat}
use Rattle.fut_flat.specs.declared.pat.Head.{Head as FlatHead}
use Rattle.fut_flat.specs.declared.pat.HeadForm.TheVariants as flat_head
use Rattle.fut_flat.specs.declared.prim.Ref.{Ref}
use Rattle.fut_flat.specs.Terms.{Parameter, Patterns, pattern_and, no_pattern}
use Rattle.fut_ast.specs.declared.node.Label.{Label}
use Rattle.fut_flat.specs.Erased.{FlatPattern, parameter_form, parameters, pattern_of, patterns}
use Rattle.fut_flat.specs.Sources.{Spelled, head_form, source_pattern, patterns as source_patterns}
use Rattle.elab_scopes.specs.declared.refusal.Stop.{Stop}
use Rattle.elab_scopes.specs.declared.table.Names.{Names}
use Rattle.elab_scopes.specs.declared.table.Entry.{Entry as HeldEntry}
use Rattle.elab_scopes.specs.Scopes.{Entry, Scope, a_value, enter}
use Rattle.elab_scopes.specs.Resolve.{Bound, Numbered, after, next, with_text, number_sizes, number_heads, head_text, head_with, head_entry, resolve_pattern, resolve_parameters}
use Rattle.elab_scopes.specs.Table.{scope_of, made_of, entry_of, entries_of}
use Rattle.elab_scopes.specs.Answers.{Went, went, refused, no_memory, Entered, entered, not_entered, no_memory_entered}
use Rattle.elab_scopes.proofs.Walking.{from_here}
use Rattle.elab_types.specs.Numbering.{Numbers, numbers, no_number}
use Rattle.elab_types.specs.Bindings.{bound_pattern_of, bound_sizes_of, sizes_numbered, bound_heads_of, heads_numbered, parameters_of, onto, before, entry_with, number_texts, number_held, source_head, Numbering, numbering, Numbers_head, numbers_head, no_head, Doing_parameters, doing_parameters, Bringing, bringing, Brings, brings, brings_not, Brought, brought, none_brought, not_brought}
use Rattle.elab_types.specs.Lists.{Put, put, no_item, no_room}
use Rattle.elab_types.specs.declared.pats.Bound.{Bound as HeldBound}

-- an item of a list is itself whatever stands for a missing one
same_item : {A : Type 0} (xs : List A) (i : ℕ) (d : A) → i < length xs → get_or xs i d ≡ get_or xs i (get_or xs i d)
same_item xs i d k = ap (λ l. get_or l 0 d) (sym (drop_more xs i d k) ∙ drop_more xs i (get_or xs i d) k)

-- ---- names that come in scope

pub bringing_start : (es : List HeldEntry) (s : Names) → Bringing es s es s
bringing_start es s = bringing refl refl

pub bringing_next : (es : List HeldEntry) (s t u : Names) (i : ℕ) (e : HeldEntry) → i < length es → e ≡ get_or es i e → scope_of u ≡ entry_of e ∷ scope_of t → made_of u ≡ made_of t → Bringing es s (drop i es) t → Bringing es s (drop (i + 1) es) u
unfolding enter
bringing_next es s t u i e k is so mk (bringing all same) = bringing (ap (enter (entries_of (drop (i + 1) es))) so ∙ sym (ap (λ l. enter (entries_of l) (scope_of t)) (from_here es i e k is)) ∙ all) (mk ∙ same)

pub bringing_next_at : (es : List HeldEntry) (s t u : Names) (i : ℕ) (d : HeldEntry) → i < length es → scope_of u ≡ entry_of (get_or es i d) ∷ scope_of t → made_of u ≡ made_of t → Bringing es s (drop i es) t → Bringing es s (drop (i + 1) es) u
bringing_next_at es s t u i d k so mk b = bringing_next es s t u i (get_or es i d) k (same_item es i d k) so mk b

pub bringing_end : (es : List HeldEntry) (s t : Names) (i : ℕ) (u : Unit {0}) → length es ≤ i → Bringing es s (drop i es) t → Brings es s t (Ok u)
unfolding enter
bringing_end es s t i u k (bringing all same) = brings (sym (ap (λ l. enter (entries_of l) (scope_of t)) (drop_of_length-le es k)) ∙ all) same

pub ruleset entering_rules = (bringing_start, bringing_next, bringing_next_at, bringing_end, brings_not)

-- ---- lists of numbers

module _ {X A : Type 0} (number : List X → List Text → Bound (List A) × List Text) where
  pub numbering_start : (xs : List X) (s : Names) (done : List A) (es : List HeldEntry) → done ≡ [] → es ≡ [] → Numbering number xs s xs done (entries_of es) s
  numbering_start xs s done es none empty = subst (λ l. Numbering number xs s xs l (entries_of es) s) (sym none) (subst (λ l. Numbering number xs s xs [] (entries_of l) s) (sym empty) (numbering refl refl))

  -- one more
  numbering_next : (xs : List X) (s t u : Names) (i : ℕ) (x : X) (done more : List A) (es news : List HeldEntry) (a : A) (e : Entry) → i < length xs → x ≡ get_or xs i x
      → ((rest : List X) → number (x ∷ rest) (made_of t) ≡ before (a ∷ []) (e ∷ []) (number rest (made_of u))) → scope_of u ≡ scope_of t → more ≡ done ++ a ∷ [] → entries_of news ≡ entries_of es ++ e ∷ []
      → Numbering number xs s (drop i xs) done (entries_of es) t → Numbering number xs s (drop (i + 1) xs) more (entries_of news) u
  numbering_next xs s t u i x done more es news a e k is step same so new (numbering all still) = numbering (
      all
      ∙ ap (λ l. before done (entries_of es) (number l (made_of t))) (from_here xs i x k is)
      ∙ ap (before done (entries_of es)) (step (drop (i + 1) xs))
      ∙ regrouped (number (drop (i + 1) xs) (made_of u))
      ∙ λ j. before (sym so j) (sym new j) (number (drop (i + 1) xs) (made_of u)))
      (same ∙ still)
    where
      regrouped : (z : Bound (List A) × List Text) → before done (entries_of es) (before (a ∷ []) (e ∷ []) z) ≡ before (done ++ a ∷ []) (entries_of es ++ e ∷ []) z
      regrouped z = λ j. ((sym (append_assoc done (a ∷ []) z.0.0) j, sym (append_assoc (entries_of es) (e ∷ []) z.0.1) j), z.1)

  numbering_end : {Q : Type 0} {view : Q → Bound (List A)} (xs : List X) (s t : Names) (i : ℕ) (done : List A) (es : List Entry) (x : Q) → length xs ≤ i → number [] (made_of t) ≡ (([], []), made_of t) → view x ≡ (done, es)
      → Numbering number xs s (drop i xs) done es t → Went view (λ sc made. Ok (number xs made)) s t (Ok x)
  numbering_end xs s t i done es x k none is (numbering all still) = went (ap Ok (
      all
      ∙ ap (λ l. before done es (number l (made_of t))) (drop_of_length-le xs k)
      ∙ ap (before done es) none
      ∙ (λ j. ((append-nil done j, append-nil es j), made_of t))
      ∙ λ j. (sym is j, made_of t)))
      still

more_entries : (es more : List HeldEntry) (e : HeldEntry) → more ≡ es ++ e ∷ [] → entries_of more ≡ entries_of es ++ entry_of e ∷ []
more_entries es more e is = ap entries_of is ∙ map-append entry_of es (e ∷ [])

-- ---- size names

pub size_put : (xs : List (Bor Text)) (s t u : Names) (i : ℕ) (d : Bor Text) (done more : List BindId) (es news : List HeldEntry) (r : Result BindId Stop) (w : Unit {0}) → i < length xs → Numbers (get_or xs i d).now t u r → IfOk r (λ b. news ≡ es ++ entry_with (get_or xs i d) b false ∷ [])
    → Put (λ (b : BindId). b) r done more (Ok w) → Numbering number_texts xs s (drop i xs) done (entries_of es) t → Numbering number_texts xs s (drop (i + 1) xs) more (entries_of news) u
unfolding number_sizes
size_put xs s t u i d done more es news _ w k (numbers {b = b} is moved same held) new (put so) n =
    numbering_next number_texts xs s t u i (get_or xs i d) done more es news b (a_value (get_or xs i d).now b) k (same_item xs i d k) (λ rest j. before (sym is j ∷ []) (a_value (get_or xs i d).now (sym is j) ∷ []) (number_texts rest (sym moved j))) same so (more_entries es news (entry_with (get_or xs i d) b false) new) n
size_put xs s t u i d done more es news _ w k no_number new p n = elim p [ ]

pub size_put_stops : {A B Q : Type 0} {view : Q → A} {item : BindId → B} (does : Scope → List Text → Numbered A) (x : Text) (s t u : Names) (done more : List B) (r : Result BindId Stop) (e : Stop) → Numbers x t u r → Put item r done more (Err e) → Went view does s u (Err e)
size_put_stops does x s t u done more _ e no_number no_item = no_memory
size_put_stops does x s t u done more r _ n no_room = no_memory

pub sizes_end : (xs : List (Bor Text)) (s t : Names) (i : ℕ) (done : List BindId) (es : List Entry) (w : Unit {0}) → length xs ≤ i → Numbering number_texts xs s (drop i xs) done es t → Went (λ (u : Unit {0}). (done, es)) (sizes_numbered (texts_of xs)) s t (Ok w)
unfolding sizes_numbered number_sizes
sizes_end xs s t i done es w k n = numbering_end number_texts xs s t i done es w k refl refl n

pub sizes_made : (does : Scope → List Text → Numbered (Bound (List BindId))) (s t : Names) (bs : List BindId) (es : List HeldEntry) (b : Bor (List BindId)) (e : Bor (List HeldEntry)) (r : Result (Unit {0}) Stop) (w : Unit {0}) → b.now ≡ bs → e.now ≡ es → r ≡ Ok w
    → Went (λ (u : Unit {0}). (bs, entries_of es)) does s t r → Went bound_sizes_of does s t (Ok (record { binds = b; names = e }))
sizes_made does s t bs es b e r w is so ok g = by_lists (subst (λ q. Went (λ (u : Unit {0}). (bs, entries_of es)) does s t q) ok g)
  where
    by_lists : Went (λ (u : Unit {0}). (bs, entries_of es)) does s t (Ok w) → Went bound_sizes_of does s t (Ok (record { binds = b; names = e }))
    by_lists (went g same) = went (g ∙ λ j. Ok ((sym is j, entries_of (sym so j)), made_of t)) same

-- ---- heads

head_numbers : (h : Head) (f : HeadForm) (s t : Names) (es more : List HeldEntry) (b : BindId) (x : FlatHead) (e : HeldEntry) → h.form ≡ f → parameter_form x.form ≡ head_with b (head_form h.place (head_form_of f)) → entry_of e ≡ head_entry b (head_form h.place (head_form_of f))
    → Numbers (head_text (head_form h.place (head_form_of f))) s t (Ok b) → more ≡ es ++ e ∷ [] → Numbers_head h s t es more (Ok x)
head_numbers h f s t es more b x e hf px pe (numbers is moved same held) new = numbers_head
    (px ∙ (λ j. head_with (is j) (head_form h.place (head_form_of (sym hf j)))))
    (more_entries es more e new ∙ (λ j. entries_of es ++ pe j ∷ []) ∙ (λ j. entries_of es ++ head_entry (is j) (head_form h.place (head_form_of (sym hf j))) ∷ []))
    (moved ∙ (λ j. with_text (made_of s) (head_text (head_form h.place (head_form_of (sym hf j))))))
    same

pub head_size_numbers : (h : Head) (x : Bor Text) (s t : Names) (es more : List HeldEntry) (b : BindId) (p : Place) → h.form ≡ held_head.Size x → Numbers x.now s t (Ok b) → more ≡ es ++ entry_with x b false ∷ [] → Numbers_head h s t es more (Ok (record { place = p; form = flat_head.Size b }))
head_size_numbers h x s t es more b p hx n new = head_numbers h (held_head.Size x) s t es more b (record { place = p; form = flat_head.Size b }) (entry_with x b false) hx refl refl n new

pub head_var_numbers : (h : Head) (x : Bor Text) (lifted : Bool) (s t : Names) (es more : List HeldEntry) (b : BindId) (p : Place) → h.form ≡ held_head.Var x lifted → Numbers x.now s t (Ok b) → more ≡ es ++ entry_with x b true ∷ [] → Numbers_head h s t es more (Ok (record { place = p; form = flat_head.Var b lifted }))
head_var_numbers h x lifted s t es more b p hx n new = head_numbers h (held_head.Var x lifted) s t es more b (record { place = p; form = flat_head.Var b lifted }) (entry_with x b true) hx refl refl n new

pub head_stops : (h : Head) (x : Text) (s t : Names) (es more : List HeldEntry) (e : Stop) → Numbers x s t (Err e) → Numbers_head h s t es more (Err e)
head_stops h x s t es more _ no_number = no_head

pub head_put : (hs : List Head) (s t u : Names) (i : ℕ) (d : Head) (done more : List FlatHead) (es news : List HeldEntry) (r : Result FlatHead Stop) (w : Unit {0}) → i < length hs → Numbers_head (get_or hs i d) t u es news r
    → Put (λ (h : FlatHead). h) r done more (Ok w) → Numbering number_held hs s (drop i hs) (parameters done) (entries_of es) t → Numbering number_held hs s (drop (i + 1) hs) (parameters more) (entries_of news) u
unfolding number_heads
head_put hs s t u i d done more es news _ w k (numbers_head {x = x} is new moved same) (put so) n =
    numbering_next number_held hs s t u i (get_or hs i d) (parameters done) (parameters more) es news (head_with (next (made_of t)) (source_head (get_or hs i d))) (head_entry (next (made_of t)) (source_head (get_or hs i d))) k (same_item hs i d k)
    (λ rest j. before (head_with (next (made_of t)) (source_head (get_or hs i d)) ∷ []) (head_entry (next (made_of t)) (source_head (get_or hs i d)) ∷ []) (number_held rest (sym moved j))) same
    (ap parameters so ∙ map-append (λ (h : FlatHead). parameter_form h.form) done (x ∷ []) ∙ λ j. parameters done ++ is j ∷ []) new n
head_put hs s t u i d done more es news _ w k no_head p n = elim p [ ]

pub head_put_stops : {A Q : Type 0} {view : Q → A} (does : Scope → List Text → Numbered A) (h : Head) (s t u : Names) (done more : List FlatHead) (es news : List HeldEntry) (r : Result FlatHead Stop) (e : Stop) → Numbers_head h t u es news r → Put (λ (h : FlatHead). h) r done more (Err e) → Went view does s u (Err e)
head_put_stops does h s t u done more es news _ e no_head no_item = no_memory
head_put_stops does h s t u done more es news r _ n no_room = no_memory

pub heads_end : (hs : List Head) (s t : Names) (i : ℕ) (done : List (Parameter BindId)) (es : List Entry) (w : Unit {0}) → length hs ≤ i → Numbering number_held hs s (drop i hs) done es t → Went (λ (u : Unit {0}). (done, es)) (heads_numbered (heads_of hs)) s t (Ok w)
unfolding heads_numbered number_heads
heads_end hs s t i done es w k n = numbering_end number_held hs s t i done es w k refl refl n

pub heads_made : (does : Scope → List Text → Numbered (Bound (List (Parameter BindId)))) (s t : Names) (hs : List FlatHead) (es : List HeldEntry) (b : Bor (List FlatHead)) (e : Bor (List HeldEntry)) (r : Result (Unit {0}) Stop) (w : Unit {0}) → b.now ≡ hs → e.now ≡ es → r ≡ Ok w
    → Went (λ (u : Unit {0}). (parameters hs, entries_of es)) does s t r → Went bound_heads_of does s t (Ok (record { heads = b; names = e }))
heads_made does s t hs es b e r w is so ok g = by_lists (subst (λ q. Went (λ (u : Unit {0}). (parameters hs, entries_of es)) does s t q) ok g)
  where
    by_lists : Went (λ (u : Unit {0}). (parameters hs, entries_of es)) does s t (Ok w) → Went bound_heads_of does s t (Ok (record { heads = b; names = e }))
    by_lists (went g same) = went (g ∙ λ j. Ok ((parameters (sym is j), entries_of (sym so j)), made_of t)) same

-- what stops a walk over a list stops what takes the list
stops_alike : {A P Q : Type 0} {shown : P → A} {view : Q → A} (does : Scope → List Text → Numbered A) (s t : Names) (e : Stop) → Went shown does s t (Err e) → Went view does s t (Err e)
stops_alike does s t _ (refused g) = refused g
stops_alike does s t _ no_memory = no_memory

pub made_stops : {A P Q : Type 0} {shown : P → A} {view : Q → A} (does : Scope → List Text → Numbered A) (s t : Names) (r : Result P Stop) (e : Stop) → r ≡ Err e → Went shown does s t r → Went view does s t (Err e)
made_stops {shown = shown} does s t r e stops g = stops_alike does s t e (subst (λ q. Went shown does s t q) stops g)

-- ---- parameters

onto_end : (ps : List FlatPattern) → onto ps no_pattern ≡ patterns ps
unfolding patterns
onto_end [] = refl
onto_end (p ∷ ps) = ap (pattern_and p) (onto_end ps)

onto_more : (ps : List FlatPattern) (p : FlatPattern) (qs : Patterns Ref BindId) → onto (ps ++ p ∷ []) qs ≡ onto ps (pattern_and p qs)
onto_more [] p qs = refl
onto_more (q ∷ ps) p qs = ap (pattern_and q) (onto_more ps p qs)

abbrev terms_of : List (Held SourcePat) → Patterns Spelled Label
terms_of hs = source_patterns (map source_pattern (all hs))

finish : List Pat → Numbered (Patterns Ref BindId × Scope) → Numbered (Patterns Ref BindId × Scope)
finish done r = after r (λ r made. Ok ((onto (map pattern_of done) r.0, r.1), made))

pub params_start : (hs : List (Held SourcePat)) (s : Names) → Doing_parameters hs s hs [] s
unfolding after
params_start hs s = doing_parameters (sym (at_start (resolve_parameters (terms_of hs) (scope_of s) (made_of s))))
  where
    at_start : (r : Numbered (Patterns Ref BindId × Scope)) → after r (λ r made. Ok ((onto [] r.0, r.1), made)) ≡ r
    at_start (Ok (r, m)) = refl
    at_start (Err e) = refl

pub params_next : (hs : List (Held SourcePat)) (s t u v : Names) (i : ℕ) (h : Held SourcePat) (done : List Pat) (b : HeldBound) (w : Unit {0}) → i < length hs → h ≡ get_or hs i h
    → Went bound_pattern_of (resolve_pattern (source_pattern h.at.now)) t u (Ok b) → Brings b.names.now u v (Ok w)
    → Doing_parameters hs s (drop i hs) done t → Doing_parameters hs s (drop (i + 1) hs) (done ++ b.pat ∷ []) v
unfolding resolve_parameters after source_patterns finish
params_next hs s t u v i h done b w k is (went g same) (brings sc mk) (doing_parameters so) = doing_parameters (
    so
    ∙ ap (λ l. finish done (resolve_parameters (terms_of l) (scope_of t) (made_of t))) (from_here hs i h k is)
    ∙ ap (λ r. finish done (after r (λ p made. after (resolve_parameters (terms_of (drop (i + 1) hs)) (enter p.1 (scope_of t)) made) (λ ps made. Ok ((pattern_and p.0 ps.0, ps.1), made))))) g
    ∙ ap (λ r. finish done (after r (λ ps made. Ok ((pattern_and (pattern_of b.pat) ps.0, ps.1), made)))) ((λ j. resolve_parameters (terms_of (drop (i + 1) hs)) (enter (entries_of b.names.now) (sym same j)) (made_of u)) ∙ (λ j. resolve_parameters (terms_of (drop (i + 1) hs)) (sym sc j) (sym mk j)))
    ∙ at_rest (resolve_parameters (terms_of (drop (i + 1) hs)) (scope_of v) (made_of v)))
  where
    at_rest : (r : Numbered (Patterns Ref BindId × Scope)) → finish done (after r (λ ps made. Ok ((pattern_and (pattern_of b.pat) ps.0, ps.1), made))) ≡ after r (λ r made. Ok ((onto (map pattern_of (done ++ b.pat ∷ [])) r.0, r.1), made))
    at_rest (Ok (ps, m)) = λ j. Ok ((sym (ap (λ l. onto l ps.0) (map-append pattern_of done (b.pat ∷ [])) ∙ onto_more (map pattern_of done) (pattern_of b.pat) ps.0) j, ps.1), m)
    at_rest (Err e) = refl

pub params_stop : {Q : Type 0} {view : Q → Patterns Ref BindId} (hs : List (Held SourcePat)) (s t u : Names) (i : ℕ) (h : Held SourcePat) (done : List Pat) (e : Stop) → i < length hs → h ≡ get_or hs i h
    → Went bound_pattern_of (resolve_pattern (source_pattern h.at.now)) t u (Err e) → Doing_parameters hs s (drop i hs) done t → Entered view (resolve_parameters (source_patterns (map source_pattern (all hs))) (scope_of s) (made_of s)) u (Err e)
unfolding resolve_parameters after source_patterns finish
params_stop hs s t u i h done _ k is (refused g) (doing_parameters so) = not_entered (
    so
    ∙ ap (λ l. finish done (resolve_parameters (terms_of l) (scope_of t) (made_of t))) (from_here hs i h k is)
    ∙ ap (λ r. finish done (after r (λ p made. after (resolve_parameters (terms_of (drop (i + 1) hs)) (enter p.1 (scope_of t)) made) (λ ps made. Ok ((pattern_and p.0 ps.0, ps.1), made))))) g)
params_stop hs s t u i h done _ k is no_memory d = no_memory_entered

pub params_end : (hs : List (Held SourcePat)) (s t : Names) (i : ℕ) (done : List Pat) (w : Unit {0}) → length hs ≤ i → Doing_parameters hs s (drop i hs) done t
    → Entered (λ (u : Unit {0}). parameters_of done) (resolve_parameters (source_patterns (map source_pattern (all hs))) (scope_of s) (made_of s)) t (Ok w)
unfolding resolve_parameters after source_patterns finish
params_end hs s t i done w k (doing_parameters so) = entered (
    so
    ∙ ap (λ l. finish done (resolve_parameters (terms_of l) (scope_of t) (made_of t))) (drop_of_length-le hs k)
    ∙ λ j. Ok ((onto_end (map pattern_of done) j, scope_of t), made_of t))

-- names that are brought, and the pattern put behind those before it

pub names_brought : (b : HeldBound) (s t : Names) (w : Unit {0}) → Brings b.names.now s t (Ok w) → Brought (Ok b) s t (Ok b.pat)
names_brought b s t w (brings sc mk) = brought sc mk refl

pub names_gone : (r : Result HeldBound Stop) (es : List HeldEntry) (s t : Names) (e : Stop) → Brings es s t (Err e) → Brought r s t (Err e)
names_gone r es s t _ brings_not = not_brought

pub param_start : (hs : List (Held SourcePat)) (s : Names) (done : List Pat) → done ≡ [] → Doing_parameters hs s hs done s
param_start hs s done none = subst (λ l. Doing_parameters hs s hs l s) (sym none) (params_start hs s)

pub param_put : (hs : List (Held SourcePat)) (s t u v : Names) (i : ℕ) (h : Held SourcePat) (done more : List Pat) (r : Result HeldBound Stop) (q : Result Pat Stop) (w : Unit {0}) → i < length hs → h ≡ get_or hs i h
    → Went bound_pattern_of (resolve_pattern (source_pattern h.at.now)) t u r → Brought r u v q → Put (λ (p : Pat). p) q done more (Ok w) → Doing_parameters hs s (drop i hs) done t → Doing_parameters hs s (drop (i + 1) hs) more v
param_put hs s t u v i h done more _ _ w k is p (brought {b = b} sc mk so) (put new) d = subst (λ l. Doing_parameters hs s (drop (i + 1) hs) l v) (sym (new ∙ λ j. done ++ so j ∷ [])) (params_next hs s t u v i h done b w k is p (brings sc mk) d)
param_put hs s t u v i h done more _ _ w k is p none_brought q d = elim q [ ]
param_put hs s t u v i h done more r _ w k is p not_brought q d = elim q [ ]

-- where names stand says nothing of a walk that stopped
stopped_at : {Q A : Type 0} {view : Q → A} {does : Numbered (A × Scope)} (u v : Names) (e : Stop) → Entered view does u (Err e) → Entered view does v (Err e)
stopped_at u v _ (not_entered g) = not_entered g
stopped_at u v _ no_memory_entered = no_memory_entered

pub param_put_stops : {Q : Type 0} {view : Q → Patterns Ref BindId} (hs : List (Held SourcePat)) (s t u v : Names) (i : ℕ) (h : Held SourcePat) (done more : List Pat) (r : Result HeldBound Stop) (q : Result Pat Stop) (e : Stop) → i < length hs → h ≡ get_or hs i h
    → Went bound_pattern_of (resolve_pattern (source_pattern h.at.now)) t u r → Brought r u v q → Put (λ (p : Pat). p) q done more (Err e) → Doing_parameters hs s (drop i hs) done t
    → Entered view (resolve_parameters (source_patterns (map source_pattern (all hs))) (scope_of s) (made_of s)) v (Err e)
param_put_stops hs s t u v i h done more _ _ e k is p none_brought no_item d = stopped_at u v e (params_stop hs s t u i h done e k is p d)
param_put_stops hs s t u v i h done more r _ _ k is p not_brought no_item d = no_memory_entered
param_put_stops hs s t u v i h done more r q _ k is p b no_room d = no_memory_entered
