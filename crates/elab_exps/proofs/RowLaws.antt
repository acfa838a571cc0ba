-- Rows of lets.
use Rattle.std.proofs.Common.{◌≡◌, ℕ, ◌+◌, ◌-◌, ◌<◌, ◌≤◌, ◌++◌, arith, List, [], ◌∷◌, map, length, drop, get_or, Bool, refl, sym, ◌∙◌, ap, subst, Result, Ok, Err, append_assoc, append-nil}
use Rattle.std.proofs.Math.ListN.{drop_of_length-le}
use Rattle.std.proofs.lemmas.List.{length-drop, map-append}
use Rattle.std.specs.Borrow.{Bor}
use Rattle.fut_scalar.specs.declared.place.BindId.{BindId}
use Rattle.fut_scalar.specs.declared.place.Place.{Place}
use Rattle.fut_ast.specs.Sorts.{Text}
use Rattle.fut_ast.specs.declared.pat.Head.{Head as PlainHead}
use Rattle.fut_tree.specs.declared.exp.Bind.{Bind}
use Rattle.fut_tree.specs.Names.{names}
use Rattle.fut_tree.specs.Pats.{heads_of}
use Rattle.fut_tree.specs.Exps.{bind_of, binds_of}
use Rattle.fut_flat.specs.declared.exp.Exp.{Exp as Flat}
use Rattle.fut_flat.specs.declared.exp.Let.{Let as LetTree}
use Rattle.fut_flat.specs.declared.pat.Head.{Head as FlatHead}
use Rattle.fut_flat.specs.declared.prim.Ref.{Ref}
use Rattle.fut_flat.specs.Terms.{Parameter, Binding, Let}
use Rattle.fut_flat.specs.Erased.{FlatPattern, FlatTerm, Row, lets, parameters}
use Rattle.fut_flat.specs.Sources as source
use Rattle.fut_flat.specs.Sources.{SourceTerm, labels, source_parameters, source_pattern, source_term}
use Rattle.fut_flat.proofs.ErasedForms.{row_of, row_is}
use Rattle.fut_flat.proofs.SourceForms as sources
use Rattle.elab_scopes.specs.declared.refusal.Stop.{Stop}
use Rattle.elab_scopes.specs.declared.table.Names.{Names}
use Rattle.elab_scopes.specs.Scopes.{Scope, enter}
use Rattle.elab_scopes.specs.Resolve.{Bound, Numbered, after, and_size, led_by, next, with_text, number_sizes, number_heads, resolve, resolve_pattern, section_name}
use Rattle.elab_scopes.specs.Answers.{Went, went, refused, no_memory, Entered, entered, not_entered, no_memory_entered}
use Rattle.elab_scopes.specs.Table.{scope_of, made_of, outside}
use Rattle.elab_scopes.proofs.Walking.{from_here, after_assoc}
use Rattle.elab_nodes.specs.Built.{Built2, Built3, built3, first_of_three, second_of_three, third_of_three, no_memory3}
use Rattle.elab_nodes.specs.Held.{held_term}
use Rattle.elab_nodes.proofs.Steps.{by_same}
use Rattle.elab_types.specs.declared.binds.Heads.{Heads}
use Rattle.elab_types.specs.Bindings.{Brings, bound_heads_of, heads_numbered, sizes_numbered}
use Rattle.elab_exps.specs.declared.heads.Head.{Head}
use Rattle.elab_exps.specs.Heads.{head_of, Valued, valued_of, Behind, now_behind, Brought_head, brought_head, no_head, not_brought_head, Brought_heads, brought_heads, not_brought_heads}
use Rattle.elab_types.specs.Lists.{Put, put, no_item, no_room}
use Rattle.elab_exps.specs.Parts.{Doing_rows, doing_rows, Headed, behind, each_row, headed_value, name_before, row_part, sized_pattern, source_of}
use Rattle.elab_exps.proofs.Above.{Above, Rises, rises, above_all, enter_above, higher, rises_behind, rises_then, same_scope, scoped}
use Rattle.elab_exps.proofs.HeadLaws.{within, within_second}
use Rattle.elab_exps.proofs.SectionLaws.{led_rises, led_then, name_of_lets}

-- ---- values with their parameters

pub value_made : (hs : List PlainHead) (v : SourceTerm) (s s1 s2 s3 u : Names) (h : ℕ) (z : Heads) (w : Unit {0}) (x : Bor Flat) → h ≡ length (scope_of s)
    → Went bound_heads_of (heads_numbered hs) s s1 (Ok z) → Brings z.names.now s1 s2 (Ok w) → Went held_term (resolve v) s2 s3 (Ok x) → scope_of u ≡ outside h (scope_of s3) → made_of u ≡ made_of s3
    → Went valued_of (headed_value hs v) s u (Ok (z.heads, x))
unfolding headed_value valued_of
value_made hs v s s1 s2 s3 u h z w x n ws bs wv out mk = within {vx = bound_heads_of} {vy = held_term} {vz = λ (v : Valued). (parameters v.0.now, held_term v.1)} (heads_numbered hs) (resolve v) (λ h v. (h.0, v)) s s1 s2 s3 u h z z.names.now w x (z.heads, x) n ws refl bs wv out mk refl

pub value_second : (hs : List PlainHead) (v : SourceTerm) (s s1 s2 s3 : Names) (z : Heads) (w : Unit {0}) (e : Stop) → Went bound_heads_of (heads_numbered hs) s s1 (Ok z) → Brings z.names.now s1 s2 (Ok w) → Went held_term (resolve v) s2 s3 (Err e)
    → Went valued_of (headed_value hs v) s s3 (Err e)
unfolding headed_value
value_second hs v s s1 s2 s3 z w e ws bs wv = within_second {vx = bound_heads_of} {vy = held_term} (heads_numbered hs) (resolve v) (λ h v. (h.0, v)) s s1 s2 s3 z z.names.now w e ws refl bs wv

-- ---- one row

row_after : Bind → Scope → Headed → List (Parameter BindId) × FlatTerm → List Text → Numbered (Row × Scope)
row_after b sc h v m = Ok (((record { sizes = h.0.0; parameters = v.0; is_function = b.is_function; pattern = h.1.0 }, v.1), behind h sc), m)

pub row_made : (b : Bind) (s s1 s2 s3 : Names) (h : Head) (v : Valued) (w : Unit {0}) → Went head_of (sized_pattern (names b.sizes.now) (source_pattern b.pat.now)) s s1 (Ok h)
    → Went valued_of (headed_value (heads_of b.heads.now) (source_of b.value.now)) s1 s2 (Ok v) → Behind (head_of h) s2 s3 (Ok w)
    → Entered row_of (row_part b (scope_of s) (made_of s)) s3 (Ok (record { sizes = h.sizes.binds; heads = v.0; is_function = b.is_function; pat = h.pat.pat; value = v.1.now }))
unfolding row_part after row_after head_of valued_of
row_made b s s1 s2 s3 h v w (went gh sh) (went gv sv) (now_behind sb mb) = entered (
    ap (λ r. after r (λ h m. after (headed_value (heads_of b.heads.now) (source_of b.value.now) (scope_of s) m) (λ v m. row_after b (scope_of s) h v m))) gh
    ∙ (λ i. after (headed_value (heads_of b.heads.now) (source_of b.value.now) (sym sh i) (made_of s1)) (λ v m. row_after b (scope_of s) (head_of h) v m))
    ∙ ap (λ r. after r (λ v m. row_after b (scope_of s) (head_of h) v m)) gv
    ∙ (λ i. Ok ((sym (row_is (record { sizes = h.sizes.binds; heads = v.0; is_function = b.is_function; pat = h.pat.pat; value = v.1.now })) i, place i), sym mb i)))
  where
    place : behind (head_of h) (scope_of s) ≡ scope_of s3
    place = (λ i. behind (head_of h) (sym (sv ∙ sh) i)) ∙ sym sb

pub row_first : (b : Bind) (s s1 : Names) (e : Stop) → Went head_of (sized_pattern (names b.sizes.now) (source_pattern b.pat.now)) s s1 (Err e) → Entered row_of (row_part b (scope_of s) (made_of s)) s1 (Err e)
unfolding row_part after row_after
row_first b s s1 _ (refused gh) = not_entered (ap (λ r. after r (λ h m. after (headed_value (heads_of b.heads.now) (source_of b.value.now) (scope_of s) m) (λ v m. row_after b (scope_of s) h v m))) gh)
row_first b s s1 _ no_memory = no_memory_entered

pub row_second : (b : Bind) (s s1 s2 : Names) (h : Head) (e : Stop) → Went head_of (sized_pattern (names b.sizes.now) (source_pattern b.pat.now)) s s1 (Ok h)
    → Went valued_of (headed_value (heads_of b.heads.now) (source_of b.value.now)) s1 s2 (Err e) → Entered row_of (row_part b (scope_of s) (made_of s)) s2 (Err e)
unfolding row_part after row_after
row_second b s s1 s2 h _ (went gh sh) (refused gv) = not_entered (
    ap (λ r. after r (λ h m. after (headed_value (heads_of b.heads.now) (source_of b.value.now) (scope_of s) m) (λ v m. row_after b (scope_of s) h v m))) gh
    ∙ (λ i. after (headed_value (heads_of b.heads.now) (source_of b.value.now) (sym sh i) (made_of s1)) (λ v m. row_after b (scope_of s) (head_of h) v m))
    ∙ ap (λ r. after r (λ v m. row_after b (scope_of s) (head_of h) v m)) gv)
row_second b s s1 s2 h _ (went gh sh) no_memory = no_memory_entered

pub entered_any : {A R : Type 0} {view : R → A} {does : Numbered (A × Scope)} {t u : Names} {e : Stop} → Entered view does t (Err e) → Entered view does u (Err e)
entered_any (not_entered g) = not_entered g
entered_any no_memory_entered = no_memory_entered

-- of the answers for its parts
pub row_entered : (b : Bind) (s s1 s2 s3 u t : Names) (n : ℕ) (hd hd2 : Result Head Stop) (hs : Result (Bor (List FlatHead)) Stop) (v : Result (Bor Flat) Stop) (r : Result LetTree Stop)
    → Went head_of (sized_pattern (names b.sizes.now) (source_pattern b.pat.now)) s s1 hd → n ≡ length (scope_of s1) → Brought_heads (heads_of b.heads.now) s1 s2 hs → Went held_term (resolve (source_of b.value.now)) s2 s3 v
    → scope_of u ≡ outside n (scope_of s3) → made_of u ≡ made_of s3 → Brought_head hd u t hd2
    → Built3 (λ (h : Head) (hs : Bor (List FlatHead)) (v : Bor Flat) (l : LetTree). l ≡ record { sizes = h.sizes.binds; heads = hs; is_function = b.is_function; pat = h.pat.pat; value = v.now }) hd2 hs v r → Entered row_of (row_part b (scope_of s) (made_of s)) t r
row_entered b s s1 s2 s3 u t n _ _ _ _ _ p ns (brought_heads {u = k} {z = z} {w = w} hw bs) wv out mk (brought_head {h = h} {w = x} behind) (built3 {c = y} is) =
    subst (λ l. Entered row_of (row_part b (scope_of s) (made_of s)) t (Ok l)) (sym is) (row_made b s s1 u t h (z.heads, y) x p (value_made (heads_of b.heads.now) (source_of b.value.now) s1 k s2 s3 u n z w y ns hw bs wv out mk) behind)
row_entered b s s1 s2 s3 u t n _ _ hs v _ p ns m wv out mk no_head first_of_three = entered_any (row_first b s s1 _ p)
row_entered b s s1 s2 s3 u t n hd _ hs v _ p ns m wv out mk not_brought_head first_of_three = no_memory_entered
row_entered b s s1 s2 s3 u t n hd _ _ v _ p ns not_brought_heads wv out mk k second_of_three = no_memory_entered
row_entered b s s1 s2 s3 u t n _ _ _ _ _ p ns (brought_heads {u = k} {z = z} {w = w} hw bs) wv out mk (brought_head {h = h} behind) third_of_three =
    entered_any (row_second b s s1 s3 h _ p (value_second (heads_of b.heads.now) (source_of b.value.now) s1 k s2 s3 z w _ hw bs wv))
row_entered b s s1 s2 s3 u t n hd hd2 hs v _ p ns m wv out mk k no_memory3 = no_memory_entered

-- ---- rows

finish : List LetTree → Numbered (List Row × Scope) → Numbered (List Row × Scope)
finish done r = after r (λ rs m. Ok ((map row_of done ++ rs.0, rs.1), m))

-- one row, and the name that stands before it
abbrev pub led_row : SourceTerm → ℕ → Bind → Names → Numbered (Row × Scope)
led_row e n b t = led_by (name_before n e) (scope_of t) (row_part b (scope_of t) (made_of t))

pub rows_start : (e : SourceTerm) (bs : List Bind) (s : Names) (done : List LetTree) → done ≡ [] → Doing_rows e bs s bs done s
unfolding after
rows_start e bs s done none = subst (λ l. Doing_rows e bs s bs l s) (sym none) (doing_rows (sym (at_start (each_row e bs (scope_of s) (made_of s)))))
  where
    at_start : (r : Numbered (List Row × Scope)) → after r (λ rs m. Ok ((map row_of [] ++ rs.0, rs.1), m)) ≡ r
    at_start (Ok (r, m)) = refl
    at_start (Err e) = refl

left_of_rows : (bs : List Bind) (i n : ℕ) → n + (i + 1) ≡ length bs → n ≡ length (drop (i + 1) bs)
left_of_rows bs i n is = let d : length (drop (i + 1) bs) ≡ length bs - (i + 1) = length-drop (i + 1) bs in omega (arith, is, d)

rows_from : (e : SourceTerm) (bs : List Bind) (s t : Names) (i n : ℕ) (b : Bind) (done : List LetTree) (q : Numbered (Row × Scope)) → i < length bs → b ≡ get_or bs i b → n + (i + 1) ≡ length bs → led_row e n b t ≡ q → Doing_rows e bs s (drop i bs) done t
    → each_row e bs (scope_of s) (made_of s) ≡ finish done (after q (λ r m. after (each_row e (drop (i + 1) bs) r.1 m) (λ rs m. Ok ((r.0 ∷ rs.0, rs.1), m))))
unfolding each_row finish
rows_from e bs s t i n b done q k is left g (doing_rows so) =
    so
    ∙ ap (λ xs. finish done (each_row e xs (scope_of t) (made_of t))) (from_here bs i b k is)
    ∙ ap (λ r. finish done (after r (λ r m. after (each_row e (drop (i + 1) bs) r.1 m) (λ rs m. Ok ((r.0 ∷ rs.0, rs.1), m))))) (ap (λ n. led_row e n b t) (sym (left_of_rows bs i n left)) ∙ g)

pub rows_next : (e : SourceTerm) (bs : List Bind) (s t u : Names) (i n : ℕ) (b : Bind) (done : List LetTree) (l : LetTree) → i < length bs → b ≡ get_or bs i b → n + (i + 1) ≡ length bs → Entered row_of (led_row e n b t) u (Ok l)
    → Doing_rows e bs s (drop i bs) done t → Doing_rows e bs s (drop (i + 1) bs) (done ++ l ∷ []) u
unfolding after finish
rows_next e bs s t u i n b done l k is left (entered g) d = doing_rows (rows_from e bs s t i n b done _ k is left g d ∙ at_rest (each_row e (drop (i + 1) bs) (scope_of u) (made_of u)))
  where
    at_rest : (r : Numbered (List Row × Scope)) → finish done (after r (λ rs m. Ok ((row_of l ∷ rs.0, rs.1), m))) ≡ after r (λ rs m. Ok ((map row_of (done ++ l ∷ []) ++ rs.0, rs.1), m))
    at_rest (Ok (rs, m)) = λ j. Ok ((sym (ap (λ xs. xs ++ rs.0) (map-append row_of done (l ∷ [])) ∙ append_assoc (map row_of done) (row_of l ∷ []) rs.0) j, rs.1), m)
    at_rest (Err e) = refl

pub rows_stop : {Q : Type 0} {view : Q → List Row} (e : SourceTerm) (bs : List Bind) (s t u : Names) (i n : ℕ) (b : Bind) (done : List LetTree) (x : Stop) → i < length bs → b ≡ get_or bs i b → n + (i + 1) ≡ length bs → Entered row_of (led_row e n b t) u (Err x)
    → Doing_rows e bs s (drop i bs) done t → Entered view (each_row e bs (scope_of s) (made_of s)) u (Err x)
unfolding after finish
rows_stop e bs s t u i n b done _ k is left (not_entered g) d = not_entered (rows_from e bs s t i n b done _ k is left g d)
rows_stop e bs s t u i n b done _ k is left no_memory_entered d = no_memory_entered

pub rows_end : (e : SourceTerm) (bs : List Bind) (s t : Names) (i : ℕ) (done : List LetTree) (w : Unit {0}) → length bs ≤ i → Doing_rows e bs s (drop i bs) done t
    → Entered (λ (u : Unit {0}). map row_of done) (each_row e bs (scope_of s) (made_of s)) t (Ok w)
unfolding each_row after finish
rows_end e bs s t i done w k (doing_rows so) = entered (
    so
    ∙ ap (λ xs. finish done (each_row e xs (scope_of t) (made_of t))) (drop_of_length-le bs k)
    ∙ λ j. Ok ((append-nil (map row_of done) j, scope_of t), made_of t))

-- what a walk over one gave
pub rows_put : (e : SourceTerm) (bs : List Bind) (s t u : Names) (i n : ℕ) (b : Bind) (done more : List LetTree) (r : Result LetTree Stop) (w : Unit {0}) → i < length bs → b ≡ get_or bs i b → n + (i + 1) ≡ length bs → Entered row_of (led_row e n b t) u r → Put (λ l. l) r done more (Ok w)
    → Doing_rows e bs s (drop i bs) done t → Doing_rows e bs s (drop (i + 1) bs) more u
rows_put e bs s t u i n b done more _ w k is left p (put {x = l} so) d = subst (λ ls. Doing_rows e bs s (drop (i + 1) bs) ls u) (sym so) (rows_next e bs s t u i n b done l k is left p d)

pub rows_put_stops : {Q : Type 0} {view : Q → List Row} (e : SourceTerm) (bs : List Bind) (s t u : Names) (i n : ℕ) (b : Bind) (done more : List LetTree) (r : Result LetTree Stop) (x : Stop) → i < length bs → b ≡ get_or bs i b → n + (i + 1) ≡ length bs → Entered row_of (led_row e n b t) u r → Put (λ l. l) r done more (Err x)
    → Doing_rows e bs s (drop i bs) done t → Entered view (each_row e bs (scope_of s) (made_of s)) u (Err x)
rows_put_stops e bs s t u i n b done more _ x k is left p no_item d = rows_stop e bs s t u i n b done x k is left p d
rows_put_stops e bs s t u i n b done more r _ k is left p no_room d = no_memory_entered

-- ---- a row before its body

-- numbers do not depend on places
places : (at to : Place) (xs : List Text) (m : List Text) → number_sizes (labels at xs) m ≡ number_sizes (labels to xs) m
unfolding number_sizes
places at to [] m = refl
places at to (x ∷ xs) m = ap (and_size (next m) x) (places at to xs (with_text m x))

pub sizes_anywhere : (at : Place) (xs : List Text) (sc : Scope) (m : List Text) → Ok (number_sizes (labels at xs) m) ≡ sizes_numbered xs sc m
unfolding sizes_numbered
sizes_anywhere at xs sc m = ap Ok (places at (record { file = 0; line = 0; column = 0 }) xs m)

abbrev row_of_parts : Bound (List BindId) → List (Parameter BindId) → Bool → FlatPattern → Binding Ref BindId
row_of_parts s hs f p = record { sizes = s.0; parameters = hs; is_function = f; pattern = p }

one_row : (b : Bind) (s : Bound (List BindId)) (r : Numbered (Bound FlatPattern)) (N : List Text → Bound (List (Parameter BindId)) × List Text) (v rest : Scope → List Text → Numbered FlatTerm) (sc : Scope)
    → after r (λ p m. after (Ok (N m)) (λ h m. after (v (enter h.1 sc) m) (λ v m. after (rest (enter p.1 (enter s.1 sc)) m) (λ e m. Ok (Let (row_of_parts s h.0 b.is_function p.0) v e, m)))))
    ≡ after (after (after r (λ p m. Ok ((s, p), m))) (λ h m. after (after (Ok (N m)) (λ h m. after (v (enter h.1 sc) m) (λ v m. Ok ((h.0, v), m)))) (λ v m. row_after b sc h v m))) (λ r m. after (rest r.1 m) (λ e m. Ok (Let r.0.0 r.0.1 e, m)))
unfolding after row_after behind
one_row b s (Err e) N v rest sc = refl
one_row b s (Ok (p, m)) N v rest sc = at_value (v (enter (N m).0.1 sc) (N m).1)
  where
    at_value : (r : Numbered FlatTerm) → after r (λ v m'. after (rest (enter p.1 (enter s.1 sc)) m') (λ e k. Ok (Let (row_of_parts s (N m).0.0 b.is_function p.0) v e, k)))
        ≡ after (after (after r (λ v m'. Ok (((N m).0.0, v), m'))) (λ v m. row_after b sc (s, p) v m)) (λ r m. after (rest r.1 m) (λ e m. Ok (Let r.0.0 r.0.1 e, m)))
    at_value (Ok (v, m')) = refl
    at_value (Err e) = refl

row_first_of : (b : Bind) (rest : SourceTerm) (sc : Scope) (m : List Text) → resolve (source.lets (sources.row_of (bind_of b) ∷ []) rest) sc m ≡ led_by (section_name rest) sc (after (row_part b sc m) (λ r m. after (resolve rest r.1 m) (λ e m. Ok (Let r.0.0 r.0.1 e, m))))
unfolding resolve source.lets row_part sized_pattern headed_value heads_numbered source_of after sizes_numbered resolve_pattern enter row_after
row_first_of b rest sc m =
    ap (λ r. resolve (source.lets (r ∷ []) rest) sc m) (sources.row_is (bind_of b))
    ∙ ap (led_by (section_name rest) sc) ((λ i. after (sizes_anywhere (bind_of b).pat.place (names b.sizes.now) sc m i) (λ s m. after (resolve_pattern (source_pattern b.pat.now) (enter s.1 sc) m) (λ p m. after (Ok (number_heads (source_parameters (heads_of b.heads.now)) m)) (λ h m. after (resolve (source_term b.value.now) (enter h.1 sc) m) (λ v m. after (resolve rest (enter p.1 (enter s.1 sc)) m) (λ e m. Ok (Let (row_of_parts s h.0 b.is_function p.0) v e, m)))))))
    ∙ one_row b (number_sizes (labels (record { file = 0; line = 0; column = 0 }) (names b.sizes.now)) m).0 (resolve_pattern (source_pattern b.pat.now) (enter (number_sizes (labels (record { file = 0; line = 0; column = 0 }) (names b.sizes.now)) m).0.1 sc) (number_sizes (labels (record { file = 0; line = 0; column = 0 }) (names b.sizes.now)) m).1) (λ m. number_heads (source_parameters (heads_of b.heads.now)) m) (resolve (source_term b.value.now)) (resolve rest) sc)

at_end : (r : Numbered FlatTerm) → r ≡ after r (λ e m. Ok (e, m))
unfolding after
at_end (Ok (e, m)) = refl
at_end (Err e) = refl

rows_then : SourceTerm → List Row × Scope → List Text → Numbered FlatTerm
rows_then e rs m = after (resolve e rs.1 m) (λ e m. Ok (lets rs.0 e, m))

row_onto : Row × Scope → List Row × Scope → List Text → Numbered (List Row × Scope)
row_onto r rs m = Ok ((r.0 ∷ rs.0, rs.1), m)

let_onto : Row × Scope → FlatTerm → List Text → Numbered FlatTerm
let_onto r e m = Ok (Let r.0.0 r.0.1 e, m)

row_more : (bs : List Bind) (e : SourceTerm) (r : Row × Scope) (m : List Text) → resolve (source.lets (map sources.row_of (binds_of bs)) e) r.1 m ≡ after (each_row e bs r.1 m) (rows_then e)
    → after (resolve (source.lets (map sources.row_of (binds_of bs)) e) r.1 m) (let_onto r) ≡ after (after (each_row e bs r.1 m) (row_onto r)) (rows_then e)
unfolding after lets rows_then row_onto let_onto
row_more bs e r m ih =
    ap (λ q. after q (let_onto r)) ih
    ∙ after_assoc (each_row e bs r.1 m) (rows_then e) (let_onto r)
    ∙ (λ i. after (each_row e bs r.1 m) (λ rs m. after_assoc (resolve e rs.1 m) (λ e m. Ok (lets rs.0 e, m)) (let_onto r) i))
    ∙ sym (after_assoc (each_row e bs r.1 m) (row_onto r) (rows_then e))

pub lets_each : (bs : List Bind) (e : SourceTerm) (sc : Scope) (m : List Text) → resolve (source.lets (map sources.row_of (binds_of bs)) e) sc m ≡ after (each_row e bs sc m) (λ rs m. after (resolve e rs.1 m) (λ e m. Ok (lets rs.0 e, m)))
unfolding each_row after lets source.lets rows_then row_onto let_onto
lets_each [] e sc m = at_end (resolve e sc m)
lets_each (b ∷ bs) e sc m =
    row_first_of b (source.lets (map sources.row_of (binds_of bs)) e) sc m
    ∙ (λ i. led_by (name_of_lets bs e i) sc (after (row_part b sc m) (λ r m. row_more bs e r m (lets_each bs e r.1 m) i)))
    ∙ ap (led_by (name_before (length bs) e) sc) (sym (after_assoc (row_part b sc m) (λ r m. after (each_row e bs r.1 m) (row_onto r)) (rows_then e)))
    ∙ led_then (name_before (length bs) e) sc (after (row_part b sc m) (λ r m. after (each_row e bs r.1 m) (row_onto r))) (rows_then e)
    ∙ ap (λ q. after q (rows_then e)) (led_then (name_before (length bs) e) sc (row_part b sc m) (λ r m. after (each_row e bs r.1 m) (row_onto r)))

pub behind_above : (h : Headed) (sc : Scope) → Above sc (behind h sc)
unfolding behind
behind_above h sc = above_all (enter_above h.0.1 sc) (enter_above h.1.1 (enter h.0.1 sc))

row_rises : (b : Bind) (sc : Scope) (m : List Text) → Rises sc (row_part b sc m)
unfolding row_part
row_rises b sc m = rises_behind _ _ (λ h m. rises_behind _ _ (λ v m. rises (behind_above h sc)))

rows_rise : (e : SourceTerm) (bs : List Bind) (sc : Scope) (m : List Text) → Rises sc (each_row e bs sc m)
unfolding each_row
rows_rise e [] sc m = rises (same_scope sc)
rows_rise e (b ∷ bs) sc m = rises_then (λ r m. after (each_row e bs r.1 m) (λ rs m. Ok ((r.0 ∷ rs.0, rs.1), m))) (led_rises (name_before (length bs) e) (row_rises b sc m)) (λ r t m up. higher (λ (rs : List Row). r ∷ rs) up (rows_rise e bs t m))

pub lets_went : (bs : List Bind) (e : SourceTerm) (s s1 s2 u : Names) (h : ℕ) (a : Result (Bor (List LetTree)) Stop) (b : Result (Bor Flat) Stop) (d : Result (Bor Flat) Stop)
    → Entered (λ (ls : Bor (List LetTree)). map row_of ls.now) (each_row e bs (scope_of s) (made_of s)) s1 a → Went held_term (resolve e) s1 s2 b → h ≡ length (scope_of s) → scope_of u ≡ outside h (scope_of s2) → made_of u ≡ made_of s2
    → Built2 (λ (ls : Bor (List LetTree)) e x. held_term x ≡ lets (map row_of ls.now) (held_term e)) a b d → Went held_term (resolve (source.lets (map sources.row_of (binds_of bs)) e)) s u d
lets_went bs e s s1 s2 u h a b d rows w hs out mk q = by_same (lets_each bs e) (scoped (each_row e bs) (resolve e) lets s s1 s2 u h a b d hs (rows_rise e bs (scope_of s) (made_of s)) rows w out mk q)
