-- Parts and rows of lets, one after the other.
use Rattle.std.proofs.Common.{◌≡◌, ℕ, ◌+◌, ◌<◌, ◌≤◌, ◌++◌, List, [], ◌∷◌, map, length, get_or, drop, Ok, Err, refl, sym, ap, ◌∙◌, subst, arith, append_assoc, append-nil}
use mathlib.Core.List.{map-append}
use Rattle.std.specs.Prelude.{Result}
use Rattle.std.specs.Borrow.{Bor}
use Rattle.fut_flat.specs.declared.exp.Exp.{Exp}
use Rattle.fut_flat.specs.declared.exp.Form.TheVariants as form
use Rattle.fut_flat.specs.declared.exp.Let.{Let as LetTree}
use Rattle.fut_flat.specs.Erased.{FlatTerm, Row, lets, parameters, pattern_of, term_of, terms}
use Rattle.fut_flat.specs.Numbers.{all_numbers, pattern_numbers}
use Rattle.fut_flat.specs.Terms.{Let}
use Rattle.fut_flat.proofs.ErasedForms.{row_of, row_is, term_lets}
use Rattle.flat_numbers.proofs.PatternNumbers.{drop_end, one_more}
use Rattle.unfold.specs.Held.{known_of, scope_of}
use Rattle.unfold.specs.Knowns.{Known, Scope}
use Rattle.unfold.specs.Stuck.{no_pattern_of, stuck_behind, stuck_here, stuck_later, stuck_value}
use Rattle.unfold.specs.Unfolding.{Bindings, u_let, u_more, u_none}
use Rattle.unfold.specs.declared.known.Known.{Known as Held_known}
use Rattle.unfold.specs.declared.known.Scope.{Scope as Held_scope}
use Rattle.unfold_parts.specs.Answers.{answered, unanswered, Bound_to}
use Rattle.unfold_parts.specs.States.{steps_of}
use Rattle.unfold_parts.proofs.Refusing.{refused_as}
use Rattle.unfold_parts.specs.declared.refusal.Refusal.{Refusal}
use Rattle.unfold_parts.specs.declared.steps.Unfolding.{Unfolding}
use Rattle.unfold_program.specs.declared.walked.Context.{Context}
use Rattle.unfold_program.specs.declared.walked.Row.{Row as Held_row}
use Rattle.unfold_program.specs.declared.walked.Walked.{Walked}
use Rattle.unfold_program.specs.Answers.{Unfolded, unfolded, refused, All_unfolded, all_unfolded, all_refused, Leads, Row_unfolded, row_unfolded, row_refused, defined, told}
use Rattle.unfold_program.proofs.Growing.{grown, not_grown, moved, stuck_at}
use Rattle.fut_meaning.specs.Found.{Told}
use Rattle.unfold.specs.Unfolding as rules
use Rattle.unfold_parts.specs.Told.{Tell, Stuck, Stuck_all, Unfold_all, Unfolds}

-- ---- parts

-- what all parts unfold to, once the rest is, or that there is no way on in the rest
pub data Parts_lead (c : Context) (sc : Scope) (lo : ℕ) (es : List Exp) (old now : Unfolding) (done : List Held_known) (at i : ℕ) : Type 0 where
  parts_lead : (bs : Bindings) → steps_of now ≡ steps_of old ++ bs → ((cs : Bindings) (ss : List Known) (m : ℕ) → Unfold_all (told c) (defined c) sc at (terms (map term_of (drop i es))) now.next cs ss m → Unfold_all (told c) (defined c) sc lo (terms (map term_of es)) old.next (bs ++ cs) (map known_of done ++ ss) m) → (Stuck_all (told c) (defined c) sc at (terms (map term_of (drop i es))) → Stuck_all (told c) (defined c) sc lo (terms (map term_of es))) → at + all_numbers (terms (map term_of (drop i es))) ≡ lo + all_numbers (terms (map term_of es)) → Parts_lead c sc lo es old now done at i

module _ (c : Context) (sc : Scope) (lo : ℕ) (es : List Exp) (old : Unfolding) where
  pub parts_start : (done : List Held_known) → done ≡ [] → Parts_lead c sc lo es old old done lo 0
  parts_start done e = subst (λ z. Parts_lead c sc lo es old old z lo 0) (sym e) (parts_lead [] (not_grown (steps_of old) (steps_of old) refl) (λ cs ss m u. u) (λ w. w) refl)

  pub parts_more : (now new : Unfolding) (done done' : List Held_known) (at i : ℕ) (d : Exp) (r : Walked) → i < length es → Parts_lead c sc lo es old now done at i → Unfolded c sc at (term_of (get_or es i d)) now new (Ok r) → done' ≡ done ++ r.known ∷ [] → Parts_lead c sc lo es old new done' r.at (i + 1)
  unfolding terms
  parts_more now new done done' at i d r lt (parts_lead bs g f k h) (unfolded cs g' u h') e =
      parts_lead (bs ++ cs) (grown (steps_of old) (steps_of now) (steps_of new) bs cs g g')
      (λ ds ss m v. subst (λ z. Unfold_all (told c) (defined c) sc lo (terms (map term_of es)) old.next z (map known_of done' ++ ss) m) (sym (append_assoc bs cs ds)) (subst (λ z. Unfold_all (told c) (defined c) sc lo (terms (map term_of es)) old.next (bs ++ (cs ++ ds)) z m) (list ss) (f (cs ++ ds) (known_of r.known ∷ ss) m (subst (λ z. Unfold_all (told c) (defined c) sc at (terms (map term_of z)) now.next (cs ++ ds) (known_of r.known ∷ ss) m) (sym (one_more es i d lt)) (λ td tl. u_more (u td tl) ((subst (λ z. Unfold_all (told c) (defined c) sc z (terms (map term_of (drop (i + 1) es))) new.next ds ss m) h' v) td tl))))))
      (λ w. k (subst (λ z. Stuck_all (told c) (defined c) sc at (terms (map term_of z))) (sym (one_more es i d lt)) (λ td tl. stuck_later (u td tl) ((subst (λ z. Stuck_all (told c) (defined c) sc z (terms (map term_of (drop (i + 1) es)))) h' w) td tl))))
      (omega (arith, h, h', ap (λ z. all_numbers (terms (map term_of z))) (one_more es i d lt)))
    where
      list : (ss : List Known) → map known_of done ++ known_of r.known ∷ ss ≡ map known_of done' ++ ss
      list ss = sym (append_assoc (map known_of done) (known_of r.known ∷ []) ss) ∙ sym (ap (λ z. z ++ ss) (ap (map known_of) e ∙ map-append known_of done (r.known ∷ [])))

  pub parts_done : (now : Unfolding) (done : List Held_known) (at i : ℕ) (all : Bor (List Held_known)) → length es ≤ i → Parts_lead c sc lo es old now done at i → all.now ≡ done → All_unfolded c sc lo (terms (map term_of es)) old now (Ok (record { knowns = all; at = at }))
  unfolding terms
  parts_done now done at i all le (parts_lead bs g f k h) e =
      all_unfolded bs g
      (subst (λ z. Unfold_all (told c) (defined c) sc lo (terms (map term_of es)) old.next z (map known_of all.now) now.next) (append-nil bs) (subst (λ z. Unfold_all (told c) (defined c) sc lo (terms (map term_of es)) old.next (bs ++ []) z now.next) (append-nil (map known_of done) ∙ ap (map known_of) (sym e)) (f [] [] now.next (subst (λ z. Unfold_all (told c) (defined c) sc at (terms (map term_of z)) now.next [] [] now.next) (sym (drop_end i es le)) (λ td tl. u_none)))))
      (omega (arith, h, ap (λ z. all_numbers (terms (map term_of z))) (drop_end i es le)))

  pub parts_err : (now new : Unfolding) (done : List Held_known) (at i : ℕ) (d : Exp) (r : Refusal) → i < length es → Parts_lead c sc lo es old now done at i → Unfolded c sc at (term_of (get_or es i d)) now new (Err r) → All_unfolded c sc lo (terms (map term_of es)) old new (Err r)
  unfolding terms
  parts_err now new done at i d r lt (parts_lead bs g f k h) (refused x) = all_refused (refused_as (λ w. k (subst (λ z. Stuck_all (told c) (defined c) sc at (terms (map term_of z))) (sym (one_more es i d lt)) (λ td tl. stuck_here (w td tl)))) x)

-- ---- lets

module _ {c : Context} {sc : Scope} {lo : ℕ} {e : FlatTerm} {n : ℕ} where
  pub leads_start : Leads c sc lo e n [] sc lo e n
  leads_start = record { unfolds = λ cs s m u. u; stuck = λ w. w; behind = refl }

  pub leads_on : {sc1 sc2 : Scope} {lo1 lo2 n1 n2 : ℕ} {e1 e2 : FlatTerm} {bs cs : Bindings} → Leads c sc lo e n bs sc1 lo1 e1 n1 → Leads c sc1 lo1 e1 n1 cs sc2 lo2 e2 n2 → Leads c sc lo e n (bs ++ cs) sc2 lo2 e2 n2
  leads_on {bs = bs} {cs} a b = record {
    unfolds = λ ds s m u. subst (λ z. Unfolds (told c) (defined c) sc lo e n z s m) (sym (append_assoc bs cs ds)) (a.unfolds (cs ++ ds) s m (b.unfolds ds s m u));
    stuck = λ w. a.stuck (b.stuck w);
    behind = b.behind ∙ a.behind;
  }

module _ (c : Context) (row : Held_row) (l : LetTree) (old new : Unfolding) where
  pub let_ok : (first value : ℕ) (mid : Unfolding) (r : Walked) (inner : Held_scope) → first ≡ row.at + 1 → value ≡ first + pattern_numbers (pattern_of l.pat) → Unfolded c (scope_of row.scope) value (term_of l.value) old mid (Ok r) → Bound_to (told c).sizes first (pattern_of l.pat) (known_of r.known) (scope_of row.scope) mid.next (steps_of mid) (steps_of new) new.next (Ok inner) → Row_unfolded c row (row_of l ∷ []) old new (Ok (record { scope = inner; at = r.at }))
  unfolding lets
  let_ok first value mid r inner q q' (unfolded bs g u h) (answered es k b) = row_unfolded (bs ++ es) (grown (steps_of old) (steps_of mid) (steps_of new) bs es g k) (λ body. subst (λ (z : Row). Leads c (scope_of row.scope) row.at (Let z.0 z.1 body) old.next (bs ++ es) (scope_of inner) r.at body new.next) (sym (row_is l)) (one body))
    where
      this : FlatTerm → FlatTerm
      this body = Let (record { sizes = l.sizes.now; parameters = parameters l.heads.now; is_function = l.is_function; pattern = pattern_of l.pat }) (term_of l.value) body

      bind_at : (td : Told) → Tell (told c) td → rules.Binds td.sizes (1 + row.at) (pattern_of l.pat) (known_of r.known) (scope_of row.scope) mid.next es (scope_of inner) new.next
      bind_at td tl = subst (λ z. rules.Binds td.sizes z (pattern_of l.pat) (known_of r.known) (scope_of row.scope) mid.next es (scope_of inner) new.next) (let e : first ≡ 1 + row.at = omega (arith, q) in e) (b td.sizes tl.sizes)

      one : (body : FlatTerm) → Leads c (scope_of row.scope) row.at (this body) old.next (bs ++ es) (scope_of inner) r.at body new.next
      one body = record {
        unfolds = λ cs s m v. subst (λ z. Unfolds (told c) (defined c) (scope_of row.scope) row.at (this body) old.next z s m) (sym (append_assoc bs es cs)) (λ td tl. u_let ((moved c (omega (arith, q, q')) u) td tl) (bind_at td tl) ((moved c (omega (arith, q, q', h)) v) td tl));
        stuck = λ w td tl. stuck_behind ((moved c (omega (arith, q, q')) u) td tl) (mid.next, es, new.next, bind_at td tl) ((stuck_at c (omega (arith, q, q', h)) w) td tl);
        behind = omega (arith, q, q', h);
      }

  -- one let that is stuck is so whatever stands behind it
  one_stuck : ((body : FlatTerm) → Stuck (told c) (defined c) (scope_of row.scope) row.at (Let (record { sizes = l.sizes.now; parameters = parameters l.heads.now; is_function = l.is_function; pattern = pattern_of l.pat }) (term_of l.value) body)) → (body : FlatTerm) → Stuck (told c) (defined c) (scope_of row.scope) row.at (lets (row_of l ∷ []) body)
  unfolding lets
  one_stuck f body = subst (λ (z : Row). Stuck (told c) (defined c) (scope_of row.scope) row.at (Let z.0 z.1 body)) (sym (row_is l)) (f body)

  pub let_value_err : (first value : ℕ) (r : Refusal) → first ≡ row.at + 1 → value ≡ first + pattern_numbers (pattern_of l.pat) → Unfolded c (scope_of row.scope) value (term_of l.value) old new (Err r) → Row_unfolded c row (row_of l ∷ []) old new (Err r)
  let_value_err first value r q q' (refused x) = row_refused (refused_as (λ w. one_stuck (λ body td tl. stuck_value ((stuck_at c (omega (arith, q, q')) w) td tl))) x)

  pub let_err : (first value : ℕ) (mid : Unfolding) (v : Walked) (r : Refusal) → first ≡ row.at + 1 → value ≡ first + pattern_numbers (pattern_of l.pat) → Unfolded c (scope_of row.scope) value (term_of l.value) old mid (Ok v) → Bound_to (told c).sizes first (pattern_of l.pat) (known_of v.known) (scope_of row.scope) mid.next (steps_of mid) (steps_of new) new.next (Err r) → Row_unfolded c row (row_of l ∷ []) old new (Err r)
  let_err first value mid v r q q' (unfolded bs g u h) (unanswered x) = row_refused (refused_as (λ lacks. one_stuck (λ body td tl. no_pattern_of ((moved c (omega (arith, q, q')) u) td tl) lacks)) x)

-- how far a row has come, whatever stands behind it
pub data Row_leads (c : Context) (row : Held_row) (ls : List LetTree) (old now : Unfolding) (at : Held_row) (i : ℕ) : Type 0 where
  row_leads : (bs : Bindings) → steps_of now ≡ steps_of old ++ bs → ((body : FlatTerm) → Leads c (scope_of row.scope) row.at (lets (map row_of ls) body) old.next bs (scope_of at.scope) at.at (lets (map row_of (drop i ls)) body) now.next) → Row_leads c row ls old now at i

module _ (c : Context) (row : Held_row) (ls : List LetTree) (old : Unfolding) where
  pub row_start : Row_leads c row ls old old row 0
  row_start = row_leads [] (not_grown (steps_of old) (steps_of old) refl) (λ body. leads_start)

  pub row_more : (now new : Unfolding) (at at' : Held_row) (i : ℕ) (d : LetTree) → i < length ls → Row_leads c row ls old now at i → Row_unfolded c at (row_of (get_or ls i d) ∷ []) now new (Ok at') → Row_leads c row ls old new at' (i + 1)
  unfolding lets
  row_more now new at at' i d lt (row_leads bs g f) (row_unfolded cs g' k) =
      row_leads (bs ++ cs) (grown (steps_of old) (steps_of now) (steps_of new) bs cs g g')
      (λ body. leads_on (subst (λ z. Leads c (scope_of row.scope) row.at (lets (map row_of ls) body) old.next bs (scope_of at.scope) at.at (lets (map row_of z) body) now.next) (one_more ls i d lt) (f body)) (k (lets (map row_of (drop (i + 1) ls)) body)))

  pub row_done : (now : Unfolding) (at : Held_row) (i : ℕ) → length ls ≤ i → Row_leads c row ls old now at i → Row_unfolded c row (map row_of ls) old now (Ok at)
  unfolding lets
  row_done now at i le (row_leads bs g f) = row_unfolded bs g (λ body. subst (λ z. Leads c (scope_of row.scope) row.at (lets (map row_of ls) body) old.next bs (scope_of at.scope) at.at (lets (map row_of z) body) now.next) (drop_end i ls le) (f body))

  pub row_err : (now new : Unfolding) (at : Held_row) (i : ℕ) (d : LetTree) (r : Refusal) → i < length ls → Row_leads c row ls old now at i → Row_unfolded c at (row_of (get_or ls i d) ∷ []) now new (Err r) → Row_unfolded c row (map row_of ls) old new (Err r)
  unfolding lets
  row_err now new at i d r lt (row_leads bs g f) (row_refused x) = row_refused (refused_as (λ w body. (f body).stuck (subst (λ z. Stuck (told c) (defined c) (scope_of at.scope) at.at (lets (map row_of z) body)) (sym (one_more ls i d lt)) (w (lets (map row_of (drop (i + 1) ls)) body)))) x)

  -- the next let
  module _ (now new : Unfolding) (at : Held_row) (i : ℕ) (d : LetTree) (inside value : ℕ) (lt : i < length ls) (before : Row_leads c row ls old now at i) (q : inside ≡ at.at + 1) (q' : value ≡ inside + pattern_numbers (pattern_of (get_or ls i d).pat)) where
    pub row_next : (mid : Unfolding) (r : Walked) (inner : Held_scope) → Unfolded c (scope_of at.scope) value (term_of (get_or ls i d).value) now mid (Ok r) → Bound_to (told c).sizes inside (pattern_of (get_or ls i d).pat) (known_of r.known) (scope_of at.scope) mid.next (steps_of mid) (steps_of new) new.next (Ok inner) → Row_leads c row ls old new (record { scope = inner; at = r.at }) (i + 1)
    row_next mid r inner u b = row_more now new at (record { scope = inner; at = r.at }) i d lt before (let_ok c at (get_or ls i d) now new inside value mid r inner q q' u b)

    pub row_value_err : (r : Refusal) → Unfolded c (scope_of at.scope) value (term_of (get_or ls i d).value) now new (Err r) → Row_unfolded c row (map row_of ls) old new (Err r)
    row_value_err r u = row_err now new at i d r lt before (let_value_err c at (get_or ls i d) now new inside value r q q' u)

    pub row_bind_err : (mid : Unfolding) (v : Walked) (r : Refusal) → Unfolded c (scope_of at.scope) value (term_of (get_or ls i d).value) now mid (Ok v) → Bound_to (told c).sizes inside (pattern_of (get_or ls i d).pat) (known_of v.known) (scope_of at.scope) mid.next (steps_of mid) (steps_of new) new.next (Err r) → Row_unfolded c row (map row_of ls) old new (Err r)
    row_bind_err mid v r u b = row_err now new at i d r lt before (let_err c at (get_or ls i d) now new inside value mid v r q q' u b)

-- how far rows behind each other have come
pub data Lets_lead (c : Context) (sc : Scope) (lo : ℕ) (e : FlatTerm) (old now : Unfolding) (row : Held_row) (rest : Exp) : Type 0 where
  lets_lead : (bs : Bindings) → steps_of now ≡ steps_of old ++ bs → Leads c sc lo e old.next bs (scope_of row.scope) row.at (term_of rest) now.next → Lets_lead c sc lo e old now row rest

module _ (c : Context) (lo : ℕ) (old : Unfolding) where
  pub lets_start : (sc : Held_scope) (e : Exp) → Lets_lead c (scope_of sc) lo (term_of e) old old (record { scope = sc; at = lo }) e
  lets_start sc e = lets_lead [] (not_grown (steps_of old) (steps_of old) refl) leads_start

  module _ (sc : Scope) (e : FlatTerm) where
    pub lets_more : (now new : Unfolding) (row row' : Held_row) (rest : Exp) (ls : Bor (List LetTree)) (b : Bor Exp) → Lets_lead c sc lo e old now row rest → rest.form ≡ form.Lets ls b → Row_unfolded c row (map row_of ls.now) now new (Ok row') → Lets_lead c sc lo e old new row' b.now
    lets_more now new row row' rest ls b (lets_lead bs g a) is (row_unfolded cs g' k) =
        lets_lead (bs ++ cs) (grown (steps_of old) (steps_of now) (steps_of new) bs cs g g') (leads_on (subst (λ z. Leads c sc lo e old.next bs (scope_of row.scope) row.at z now.next) (term_lets rest ls b is) a) (k (term_of b.now)))

    pub lets_done : (now new : Unfolding) (row : Held_row) (rest : Exp) (r : Result Walked Refusal) → Lets_lead c sc lo e old now row rest → Unfolded c (scope_of row.scope) row.at (term_of rest) now new r → Unfolded c sc lo e old new r
    lets_done now new row rest _ (lets_lead bs g a) (unfolded {r = r} cs g' u h) = unfolded (bs ++ cs) (grown (steps_of old) (steps_of now) (steps_of new) bs cs g g') (a.unfolds cs (known_of r.known) new.next u) (omega (arith, h, a.behind))
    lets_done now new row rest _ (lets_lead bs g a) (refused x) = refused (refused_as a.stuck x)

    pub lets_err : (now new : Unfolding) (row : Held_row) (rest : Exp) (ls : Bor (List LetTree)) (b : Bor Exp) (r : Refusal) → Lets_lead c sc lo e old now row rest → rest.form ≡ form.Lets ls b → Row_unfolded c row (map row_of ls.now) now new (Err r) → Unfolded c sc lo e old new (Err r)
    lets_err now new row rest ls b r (lets_lead bs g a) is (row_refused x) = refused (refused_as (λ w. a.stuck (subst (Stuck (told c) (defined c) (scope_of row.scope) row.at) (sym (term_lets rest ls b is)) (w (term_of b.now)))) x)
