-- Expressions that are no visits of their own.
use Rattle.std.proofs.Common.{◌≡◌, ◌<◌, ℕ, List, [], ◌∷◌, map, length, get_or, Bool, true, false, refl, sym, ap, ◌∙◌, subst, arith, Result}
use Rattle.std.specs.Borrow.{Bor}
use Rattle.fut_scalar.specs.declared.place.Place.{Place}
use Rattle.fut_flat.specs.declared.act.Act.{Act}
use Rattle.fut_flat.specs.declared.act.Act.TheVariants as act
use Rattle.fut_flat.specs.declared.exp.Exp.{Exp}
use Rattle.fut_flat.specs.declared.exp.Form.TheVariants as form
use Rattle.fut_flat.specs.declared.exp.Form.{out-Form, Form-F}
use Rattle.fut_flat.specs.declared.exp.Let.{Let}
use Rattle.fut_flat.specs.Erased.{FlatTerm, operation_of, term_of, terms, lets}
use Rattle.fut_flat.specs.Terms.{Strict, Declared, no_term, term_and}
use Rattle.fut_flat.proofs.ErasedForms.{Layer, row_of, term_strict, term_lets}
use Rattle.fut_meaning.specs.Knowns.{Scope}
use Rattle.fut_meaning.specs.Walk.{is_visit, Visits, v_declared}
use Rattle.fut_meaning.specs.Comes.{comes_in_declared}
use Rattle.unfold_measure.specs.Plain.{is_declared, Peels, bare, declared, Plain}
use Rattle.unfold_measure.specs.declared.stop.Stop.{Stop}
use Rattle.unfold_measure.specs.declared.walked.Walked.{Walked}
use Rattle.unfold_measure.specs.Answers.{Stopped, over, deep, astray, no_memory, Walked_to, walked, stopped}

pub peel_declared : (e : Exp) (a : Act) (mark : Place) (es : Bor (List Exp)) (d : Exp) (t : FlatTerm) → e.form ≡ form.Strict a mark es → is_declared a ≡ true → length es.now ≡ 1 → Peels (term_of (get_or es.now 0 d)) t → Peels (term_of e) t
unfolding terms
peel_declared e a mark es d t is h one p = subst (λ z. Peels z t) (sym (term_strict e a mark es is)) (inner a h es.now one p)
  where
    inner : (a : Act) → is_declared a ≡ true → (xs : List Exp) → length xs ≡ 1 → Peels (term_of (get_or xs 0 d)) t → Peels (Strict (operation_of a) mark (terms (map term_of xs))) t
    inner (act.Declared u) h [] one p = absurd (omega (arith, one))
    inner (act.Declared u) h (x ∷ []) one p = declared p
    inner (act.Declared u) h (x ∷ y ∷ xs) one p = absurd (omega (arith, one))
    inner (act.Int n u) h xs one p = absurd (let z : false ≡ true = h in cc)
    inner (act.Truth b) h xs one p = absurd (let z : false ≡ true = h in cc)
    inner act.Tuple h xs one p = absurd (let z : false ≡ true = h in cc)
    inner (act.Record fs) h xs one p = absurd (let z : false ≡ true = h in cc)
    inner act.Array h xs one p = absurd (let z : false ≡ true = h in cc)
    inner (act.Binary op) h xs one p = absurd (let z : false ≡ true = h in cc)
    inner act.Negate h xs one p = absurd (let z : false ≡ true = h in cc)
    inner act.Complement h xs one p = absurd (let z : false ≡ true = h in cc)
    inner (act.Index ps) h xs one p = absurd (let z : false ≡ true = h in cc)
    inner (act.Project f) h xs one p = absurd (let z : false ≡ true = h in cc)
    inner act.Update h xs one p = absurd (let z : false ≡ true = h in cc)
    inner (act.Replace f) h xs one p = absurd (let z : false ≡ true = h in cc)
    inner (act.Ascribe u) h xs one p = absurd (let z : false ≡ true = h in cc)
    inner (act.Coerce u) h xs one p = absurd (let z : false ≡ true = h in cc)
    inner act.Assert h xs one p = absurd (let z : false ≡ true = h in cc)
    inner (act.Range s e) h xs one p = absurd (let z : false ≡ true = h in cc)

pub peel_lets : (e : Exp) (ls : Bor (List Let)) (b : Bor Exp) (t : FlatTerm) → e.form ≡ form.Lets ls b → length ls.now ≡ 0 → Peels (term_of b.now) t → Peels (term_of e) t
unfolding lets
peel_lets e ls b t is n p = subst (λ z. Peels z t) (sym (term_lets e ls b is ∙ ap (λ z. lets (map row_of z) (term_of b.now)) (nothing ls.now n))) p
  where
    nothing : (xs : List Let) → length xs ≡ 0 → xs ≡ []
    nothing [] n = refl
    nothing (x ∷ xs) n = absurd (omega (arith, n))

is_counted : (a : Act) (xs : List Exp) → (is_declared a ≡ true → length xs ≡ 1 → ⊥) → is_visit (operation_of a) (terms (map term_of xs)) ≡ true
unfolding terms
is_counted (act.Declared u) [] h = refl
is_counted (act.Declared u) (x ∷ []) h = absurd (h refl refl)
is_counted (act.Declared u) (x ∷ y ∷ xs) h = refl
is_counted (act.Int n u) xs h = refl
is_counted (act.Truth b) xs h = refl
is_counted act.Tuple xs h = refl
is_counted (act.Record fs) xs h = refl
is_counted act.Array xs h = refl
is_counted (act.Binary op) xs h = refl
is_counted act.Negate xs h = refl
is_counted act.Complement xs h = refl
is_counted (act.Index ps) xs h = refl
is_counted (act.Project f) xs h = refl
is_counted act.Update xs h = refl
is_counted (act.Replace f) xs h = refl
is_counted (act.Ascribe u) xs h = refl
is_counted (act.Coerce u) xs h = refl
is_counted act.Assert xs h = refl
is_counted (act.Range s e) xs h = refl

-- whether a form that is an operation is a visit
abbrev counted_layer : Layer → Bool
counted_layer (Form-F.Use r k) = true
counted_layer (Form-F.Strict a mark es) = is_visit (operation_of a) (terms (map term_of es.now))
counted_layer (Form-F.Lambda ps e) = true
counted_layer (Form-F.Apply f e) = true
counted_layer (Form-F.Lets ls e) = true
counted_layer (Form-F.If c a b) = true
counted_layer (Form-F.Loop l) = true

pub plain_strict : (e : Exp) (a : Act) (mark : Place) (es : Bor (List Exp)) → e.form ≡ form.Strict a mark es → (is_declared a ≡ true → length es.now ≡ 1 → ⊥) → Plain e
plain_strict e a mark es is h = record { strict = strict; row = row }
  where
    strict : (a' : Act) (mark' : Place) (es' : Bor (List Exp)) → e.form ≡ form.Strict a' mark' es' → is_visit (operation_of a') (terms (map term_of es'.now)) ≡ true
    strict a' mark' es' is' = ap counted_layer (sym (form.outs-Strict a' mark' es') ∙ ap out-Form (sym is' ∙ is) ∙ form.outs-Strict a mark es) ∙ is_counted a es.now h

    row : (ls : Bor (List Let)) (b : Bor Exp) → e.form ≡ form.Lets ls b → 0 < length ls.now
    row ls b is' = absurd (let z : Form-F.Strict a mark es ≡ Form-F.Lets ls b = sym (form.outs-Strict a mark es) ∙ ap out-Form (sym is ∙ is') ∙ form.outs-Lets ls b in cc)

-- the lets of a form that has some
abbrev lets_of : Layer → List Let
lets_of (Form-F.Lets ls b) = ls.now
lets_of (Form-F.Use r k) = []
lets_of (Form-F.Strict a mark es) = []
lets_of (Form-F.Lambda ps e) = []
lets_of (Form-F.Apply f e) = []
lets_of (Form-F.If c a b) = []
lets_of (Form-F.Loop l) = []

pub plain_lets : (e : Exp) (ls : Bor (List Let)) (b : Bor Exp) → e.form ≡ form.Lets ls b → (length ls.now ≡ 0 → ⊥) → Plain e
unfolding lets
plain_lets e ls b is h = record { strict = strict; row = row }
  where
    strict : (a : Act) (mark : Place) (es : Bor (List Exp)) → e.form ≡ form.Strict a mark es → is_visit (operation_of a) (terms (map term_of es.now)) ≡ true
    strict a mark es is' = absurd (let z : Form-F.Strict a mark es ≡ Form-F.Lets ls b = sym (form.outs-Strict a mark es) ∙ ap out-Form (sym is' ∙ is) ∙ form.outs-Lets ls b in cc)

    row : (ls' : Bor (List Let)) (b' : Bor Exp) → e.form ≡ form.Lets ls' b' → 0 < length ls'.now
    row ls' b' is' = some ls'.now (λ n. h (ap (length {A = Let}) (same ls' b' is') ∙ n))
      where
        same : (ls' : Bor (List Let)) (b' : Bor Exp) → e.form ≡ form.Lets ls' b' → ls.now ≡ ls'.now
        same ls' b' is' = ap lets_of (sym (form.outs-Lets ls b) ∙ ap out-Form (sym is ∙ is') ∙ form.outs-Lets ls' b')

        some : (xs : List Let) → (length xs ≡ 0 → ⊥) → 0 < length xs
        some [] h = absurd (h refl)
        some (x ∷ xs) h = omega arith

pub plain_other : (e : Exp) → ((a : Act) (mark : Place) (es : Bor (List Exp)) → e.form ≡ form.Strict a mark es → ⊥) → ((ls : Bor (List Let)) (b : Bor Exp) → e.form ≡ form.Lets ls b → ⊥) → Plain e
plain_other e h h' = record { strict = λ a mark es is. absurd (h a mark es is); row = λ ls b is. absurd (h' ls b is) }

-- what is peeled stops where its inside stops, and is walked as its inside is
stops_too : {tops sc : Scope} {level spent : ℕ} {e t : FlatTerm} {r : Stop} → Peels e t → Stopped tops sc level spent t r → Stopped tops sc level spent e r
stops_too bare s = s
stops_too (declared p) s = around (stops_too p s)
  where
    around : {tops sc : Scope} {level spent : ℕ} {u : Rattle.fut_flat.specs.Erased.FlatType} {mark : Place} {e : FlatTerm} {r : Stop} → Stopped tops sc level spent e r → Stopped tops sc level spent (Strict (Declared u) mark (term_and e no_term)) r
    around (over c le) = over (comes_in_declared c) le
    around (deep c le) = deep (comes_in_declared c) le
    around (astray c l) = astray (comes_in_declared c) l
    around no_memory = no_memory

visits_too : {tops sc : Scope} {e t : FlatTerm} {s : Rattle.fut_meaning.specs.Knowns.Known} {m d : ℕ} → Peels e t → Visits tops sc t s m d → Visits tops sc e s m d
visits_too bare v = v
visits_too (declared p) v = v_declared (visits_too p v)

pub peeled_walk : {tops sc : Scope} {level spent : ℕ} {e t : FlatTerm} {r : Result Walked Stop} → Peels e t → Walked_to tops sc level spent t r → Walked_to tops sc level spent e r
peeled_walk p (walked v) = walked (visits_too p v)
peeled_walk p (stopped s) = stopped (stops_too p s)

pub is_not : {b a : Bool} → b ≡ a → b ≡ true → a ≡ true
is_not e h = sym e ∙ h
