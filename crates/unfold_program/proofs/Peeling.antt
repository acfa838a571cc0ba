-- Terms without the declared types around them.
use Rattle.std.proofs.Common.{◌≡◌, ℕ, ◌+◌, ◌++◌, List, [], ◌∷◌, map, length, get_or, true, false, Ok, Err, refl, sym, ap, ◌∙◌, subst, arith, append-nil}
use Rattle.std.specs.Prelude.{Result}
use Rattle.std.specs.Borrow.{Bor}
use Rattle.fut_scalar.specs.declared.place.Place.{Place}
use Rattle.fut_flat.specs.declared.act.Act.{Act}
use Rattle.fut_flat.specs.declared.act.Act.TheVariants as act
use Rattle.fut_flat.specs.declared.exp.Exp.{Exp}
use Rattle.fut_flat.specs.declared.exp.Form.TheVariants as form
use Rattle.fut_flat.specs.declared.exp.Let.{Let}
use Rattle.fut_flat.specs.Erased.{FlatTerm, FlatType, operation_of, term_of, terms, lets, type_of}
use Rattle.fut_flat.specs.Terms.{Strict, Declared, no_term, term_and}
use Rattle.fut_flat.proofs.ErasedForms.{row_of, term_strict, term_lets}
use Rattle.unfold.specs.Held.{known_of}
use Rattle.unfold.specs.Knowns.{Scope}
use Rattle.unfold.specs.Stuck.{stuck_here, stuck_parts}
use Rattle.unfold.specs.Unfolding.{u_strict, u_more, u_none, o_declared}
use Rattle.unfold_parts.proofs.Refusing.{refused_as}
use Rattle.unfold_parts.specs.Refused.{no_memory}
use Rattle.unfold_parts.specs.declared.refusal.Refusal.{Refusal}
use Rattle.unfold_parts.specs.declared.steps.Unfolding.{Unfolding}
use Rattle.unfold_program.specs.declared.peel.Peeled.{Peeled}
use Rattle.unfold_program.specs.declared.walked.Context.{Context}
use Rattle.unfold_program.specs.declared.walked.Walked.{Walked}
use Rattle.unfold_program.specs.Answers.{is_declared, Peels, bare, declared, Peeled_to, peeled_to, not_peeled, Unfolded, unfolded, refused, defined, told}
use Rattle.unfold_parts.specs.Told.{Stuck, Unfolds}

pub peel_bare : (lo inside : ℕ) (e : Bor Exp) → Peeled_to lo (term_of e.now) (Ok (record { exp = e; at = lo; inside = inside }))
peel_bare lo inside e = peeled_to bare

pub peel_declared : (e : Exp) (a : Act) (mark : Place) (es : Bor (List Exp)) (d : Exp) (lo inside : ℕ) (r : Result Peeled Refusal) → e.form ≡ form.Strict a mark es → is_declared a ≡ true → length es.now ≡ 1 → inside ≡ lo + 1 → Peeled_to inside (term_of (get_or es.now 0 d)) r → Peeled_to lo (term_of e) r
unfolding terms
peel_declared e a mark es d lo inside r is h one q p = subst (λ z. Peeled_to lo z r) (sym (term_strict e a mark es is)) (inner a h es.now one (subst (λ z. Peeled_to z (term_of (get_or es.now 0 d)) r) q p))
  where
    around : (u : FlatType) (x : Exp) (r : Result Peeled Refusal) → Peeled_to (lo + 1) (term_of x) r → Peeled_to lo (Strict (Declared u) mark (term_and (term_of x) no_term)) r
    around u x _ (peeled_to p) = peeled_to (declared p)
    around u x _ not_peeled = not_peeled

    inner : (a : Act) → is_declared a ≡ true → (xs : List Exp) → length xs ≡ 1 → Peeled_to (lo + 1) (term_of (get_or xs 0 d)) r → Peeled_to lo (Strict (operation_of a) mark (terms (map term_of xs))) r
    inner (act.Declared u) h [] one p = absurd (omega (arith, one))
    inner (act.Declared u) h (x ∷ []) one p = around (type_of u.now) x r p
    inner (act.Declared u) h (x ∷ y ∷ xs) one p = absurd (omega (arith, one))
    inner (act.Int n u) h xs one p = absurd (let z : false ≡ true = h in cc)
    inner (act.Truth b) h xs one p = absurd (let z : false ≡ true = h in cc)
    inner act.Tuple h xs one p = absurd (let z : false ≡ true = h in cc)
    inner (act.Record fs) h xs one p = absurd (let z : false ≡ true = h in cc)
    inner act.Array h xs one p = absurd (let z : false ≡ true = h in cc)
    inner (act.Binary op) h xs one p = absurd (let z : false ≡ true = h in cc)
    inner act.Negate h xs one p = absurd (let z : false ≡ true = h in cc)
    inner act.Complement h xs one p = absurd (let z : false ≡ true = h in cc)
    inner (act.Index ps) h xs one p = absurd (let z : false ≡ true = h in cc)
    inner (act.Project f) h xs one p = absurd (let z : false ≡ true = h in cc)
    inner act.Update h xs one p = absurd (let z : false ≡ true = h in cc)
    inner (act.Replace f) h xs one p = absurd (let z : false ≡ true = h in cc)
    inner (act.Ascribe u) h xs one p = absurd (let z : false ≡ true = h in cc)
    inner (act.Coerce u) h xs one p = absurd (let z : false ≡ true = h in cc)
    inner act.Assert h xs one p = absurd (let z : false ≡ true = h in cc)
    inner (act.Range s e) h xs one p = absurd (let z : false ≡ true = h in cc)

pub peel_lets : (e : Exp) (ls : Bor (List Let)) (b : Bor Exp) (lo : ℕ) (r : Result Peeled Refusal) → e.form ≡ form.Lets ls b → length ls.now ≡ 0 → Peeled_to lo (term_of b.now) r → Peeled_to lo (term_of e) r
unfolding lets
peel_lets e ls b lo r is n p = subst (λ z. Peeled_to lo z r) (sym (term_lets e ls b is ∙ ap (λ z. lets (map row_of z) (term_of b.now)) (nothing ls.now n))) p
  where
    nothing : (xs : List Let) → length xs ≡ 0 → xs ≡ []
    nothing [] n = refl
    nothing (x ∷ xs) n = absurd (omega (arith, n))

-- what is peeled unfolds as its inside does, and is stuck where that is
peels_unfolded : {c : Context} {sc : Scope} {lo lo' : ℕ} {e t : FlatTerm} {old new : Unfolding} {r : Walked} → Peels lo e lo' t → Unfolded c sc lo' t old new (Ok r) → Unfolded c sc lo e old new (Ok r)
peels_unfolded bare u = u
peels_unfolded {c} {sc} {lo} {old = old} {new} {r} (declared {u = u} {mark} {e} p) h = around (peels_unfolded p h)
  where
    around : Unfolded c sc (lo + 1) e old new (Ok r) → Unfolded c sc lo (Strict (Declared u) mark (term_and e no_term)) old new (Ok r)
    around (unfolded bs g v b) = unfolded bs g (subst (λ z. Unfolds (told c) (defined c) sc lo (Strict (Declared u) mark (term_and e no_term)) old.next z (known_of r.known) new.next) (append-nil (bs ++ []) ∙ append-nil bs) (λ td tl. u_strict (u_more (v td tl) u_none) o_declared)) (omega (arith, b))

peels_stuck : (c : Context) {sc : Scope} {lo lo' : ℕ} {e t : FlatTerm} → Peels lo e lo' t → Stuck (told c) (defined c) sc lo' t → Stuck (told c) (defined c) sc lo e
peels_stuck c bare w = w
peels_stuck c (declared p) w = λ td tl. stuck_parts (stuck_here ((peels_stuck c p w) td tl))

pub unpeeled : (c : Context) (sc : Scope) (lo : ℕ) (e : FlatTerm) (old new : Unfolding) (r : Refusal) → Peeled_to lo e (Err r) → Unfolded c sc lo e old new (Err r)
unpeeled c sc lo e old new _ not_peeled = refused no_memory

pub peeled_unfolded : (c : Context) (sc : Scope) (lo : ℕ) (e : FlatTerm) (p : Peeled) (old new : Unfolding) (r : Result Walked Refusal) → Peeled_to lo e (Ok p) → Unfolded c sc p.at (term_of p.exp.now) old new r → Unfolded c sc lo e old new r
peeled_unfolded c sc lo e p old new (Ok r) (peeled_to q) h = peels_unfolded q h
peeled_unfolded c sc lo e p old new (Err x) (peeled_to q) (refused h) = refused (refused_as (peels_stuck c q) h)
