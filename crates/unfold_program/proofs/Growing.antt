-- Steps that grow, and terms whose number is moved to where they stand.
use Rattle.std.proofs.Common.{◌≡◌, ℕ, ◌+◌, ◌-◌, ◌++◌, List, [], ◌∷◌, map, length, get_or, Option, Some, None, true, false, Ok, Err, refl, append_assoc, append-nil, sym, ap, ◌∙◌, subst, arith}
use Rattle.std.specs.Prelude.{Result}
use Rattle.std.specs.Borrow.{Bor}
use Rattle.fut_scalar.specs.declared.place.BindId.{BindId}
use Rattle.fut_scalar.specs.declared.place.Place.{Place}
use Rattle.fut_flat.specs.declared.exp.Exp.{Exp}
use Rattle.fut_flat.specs.declared.pat.Pat.{Pat}
use Rattle.fut_flat.specs.declared.prim.Ref.{Ref}
use Rattle.fut_flat.specs.Erased.{FlatTerm, pattern_of, patterns, term_of}
use Rattle.fut_flat.specs.Numbers.{all_pattern_numbers, numbers}
use Rattle.fut_flat.specs.Terms.{Operation}
use Rattle.fut_blocks.specs.declared.block.Act.{Act}
use Rattle.fut_blocks.specs.declared.block.Atom.{Atom}
use Rattle.fut_blocks.specs.declared.block.Block.{Block}
use Rattle.fut_blocks.specs.declared.block.Step.{Step}
use Rattle.fut_blocks.specs.Numbered.{Upward}
use Rattle.fut_blocks.specs.Plain.{Action, action_of, binding_of, body_of, lets}
use Rattle.unfold.specs.Held.{known_of, scope_of}
use Rattle.unfold.specs.Knowns.{Function_known, Known, Primitive_known, Record_known, Scalar_known, Scope, Tops, Tuple_known}
use Rattle.unfold.specs.Shapes.{Laid, laid_scalar}
use Rattle.unfold.specs.Stuck.{Not_bound, is_function, no_function, no_parameter}
use Rattle.fut_scalar.specs.declared.scalar.Scalar.TheVariants as scalar
use Rattle.unfold.specs.Unfolding.{Bindings, Packs, constant}
use Rattle.unfold.specs.declared.known.Function.{Function}
use Rattle.unfold.specs.declared.known.Known.{Known as Held_known}
use Rattle.unfold.specs.declared.known.KnownForm.TheVariants as form
use Rattle.unfold.specs.declared.known.Scope.{Scope as Held_scope}
use Rattle.unfold.proofs.Mirror.{function_is, known_scalar}
use Rattle.unfold_parts.specs.Answers.{answered, unanswered, Operated_at, Cut, Blocked, blocked, not_blocked, Bound_to, Packed_to, Pushed, pushed, not_pushed, Used_to}
use Rattle.unfold_parts.specs.Layouts.{Laid_to, laid_to, Renewed, renewed, not_renewed, shape_of}
use Rattle.unfold_parts.specs.Refused.{lost, no_memory}
use Rattle.unfold_parts.specs.States.{steps_of}
use Rattle.unfold_parts.specs.declared.fresh.Fresh.{Fresh}
use Rattle.unfold_parts.specs.declared.refusal.Refusal.{Refusal}
use Rattle.unfold_parts.specs.declared.refusal.Refusal.TheVariants.{Lost, Memory}
use Rattle.unfold_parts.specs.declared.steps.Unfolding.{Unfolding}
use Rattle.unfold_parts.proofs.Forms.{by_form}
use Rattle.unfold_parts.proofs.Packs.{unpacked_no_data}
use Rattle.unfold_parts.proofs.Refusing.{refused_as}
use Rattle.unfold_program.specs.declared.walked.Context.{Context}
use Rattle.unfold_program.specs.declared.walked.Parts.{Parts}
use Rattle.unfold_program.specs.declared.walked.Branch.{Branch}
use Rattle.unfold_program.specs.declared.walked.Walked.{Walked}
use Rattle.unfold_program.specs.declared.walked.WalkedScalar.{WalkedScalar}
use Rattle.unfold_program.specs.Answers.{Stepped_to, stepped_to, not_stepped, is_component, Becomes, stays, becomes_one, Packed_walk, packed_walk, not_packed_walk, Closed_to, closed_to, other_form, not_closed, Packed_closed, Scalar_closed, scalar_closed, not_scalar_closed, Walked_to, walked_to, not_walked, Operated_to, operated_to, not_operated, Use_known, use_known, no_use, Argued, argued, not_argued, node_of, scope_in, defined, told}
use Rattle.fut_meaning.specs.Found.{Told}
use Rattle.unfold.specs.Stuck as lacking
use Rattle.unfold_parts.specs.Told.{Held_sizes, Binds, Stuck, Unfolds}
use Rattle.unfold_parts.specs.declared.told.Told.{Told as Held_told}

module _ {A : Type 0} where
  pub grown : (a b c bs cs : List A) → b ≡ a ++ bs → c ≡ b ++ cs → c ≡ a ++ (bs ++ cs)
  grown a b c bs cs e f = f ∙ ap (λ z. z ++ cs) e ∙ append_assoc a bs cs

  pub not_grown : (a b : List A) → b ≡ a → b ≡ a ++ []
  not_grown a b e = e ∙ sym (append-nil a)

-- what a term unfolds to, where its number, the term or the known value is given otherwise
pub moved : (c : Context) {sc : Scope} {t : FlatTerm} {lo lo' n m : ℕ} {bs : Bindings} {s : Known} → lo ≡ lo' → Unfolds (told c) (defined c) sc lo t n bs s m → Unfolds (told c) (defined c) sc lo' t n bs s m
moved c {sc} {t} {n = n} {m} {bs} {s} e u = subst (λ z. Unfolds (told c) (defined c) sc z t n bs s m) e u

pub stuck_at : (c : Context) {sc : Scope} {t : FlatTerm} {lo lo' : ℕ} → lo ≡ lo' → Stuck (told c) (defined c) sc lo t → Stuck (told c) (defined c) sc lo' t
stuck_at c {sc} {t} e w = subst (λ z. Stuck (told c) (defined c) sc z t) e w

pub known_as : (c : Context) {sc : Scope} {t : FlatTerm} {lo n m : ℕ} {bs : Bindings} {s s' : Known} → s ≡ s' → Unfolds (told c) (defined c) sc lo t n bs s m → Unfolds (told c) (defined c) sc lo t n bs s' m
known_as c {sc} {t} {lo} {n} {m} {bs} e u = subst (λ z. Unfolds (told c) (defined c) sc lo t n bs z m) e u

pub ending : (c : Context) {sc : Scope} {t : FlatTerm} {lo n m m' : ℕ} {bs : Bindings} {s : Known} → m ≡ m' → Unfolds (told c) (defined c) sc lo t n bs s m → Unfolds (told c) (defined c) sc lo t n bs s m'
ending c {sc} {t} {lo} {n} {bs = bs} {s} e u = subst (λ z. Unfolds (told c) (defined c) sc lo t n bs s z) e u

pub beginning : (c : Context) {sc : Scope} {t : FlatTerm} {lo n n' m : ℕ} {bs : Bindings} {s : Known} → n ≡ n' → Unfolds (told c) (defined c) sc lo t n bs s m → Unfolds (told c) (defined c) sc lo t n' bs s m
beginning c {sc} {t} {lo} {m = m} {bs} {s} e u = subst (λ z. Unfolds (told c) (defined c) sc lo t z bs s m) e u

-- ---- steps and blocks that are made

-- a step under new names
pub give_ok : (like : Known) (a : Act) (at : ℕ) (old mid new : Unfolding) (f : Fresh) (st : Step) (v : Unit {0}) → Renewed like old.next mid.next (Ok f) → steps_of mid ≡ steps_of old → Pushed (binding_of st) (steps_of mid) (steps_of new) (Ok v) → new.next ≡ mid.next → binding_of st ≡ (f.names.now, action_of a) → Stepped_to like (action_of a) at old new (Ok (Some (record { known = f.known; at = at })))
give_ok like a at old mid new f st v (renewed up l) same (pushed gs) n made =
    stepped_to f.names.now (gs ∙ ap (λ z. z ++ binding_of st ∷ []) same ∙ ap (λ z. steps_of old ++ z ∷ []) made) (subst (λ z. Upward old.next f.names.now z) (sym n) up) l

pub stepped_as : (like : Known) (a a' : Action) (at : ℕ) (old new : Unfolding) (r : Result (Option Walked) Refusal) → a ≡ a' → Stepped_to like a at old new r → Stepped_to like a' at old new r
stepped_as like a a' at old new r e h = subst (λ z. Stepped_to like z at old new r) e h

pub give_unnamed : (like : Known) (a : Action) (at n n' : ℕ) (old new : Unfolding) (r : Refusal) → Renewed like n n' (Err r) → Stepped_to like a at old new (Err r)
give_unnamed like a at n n' old new r (not_renewed x) = not_stepped x

pub give_unpushed : (like : Known) (a : Action) (at : ℕ) (old new : Unfolding) (s : List ℕ × Action) (older newer : Bindings) (r : Refusal) → Pushed s older newer (Err r) → Stepped_to like a at old new (Err r)
give_unpushed like a at old new s older newer _ not_pushed = not_stepped no_memory

-- what has another form is no component
pub no_component : (s : Held_known) → ((u : Atom) → s.form ≡ form.Scalar u → ⊥) → is_component (known_of s) ≡ false
no_component s c = by_form s (λ k. is_component k ≡ false) (λ u is. absurd (c u is)) (λ ss is. refl) (λ fs is. refl) (λ ps e lo sc. refl) (λ p at ss. refl)

-- one component for what has been walked
pub packed_ok : (w r : Walked) (old new : Unfolding) (u : Atom) → Packed_to (known_of w.known) old.next (steps_of old) (steps_of new) new.next (Ok u) → r.known.form ≡ form.Scalar u → r.at ≡ w.at → Packed_walk w old new (Ok r)
packed_ok w r old new u (answered bs e p) is q = packed_walk bs e p (known_scalar r.known u is) q

pub packed_err : (w : Walked) (old new : Unfolding) (x : Refusal) → Packed_to (known_of w.known) old.next (steps_of old) (steps_of new) new.next (Err x) → Packed_walk w old new (Err x)
packed_err w old new x (unanswered h) = not_packed_walk (refused_as (unpacked_no_data (known_of w.known)) h)

-- a block of the steps behind a mark
module _ (mark : ℕ) (like : Known) (w : Walked) (old new : Unfolding) where
  pub close_ok : (us : Bor (List Atom)) (b : Bor Block) (r : Branch) → Laid_to (shape_of like) (known_of w.known) (Ok us) → Blocked mark us.now (steps_of old) (steps_of new) (Ok b) → new.next ≡ old.next → r.block ≡ b → r.at ≡ w.at → Closed_to mark like w old new (Ok (Some r))
  close_ok us b r (laid_to l) (blocked f) n i q = closed_to [] us.now (subst (Becomes (known_of w.known) old.next [] (known_of w.known)) (sym n) stays) l (λ outside inside len e. let t = f outside inside len e in (t.0, ap (λ (z : Bor Block). body_of z.now) i ∙ t.1 ∙ ap (λ z. lets z us.now) (sym (append-nil inside)))) q

  pub close_other : (same : steps_of new ≡ steps_of old) → is_component like ≡ false → Closed_to mark like w old new (Ok None)
  close_other same none = other_form none same

  pub close_memory : (x : Refusal) → x ≡ Memory → Closed_to mark like w old new (Err x)
  close_memory x e = subst (λ z. Closed_to mark like w old new (Err z)) (sym e) (not_closed no_memory)

  pub close_err : (us : List Atom) (older newer : Bindings) (r : Refusal) → Blocked mark us older newer (Err r) → Closed_to mark like w old new (Err r)
  close_err us older newer _ not_blocked = not_closed no_memory

-- the same for what is of the same shape
by_shape : (mark : ℕ) (like like' : Known) (w : Walked) (old new : Unfolding) (r : Result (Option Branch) Refusal) → shape_of like ≡ shape_of like' → (is_component like ≡ false → is_component like' ≡ false) → Closed_to mark like w old new r → Closed_to mark like' w old new r
by_shape mark like like' w old new _ e n (closed_to {s = s} bs us b l f q) = closed_to bs us b (subst (λ z. Laid z s us []) e l) f q
by_shape mark like like' w old new _ e n (other_form none same) = other_form (n none) same
by_shape mark like like' w old new _ e n (not_closed x) = not_closed x

module _ (mark : ℕ) (w : Walked) (old new : Unfolding) (r : Result (Option Branch) Refusal) where
  -- one component is asked for
  pub close_component : (like : Known) → is_component like ≡ true → Packed_closed mark w old new r → Closed_to mark like w old new r
  unfolding shape_of
  close_component (Scalar_known u) is h = by_shape mark (constant (scalar.Bool true)) (Scalar_known u) w old new r refl (λ z. absurd (let y : true ≡ false = z in cc)) h
  close_component (Tuple_known ss) is h = absurd (let z : false ≡ true = is in cc)
  close_component (Record_known fs) is h = absurd (let z : false ≡ true = is in cc)
  close_component (Function_known ps e lo sc) is h = absurd (let z : false ≡ true = is in cc)
  close_component (Primitive_known p at ss) is h = absurd (let z : false ≡ true = is in cc)

-- a block that gives a scalar
module _ (mark : ℕ) (w : WalkedScalar) (old new : Unfolding) where
  pub scalar_ok : (us : List Atom) (b : Bor Block) (r : Branch) → us ≡ w.atom ∷ [] → Blocked mark us (steps_of old) (steps_of new) (Ok b) → new.next ≡ old.next → r.block ≡ b → r.at ≡ w.at → Scalar_closed mark w old new (Ok r)
  scalar_ok us b r e (blocked f) n i q = scalar_closed (λ outside inside len g. let t = f outside inside len g in (t.0, ap (λ (z : Bor Block). body_of z.now) i ∙ t.1 ∙ ap (lets inside) e ∙ ap (λ z. lets z (w.atom ∷ [])) (sym (append-nil inside)))) n q

  pub scalar_err : (us : List Atom) (older newer : Bindings) (r : Refusal) → Blocked mark us older newer (Err r) → Scalar_closed mark w old new (Err r)
  scalar_err us older newer _ not_blocked = not_scalar_closed

-- what has been packed, as a block
module _ (mark : ℕ) (w : Walked) (old mid new : Unfolding) (u : Atom) where
  pub packed_block : (x : WalkedScalar) (r : Branch) → Packed_to (known_of w.known) old.next (steps_of old) (steps_of mid) mid.next (Ok u) → x.atom ≡ u → x.at ≡ w.at → Scalar_closed mark x mid new (Ok r) → Packed_closed mark w old new (Ok (Some r))
  unfolding shape_of
  packed_block x r (answered bs e p) i k (scalar_closed f n q) =
      closed_to bs (u ∷ []) (becomes_one (subst (λ z. Packs (known_of w.known) old.next bs u z) (sym n) p)) laid_scalar
      (λ outside inside len g. let t = f outside (inside ++ bs) len (e ∙ ap (λ z. z ++ bs) g ∙ append_assoc outside inside bs) in (t.0, t.1 ∙ ap (λ z. lets z (x.atom ∷ [])) (append-nil (inside ++ bs)) ∙ ap (λ z. lets (inside ++ bs) (z ∷ [])) i)) (q ∙ k)

  pub packed_block_err : (x : WalkedScalar) (r : Refusal) → Scalar_closed mark x mid new (Err r) → Packed_closed mark w old new (Err r)
  packed_block_err x _ not_scalar_closed = not_closed no_memory

pub unpacked_block : (mark : ℕ) (w : Walked) (old mid new : Unfolding) (r : Refusal) → Packed_to (known_of w.known) old.next (steps_of old) (steps_of mid) mid.next (Err r) → Packed_closed mark w old new (Err r)
unpacked_block mark w old mid new r (unanswered h) = not_closed (refused_as (unpacked_no_data (known_of w.known)) h)

pub again_steps : (mark : ℕ) (old mid new : Unfolding) → Cut mark (steps_of old) (steps_of mid) → steps_of new ≡ steps_of mid → Cut mark (steps_of old) (steps_of new)
again_steps mark old mid new f same outside inside l e = same ∙ f outside inside l e

-- ---- operations and uses

module _ (T : Held_told) (sc : Scope) (lo : ℕ) (o : Operation Ref BindId) (mark : Place) (parts : Parts) (old new : Unfolding) where
  pub operated_ok : (s : Held_known) → Operated_at T sc lo o mark (map known_of parts.knowns.now) old.next (steps_of old) (steps_of new) new.next (Ok s) → Operated_to T sc lo o mark parts old new (Ok (record { known = s; at = parts.at }))
  operated_ok s a = operated_to a

  pub operated_err : (r : Refusal) → Operated_at T sc lo o mark (map known_of parts.knowns.now) old.next (steps_of old) (steps_of new) new.next (Err r) → Operated_to T sc lo o mark parts old new (Err r)
  operated_err r (unanswered x) = not_operated x

pub walked_ok : (at : ℕ) (x : Result Held_known Refusal) (s : Held_known) → x ≡ Ok s → Walked_to at x (Ok (record { known = s; at = at }))
walked_ok at x s e = subst (λ z. Walked_to at z (Ok (record { known = s; at = at }))) (sym e) walked_to

pub walked_err : (at : ℕ) (x : Result Held_known Refusal) (r : Refusal) → x ≡ Err r → Walked_to at x (Err r)
walked_err at x r e = subst (λ z. Walked_to at z (Err r)) (sym e) not_walked

pub used_end : (c : Context) (sc : Scope) (name : Ref) (lo : ℕ) (e : Exp) (old new : Unfolding) (next : ℕ) (s : Result Held_known Refusal) (r : Result Walked Refusal) → next ≡ lo + numbers (term_of e) → Used_to (told c).sizes (defined c) sc name e.place old.next (steps_of old) (steps_of new) new.next s → Walked_to next s r → Use_known c sc name lo e old new r
used_end c sc name lo e old new next _ _ q u walked_to = use_known u q
used_end c sc name lo e old new next _ _ q (unanswered x) not_walked = no_use x

-- ---- arguments

pub node_is : (f : Function) (count : ℕ) → count ≡ 0 + all_pattern_numbers (patterns (map pattern_of f.parameters.now)) → f.first - count ≡ node_of f
node_is f count e = let q : count ≡ all_pattern_numbers (patterns (map pattern_of f.parameters.now)) = omega (arith, e) in ap (λ z. f.first - z) q

module _ (S : Held_sizes) (s : Known) (f : Function) (old new : Unfolding) where
  -- a function without parameters is none
  pub argued_none : length f.parameters.now ≡ 0 → Argued S f s old new (Err Lost)
  unfolding patterns
  argued_none none = not_argued (lost (λ td tops. no_function (ap is_function (function_is f) ∙ empty f.parameters.now none)))
    where
      empty : (ps : List Pat) → length ps ≡ 0 → is_function (Function_known (patterns (map pattern_of ps)) (term_of f.body.now) f.first (scope_in f)) ≡ false
      empty [] none = refl
      empty (p ∷ ps) none = absurd (omega (arith, none))

  pub argued_end : (d : Pat) (at : ℕ) (r : Result Held_scope Refusal) → (length f.parameters.now ≡ 0 → ⊥) → at ≡ node_of f → Bound_to S at (pattern_of (get_or f.parameters.now 0 d)) s (scope_in f) old.next (steps_of old) (steps_of new) new.next r → Argued S f s old new r
  unfolding patterns
  argued_end d at (Ok inner) some q (answered bs e b) = argued d bs some e (subst (λ z. Binds S z (pattern_of (get_or f.parameters.now 0 d)) s (scope_in f) old.next bs (scope_of inner) new.next) q b)
  argued_end d at (Err r) some q (unanswered x) = not_argued (refused_as (λ lacks td tops. subst (λ z. lacking.Stuck_run td tops z s) (sym (function_is f)) (none td tops f.parameters.now some lacks)) x)
    where
      none : (td : Told) (tops : Tops) (ps : List Pat) → (length ps ≡ 0 → ⊥) → Not_bound (pattern_of (get_or ps 0 d)) s → lacking.Stuck_run td tops (Function_known (patterns (map pattern_of ps)) (term_of f.body.now) f.first (scope_in f)) s
      none td tops [] some lacks = absurd (some refl)
      none td tops (p ∷ ps) some lacks = no_parameter lacks
