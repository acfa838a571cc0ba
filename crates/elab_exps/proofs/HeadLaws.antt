-- Size names with a pattern, and names that stand for a while.
use Rattle.std.proofs.Common.{◌≡◌, ℕ, List, length, refl, sym, ◌∙◌, ap, subst, Result, Ok, Err}
use Rattle.fut_scalar.specs.declared.place.BindId.{BindId}
use Rattle.fut_ast.specs.Sorts.{Text}
use Rattle.fut_ast.specs.declared.pat.Head.{Head as PlainHead}
use Rattle.fut_flat.specs.Sources.{SourcePattern}
use Rattle.elab_scopes.specs.declared.refusal.Refusal.{Refusal as HeldRefusal}
use Rattle.elab_scopes.specs.declared.refusal.Stop.{Stop}
use Rattle.elab_scopes.specs.declared.refusal.Stop.TheVariants as stop
use Rattle.elab_scopes.specs.Names.{Refusal}
use Rattle.elab_scopes.specs.declared.table.Names.{Names}
use Rattle.elab_scopes.specs.declared.table.Entry.{Entry as HeldEntry}
use Rattle.elab_scopes.specs.Scopes.{enter}
use Rattle.elab_scopes.specs.Resolve.{Bound, after, resolve_pattern}
use Rattle.elab_scopes.specs.Answers.{Went, went, refused, no_memory}
use Rattle.elab_scopes.specs.Table.{scope_of, made_of, entries_of, outside}
use Rattle.elab_nodes.proofs.Steps.{Does}
use Rattle.elab_types.specs.declared.binds.Sizes.{Sizes}
use Rattle.elab_types.specs.declared.pats.Bound.{Bound as HeldBound}
use Rattle.elab_types.specs.Bindings.{Brings, brings, brings_not, bound_heads_of, bound_pattern_of, bound_sizes_of, heads_numbered, sizes_numbered}
use Rattle.elab_exps.specs.declared.heads.Head.{Head}
use Rattle.elab_exps.specs.Heads.{head_of, Behind, now_behind, not_behind, Brought_head, not_brought_head, Brought_name, not_brought_name, Brought_pattern, not_brought_pattern, Brought_heads, not_brought_heads}
use Rattle.elab_exps.specs.Parts.{Headed, behind, inside_pattern, sized_pattern}
use Rattle.elab_exps.proofs.Above.{back, enter_above, above_all}

-- names are numbered and stand in scope for the part behind them
module _ {A B C X Y Z : Type 0} {vx : X → Bound A} {vy : Y → B} {vz : Z → C} (S : Does (List Text) (Bound A)) (k : Does (List Text) B) (f : Bound A → B → C) where
  pub within : (s s1 s2 s3 u : Names) (h : ℕ) (x : X) (es : List HeldEntry) (w : Unit {0}) (y : Y) (z : Z)
      → h ≡ length (scope_of s) → Went vx S s s1 (Ok x) → (vx x).1 ≡ entries_of es → Brings es s1 s2 (Ok w) → Went vy k s2 s3 (Ok y) → scope_of u ≡ outside h (scope_of s3) → made_of u ≡ made_of s3 → vz z ≡ f (vx x) (vy y)
      → Went vz (λ sc m. after (S sc m) (λ b m. after (k (enter b.1 sc) m) (λ y m. Ok (f b y, m)))) s u (Ok z)
  unfolding after
  within s s1 s2 s3 u h x es w y z hs (went gx sx) is (brings sb mb) (went gy sy) out mk eq = went (
      ap (λ r. after r (λ b m. after (k (enter b.1 (scope_of s)) m) (λ y m. Ok (f b y, m)))) gx
      ∙ (λ i. after (k (enter (is i) (sym sx i)) (made_of s1)) (λ y m. Ok (f (vx x) y, m)))
      ∙ (λ i. after (k (sym sb i) (sym mb i)) (λ y m. Ok (f (vx x) y, m)))
      ∙ ap (λ r. after r (λ y m. Ok (f (vx x) y, m))) gy
      ∙ (λ i. Ok (sym eq i, sym mk i)))
      (out ∙ (λ i. outside (hs i) ((sy ∙ sb) i)) ∙ (λ i. outside (length (scope_of s)) (enter (entries_of es) (sx i))) ∙ back (enter_above (entries_of es) (scope_of s)))

  pub within_second : (s s1 s2 s3 : Names) (x : X) (es : List HeldEntry) (w : Unit {0}) (e : Stop) → Went vx S s s1 (Ok x) → (vx x).1 ≡ entries_of es → Brings es s1 s2 (Ok w) → Went vy k s2 s3 (Err e)
      → Went vz (λ sc m. after (S sc m) (λ b m. after (k (enter b.1 sc) m) (λ y m. Ok (f b y, m)))) s s3 (Err e)
  unfolding after
  within_second s s1 s2 s3 x es w _ (went gx sx) is (brings sb mb) (refused gy) = refused (
      ap (λ r. after r (λ b m. after (k (enter b.1 (scope_of s)) m) (λ y m. Ok (f b y, m)))) gx
      ∙ (λ i. after (k (enter (is i) (sym sx i)) (made_of s1)) (λ y m. Ok (f (vx x) y, m)))
      ∙ (λ i. after (k (sym sb i) (sym mb i)) (λ y m. Ok (f (vx x) y, m)))
      ∙ ap (λ r. after r (λ y m. Ok (f (vx x) y, m))) gy)
  within_second s s1 s2 s3 x es w _ (went gx sx) is (brings sb mb) no_memory = no_memory

pub within_first : {A B C X Z : Type 0} {vx : X → Bound A} {vz : Z → C} (S : Does (List Text) (Bound A)) (k : Does (List Text) B) (f : Bound A → B → C) (s s1 : Names) (e : Stop) → Went vx S s s1 (Err e)
    → Went vz (λ sc m. after (S sc m) (λ b m. after (k (enter b.1 sc) m) (λ y m. Ok (f b y, m)))) s s1 (Err e)
unfolding after
within_first S k f s s1 _ (refused gx) = refused (ap (λ r. after r (λ b m. after (k (enter b.1 (scope_of s)) m) (λ y m. Ok (f b y, m)))) gx)
within_first S k f s s1 _ no_memory = no_memory

pub bring_stops : {A R : Type 0} {view : R → A} (does : Does (List Text) A) (es : List HeldEntry) (s t u v : Names) (e : Stop) → Brings es t u (Err e) → Went view does s v (Err e)
bring_stops does es s t u v _ brings_not = no_memory

-- ---- size names with a pattern

pub sized_made : (xs : List Text) (p : SourcePattern) (s s1 s2 s3 u : Names) (h : ℕ) (z : Sizes) (w : Unit {0}) (b : HeldBound) → h ≡ length (scope_of s)
    → Went bound_sizes_of (sizes_numbered xs) s s1 (Ok z) → Brings z.names.now s1 s2 (Ok w) → Went bound_pattern_of (resolve_pattern p) s2 s3 (Ok b) → scope_of u ≡ outside h (scope_of s3) → made_of u ≡ made_of s3
    → Went head_of (sized_pattern xs p) s u (Ok (record { sizes = z; pat = b }))
unfolding sized_pattern head_of
sized_made xs p s s1 s2 s3 u h z w b hs ws bs wp out mk = within {vx = bound_sizes_of} {vy = bound_pattern_of} {vz = λ (h : Head). (bound_sizes_of h.sizes, bound_pattern_of h.pat)} (sizes_numbered xs) (resolve_pattern p) (λ s p. (s, p)) s s1 s2 s3 u h z z.names.now w b (record { sizes = z; pat = b }) hs ws refl bs wp out mk refl

pub sized_first : (xs : List Text) (p : SourcePattern) (s s1 : Names) (e : Stop) → Went bound_sizes_of (sizes_numbered xs) s s1 (Err e) → Went head_of (sized_pattern xs p) s s1 (Err e)
unfolding sized_pattern
sized_first xs p s s1 e w = within_first (sizes_numbered xs) (resolve_pattern p) (λ s p. (s, p)) s s1 e w

pub sized_second : (xs : List Text) (p : SourcePattern) (s s1 s2 s3 : Names) (z : Sizes) (w : Unit {0}) (e : Stop) → Went bound_sizes_of (sizes_numbered xs) s s1 (Ok z) → Brings z.names.now s1 s2 (Ok w) → Went bound_pattern_of (resolve_pattern p) s2 s3 (Err e)
    → Went head_of (sized_pattern xs p) s s3 (Err e)
unfolding sized_pattern
sized_second xs p s s1 s2 s3 z w e ws bs wp = within_second {vx = bound_sizes_of} {vy = bound_pattern_of} (sizes_numbered xs) (resolve_pattern p) (λ s p. (s, p)) s s1 s2 s3 z z.names.now w e ws refl bs wp

-- ---- what both bring

pub both_bring : (h : Head) (s t u : Names) (w : Unit {0}) (r : Result (Unit {0}) Stop) → Brings h.sizes.names.now s t (Ok w) → Brings h.pat.names.now t u r → Behind (head_of h) s u r
unfolding behind head_of
both_bring h s t u w _ (brings sa ma) (brings sb mb) = now_behind (sb ∙ ap (enter (entries_of h.pat.names.now)) sa) (mb ∙ ma)
both_bring h s t u w _ (brings sa ma) brings_not = not_behind

pub first_brings_not : (h : Head) (es : List HeldEntry) (s t v : Names) (e : Stop) → Brings es s t (Err e) → Behind (head_of h) s v (Err e)
first_brings_not h es s t v _ brings_not = not_behind

pub ruleset bring_rules = (both_bring, first_brings_not)

-- ---- a pattern that sees them

pub element_made : (p : SourcePattern) (h : Head) (s s1 s2 u : Names) (n : ℕ) (w : Unit {0}) (b : HeldBound) → n ≡ length (scope_of s) → Behind (head_of h) s s1 (Ok w) → Went bound_pattern_of (resolve_pattern p) s1 s2 (Ok b)
    → scope_of u ≡ outside n (scope_of s2) → made_of u ≡ made_of s2 → Went bound_pattern_of (inside_pattern p (head_of h)) s u (Ok b)
unfolding inside_pattern behind
element_made p h s s1 s2 u n w b ns (now_behind sb mb) (went g sp) out mk = went (
    (λ i. resolve_pattern p (sym sb i) (sym mb i)) ∙ g ∙ (λ i. Ok (bound_pattern_of b, sym mk i)))
    (out ∙ (λ i. outside (ns i) ((sp ∙ sb) i)) ∙ back (above_all (enter_above (head_of h).0.1 (scope_of s)) (enter_above (head_of h).1.1 (enter (head_of h).0.1 (scope_of s)))))

pub element_stops : (p : SourcePattern) (h : Head) (s s1 s2 : Names) (w : Unit {0}) (e : Stop) → Behind (head_of h) s s1 (Ok w) → Went bound_pattern_of (resolve_pattern p) s1 s2 (Err e) → Went bound_pattern_of (inside_pattern p (head_of h)) s s2 (Err e)
unfolding inside_pattern
element_stops p h s s1 s2 w _ (now_behind sb mb) (refused g) = refused ((λ i. resolve_pattern p (sym sb i) (sym mb i)) ∙ g)
element_stops p h s s1 s2 w _ (now_behind sb mb) no_memory = no_memory

pub behind_stops : {A R : Type 0} {view : R → A} (does : Does (List Text) A) (h : Headed) (s t u v : Names) (e : Stop) → Behind h t u (Err e) → Went view does s v (Err e)
behind_stops does h s t u v _ not_behind = no_memory

-- ---- what memory stops

pub head_gone : {r : Result Head Stop} {h : Headed} {s t u v : Names} {e : Stop} → Behind h s t (Err e) → Brought_head r u v (Err e)
head_gone not_behind = not_brought_head

pub name_gone : {x : Text} {b : Result BindId Stop} {h : Headed} {s t u v : Names} {e : Stop} → Behind h s t (Err e) → Brought_name h x b u v (Err e)
name_gone not_behind = not_brought_name

pub pattern_gone : {r : Result HeldBound Stop} {h : Headed} {s t u v : Names} {e : Stop} → Behind h s t (Err e) → Brought_pattern h r u v (Err e)
pattern_gone not_behind = not_brought_pattern

pub pattern_names_gone : {r : Result HeldBound Stop} {h : Headed} {es : List HeldEntry} {s t u v : Names} {e : Stop} → Brings es s t (Err e) → Brought_pattern h r u v (Err e)
pattern_names_gone brings_not = not_brought_pattern

pub heads_names_gone : {hs : List PlainHead} {es : List HeldEntry} {s t u v : Names} {e : Stop} → Brings es s t (Err e) → Brought_heads hs u v (Err e)
heads_names_gone brings_not = not_brought_heads

no_refusal : {A : Type 0} {x : A} {r : Refusal} {q : HeldRefusal} → Ok x ≡ Err r → stop.Refused q ≡ stop.Memory
no_refusal g = cc

pub heads_gone : {hs : List PlainHead} {s t u v : Names} {e : Stop} → Went bound_heads_of (heads_numbered hs) s t (Err e) → Brought_heads hs u v (Err e)
unfolding heads_numbered
heads_gone {hs = hs} {u = u} {v = v} (refused g) = subst (λ z. Brought_heads hs u v (Err z)) (sym (no_refusal g)) not_brought_heads
heads_gone no_memory = not_brought_heads
