-- Definitions with their names resolved, and what is declared of them.
use Rattle.std.proofs.Common.{◌≡◌, ℕ, ◌++◌, Bool, true, false, cond, List, [], ◌∷◌, map, length, reverse, take, refl, sym, ◌∙◌, ap, subst, Option, Some, None, Result, Ok, Err}
use Rattle.std.proofs.lemmas.List.{map-append, reverse-append}
use Rattle.std.specs.Borrow.{Bor}
use Rattle.fut_scalar.specs.declared.place.BindId.{BindId}
use Rattle.fut_ast.specs.Sorts.{Text}
use Rattle.fut_ast.specs.declared.pat.Head.{Head as PlainHead}
use Rattle.fut_flat.specs.declared.exp.Exp.{Exp as FlatExp}
use Rattle.fut_flat.specs.declared.pat.Head.{Head as FlatHead}
use Rattle.fut_flat.specs.declared.prim.Ref.{Ref}
use Rattle.fut_flat.specs.declared.prim.Ref.TheVariants as ref
use Rattle.fut_flat.specs.declared.program.Definition.{Definition}
use Rattle.fut_flat.specs.Terms.{Parameter}
use Rattle.fut_flat.specs.Erased.{FlatTerm}
use Rattle.fut_flat.specs.Sources.{SourceTerm}
use Rattle.elab_scopes.specs.declared.refusal.Stop.{Stop}
use Rattle.elab_scopes.specs.declared.table.Entry.{Entry as HeldEntry}
use Rattle.elab_scopes.specs.declared.table.Names.{Names}
use Rattle.elab_scopes.specs.Answers.{Went, no_memory, refused, went}
use Rattle.elab_scopes.specs.Declarations.{Instance, State, declare, defined, scope_at, with_instance}
use Rattle.elab_scopes.specs.Modules.{modules_of}
use Rattle.elab_scopes.specs.Programs.{FlatDefinition, define}
use Rattle.elab_scopes.specs.Resolve.{Bound, Numbered, after, next, resolve, with_text}
use Rattle.elab_scopes.specs.Scopes.{Contents, Member, Scope, World, a_type, a_value, a_world, enter, world_of}
use Rattle.elab_scopes.specs.Table.{bottom, entries_of, entry_of, locals_of, made_of, modules_in, outside, scope_of}
use Rattle.elab_scopes.proofs.Walking.{after_assoc}
use Rattle.elab_nodes.specs.Built.{Built3, built3, first_of_three, no_memory3, second_of_three, third_of_three}
use Rattle.elab_nodes.specs.Held.{held_term}
use Rattle.elab_types.specs.Bindings.{heads_numbered}
use Rattle.elab_types.specs.Numbering.{Numbers, no_number, numbers}
use Rattle.elab_exps.specs.Heads.{Brought_heads, brought_heads, not_brought_heads, valued_of}
use Rattle.elab_exps.specs.Parts.{headed_value}
use Rattle.elab_exps.proofs.RowLaws.{value_made, value_second}
use Rattle.module_state.specs.declared.state.Declaring.{Declaring}
use Rattle.module_state.specs.declared.state.Here.{Here as HeldHere}
use Rattle.module_state.specs.Standing.{Does, Stands, definition_of, does, functor_of, here_of, loaded_of, refuses, signature_of, stops}
use Rattle.module_state.proofs.Growing.{Grows, all, definition_grows, taken}

-- ---- a definition

abbrev definition_with : ℕ → Bool → BindId → Bor (List FlatHead) → Bor FlatExp → Definition
definition_with file is_entry b hs v = record { bind = b; heads = hs; value = v; is_entry = is_entry; file = file }

module _ (file : ℕ) (is_entry : Bool) (x : Text) (heads : List PlainHead) (value : SourceTerm) where
  abbrev finished : BindId → List (Parameter BindId) × FlatTerm → FlatDefinition
  finished b v = record { bind = b; parameters = v.0; value = v.1; is_entry = is_entry; file = file }

  behind_heads : (b : BindId) (sc : Scope) (h : Bound (List (Parameter BindId))) (more : List Text)
      → after (after (resolve value (enter h.1 sc) more) (λ v m. Ok ((h.0, v), m))) (λ v more. Ok (finished b v, more)) ≡ after (resolve value (enter h.1 sc) more) (λ v more. Ok (finished b (h.0, v), more))
  unfolding after
  behind_heads b sc h more = after_assoc (resolve value (enter h.1 sc) more) (λ v m. Ok ((h.0, v), m)) (λ v more. Ok (finished b v, more))

  -- the parameters with the value, and then nothing more is read
  defined_of : (sc : Scope) (m : List Text) → define file is_entry x heads value sc m ≡ after (headed_value heads value sc (with_text m x)) (λ v more. Ok (finished (next m) v, more))
  unfolding define heads_numbered headed_value
  defined_of sc m = sym (
      after_assoc (heads_numbered heads sc (with_text m x)) (λ h m. after (resolve value (enter h.1 sc) m) (λ v m. Ok ((h.0, v), m))) (λ v more. Ok (finished (next m) v, more))
      ∙ ap (after (heads_numbered heads sc (with_text m x))) (λ i h more. behind_heads (next m) sc h more i))

  numbered_first : (s t : Names) (b : BindId) (q : Numbered (List (Parameter BindId) × FlatTerm)) → b ≡ next (made_of s) → made_of t ≡ with_text (made_of s) x → scope_of t ≡ scope_of s
      → headed_value heads value (scope_of t) (made_of t) ≡ q → define file is_entry x heads value (scope_of s) (made_of s) ≡ after q (λ v more. Ok (finished b v, more))
  numbered_first s t b q is mk same g =
      defined_of (scope_of s) (made_of s)
      ∙ (λ i. after (headed_value heads value (sym same i) (sym mk i)) (λ v more. Ok (finished (sym is i) v, more)))
      ∙ ap (λ r. after r (λ v more. Ok (finished b v, more))) g

  pub definition_went : (s s1 s2 s3 u : Names) (n : ℕ) (b : Result BindId Stop) (hs : Result (Bor (List FlatHead)) Stop) (v : Result (Bor FlatExp) Stop) (c : Result Definition Stop)
      → Numbers x s s1 b → n ≡ length (scope_of s1) → Brought_heads heads s1 s2 hs → Went held_term (resolve value) s2 s3 v → scope_of u ≡ outside n (scope_of s3) → made_of u ≡ made_of s3
      → Built3 (λ b hs v d. d ≡ definition_with file is_entry b hs v) b hs v c → Went definition_of (define file is_entry x heads value) s u c
  unfolding after valued_of
  definition_went s s1 s2 s3 u n _ _ _ _ (numbers {b = b} is mk same _) ns (brought_heads {u = k} {z = z} {w = i} hw bs) wv out kept (built3 {c = y} {d = d} eq) =
      from_value (value_made heads value s1 k s2 s3 u n z i y ns hw bs wv out kept)
    where
      from_value : Went valued_of (headed_value heads value) s1 u (Ok (z.heads, y)) → Went definition_of (define file is_entry x heads value) s u (Ok d)
      from_value (went g still) = went (numbered_first s s1 b _ is mk same g ∙ ap (λ z. Ok (definition_of z, made_of u)) (sym eq)) (still ∙ same)
  definition_went s s1 s2 s3 u n _ _ _ _ (numbers {b = b} is mk same _) ns (brought_heads {u = k} {z = z} {w = i} hw bs) wv out kept third_of_three =
      from_stop (value_second heads value s1 k s2 s3 z i _ hw bs wv)
    where
      from_stop : {e : Stop} → Went valued_of (headed_value heads value) s1 s3 (Err e) → Went definition_of (define file is_entry x heads value) s u (Err e)
      from_stop (refused g) = refused (numbered_first s s1 b _ is mk same g)
      from_stop no_memory = no_memory
  definition_went s s1 s2 s3 u n _ _ v _ p ns not_brought_heads wv out kept second_of_three = no_memory
  definition_went s s1 s2 s3 u n _ hs v _ no_number ns h wv out kept first_of_three = no_memory
  definition_went s s1 s2 s3 u n b hs v _ p ns h wv out kept no_memory3 = no_memory

-- ---- what stands outside is as before where the scope is

abbrev Seen : Type 0
Seen = Option (Bor (List Member))

-- a local name is no world
no_world : {A : Type 0} (e : HeldEntry) (w : World) (sc : Scope) → entry_of e ∷ sc ≡ a_world w ∷ [] → A
no_world {A = A} e w sc is = by_kind e.is_type is
  where
    by_kind : (t : Bool) → cond t (a_type e.name.now e.bind) (a_value e.name.now e.bind) ∷ sc ≡ a_world w ∷ [] → A
    by_kind true is = absurd (let z : a_type e.name.now e.bind ∷ sc ≡ a_world w ∷ [] = is in cc)
    by_kind false is = absurd (let z : a_value e.name.now e.bind ∷ sc ≡ a_world w ∷ [] = is in cc)

at_bottom : (hs : List HeldEntry) (o : Seen) (cs : List Contents) (w : World) → entries_of hs ++ bottom o cs ≡ a_world w ∷ [] → (entries_of hs ≡ []) × (cs ≡ w.modules)
unfolding world_of
at_bottom [] None cs w is = absurd (let z : ◌≡◌ {A = Scope} [] (a_world w ∷ []) = is in cc)
at_bottom [] (Some ms) cs w is = (refl, ap (λ sc. (world_of sc).modules) is)
at_bottom (h ∷ hs) o cs w is = no_world h w (entries_of hs ++ bottom o cs) is

reversed : (es : List HeldEntry) → entries_of (reverse es) ≡ reverse (entries_of es)
reversed [] = refl
reversed (e ∷ es) = ap entries_of (reverse-append (e ∷ []) es) ∙ map-append entry_of (reverse es) (e ∷ []) ∙ ap (λ l. l ++ entry_of e ∷ []) (reversed es) ∙ sym (reverse-append (entry_of e ∷ []) (entries_of es))

outside_stays : (n : Names) (w : World) → scope_of n ≡ a_world w ∷ [] → (locals_of n ≡ []) × (modules_in n ≡ w.modules)
unfolding scope_of locals_of modules_in
outside_stays n w is =
    let (none, same) = at_bottom (reverse n.scope) n.outside (modules_of n.modules) w (ap (λ sc. sc ++ bottom n.outside (modules_of n.modules)) (reversed n.scope) ∙ is) in
    (sym (reversed n.scope) ∙ none, same)

-- ---- what is declared

module _ (other : Ref) (here : HeldHere) (is_entry : Bool) (x : Text) (hs : List PlainHead) (v : SourceTerm) (d : Declaring) (n1 : Names)
    (seen : scope_of n1 ≡ locals_of d.names ++ a_world (record { names = here.names.now; modules = modules_in d.names }) ∷ []) (kept : made_of n1 ≡ made_of d.names) where
  scope_seen : (s : State) → Stands d s → scope_of n1 ≡ scope_at (here_of here) s
  scope_seen s st = seen ∙ (λ i. st.locals i ++ a_world (record { names = here.names.now; modules = st.modules i }) ∷ [])

  -- what the definition gives where the state stands
  goes : (q : Numbered FlatDefinition) → define here.file is_entry x hs v (scope_of n1) (made_of n1) ≡ q → (s : State) → Stands d s
      → declare other (here_of here) is_entry x hs v s ≡ defined other (here_of here) (scope_at (here_of here) s) hs v s q
  unfolding declare
  goes q is s st = ap (defined other (here_of here) (scope_at (here_of here) s) hs v s) ((λ i. define here.file is_entry x hs v (sym (scope_seen s st) i) (sym (kept ∙ st.made) i)) ∙ is)

  pub not_declared : (n2 : Names) (e : Stop) (d1 : Declaring) → Went definition_of (define here.file is_entry x hs v) n1 n2 (Err e) → Does (λ (r : Ref). r) (declare other (here_of here) is_entry x hs v) d d1 (Err e)
  unfolding defined
  not_declared n2 _ d1 (refused g) = refuses (λ s st. goes _ g s st)
  not_declared n2 _ d1 no_memory = stops

  pub declared_live : (n2 : Names) (f : Definition) (d1 : Declaring) → here.live ≡ true → Went definition_of (define here.file is_entry x hs v) n1 n2 (Ok f) → d1.definitions.items ≡ d.definitions.items ++ f ∷ []
      → d1.names ≡ n2 → d1.functors ≡ d.functors → d1.signatures ≡ d.signatures → d1.applications ≡ d.applications → d1.start ≡ d.start → d1.loaded ≡ d.loaded
      → Does (λ (r : Ref). r) (declare other (here_of here) is_entry x hs v) d d1 (Ok (ref.Bound f.bind))
  unfolding defined
  declared_live n2 f d1 live (went g same) put ns fs gs as' ss ls = does (λ s st.
      let (none, there) = outside_stays n2 (record { names = here.names.now; modules = s.modules }) (same ∙ scope_seen s st) in
      record {
        state = with_instance (made_of n2) (record { scope = scope_at (here_of here) s; heads = hs; value = v; flat = definition_of f }) s;
        is = goes _ g s st ∙ ap (λ l. cond l (Ok (ref.Bound f.bind, with_instance (made_of n2) (record { scope = scope_at (here_of here) s; heads = hs; value = v; flat = definition_of f }) s)) (Ok (other, s))) live;
        stands = record {
          made = ap made_of ns;
          modules = ap modules_in ns ∙ there;
          functors = ap (map functor_of) fs ∙ st.functors;
          signatures = ap (map signature_of) gs ∙ st.signatures;
          definitions = ap (map definition_of) put ∙ map-append definition_of d.definitions.items (f ∷ []) ∙ ap (λ l. l ++ definition_of f ∷ []) st.definitions ∙ sym (map-append (λ (i : Instance). i.flat) s.instances (record { scope = scope_at (here_of here) s; heads = hs; value = v; flat = definition_of f } ∷ []));
          applications = as' ∙ st.applications;
          start = ap (λ b. b.now) ss ∙ st.start;
          loaded = ap (λ l. reverse (map loaded_of l)) ls ∙ st.loaded;
          locals = ap locals_of ns ∙ none;
        };
      })

  -- where names alone are looked at, the numbers are those that there were
  pub declared_bare : (n2 n3 : Names) (f : Definition) (d1 : Declaring) (k : ℕ) → here.live ≡ false → Went definition_of (define here.file is_entry x hs v) n1 n2 (Ok f)
      → k ≡ length (made_of d.names) → made_of n3 ≡ take k (made_of n2) → locals_of n3 ≡ locals_of n2 → modules_in n3 ≡ modules_in n2
      → d1.names ≡ n3 → d1.functors ≡ d.functors → d1.signatures ≡ d.signatures → d1.definitions ≡ d.definitions → d1.applications ≡ d.applications → d1.start ≡ d.start → d1.loaded ≡ d.loaded
      → Does (λ (r : Ref). r) (declare other (here_of here) is_entry x hs v) d d1 (Ok other)
  unfolding defined
  declared_bare n2 n3 f d1 k bare (went g same) many mk lc ms ns fs gs ds as' ss ls = does (λ s st.
      let (none, there) = outside_stays n2 (record { names = here.names.now; modules = s.modules }) (same ∙ scope_seen s st) in
      record {
        state = s;
        is = goes _ g s st ∙ ap (λ l. cond l (Ok (ref.Bound f.bind, with_instance (made_of n2) (record { scope = scope_at (here_of here) s; heads = hs; value = v; flat = definition_of f }) s)) (Ok (other, s))) bare;
        stands = record {
          made = ap made_of ns ∙ mk ∙ (λ i. take ((many ∙ ap length (sym kept)) i) (made_of n2)) ∙ taken (subst (Grows all (made_of n1)) g (definition_grows here.file is_entry x hs v (scope_of n1) (made_of n1))) ∙ kept ∙ st.made;
          modules = ap modules_in ns ∙ ms ∙ there;
          functors = ap (map functor_of) fs ∙ st.functors;
          signatures = ap (map signature_of) gs ∙ st.signatures;
          definitions = ap (λ v. map definition_of v.items) ds ∙ st.definitions;
          applications = as' ∙ st.applications;
          start = ap (λ b. b.now) ss ∙ st.start;
          loaded = ap (λ l. reverse (map loaded_of l)) ls ∙ st.loaded;
          locals = ap locals_of ns ∙ lc ∙ none;
        };
      })
